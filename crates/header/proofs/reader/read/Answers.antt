-- `header::reader::read` meets its contract.
use Rattle.std.proofs.Common.{◌≡◌, sym, ◌∙◌, arith, rules, Ok, Err, Some, None}
use Rattle.header.specs.Sides.{unsaid}
use Rattle.header.proofs.LineRules.{line_then}
use Rattle.header.proofs.Lines.{header_start, header_long, good_line_in, good_line_read}
use Rattle.header.proofs.reader.read.Goals as goal
use Rattle.header.proofs.reader.read.Goals.{In-Some}

pub returns-then-bytes-gt1073741824 : goal.returns-then-bytes-gt1073741824
returns-then-bytes-gt1073741824 c = header_long _ _ c.if-bytes-gt1073741824.true

pub loop-line-init : goal.loop-line-init
loop-line-init c = let e : c.default-sides.result ≡ unsaid = search rules in rw e (header_start c.if-bytes-gt1073741824.false)

pub returns-in_err-line : goal.returns-in_err-line
returns-in_err-line c =
    let e : c.read_line.result ≡ Err c.in_err-line.field-0.0.fault = search rules in
    let r : c.from_residual.result ≡ Err (record { fault = c.in_err-line.field-0.0.fault; place = c.loop-line.at }) = search rules in
    r ∙ sym (line_then c.loop-line.invariant c.read_line.ensures e)

said : (c : In-Some) → c.read_line.result ≡ Ok (Some c.in-Some.line)
said c = search rules

pub overflow_add-at : goal.overflow_add-at
overflow_add-at c =
    omega (arith, good_line_in c.loop-line.invariant c.read_line.ensures (said (goal.at.overflow_add-at c).In-Some), c.loop-line.invariant.within)

pub loop-line-smaller : goal.loop-line-smaller
loop-line-smaller c =
    omega (arith, good_line_in c.loop-line.invariant c.read_line.ensures (said (goal.at.loop-line-smaller c).In-Some), c.loop-line.invariant.within)

pub loop-line-preserved : goal.loop-line-preserved
loop-line-preserved c = good_line_read c.loop-line.invariant c.read_line.ensures (said (goal.at.loop-line-preserved c).In-Some)

pub returns : goal.returns
returns c =
    let e : c.read_line.result ≡ Ok None = search rules in
    rw (c.unwrap_or.ensures, c.unwrap_or-2.ensures) (sym (line_then c.loop-line.invariant c.read_line.ensures e))
