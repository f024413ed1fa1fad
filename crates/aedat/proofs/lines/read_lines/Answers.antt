-- `aedat::lines::read_lines` meets its contract.
use Rattle.aedat.proofs.HeaderLines.{lines_start, line_refused, good_line_in, last_line_read, good_line_read}
use native.Mathlib.Omega.{arith}
use Rattle.std.proofs.Common.{rules, ◌≡◌, sym, ◌∙◌, Ok, Err, None}
use Rattle.rows.specs.declared.fault.Fault.{Fault}
use Rattle.aedat.proofs.lines.read_lines.Goals as goal
use Rattle.aedat.proofs.lines.read_lines.Goals.{In_ok-line, After-from_residual}

-- a good line was read
good : (d : In_ok-line) → d.read_line.result ≡ Ok d.in_ok-line.line
good d = search rules

-- or refused
refused : (d : After-from_residual) → (f : Fault) × (d.read_line.result ≡ Err f) × (d.from_residual.result ≡ Err (record { fault = f; place = d.loop-line.at }))
refused d = search rules

pub loop-line-init : goal.loop-line-init
loop-line-init c = lines_start _

pub returns-in_err-line : goal.returns-in_err-line
returns-in_err-line c =
    let bad = refused (goal.at.returns-in_err-line c).After-from_residual in
    bad.2 ∙ sym (line_refused c.loop-line.invariant c.read_line.ensures bad.1)

pub overflow_add-at : goal.overflow_add-at
overflow_add-at c =
    omega (arith, good_line_in c.loop-line.invariant c.read_line.ensures (good (goal.at.overflow_add-at c).In_ok-line), c.loop-line.invariant.within)

pub returns-in_default : goal.returns-in_default
returns-in_default c =
    let last : c.in_ok-line.line.next ≡ None = search rules in
    sym (last_line_read c.loop-line.invariant c.read_line.ensures (good (goal.at.returns-in_default c).In_ok-line) last)

pub loop-line-smaller : goal.loop-line-smaller
loop-line-smaller c =
    omega (arith, good_line_in c.loop-line.invariant c.read_line.ensures (good (goal.at.loop-line-smaller c).In_ok-line), c.loop-line.invariant.within)

pub loop-line-preserved : goal.loop-line-preserved
loop-line-preserved c =
    good_line_read c.loop-line.invariant c.read_line.ensures (good (goal.at.loop-line-preserved c).In_ok-line) c.in-Some.is
