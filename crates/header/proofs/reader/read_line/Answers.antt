-- `header::reader::read_line` meets its contract.
use Rattle.std.proofs.Common.{◌≡◌, refl, sym, ◌∙◌, arith, rules, Err, ◌≤◌, ◌<◌, length}
use Rattle.header.specs.Header.{line_step, step_of}
use Rattle.header.proofs.LineEnds.{line_in}
use Rattle.header.proofs.Sides.{line_says, judged_bad, judged_good}
use Rattle.header.proofs.reader.read_line.Goals as goal
use Rattle.header.proofs.reader.read_line.Goals.{After-line_end, In_ok-end}

pub returns-then-not-is_line : goal.returns-then-not-is_line
unfolding step_of
returns-then-not-is_line c = rw (sym c.is_line.ensures, c.if-not-is_line.true) refl

-- what is known once the end was sought
line : (c : After-line_end) → line_step c.line_end.result c.args.limit c.args.bytes.now c.args.sides ≡ step_of c.args.limit c.args.bytes.now c.args.sides
line c = line_says c.args.limit c.args.bytes.now c.args.sides c.is_line.ensures c.if-not-is_line.false c.line_end.ensures

pub returns-in_err-end : goal.returns-in_err-end
returns-in_err-end c =
    let r : c.from_residual.result ≡ Err c.in_err-end.field-0.0 = search rules in
    rw (sym (line (goal.at.returns-in_err-end c).After-line_end), c.in_err-end.was) r

-- the newline lies in the bytes, after the two that a line starts with
in_bytes : (c : In_ok-end) → (2 ≤ c.in_ok-end.end) × (c.in_ok-end.end < length c.args.bytes.now)
in_bytes c = line_in c.args.bytes.now (sym c.is_line.ensures ∙ c.if-not-is_line.false) (sym c.line_end.ensures ∙ c.in_ok-end.was)

pub slice_bounds-judge-count : goal.slice_bounds-judge-count
slice_bounds-judge-count c = omega (arith, in_bytes c)

pub slice_bounds-judge-start : goal.slice_bounds-judge-start
slice_bounds-judge-start c = omega (arith, in_bytes (goal.at.slice_bounds-judge-start c).In_ok-end)

pub slice_bounds-judge-end : goal.slice_bounds-judge-end
slice_bounds-judge-end c = omega (arith, in_bytes (goal.at.slice_bounds-judge-end c).In_ok-end)

pub returns-in_err-sides : goal.returns-in_err-sides
returns-in_err-sides c =
    let r : c.from_residual-in_err-sides.result ≡ Err c.in_err-sides.field-0.0 = search rules in
    rw (sym (line (goal.at.returns-in_err-sides c).After-line_end), c.in_ok-end.was, sym c.judge.ensures)
    (r ∙ judged_bad c.in_ok-end.end c.judge.result (sym c.ok_or.ensures.value ∙ c.in_err-sides.was))

pub returns : goal.returns
returns c =
    rw (sym (line (goal.at.returns c).After-line_end), c.in_ok-end.was, sym c.judge.ensures)
    (judged_good c.in_ok-end.end c.judge.result (sym c.ok_or.ensures.value ∙ c.in_ok-sides.was))
