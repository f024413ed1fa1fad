-- `aedat::lines::read_line` meets its contract.
use Rattle.aedat.proofs.HeaderLines.{line_in, step_unended, step_bare, step_returned}
use Rattle.std.proofs.Common.{rules, ◌≡◌, ◌∙◌, sym, ◌<◌, ◌-◌, length, take, drop, [], ◌∷◌, eqb, true, false, Err, length-take-le}
use Rattle.std.specs.Cmp.Lexicographic.{pointwise}
use Rattle.rows.specs.declared.fault.Fault.TheVariants.{BadHeader}
use native.Mathlib.Omega.{arith}
use Rattle.aedat.proofs.lines.read_line.Goals as goal
use Rattle.aedat.proofs.lines.read_line.Goals.{In_ok-end, After-from_residual-in_err-text, In_ok-text}

-- the newline lies in the bytes
ends : (d : In_ok-end) → d.in_ok-end.end < length d.args.bytes.now
ends d = line_in d.args.bytes.now d.line_end.ensures (d.in_ok-end.was {u = tt})

-- no CR stands before it, or one does, and the text before that
bare : (d : After-from_residual-in_err-text)
    → (pointwise eqb (drop (length (take d.in_ok-end.end d.args.bytes.now) - 1) (take d.in_ok-end.end d.args.bytes.now)) (13 ∷ []) ≡ false)
    × (d.from_residual-in_err-text.result ≡ Err BadHeader)
bare d = search rules

returned : (d : In_ok-text)
    → (pointwise eqb (drop (length (take d.in_ok-end.end d.args.bytes.now) - 1) (take d.in_ok-end.end d.args.bytes.now)) (13 ∷ []) ≡ true)
    × (d.in_ok-text.text.now ≡ take (length (take d.in_ok-end.end d.args.bytes.now) - 1) (take d.in_ok-end.end d.args.bytes.now))
returned d = search rules

pub returns-in_err-end : goal.returns-in_err-end
returns-in_err-end c =
    let q : c.from_residual.result ≡ Err c.in_err-end.field-0.0 = search rules in
    q ∙ step_unended _ _ c.line_end.ensures (c.in_err-end.was {u = tt})

pub slice_bounds-strip_suffix-end : goal.slice_bounds-strip_suffix-end
slice_bounds-strip_suffix-end c = sym (length-take-le _ _ (omega (arith, ends c)))

pub returns-in_err-text : goal.returns-in_err-text
returns-in_err-text c =
    let b = bare (goal.at.returns-in_err-text c).After-from_residual-in_err-text in
    b.1 ∙ step_bare _ _ c.line_end.ensures (c.in_ok-end.was {u = tt}) b.0

pub overflow_add-result : goal.overflow_add-result
overflow_add-result c = omega (arith, ends (goal.at.overflow_add-result c).In_ok-end)

pub returns-in_err-judge : goal.returns-in_err-judge
returns-in_err-judge c =
    let q : c.from_residual-in_err-judge.result ≡ Err c.in_err-judge.field-0.0 = search rules in
    let r = returned (goal.at.returns-in_err-judge c).In_ok-text in
    q ∙ step_returned _ _ c.line_end.ensures (c.in_ok-end.was {u = tt}) r.0 r.1 (sym (c.in_err-judge.was {u = tt}) ∙ c.judge.ensures)

pub returns : goal.returns
returns c =
    let r = returned (goal.at.returns c).In_ok-text in
    step_returned _ _ c.line_end.ensures (c.in_ok-end.was {u = tt}) r.0 r.1 (sym (c.in_ok-judge.was {u = tt}) ∙ c.judge.ensures)
