-- `words::reader::read_steps` meets its contract.
use mathlib.Core.Path.{sym, ◌∙◌, ap}
use native.Mathlib.Omega.{arith}
use Rattle.std.specs.Prelude.{Some, Ok, Err}
use Rattle.words.proofs.Between.{between_start}
use Rattle.words.proofs.Stepped.{done_whole, done_pending, done_part, step_within, step_moved, step_ticked, step_stayed, step_full, step_refused}
use Rattle.words.proofs.reader.read_steps.Goals as goal

pub loop-front-init : goal.loop-front-init
loop-front-init g c = rw (c.fresh-state.ensures, c.min-at.ensures) (between_start _ _ _ _ _ (omega arith))

pub returns-in-Err : goal.returns-in-Err
returns-in-Err g c = done_part c.loop-front.invariant (g.met.R.StepReader.sized _) c.first.ensures (c.in-Some.is ∙ ap Some c.in-Err.is) c.origin.ensures

pub returns-in-Err-Full : goal.returns-in-Err-Full
returns-in-Err-Full g c =
    step_full c.loop-front.invariant (g.met.R.StepReader.sized _) c.first.ensures g.met.R.Word.Word.some (c.in-Some.is ∙ ap Some c.in-Ok.is) c.step.ensures
    (c.in-Err-Full.is ∙ ap Err c.in-Err-Full.field-0-is) c.origin-in-Err-Full.ensures

pub returns-in-Err-Refused : goal.returns-in-Err-Refused
returns-in-Err-Refused g c =
    rw c.in-Err-Refused.fault-is
    (step_refused c.loop-front.invariant (g.met.R.StepReader.sized _) c.first.ensures g.met.R.Word.Word.some (c.in-Some.is ∙ ap Some c.in-Ok.is) c.step.ensures
    (c.in-Err-Refused.is ∙ ap Err c.in-Err-Refused.field-0-is))

pub loop-front-smaller : goal.loop-front-smaller
loop-front-smaller g c =
    let within = step_within c.loop-front.invariant (g.met.R.StepReader.sized _) c.first.ensures g.met.R.Word.Word.some (c.in-Some.is ∙ ap Some c.in-Ok.is) c.step.ensures in
    omega (arith, within, g.met.R.Word.Word.some, c.SIZE-at.ensures)

pub loop-front-preserved : goal.loop-front-preserved
loop-front-preserved g c =
    rw c.in-Ok-Stays.count-is
    (step_stayed c.loop-front.invariant (g.met.R.StepReader.sized _) c.first.ensures g.met.R.Word.Word.some (c.in-Some.is ∙ ap Some c.in-Ok.is) c.step.ensures
    (c.in-Ok-Stays.is ∙ ap Ok c.in-Ok-Stays.field-0-is) c.SIZE-at.ensures)

pub loop-front-smaller-in-Ok-Moves : goal.loop-front-smaller-in-Ok-Moves
loop-front-smaller-in-Ok-Moves g c =
    let within = step_within c.loop-front.invariant (g.met.R.StepReader.sized _) c.first.ensures g.met.R.Word.Word.some (c.in-Some.is ∙ ap Some c.in-Ok.is) c.step.ensures in
    omega (arith, within, g.met.R.Word.Word.some, c.SIZE-at-in-Ok-Moves.ensures)

pub loop-front-preserved-in-Ok-Moves : goal.loop-front-preserved-in-Ok-Moves
loop-front-preserved-in-Ok-Moves g c =
    rw c.in-Ok-Moves.count-is
    (step_moved c.loop-front.invariant (g.met.R.StepReader.sized _) c.first.ensures g.met.R.Word.Word.some (c.in-Some.is ∙ ap Some c.in-Ok.is) c.step.ensures
    (c.in-Ok-Moves.is ∙ ap Ok c.in-Ok-Moves.field-0-is) c.SIZE-at-in-Ok-Moves.ensures)

pub loop-front-smaller-in-Ok-Ticks : goal.loop-front-smaller-in-Ok-Ticks
loop-front-smaller-in-Ok-Ticks g c =
    let within = step_within c.loop-front.invariant (g.met.R.StepReader.sized _) c.first.ensures g.met.R.Word.Word.some (c.in-Some.is ∙ ap Some c.in-Ok.is) c.step.ensures in
    omega (arith, within, g.met.R.Word.Word.some, c.SIZE-at-in-Ok-Ticks.ensures)

pub loop-front-preserved-in-Ok-Ticks : goal.loop-front-preserved-in-Ok-Ticks
loop-front-preserved-in-Ok-Ticks g c =
    rw c.in-Ok-Ticks.count-is
    (step_ticked c.loop-front.invariant (g.met.R.StepReader.sized _) c.first.ensures g.met.R.Word.Word.some (c.in-Some.is ∙ ap Some c.in-Ok.is) c.step.ensures
    (c.in-Ok-Ticks.is ∙ ap Ok c.in-Ok-Ticks.field-0-is) c.SIZE-at-in-Ok-Ticks.ensures)

pub returns-then-is_pending : goal.returns-then-is_pending
returns-then-is_pending g c =
    done_pending c.loop-front.invariant (g.met.R.StepReader.sized _) c.first.ensures c.in_default.is (sym c.is_pending.ensures ∙ c.if-is_pending.true) c.origin-then-is_pending.ensures

pub returns : goal.returns
returns g c = done_whole c.loop-front.invariant (g.met.R.StepReader.sized _) c.first.ensures c.in_default.is (sym c.is_pending.ensures ∙ c.if-is_pending.false)
