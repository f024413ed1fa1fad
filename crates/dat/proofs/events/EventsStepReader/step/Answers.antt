-- `dat::events::Events::step` meets its contract.
use Rattle.std.proofs.lemmas.Result.{err_from_is_err_and}
use Rattle.words.proofs.Wrote.{step_stops, step_moves}
use Rattle.dat.specs.Words.{step}
use Rattle.dat.proofs.events.EventsStepReader.step.Goals as goal

pub returns-in_err-count : goal.returns-in_err-count
unfolding step
returns-in_err-count c =
    let e = err_from_is_err_and c.from_residual.result c.from_residual.ensures.1 in
    rw (e.1, e.2) (step_stops _ _ _ c.in_err-count.ensures)

pub returns : goal.returns
unfolding step
returns c = rw c.event.ensures (step_moves _ _ _ c.in_ok-count.ensures)
