-- `evt3::state::State::put_pixels` meets its contract.
use Rattle.evt3.proofs.Storing.{Storing}
use Rattle.evt3.proofs.state.State.put_pixels.Given as goal

abbrev pub invariant-loop-x : goal.invariant-loop-x
invariant-loop-x l = Storing l.fn.self l.polarity l.base l.bits l.initial.to l.initial.rows l.x l.left l.to l.rows
