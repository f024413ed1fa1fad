-- `evt3::state::State::count_pixels` meets its contract.
use Rattle.evt3.proofs.Counting.{PixelCounting}
use Rattle.evt3.proofs.state.State.count_pixels.Given as goal

abbrev pub invariant-loop-x : goal.invariant-loop-x
invariant-loop-x l = PixelCounting l.picture l.y l.base l.bits l.x l.left l.count
