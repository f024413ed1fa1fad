-- `evt3::state::State::put_pixels` meets its contract.
use Rattle.evt3.proofs.Storing.{storing_none, storing_some, storing_ends, storing_over}
use Rattle.evt3.proofs.state.State.put_pixels.Goals as goal
use Rattle.evt3.proofs.state.State.put_pixels.Goals.{then-left-eq1, else-left-eq1}

pub loop-x-preserved : goal.loop-x-preserved
loop-x-preserved c =
    let i = c.loop-x.invariant in
    let t = c.loop-x-test.true in
    elim c.if-left-eq1.branch [
      | then-left-eq1 w ↦ storing_some i t w.if-left-eq1.true w.camera_pixel.ensures w.put.ensures w.rows-is w.to-is
      | else-left-eq1 w ↦ storing_none i t w.if-left-eq1.false w.rows-is w.to-is
    ]

pub returns-then-left-eq0 : goal.returns-then-left-eq0
returns-then-left-eq0 c = storing_over c.loop-x.invariant c.if-left-eq0.true

pub returns-after-loop-x : goal.returns-after-loop-x
returns-after-loop-x c = storing_ends c.loop-x.invariant c.loop-x-test.false
