-- `evt3::state::State::count_pixels` meets its contract.
use mathlib.Core.Path.{sym, ◌∙◌}
use Rattle.evt3.proofs.Counting.{pixel_counting_start, pixel_counting_none}
use Rattle.evt3.proofs.Counting.{pixel_counting_in, pixel_counting_out, pixel_counting_ends, pixel_counting_over}
use Rattle.evt3.proofs.state.State.count_pixels.Goals as goal
use Rattle.evt3.proofs.state.State.count_pixels.Goals.{then-left-eq1+else-not-holds, else-left-eq1}

pub loop-x-init : goal.loop-x-init
loop-x-init c = pixel_counting_start _ _ _ _

pub returns-then-not-holds : goal.returns-then-not-holds
returns-then-not-holds c =
    pixel_counting_out c.loop-x.invariant c.loop-x-test.true c.if-left-eq1.true (sym c.holds.ensures ∙ c.if-not-holds.true)

pub loop-x-preserved : goal.loop-x-preserved
loop-x-preserved c =
    let i = c.loop-x.invariant in
    let t = c.loop-x-test.true in
    elim c.if-left-eq1.branch [
      | then-left-eq1+else-not-holds w ↦ pixel_counting_in i t w.if-left-eq1.true (sym w.holds.ensures ∙ w.if-not-holds.false) w.count-is
      | else-left-eq1 w ↦ pixel_counting_none i t w.if-left-eq1.false w.count-is
    ]

pub returns-then-left-eq0 : goal.returns-then-left-eq0
returns-then-left-eq0 c = pixel_counting_over c.loop-x.invariant c.if-left-eq0.true

pub returns-after-loop-x : goal.returns-after-loop-x
returns-after-loop-x c = pixel_counting_ends c.loop-x.invariant c.loop-x-test.false
