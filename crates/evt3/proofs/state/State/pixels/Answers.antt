-- `evt3::state::State::pixels` meets its contract.
use mathlib.Core.Path.{◌∙◌, sym}
use native.Mathlib.Omega.{arith}
use Rattle.evt3.proofs.Columns.{columns_any}
use Rattle.evt3.proofs.Counting.{counted_all, pixels_outside, pixels_full, pixels_given, pixels_none}
use Rattle.evt3.proofs.state.State.pixels.Goals as goal

pub returns-then-bits-eq0 : goal.returns-then-bits-eq0
returns-then-bits-eq0 c = rw c.if-bits-eq0.true (pixels_none _ _ _ _ _ _)

pub returns-in_default : goal.returns-in_default
returns-in_default c = pixels_outside _ _ _ _ _ (sym c.count_pixels.ensures ∙ c.in_default.is)

pub returns-then-room-saturating_add : goal.returns-then-room-saturating_add
returns-then-room-saturating_add c =
    let counted = sym c.count_pixels.ensures ∙ c.in-Some.is in
    let some = columns_any c.args.self.base c.args.bits c.requires (omega (arith, c.if-bits-eq0.false)) in
    pixels_full _ _ _ _ _ counted (omega (arith, some, (counted_all _ _ _ counted).1, c.if-room-saturating_add.true, c.room.ensures, c.saturating_add.ensures))

pub put_pixels-requires : goal.put_pixels-requires
put_pixels-requires c =
    let counted = sym c.count_pixels.ensures ∙ c.in-Some.is in
    omega (arith, (counted_all _ _ _ counted).1, c.if-room-saturating_add.false, c.room.ensures, c.saturating_add.ensures)

pub returns : goal.returns
returns c =
    let counted = sym c.count_pixels.ensures ∙ c.in-Some.is in
    pixels_given _ _ _ _ _ counted (omega (arith, c.if-room-saturating_add.false, c.room.ensures, c.saturating_add.ensures)) c.put_pixels.ensures
