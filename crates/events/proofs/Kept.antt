-- Each law of specs/Promises.antt, proved.
use mathlib.Core.Path.{◌≡◌, refl, sym, ◌∙◌, ap}
use mathlib.Core.Bool.{Bool, true, false}
use lib.Dec.{lit<}
use lib.IntN.{nat_abs}
use lib.Ieee.{binary32}
use lib.Ieee.Fits.{div-fits}
use Rattle.std.specs.Prelude.{Result, Ok, Err}
use Rattle.rows.specs.declared.fault.Fault.{Fault}
use Rattle.rows.specs.declared.fault.Fault.TheVariants.{BadRow}
use Rattle.rows.specs.declared.row.Row.{Row}
use Rattle.rows.specs.declared.rules.Kind.{Kind}
use Rattle.rows.specs.declared.rules.Kind.TheVariants as kind
use Rattle.rows.specs.Row.{time_of}
use Rattle.rows.specs.Rules.{kind_of, good_as, good_row}
use Rattle.rows.proofs.GoodRows.{good_by_kind, other_bad}
use Rattle.events.specs.declared.event.Event.{Event}
use Rattle.events.specs.Readings.{signed_of, acceleration_of, is_negative}
use Rattle.events.specs.Event.{counts_event, singles_event, event_as, event_of, event_time}
use Rattle.events.specs.Promises.{EventRefused, EventTimed, AccelerationExact, AccelerationOnly, AccelerationZero, RotationRounded, SingleBits}
use Rattle.events.proofs.Floats as floats
use Rattle.events.proofs.OneValue.{one_value}

same_event : {d e : Event} → ◌≡◌ {A = Result Event Fault} (Ok d) (Ok e) → d ≡ e
same_event p = cc

-- an event of a kind is never a refusal, but of a kind that no good row has
refused_kind : (k : Kind) (r : Row) → event_as k r ≡ Err BadRow → good_as k r ≡ false
unfolding event_as
refused_kind kind.Pixel r e = cc
refused_kind kind.Trigger r e = cc
refused_kind kind.ImuCounts r e = cc
refused_kind kind.ImuSingles r e = cc
refused_kind kind.Special r e = cc
refused_kind kind.Other r e = other_bad r

pub event_refused : EventRefused
unfolding event_of
event_refused r = (λ g. rw g, λ e. go (good_row r) refl e)
  where
    go : (g : Bool) → good_row r ≡ g → event_of r ≡ Err BadRow → good_row r ≡ false
    go true p e = good_by_kind r ∙ refused_kind (kind_of r.kind) r (rw p at e)
    go false p e = p

timed_kind : (k : Kind) (r : Row) (e : Event) → event_as k r ≡ Ok e → event_time e ≡ time_of r
unfolding event_as counts_event singles_event
timed_kind kind.Pixel r e p = ap event_time (sym (same_event p))
timed_kind kind.Trigger r e p = ap event_time (sym (same_event p))
timed_kind kind.ImuCounts r e p = ap event_time (sym (same_event p))
timed_kind kind.ImuSingles r e p = ap event_time (sym (same_event p))
timed_kind kind.Special r e p = ap event_time (sym (same_event p))
timed_kind kind.Other r e p = cc

pub event_timed : EventTimed
unfolding event_of
event_timed r e p = go (good_row r) refl
  where
    go : (g : Bool) → good_row r ≡ g → event_time e ≡ time_of r
    go true q = timed_kind (kind_of r.kind) r e (rw q at p)
    go false q = let z = rw q at p in cc

pub acceleration_exact : AccelerationExact
acceleration_exact = floats.acceleration_exact

pub acceleration_only : AccelerationOnly
unfolding acceleration_of
acceleration_only c h x f v =
    one_value x (acceleration_of c) (is_negative (signed_of c)) (nat_abs (signed_of c)) 16384 (lit< tt) f (div-fits binary32 _ _) v (floats.acceleration_exact c h)

pub acceleration_zero : AccelerationZero
acceleration_zero = floats.acceleration_zero

pub rotation_rounded : RotationRounded
rotation_rounded = floats.rotation_rounded

pub single_bits : SingleBits
single_bits = floats.single_bits
