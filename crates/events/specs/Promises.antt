-- The laws of this crate, each proved in proofs/Kept.antt under the name in lower case.
use Rattle.std.specs.Prelude.{◌≡◌, ℕ, ◌%◌, ◌≤◌, ◌<◌, true, false, T, Ok, Err, pos, nat_abs, Float}
use Rattle.std.specs.Float.{fin, binary32}
use Rattle.std.specs.Float.Ieee.{fits, to_bits, round}
use Rattle.rows.specs.declared.fault.Fault.TheVariants.{BadRow}
use Rattle.rows.specs.declared.row.Row.{Row}
use Rattle.rows.specs.Row.{time_of}
use Rattle.rows.specs.Rules.{good_row}
use Rattle.events.specs.declared.event.Event.{Event}
use Rattle.events.specs.Readings.{signed_of, acceleration_of, rotation_of, single_of, is_negative, Times}
use Rattle.events.specs.Event.{event_of, event_time}

-- 01, "Rows": a row is refused 12 exactly where it is not good
abbrev pub EventRefused : Type 0
EventRefused = (r : Row) → ((good_row r ≡ false) → event_of r ≡ Err BadRow) × ((event_of r ≡ Err BadRow) → good_row r ≡ false)

-- an event carries the time of its row
abbrev pub EventTimed : Type 0
EventTimed = (r : Row) (e : Event) → event_of r ≡ Ok e → event_time e ≡ time_of r

-- 01, "Rows": an acceleration times 16,384 is exactly the signed count
abbrev pub AccelerationExact : Type 0
AccelerationExact = (c : ℕ) → c < 65536 → Times (acceleration_of c) 16384 (signed_of c)

-- and it is the only single of that value
abbrev pub AccelerationOnly : Type 0
AccelerationOnly = (c : ℕ) → c < 65536 → (x : Float) → T (fits binary32 x) → Times x 16384 (signed_of c) → x ≡ acceleration_of c

-- and +0 for a count of 0
abbrev pub AccelerationZero : Type 0
AccelerationZero = acceleration_of 0 ≡ fin false 0 (pos 0)

-- 01, "Rows": a rotation is the single nearest to the signed count over 131, rounded once
abbrev pub RotationRounded : Type 0
RotationRounded = (c : ℕ) → c < 65536 → rotation_of c ≡ round binary32 (is_negative (signed_of c)) (nat_abs (signed_of c)) 131

-- 01, "Rows": kind 4 keeps its bits. (A NaN's stand beside it in the event.)
abbrev pub SingleBits : Type 0
SingleBits = (n : ℕ) → n < 4294967296 → n % 2147483648 ≤ 2139095040 → to_bits binary32 (single_of n) ≡ n
