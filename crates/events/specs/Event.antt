-- The event that a row stands for. 01, "Rows" and "Forms we want to see".
use Rattle.std.specs.Prelude.{ℕ, cond, List, [], ◌∷◌, length, replicate, eqb, Result, Ok, Err, Float}
use Rattle.std.specs.Float.{binary32}
use Rattle.std.specs.Float.Ieee.{of_bits}
use Rattle.rows.specs.declared.fault.Fault.{Fault}
use Rattle.rows.specs.declared.fault.Fault.TheVariants.{BadRow, BadList}
use Rattle.rows.specs.declared.row.Row.{Row}
use Rattle.rows.specs.declared.rules.Kind.{Kind}
use Rattle.rows.specs.declared.rules.Kind.TheVariants as kind
use Rattle.rows.specs.Fault.{number_of}
use Rattle.rows.specs.Row.{time_of, row_from}
use Rattle.rows.specs.Rules.{kind_of, good_row}
use Rattle.events.specs.declared.event.Event.{Event}
use Rattle.events.specs.declared.event.Event.TheVariants.{Pixel, Trigger, ImuCounts, ImuSingles, Special}
use Rattle.events.specs.declared.event.EventNumbers.{EventNumbers}
use Rattle.events.specs.Readings.{acceleration_of, rotation_of, single_of}

-- a row's seven data numbers
abbrev pub values_of : Row → List ℕ
values_of r = r.a ∷ r.b ∷ r.c ∷ r.d ∷ r.e ∷ r.f ∷ r.g ∷ []

-- kind 3: accelerations and rotations of the six counts
unfoldable pub counts_event : Row → Event
counts_event r =
    ImuCounts (time_of r) (acceleration_of r.a) (acceleration_of r.b) (acceleration_of r.c) (rotation_of r.d) (rotation_of r.e) (rotation_of r.f)

-- kind 4: the singles of the seven patterns, and beside them the patterns, so that no bit is lost
unfoldable pub singles_event : Row → Event
singles_event r =
    ImuSingles (time_of r) (single_of r.a) (single_of r.b) (single_of r.c) (single_of r.d) (single_of r.e) (single_of r.f) (single_of r.g)
    (values_of r)

-- a good row's event is one of its own kind
unfoldable pub event_as : Kind → Row → Result Event Fault
event_as kind.Pixel r = Ok (Pixel (time_of r) r.a r.b r.c r.d)
event_as kind.Trigger r = Ok (Trigger (time_of r) r.a r.b)
event_as kind.ImuCounts r = Ok (counts_event r)
event_as kind.ImuSingles r = Ok (singles_event r)
event_as kind.Special r = Ok (Special (time_of r) r.a r.b)
event_as kind.Other r = Err BadRow

-- the event of a good row; any other row is refused 12
unfoldable pub event_of : Row → Result Event Fault
event_of r = cond (good_row r) (event_as (kind_of r.kind) r) (Err BadRow)

-- every event carries its row's time
abbrev pub event_time : Event → ℕ
event_time (Pixel t x y p camera) = t
event_time (Trigger t c e) = t
event_time (ImuCounts t ax ay az rx ry rz) = t
event_time (ImuSingles t ax ay az rx ry rz k p) = t
event_time (Special t c n) = t

-- a reading that there is not
abbrev pub plus_zero : Float
plus_zero = of_bits binary32 0

-- seven readings, +0 where the kind has none
abbrev pub readings_of : Event → List Float
readings_of (Pixel t x y p camera) = replicate 7 plus_zero
readings_of (Trigger t c e) = replicate 7 plus_zero
readings_of (ImuCounts t ax ay az rx ry rz) = ax ∷ ay ∷ az ∷ rx ∷ ry ∷ rz ∷ plus_zero ∷ []
readings_of (ImuSingles t ax ay az rx ry rz k p) = ax ∷ ay ∷ az ∷ rx ∷ ry ∷ rz ∷ k ∷ []
readings_of (Special t c n) = replicate 7 plus_zero

-- an event as numbers: refusal 0, the row's kind, time and seven data numbers, and the readings; refused: the number, and else zeros
abbrev pub refused_numbers : Fault → EventNumbers
refused_numbers f = record { refusal = number_of f; kind = 0; time = 0; values = replicate 7 0; readings = replicate 7 plus_zero }

abbrev pub shown_as : Result Event Fault → Row → EventNumbers
shown_as (Ok e) r =
    record { refusal = 0; kind = r.kind; time = time_of r; values = values_of r; readings = readings_of e }
shown_as (Err f) r = refused_numbers f

unfoldable pub row_numbers : Row → EventNumbers
row_numbers r = shown_as (event_of r) r

-- of other than ten numbers: 13
unfoldable pub event_numbers : List ℕ → EventNumbers
event_numbers l = cond (eqb (length l) 10) (row_numbers (row_from l 0)) (refused_numbers BadList)
