-- What a word of pulses does.
use Rattle.std.specs.Prelude.{ℕ, Bool, true, false, cond, Option, Some, None, [], ◌∷◌, eqb}
use Rattle.rows.specs.declared.fault.Fault.TheVariants as refusal
use Rattle.rows.specs.declared.row.Row.{Row}
use Rattle.rows.specs.Row.{trigger_row}
use Rattle.words.specs.Fields.{field}
use Rattle.words.specs.Machine.{Outcome, Given, gives, refuses, onto}
use Rattle.pulses.specs.declared.kind.Kind.{Kind}
use Rattle.pulses.specs.declared.kind.Kind.TheVariants.{Time, Edge, Late, Reserved, Second, Stray}
use Rattle.pulses.specs.declared.state.State.{State}
use Rattle.pulses.specs.declared.state.Late as late

-- before the first word
abbrev pub fresh : State
fresh = record { time = 0; late = None }

abbrev pub with_late : State → (place word : ℕ) → State
with_late s place word = record { time = s.time; late = Some (record { place = place; word = word }) }

abbrev pub with_time : ℕ → State
with_time w = record { time = field 0 14 w; late = None }

-- the kind of a word by its top two bits, outside a late edge and inside one
abbrev pub kind_of_top : ℕ → Kind
kind_of_top top =
    cond (eqb top 0) Time
    (cond (eqb top 1) Edge
    (cond (eqb top 2) Late
    Reserved))

unfoldable pub kind_outside : ℕ → Kind
kind_outside w = kind_of_top (field 14 2 w)

unfoldable pub kind_within : ℕ → Kind
kind_within w = cond (eqb (field 14 2 w) 2) Second Stray

abbrev pub is_late : Option late.Late → Bool
is_late (Some l) = true
is_late None = false

abbrev pub kind_in : State → ℕ → Kind
kind_in s w = cond (is_late s.late) (kind_within w) (kind_outside w)

-- the edge that a word says, at a time
abbrev pub edge_of : (time w : ℕ) → Row
edge_of time w = trigger_row time (field 1 5 w) (field 0 1 w)

-- that of a late edge in hand, whose second word is given
abbrev pub late_of : Option late.Late → ℕ → Given
late_of (Some l) w = gives (edge_of (field 0 14 w) l.word ∷ [])
late_of None w = gives []

-- what a word of each kind gives
abbrev pub given_as : Kind → State → ℕ → Given
given_as Time s w = gives []
given_as Edge s w = gives (edge_of s.time w ∷ [])
given_as Late s w = gives []
given_as Reserved s w = refuses refusal.Reserved
given_as Second s w = late_of s.late w
given_as Stray s w = refuses refusal.Stray

-- and the state that it leads to
abbrev pub next_as : Kind → State → (place w : ℕ) → State
next_as Time s place w = with_time w
next_as Edge s place w = s
next_as Late s place w = with_late s place w
next_as Reserved s place w = s
next_as Second s place w = with_time w
next_as Stray s place w = s

-- what a word does
abbrev pub step : State → (place w : ℕ) → Outcome State
step s place w = onto (given_as (kind_in s w) s w) (next_as (kind_in s w) s place w)
