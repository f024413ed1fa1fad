-- The reader of pulses: what any bytes give.
use Rattle.std.specs.Prelude.{ℕ, Option, Some, None, List}
use Rattle.rows.specs.Runs.{Run}
use Rattle.words.specs.Machine.{Machine, Reached, read_from}
use Rattle.pulses.specs.declared.state.State.{State}
use Rattle.pulses.specs.declared.state.Late as late
use Rattle.pulses.specs.Words.{fresh, is_late, step}

-- where a late edge in hand begins, and else the word at a place
abbrev pub begins_at : Option late.Late → ℕ → ℕ
begins_at (Some l) at = l.place
begins_at None at = at

-- words of two bytes
abbrev pub machine : Machine State
machine = record { size = 2; step = λ s place w. step s place w; origin = λ s at. begins_at s.late at; pending = λ s. is_late s.late }

abbrev pub reading_of : List ℕ → ℕ → Run (Reached State)
reading_of bytes room = read_from machine bytes fresh 0 room
