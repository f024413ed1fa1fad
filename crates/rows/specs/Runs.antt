-- Runs: rows given one after the other while there is room, and how that ends. Over any state; no format is named here.
use Rattle.std.specs.Prelude.{◌≡◌, ℕ, ◌+◌, ◌-◌, ◌*◌, ◌≤◌, cond, List, [], ◌++◌, length, leb, Result, Ok, Err}
use Rattle.std.proofs.lemmas.List.Edits.{sets}
use Rattle.rows.specs.declared.fault.Fault.{Fault}
use Rattle.rows.specs.declared.fault.Fault.TheVariants.{NoRoom}
use Rattle.rows.specs.declared.fault.ReadError.{ReadError}
use Rattle.rows.specs.declared.fault.ReadingNumbers.{ReadingNumbers}
use Rattle.rows.specs.declared.row.Row.{Row}
use Rattle.rows.specs.Fault.{reading_numbers}
use Rattle.rows.specs.Row.{flat, over, room_of}

-- how a run ends: in a state, or by a refusal at a place of the input
pub data Ending (S : Type 0) : Type 0 where
  finished : S → Ending S
  refused : Fault → ℕ → Ending S

-- the rows that are finished, and the ending
pub record Run (S : Type 0) : Type 0 where
  pub rows : List Row
  pub ending : Ending S

-- a run that gives no row
abbrev pub stopped : {S : Type 0} → Ending S → Run S
stopped e = record { rows = []; ending = e }

-- rows, and then a run
abbrev pub prepend : {S : Type 0} → List Row → Run S → Run S
prepend new r = record { rows = new ++ r.rows; ending = r.ending }

-- rows, all or none: where there is room for them, then what `rest` reads in the room that is left; else refusal 2 at the place
abbrev pub give : {S : Type 0} → List Row → ℕ → ℕ → (ℕ → Run S) → Run S
give new place room rest = cond (leb (length new) room) (prepend new (rest (room - length new))) (stopped (refused NoRoom place))

-- a run, and where it finished what `rest` reads from its last state in the room that it left
abbrev pub resume : {S T : Type 0} → List Row → Ending S → ℕ → (S → ℕ → Run T) → Run T
resume rows (finished s) room rest = prepend rows (rest s (room - length rows))
resume rows (refused f place) room rest = record { rows = rows; ending = refused f place }

abbrev pub and_then : {S T : Type 0} → Run S → ℕ → (S → ℕ → Run T) → Run T
and_then r room rest = resume r.rows r.ending room rest

-- a run with another view of its last state
abbrev pub ending_as : {S T : Type 0} → (S → T) → Ending S → Ending T
ending_as f (finished s) = finished (f s)
ending_as f (refused fault place) = refused fault place

abbrev pub run_as : {S T : Type 0} → (S → T) → Run S → Run T
run_as f r = record { rows = r.rows; ending = ending_as f r.ending }

-- a run of what lies from a place of the input on, its places counted from the input's start
abbrev pub ending_from : {S : Type 0} → ℕ → Ending S → Ending S
ending_from at (finished s) = finished s
ending_from at (refused f place) = refused f (at + place)

abbrev pub run_from : {S : Type 0} → ℕ → Run S → Run S
run_from at r = record { rows = r.rows; ending = ending_from at r.ending }

-- a refusal lies in an input of so many bytes, or at its end
abbrev pub EndsWithin : {S : Type 0} → Ending S → ℕ → Type 0
EndsWithin (finished s) bytes = Unit {0}
EndsWithin (refused f place) bytes = place ≤ bytes

-- what a reader answers of an ending after n rows
abbrev pub answer_of : {S : Type 0} → Ending S → ℕ → Result ℕ ReadError
answer_of (finished s) n = Ok n
answer_of (refused f place) n = Err (record { fault = f; rows = n; place = place })

-- a reader's promise: the answer is that of the run, and the buffer holds its rows over what it held
pub record ReadAs {S : Type 0} (run : Run S) (old new : List ℕ) (r : Result ℕ ReadError) : Type 0 where
  pub answer : r ≡ answer_of run.ending (length run.rows)
  pub wrote : new ≡ over (flat run.rows) old

-- the same promise of an answer as numbers
pub record ReadNumbers {S : Type 0} (run : Run S) (old new : List ℕ) (r : ReadingNumbers) : Type 0 where
  pub answer : r ≡ reading_numbers (answer_of run.ending (length run.rows))
  pub wrote : new ≡ over (flat run.rows) old

-- a run that gives just these rows, and finishes
pub record Finishes {S : Type 0} (run : Run S) (rs : List Row) : Type 0 where
  pub state : S
  pub rows : run.rows ≡ rs
  pub ending : run.ending ≡ finished state

-- the promise of a function that reads a part: n₀ rows were in `old` before, n are in `new`, and the run ended so
pub record Did {S : Type 0} (run : Run S) (old : List ℕ) (n₀ : ℕ) (e : Ending S) (n : ℕ) (new : List ℕ) : Type 0 where
  pub ending : run.ending ≡ e
  pub count : n₀ + length run.rows ≡ n
  pub fits : n ≤ room_of old
  pub wrote : new ≡ sets old (n₀ * 10) (flat run.rows)
