-- Writers: what a verdict on a list and its bytes make of a lent buffer. Over any format; none is named here. 01, "Refusal numbers".
use Rattle.std.specs.Prelude.{◌≡◌, ℕ, cond, List, leb, Result}
use Rattle.rows.specs.declared.fault.Fault.{Fault}
use Rattle.rows.specs.declared.fault.Fault.TheVariants.{NoRoom}
use Rattle.rows.specs.declared.fault.WriteError.{WriteError}
use Rattle.rows.specs.declared.fault.WritingNumbers.{WritingNumbers}
use Rattle.rows.specs.declared.row.Row.{Row}
use Rattle.rows.specs.Fault.{writing_numbers}
use Rattle.rows.specs.Rules.{Verdict, accepted, refused}
use Rattle.words.specs.Writer.{then_judged, writing_of, written_over}
use Rattle.summary.specs.Verdicts.{verdict_on}

-- 2 where a buffer has fewer bytes than are needed
abbrev pub room_for : ℕ → ℕ → Verdict
room_for needed bytes = cond (leb needed bytes) accepted (refused NoRoom 0)

-- the list is judged first, its length and then its rows, and the room for its bytes last
unfoldable pub verdict_in : (Row → ℕ → Result ℕ Fault) → List ℕ → ℕ → ℕ → Verdict
verdict_in judged l needed bytes = then_judged (verdict_on judged l) (room_for needed bytes)

-- a writer's promise, by the verdict on the list and the room, the number that is answered, and the bytes
pub record WroteBytes (v : Verdict) (count : ℕ) (bytes old new : List ℕ) (r : Result ℕ WriteError) : Type 0 where
  pub answer : r ≡ writing_of v count
  pub wrote : new ≡ written_over v bytes old

-- the same promise of an answer as numbers
pub record WroteBytesNumbers (v : Verdict) (count : ℕ) (bytes old new : List ℕ) (r : WritingNumbers) : Type 0 where
  pub answer : r ≡ writing_numbers (writing_of v count)
  pub wrote : new ≡ written_over v bytes old
