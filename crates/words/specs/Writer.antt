-- Writers of words, over any format: what a list of rows is written as, and what is refused. 01, "Refusal numbers" and "Spelling".
use Rattle.std.specs.Prelude.{◌≡◌, ℕ, ◌+◌, ◌*◌, ◌≤◌, ◌<◌, Bool, cond, List, [], ◌∷◌, ◌++◌, length, leb, Result, Ok, Err}
use Rattle.std.proofs.lemmas.List.Edits.{sets}
use Rattle.rows.specs.declared.fault.Fault.TheVariants.{NoRoom}
use Rattle.rows.specs.declared.fault.WriteError.{WriteError}
use Rattle.rows.specs.declared.fault.WritingNumbers.{WritingNumbers}
use Rattle.rows.specs.declared.row.Row.{Row}
use Rattle.rows.specs.Fault.{writing_numbers}
use Rattle.rows.specs.Row.{over, time_of, rows_of}
use Rattle.rows.specs.Rules.{Verdict, accepted, refused, verdict_from, verdict_of}
use Rattle.words.specs.Words.{bytes_of_all}

-- a format that is written: the bytes of a word, the good rows that it has words for, and the words of rows ("spelling" is 01's term)
pub record Spelling : Type 0 where
  pub size : ℕ
  pub writable : Row → Bool
  pub words : List Row → List ℕ

-- the words of a list of numbers
abbrev pub spelled : Spelling → List ℕ → List ℕ
spelled s l = s.words (rows_of l)

-- 2 where a buffer has fewer bytes than so many words take
abbrev pub room_for : Spelling → ℕ → ℕ → Verdict
room_for s words bytes = cond (leb (words * s.size) bytes) accepted (refused NoRoom 0)

-- the first of two verdicts that refuses
abbrev pub then_judged : Verdict → Verdict → Verdict
then_judged accepted v = v
then_judged (refused f i) v = refused f i

-- the list's length is judged first (13), its rows one after the other (12, 5), and the room for its words last (2)
unfoldable pub writing_verdict : Spelling → List ℕ → ℕ → Verdict
writing_verdict s l bytes = then_judged (verdict_of s.writable l) (room_for s (length (spelled s l)) bytes)

-- the answer to a verdict: the number of words, or the refusal and the row's index
abbrev pub writing_of : Verdict → ℕ → Result ℕ WriteError
writing_of accepted words = Ok words
writing_of (refused f i) words = Err (record { fault = f; row = i })

-- what the buffer then holds: the bytes over its front, and all that it held where the list is refused
abbrev pub written_over : Verdict → List ℕ → List ℕ → List ℕ
written_over accepted bytes old = over bytes old
written_over (refused f i) bytes old = old

-- a writer's promise, of every list and every buffer
pub record WroteAs (s : Spelling) (l old new : List ℕ) (r : Result ℕ WriteError) : Type 0 where
  pub answer : r ≡ writing_of (writing_verdict s l (length old)) (length (spelled s l))
  pub wrote : new ≡ written_over (writing_verdict s l (length old)) (bytes_of_all s.size (spelled s l)) old

-- the same promise of an answer as numbers
pub record WroteNumbers (s : Spelling) (l old new : List ℕ) (r : WritingNumbers) : Type 0 where
  pub answer : r ≡ writing_numbers (writing_of (writing_verdict s l (length old)) (length (spelled s l)))
  pub wrote : new ≡ written_over (writing_verdict s l (length old)) (bytes_of_all s.size (spelled s l)) old

-- the promise of a function that writes some of the words from a place on, where they fit, and answers the place after them
pub record PutWords (size : ℕ) (ws : List ℕ) (old : List ℕ) (at : ℕ) (new : List ℕ) (r : ℕ) : Type 0 where
  pub place : r ≡ at + length ws * size
  pub wrote : new ≡ sets old at (bytes_of_all size ws)

-- a writer that goes over rows one by one: the words that a row adds where it stands, where it stands then, and the words that are left after the last row
pub record Walk (W : Type 0) : Type 0 where
  pub words : W → Row → List ℕ
  pub next : W → Row → W
  pub close : W → List ℕ

-- all the words of rows
abbrev pub walked : {W : Type 0} → Walk W → W → List Row → List ℕ
walked k w [] = k.close w
walked k w (r ∷ rs) = k.words w r ++ walked k (k.next w r) rs

-- what such a writer is to show of a format, where `last` is the time of the row before: the rows of a list that passes add the words of its
-- spelling; and few words a row, so that no count of them is too large: some are paid for by time that has gone by
pub record Spells {W : Type 0} (s : Spelling) (k : Walk W) (start : W) (last : W → ℕ) : Type 0 where
  pub spells : (rs : List Row) → verdict_from s.writable rs 0 0 ≡ accepted → walked k start rs ≡ s.words rs
  pub begins : last start ≡ 0
  pub goes : (w : W) (r : Row) → last (k.next w r) ≡ time_of r
  pub paid : ℕ → ℕ
  pub short : (w : W) (r : Row) → last w ≤ time_of r → length (k.words w r) + paid (last w) ≤ 16 + paid (time_of r)
  pub cheap : (t : ℕ) → t < 17179869184 → paid t ≤ 65536
  pub closes : (w : W) → length (k.close w) ≤ 16
