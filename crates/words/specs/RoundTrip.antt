-- Rows that are written and read back, said of what a writer and a reader promise, over any format. 01, demand 2.
use Rattle.std.specs.Prelude.{◌≡◌, ℕ, ◌*◌, ◌≤◌, List, length, take, Result, Ok}
use Rattle.rows.specs.declared.fault.ReadError.{ReadError}
use Rattle.rows.specs.declared.fault.WriteError.{WriteError}
use Rattle.rows.specs.Row.{over, Narrow, room_of, rows_of}
use Rattle.rows.specs.Rules.{accepted, verdict_of}
use Rattle.rows.specs.Runs.{Run, ReadAs, Finishes}
use Rattle.words.specs.Words.{bytes_of_all}
use Rattle.words.specs.Writer.{Spelling, spelled, WroteAs}

-- what a format is to show: the words of a list are read as its rows, where there is room for them
abbrev pub ReadsBack : {S : Type 0} → Spelling → (List ℕ → ℕ → Run S) → Type 0
ReadsBack s reading_of =
    (l : List ℕ) → Narrow l → verdict_of s.writable l ≡ accepted → (room : ℕ) → room_of l ≤ room
    → Finishes (reading_of (bytes_of_all s.size (spelled s l)) room) (rows_of l)

-- the writer answered how many words there are and the reader how many rows, and the buffer that was read into begins with the list and is else as it was
pub record CameBack (s : Spelling) (l old new : List ℕ) (w : Result ℕ WriteError) (r : Result ℕ ReadError) : Type 0 where
  pub written : w ≡ Ok (length (spelled s l))
  pub finished : r ≡ Ok (room_of l)
  pub back : new ≡ over l old

-- what follows for its functions: every writable list comes back, where it was written into `out` with room for its words, and these words were read from
-- there into `old` with room for its rows
abbrev pub ComesBack : {S : Type 0} → Spelling → (List ℕ → ℕ → Run S) → Type 0
ComesBack s reading_of =
    (l : List ℕ) → Narrow l → verdict_of s.writable l ≡ accepted
    → (out out' : List ℕ) (w : Result ℕ WriteError) → length (spelled s l) * s.size ≤ length out → WroteAs s l out out' w
    → (old new : List ℕ) (r : Result ℕ ReadError) → room_of l ≤ room_of old
    → ReadAs (reading_of (take (length (spelled s l) * s.size) out') (room_of old)) old new r
    → CameBack s l old new w r
