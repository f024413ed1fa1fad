-- What the reader's functions promise: `ReadAs`, and what the private ones do towards it. 02, R-6.
use Rattle.std.specs.Prelude.{◌≡◌, ℕ, ◌*◌, ◌≤◌, ◌<◌, cond, List, [], ◌∷◌, length, take, drop, get_or, leb, ltb, Option, Some, None, Result, Ok, Err}
use Rattle.std.specs.Borrow.{Bor}
use Rattle.std.proofs.lemmas.List.Edits.{sets}
use Rattle.rows.specs.Row.{over}
use Rattle.summary.specs.declared.Block.{Block}
use Rattle.summary.specs.declared.reader.Field.{Field}
use Rattle.summary.specs.declared.reader.Field.TheVariants as field
use Rattle.summary.specs.declared.reader.Refusal.{Refusal}
use Rattle.summary.specs.declared.reader.Refusal.TheVariants.{TooLong, NoRoom, BadSummary}
use Rattle.summary.specs.declared.reader.SummaryNumbers.{SummaryNumbers}
use Rattle.summary.specs.Blocks.{tens_of}
use Rattle.summary.specs.Fields.{Fields, count, block, whole, faulty, size_of, span_of, fields_of, Held, held, none, held_in}

-- 01, "Refusal numbers", and 02, R-6: the number of each refusal
abbrev pub refusal_number : Refusal → ℕ
refusal_number TooLong = 1
refusal_number NoRoom = 2
refusal_number BadSummary = 17

-- 17 where no summary is held, then 2 where there is no room for ten numbers a block
abbrev pub answer_in : Held → ℕ → Result ℕ Refusal
answer_in (held n bs) room = cond (leb (length bs * 10) room) (Ok n) (Err NoRoom)
answer_in none room = Err BadSummary

-- 1 first
unfoldable pub answer_of : List ℕ → ℕ → Result ℕ Refusal
answer_of l room = cond (ltb 1073741824 (length l)) (Err TooLong) (answer_in (held_in (fields_of l)) room)

-- what the buffer then holds: the numbers of the blocks over its front, and all that it held where the bytes are refused
abbrev pub numbers_in : Held → List ℕ
numbers_in (held n bs) = tens_of bs
numbers_in none = []

abbrev pub left_in : Result ℕ Refusal → Held → List ℕ → List ℕ
left_in (Ok n) h old = over (numbers_in h) old
left_in (Err f) h old = old

-- the reader's promise, of any bytes and every buffer
pub record ReadAs (l old new : List ℕ) (r : Result ℕ Refusal) : Type 0 where
  pub answer : r ≡ answer_of l (length old)
  pub wrote : new ≡ left_in (answer_of l (length old)) (held_in (fields_of l)) old

-- the answer as numbers: the number alone where it refuses
abbrev pub summary_numbers : Result ℕ Refusal → SummaryNumbers
summary_numbers (Ok n) = record { refusal = 0; rows = n }
summary_numbers (Err f) = record { refusal = refusal_number f; rows = 0 }

-- the same promise of an answer as numbers
pub record ReadNumbers (l old new : List ℕ) (r : SummaryNumbers) : Type 0 where
  pub answer : r ≡ summary_numbers (answer_of l (length old))
  pub wrote : new ≡ left_in (answer_of l (length old)) (held_in (fields_of l)) old

-- a field at the front of bytes, taken off them, or cut
pub record Cut (l : List ℕ) (tag : ℕ) (contents rest : List ℕ) : Type 0 where
  pub long : span_of l ≤ length l
  pub tagged : tag ≡ get_or l 0 0
  pub contained : contents ≡ take (size_of l) (drop 3 l)
  pub left : rest ≡ drop (span_of l) l

abbrev pub CutAs : List ℕ → Option (ℕ × Bor (List ℕ) × Bor (List ℕ)) → Type 0
CutAs l (Some f) = Cut l f.0 f.1.now f.2.now
CutAs l None = length l < span_of l

-- a field before others, and the fields that a field's tag and contents make of others
abbrev pub before_fields : Field → Fields → Fields
before_fields (field.Count n) rest = count n rest
before_fields (field.Block b) rest = block b rest

abbrev pub field_or : Result (Option Field) Refusal → Fields → Fields
field_or (Ok (Some f)) rest = before_fields f rest
field_or (Ok None) rest = rest
field_or (Err e) rest = faulty

-- the fields of which the next was found, and the bytes after it
abbrev pub next_in : Result (Option (Field × Bor (List ℕ))) Refusal → Fields
next_in (Ok (Some f)) = before_fields f.0 (fields_of f.1.now)
next_in (Ok None) = whole
next_in (Err e) = faulty

-- how many blocks are held
abbrev pub many_of : Held → Result ℕ Refusal
many_of (held n bs) = Ok (length bs)
many_of none = Err BadSummary

-- the blocks that fields begin with
abbrev pub front_blocks : Fields → List Block
front_blocks (count n rest) = []
front_blocks (block b rest) = b ∷ front_blocks rest
front_blocks whole = []
front_blocks faulty = []

-- their numbers are put from the front on, where there is room for them all
pub record HandedOut (f : Fields) (old new : List ℕ) : Type 0 where
  pub long : length new ≡ length old
  pub wrote : length (front_blocks f) * 10 ≤ length old → new ≡ sets old 0 (tens_of (front_blocks f))
