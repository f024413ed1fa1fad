-- The laws of this crate, each proved in proofs/Kept.antt under the name in lower case.
use Rattle.std.specs.Prelude.{◌≡◌, ℕ, ◌+◌, ◌*◌, ◌/◌, ◌^◌, ◌≤◌, ◌<◌, Bool, length, take, drop, get_or}
use mathlib.Core.List.{List, [], ◌∷◌, ◌++◌, flatten}
use Rattle.rows.specs.declared.fault.Fault.TheVariants.{NoRoom}
use Rattle.rows.specs.declared.row.Row.{Row}
use Rattle.rows.specs.Row.{only, All}
use Rattle.rows.specs.Rules.{accepted, refused, verdict_of}
use Rattle.rows.specs.Runs.{finished, Run, and_then, EndsWithin, Finishes}
use Rattle.words.specs.Words.{value, Words, word, words_of, bytes_of_all}
use Rattle.words.specs.Fields.{field, typed, placed}
use Rattle.words.specs.Machine.{Machine, Reached, run, rows_by_word, reading, read_from, Keeps, Follows, KeepsUp}
use Rattle.words.specs.RoundTrip.{ReadsBack, ComesBack}
use Rattle.words.specs.Writer.{Spelling, spelled, writing_verdict}

-- a field is below 2^width
abbrev pub FieldSmall : Type 0
FieldSmall = (at width w : ℕ) → field at width w < 2 ^ width

-- what is placed in a field is found there, whatever lies above and below
abbrev pub FieldPlaced : Type 0
FieldPlaced = (at width high mid low : ℕ) → mid < 2 ^ width → low < 2 ^ at → field at width (placed at width high mid low) ≡ mid

-- a word is its field, placed between what lies above and below
abbrev pub FieldParts : Type 0
FieldParts = (at width w : ℕ) → placed at width (w / 2 ^ (at + width)) (field at width w) (field 0 at w) ≡ w

-- a word's type is found again, and below it what lies there, in words of every width
abbrev pub TypeFound : Type 0
TypeFound = (at width top below : ℕ) → top < 2 ^ width → below < 2 ^ at → field at width (typed at top below) ≡ top

abbrev pub TypeBelow : Type 0
TypeBelow = (at top below i width : ℕ) → i + width ≤ at → field i width (typed at top below) ≡ field i width below

-- bytes, and that a field of whole bytes is the number that these bytes make, in words of every size
abbrev pub Bytes : List ℕ → Type 0
Bytes l = (i : ℕ) → get_or l i 0 < 256

abbrev pub FieldBytes : Type 0
FieldBytes = (l : List ℕ) → Bytes l → (from n : ℕ) → field (from * 8) (n * 8) (value l) ≡ value (take n (drop from l))

-- all of 01's words are low byte first: words that were written are read again, before whatever follows them
abbrev pub Small : ℕ → List ℕ → Type 0
Small size [] = Unit {0}
Small size (w ∷ ws) = (w < 256 ^ size) × Small size ws

abbrev pub before : List ℕ → Words → Words
before [] r = r
before (w ∷ ws) r = word w (before ws r)

abbrev pub WordsBack : Type 0
WordsBack = (size : ℕ) → 0 < size → (ws rest : List ℕ) → Small size ws → words_of size (bytes_of_all size ws ++ rest) ≡ before ws (words_of size rest)

-- 01, "Refusal numbers" and "Spelling": of a list that passes 13, 12 and 5 room is refused exactly where the buffer is shorter than the spelling
pub record RoomExact (s : Spelling) (l : List ℕ) (bytes : ℕ) : Type 0 where
  pub short : bytes < length (spelled s l) * s.size → writing_verdict s l bytes ≡ refused NoRoom 0
  pub only : writing_verdict s l bytes ≡ refused NoRoom 0 → bytes < length (spelled s l) * s.size
  pub long : length (spelled s l) * s.size ≤ bytes → writing_verdict s l bytes ≡ accepted

abbrev pub RoomRefused : Type 0
RoomRefused = (s : Spelling) (l : List ℕ) (bytes : ℕ) → verdict_of s.writable l ≡ accepted → RoomExact s l bytes

-- a run in two parts, the first of whole words, is one run after the other, for every machine
abbrev pub RunTwoParts : Type 1
RunTwoParts = (S : Type 0) (m : Machine S) (k : ℕ) (xs ys : List ℕ) → 0 < m.size → length xs ≡ k * m.size → (s : S) (place room : ℕ)
    → run m (words_of m.size (xs ++ ys)) s place room
    ≡ and_then (run m (words_of m.size xs) s place room) room (λ r room'. run m (words_of m.size ys) r.state r.place room')

-- no more rows are given than there is room for
abbrev pub RowsFit : Type 1
RowsFit = (S : Type 0) (m : Machine S) (ws : Words) (s : S) (place room : ℕ) → length (reading m ws s place room).rows ≤ room

-- a reading that finishes gives the rows of its words, one word after the other
abbrev pub RowsOfWords : Type 1
RowsOfWords = (S : Type 0) (m : Machine S) (ws : Words) (s : S) (place room : ℕ) (r : Reached S) → (reading m ws s place room).ending ≡ finished r
    → (reading m ws s place room).rows ≡ flatten (rows_by_word m ws s place)

-- where the rows of every word pass a test, all rows of a machine do
abbrev pub RowsPass : Type 1
RowsPass = (S : Type 0) (m : Machine S) (test : Row → Bool) (Kept : S → Type 0) → Keeps m test Kept → (ws : Words) (s : S) (place room : ℕ) → Kept s
    → All test (reading m ws s place room).rows

-- 01, "Refusal numbers": a refusal's place lies in the input, or at its end, for every machine that follows its words
abbrev pub PlacesWithin : Type 1
PlacesWithin = (S : Type 0) (m : Machine S) (Kept : S → ℕ → Type 0) → Follows m Kept → (bytes : List ℕ) (s : S) (at room : ℕ) → Kept s at → at ≤ length bytes
    → EndsWithin (read_from m bytes s at room).ending (length bytes)

-- a machine that keeps up with another finishes what the other finishes, in equal room, with those of its rows that the test holds of
abbrev pub KeptUp : Type 1
KeptUp = (S T : Type 0) (m : Machine S) (n : Machine T) (test : Row → Bool) (Alike : S → T → Type 0) → KeepsUp m n test Alike
    → (bytes : List ℕ) (s : S) (t : T) (at room : ℕ) → Alike s t → (r : Reached S) → (read_from m bytes s at room).ending ≡ finished r
    → Finishes (read_from n bytes t at room) (only test (read_from m bytes s at room).rows)

-- 01, demand 2: of every format whose words are read as their rows, the writer's promise and the reader's together bring every list back
abbrev pub RoundTrip : Type 1
RoundTrip = (S : Type 0) (s : Spelling) (reading_of : List ℕ → ℕ → Run S) → ReadsBack s reading_of → ComesBack s reading_of
