-- A reader that joins a recording part way, beside one that read it from its first word on. 02, R-10.
use Rattle.std.specs.Prelude.{◌≡◌, ℕ, ◌+◌, ◌*◌, Bool, true, ◌⊎◌, length, drop, get_or}
use mathlib.Core.List.{List, [], map, flatten}
use Rattle.rows.specs.declared.row.Row.{Row}
use Rattle.rows.specs.Row.{time_of, timed}
use Rattle.rows.specs.Runs.{Finishes}
use Rattle.words.specs.declared.picture.Picture.{Picture}
use Rattle.words.specs.Words.{Words, words_of}
use Rattle.words.specs.Machine.{rows_by_word}
use Rattle.evt3.specs.State.{fresh}
use Rattle.evt3.specs.Reader.{machine, reading_of}
use Rattle.join.specs.Seen.{all_seen_in}

-- a row n wraps of the clock later, each of 2^24 microseconds; but for its time it is the same
unfoldable pub later : ℕ → Row → Row
later n r = timed r.kind (time_of r + n * 16777216) r.a r.b r.c r.d r.e r.f r.g

-- the rows of one word, as the joined reader gives them and as the full reader does: none, or the same in order, n wraps earlier; and where it
-- is sure none is missing
pub record Agrees (n : ℕ) (sure : Bool) (joined full : List Row) : Type 0 where
  pub given : (joined ≡ []) ⊎ (full ≡ map (later n) joined)
  pub all : sure ≡ true → full ≡ map (later n) joined

-- the words from word k on, and what each gives to a fresh reader that begins there
abbrev pub words_from : List ℕ → ℕ → Words
words_from bytes k = words_of 2 (drop (k * 2) bytes)

abbrev pub joined_rows : Picture → List ℕ → ℕ → List (List Row)
joined_rows p bytes k = rows_by_word (machine p) (words_from bytes k) fresh 0

-- what each word gives to the full reader
abbrev pub full_rows : Picture → List ℕ → List (List Row)
full_rows p bytes = rows_by_word (machine p) (words_of 2 bytes) fresh 0

-- a fresh reader from word k on, beside the full reader, with equal room and picture
pub record Joins (p : Picture) (bytes : List ℕ) (k room : ℕ) : Type 0 where
  -- it is not refused; the rows of both readers are those of their words, and both read every word from k on
  pub finishes : Finishes (reading_of p (drop (k * 2) bytes) room) (flatten (joined_rows p bytes k))
  pub full : (reading_of p bytes room).rows ≡ flatten (full_rows p bytes)
  pub count : length (full_rows p bytes) ≡ k + length (joined_rows p bytes k)
  -- its word i is the full reader's word k + i, and one number of wraps lies between the times of their rows, at every word; no row is missing
  -- of a word before which a TIME_HIGH, a later TIME_LOW, an ADDR_Y and a VECT_BASE_X were seen
  pub wraps : ℕ
  pub agrees : (i : ℕ) → Agrees wraps (all_seen_in (words_from bytes k) i) (get_or (joined_rows p bytes k) i []) (get_or (full_rows p bytes) (k + i) [])
