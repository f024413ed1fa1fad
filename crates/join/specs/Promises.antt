-- The laws of this crate, each proved in proofs/Kept.antt under the name in lower case.
use Rattle.std.specs.Prelude.{◌≡◌, ℕ, ◌+◌, ◌*◌, ◌≤◌, ◌<◌, Bool, true, false, List, [], map, length, drop, get_or, leb, Option, Some, None}
use Rattle.rows.specs.declared.row.Row.{Row}
use Rattle.rows.specs.Row.{time_of}
use Rattle.rows.specs.Runs.{finished}
use Rattle.words.specs.declared.picture.Picture.{Picture}
use Rattle.words.specs.Fields.{field}
use Rattle.words.specs.Machine.{Reached}
use Rattle.words.specs.Words.{words_of}
use Rattle.evt3.specs.declared.state.State.{State}
use Rattle.evt3.specs.Reader.{reading_of}
use Rattle.join.specs.Join.{later, joined_rows, full_rows, Joins}
use Rattle.join.specs.Seen.{none_seen, seen_after, all_seen, all_seen_in, whole_from}

-- a row n wraps later is that row, 2^24 microseconds later for each
abbrev pub LaterTime : Type 0
LaterTime = (n : ℕ) (r : Row) → time_of (later n r) ≡ time_of r + n * 16777216

-- 02, R-10: any recording that is read without refusal, and any word of it, or its end
abbrev pub JoinPartWay : Type 0
JoinPartWay = (p : Picture) (bytes : List ℕ) (k room : ℕ) (end : Reached State) → k * 2 ≤ length bytes
    → (reading_of p bytes room).ending ≡ finished end → Joins p bytes k room

-- a word of a type, its top four bits, at an index
pub record Stands (type : ℕ) (ws : List ℕ) (j : ℕ) : Type 0 where
  pub within : j < length ws
  pub is : field 12 4 (get_or ws j 0) ≡ type

-- all four, by the types that the format's document gives them: TIME_HIGH 8, a later TIME_LOW 6, ADDR_Y 0, VECT_BASE_X 3
pub record FourAmong (ws : List ℕ) : Type 0 where
  pub high : ℕ
  pub low : ℕ
  pub y : ℕ
  pub base : ℕ
  pub is_high : Stands 8 ws high
  pub is_low : Stands 6 ws low
  pub is_later : high < low
  pub is_y : Stands 0 ws y
  pub is_base : Stands 3 ws base

-- words after which all have been seen are those among which the four stand
abbrev pub SeenExact : Type 0
SeenExact = (ws : List ℕ) → (all_seen (seen_after none_seen ws) ≡ true → FourAmong ws) × (FourAmong ws → all_seen (seen_after none_seen ws) ≡ true)

-- whether a place has been passed at byte `at`
abbrev pub passed_at : Option ℕ → ℕ → Bool
passed_at (Some place) at = leb place at
passed_at None at = false

-- the place that `whole_from` answers is passed just where all four are among the words before
abbrev pub WholeExact : Type 0
WholeExact = (bytes : List ℕ) (i : ℕ) → all_seen_in (words_of 2 bytes) i ≡ passed_at (whole_from bytes) (i * 2)

-- 02, R-10, its last sentence: from that place on no row is missing of what the full reader gave
abbrev pub NoneMissing : Type 0
NoneMissing = (p : Picture) (bytes : List ℕ) (k room : ℕ) (j : Joins p bytes k room) (place : ℕ) → whole_from (drop (k * 2) bytes) ≡ Some place
    → (i : ℕ) → place ≤ i * 2 → get_or (full_rows p bytes) (k + i) [] ≡ map (later j.wraps) (get_or (joined_rows p bytes k) i [])
