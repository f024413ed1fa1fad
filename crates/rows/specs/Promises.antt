-- The laws of this crate, each proved in proofs/Kept.antt under the name in lower case.
use Rattle.std.specs.Prelude.{◌≡◌, ℕ, ◌%◌, ◌≤◌, ◌<◌, Bool, true, false, ◌⊎◌, List, length, take, drop}
use Rattle.rows.specs.declared.fault.Fault.{Fault}
use Rattle.rows.specs.declared.row.Row.{Row}
use Rattle.rows.specs.declared.rules.Kind.{Kind}
use Rattle.rows.specs.declared.rules.Kind.TheVariants.{Pixel, Trigger, ImuCounts, ImuSingles, Special, Other}
use Rattle.rows.specs.Fault.{number_of}
use Rattle.rows.specs.Row.{flat, over, time_of, rows_of, timed, camera_row, trigger_row, counts_row, singles_row, special_row}
use Rattle.rows.specs.Rules.{kind_of, good_row, accepted, verdict_from, Writable}
use Rattle.rows.specs.Runs.{Run, and_then}

-- rows and their numbers are the same thing: one is found again from the other
abbrev pub RowsOfFlat : Type 0
RowsOfFlat = (rs : List Row) → rows_of (flat rs) ≡ rs

abbrev pub FlatOfRows : Type 0
FlatOfRows = (l : List ℕ) → length l % 10 ≡ 0 → flat (rows_of l) ≡ l

-- 01, "Refusal numbers": a buffer that numbers were written over begins with them, and nothing past them is touched
pub record OverKept : Type 0 where
  pub front : (new old : List ℕ) → take (length new) (over new old) ≡ new
  pub rest : (new old : List ℕ) → drop (length new) (over new old) ≡ drop (length new) old
  pub long : (new old : List ℕ) → length new ≤ length old → length (over new old) ≡ length old

-- 02, R-9: 7 is no refusal's number
abbrev pub SevenUnused : Type 0
SevenUnused = (f : Fault) → (number_of f ≡ 7) → ⊥

-- 01, "Rows": each kind has one number
abbrev pub Names : ℕ → Kind → Type 0
Names n Pixel = n ≡ 1
Names n Trigger = n ≡ 2
Names n ImuCounts = n ≡ 3
Names n ImuSingles = n ≡ 4
Names n Special = n ≡ 6
-- 02, R-11: 5 is no kind's number
Names n Other = (n ≡ 0) ⊎ ((n ≡ 5) ⊎ (6 < n))

abbrev pub KindsNamed : Type 0
KindsNamed = (n : ℕ) (k : Kind) → ((kind_of n ≡ k) → Names n k) × (Names n k → kind_of n ≡ k)

-- 02, R-11: rows of kind 5 are bad, so every function that asks for good rows refuses them 12
abbrev pub FiveRefused : Type 0
FiveRefused = (r : Row) → r.kind ≡ 5 → good_row r ≡ false

-- 02, R-9: so is a pixel of a camera that is neither 0 nor 1
abbrev pub CameraRefused : Type 0
CameraRefused = (r : Row) → r.kind ≡ 1 → 1 < r.d → good_row r ≡ false

-- 01, "Rows": the time of every good row is within the limit
abbrev pub GoodTimely : Type 0
GoodTimely = (r : Row) → good_row r ≡ true → time_of r < 17179869184

-- a row has the time that it was made with, and one made from values within 01's limits is good
pub record MadeGood : Type 0 where
  pub time : (kind t a b c d e f g : ℕ) → time_of (timed kind t a b c d e f g) ≡ t
  pub pixel : (t x y p camera : ℕ) → t < 17179869184 → x < 32768 → y < 32768 → p < 2 → camera < 2 → good_row (camera_row t x y p camera) ≡ true
  pub trigger : (t c e : ℕ) → t < 17179869184 → c < 32 → e < 2 → good_row (trigger_row t c e) ≡ true
  pub counts : (t ax ay az rx ry rz : ℕ) → t < 17179869184 → ax < 65536 → ay < 65536 → az < 65536 → rx < 65536 → ry < 65536 → rz < 65536
      → good_row (counts_row t ax ay az rx ry rz) ≡ true
  pub singles : (t ax ay az rx ry rz k : ℕ) → t < 17179869184 → good_row (singles_row t ax ay az rx ry rz k) ≡ true
  pub special : (t code content : ℕ) → t < 17179869184 → code < 128 → content < 16777216 → good_row (special_row t code content) ≡ true

-- and a good row is the one made from its values, which are within the limits. (The lower half of a time has 32 bits in every slice.)
pub record GoodMade (r : Row) : Type 0 where
  pub pixel : r.kind ≡ 1 → (r ≡ camera_row (time_of r) r.a r.b r.c r.d) × (time_of r < 17179869184)
      × (r.a < 32768) × (r.b < 32768) × (r.c < 2) × (r.d < 2)
  pub trigger : r.kind ≡ 2 → (r ≡ trigger_row (time_of r) r.a r.b) × (time_of r < 17179869184) × (r.a < 32) × (r.b < 2)
  pub counts : r.kind ≡ 3 → (r ≡ counts_row (time_of r) r.a r.b r.c r.d r.e r.f) × (time_of r < 17179869184)
      × (r.a < 65536) × (r.b < 65536) × (r.c < 65536) × (r.d < 65536) × (r.e < 65536) × (r.f < 65536)
  pub singles : r.kind ≡ 4 → (r ≡ singles_row (time_of r) r.a r.b r.c r.d r.e r.f r.g) × (time_of r < 17179869184)
  pub special : r.kind ≡ 6 → (r ≡ special_row (time_of r) r.a r.b) × (time_of r < 17179869184) × (r.a < 128) × (r.b < 16777216)

abbrev pub GoodIsMade : Type 0
GoodIsMade = (r : Row) → good_row r ≡ true → r.low < 4294967296 → GoodMade r

-- 01, "Refusal numbers" and "Spelling": a list passes row by row exactly where its rows are good and writable and its times do not decrease
abbrev pub VerdictWritable : Type 0
VerdictWritable = (writable : Row → Bool) (rs : List Row) (i last : ℕ)
    → ((verdict_from writable rs i last ≡ accepted) → Writable writable last rs) × (Writable writable last rs → verdict_from writable rs i last ≡ accepted)

-- one run after another: the order of grouping does not matter
abbrev pub AndThenGrouped : Type 1
AndThenGrouped = (S T U : Type 0) (r : Run S) (room : ℕ) (f : S → ℕ → Run T) (g : T → ℕ → Run U)
    → and_then (and_then r room f) room g ≡ and_then r room (λ s room'. and_then (f s room') room' g)
