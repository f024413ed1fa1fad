-- The laws of this crate, each proved in proofs/Kept.antt under the name in lower case.
use Rattle.std.specs.Prelude.{◌≡◌, ℕ, ◌+◌, ◌*◌, ◌-◌, ◌≤◌, ◌<◌, min, Bool, length, take, get_or, Result, Ok}
use mathlib.Core.List.{List, [], ◌∷◌, flatten}
use Rattle.rows.specs.declared.fault.WriteError.{WriteError}
use Rattle.rows.specs.declared.row.Row.{Row}
use Rattle.rows.specs.Row.{over, All, time_of, room_of, rows_of}
use Rattle.rows.specs.Rules.{good_row, AllGood, accepted}
use Rattle.summary.specs.declared.Block.{Block}
use Rattle.summary.specs.declared.reader.Refusal.{Refusal}
use Rattle.summary.specs.Blocks.{block_count, blocks_of, rows_of_kind, block_of, summary_of, block_numbers}
use Rattle.summary.specs.Stored.{stored_of}
use Rattle.summary.specs.Fields.{fields_of, held, held_in}
use Rattle.summary.specs.Reader.{refusal_number, ReadAs}
use Rattle.summary.specs.Verdicts.{verdict_by, verdict_on, in_any_order}
use Rattle.summary.specs.Writer.{WroteSummary}

-- 02, R-6: the blocks are the list, cut: end to end they are the list, there are block_count of them, and block j has 256 rows or what is left
pub record BlocksCut (rs : List Row) : Type 0 where
  pub all : flatten (blocks_of rs) ≡ rs
  pub many : length (blocks_of rs) ≡ block_count (length rs)
  pub long : (j : ℕ) → j < block_count (length rs) → length (get_or (blocks_of rs) j []) ≡ min 256 (length rs - j * 256)

abbrev pub BlocksAreList : Type 0
BlocksAreList = (rs : List Row) → BlocksCut rs

-- what is kept of a block are its first and last time, and the smallest and the largest: times of its rows, and none is below or above
pub record TimesKept (r : Row) (rs : List Row) : Type 0 where
  pub first : (block_of (r ∷ rs)).first ≡ time_of r
  pub last : (block_of (r ∷ rs)).last ≡ time_of (get_or (r ∷ rs) (length rs) r)
  pub smallest : (i : ℕ) → i < length (r ∷ rs) → (block_of (r ∷ rs)).smallest ≤ time_of (get_or (r ∷ rs) i r)
  pub smallest_at : ℕ
  pub smallest_in : (smallest_at < length (r ∷ rs)) × ((block_of (r ∷ rs)).smallest ≡ time_of (get_or (r ∷ rs) smallest_at r))
  pub largest : (i : ℕ) → i < length (r ∷ rs) → time_of (get_or (r ∷ rs) i r) ≤ (block_of (r ∷ rs)).largest
  pub largest_at : ℕ
  pub largest_in : (largest_at < length (r ∷ rs)) × ((block_of (r ∷ rs)).largest ≡ time_of (get_or (r ∷ rs) largest_at r))

abbrev pub TimesExact : Type 0
TimesExact = (r : Row) (rs : List Row) → TimesKept r rs

-- what a number of each block adds up to
abbrev pub total : (Block → ℕ) → List Block → ℕ
total f [] = 0
total f (b ∷ bs) = f b + total f bs

-- 02, R-6: the kinds' numbers over all blocks add up to the rows of the list, kind by kind
pub record KindsAdded (rs : List Row) : Type 0 where
  pub pixels : total (λ b. b.pixels) (summary_of rs) ≡ rows_of_kind 1 rs
  pub triggers : total (λ b. b.triggers) (summary_of rs) ≡ rows_of_kind 2 rs
  pub counts : total (λ b. b.counts) (summary_of rs) ≡ rows_of_kind 3 rs
  pub singles : total (λ b. b.singles) (summary_of rs) ≡ rows_of_kind 4 rs
  pub packets : total (λ b. b.packets) (summary_of rs) ≡ rows_of_kind 5 rs
  pub specials : total (λ b. b.specials) (summary_of rs) ≡ rows_of_kind 6 rs

abbrev pub KindsAdd : Type 0
KindsAdd = (rs : List Row) → KindsAdded rs

-- and of good rows each is counted under one of the six kinds; R-11: none under kind 5
abbrev pub KindsAll : Type 0
KindsAll = (rs : List Row) → AllGood rs
    → (rows_of_kind 1 rs + rows_of_kind 2 rs + rows_of_kind 3 rs + rows_of_kind 4 rs + rows_of_kind 5 rs + rows_of_kind 6 rs ≡ length rs) × (rows_of_kind 5 rs ≡ 0)

-- 02, R-9: 7 is no refusal's number
abbrev pub SevenUnused : Type 0
SevenUnused = (f : Refusal) → (refusal_number f ≡ 7) → ⊥

-- 02, R-6: in any order of time a list passes row by row exactly where each of its rows passes the test
abbrev pub VerdictAll : Type 0
VerdictAll = (test : Row → Bool) (rs : List Row) (i last : ℕ)
    → ((verdict_by (in_any_order test) rs i last ≡ accepted) → All test rs) × (All test rs → verdict_by (in_any_order test) rs i last ≡ accepted)

-- ten numbers a block
abbrev pub BlockNumbersLength : Type 0
BlockNumbersLength = (rs : List Row) → length (block_numbers rs) ≡ block_count (length rs) * 10

-- 02, R-6: 7 bytes, and 59 for each block
abbrev pub StoredLength : Type 0
StoredLength = (rs : List Row) → length (stored_of rs) ≡ 7 + block_count (length rs) * 59

-- 02, R-6: an empty list has tag 1 only
abbrev pub StoredEmpty : Type 0
StoredEmpty = stored_of [] ≡ 1 ∷ 4 ∷ 0 ∷ 0 ∷ 0 ∷ 0 ∷ 0 ∷ []

-- 02, R-6: writing then reading gives the summary back: of what the stored bytes of good rows hold,
abbrev pub SummaryHeld : Type 0
SummaryHeld = (rs : List Row) → AllGood rs → length rs ≤ 16777216 → held_in (fields_of (stored_of rs)) ≡ held (length rs) (summary_of rs)

-- and of what the writer and the reader promise: of every list that is not refused 13 or 12, written with room for its summary, and read from there with room for
-- its numbers. The writer answers the bytes and the reader the rows, and the buffer that was read into begins with the numbers and is else as it was
pub record BackAgain (l old new : List ℕ) (w : Result ℕ WriteError) (r : Result ℕ Refusal) : Type 0 where
  pub written : w ≡ Ok (length (stored_of (rows_of l)))
  pub rows : r ≡ Ok (room_of l)
  pub back : new ≡ over (block_numbers (rows_of l)) old

abbrev pub SummaryBack : Type 0
SummaryBack =
    (l : List ℕ) → verdict_on (in_any_order good_row) l ≡ accepted
    → (out out' : List ℕ) (w : Result ℕ WriteError) → length (stored_of (rows_of l)) ≤ length out → WroteSummary l out out' w
    → (old new : List ℕ) (r : Result ℕ Refusal) → length (block_numbers (rows_of l)) ≤ length old → ReadAs (take (length (stored_of (rows_of l))) out') old new r
    → BackAgain l old new w r
