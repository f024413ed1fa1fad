-- Blocks of 256 rows, and what is kept of each: four times, and the number of rows of each kind. 02, R-6.
use Rattle.std.specs.Prelude.{ℕ, zero, suc, ◌+◌, ◌/◌, min, max, cond, length, take, drop, eqb}
use mathlib.Core.List.{List, [], ◌∷◌, ◌++◌, map, flat_map}
use Rattle.rows.specs.declared.row.Row.{Row}
use Rattle.rows.specs.Row.{time_of}
use Rattle.summary.specs.declared.Block.{Block}

-- how many blocks n rows make: each is full but the last, which may be shorter
abbrev pub block_count : ℕ → ℕ
block_count n = (n + 255) / 256

-- the first n blocks of rows, and all of them
unfoldable pub blocks_by : ℕ → List Row → List (List Row)
blocks_by zero rs = []
blocks_by (suc n) rs = take 256 rs ∷ blocks_by n (drop 256 rs)

unfoldable pub blocks_of : List Row → List (List Row)
blocks_of rs = blocks_by (block_count (length rs)) rs

-- the time of the first row; 0 where there is none, and so below (no block is empty)
abbrev pub first_time : List Row → ℕ
first_time [] = 0
first_time (r ∷ rs) = time_of r

-- a time chosen of those of rows: of the one so far, at first t, and the next, one row after the other
abbrev pub time_by : (ℕ → ℕ → ℕ) → ℕ → List Row → ℕ
time_by choose t [] = t
time_by choose t (r ∷ rs) = time_by choose (choose t (time_of r)) rs

-- the last time, the smallest and the largest
abbrev pub last_time : List Row → ℕ
last_time rs = time_by (λ old new. new) 0 rs

abbrev pub smallest_time : List Row → ℕ
smallest_time rs = time_by min (first_time rs) rs

abbrev pub largest_time : List Row → ℕ
largest_time rs = time_by max (first_time rs) rs

-- how many rows are of a kind: 1 for a row of it, and the others
abbrev pub of_kind : ℕ → Row → ℕ
of_kind kind r = cond (eqb r.kind kind) 1 0

abbrev pub rows_of_kind : ℕ → List Row → ℕ
rows_of_kind kind [] = 0
rows_of_kind kind (r ∷ rs) = of_kind kind r + rows_of_kind kind rs

-- what is kept of a block
unfoldable pub block_of : List Row → Block
block_of rs =
    record {
      first = first_time rs;
      last = last_time rs;
      smallest = smallest_time rs;
      largest = largest_time rs;
      pixels = rows_of_kind 1 rs;
      triggers = rows_of_kind 2 rs;
      counts = rows_of_kind 3 rs;
      singles = rows_of_kind 4 rs;
      packets = rows_of_kind 5 rs;
      specials = rows_of_kind 6 rs;
    }

-- the summary of rows: what is kept of each block
unfoldable pub summary_of : List Row → List Block
summary_of rs = map block_of (blocks_of rs)

-- the ten numbers of a block: its four times, and its numbers of rows of kinds 1 to 6
abbrev pub times_of : Block → List ℕ
times_of b = b.first ∷ b.last ∷ b.smallest ∷ b.largest ∷ []

abbrev pub kinds_of : Block → List ℕ
kinds_of b = b.pixels ∷ b.triggers ∷ b.counts ∷ b.singles ∷ b.packets ∷ b.specials ∷ []

abbrev pub ten_of : Block → List ℕ
ten_of b = times_of b ++ kinds_of b

-- those of blocks one after the other, as the reader of a stored summary hands them out; and those of rows
abbrev pub tens_of : List Block → List ℕ
tens_of bs = flat_map ten_of bs

unfoldable pub block_numbers : List Row → List ℕ
block_numbers rs = tens_of (summary_of rs)
