-- The rows of a list from one row on, cut: the first block of them, and the others.
use mathlib.Core.Path.{◌≡◌, sym, ◌∙◌, ap, ap₂}
use Prim.Native.Nat.{ℕ, suc, ◌+◌, ◌-◌, ◌<◌, min}
use native.Mathlib.Omega.{arith}
use mathlib.Core.List.{List, [], ◌∷◌, map}
use lib.ListN.{length}
use Rattle.rows.specs.declared.row.Row.{Row}
use Rattle.rows.specs.Row.{rows_from}
use Rattle.summary.specs.Blocks.{block_count, blocks_by, blocks_of, block_of, summary_of}
use Rattle.summary.proofs.Lists.{rows_length, rows_none, rows_take, rows_drop}

-- m rows from row i on
pub summary_next : (l : List ℕ) (i m : ℕ) → 0 < m
    → summary_of (rows_from l i m) ≡ block_of (rows_from l i (min 256 m)) ∷ summary_of (rows_from l (i + 256) (m - 256))
unfolding summary_of blocks_of blocks_by
summary_next l i m h =
    let rest : ℕ = m - 256 in
    let one : block_count m ≡ suc (block_count rest) = omega arith in
    let long : block_count (length (rows_from l i m)) ≡ suc (block_count rest) = ap block_count (rows_length l m i) ∙ one in
    ap (λ (n : ℕ). map block_of (blocks_by n (rows_from l i m))) long
    ∙ ap₂ (λ (b r : List Row). block_of b ∷ map block_of (blocks_by (block_count rest) r)) (rows_take l 256 m i) (rows_drop l 256 m i)
    ∙ ap (λ (n : ℕ). block_of (rows_from l i (min 256 m)) ∷ map block_of (blocks_by (block_count n) (rows_from l (i + 256) rest))) (sym (rows_length l rest (i + 256)))

pub summary_none : (l : List ℕ) (i : ℕ) → summary_of (rows_from l i 0) ≡ []
unfolding summary_of blocks_of blocks_by
summary_none l i = ap (λ (rs : List Row). map block_of (blocks_by (block_count (length rs)) rs)) (rows_none l i)
