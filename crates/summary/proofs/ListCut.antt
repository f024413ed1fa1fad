-- The blocks of a list: how many, how long, and that end to end they are the list; and how many numbers are kept of them.
use mathlib.Core.Path.{◌≡◌, refl, ◌∙◌, ap}
use Prim.Native.Nat.{ℕ, zero, suc, ◌+◌, ◌*◌, ◌≤◌, ◌<◌, min}
use native.Mathlib.Omega.{arith}
use mathlib.Core.List.{List, [], ◌∷◌, ◌++◌, flatten}
use lib.ListN.{length, take, drop, get_or, length-take, length-drop, length-map, take-append-drop}
use lib.Seq.{drop-drop}
use Rattle.rows.specs.declared.row.Row.{Row}
use Rattle.summary.specs.declared.Block.{Block}
use Rattle.summary.specs.Blocks.{block_count, blocks_by, blocks_of, block_of, summary_of, ten_of, tens_of, block_numbers}
use Rattle.summary.specs.Promises.{BlocksCut}
use Rattle.summary.proofs.EachOf.{each_length}

blocks_length : (n : ℕ) (rs : List Row) → length (blocks_by n rs) ≡ n
unfolding blocks_by
blocks_length zero rs = refl
blocks_length (suc n) rs = ap suc (blocks_length n (drop 256 rs))

-- n blocks that reach to the end are all rows
blocks_joined : (n : ℕ) (rs : List Row) → length rs ≤ n * 256 → flatten (blocks_by n rs) ≡ rs
unfolding blocks_by flatten
blocks_joined zero [] h = refl
blocks_joined zero (r ∷ rs) h = absurd (omega arith)
blocks_joined (suc n) rs h =
    ap (λ (t : List Row). take 256 rs ++ t) (blocks_joined n (drop 256 rs) (omega (arith, length-drop 256 rs))) ∙ take-append-drop 256 rs

-- block j begins after j full ones
block_at_lem : (n j : ℕ) (rs : List Row) → j < n → get_or (blocks_by n rs) j [] ≡ take 256 (drop (j * 256) rs)
unfolding blocks_by
block_at_lem zero j rs h = absurd (omega arith)
block_at_lem (suc n) zero rs h = refl
block_at_lem (suc n) (suc j) rs h =
    let e : 256 + j * 256 ≡ suc j * 256 = omega arith in
    block_at_lem n j (drop 256 rs) (omega arith) ∙ ap (take 256) (drop-drop (j * 256) 256 rs ∙ ap (λ (k : ℕ). drop k rs) e)

pub blocks_are_list : (rs : List Row) → BlocksCut rs
unfolding blocks_of
blocks_are_list rs =
    let n : ℕ = block_count (length rs) in
    record {
      all = blocks_joined n rs (omega arith);
      many = blocks_length n rs;
      long = λ j h. ap length (block_at_lem n j rs h) ∙ length-take 256 (drop (j * 256) rs) ∙ ap (min 256) (length-drop (j * 256) rs);
    }

-- what is kept of them
pub tens_length : (bs : List Block) → length (tens_of bs) ≡ length bs * 10
tens_length bs = each_length ten_of 10 (λ b. refl) bs

pub summary_length : (rs : List Row) → length (summary_of rs) ≡ block_count (length rs)
unfolding summary_of
summary_length rs = length-map (blocks_of rs) block_of ∙ (blocks_are_list rs).many

pub block_numbers_length : (rs : List Row) → length (block_numbers rs) ≡ block_count (length rs) * 10
unfolding block_numbers
block_numbers_length rs = tens_length (summary_of rs) ∙ ap (λ (n : ℕ). n * 10) (summary_length rs)
