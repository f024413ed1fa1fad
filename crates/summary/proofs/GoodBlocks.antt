-- The summary of good rows fits its bytes, and each block adds up.
use mathlib.Core.Path.{◌≡◌, refl, ◌∙◌}
use Prim.Native.Nat.{ℕ, zero, suc, ◌+◌, ◌-◌, ◌*◌, ◌^◌, ◌≤◌, ◌<◌, min, max}
use native.Mathlib.Omega.{arith}
use mathlib.Core.Bool.{true}
use mathlib.Core.List.{List, [], ◌∷◌, map}
use lib.ListN.{length, take, drop, length-take, length-drop}
use borrow.Author.Tests.{eq-eqb}
use Rattle.rows.specs.declared.row.Row.{Row}
use Rattle.rows.specs.Row.{time_of}
use Rattle.rows.specs.Rules.{AllGood}
use Rattle.rows.proofs.Kept.{good_timely}
use Rattle.summary.specs.declared.Block.{Block}
use Rattle.summary.specs.Blocks.{block_count, blocks_by, blocks_of, first_time, time_by, block_of, summary_of}
use Rattle.summary.specs.Fields.{rows_in, adds_up}
use Rattle.summary.proofs.KindNumbers.{kinds_all}

-- numbers that the bytes of a block have room for
pub record Fits (b : Block) : Type 0 where
  pub first : b.first < 256 ^ 8
  pub last : b.last < 256 ^ 8
  pub smallest : b.smallest < 256 ^ 8
  pub largest : b.largest < 256 ^ 8
  pub pixels : b.pixels < 256 ^ 4
  pub triggers : b.triggers < 256 ^ 4
  pub counts : b.counts < 256 ^ 4
  pub singles : b.singles < 256 ^ 4
  pub packets : b.packets < 256 ^ 4
  pub specials : b.specials < 256 ^ 4

-- blocks j and on of n rows: they fit, their kinds' numbers add up, and they are as many as there are to be
abbrev pub AllFit : ℕ → ℕ → List Block → Type 0
AllFit n j [] = j ≡ block_count n
AllFit n j (b ∷ bs) = Fits b × (adds_up (rows_in n j) b ≡ true) × AllFit n (suc j) bs

-- a time chosen of those of good rows is within the limit
first_below : (rs : List Row) → AllGood rs → first_time rs < 17179869184
first_below [] h = omega arith
first_below (r ∷ rs) h = good_timely r h.0

module _ (choose : ℕ → ℕ → ℕ) (keeps : (a b : ℕ) → a < 17179869184 → b < 17179869184 → choose a b < 17179869184) where
  chosen_below : (t : ℕ) (rs : List Row) → t < 17179869184 → AllGood rs → time_by choose t rs < 17179869184
  chosen_below t [] f h = f
  chosen_below t (r ∷ rs) f h = chosen_below (choose t (time_of r)) rs (keeps t (time_of r) f (good_timely r h.0)) h.1

-- good rows in two parts
good_take : (k : ℕ) (rs : List Row) → AllGood rs → AllGood (take k rs)
good_take zero rs h = tt
good_take (suc k) [] h = tt
good_take (suc k) (r ∷ rs) h = (h.0, good_take k rs h.1)

good_drop : (k : ℕ) (rs : List Row) → AllGood rs → AllGood (drop k rs)
good_drop zero rs h = h
good_drop (suc k) [] h = tt
good_drop (suc k) (r ∷ rs) h = good_drop k rs h.1

-- a block of at most 256 good rows
block_fits : (rs : List Row) → AllGood rs → length rs ≤ 256 → Fits (block_of rs)
unfolding block_of
block_fits rs h f =
    let all = (kinds_all rs h).0 in
    let first = first_below rs h in
    record {
      first = omega arith;
      last = omega (arith, chosen_below (λ old new. new) (λ a b p q. q) 0 rs (omega arith) h);
      smallest = omega (arith, chosen_below min (λ a b p q. omega arith) (first_time rs) rs first h);
      largest = omega (arith, chosen_below max (λ a b p q. omega arith) (first_time rs) rs first h);
      pixels = omega arith;
      triggers = omega arith;
      counts = omega arith;
      singles = omega arith;
      packets = omega arith;
      specials = omega arith;
    }

block_adds : (rs : List Row) (n : ℕ) → AllGood rs → length rs ≡ n → adds_up n (block_of rs) ≡ true
unfolding block_of adds_up
block_adds rs n h e =
    let all = kinds_all rs h in
    rw (eq-eqb _ _ (all.0 ∙ e), eq-eqb _ _ all.1) refl

-- blocks j and on
all_fit : (n j m : ℕ) (rs : List Row) → AllGood rs → length rs ≡ n - j * 256 → j + m ≡ block_count n → AllFit n j (map block_of (blocks_by m rs))
unfolding blocks_by
all_fit n j zero rs h e f = omega arith
all_fit n j (suc m) rs h e f =
    let long = length-take 256 rs in (
      block_fits (take 256 rs) (good_take 256 rs h) (omega arith),
      block_adds (take 256 rs) (rows_in n j) (good_take 256 rs h) (omega arith),
      all_fit n (suc j) m (drop 256 rs) (good_drop 256 rs h) (omega (arith, length-drop 256 rs)) (omega arith),
    )

pub summary_fits : (rs : List Row) → AllGood rs → AllFit (length rs) 0 (summary_of rs)
unfolding summary_of blocks_of
summary_fits rs h = all_fit (length rs) 0 (block_count (length rs)) rs h (omega arith) (omega arith)
