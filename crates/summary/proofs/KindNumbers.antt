-- Rows of each kind: over all blocks, and over all kinds.
use mathlib.Core.Path.{◌≡◌, refl, sym, ◌∙◌, ap}
use Prim.Native.Nat.{ℕ, zero, suc, ◌+◌, ◌*◌, ◌≤◌}
use native.Mathlib.Omega.{arith}
use mathlib.Core.Bool.{true, false}
use mathlib.Core.List.{List, [], ◌∷◌, ◌++◌, map}
use lib.ListN.{length, take, drop, length-drop, take-append-drop}
use Rattle.rows.specs.declared.row.Row.{Row}
use Rattle.rows.specs.declared.rules.Kind.{Kind}
use Rattle.rows.specs.declared.rules.Kind.TheVariants.{Pixel, Trigger, ImuCounts, ImuSingles, Special, Other}
use Rattle.rows.specs.Rules.{kind_of, good_as, good_row, AllGood}
use Rattle.rows.proofs.GoodRows.{good_by_kind, other_bad, kind_named}
use Rattle.summary.specs.declared.Block.{Block}
use Rattle.summary.specs.Blocks.{block_count, blocks_by, blocks_of, of_kind, rows_of_kind, block_of, summary_of}
use Rattle.summary.specs.Promises.{total, KindsAdded}

kind_append : (kind : ℕ) (a b : List Row) → rows_of_kind kind (a ++ b) ≡ rows_of_kind kind a + rows_of_kind kind b
kind_append kind [] b = omega arith
kind_append kind (r ∷ a) b = omega (arith, kind_append kind a b)

-- a number of each block that counts a kind counts it in all rows
module _ (number : Block → ℕ) (kind : ℕ) (counts : (rs : List Row) → number (block_of rs) ≡ rows_of_kind kind rs) where
  kind_total : (n : ℕ) (rs : List Row) → length rs ≤ n * 256 → total number (map block_of (blocks_by n rs)) ≡ rows_of_kind kind rs
  unfolding blocks_by
  kind_total zero [] h = refl
  kind_total zero (r ∷ rs) h = absurd (omega arith)
  kind_total (suc n) rs h =
      let later = kind_total n (drop 256 rs) (omega (arith, length-drop 256 rs)) in
      let parts = kind_append kind (take 256 rs) (drop 256 rs) in
      omega (arith, counts (take 256 rs), later, parts, ap (rows_of_kind kind) (take-append-drop 256 rs))

  kind_added : (rs : List Row) → total number (summary_of rs) ≡ rows_of_kind kind rs
  unfolding summary_of blocks_of
  kind_added rs = kind_total (block_count (length rs)) rs (omega arith)

pub kinds_add : (rs : List Row) → KindsAdded rs
unfolding block_of
kinds_add rs =
    record {
      pixels = kind_added (λ b. b.pixels) 1 (λ q. refl) rs;
      triggers = kind_added (λ b. b.triggers) 2 (λ q. refl) rs;
      counts = kind_added (λ b. b.counts) 3 (λ q. refl) rs;
      singles = kind_added (λ b. b.singles) 4 (λ q. refl) rs;
      packets = kind_added (λ b. b.packets) 5 (λ q. refl) rs;
      specials = kind_added (λ b. b.specials) 6 (λ q. refl) rs;
    }

-- a good row is counted under one kind, which is not 5
abbrev Once : Row → Type 0
Once r = (of_kind 1 r + of_kind 2 r + of_kind 3 r + of_kind 4 r + of_kind 5 r + of_kind 6 r ≡ 1) × (of_kind 5 r ≡ 0)

once : (r : Row) → good_row r ≡ true → Once r
once r good = go (kind_of r.kind) refl
  where
    go : (k : Kind) → kind_of r.kind ≡ k → Once r
    go Pixel e = rw (kind_named r.kind Pixel e) (refl, refl)
    go Trigger e = rw (kind_named r.kind Trigger e) (refl, refl)
    go ImuCounts e = rw (kind_named r.kind ImuCounts e) (refl, refl)
    go ImuSingles e = rw (kind_named r.kind ImuSingles e) (refl, refl)
    go Special e = rw (kind_named r.kind Special e) (refl, refl)
    go Other e =
        let bad : false ≡ true = sym (other_bad r) ∙ ap (λ (k : Kind). good_as k r) (sym e) ∙ sym (good_by_kind r) ∙ good in
        let z : ◌≡◌ {A = ℕ} 0 1 = cc in
        absurd (omega arith)

pub kinds_all : (rs : List Row) → AllGood rs
    → (rows_of_kind 1 rs + rows_of_kind 2 rs + rows_of_kind 3 rs + rows_of_kind 4 rs + rows_of_kind 5 rs + rows_of_kind 6 rs ≡ length rs) × (rows_of_kind 5 rs ≡ 0)
kinds_all [] h = (refl, refl)
kinds_all (r ∷ rs) h =
    let one = once r h.0 in
    let others = kinds_all rs h.1 in
    (omega (arith, one.0, others.0), omega (arith, one.1, others.1))
