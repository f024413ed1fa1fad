-- The blocks after the row count, judged one by one.
use mathlib.Core.Path.{◌≡◌, refl, sym, ◌∙◌, ap}
use Prim.Native.Nat.{ℕ, suc, ◌+◌, ◌-◌, ◌*◌, ◌≤◌, ◌<◌, min}
use native.Mathlib.Omega.{arith}
use native.Mathlib.Numerals.{add-one}
use mathlib.Core.Bool.{Bool, true, false, cond}
use mathlib.Core.List.{List, []}
use lib.ListN.{length}
use lib.Dec.{eqb}
use borrow.Author.Tests.{eq-eqb, ne_eqb}
use Rattle.std.specs.Prelude.{Result, Ok, Err}
use Rattle.summary.specs.declared.Block.{Block}
use Rattle.summary.specs.declared.reader.Refusal.{Refusal}
use Rattle.summary.specs.declared.reader.Refusal.TheVariants.{BadSummary}
use Rattle.summary.specs.Blocks.{block_count}
use Rattle.summary.specs.Fields.{Fields, fields_of, rows_in, adds_up, Held, held, none, before, blocks_from}
use Rattle.summary.specs.Reader.{many_of}

-- so many blocks more
abbrev pub more : ℕ → Result ℕ Refusal → Result ℕ Refusal
more k (Ok n) = Ok (k + n)
more k (Err e) = Err e

more_before : (k : ℕ) (b : Block) (h : Held) → more k (many_of (before b h)) ≡ more (k + 1) (many_of h)
more_before k b (held n bs) = let e : k + suc (length bs) ≡ k + 1 + length bs = omega arith in ap Ok e
more_before k b none = refl

more_none : (r : Result ℕ Refusal) → more 0 r ≡ r
more_none (Ok n) = let e : 0 + n ≡ n = omega arith in ap Ok e
more_none (Err e) = refl

-- `many` blocks were good, and `rest` is what follows them
pub record Judged (l : List ℕ) (n : ℕ) (rest : List ℕ) (left many : ℕ) : Type 0 where
  pub same : many_of (blocks_from n 0 (fields_of l)) ≡ more many (many_of (blocks_from n many (fields_of rest)))
  pub rows : left ≡ n - many * 256
  pub within : many + length rest ≤ length l

module _ {l : List ℕ} {n : ℕ} {rest : List ℕ} {left many : ℕ} (j : Judged l n rest left many) where
  abbrev answer : Result ℕ Refusal
  answer = many_of (blocks_from n 0 (fields_of l))

  -- what the fields that are left are
  judged_as : {f : Fields} → fields_of rest ≡ f → answer ≡ more many (many_of (blocks_from n many f))
  judged_as e = j.same ∙ ap (λ (f : Fields). more many (many_of (blocks_from n many f))) e

  pub judged_faulty : fields_of rest ≡ Fields.faulty → Err BadSummary ≡ answer
  unfolding blocks_from
  judged_faulty e = sym (judged_as e)

  pub judged_count : {m : ℕ} {after : Fields} → fields_of rest ≡ Fields.count m after → Err BadSummary ≡ answer
  unfolding blocks_from
  judged_count e = sym (judged_as e)

  module _ {b : Block} (after : List ℕ) (e : fields_of rest ≡ Fields.block b (fields_of after)) {rows : ℕ} (f : rows ≡ min left 256) where
    sum : adds_up rows b ≡ adds_up (rows_in n many) b
    sum = let g : rows ≡ min 256 (n - many * 256) = omega (arith, j.rows) in ap (λ (k : ℕ). adds_up k b) g

    summed : {t : Bool} → adds_up rows b ≡ t → answer ≡ more many (many_of (cond t (before b (blocks_from n (suc many) (fields_of after))) none))
    unfolding blocks_from
    summed g = judged_as e ∙ ap (λ (t : Bool). more many (many_of (cond t (before b (blocks_from n (suc many) (fields_of after))) none))) (sym sum ∙ g)

    pub judged_wrong : adds_up rows b ≡ false → Err BadSummary ≡ answer
    judged_wrong g = sym (summed g)

    pub judged_next : adds_up rows b ≡ true → length after < length rest → Judged l n after (left - rows) (many + 1)
    judged_next g h =
        record {
          same =
              summed g
              ∙ more_before many b (blocks_from n (suc many) (fields_of after))
              ∙ ap (λ (k : ℕ). more (many + 1) (many_of (blocks_from n k (fields_of after)))) (sym (add-one many));
          rows = omega (arith, j.rows);
          within = omega (arith, j.within);
        }

  -- at the end
  module _ (e : fields_of rest ≡ Fields.whole) where
    ended : {t : Bool} → eqb many (block_count n) ≡ t → answer ≡ more many (many_of (cond t (held n []) none))
    unfolding blocks_from
    ended g = judged_as e ∙ ap (λ (t : Bool). more many (many_of (cond t (held n []) none))) g

    pub judged_other : (many ≡ block_count n → ⊥) → Err BadSummary ≡ answer
    judged_other g = sym (ended (ne_eqb _ _ g))

    pub judged_all : many ≡ block_count n → Ok many ≡ answer
    judged_all g = let k : many ≡ many + 0 = omega arith in ap Ok k ∙ sym (ended (eq-eqb _ _ g))
