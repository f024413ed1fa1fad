-- Lines read one after the other, whatever a line says: the invariant of a loop over them.
use mathlib.Core.Path.{◌≡◌, sym, ◌∙◌, ap, subst}
use Prim.Native.Nat.{ℕ, zero, suc, ◌+◌, ◌-◌, ◌≤◌}
use native.Mathlib.Omega.{arith}
use mathlib.Core.List.{List, [], ◌∷◌}
use lib.ListN.{length, take, drop, length-drop}
use lib.Seq.{drop-drop}
use Rattle.rows.proofs.Lists.{part_rest}

-- how lines are read: what the one at the front of bytes says in a state, what follows of that, and what the lines give from a place on,
-- of which there are no more than bytes
pub record LineRule (A S R : Type 0) : Type 0 where
  pub step : S → List ℕ → R
  pub then : R → S → ℕ → (ℕ → S → A) → A
  pub from : ℕ → S → List ℕ → ℕ → A
  pub end : (s : S) (place : ℕ) (rest : ℕ → S → A) → from zero s [] place ≡ then (step s []) s place rest
  pub next : (most : ℕ) (s : S) (b : List ℕ) (place : ℕ)
      → from (suc most) s b place ≡ then (step s b) s place (λ long s'. from most s' (drop long b) (place + long))

module _ {A S R : Type 0} where
  -- one line, as long as there are bytes to come
  one_line : (k : LineRule A S R) (most : ℕ) (s : S) (b : List ℕ) (place : ℕ) → length b ≤ most
      → k.from most s b place ≡ k.then (k.step s b) s place (λ long s'. k.from (most - 1) s' (drop long b) (place + long))
  one_line k zero s [] place h = k.end s place _
  one_line k zero s (c ∷ b) place h = absurd (omega arith)
  one_line k (suc most) s b place h =
      let e : most ≡ suc most - 1 = omega arith in
      k.next most s b place ∙ ap (λ (m : ℕ). k.then (k.step s b) s place (λ long s'. k.from m s' (drop long b) (place + long))) e

  -- the lines before `at` are read, and s is the state after them; `whole` is what all of them give
  pub record LinesRead (k : LineRule A S R) (bytes : List ℕ) (whole : A) (s : S) (at : ℕ) : Type 0 where
    pub most : ℕ
    pub enough : length bytes ≤ at + most
    pub same : whole ≡ k.from most s (drop at bytes) at
    pub within : at ≤ length bytes

  pub none_read : (k : LineRule A S R) {bytes : List ℕ} {whole : A} {s : S} → whole ≡ k.from (length bytes) s bytes 0 → LinesRead k bytes whole s 0
  none_read k {bytes} e = record { most = length bytes; enough = omega arith; same = e; within = omega arith }

  -- r is what the code found that the next line says
  module _ {k : LineRule A S R} {bytes : List ℕ} {whole : A} {s : S} {at : ℕ} (h : LinesRead k bytes whole s at) {r : R}
      (e : r ≡ k.step s (take (length bytes - at) (drop at bytes))) {r' : R} (f : r ≡ r') where
    says : k.step s (drop at bytes) ≡ r'
    says = sym (e ∙ ap (k.step s) (part_rest at bytes)) ∙ f

    pub line_then : whole ≡ k.then r' s at (λ long s'. k.from (h.most - 1) s' (drop long (drop at bytes)) (at + long))
    line_then =
        h.same ∙ one_line k h.most s (drop at bytes) at (omega (arith, h.enough, length-drop at bytes))
        ∙ ap (λ (x : R). k.then x s at (λ long s'. k.from (h.most - 1) s' (drop long (drop at bytes)) (at + long))) says

    -- what holds of every line in the bytes that it stands in holds of this one
    pub line_is : (P : ℕ → R → Type 0) → ((b : List ℕ) → P (length b) (k.step s b)) → P (length bytes - at) r'
    line_is P p = subst (P (length bytes - at)) says (subst (λ (n : ℕ). P n (k.step s (drop at bytes))) (length-drop at bytes) (p (drop at bytes)))

    -- it has `long` bytes, and more lines follow
    module _ {long : ℕ} {s' : S} (goes : (rest : ℕ → S → A) → k.then r' s at rest ≡ rest long s')
        (in_rest : (1 ≤ long) × (long ≤ length bytes - at)) where
      pub line_more : LinesRead k bytes whole s' (at + long)
      line_more =
          record {
            most = h.most - 1;
            enough = omega (arith, h.enough, in_rest.0);
            same = line_then ∙ goes _ ∙ ap (λ (b : List ℕ). k.from (h.most - 1) s' b (at + long)) (drop-drop long at bytes);
            within = omega (arith, in_rest.1, h.within);
          }
