-- The words of bytes: what stands at the front, and what bytes in two parts give.
use mathlib.Core.Path.{◌≡◌, refl, sym, ◌∙◌, ap, ap₂}
use Prim.Native.Nat.{ℕ, zero, suc, ◌+◌, ◌-◌, ◌*◌, ◌≤◌, ◌<◌}
use native.Mathlib.Omega.{arith}
use native.Mathlib.Nat.{suc-mul}
use mathlib.Core.Bool.{Bool, true, false, cond}
use mathlib.Core.List.{List, [], ◌∷◌, ◌++◌}
use lib.ListN.{length, take, drop, length-drop, length-append}
use lib.Seq.{drop-drop, take-append-le, drop-append-le}
use lib.Dec.{eqb, ltb}
use borrow.Author.Tests.{eq-eqb, ne_eqb, lt-ltb, le-ltb, eqb-true, eqb-false, ltb-true, ltb-false}
use Rattle.std.specs.Prelude.{Option, Some, None, Result, Ok, Err}
use Rattle.rows.specs.declared.fault.Fault.{Fault}
use Rattle.rows.specs.declared.fault.Fault.TheVariants.{Cut}
use Rattle.rows.proofs.Lists.{part_rest}
use Rattle.words.specs.Words.{value, Words, word, whole, part, first_of, cut_by, words_of, next_at}

no_word_end : {E : Type 0} {r : Result ℕ Fault} → Some r ≡ None → E
no_word_end e = let z : ◌≡◌ {A = ℕ} 0 1 = cc in absurd (omega arith)

no_word_part : {E : Type 0} {w : ℕ} {f : Fault} → ◌≡◌ {A = Option (Result ℕ Fault)} (Some (Ok w)) (Some (Err f)) → E
no_word_part e = let z : ◌≡◌ {A = ℕ} 0 1 = cc in absurd (omega arith)

same_word : {v w : ℕ} → ◌≡◌ {A = Option (Result ℕ Fault)} (Some (Ok v)) (Some (Ok w)) → w ≡ v
same_word e = cc

-- a stream that begins so
pub end_found : (r : Words) → None ≡ first_of r → r ≡ whole
end_found (word w r) e = no_word_end (sym e)
end_found whole e = refl
end_found part e = no_word_end (sym e)

pub part_found : (r : Words) {f : Fault} → Some (Err f) ≡ first_of r → (r ≡ part) × (f ≡ Cut)
part_found (word w r) e = no_word_part (sym e)
part_found whole e = no_word_end e
part_found part e = (refl, cc)

-- one stream after another that ends whole
abbrev pub join : Words → Words → Words
join (word w a) b = word w (join a b)
join whole b = b
join part b = part

module _ (size : ℕ) (some : 0 < size) where
  -- more steps than there are bytes change nothing
  cut_same : (j k : ℕ) (l : List ℕ) → length l ≤ j → length l ≤ k → cut_by j size l ≡ cut_by k size l
  unfolding cut_by
  cut_same zero zero l f g = refl
  cut_same zero (suc k) l f g = let z : length l ≡ 0 = omega arith in rw (eq-eqb _ _ z)
  cut_same (suc j) zero l f g = let z : length l ≡ 0 = omega arith in rw (eq-eqb _ _ z)
  cut_same (suc j) (suc k) l f g =
      ap (λ (r : Words). cond (eqb (length l) 0) whole (cond (ltb (length l) size) part (word (value (take size l)) r)))
      (cut_same j k (drop size l) (omega (arith, length-drop size l)) (omega (arith, length-drop size l)))

  words_none : (l : List ℕ) → length l ≡ 0 → words_of size l ≡ whole
  unfolding words_of cut_by
  words_none [] h = refl
  words_none (a ∷ r) h = absurd (omega arith)

  words_few : (l : List ℕ) → 0 < length l → length l < size → words_of size l ≡ part
  unfolding words_of cut_by
  words_few [] h g = absurd (omega arith)
  words_few (a ∷ r) h g = let n : suc (length r) ≡ 0 → ⊥ = λ e. omega arith in simp (ne_eqb _ _ n, lt-ltb _ _ g)

  pub words_one : (l : List ℕ) → size ≤ length l → words_of size l ≡ word (value (take size l)) (words_of size (drop size l))
  unfolding words_of cut_by
  words_one [] h = absurd (omega arith)
  words_one (a ∷ r) h =
      let n : suc (length r) ≡ 0 → ⊥ = λ e. omega arith in
      let s : cut_by (length r) size (drop size (a ∷ r)) ≡ cut_by (length (drop size (a ∷ r))) size (drop size (a ∷ r)) =
      cut_same (length r) (length (drop size (a ∷ r))) (drop size (a ∷ r)) (omega (arith, length-drop size (a ∷ r))) (omega arith) in
      simp (ne_eqb _ _ n, le-ltb _ _ h) (ap (word (value (take size (a ∷ r)))) s)

  -- what stands at the front of bytes
  pub first_end : (l : List ℕ) → length l ≡ 0 → None ≡ first_of (words_of size l)
  first_end l h = sym (ap first_of (words_none l h))

  pub first_part : (l : List ℕ) → 0 < length l → length l < size → Some (Err Cut) ≡ first_of (words_of size l)
  first_part l h g = sym (ap first_of (words_few l h g))

  pub first_word : (l : List ℕ) {w : ℕ} → size ≤ length l → w ≡ value (take size l) → Some (Ok w) ≡ first_of (words_of size l)
  first_word l h e = ap (λ (n : ℕ). Some (Ok n)) e ∙ sym (ap first_of (words_one l h))

  -- a word at the front, and the words of what follows it
  word_split : (l : List ℕ) (w : ℕ) → Some (Ok w) ≡ first_of (words_of size l) → (words_of size l ≡ word w (words_of size (drop size l))) × (size ≤ length l)
  word_split l w e = go (eqb (length l) 0) refl (ltb (length l) size) refl
    where
      go : (a : Bool) → eqb (length l) 0 ≡ a → (b : Bool) → ltb (length l) size ≡ b → (words_of size l ≡ word w (words_of size (drop size l))) × (size ≤ length l)
      go true f b g = no_word_end (e ∙ ap first_of (words_none l (eqb-true _ _ f)))
      go false f true g = no_word_part (e ∙ ap first_of (words_few l (omega (arith, eqb-false (length l) 0 f)) (ltb-true _ _ g)))
      go false f false g =
          let h : size ≤ length l = ltb-false _ _ g in
          let v : value (take size l) ≡ w = same_word (e ∙ ap first_of (words_one l h)) in
          (words_one l h ∙ ap (λ (k : ℕ). word k (words_of size (drop size l))) v, h)

  -- the same at a place
  module _ (l : List ℕ) (at : ℕ) {w : ℕ} (e : Some (Ok w) ≡ next_at size l at) where
    pub word_found : words_of size (drop at l) ≡ word w (words_of size (drop (at + size) l))
    word_found = (word_split (drop at l) w e).0 ∙ rw (drop-drop size at l)

    pub word_within : at + size ≤ length l
    word_within = omega (arith, (word_split (drop at l) w e).1, length-drop at l)

  -- bytes in two parts, the first of whole words
  pub words_join : (k : ℕ) (xs ys : List ℕ) → length xs ≡ k * size → words_of size (xs ++ ys) ≡ join (words_of size xs) (words_of size ys)
  words_join zero [] ys h = sym (ap (λ (r : Words). join r (words_of size ys)) (words_none [] refl))
  words_join zero (a ∷ r) ys h = absurd (omega arith)
  words_join (suc k) xs ys h =
      let f : size ≤ length xs = omega (arith, suc-mul k size) in
      let g : size ≤ length (xs ++ ys) = omega (arith, length-append xs ys) in
      let s : length (drop size xs) ≡ k * size = omega (arith, length-drop size xs, suc-mul k size) in
      words_one (xs ++ ys) g
      ∙ ap₂ (λ (a b : List ℕ). word (value a) (words_of size b)) (take-append-le size xs ys f) (drop-append-le size xs ys f)
      ∙ ap (word (value (take size xs))) (words_join k (drop size xs) ys s)
      ∙ sym (ap (λ (r : Words). join r (words_of size ys)) (words_one xs f))

-- nothing stands at the end and past it
pub at_end_lem : (size : ℕ) → 0 < size → (l : List ℕ) (at : ℕ) → length l ≤ at → None ≡ next_at size l at
at_end_lem size some l at h = first_end size some (drop at l) (omega (arith, length-drop at l))

-- what stands at the front of a part that begins at a place stands at the place
pub part_next : (size : ℕ) (l : List ℕ) (at : ℕ) {r : Option (Result ℕ Fault)} → r ≡ first_of (words_of size (take (length l - at) (drop at l))) → r ≡ next_at size l at
part_next size l at e = e ∙ ap (λ (k : List ℕ). first_of (words_of size k)) (part_rest at l)
