-- The number of digits, one by one; and what is no number: a comma or a point among them.
use mathlib.Core.Path.{◌≡◌, refl, sym, ◌∙◌, ap}
use Prim.Native.Nat.{ℕ, zero, suc, ◌+◌, ◌-◌, ◌*◌, ◌≤◌, ◌<◌}
use native.Mathlib.Omega.{arith}
use native.Mathlib.Numerals.{add-one}
use mathlib.Core.Bool.{Bool, true, false, cond, ◌&&◌, and-false}
use mathlib.Core.List.{List, [], ◌∷◌}
use lib.ListN.{length, drop, get_or, drop_of_length-le}
use lib.Dec.{leb, eqb}
use borrow.Author.Tests.{le-leb, lt-leb, ne_eqb, leb-true}
use Rattle.rows.proofs.GoodRows.{and_second}
use Rattle.std.proofs.Common.{Option, Some, None}
use Rattle.std.proofs.lemmas.List.{at_drop_more}
use Rattle.header.specs.Sides.{is_digit, digit_of, are_digits, decimal, number_of, spaced, value_of}
use Rattle.rows.proofs.Chosen.{cond_holds}

-- ten to the power of i
unfoldable pub tens : ℕ → ℕ
tens zero = 1
tens (suc i) = tens i * 10

tens_few : (i : ℕ) → i < 5 → tens i ≤ 10000
unfolding tens
tens_few zero h = omega arith
tens_few (suc zero) h = omega arith
tens_few (suc (suc zero)) h = omega arith
tens_few (suc (suc (suc zero))) h = omega arith
tens_few (suc (suc (suc (suc zero)))) h = omega arith
tens_few (suc (suc (suc (suc (suc i))))) h = absurd (omega arith)

pub number_short : (d : List ℕ) → length d < 1 → None ≡ number_of d
unfolding number_of
number_short d h = simp (lt-leb _ _ h)

pub number_long : (d : List ℕ) → 5 < length d → None ≡ number_of d
unfolding number_of
number_long d h = simp (le-leb 1 (length d) (omega arith), lt-leb _ _ h)

not_number : (d : List ℕ) → are_digits d ≡ false → number_of d ≡ None
unfolding number_of
not_number d h = rw h (ap (λ (b : Bool). cond b (Some (decimal 0 d)) None) (and-false (leb 1 (length d) && leb (length d) 5)))

-- what the value of a byte tells
record Digit (c v : ℕ) : Type 0 where
  is : is_digit c ≡ true
  value : v ≡ c - 48
  small : v < 10

a_digit : (c v : ℕ) → Some v ≡ digit_of c → Digit c v
a_digit c v =
    cond_holds (λ (o : Option ℕ). Some v ≡ o → Digit c v) (is_digit c)
    (λ t e. let w : v ≡ c - 48 = cc in record { is = t; value = w; small = omega (arith, leb-true c 57 (and_second (leb 48 c) (leb c 57) t)) })
    (λ t e. absurd cc)

no_digit : (c : ℕ) → None ≡ digit_of c → is_digit c ≡ false
no_digit c = cond_holds (λ (o : Option ℕ). None ≡ o → is_digit c ≡ false) (is_digit c) (λ t e. absurd cc) (λ t e. t)

-- i digits make the number n
pub record Counted (d : List ℕ) (n i : ℕ) : Type 0 where
  pub digits : are_digits d ≡ are_digits (drop i d)
  pub same : decimal 0 d ≡ decimal n (drop i d)
  pub small : n < tens i

pub counted_none : {d : List ℕ} → Counted d 0 0
unfolding tens
counted_none = record { digits = refl; same = refl; small = omega arith }

module _ {d : List ℕ} {n i : ℕ} (h : Counted d n i) where
  -- four digits or fewer, so that one more fits
  pub counted_small : i < length d → length d ≤ 5 → n < 10000
  counted_small p q = omega (arith, h.small, tens_few i (omega arith))

  here : i < length d → are_digits d ≡ is_digit (get_or d i 0) && are_digits (drop (i + 1) d)
  unfolding are_digits
  here p = h.digits ∙ at_drop_more are_digits d i 0 p

  module _ (p : i < length d) where
    -- a byte that is no digit
    pub counted_other : None ≡ digit_of (get_or d i 0) → None ≡ number_of d
    counted_other q = sym (not_number d (here p ∙ ap (λ (b : Bool). b && are_digits (drop (i + 1) d)) (no_digit (get_or d i 0) q)))

    -- a digit
    module _ {v : ℕ} (q : Some v ≡ digit_of (get_or d i 0)) where
      digit : Digit (get_or d i 0) v
      digit = a_digit (get_or d i 0) v q

      pub counted_fits : length d ≤ 5 → n * 10 + v < 100000
      counted_fits few = omega (arith, counted_small p few, digit.small)

      pub counted_next : Counted d (n * 10 + v) (i + 1)
      unfolding decimal tens
      counted_next =
          record {
            digits = here p ∙ ap (λ (b : Bool). b && are_digits (drop (i + 1) d)) digit.is;
            same = h.same ∙ at_drop_more (decimal n) d i 0 p ∙ ap (λ (m : ℕ). decimal (n * 10 + m) (drop (i + 1) d)) (sym digit.value);
            small = rw (add-one i) (omega (arith, h.small, digit.small));
          }

  pub counted_all : 1 ≤ length d → length d ≤ 5 → length d ≤ i → Some n ≡ number_of d
  unfolding number_of are_digits decimal
  counted_all p q r =
      let none : drop i d ≡ [] = drop_of_length-le d r in
      simp (le-leb _ _ p, le-leb _ _ q, h.digits, h.same, none)

abbrev malformed : Option ℕ → Type 0
malformed v = v ≡ None

-- a byte that is no digit, no space and no colon, anywhere in a value
module _ (c : ℕ) (digit : is_digit c ≡ false) (space : c ≡ 32 → ⊥) (colon : c ≡ 58 → ⊥) where
  not_digits : (d : List ℕ) (i : ℕ) → i < length d → get_or d i 0 ≡ c → are_digits d ≡ false
  unfolding are_digits
  not_digits [] i p e = absurd (omega arith)
  not_digits (a ∷ d) zero p e = ap (λ (b : ℕ). is_digit b && are_digits d) e ∙ ap (λ (b : Bool). b && are_digits d) digit
  not_digits (a ∷ d) (suc i) p e = ap (λ (b : Bool). is_digit a && b) (not_digits d i (omega arith) e) ∙ and-false (is_digit a)

  not_spaced : (t : List ℕ) (i : ℕ) → i < length t → get_or t i 0 ≡ c → spaced t ≡ None
  unfolding spaced
  not_spaced [] i p e = absurd (omega arith)
  not_spaced (a ∷ t) zero p e = simp (ne_eqb a 32 (λ f. space (sym e ∙ f)))
  not_spaced (a ∷ t) (suc i) p e = cond_holds malformed (eqb a 32) (λ f. not_number t (not_digits t i (omega arith) e)) (λ f. refl)

  pub not_value : (t : List ℕ) (i : ℕ) → i < length t → get_or t i 0 ≡ c → value_of t ≡ None
  unfolding value_of
  not_value [] i p e = absurd (omega arith)
  not_value (a ∷ t) zero p e = simp (ne_eqb a 58 (λ f. colon (sym e ∙ f))) (not_spaced (a ∷ t) zero p e)
  not_value (a ∷ t) (suc i) p e =
      cond_holds malformed (eqb a 58) (λ f. not_spaced t i (omega arith) e) (λ f. not_spaced (a ∷ t) (suc i) p e)
