-- A value is that of one single alone: two finite singles of the same sign and size are the same.
use mathlib.Core.Path.{◌≡◌, refl, sym, ap, ◌∙◌}
use mathlib.Core.Bool.{Bool, ◌&&◌}
use Prim.Native.Nat.{ℕ, zero, suc, ◌+◌, ◌*◌, ◌%◌, ◌^◌, ◌<◌}
use native.Mathlib.Nat.{mul_assoc, mul_right_comm, mul-one, one-mul, zero-mul, mul-pos, zero-lt-suc, pow-suc, eq_of_mul-eq-mul_right}
use native.Mathlib.Omega.{arith}
use lib.Dec.{T, eqb, leb, ltb}
use lib.Pow.{pow-add, pow_pos}
use lib.IntN.{ℤ, pos, negsuc}
use lib.Ieee.{Float, nan, inf, fin, binary32, prec, low, up, down, fits}
use lib.Ieee.Bits.{is_true}
use lib.Ieee.Exact.{HasValue}
use borrow.Author.Tests.{eqb-true}
use Rattle.rows.proofs.GoodRows.{and_first}

-- the exponent of 2 in one number's size over another's
abbrev expo : ℤ → ℤ → ℕ
expo (pos a) (pos b) = a
expo (pos a) (negsuc b) = a + suc b
expo (negsuc a) (pos b) = 0
expo (negsuc a) (negsuc b) = suc b

up_down : (e g : ℤ) → up e * down g ≡ 2 ^ expo e g
up_down (pos a) (pos b) = mul-one (2 ^ a)
up_down (pos a) (negsuc b) = sym (pow-add 2 a (suc b))
up_down (negsuc a) (pos b) = refl
up_down (negsuc a) (negsuc b) = one-mul (2 ^ suc b)

same_expo : (e g : ℤ) → expo e g ≡ expo g e → e ≡ g
same_expo (pos a) (pos b) h = ap pos h
same_expo (pos a) (negsuc b) h = absurd (omega arith)
same_expo (negsuc a) (pos b) h = absurd (omega arith)
same_expo (negsuc a) (negsuc b) h = let e : a ≡ b = omega arith in ap negsuc e

twice : (m a : ℕ) → m * 2 ^ suc a ≡ m * 2 ^ a * 2
twice m a = ap (λ (x : ℕ). m * x) (pow-suc 2 a) ∙ sym (mul_assoc m (2 ^ a) 2)

-- a number is an odd one times a power of two in one way
odd_part : (m n a b : ℕ) → m % 2 ≡ 1 → n % 2 ≡ 1 → m * 2 ^ a ≡ n * 2 ^ b → (m ≡ n) × (a ≡ b)
odd_part m n zero zero o p h = (omega arith, refl)
odd_part m n zero (suc b) o p h = absurd (omega (arith, twice n b))
odd_part m n (suc a) zero o p h = absurd (omega (arith, twice m a))
odd_part m n (suc a) (suc b) o p h =
    let r = odd_part m n a b o p (omega (arith, twice m a, twice n b)) in
    (r.0, ap suc r.1)

-- sizes over one divisor, compared
cross : (m n c k : ℕ) (e g : ℤ) → 0 < k → m * up e * k ≡ c * down e → n * up g * k ≡ c * down g → m * 2 ^ expo e g ≡ n * 2 ^ expo g e
cross m n c k e g h v w =
    eq_of_mul-eq-mul_right k h (m * 2 ^ expo e g) (n * 2 ^ expo g e)
    (over m e g v ∙ mul_right_comm c (down e) (down g) ∙ sym (over n g e w))
  where
    over : (x : ℕ) (i j : ℤ) → x * up i * k ≡ c * down i → x * 2 ^ expo i j * k ≡ c * down i * down j
    over x i j u =
        ap (λ (y : ℕ). x * y * k) (sym (up_down i j))
        ∙ ap (λ (y : ℕ). y * k) (sym (mul_assoc x (up i) (down j)))
        ∙ mul_right_comm (x * up i) (down j) k
        ∙ ap (λ (y : ℕ). y * down j) u

-- of a single that is not 0 the significand is odd, and of a zero the exponent is 0
significand_odd : (s : Bool) (m : ℕ) (e : ℤ) → T (fits binary32 (fin s (suc m) e)) → suc m % 2 ≡ 1
unfolding fits
significand_odd s m e t =
    let odd : Bool = eqb (suc m % 2) 1 in
    let short : Bool = ltb (suc m) (2 ^ prec binary32) in
    let high : Bool = leb (down e) (2 ^ low binary32) in
    eqb-true _ _ (and_first odd short (and_first (odd && short) high (and_first (odd && short && high) _ (is_true _ t))))

power_one : (k : ℕ) → 2 ^ k ≡ 1 → k ≡ 0
power_one zero h = refl
power_one (suc k) h = absurd (omega (arith, pow-suc 2 k))

zero_flat : (e : ℤ) → expo e e ≡ 0 → e ≡ pos 0
zero_flat (pos a) h = ap pos h
zero_flat (negsuc a) h = absurd (omega arith)

zero_exponent : (s : Bool) (e : ℤ) → T (fits binary32 (fin s zero e)) → e ≡ pos 0
unfolding fits
zero_exponent s e t = zero_flat e (power_one (expo e e) (sym (up_down e e) ∙ eqb-true _ _ (is_true _ t)))

not_zero : {E : Type 0} (m a b : ℕ) → 0 * 2 ^ a ≡ suc m * 2 ^ b → E
not_zero m a b h = absurd (omega (arith, zero-mul (2 ^ a), mul-pos (zero-lt-suc m) (pow_pos b)))

same_float : {s t : Bool} {m n : ℕ} {e g : ℤ} → s ≡ t → m ≡ n → e ≡ g → fin s m e ≡ fin t n g
same_float p q r = cc

pub one_value : (x y : Float) (s : Bool) (c k : ℕ) → 0 < k → T (fits binary32 x) → T (fits binary32 y) → HasValue x s c k → HasValue y s c k → x ≡ y
one_value nan y s c k h p q v w = elim v [ ]
one_value (inf i) y s c k h p q v w = elim v [ ]
one_value (fin t zero e) nan s c k h p q v w = elim w [ ]
one_value (fin t zero e) (inf j) s c k h p q v w = elim w [ ]
one_value (fin t (suc m) e) nan s c k h p q v w = elim w [ ]
one_value (fin t (suc m) e) (inf j) s c k h p q v w = elim w [ ]
one_value (fin t zero e) (fin u zero g) s c k h p q v w = same_float (v.0 ∙ sym w.0) refl (zero_exponent t e p ∙ sym (zero_exponent u g q))
one_value (fin t zero e) (fin u (suc n) g) s c k h p q v w = not_zero n (expo e g) (expo g e) (cross 0 (suc n) c k e g h v.1 w.1)
one_value (fin t (suc m) e) (fin u zero g) s c k h p q v w = not_zero m (expo g e) (expo e g) (cross 0 (suc m) c k g e h w.1 v.1)
one_value (fin t (suc m) e) (fin u (suc n) g) s c k h p q v w =
    let both = odd_part (suc m) (suc n) (expo e g) (expo g e) (significand_odd t m e p) (significand_odd u n g q) (cross (suc m) (suc n) c k e g h v.1 w.1) in
    same_float (v.0 ∙ sym w.0) both.0 (same_expo e g both.1)
