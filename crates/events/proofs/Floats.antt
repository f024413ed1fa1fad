-- Singles of whole numbers, their exact quotients by a power of two, and patterns of bits.
use mathlib.Core.Path.{◌≡◌, refl, sym, ap, ◌∙◌, subst}
use mathlib.Core.Bool.{Bool, true, false, cond, not}
use Prim.Native.Nat.{ℕ, zero, suc, ◌+◌, ◌-◌, ◌*◌, ◌%◌, ◌^◌, ◌≤◌, ◌<◌}
use native.Mathlib.Nat.{mul_assoc, mul_comm, lt_trans}
use native.Mathlib.Omega.{arith}
use lib.Dec.{T, ltb, lt→ltb, lit<}
use lib.Pow.{shl_lt}
use lib.IntN.{ℤ, pos, negsuc, nat_abs}
use lib.Ieee.{Float, nan, inf, fin, Format, binary32, prec, low, emax, up, down, odd, units, round, neg, of_int, of_bits, to_bits, div, is_nan, nan_bits}
use lib.Ieee.Exact.{HasValue, round_exact}
use lib.Ieee.Back.{round_whole}
use lib.Ieee.Scale.{round_same}
use lib.Ieee.Fits.{down_pos}
use lib.Ieee.Bits.{nan_bits_is, nan_bits_above, to_bits-of_bits}
use borrow.Author.Tests.{lt-ltb, le-ltb, ltb-true, ltb-false}
use Rattle.events.specs.Readings.{signed_of, acceleration_of, rotation_of, single_of, is_negative, Times}

-- a negative number's single is that of its size, negated
neg_odd : (d q k l : ℕ) → neg (odd d false q k l) ≡ odd d true q k l
unfolding neg odd
neg_odd d zero k l = refl
neg_odd d (suc q) k l = refl

neg_units : (f : Format) (q k : ℕ) → neg (units f false q k) ≡ units f true q k
unfolding units neg
neg_units f q k = go (ltb (q * 2 ^ k) (2 ^ (low f + suc (emax f))))
  where
    go : (b : Bool) → neg (cond b (odd (suc (prec f)) false q k (low f)) (inf false)) ≡ cond b (odd (suc (prec f)) true q k (low f)) (inf true)
    go true = neg_odd (suc (prec f)) q k (low f)
    go false = refl

neg_whole : (f : Format) (k : ℕ) → neg (of_int f (pos (suc k))) ≡ of_int f (negsuc k)
unfolding of_int round
neg_whole f k = neg_units f _ _

-- a count from 32,768 up is negative
signed_low : (c : ℕ) → c < 32768 → signed_of c ≡ pos c
signed_low c h = simp (lt-ltb _ _ h)

signed_high : (c : ℕ) → 32768 ≤ c → c < 65536 → signed_of c ≡ negsuc (65536 - suc c)
signed_high c h g = simp (le-ltb _ _ h, lt-ltb _ _ g)

-- the code's single of a count from 32,768 up
pub signed_negative : (c : ℕ) → 32768 ≤ c → c < 65536 → neg (of_int binary32 (pos (65535 - c + 1))) ≡ of_int binary32 (signed_of c)
signed_negative c h g =
    let e : 65535 - c + 1 ≡ suc (65536 - suc c) = omega arith in
    ap (λ (k : ℕ). neg (of_int binary32 (pos k))) e ∙ neg_whole binary32 (65536 - suc c) ∙ ap (of_int binary32) (sym (signed_high c h g))

-- the single of a whole number of at most 24 bits is that number
whole_exact : (z : ℤ) → nat_abs z ≤ 2 ^ 24 → Times (of_int binary32 z) 1 z
unfolding of_int
whole_exact (pos n) h = round_whole binary32 false n h
whole_exact (negsuc n) h = round_whole binary32 true (suc n) h

-- n / 16,384 is a single, whatever fraction of that size it is rounded from
quotient : (t : Bool) (a d n : ℕ) → 0 < d → n < 2 ^ 24 → a * 1 ≡ n * d → HasValue (round binary32 t (a * 1) (16384 * d)) t n 16384
quotient t a d n p h e =
    let same : a * 1 * 16384 ≡ n * (16384 * d) = ap (λ (x : ℕ). x * 16384) e ∙ mul_assoc n d 16384 ∙ ap (λ (x : ℕ). n * x) (mul_comm d 16384) in
    subst (λ (x : Float). HasValue x t n 16384)
    (sym (round_same binary32 t (a * 1) (16384 * d) n 16384 (omega arith) (lit< tt) same))
    (round_exact binary32 t n 16384 n 135 (lit< tt) h (lt_trans (shl_lt 24 135 h) (lit< tt)) (sym (mul_assoc n (2 ^ 135) 16384)))

-- a whole number of 24 bits, divided by 16,384, loses nothing
quotient_exact : (x : Float) (s : Bool) (n : ℕ) → n < 2 ^ 24 → HasValue x s n 1 → HasValue (div binary32 x (fin false 1 (pos 14))) s n 16384
unfolding div
quotient_exact nan s n h v = elim v [ ]
quotient_exact (inf i) s n h v = elim v [ ]
quotient_exact (fin true m e) s n h v =
    subst (λ (t : Bool). HasValue (round binary32 true (m * up e * 1) (16384 * down e)) t n 16384) v.0 (quotient true (m * up e) (down e) n (down_pos e) h v.1)
quotient_exact (fin false m e) s n h v =
    subst (λ (t : Bool). HasValue (round binary32 false (m * up e * 1) (16384 * down e)) t n 16384) v.0 (quotient false (m * up e) (down e) n (down_pos e) h v.1)

rounded : (t : Bool) (m : ℕ) (e : ℤ) (s : Bool) (n : ℕ) → HasValue (fin t m e) s n 1 → round binary32 t (m * up e * 1) (131 * down e) ≡ round binary32 s n 131
rounded t m e s n v =
    let same : m * up e * 1 * 131 ≡ n * (131 * down e) = ap (λ (x : ℕ). x * 131) v.1 ∙ mul_assoc n (down e) 131 ∙ ap (λ (x : ℕ). n * x) (mul_comm (down e) 131) in
    round_same binary32 t (m * up e * 1) (131 * down e) n 131 (omega (arith, down_pos e)) (lit< tt) same
    ∙ ap (λ (b : Bool). round binary32 b n 131) v.0

signed_small : (c : ℕ) → c < 65536 → nat_abs (signed_of c) < 2 ^ 24
signed_small c h = go (ltb c 32768) refl
  where
    go : (t : Bool) → ltb c 32768 ≡ t → nat_abs (signed_of c) < 2 ^ 24
    go true e = subst (λ (z : ℤ). nat_abs z < 2 ^ 24) (sym (signed_low c (ltb-true _ _ e))) (omega arith)
    go false e = subst (λ (z : ℤ). nat_abs z < 2 ^ 24) (sym (signed_high c (ltb-false _ _ e) h)) (omega arith)

-- and divided by 131 it is rounded once
quotient_rounded : (x : Float) (s : Bool) (n : ℕ) → HasValue x s n 1 → div binary32 x (fin false 131 (pos 0)) ≡ round binary32 s n 131
unfolding div
quotient_rounded nan s n v = elim v [ ]
quotient_rounded (inf i) s n v = elim v [ ]
quotient_rounded (fin true m e) s n v = rounded true m e s n v
quotient_rounded (fin false m e) s n v = rounded false m e s n v

divisor : of_int binary32 (pos 16384) ≡ fin false 1 (pos 14)
unfolding of_int
divisor = refl

divisor_131 : of_int binary32 (pos 131) ≡ fin false 131 (pos 0)
unfolding of_int
divisor_131 = refl

-- the code's divisors
pub divisor_bits : of_bits binary32 1182793728 ≡ of_int binary32 (pos 16384)
unfolding of_bits of_int
divisor_bits = refl

pub divisor_bits_131 : of_bits binary32 1124270080 ≡ of_int binary32 (pos 131)
unfolding of_bits of_int
divisor_bits_131 = refl

pub acceleration_exact : (c : ℕ) → c < 65536 → Times (acceleration_of c) 16384 (signed_of c)
unfolding acceleration_of
acceleration_exact c h =
    let z : ℤ = signed_of c in
    subst (λ (d : Float). Times (div binary32 (of_int binary32 z) d) 16384 z) (sym divisor)
    (quotient_exact (of_int binary32 z) (is_negative z) (nat_abs z) (signed_small c h) (whole_exact z (omega (arith, signed_small c h))))

pub rotation_rounded : (c : ℕ) → c < 65536 → rotation_of c ≡ round binary32 (is_negative (signed_of c)) (nat_abs (signed_of c)) 131
unfolding rotation_of
rotation_rounded c h =
    let z : ℤ = signed_of c in
    ap (div binary32 (of_int binary32 z)) divisor_131
    ∙ quotient_rounded (of_int binary32 z) (is_negative z) (nat_abs z) (whole_exact z (omega (arith, signed_small c h)))

pub acceleration_zero : acceleration_of 0 ≡ fin false 0 (pos 0)
unfolding acceleration_of div of_int
acceleration_zero = refl

-- a quotient of zeros is the NaN
pub zero_over_zero : div binary32 (of_bits binary32 0) (of_bits binary32 0) ≡ nan
unfolding div of_bits
zero_over_zero = refl

is_nan_lem : (x : Float) → T (is_nan x) → x ≡ nan
unfolding is_nan
is_nan_lem nan t = refl
is_nan_lem (inf s) t = absurd t
is_nan_lem (fin s m e) t = absurd t

-- a pattern whose lower 31 bits are above an infinity's is a NaN's, and no other is
pub pattern_nan : (n : ℕ) → 2139095040 < n % 2147483648 → single_of n ≡ nan
pattern_nan n h = is_nan_lem (of_bits binary32 n) (subst T (sym (nan_bits_above binary32 n) ∙ nan_bits_is binary32 n) (lt→ltb 2139095040 (n % 2147483648) h))

pub pattern_number : (n : ℕ) → n % 2147483648 ≤ 2139095040 → T (not (nan_bits binary32 n))
pattern_number n h = subst (λ (b : Bool). T (not b)) (sym (nan_bits_above binary32 n ∙ le-ltb 2139095040 (n % 2147483648) h)) tt

-- a number's single has the bits that it was made from
pub single_bits : (n : ℕ) → n < 4294967296 → n % 2147483648 ≤ 2139095040 → to_bits binary32 (single_of n) ≡ n
single_bits n h g = to_bits-of_bits binary32 n h (subst (λ (b : Bool). T (not b)) (nan_bits_is binary32 n) (pattern_number n g))
