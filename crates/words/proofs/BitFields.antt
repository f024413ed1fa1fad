-- Bit fields, for every position and width.
use mathlib.Core.Path.{◌≡◌, refl, sym, ◌∙◌, ap, ap₂, subst}
use Prim.Native.Nat.{ℕ, zero, suc, ◌+◌, ◌-◌, ◌*◌, ◌/◌, ◌%◌, ◌^◌, ◌≤◌, ◌<◌}
use native.Mathlib.Omega.{arith}
use native.Mathlib.Nat.{mod-lt, mul_assoc, mul_comm, add-mul, div-one, mul-add-div_right, mul-add-mod_self_right}
use lib.Pow.{pow_pos, pow-add, shr-shr, split, high, low}
use Rattle.words.specs.Fields.{field, typed, placed}

-- at every position a field is a quotient's remainder
pub field_is : (at width w : ℕ) → field at width w ≡ w / 2 ^ at % 2 ^ width
field_is zero width w = ap (λ (n : ℕ). n % 2 ^ width) (sym (div-one w))
field_is (suc at) width w = refl

pub field_small : (at width w : ℕ) → field at width w < 2 ^ width
field_small at width w = subst (λ (n : ℕ). n < 2 ^ width) (sym (field_is at width w)) (mod-lt (w / 2 ^ at) (pow_pos width))

-- what lies in a field and above it, as one number over what lies below
above : (at width top mid : ℕ) → top * 2 ^ (at + width) + mid * 2 ^ at ≡ (top * 2 ^ width + mid) * 2 ^ at
above at width top mid =
    ap (λ (n : ℕ). top * n + mid * 2 ^ at) (pow-add 2 at width ∙ mul_comm (2 ^ at) (2 ^ width))
    ∙ ap (λ (n : ℕ). n + mid * 2 ^ at) (sym (mul_assoc top (2 ^ width) (2 ^ at)))
    ∙ sym (add-mul (top * 2 ^ width) mid (2 ^ at))

pub field_placed : (at width top mid bottom : ℕ) → mid < 2 ^ width → bottom < 2 ^ at → field at width (placed at width top mid bottom) ≡ mid
field_placed at width top mid bottom h g =
    field_is at width (placed at width top mid bottom)
    ∙ ap (λ (n : ℕ). (n + bottom) / 2 ^ at % 2 ^ width) (above at width top mid)
    ∙ ap (λ (n : ℕ). n % 2 ^ width) (high (top * 2 ^ width + mid) at g)
    ∙ low top width h

pub field_parts : (at width w : ℕ) → placed at width (w / 2 ^ (at + width)) (field at width w) (field 0 at w) ≡ w
field_parts at width w =
    ap₂ (λ (n m : ℕ). n * 2 ^ (at + width) + m * 2 ^ at + w % 2 ^ at) (sym (shr-shr w at width)) (field_is at width w)
    ∙ ap (λ (n : ℕ). n + w % 2 ^ at) (above at width (w / 2 ^ at / 2 ^ width) (w / 2 ^ at % 2 ^ width))
    ∙ ap (λ (n : ℕ). n * 2 ^ at + w % 2 ^ at) (split (w / 2 ^ at) width)
    ∙ split w at

-- a type over what lies below it
pub type_found : (at width top below : ℕ) → top < 2 ^ width → below < 2 ^ at → field at width (typed at top below) ≡ top
type_found at width top below h g =
    let none : 0 * 2 ^ (at + width) + top * 2 ^ at + below ≡ top * 2 ^ at + below = omega arith in
    ap (field at width) (sym none) ∙ field_placed at width 0 top below h g

pub type_below : (at top below i width : ℕ) → i + width ≤ at → field i width (typed at top below) ≡ field i width below
type_below at top below i width h =
    let k : ℕ = at - (i + width) in
    let whole : at ≡ k + width + i = omega arith in
    let power : 2 ^ at ≡ 2 ^ k * 2 ^ width * 2 ^ i = ap (λ (n : ℕ). 2 ^ n) whole ∙ pow-add 2 (k + width) i ∙ ap (λ (n : ℕ). n * 2 ^ i) (pow-add 2 k width) in
    let product : top * 2 ^ at ≡ top * 2 ^ k * 2 ^ width * 2 ^ i =
    ap (λ (n : ℕ). top * n) power ∙ sym (mul_assoc top (2 ^ k * 2 ^ width) (2 ^ i)) ∙ ap (λ (n : ℕ). n * 2 ^ i) (sym (mul_assoc top (2 ^ k) (2 ^ width))) in
    field_is i width (typed at top below)
    ∙ ap (λ (n : ℕ). (n + below) / 2 ^ i % 2 ^ width) product
    ∙ ap (λ (n : ℕ). n % 2 ^ width) (mul-add-div_right (pow_pos i) (top * 2 ^ k * 2 ^ width) below)
    ∙ mul-add-mod_self_right (top * 2 ^ k) (2 ^ width) (below / 2 ^ i)
    ∙ sym (field_is i width below)
