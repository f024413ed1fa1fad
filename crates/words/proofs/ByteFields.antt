-- Fields of whole bytes: the number that bytes make, divided into the bytes above a place and those below.
use mathlib.Core.Path.{◌≡◌, sym, ◌∙◌, ap}
use Prim.Native.Nat.{ℕ, zero, suc, ◌+◌, ◌*◌, ◌/◌, ◌%◌, ◌^◌}
use native.Mathlib.Omega.{arith}
use native.Mathlib.Nat.{zero-div, zero-mod, div-one, mod-one}
use mathlib.Core.List.{List, [], ◌∷◌}
use lib.Dec.{lit<}
use lib.ListN.{take, drop}
use lib.Pow.{shr-shr, mod-pow-add}
use lib.Seq.{get_or-drop}
use Rattle.words.specs.Words.{value}
use Rattle.words.specs.Fields.{field}
use Rattle.words.specs.Promises.{Bytes}
use Rattle.words.proofs.BitFields.{field_is}

-- the bytes after the first are bytes, and those from a place on
bytes_after : (c : ℕ) (l : List ℕ) → Bytes (c ∷ l) → Bytes l
bytes_after c l h i = h (suc i)

bytes_from : (l : List ℕ) → Bytes l → (k : ℕ) → Bytes (drop k l)
bytes_from l h k i = rw (get_or-drop) (h (k + i))

bytes_first : (l : List ℕ) → Bytes l → (k : ℕ) → Bytes (take k l)
bytes_first l h zero i = lit< tt
bytes_first [] h (suc k) i = lit< tt
bytes_first (c ∷ l) h (suc k) zero = h 0
bytes_first (c ∷ l) h (suc k) (suc i) = bytes_first l (bytes_after c l h) k i

-- and a part of them
pub bytes_part : (l : List ℕ) → Bytes l → (at k : ℕ) → Bytes (take k (drop at l))
bytes_part l h at k = bytes_first (drop at l) (bytes_from l h at) k

-- what lies above the first k bytes
value_above : (l : List ℕ) → Bytes l → (k : ℕ) → value l / 2 ^ (k * 8) ≡ value (drop k l)
value_above l h zero = div-one (value l)
value_above [] h (suc k) = zero-div (2 ^ (suc k * 8))
value_above (c ∷ l) h (suc k) =
    let long : suc k * 8 ≡ 8 + k * 8 = omega arith in
    let rest : (c + 256 * value l) / 256 ≡ value l = omega (arith, h 0) in
    ap (λ (n : ℕ). (c + 256 * value l) / 2 ^ n) long
    ∙ sym (shr-shr (c + 256 * value l) 8 (k * 8))
    ∙ ap (λ (n : ℕ). n / 2 ^ (k * 8)) rest
    ∙ value_above l (bytes_after c l h) k

-- what lies in them
value_below : (l : List ℕ) → Bytes l → (k : ℕ) → value l % 2 ^ (k * 8) ≡ value (take k l)
value_below l h zero = mod-one (value l)
value_below [] h (suc k) = zero-mod (2 ^ (suc k * 8))
value_below (c ∷ l) h (suc k) =
    let long : suc k * 8 ≡ k * 8 + 8 = omega arith in
    let rest : (c + 256 * value l) / 256 ≡ value l = omega (arith, h 0) in
    let first : (c + 256 * value l) % 256 ≡ c = omega (arith, h 0) in
    ap (λ (n : ℕ). (c + 256 * value l) % 2 ^ n) long
    ∙ mod-pow-add (c + 256 * value l) (k * 8) 8
    ∙ ap (λ (n : ℕ). n % 2 ^ (k * 8) * 256 + (c + 256 * value l) % 256) rest
    ∙ ap (λ (n : ℕ). value l % 2 ^ (k * 8) * 256 + n) first
    ∙ ap (λ (n : ℕ). n * 256 + c) (value_below l (bytes_after c l h) k)
    ∙ omega arith

pub field_bytes : (l : List ℕ) → Bytes l → (from n : ℕ) → field (from * 8) (n * 8) (value l) ≡ value (take n (drop from l))
field_bytes l h from n =
    field_is (from * 8) (n * 8) (value l)
    ∙ ap (λ (k : ℕ). k % 2 ^ (n * 8)) (value_above l h from)
    ∙ value_below (drop from l) (bytes_from l h from) n
