-- The bytes of a number make the number.
use mathlib.Core.Path.{◌≡◌, ◌∙◌, ap}
use Prim.Native.Nat.{ℕ, zero, suc, ◌+◌, ◌*◌, ◌/◌, ◌%◌, ◌^◌, ◌<◌}
use native.Mathlib.Omega.{arith}
use native.Mathlib.Nat.{pow-suc}
use Rattle.words.specs.Words.{value, bytes_of}

-- a number that has room in so many bytes is read from them
pub value_bytes : (k w : ℕ) → w < 256 ^ k → value (bytes_of k w) ≡ w
unfolding bytes_of
value_bytes zero w h = omega arith
value_bytes (suc k) w h =
    let small : w / 256 < 256 ^ k = omega (arith, pow-suc 256 k) in
    ap (λ (n : ℕ). w % 256 + 256 * n) (value_bytes k (w / 256) small) ∙ omega arith
