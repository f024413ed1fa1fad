-- An IMU's readings as single-precision numbers. 01, "Rows".
use Rattle.std.specs.Prelude.{ℕ, Bool, true, false, cond, ltb, ℤ, pos, negsuc, nat_abs, ◌-ℤ◌, Float}
use Rattle.std.specs.Float.{binary32}
use Rattle.std.specs.Float.Ieee.{of_bits, of_int, div}
use Rattle.std.specs.Float.Ieee.Exact.{HasValue}

-- a count means itself below 32,768, else itself less 65,536
abbrev pub signed_of : ℕ → ℤ
signed_of c = cond (ltb c 32768) (pos c) (pos c -ℤ pos 65536)

-- the signed count over 16,384, and over 131, as one division of singles
unfoldable pub acceleration_of : ℕ → Float
acceleration_of c = div binary32 (of_int binary32 (signed_of c)) (of_int binary32 (pos 16384))

unfoldable pub rotation_of : ℕ → Float
rotation_of c = div binary32 (of_int binary32 (signed_of c)) (of_int binary32 (pos 131))

-- the single of a pattern of 32 bits; a NaN's pattern gives the one NaN of the logic
abbrev pub single_of : ℕ → Float
single_of n = of_bits binary32 n

-- the sign of a count
abbrev pub is_negative : ℤ → Bool
is_negative (pos n) = false
is_negative (negsuc n) = true

-- x is finite, and its value times k is exactly n; where n is 0, x is +0
abbrev pub Times : Float → ℕ → ℤ → Type 0
Times x k n = HasValue x (is_negative n) (nat_abs n) k
