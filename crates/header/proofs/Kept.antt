-- Each law of specs/Promises.antt, proved.
use mathlib.Core.Path.{◌≡◌, refl, ap}
use Prim.Native.Nat.{ℕ}
use native.Mathlib.Omega.{arith}
use mathlib.Core.Bool.{false}
use lib.ListN.{length}
use lib.Dec.{ltb}
use Rattle.std.proofs.Common.{Option, None}
use Rattle.header.specs.declared.side.Side.TheVariants.{Width, Height}
use Rattle.header.specs.Sides.{is_digit, value_of, with_value, unsaid}
use Rattle.header.specs.Header.{header_of}
use Rattle.header.specs.Promises.{BadWith, NoSeparator, Within, HeaderWithin}
use Rattle.header.proofs.Digits.{not_value}
use Rattle.rows.proofs.Chosen.{cond_holds}
use Rattle.header.proofs.Within.{Small, lines_within}

bad_with : (c : ℕ) → is_digit c ≡ false → (c ≡ 32 → ⊥) → (c ≡ 58 → ⊥) → BadWith c
bad_with c digit space colon limit t s i p e =
    let none : value_of t ≡ None = not_value c digit space colon t i p e in
    (ap (λ (v : Option ℕ). with_value Width limit v s) none, ap (λ (v : Option ℕ). with_value Height limit v s) none)

pub no_separator : NoSeparator
no_separator =
    record {
      comma = bad_with 44 refl (λ e. omega arith) (λ e. omega arith);
      point = bad_with 46 refl (λ e. omega arith) (λ e. omega arith);
    }

pub header_within : HeaderWithin
unfolding header_of
header_within limit some bytes =
    let unknown : Small limit unsaid = record { width = tt; height = tt } in
    cond_holds (Within limit (length bytes)) (ltb 1073741824 (length bytes)) (λ e. omega arith)
    (λ e. lines_within limit some (length bytes) (length bytes) bytes 0 unsaid unknown (omega arith))
