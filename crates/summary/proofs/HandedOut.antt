-- The numbers of blocks, handed out one block after the other.
use mathlib.Core.Path.{◌≡◌, sym, ◌∙◌, ap, ap₂}
use Prim.Native.Nat.{ℕ, ◌+◌, ◌*◌, ◌/◌, ◌≤◌}
use native.Mathlib.Omega.{arith}
use mathlib.Core.List.{List, [], ◌∷◌}
use lib.ListN.{length}
use lib.Seq.{sets, length-sets}
use Rattle.std.proofs.lemmas.List.{nil_from_length}
use Rattle.std.specs.Prelude.{Option, Some, None, Result, Ok, Err}
use Rattle.std.specs.Borrow.{Bor}
use Rattle.std.specs.Result.{result_unwrap_or}
use Rattle.rows.proofs.Stored.{sets_append}
use Rattle.summary.specs.declared.Block.{Block}
use Rattle.summary.specs.declared.reader.Field.{Field}
use Rattle.summary.specs.declared.reader.Refusal.{Refusal}
use Rattle.summary.specs.Blocks.{ten_of, tens_of}
use Rattle.summary.specs.Fields.{Fields, fields_of}
use Rattle.summary.specs.Reader.{before_fields, next_in, front_blocks, HandedOut}
use Rattle.summary.proofs.EachOf.{each_next, each_none}
use Rattle.summary.proofs.FieldByField.{next_found, next_none}

-- the numbers of j blocks are put, and with those of the blocks that `rest` begins with the buffer becomes what it is to be
pub record HandingOut (l old rest out : List ℕ) (j : ℕ) : Type 0 where
  pub long : length out ≡ length old
  pub many : j + length (front_blocks (fields_of rest)) ≡ length (front_blocks (fields_of l))
  pub same : sets out (j * 10) (tens_of (front_blocks (fields_of rest))) ≡ sets old 0 (tens_of (front_blocks (fields_of l)))

module _ {l old rest out : List ℕ} {j : ℕ} (h : HandingOut l old rest out j) where
  pub hand_next : (after : List ℕ) {b : Block} → fields_of rest ≡ Fields.block b (fields_of after) → {new : List ℕ} → new ≡ sets out (j * 10) (ten_of b) → HandingOut l old after new (j + 1)
  hand_next after {b} e {new} f =
      let next : front_blocks (fields_of rest) ≡ b ∷ front_blocks (fields_of after) = ap front_blocks e in
      let place : (j + 1) * 10 ≡ j * 10 + length (ten_of b) = omega arith in
      record {
        long = ap length f ∙ length-sets out (j * 10) (ten_of b) ∙ h.long;
        many = omega (arith, h.many, ap length next);
        same =
            ap₂ (λ (o : List ℕ) (k : ℕ). sets o k (tens_of (front_blocks (fields_of after)))) f place
            ∙ sym (sets_append (ten_of b) (tens_of (front_blocks (fields_of after))) out (j * 10))
            ∙ ap (sets out (j * 10)) (sym (each_next ten_of b (front_blocks (fields_of after))) ∙ ap tens_of (sym next))
            ∙ h.same;
      }

  pub hand_done : front_blocks (fields_of rest) ≡ [] → HandedOut (fields_of l) old out
  hand_done e =
      record { long = h.long; wrote = λ f. ap (sets out (j * 10)) (sym (each_none ten_of)) ∙ ap (λ (bs : List Block). sets out (j * 10) (tens_of bs)) (sym e) ∙ h.same }

  pub hand_full : length old / 10 ≤ j → HandedOut (fields_of l) old out
  hand_full g = record { long = h.long; wrote = λ f. (hand_done (nil_from_length (front_blocks (fields_of rest)) (omega (arith, h.many)))).wrote f }

-- the next field, where a fault ends the blocks as the end does
pub front_found : (r : Result (Option (Field × Bor (List ℕ))) Refusal) {f : Fields} → f ≡ next_in r → {field same : Field} {after : Bor (List ℕ)} → Some (field, after) ≡ result_unwrap_or r None
    → field ≡ same → f ≡ before_fields same (fields_of after.now)
front_found (Ok o) e g h = next_found e (sym g) h
front_found (Err x) e g h = absurd cc

pub front_none : (r : Result (Option (Field × Bor (List ℕ))) Refusal) {f : Fields} → f ≡ next_in r → None ≡ result_unwrap_or r None → front_blocks f ≡ []
front_none (Ok o) e g = ap front_blocks (next_none e (sym g))
front_none (Err x) e g = ap front_blocks e
