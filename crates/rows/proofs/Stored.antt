-- Rows one after the other in a list of numbers, and what storing them leaves.
use mathlib.Core.Path.{◌≡◌, refl, sym, ◌∙◌, ap}
use Prim.Native.Nat.{ℕ, suc, ◌+◌, ◌*◌, ◌≤◌, ◌<◌}
use native.Mathlib.Nat.{add-suc, suc-add, add-zero, le_antisymm}
use native.Mathlib.Omega.{arith}
use mathlib.Core.Bool.{Bool, true, false, cond}
use mathlib.Core.List.{List, [], ◌∷◌, ◌++◌}
use lib.ListN.{length, take, drop, set}
use lib.Seq.{sets, length-sets, sets-eq, paste, take-length}
use lib.Dec.{ltb}
use borrow.Rule.Slice.PartMut.{put_mid}
use Rattle.std.proofs.lemmas.Slice.{put_mid-paste}
use borrow.Author.Tests.{ltb-true, ltb-false}
use Rattle.rows.specs.declared.row.Row.{Row}
use Rattle.rows.specs.Row.{numbers, flat, over, room_of, PutRow}

pub flat_append : (a b : List Row) → flat (a ++ b) ≡ flat a ++ flat b
flat_append [] b = refl
flat_append (r ∷ a) b = ap (λ (l : List ℕ). numbers r ++ l) (flat_append a b)

-- ten numbers a row
pub flat_length : (a : List Row) → length (flat a) ≡ length a * 10
flat_length [] = refl
flat_length (r ∷ a) = omega (arith, flat_length a)

pub sets_append : (a b l : List ℕ) (i : ℕ) → sets l i (a ++ b) ≡ sets (sets l i a) (i + length a) b
sets_append [] b l i = ap (λ (k : ℕ). sets l k b) (sym (add-zero i))
sets_append (v ∷ a) b l i =
    sets_append a b (set l i v) (suc i)
    ∙ ap (λ (k : ℕ). sets (sets l i (v ∷ a)) k b) (suc-add i (length a) ∙ sym (add-suc i (length a)))

-- stored from the front on, numbers lie over what was there
pub sets_over : (vs l : List ℕ) → length vs ≤ length l → sets l 0 vs ≡ over vs l
sets_over vs l h =
    let e : 0 + length vs ≡ length vs = omega arith in
    sets-eq vs l 0 (omega arith) ∙ ap (λ (k : ℕ). vs ++ drop k l) e

-- a copy of all of s
pub paste_all : (l : List ℕ) (at : ℕ) (s : List ℕ) (k : ℕ) → k ≤ length s → length s ≤ k → at + length s ≤ length l → paste l at s k ≡ sets l at s
paste_all l at s k h g f =
    ap (paste l at s) (le_antisymm h g) ∙ ap (λ (t : List ℕ). take at l ++ t ++ drop (at + length s) l) (take-length s) ∙ sym (sets-eq s l at f)

-- what a write of all of s to the part of l from a place on leaves, `held` being what the part then holds
pub part_written : (l : List ℕ) (at k : ℕ) (held s : List ℕ) → held ≡ s → k ≡ length s → at + length s ≤ length l → put_mid at k l held ≡ sets l at s
part_written l at k held s e h f = put_mid-paste at k l held s (length s) e (sym h) refl ∙ paste_all l at s (length s) (omega arith) (omega arith) f

module _ {old : List ℕ} {i : ℕ} {row : Row} where
  -- what the answer says
  pub put_row_fits : {new : List ℕ} {r : Bool} → PutRow old i row new r → r ≡ true → (i < room_of old) × (new ≡ sets old (i * 10) (numbers row))
  put_row_fits {new} {r} h e =
      let t : ltb i (room_of old) ≡ true = sym h.fits ∙ e in
      (ltb-true _ _ t, h.wrote ∙ rw t)

  pub put_row_full : {new : List ℕ} {r : Bool} → PutRow old i row new r → r ≡ false → (room_of old ≤ i) × (new ≡ old)
  put_row_full {new} {r} h e =
      let t : ltb i (room_of old) ≡ false = sym h.fits ∙ e in
      (ltb-false _ _ t, h.wrote ∙ rw t)

  pub put_row_length : {new : List ℕ} {r : Bool} → PutRow old i row new r → length new ≡ length old
  put_row_length h = ap length h.wrote ∙ go (ltb i (room_of old))
    where
      go : (t : Bool) → length (cond t (sets old (i * 10) (numbers row)) old) ≡ length old
      go true = length-sets old (i * 10) (numbers row)
      go false = refl
