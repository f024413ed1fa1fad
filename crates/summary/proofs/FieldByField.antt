-- The fields of bytes: none, a part of one, or one and then the fields of what follows it.
use mathlib.Core.Path.{◌≡◌, refl, sym, ◌∙◌, ap, ap₂, subst}
use Prim.Native.Nat.{ℕ, zero, suc, ◌≤◌, ◌<◌}
use native.Mathlib.Omega.{arith}
use mathlib.Core.Bool.{cond}
use mathlib.Core.List.{List, [], ◌∷◌}
use lib.ListN.{length, take, drop, get_or, length-drop}
use lib.Dec.{eqb, ltb}
use borrow.Author.Tests.{eq-eqb, ne_eqb, lt-ltb, le-ltb}
use Rattle.std.specs.Prelude.{Option, Some, None, IfSome, Ok}
use Rattle.std.specs.Borrow.{Bor}
use Rattle.summary.specs.declared.reader.Field.{Field}
use Rattle.summary.specs.Reader.{Cut, CutAs, before_fields, field_or, next_in}
use Rattle.summary.specs.Fields.{Fields, whole, faulty, tagged, size_of, span_of, fields_by, fields_of}

-- more steps than there are bytes change nothing
fields_same : (j k : ℕ) (l : List ℕ) → length l ≤ j → length l ≤ k → fields_by j l ≡ fields_by k l
unfolding fields_by
fields_same zero zero l f g = refl
fields_same zero (suc k) l f g = let z : length l ≡ 0 = omega arith in rw (eq-eqb _ _ z)
fields_same (suc j) zero l f g = let z : length l ≡ 0 = omega arith in rw (eq-eqb _ _ z)
fields_same (suc j) (suc k) l f g =
    ap (λ (r : Fields). cond (eqb (length l) 0) whole (cond (ltb (length l) (span_of l)) faulty (tagged (get_or l 0 0) (take (size_of l) (drop 3 l)) r)))
    (fields_same j k (drop (span_of l) l) (omega (arith, length-drop (span_of l) l)) (omega (arith, length-drop (span_of l) l)))

pub fields_none : (l : List ℕ) → length l ≡ 0 → fields_of l ≡ whole
unfolding fields_of fields_by
fields_none [] h = refl
fields_none (b ∷ l) h = absurd (omega arith)

pub fields_cut : (l : List ℕ) → 0 < length l → length l < span_of l → fields_of l ≡ faulty
unfolding fields_of fields_by
fields_cut [] h g = absurd (omega arith)
fields_cut (b ∷ l) h g = rw (ne_eqb (length (b ∷ l)) 0 (λ e. omega arith), lt-ltb (length (b ∷ l)) (span_of (b ∷ l)) g)

pub fields_next : (l : List ℕ) → span_of l ≤ length l
    → fields_of l ≡ tagged (get_or l 0 0) (take (size_of l) (drop 3 l)) (fields_of (drop (span_of l) l))
unfolding fields_of fields_by
fields_next [] h = absurd (omega arith)
fields_next (b ∷ l) h =
    rw (ne_eqb (length (b ∷ l)) 0 (λ e. omega arith), le-ltb (length (b ∷ l)) (span_of (b ∷ l)) h)
    (ap (tagged b (take (size_of (b ∷ l)) (drop 3 (b ∷ l))))
    (fields_same (length l) (length (drop (span_of (b ∷ l)) (b ∷ l))) (drop (span_of (b ∷ l)) (b ∷ l)) (omega (arith, length-drop (span_of (b ∷ l)) (b ∷ l))) (omega arith)))

-- a field was taken off the front, or is cut
module _ (l : List ℕ) {found : Option (ℕ × Bor (List ℕ) × Bor (List ℕ))} (c : CutAs l found) where
  pub cut_faulty : 0 < length l → found ≡ None → fields_of l ≡ faulty
  cut_faulty h e = let short : length l < span_of l = subst (CutAs l) e c in fields_cut l h short

  module _ {tag : ℕ} {contents rest : Bor (List ℕ)} (e : found ≡ Some (tag, contents, rest)) where
    taken : Cut l tag contents.now rest.now
    taken = subst (CutAs l) e c

    pub cut_tagged : fields_of l ≡ tagged tag contents.now (fields_of rest.now)
    cut_tagged =
        fields_next l taken.long
        ∙ ap (λ (t : ℕ). tagged t (take (size_of l) (drop 3 l)) (fields_of (drop (span_of l) l))) (sym taken.tagged)
        ∙ ap₂ (λ (c r : List ℕ). tagged tag c (fields_of r)) (sym taken.contained) (sym taken.left)

    pub cut_shorter : length rest.now < length l
    cut_shorter = omega (arith, taken.long, ap length taken.left, length-drop (span_of l) l)

-- what `next_field` found: a field, with the bytes after it, or none
module _ {f : Fields} {o : Option (Field × Bor (List ℕ))} (e : f ≡ next_in (Ok o)) where
  pub next_none : o ≡ None → f ≡ whole
  next_none g = e ∙ ap (λ (o : Option (Field × Bor (List ℕ))). next_in (Ok o)) g

  pub next_found : {field same : Field} {after : Bor (List ℕ)} → o ≡ Some (field, after) → field ≡ same → f ≡ before_fields same (fields_of after.now)
  next_found {field} {same} {after} g h = e ∙ ap (λ (o : Option (Field × Bor (List ℕ))). next_in (Ok o)) g ∙ ap (λ (x : Field). before_fields x (fields_of after.now)) h

pub next_shorter : {n : ℕ} {o : Option (Field × Bor (List ℕ))} {field : Field} {after : Bor (List ℕ)} → IfSome o (λ next. length next.1.now < n) → o ≡ Some (field, after) → length after.now < n
next_shorter {n} s g = subst (λ (o : Option (Field × Bor (List ℕ))). IfSome o (λ next. length next.1.now < n)) g s

pub field_is : {o p : Option Field} → o ≡ p → (rest : Fields) → field_or (Ok o) rest ≡ field_or (Ok p) rest
field_is e rest = ap (λ (o : Option Field). field_or (Ok o) rest) e
