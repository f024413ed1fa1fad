-- The rows of a list of numbers, and the numbers of a list of rows.
use mathlib.Core.Path.{◌≡◌, refl, sym, ◌∙◌, ap, ap₂}
use Prim.Native.Nat.{ℕ, zero, suc, ◌+◌, ◌-◌, ◌*◌, ◌/◌, ◌%◌, ◌≤◌, ◌<◌}
use native.Mathlib.Numerals.{add-one}
use native.Mathlib.Omega.{arith}
use native.Mathlib.Nat.{add_assoc}
use mathlib.Core.Bool.{Bool, true, false, cond}
use mathlib.Core.List.{List, [], ◌∷◌, ◌++◌}
use lib.ListN.{length, take, drop, get_or, length-drop}
use lib.Dec.{ltb}
use lib.Seq.{drop-cons, drop-drop, take-add, take_all, get_or-append-add}
use borrow.Author.Tests.{ltb-true, ltb-false}
use Rattle.rows.specs.declared.row.Row.{Row}
use Rattle.std.specs.Prelude.{Some, None}
use Rattle.rows.specs.Row.{numbers, flat, Narrow, room_of, row_from, row_at, rows_from, rows_of}
use Rattle.rows.proofs.Stored.{flat_length}

-- the k numbers from a place on, one by one
abbrev pub reads : List ℕ → ℕ → ℕ → List ℕ
reads l zero at = []
reads l (suc k) at = get_or l at 0 ∷ reads l k (suc at)

pub reads_take : (l : List ℕ) (k at : ℕ) → at + k ≤ length l → reads l k at ≡ take k (drop at l)
reads_take l zero at h = refl
reads_take l (suc k) at h =
    let g : at < length l = omega arith in
    rw (drop-cons l at 0 g) (ap (λ (t : List ℕ). get_or l at 0 ∷ t) (reads_take l k (suc at) (omega arith)))

-- a part of a slice from a place to its end
pub part_rest : (at : ℕ) (l : List ℕ) → take (length l - at) (drop at l) ≡ drop at l
part_rest at l = take_all (length l - at) (drop at l) (omega (arith, length-drop at l))

-- the row at a place is what stands there
row_numbers_lem : (l : List ℕ) (at : ℕ) → at + 10 ≤ length l → numbers (row_from l at) ≡ take 10 (drop at l)
unfolding row_from
row_numbers_lem l at h =
    let e₁ : at + 1 ≡ suc at = omega arith in
    let e₂ : at + 2 ≡ suc (suc at) = omega arith in
    let e₃ : at + 3 ≡ suc (suc (suc at)) = omega arith in
    let e₄ : at + 4 ≡ suc (suc (suc (suc at))) = omega arith in
    let e₅ : at + 5 ≡ suc (suc (suc (suc (suc at)))) = omega arith in
    let e₆ : at + 6 ≡ suc (suc (suc (suc (suc (suc at))))) = omega arith in
    let e₇ : at + 7 ≡ suc (suc (suc (suc (suc (suc (suc at)))))) = omega arith in
    let e₈ : at + 8 ≡ suc (suc (suc (suc (suc (suc (suc (suc at))))))) = omega arith in
    let e₉ : at + 9 ≡ suc (suc (suc (suc (suc (suc (suc (suc (suc at)))))))) = omega arith in
    rw (e₁, e₂, e₃, e₄, e₅, e₆, e₇, e₈, e₉) (reads_take l 10 at h)

-- n rows from row i on are the numbers that stand there
flat_rows : (l : List ℕ) (n i : ℕ) → (i + n) * 10 ≤ length l → flat (rows_from l i n) ≡ take (n * 10) (drop (i * 10) l)
unfolding rows_from
flat_rows l zero i h = refl
flat_rows l (suc n) i h =
    let k : suc n * 10 ≡ 10 + n * 10 = omega arith in
    let j : i * 10 + 10 ≡ suc i * 10 = omega arith in
    ap₂ (λ (a b : List ℕ). a ++ b) (row_numbers_lem l (i * 10) (omega arith)) (flat_rows l n (suc i) (omega arith))
    ∙ ap (λ (m : ℕ). take 10 (drop (i * 10) l) ++ take (n * 10) (drop m l)) (sym j)
    ∙ ap (λ (t : List ℕ). take 10 (drop (i * 10) l) ++ take (n * 10) t) (sym (drop-drop 10 (i * 10) l))
    ∙ sym (take-add 10 (n * 10) (drop (i * 10) l))
    ∙ ap (λ (m : ℕ). take m (drop (i * 10) l)) (sym k)

pub flat_of_rows : (l : List ℕ) → length l % 10 ≡ 0 → flat (rows_of l) ≡ l
unfolding rows_of
flat_of_rows l h = flat_rows l (room_of l) 0 (omega arith) ∙ take_all (room_of l * 10) l (omega arith)

-- a row in front moves the others on by one
row_on : (r : Row) (l : List ℕ) (i : ℕ) → row_from (numbers r ++ l) (suc i * 10) ≡ row_from l (i * 10)
unfolding row_from
row_on r l i =
    let at : suc i * 10 ≡ 10 + i * 10 = omega arith in
    rw (at) (simp (add_assoc, get_or-append-add (numbers r) l))

rows_on : (r : Row) (l : List ℕ) (n i : ℕ) → rows_from (numbers r ++ l) (suc i) n ≡ rows_from l i n
unfolding rows_from
rows_on r l zero i = refl
rows_on r l (suc n) i = ap₂ (λ (a : Row) (b : List Row). a ∷ b) (row_on r l i) (rows_on r l n (suc i))

rows_flat : (rs : List Row) → rows_from (flat rs) 0 (length rs) ≡ rs
unfolding rows_from row_from
rows_flat [] = refl
rows_flat (r ∷ rs) = ap (λ (t : List Row). r ∷ t) (rows_on r (flat rs) (length rs) 0 ∙ rows_flat rs)

pub rows_of_flat : (rs : List Row) → rows_of (flat rs) ≡ rs
unfolding rows_of
rows_of_flat rs =
    let n : length (flat rs) / 10 ≡ length rs = omega (arith, flat_length rs) in
    ap (rows_from (flat rs) 0) n ∙ rows_flat rs

-- a list has as many rows as it has room for, and in a slice the lower half of each time has 32 bits
rows_length : (l : List ℕ) (n i : ℕ) → length (rows_from l i n) ≡ n
unfolding rows_from
rows_length l zero i = refl
rows_length l (suc n) i = ap suc (rows_length l n (suc i))

pub rows_of_length : (l : List ℕ) → length (rows_of l) ≡ room_of l
unfolding rows_of
rows_of_length l = rows_length l (room_of l) 0

abbrev pub AllNarrow : List Row → Type 0
AllNarrow [] = Unit {0}
AllNarrow (r ∷ rs) = (r.low < 4294967296) × AllNarrow rs

narrow_rows : (l : List ℕ) → Narrow l → (n i : ℕ) → AllNarrow (rows_from l i n)
unfolding rows_from row_from
narrow_rows l h zero i = tt
narrow_rows l h (suc n) i = (h (i * 10 + 1), narrow_rows l h n (suc i))

pub all_narrow : (l : List ℕ) → Narrow l → AllNarrow (rows_of l)
unfolding rows_of
all_narrow l h = narrow_rows l h (room_of l) 0

-- the rows of a list from row i on
abbrev pub rest : List ℕ → ℕ → List Row
rest l i = rows_from l i (room_of l - i)

pub rest_none : (l : List ℕ) (i : ℕ) → room_of l ≤ i → rest l i ≡ []
unfolding rows_from
rest_none l i h = let e : room_of l - i ≡ 0 = omega arith in ap (rows_from l i) e

pub rest_more : (l : List ℕ) (i : ℕ) → i < room_of l → rest l i ≡ row_from l (i * 10) ∷ rest l (i + 1)
unfolding rows_from
rest_more l i h = let e : room_of l - i ≡ suc (room_of l - suc i) = omega arith in rw (add-one i) (ap (rows_from l i) e)

pub rest_all : (l : List ℕ) → rows_of l ≡ rest l 0
unfolding rows_of
rest_all l = let e : room_of l ≡ room_of l - 0 = omega arith in ap (rows_from l 0) e

-- what `rows::get` found of a list
module _ (l : List ℕ) (i : ℕ) where
  pub row_found : {r : Row} → Some r ≡ row_at l i → (i < room_of l) × (r ≡ row_from l (i * 10))
  row_found {r} e = go (ltb i (room_of l)) refl e
    where
      go : (t : Bool) → ltb i (room_of l) ≡ t → Some r ≡ cond t (Some (row_from l (i * 10))) None → (i < room_of l) × (r ≡ row_from l (i * 10))
      go true f g = (ltb-true _ _ f, cc)
      go false f g = let z : ◌≡◌ {A = ℕ} 0 1 = cc in absurd (omega arith)

  pub row_past : None ≡ row_at l i → room_of l ≤ i
  row_past e = go (ltb i (room_of l)) refl e
    where
      go : (t : Bool) → ltb i (room_of l) ≡ t → None ≡ cond t (Some (row_from l (i * 10))) None → room_of l ≤ i
      go true f g = let z : ◌≡◌ {A = ℕ} 0 1 = cc in absurd (omega arith)
      go false f g = ltb-false _ _ f
