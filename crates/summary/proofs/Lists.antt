-- The rows of a list of numbers from one row on: how many they are, the first of them, and the others.
use mathlib.Core.Path.{◌≡◌, refl, ◌∙◌, ap, ap₂}
use Prim.Native.Nat.{ℕ, zero, suc, ◌+◌, ◌-◌, ◌*◌, min}
use native.Mathlib.Omega.{arith}
use mathlib.Core.List.{List, [], ◌∷◌}
use lib.ListN.{length, take, drop}
use Rattle.rows.specs.declared.row.Row.{Row}
use Rattle.rows.specs.Row.{row_from, rows_from}

-- how many rows these are
pub rows_length : (l : List ℕ) (n i : ℕ) → length (rows_from l i n) ≡ n
unfolding rows_from
rows_length l zero i = refl
rows_length l (suc n) i = ap suc (rows_length l n (suc i))

-- no rows, and a row before others; and of some rows the first, and the others
pub rows_none : (l : List ℕ) (i : ℕ) → rows_from l i 0 ≡ []
unfolding rows_from
rows_none l i = refl

pub rows_next : (l : List ℕ) (i n : ℕ) → rows_from l i (suc n) ≡ row_from l (i * 10) ∷ rows_from l (suc i) n
unfolding rows_from
rows_next l i n = refl

pub rows_take : (l : List ℕ) (k n i : ℕ) → take k (rows_from l i n) ≡ rows_from l i (min k n)
unfolding rows_from
rows_take l zero n i = let e : 0 ≡ min 0 n = omega arith in ap (rows_from l i) e
rows_take l (suc k) zero i = let e : 0 ≡ min (suc k) 0 = omega arith in ap (rows_from l i) e
rows_take l (suc k) (suc n) i =
    let e : suc (min k n) ≡ min (suc k) (suc n) = omega arith in
    ap (λ (t : List Row). row_from l (i * 10) ∷ t) (rows_take l k n (suc i)) ∙ ap (rows_from l i) e

pub rows_drop : (l : List ℕ) (k n i : ℕ) → drop k (rows_from l i n) ≡ rows_from l (i + k) (n - k)
unfolding rows_from
rows_drop l zero n i =
    let e : i ≡ i + 0 = omega arith in
    let f : n ≡ n - 0 = omega arith in
    ap₂ (rows_from l) e f
rows_drop l (suc k) zero i = let f : 0 ≡ 0 - suc k = omega arith in ap (rows_from l (i + suc k)) f
rows_drop l (suc k) (suc n) i =
    let e : suc i + k ≡ i + suc k = omega arith in
    let f : n - k ≡ suc n - suc k = omega arith in
    rows_drop l k n (suc i) ∙ ap₂ (rows_from l) e f
