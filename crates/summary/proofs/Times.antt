-- The four times of a block: which rows they are of, and that none is smaller or larger.
use mathlib.Core.Path.{◌≡◌, refl, ◌∙◌}
use mathlib.Core.Logic.{◌⊎◌, inl, inr, ⊎_elim}
use Prim.Native.Nat.{ℕ, zero, suc, ◌≤◌, ◌<◌, min, max}
use native.Mathlib.Omega.{arith}
use mathlib.Core.Bool.{Bool, true, false}
use mathlib.Core.List.{List, [], ◌∷◌}
use lib.ListN.{length, get_or}
use lib.Dec.{leb}
use borrow.Author.Tests.{leb-true, leb-false}
use Rattle.rows.specs.declared.row.Row.{Row}
use Rattle.rows.specs.Row.{time_of}
use Rattle.summary.specs.Blocks.{time_by, block_of}
use Rattle.summary.specs.Promises.{TimesKept}

-- a time of one of the rows: its index
pub record Among (d : Row) (rs : List Row) (t : ℕ) : Type 0 where
  pub index : ℕ
  pub inside : index < length rs
  pub same : t ≡ time_of (get_or rs index d)

among_more : {d r : Row} {rs : List Row} {t : ℕ} → Among d rs t → Among d (r ∷ rs) t
among_more a = record { index = suc a.index; inside = omega (arith, a.inside); same = a.same }

-- a choice of one of two times that keeps to one side of both
record Sided (choose : ℕ → ℕ → ℕ) (Side : ℕ → ℕ → Type 0) : Type 0 where
  self : (a : ℕ) → Side a a
  trans : (a b c : ℕ) → Side a b → Side b c → Side a c
  first : (a b : ℕ) → Side (choose a b) a
  second : (a b : ℕ) → Side (choose a b) b
  one : (a b : ℕ) → (choose a b ≡ a) ⊎ (choose a b ≡ b)

module _ {choose : ℕ → ℕ → ℕ} {Side : ℕ → ℕ → Type 0} (s : Sided choose Side) where
  side_start : (t : ℕ) (rs : List Row) → Side (time_by choose t rs) t
  side_start t [] = s.self t
  side_start t (r ∷ rs) = s.trans _ _ _ (side_start (choose t (time_of r)) rs) (s.first t (time_of r))

  side_each : (d : Row) (t : ℕ) (rs : List Row) (i : ℕ) → i < length rs → Side (time_by choose t rs) (time_of (get_or rs i d))
  side_each d t [] i h = absurd (omega arith)
  side_each d t (r ∷ rs) zero h = s.trans _ _ _ (side_start (choose t (time_of r)) rs) (s.second t (time_of r))
  side_each d t (r ∷ rs) (suc i) h = side_each d (choose t (time_of r)) rs i (omega arith)

  chosen : (d : Row) (t : ℕ) (rs : List Row) → (time_by choose t rs ≡ t) ⊎ Among d rs (time_by choose t rs)
  chosen d t [] = inl refl
  chosen d t (r ∷ rs) =
      ⊎_elim
      (λ e. ⊎_elim (λ f. inl (e ∙ f)) (λ f. inr (record { index = 0; inside = omega arith; same = e ∙ f })) (s.one t (time_of r)))
      (λ a. inr (among_more a))
      (chosen d (choose t (time_of r)) rs)

  -- from the first row's own time on
  chosen_in : (r : Row) (rs : List Row) → Among r (r ∷ rs) (time_by choose (time_of r) (r ∷ rs))
  chosen_in r rs = ⊎_elim (λ e. record { index = 0; inside = omega arith; same = e }) (λ a. a) (chosen r (time_of r) (r ∷ rs))

min_one : (a b : ℕ) → (min a b ≡ a) ⊎ (min a b ≡ b)
min_one a b = go (leb a b) refl
  where
    go : (t : Bool) → leb a b ≡ t → (min a b ≡ a) ⊎ (min a b ≡ b)
    go true e = inl (omega (arith, leb-true a b e))
    go false e = inr (omega (arith, leb-false a b e))

max_one : (a b : ℕ) → (max a b ≡ a) ⊎ (max a b ≡ b)
max_one a b = go (leb a b) refl
  where
    go : (t : Bool) → leb a b ≡ t → (max a b ≡ a) ⊎ (max a b ≡ b)
    go true e = inr (omega (arith, leb-true a b e))
    go false e = inl (omega (arith, leb-false a b e))

lowest : Sided min (λ a b. a ≤ b)
lowest =
    record {
      self = λ a. omega arith;
      trans = λ a b c h g. omega arith;
      first = λ a b. omega arith;
      second = λ a b. omega arith;
      one = min_one;
    }

highest : Sided max (λ a b. b ≤ a)
highest =
    record {
      self = λ a. omega arith;
      trans = λ a b c h g. omega arith;
      first = λ a b. omega arith;
      second = λ a b. omega arith;
      one = max_one;
    }

last_time_lem : (d r : Row) (rs : List Row) → time_by (λ old new. new) (time_of r) rs ≡ time_of (get_or (r ∷ rs) (length rs) d)
last_time_lem d r [] = refl
last_time_lem d r (q ∷ rs) = last_time_lem d q rs

pub times_exact : (r : Row) (rs : List Row) → TimesKept r rs
unfolding block_of
times_exact r rs =
    let low = chosen_in lowest r rs in
    let high = chosen_in highest r rs in
    record {
      first = refl;
      last = last_time_lem r r rs;
      smallest = side_each lowest r (time_of r) (r ∷ rs);
      smallest_at = low.index;
      smallest_in = (low.inside, low.same);
      largest = side_each highest r (time_of r) (r ∷ rs);
      largest_at = high.index;
      largest_in = (high.inside, high.same);
    }
