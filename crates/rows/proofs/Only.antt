-- The rows of a list that a test holds of.
use mathlib.Core.Path.{◌≡◌, refl, ap}
use Prim.Native.Nat.{suc, ◌≤◌}
use native.Mathlib.Omega.{arith}
use mathlib.Core.Bool.{Bool, true, false, cond}
use mathlib.Core.List.{List, [], ◌∷◌, ◌++◌}
use lib.ListN.{length}
use Rattle.rows.specs.declared.row.Row.{Row}
use Rattle.rows.specs.Row.{only}
use Rattle.rows.specs.Rules.{good_row, AllGood}

module _ (test : Row → Bool) where
  -- of two lists, first those of the one and then those of the other
  pub only_append : (a b : List Row) → only test (a ++ b) ≡ only test a ++ only test b
  only_append [] b = refl
  only_append (r ∷ a) b = go (test r) (only_append a b)
    where
      go : (t : Bool) → only test (a ++ b) ≡ only test a ++ only test b
          → cond t (r ∷ only test (a ++ b)) (only test (a ++ b)) ≡ cond t (r ∷ only test a) (only test a) ++ only test b
      go true e = ap (λ (rs : List Row). r ∷ rs) e
      go false e = e

  -- no more than there are
  pub only_short : (rs : List Row) → length (only test rs) ≤ length rs
  only_short [] = omega arith
  only_short (r ∷ rs) = go (test r) (only_short rs)
    where
      go : (t : Bool) → length (only test rs) ≤ length rs → length (cond t (r ∷ only test rs) (only test rs)) ≤ suc (length rs)
      go true h = omega (arith, h)
      go false h = omega (arith, h)

  -- all of them where it holds of every good row, and all are good
  pub only_good : ((r : Row) → good_row r ≡ true → test r ≡ true) → (rs : List Row) → AllGood rs → only test rs ≡ rs
  only_good h [] g = refl
  only_good h (r ∷ rs) g = rw (h r g.0) (ap (λ (qs : List Row). r ∷ qs) (only_good h rs g.1))
