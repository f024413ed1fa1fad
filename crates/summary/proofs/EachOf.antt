-- Lists of equal length, one after the other: ten numbers a block, or the bytes of its field.
use mathlib.Core.Path.{◌≡◌, refl, sym, ◌∙◌, ap}
use Prim.Native.Nat.{ℕ, ◌*◌}
use native.Mathlib.Nat.{add-mul}
use native.Mathlib.Omega.{arith}
use mathlib.Core.List.{List, [], ◌∷◌, ◌++◌, append_assoc, flat_map}
use lib.ListN.{length, length-append}

module _ {A : Type 0} (f : A → List ℕ) where
  pub each_length : (k : ℕ) → ((x : A) → length (f x) ≡ k) → (xs : List A) → length (flat_map f xs) ≡ length xs * k
  unfolding flat_map
  each_length k e [] = omega arith
  each_length k e (x ∷ xs) = omega (arith, length-append (f x) (flat_map f xs), e x, each_length k e xs, add-mul 1 (length xs) k)

  pub each_append : (xs ys : List A) → flat_map f (xs ++ ys) ≡ flat_map f xs ++ flat_map f ys
  unfolding flat_map
  each_append [] ys = refl
  each_append (x ∷ xs) ys = ap (λ (l : List ℕ). f x ++ l) (each_append xs ys) ∙ sym (append_assoc (f x) (flat_map f xs) (flat_map f ys))

  pub each_next : (x : A) (xs : List A) → flat_map f (x ∷ xs) ≡ f x ++ flat_map f xs
  unfolding flat_map
  each_next x xs = refl

  pub each_none : flat_map f [] ≡ []
  unfolding flat_map
  each_none = refl
