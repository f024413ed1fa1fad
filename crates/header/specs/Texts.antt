-- When two texts are the same, byte by byte.
use Rattle.std.specs.Prelude.{ℕ, Bool, true, false, ◌&&◌, List, [], ◌∷◌, eqb}

-- the bytes of the first text, each seen as f of it, are those of the second
unfoldable pub same_as : (ℕ → ℕ) → List ℕ → List ℕ → Bool
same_as f [] [] = true
same_as f [] (d ∷ u) = false
same_as f (c ∷ t) [] = false
same_as f (c ∷ t) (d ∷ u) = eqb (f c) d && same_as f t u
