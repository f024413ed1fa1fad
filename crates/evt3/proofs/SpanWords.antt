-- The words of the pixels in hand.
use mathlib.Core.Path.{◌≡◌}
use Prim.Native.Nat.{ℕ, ◌≤◌}
use native.Mathlib.Omega.{arith}
use mathlib.Core.Bool.{Bool, true, false, cond}
use mathlib.Core.List.{List, [], ◌∷◌}
use lib.ListN.{length}
use lib.Dec.{eqb}
use borrow.Author.Tests.{ne_eqb}
use Rattle.evt3.specs.declared.span.Span.{Span}
use Rattle.evt3.specs.Spelling.{x_word, base_word, vector_word}
use Rattle.evt3.specs.Walk.{span_words}

-- the pixels in hand
module _ (s : Span) where
  -- more than one, after no base that is known
  pub span_based : (s.bits ≡ 0 → ⊥) → s.known ≡ false → (s.bits ≡ 1 → ⊥) → span_words s ≡ base_word s.polarity s.base ∷ vector_word s.bits ∷ []
  unfolding span_words
  span_based some e f = simp (ne_eqb s.bits 0 some, e, ne_eqb s.bits 1 f)

  abbrev one : List ℕ
  one = x_word s.polarity s.base ∷ []

  abbrev more : List ℕ
  more = base_word s.polarity s.base ∷ vector_word s.bits ∷ []

  pub span_short : length (span_words s) ≤ 2
  unfolding span_words
  span_short = go (eqb s.bits 0) s.known (eqb s.bits 1)
    where
      go : (a b c : Bool) → length (cond a [] (cond b (vector_word s.bits ∷ []) (cond c one more))) ≤ 2
      go true b c = omega arith
      go false true c = omega arith
      go false false true = omega arith
      go false false false = omega arith
