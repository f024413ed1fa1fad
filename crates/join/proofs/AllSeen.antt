-- Words after which all four have been seen: each of them has been, and stays so.
use mathlib.Core.Path.{◌≡◌, refl}
use Prim.Native.Nat.{ℕ}
use mathlib.Core.Bool.{true, ◌&&◌}
use mathlib.Core.List.{List, [], ◌∷◌}
use Rattle.rows.proofs.GoodRows.{and_first, and_second}
use Rattle.evt3.specs.declared.kind.Kind.{Kind}
use Rattle.evt3.specs.declared.kind.Kind.TheVariants.{AddrY, AddrX, VectBaseX, Vect12, Vect8, TimeLow}
use Rattle.evt3.specs.declared.kind.Kind.TheVariants.{Continued4, TimeHigh, ExtTrigger, Others, Continued12, Reserved}
use Rattle.evt3.specs.Words.{kind_of}
use Rattle.join.specs.declared.seen.Seen.{Seen}
use Rattle.join.specs.Seen.{seen_with, seen_after, all_seen}

module _ (seen : Seen) (e : all_seen seen ≡ true) where
  pub is_base_lem : seen.base ≡ true
  is_base_lem = and_second (seen.high && seen.low && seen.y) _ e

  pub is_y_lem : seen.y ≡ true
  is_y_lem = and_second (seen.high && seen.low) _ (and_first (seen.high && seen.low && seen.y) _ e)

  pub is_low_lem : seen.low ≡ true
  is_low_lem = and_second seen.high _ (and_first (seen.high && seen.low) _ (and_first (seen.high && seen.low && seen.y) _ e))

  pub is_high_lem : seen.high ≡ true
  is_high_lem = and_first seen.high _ (and_first (seen.high && seen.low) _ (and_first (seen.high && seen.low && seen.y) _ e))

  -- with one word more
  all_with : (k : Kind) → all_seen (seen_with k seen) ≡ true
  all_with TimeHigh = rw (is_low_lem, is_y_lem, is_base_lem) refl
  all_with TimeLow = rw (is_high_lem, is_y_lem, is_base_lem) refl
  all_with AddrY = rw (is_high_lem, is_low_lem, is_base_lem) refl
  all_with VectBaseX = rw (is_high_lem, is_low_lem, is_y_lem) refl
  all_with AddrX = e
  all_with Vect12 = e
  all_with Vect8 = e
  all_with ExtTrigger = e
  all_with Continued4 = e
  all_with Others = e
  all_with Continued12 = e
  all_with Reserved = e

pub all_after : (ws : List ℕ) (seen : Seen) → all_seen seen ≡ true → all_seen (seen_after seen ws) ≡ true
all_after [] seen e = e
all_after (w ∷ ws) seen e = all_after ws (seen_with (kind_of w) seen) (all_with seen e (kind_of w))
