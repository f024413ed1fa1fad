-- What holds of a row that can be written.
use mathlib.Core.Path.{◌≡◌, subst}
use Prim.Native.Nat.{ℕ, ◌<◌}
use mathlib.Core.Bool.{Bool, true, ◌&&◌}
use mathlib.Core.List.{List, [], ◌∷◌}
use lib.Dec.{ltb}
use borrow.Author.Tests.{ltb-true, eqb-true}
use Rattle.rows.specs.declared.row.Row.{Row}
use Rattle.rows.specs.declared.rules.Kind.{Kind}
use Rattle.rows.specs.declared.rules.Kind.TheVariants.{Pixel}
use Rattle.rows.specs.Row.{time_of, All}
use Rattle.rows.specs.Rules.{kind_of, plain_row, Writable}
use Rattle.rows.proofs.GoodRows.{and_first, and_second, plain_if}
use Rattle.rows.proofs.Kept.{kinds_named}
use Rattle.evt2.specs.Spelling.{writable, writable_as}

module _ (r : Row) (can : writable r ≡ true) where
  pub can_as : (k : Kind) → kind_of r.kind ≡ k → writable_as k r ≡ true
  unfolding writable
  can_as k e = subst (λ (j : Kind). writable_as j r ≡ true) e can

  pub pixel_within : r.kind ≡ 1 → (r.a < 2048) × (r.b < 2048) × (r.d ≡ 0)
  pixel_within k =
      let all = can_as Pixel ((kinds_named r.kind Pixel).1 k) in
      let sides : Bool = ltb r.a 2048 && ltb r.b 2048 in
      let inside : sides ≡ true = and_first sides _ all in (
        ltb-true _ _ (and_first (ltb r.a 2048) _ inside),
        ltb-true _ _ (and_second (ltb r.a 2048) _ inside),
        eqb-true _ _ (and_second sides _ all),
      )

-- and the rows of a writable list are plain
pub writable_plain : (last : ℕ) (rs : List Row) → Writable writable last rs → All plain_row rs
writable_plain last [] w = tt
writable_plain last (r ∷ rs) w = (plain_if r w.0 (λ k. (pixel_within r w.1 k).2), writable_plain (time_of r) rs w.3)
