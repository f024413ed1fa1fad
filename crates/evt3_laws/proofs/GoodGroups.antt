-- The groups of a writable list whose numbers have 32 bits: row groups and triggers.
use mathlib.Core.Path.{◌≡◌, refl, sym, ◌∙◌, ap₂, subst}
use mathlib.Core.Logic.{◌⊎◌, inl, inr, ⊎_elim}
use Prim.Native.Nat.{ℕ, ◌≤◌, ◌<◌}
use native.Mathlib.Omega.{arith}
use mathlib.Core.Bool.{Bool, true, false, cond}
use mathlib.Core.List.{List, [], ◌∷◌}
use Rattle.rows.specs.declared.row.Row.{Row}
use Rattle.rows.specs.Row.{time_of, trigger_row}
use Rattle.rows.specs.Rules.{good_row, Writable}
use Rattle.rows.specs.Promises.{GoodMade}
use Rattle.rows.proofs.Kept.{good_timely, good_is_made}
use Rattle.rows.proofs.Lists.{AllNarrow}
use Rattle.evt3.specs.Spelling.{writable, goes_on, Group, joined, groups_of, columns_of}
use Rattle.evt3.specs.Words.{rows_at}
use Rattle.evt3.proofs.Chosen.{Rising}
use Rattle.evt3.proofs.RowRuns.{goes_on_parts}
use Rattle.evt3.proofs.WritableRows.{kind_is, pixel_within, trigger_within}

-- a row group of a writable list, none of whose rows is before `since`
pub record Pixels (since : ℕ) (g : Group) : Type 0 where
  pub kind : g.first.kind ≡ 1
  pub later : since ≤ time_of g.first
  pub time : time_of g.first < 17179869184
  pub line : g.first.b < 2048
  pub polarity : g.first.c < 2
  pub camera : g.first.d < 2
  pub rising : Rising 0 2048 (columns_of (g.first ∷ g.more))
  pub rows : g.first ∷ g.more ≡ rows_at (time_of g.first) g.first.b g.first.c g.first.d (columns_of (g.first ∷ g.more))

-- a trigger of such a list
pub record TriggerGroup (since : ℕ) (g : Group) : Type 0 where
  pub kind : g.first.kind ≡ 2
  pub alone : g.more ≡ []
  pub later : since ≤ time_of g.first
  pub time : time_of g.first < 17179869184
  pub channel : g.first.a < 16
  pub edge : g.first.b < 2
  pub row : g.first ≡ trigger_row (time_of g.first) g.first.a g.first.b

abbrev pub GoodGroups : ℕ → List Group → Type 0
GoodGroups since [] = Unit {0}
GoodGroups since (g ∷ gs) = (Pixels since g ⊎ TriggerGroup since g) × GoodGroups (time_of g.first) gs

-- pixels of equal time, line, polarity and camera
pub same_rows : {t u y z p q c d : ℕ} (xs : List ℕ) → t ≡ u → y ≡ z → p ≡ q → c ≡ d → rows_at t y p c xs ≡ rows_at u z q d xs
same_rows xs e f g h = cc

-- a row before groups: it is one of its own, or the first one's
module _ (since : ℕ) (r : Row) (good : good_row r ≡ true) (can : writable r ≡ true) (late : since ≤ time_of r) (narrow : r.low < 4294967296) where
  made : GoodMade r
  made = good_is_made r good narrow

  alone_good : Pixels since (record { first = r; more = [] }) ⊎ TriggerGroup since (record { first = r; more = [] })
  alone_good =
      ⊎_elim
      (λ k. inl (record {
        kind = k;
        later = late;
        time = good_timely r good;
        line = (pixel_within r can k).1;
        polarity = (made.pixel k).4;
        camera = (made.pixel k).5;
        rising = (omega arith, (pixel_within r can k).0, tt);
        rows = ap₂ ◌∷◌ (made.pixel k).0 refl;
      }))
      (λ k. inr (record {
        kind = k;
        alone = refl;
        later = late;
        time = good_timely r good;
        channel = trigger_within r can k;
        edge = (made.trigger k).3;
        row = (made.trigger k).0;
      }))
      (kind_is r can)

  joined_good : (gs : List Group) → GoodGroups (time_of r) gs → GoodGroups since (joined r gs)
  joined_good [] h = (alone_good, tt)
  joined_good (g ∷ gs) h = go (goes_on r g.first) refl
    where
      both : goes_on r g.first ≡ true → Pixels (time_of r) g → Pixels since (record { first = r; more = g.first ∷ g.more })
      both e s =
          let p = goes_on_parts r g.first e in
          record {
            kind = p.0;
            later = late;
            time = good_timely r good;
            line = (pixel_within r can p.0).1;
            polarity = (made.pixel p.0).4;
            camera = (made.pixel p.0).5;
            rising = (omega arith, (pixel_within r can p.0).0, (omega (arith, p.6), s.rising.1, s.rising.2));
            rows = ap₂ ◌∷◌ (made.pixel p.0).0 (s.rows ∙ sym (same_rows (columns_of (g.first ∷ g.more)) p.2 p.3 p.4 p.5));
          }

      go : (k : Bool) → goes_on r g.first ≡ k
          → GoodGroups since (cond k (record { first = r; more = g.first ∷ g.more } ∷ gs) (record { first = r; more = [] } ∷ g ∷ gs))
      go true e =
          let p = goes_on_parts r g.first e in (
            ⊎_elim (λ s. inl (both e s)) (λ s. absurd (omega (arith, p.1, s.kind))) h.0,
            subst (λ (t : ℕ). GoodGroups t gs) (sym p.2) h.1,
          )
      go false e = (alone_good, h)

pub groups_good : (since : ℕ) (rs : List Row) → Writable writable since rs → AllNarrow rs → GoodGroups since (groups_of rs)
unfolding groups_of
groups_good since [] w n = tt
groups_good since (r ∷ rs) w n = joined_good since r w.0 w.1 w.2 n.0 (groups_of rs) (groups_good (time_of r) rs w.3 n.1)
