-- A block made row by row.
use mathlib.Core.Path.{◌≡◌, sym, ◌∙◌, ap, subst}
use Prim.Native.Nat.{ℕ, suc, ◌+◌, ◌-◌, ◌*◌, ◌≤◌, ◌<◌, min, max}
use native.Mathlib.Omega.{arith}
use native.Mathlib.Numerals.{add-one}
use mathlib.Core.Bool.{Bool, true, false, cond}
use mathlib.Core.List.{List, [], ◌∷◌}
use lib.Dec.{eqb}
use Rattle.rows.specs.declared.row.Row.{Row}
use Rattle.rows.specs.Row.{time_of, row_from, rows_from}
use Rattle.summary.specs.declared.Block.{Block}
use Rattle.summary.specs.Blocks.{first_time, time_by, of_kind, rows_of_kind, block_of}
use Rattle.summary.specs.Writer.{Few, add_row}
use Rattle.summary.proofs.Lists.{rows_none, rows_next}

-- a block with rows more, and what it then is
abbrev add_all : Block → List Row → Block
add_all b [] = b
add_all b (r ∷ rs) = add_all (add_row b r) rs

abbrev with_all : Block → List Row → Block
with_all b rs =
    record {
      first = b.first;
      last = time_by (λ old new. new) b.last rs;
      smallest = time_by min b.smallest rs;
      largest = time_by max b.largest rs;
      pixels = b.pixels + rows_of_kind 1 rs;
      triggers = b.triggers + rows_of_kind 2 rs;
      counts = b.counts + rows_of_kind 3 rs;
      singles = b.singles + rows_of_kind 4 rs;
      packets = b.packets + rows_of_kind 5 rs;
      specials = b.specials + rows_of_kind 6 rs;
    }

all_added : (b : Block) (rs : List Row) → add_all b rs ≡ with_all b rs
unfolding add_row
all_added b [] =
    λ i.
    record {
      first = b.first;
      last = b.last;
      smallest = b.smallest;
      largest = b.largest;
      pixels = none_more b.pixels i;
      triggers = none_more b.triggers i;
      counts = none_more b.counts i;
      singles = none_more b.singles i;
      packets = none_more b.packets i;
      specials = none_more b.specials i;
    }
  where
    none_more : (n : ℕ) → n ≡ n + 0
    none_more n = omega arith
all_added b (r ∷ rs) =
    all_added (add_row b r) rs
    ∙ (λ i.
    record {
      first = b.first;
      last = time_by (λ old new. new) (time_of r) rs;
      smallest = time_by min (min b.smallest (time_of r)) rs;
      largest = time_by max (max b.largest (time_of r)) rs;
      pixels = one_more b.pixels 1 i;
      triggers = one_more b.triggers 2 i;
      counts = one_more b.counts 3 i;
      singles = one_more b.singles 4 i;
      packets = one_more b.packets 5 i;
      specials = one_more b.specials 6 i;
    })
  where
    one_more : (n kind : ℕ) → n + of_kind kind r + rows_of_kind kind rs ≡ n + rows_of_kind kind (r ∷ rs)
    one_more n kind = omega arith

-- a block of no rows yet, at a time
abbrev pub empty_at : ℕ → Block
empty_at t = record { first = t; last = 0; smallest = t; largest = t; pixels = 0; triggers = 0; counts = 0; singles = 0; packets = 0; specials = 0 }

of_all : (rs : List Row) → add_all (empty_at (first_time rs)) rs ≡ block_of rs
unfolding block_of
of_all rs =
    all_added (empty_at (first_time rs)) rs
    ∙ (λ i.
    record {
      first = first_time rs;
      last = time_by (λ old new. new) 0 rs;
      smallest = time_by min (first_time rs) rs;
      largest = time_by max (first_time rs) rs;
      pixels = from_none 1 i;
      triggers = from_none 2 i;
      counts = from_none 3 i;
      singles = from_none 4 i;
      packets = from_none 5 i;
      specials = from_none 6 i;
    })
  where
    from_none : (kind : ℕ) → 0 + rows_of_kind kind rs ≡ rows_of_kind kind rs
    from_none kind = omega arith

-- one row more of a kind at the most
at_most_one : (t : Bool) → cond t 1 0 ≤ 1
at_most_one true = omega arith
at_most_one false = omega arith

few_more : (k : ℕ) (b : Block) (r : Row) → Few k b → Few (k + 1) (add_row b r)
unfolding add_row
few_more k b r f =
    record {
      pixels = omega (arith, f.pixels, at_most_one (eqb r.kind 1));
      triggers = omega (arith, f.triggers, at_most_one (eqb r.kind 2));
      counts = omega (arith, f.counts, at_most_one (eqb r.kind 3));
      singles = omega (arith, f.singles, at_most_one (eqb r.kind 4));
      packets = omega (arith, f.packets, at_most_one (eqb r.kind 5));
      specials = omega (arith, f.specials, at_most_one (eqb r.kind 6));
    }

-- the rows before row i are in the block
pub record Adding (l : List ℕ) (from to i : ℕ) (b : Block) : Type 0 where
  pub low : from ≤ i
  pub high : i ≤ to
  pub few : Few (i - from) b
  pub same : add_all b (rows_from l i (to - i)) ≡ block_of (rows_from l from (to - from))

pub adding_start : (l : List ℕ) (from to t : ℕ) → from < to → t ≡ time_of (row_from l (from * 10)) → {b : Block} → b ≡ empty_at t → Adding l from to from b
adding_start l from to t h e {b} f =
    let some : suc (to - suc from) ≡ to - from = omega arith in
    let first : t ≡ first_time (rows_from l from (to - from)) =
    e ∙ ap first_time (sym (rows_next l from (to - suc from))) ∙ ap (λ (n : ℕ). first_time (rows_from l from n)) some in
    record {
      low = omega arith;
      high = omega arith;
      few = subst (Few (from - from)) (sym f) (record { pixels = omega arith; triggers = omega arith; counts = omega arith; singles = omega arith; packets = omega arith; specials = omega arith });
      same = ap (λ (x : Block). add_all x (rows_from l from (to - from))) f ∙ ap (λ (x : ℕ). add_all (empty_at x) (rows_from l from (to - from))) first ∙ of_all (rows_from l from (to - from));
    }

module _ {l : List ℕ} {from to i : ℕ} {b : Block} (a : Adding l from to i b) where
  pub adding_next : i < to → {r : Row} {c : Block} → r ≡ row_from l (i * 10) → c ≡ add_row b r → Adding l from to (i + 1) c
  adding_next h {r} {c} e f =
      let more : i - from + 1 ≡ i + 1 - from = omega (arith, a.low) in
      let some : suc (to - (i + 1)) ≡ to - i = omega arith in
      record {
        low = omega (arith, a.low);
        high = omega arith;
        few = subst (λ (k : ℕ). Few k c) more (subst (Few (i - from + 1)) (sym f) (few_more (i - from) b r a.few));
        same =
            ap (λ (x : Block). add_all x (rows_from l (i + 1) (to - (i + 1)))) (f ∙ ap (add_row b) e)
            ∙ ap (λ (k : ℕ). add_all (add_row b (row_from l (i * 10))) (rows_from l k (to - (i + 1)))) (add-one i)
            ∙ ap (add_all b) (sym (rows_next l i (to - (i + 1))))
            ∙ ap (λ (n : ℕ). add_all b (rows_from l i n)) some
            ∙ a.same;
      }

  pub adding_done : to ≤ i → b ≡ block_of (rows_from l from (to - from))
  adding_done h =
      let no_more : 0 ≡ to - i = omega (arith, a.high) in
      ap (add_all b) (sym (rows_none l i)) ∙ ap (λ (n : ℕ). add_all b (rows_from l i n)) no_more ∙ a.same
