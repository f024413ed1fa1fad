-- What a word tells by its top four bits: the fields that the code works out are those of the kind that the bits name.
use mathlib.Core.Path.{◌≡◌, refl, sym, subst}
use Prim.Native.Nat.{ℕ}
use mathlib.Core.Bool.{Bool, true, false, ◌&&◌, ◌||◌}
use lib.Dec.{eqb}
use borrow.Author.Tests.{eqb-true}
use Rattle.words.specs.Fields.{field}
use Rattle.evt3.specs.Words.{kind_at, kind_of}
use Rattle.join.specs.declared.seen.Seen.{Seen}
use Rattle.join.specs.Seen.{seen_with}

abbrev pub told : Seen → ℕ → Seen
told seen top =
    record {
      high = eqb top 8 || seen.high;
      low = eqb top 6 && seen.high || seen.low;
      y = eqb top 0 || seen.y;
      base = eqb top 3 || seen.base;
    }

-- what holds of n holds of a number that is n, and is to be shown where it is not
by_test : (P : ℕ → Type 0) (top n : ℕ) → P n → (eqb top n ≡ false → P top) → P top
by_test P top n h g = go (eqb top n) refl
  where
    go : (t : Bool) → eqb top n ≡ t → P top
    go true e = subst P (sym (eqb-true top n e)) h
    go false e = g e

-- of each kind by computing, and of the reserved ones since the bits are those of no other
told_at : (seen : Seen) (top : ℕ) → told seen top ≡ seen_with (kind_at top) seen
told_at seen top =
    by 0 refl (λ e0.
    by 2 refl (λ e2.
    by 3 refl (λ e3.
    by 4 refl (λ e4.
    by 5 refl (λ e5.
    by 6 refl (λ e6.
    by 7 refl (λ e7.
    by 8 refl (λ e8.
    by 10 refl (λ e10.
    by 14 refl (λ e14.
    by 15 refl (λ e15. rw (e0, e2, e3, e4, e5, e6, e7, e8, e10, e14, e15) refl)))))))))))
  where
    by : (n : ℕ) → told seen n ≡ seen_with (kind_at n) seen → (eqb top n ≡ false → told seen top ≡ seen_with (kind_at top) seen) → told seen top ≡ seen_with (kind_at top) seen
    by n h g = by_test (λ (k : ℕ). told seen k ≡ seen_with (kind_at k) seen) top n h g

pub told_kind : (seen : Seen) (w : ℕ) → told seen (field 12 4 w) ≡ seen_with (kind_of w) seen
unfolding kind_of
told_kind seen w = told_at seen (field 12 4 w)
