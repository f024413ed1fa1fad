-- The place by which all four have been seen: it is passed just where they are among the words before.
use mathlib.Core.Path.{◌≡◌, refl, sym, ◌∙◌, ap}
use Prim.Native.Nat.{ℕ, zero, suc, ◌+◌, ◌*◌, ◌≤◌}
use native.Mathlib.Omega.{arith}
use mathlib.Core.Bool.{Bool, true, false, cond}
use mathlib.Core.List.{List, []}
use lib.ListN.{take}
use borrow.Author.Tests.{lt-leb, le-leb}
use Rattle.words.specs.Words.{Words, word, whole, part}
use Rattle.evt3.specs.Words.{kind_of}
use Rattle.join.specs.declared.seen.Seen.{Seen}
use Rattle.std.specs.Prelude.{Option, Some}
use Rattle.join.specs.Promises.{passed_at}
use Rattle.join.specs.Seen.{seen_with, seen_after, all_seen, list_of, whole_in}
use Rattle.join.proofs.AllSeen.{all_after}

-- no place is passed before the words begin
not_passed : (ws : Words) (seen : Seen) (place at : ℕ) → at ≤ place → passed_at (whole_in ws seen place) at ≡ false
not_passed whole seen place at h = refl
not_passed part seen place at h = refl
not_passed (word w ws) seen place at h = go (all_seen (seen_with (kind_of w) seen)) (not_passed ws (seen_with (kind_of w) seen) (place + 2) at (omega (arith, h)))
  where
    rest : Option ℕ
    rest = whole_in ws (seen_with (kind_of w) seen) (place + 2)

    go : (t : Bool) → passed_at rest at ≡ false → passed_at (cond t (Some (place + 2)) rest) at ≡ false
    go true ih = lt-leb (place + 2) at (omega (arith, h))
    go false ih = ih

take_none : (i : ℕ) → take {A = ℕ} i [] ≡ []
take_none zero = refl
take_none (suc i) = refl

pub passed : (ws : Words) (seen : Seen) (place i : ℕ) → all_seen seen ≡ false
    → all_seen (seen_after seen (take i (list_of ws))) ≡ passed_at (whole_in ws seen place) (place + i * 2)
passed whole seen place i e = ap (λ (l : List ℕ). all_seen (seen_after seen l)) (take_none i) ∙ e
passed part seen place i e = ap (λ (l : List ℕ). all_seen (seen_after seen l)) (take_none i) ∙ e
passed (word w ws) seen place zero e = e ∙ sym (not_passed (word w ws) seen place (place + 0 * 2) (omega arith))
passed (word w ws) seen place (suc i) e = go (all_seen seen') refl (passed ws seen' (place + 2) i)
  where
    seen' : Seen
    seen' = seen_with (kind_of w) seen

    rest : Option ℕ
    rest = whole_in ws seen' (place + 2)

    at : place + 2 + i * 2 ≡ place + suc i * 2
    at = omega arith

    go : (t : Bool) → all_seen seen' ≡ t
        → (all_seen seen' ≡ false → all_seen (seen_after seen' (take i (list_of ws))) ≡ passed_at rest (place + 2 + i * 2))
        → all_seen (seen_after seen' (take i (list_of ws))) ≡ passed_at (cond t (Some (place + 2)) rest) (place + suc i * 2)
    go true f ih = all_after (take i (list_of ws)) seen' f ∙ sym (le-leb (place + 2) (place + suc i * 2) (omega arith))
    go false f ih = ih f ∙ ap (passed_at rest) at
