-- What judging one row after another says of a list, whatever one row is judged by.
use mathlib.Core.Path.{◌≡◌, refl, sym, ◌∙◌, ap}
use Prim.Native.Nat.{ℕ, suc, ◌+◌, ◌-◌, ◌*◌, ◌≤◌, ◌<◌}
use native.Mathlib.Numerals.{add-one}
use native.Mathlib.Omega.{arith}
use mathlib.Core.Bool.{Bool, true, false, cond}
use mathlib.Core.List.{List, [], ◌∷◌}
use lib.ListN.{length}
use Rattle.std.specs.Prelude.{Result, Ok, Err}
use Rattle.rows.specs.declared.fault.Fault.{Fault}
use Rattle.rows.specs.declared.fault.Fault.TheVariants.{BadList}
use Rattle.rows.specs.declared.row.Row.{Row}
use Rattle.rows.specs.Row.{All, time_of, room_of, row_from, rows_from, rows_of}
use Rattle.rows.specs.Rules.{accepted, refused, verdict_then, good_length}
use Rattle.summary.specs.Verdicts.{verdict_by, verdict_on, in_any_order}

no_refusal : {E : Type 0} {f : Fault} {i : ℕ} → refused f i ≡ accepted → E
no_refusal e = let z : ◌≡◌ {A = ℕ} 0 1 = cc in absurd (omega arith)

-- in any order: every row passes the test
module _ (test : Row → Bool) where
  pub accepted_all : (rs : List Row) (i last : ℕ) → verdict_by (in_any_order test) rs i last ≡ accepted → All test rs
  unfolding verdict_by
  accepted_all [] i last h = tt
  accepted_all (r ∷ rs) i last h = go (λ k. accepted_all rs (suc i) (time_of r) k) (test r) refl
    where
      go : (verdict_by (in_any_order test) rs (suc i) (time_of r) ≡ accepted → All test rs) → (t : Bool) → test r ≡ t → All test (r ∷ rs)
      go ih true e = (e, ih (simp e at h))
      go ih false e = no_refusal (simp e at h)

  pub all_accepted : (rs : List Row) (i last : ℕ) → All test rs → verdict_by (in_any_order test) rs i last ≡ accepted
  unfolding verdict_by
  all_accepted [] i last h = refl
  all_accepted (r ∷ rs) i last h = simp h.0 (all_accepted rs (suc i) (time_of r) h.1)

-- whatever a row gets after the time of the one before
module _ (judged : Row → ℕ → Result ℕ Fault) where
  -- a whole list: 13, and then row by row
  pub bad_list : (l : List ℕ) → good_length (length l) ≡ false → verdict_on judged l ≡ refused BadList 0
  unfolding verdict_on
  bad_list l e = rw e

  pub good_list : (l : List ℕ) → good_length (length l) ≡ true → verdict_on judged l ≡ verdict_by judged (rows_of l) 0 0
  unfolding verdict_on
  good_list l e = rw e

  pub accepted_rows : (l : List ℕ) → verdict_on judged l ≡ accepted → (good_length (length l) ≡ true) × (verdict_by judged (rows_of l) 0 0 ≡ accepted)
  unfolding verdict_on
  accepted_rows l h = go (good_length (length l)) refl h
    where
      go : (t : Bool) → good_length (length l) ≡ t → cond t (verdict_by judged (rows_of l) 0 0) (refused BadList 0) ≡ accepted
          → (good_length (length l) ≡ true) × (verdict_by judged (rows_of l) 0 0 ≡ accepted)
      go true e f = (e, f)
      go false e f = no_refusal f

  -- the invariant of a loop that judges row after row of l: i rows passed, the last at the time `last`
  pub record Judging (l : List ℕ) (i last : ℕ) : Type 0 where
    pub same : verdict_by judged (rows_of l) 0 0 ≡ verdict_by judged (rows_from l i (room_of l - i)) i last
    pub within : i ≤ room_of l

  pub judging_start : (l : List ℕ) → Judging l 0 0
  unfolding rows_of
  judging_start l =
      let e : room_of l ≡ room_of l - 0 = omega arith in
      record { same = ap (λ (k : ℕ). verdict_by judged (rows_from l 0 k) 0 0) e; within = omega arith }

  module _ {l : List ℕ} {i last : ℕ} (h : Judging l i last) where
    -- all rows passed
    pub judging_done : room_of l ≤ i → verdict_by judged (rows_of l) 0 0 ≡ accepted
    unfolding rows_from verdict_by
    judging_done f =
        let e : room_of l - i ≡ 0 = omega arith in
        h.same ∙ ap (λ (k : ℕ). verdict_by judged (rows_from l i k) i last) e

    -- row i is judged
    module _ (f : i < room_of l) where
      here : verdict_by judged (rows_of l) 0 0
          ≡ verdict_then (judged (row_from l (i * 10)) last) i (verdict_by judged (rows_from l (suc i) (room_of l - suc i)) (suc i))
      unfolding rows_from verdict_by
      here =
          let e : room_of l - i ≡ suc (room_of l - suc i) = omega arith in
          h.same ∙ ap (λ (k : ℕ). verdict_by judged (rows_from l i k) i last) e

      pub judging_next : {t : ℕ} → Ok t ≡ judged (row_from l (i * 10)) last → Judging l (i + 1) t
      judging_next {t} e = rw (add-one i) (record { same = here ∙ rw (sym e); within = f })

      pub judging_refused : {fault : Fault} → Err fault ≡ judged (row_from l (i * 10)) last → verdict_by judged (rows_of l) 0 0 ≡ refused fault i
      judging_refused e = here ∙ rw (sym e)
