-- What judging one row after another says of a list that is to be written.
use mathlib.Core.Path.{◌≡◌, refl, sym, ◌∙◌, ap}
use Prim.Native.Nat.{ℕ, suc, ◌+◌, ◌-◌, ◌*◌, ◌%◌, ◌≤◌, ◌<◌}
use native.Mathlib.Numerals.{add-one}
use native.Mathlib.Omega.{arith}
use mathlib.Core.Bool.{Bool, true, false, cond, ◌&&◌}
use mathlib.Core.List.{List, [], ◌∷◌}
use lib.ListN.{length}
use lib.Dec.{ltb, eqb}
use borrow.Author.Tests.{le-ltb, ltb-false, eqb-true, leb-true}
use Rattle.rows.specs.declared.fault.Fault.{Fault}
use Rattle.rows.specs.declared.fault.Fault.TheVariants.{BadTime, BadRow, BadList}
use Rattle.rows.specs.declared.row.Row.{Row}
use Rattle.rows.specs.declared.rules.Kind.{Kind}
use Rattle.std.specs.Prelude.{Ok, Err}
use Rattle.rows.specs.Row.{time_of, room_of, row_from, rows_from, rows_of}
use Rattle.rows.specs.Rules.{kind_of, good_as, good_row, judged_by, judged_as, judged_of, accepted, refused, verdict_then, verdict_from, good_length, verdict_of, Writable}
use Rattle.rows.proofs.GoodRows.{and_first, and_second}

-- a list whose length is good has whole rows, and not too many
pub whole_rows : (l : List ℕ) → good_length (length l) ≡ true → length l % 10 ≡ 0
unfolding good_length
whole_rows l g = eqb-true _ _ (and_first (eqb (length l % 10) 0) _ g)

pub few_rows : (l : List ℕ) → good_length (length l) ≡ true → room_of l ≤ 16777216
unfolding good_length
few_rows l g = leb-true _ _ (and_second (eqb (length l % 10) 0) _ g)

-- the rules of a row's own kind are those of the row
judged_own : (r : Row) (writable : Bool) (last : ℕ) {k : Kind} → kind_of r.kind ≡ k → judged_as k writable r last ≡ judged_of writable r last
unfolding judged_as judged_of good_row
judged_own r writable last e = ap (λ (k : Kind). judged_by (good_as k r) writable r last) (sym e)

-- a row that the format cannot write
judged_unwritable : (r : Row) (last : ℕ) → Err BadRow ≡ judged_of false r last
unfolding judged_of
judged_unwritable r last = go (good_row r)
  where
    go : (g : Bool) → Err BadRow ≡ judged_by g false r last
    go true = refl
    go false = refl

-- a row of a kind, where a format says kind by kind which rows it can write
module _ (can : Kind → Row → Bool) (r : Row) (last : ℕ) {k : Kind} (is : kind_of r.kind ≡ k) where
  same_can : {w : Bool} → can k r ≡ w → w ≡ can (kind_of r.kind) r
  same_can e = sym (ap (λ (j : Kind). can j r) is ∙ e)

  pub judged_kind : {w : Bool} → can k r ≡ w → judged_as k w r last ≡ judged_of (can (kind_of r.kind) r) r last
  judged_kind {w} e = judged_own r w last is ∙ ap (λ (t : Bool). judged_of t r last) (same_can e)

  pub judged_wordless : can k r ≡ false → Err BadRow ≡ judged_of (can (kind_of r.kind) r) r last
  judged_wordless e = judged_unwritable r last ∙ ap (λ (t : Bool). judged_of t r last) (same_can e)

  -- and one that breaks the rules of its kind
  pub judged_broken : good_as k r ≡ false → Err BadRow ≡ judged_of (can (kind_of r.kind) r) r last
  unfolding judged_as
  judged_broken e = ap (λ (g : Bool). judged_by g (can k r) r last) (sym e) ∙ judged_kind refl

-- and a row that is not refused has that time
pub judged_is_time : (writable : Bool) (r : Row) (last : ℕ) {t : ℕ} → Ok t ≡ judged_of writable r last → t ≡ time_of r
unfolding judged_of
judged_is_time writable r last {t} e = go (good_row r && writable) (ltb (time_of r) last) e
  where
    go : (g b : Bool) → Ok t ≡ cond g (cond b (Err BadTime) (Ok (time_of r))) (Err BadRow) → t ≡ time_of r
    go true true f = let z : ◌≡◌ {A = ℕ} 0 1 = cc in absurd (omega arith)
    go true false f = cc
    go false b f = let z : ◌≡◌ {A = ℕ} 0 1 = cc in absurd (omega arith)

-- and its time is not below the last
pub judged_later : (writable : Bool) (r : Row) (last : ℕ) {t : ℕ} → Ok t ≡ judged_of writable r last → last ≤ t
unfolding judged_of
judged_later writable r last {t} e = go (good_row r && writable) (ltb (time_of r) last) refl e
  where
    go : (g b : Bool) → ltb (time_of r) last ≡ b → Ok t ≡ cond g (cond b (Err BadTime) (Ok (time_of r))) (Err BadRow) → last ≤ t
    go true true h f = let z : ◌≡◌ {A = ℕ} 0 1 = cc in absurd (omega arith)
    go true false h f = let same : t ≡ time_of r = cc in omega (arith, ltb-false (time_of r) last h)
    go false b h f = let z : ◌≡◌ {A = ℕ} 0 1 = cc in absurd (omega arith)

-- and it is good, and the format can write it
pub judged_good : (writable : Bool) (r : Row) (last : ℕ) {t : ℕ} → Ok t ≡ judged_of writable r last → (good_row r ≡ true) × (writable ≡ true)
unfolding judged_of
judged_good writable r last {t} e = go (good_row r) refl writable refl e
  where
    go : (g : Bool) → good_row r ≡ g → (w : Bool) → writable ≡ w → Ok t ≡ judged_by g w r last → (good_row r ≡ true) × (writable ≡ true)
    go true p true q f = (p, q)
    go true p false q f = let z : ◌≡◌ {A = ℕ} 0 1 = cc in absurd (omega arith)
    go false p w q f = let z : ◌≡◌ {A = ℕ} 0 1 = cc in absurd (omega arith)

no_refusal : {E : Type 0} {f : Fault} {i : ℕ} → refused f i ≡ accepted → E
no_refusal e = let z : ◌≡◌ {A = ℕ} 0 1 = cc in absurd (omega arith)

module _ (writable : Row → Bool) where
  -- accepted: every row is good, writable and no earlier than the one before
  pub accepted_writable : (rs : List Row) (i last : ℕ) → verdict_from writable rs i last ≡ accepted → Writable writable last rs
  unfolding verdict_from judged_of
  accepted_writable [] i last h = tt
  accepted_writable (r ∷ rs) i last h = go (λ k. accepted_writable rs (suc i) (time_of r) k) (good_row r) refl (writable r) refl (ltb (time_of r) last) refl
    where
      go : (verdict_from writable rs (suc i) (time_of r) ≡ accepted → Writable writable (time_of r) rs) → (g : Bool) → good_row r ≡ g → (w : Bool) → writable r ≡ w
          → (b : Bool) → ltb (time_of r) last ≡ b → Writable writable last (r ∷ rs)
      go ih true eg true ew false eb = (eg, ew, ltb-false _ _ eb, ih (simp (eg, ew, eb) at h))
      go ih true eg true ew true eb = no_refusal (simp (eg, ew, eb) at h)
      go ih true eg false ew b eb = no_refusal (simp (eg, ew) at h)
      go ih false eg w ew b eb = no_refusal (simp eg at h)

  pub writable_accepted : (rs : List Row) (i last : ℕ) → Writable writable last rs → verdict_from writable rs i last ≡ accepted
  unfolding verdict_from judged_of
  writable_accepted [] i last h = refl
  writable_accepted (r ∷ rs) i last h =
      simp (h.0, h.1, le-ltb (time_of r) last h.2) (writable_accepted rs (suc i) (time_of r) h.3)

  -- a whole list: 13, and then row by row
  pub bad_list : (l : List ℕ) → good_length (length l) ≡ false → verdict_of writable l ≡ refused BadList 0
  unfolding verdict_of
  bad_list l e = rw e

  pub good_list : (l : List ℕ) → good_length (length l) ≡ true → verdict_of writable l ≡ verdict_from writable (rows_of l) 0 0
  unfolding verdict_of
  good_list l e = rw e

  pub accepted_list : (l : List ℕ) → verdict_of writable l ≡ accepted → (good_length (length l) ≡ true) × Writable writable 0 (rows_of l)
  unfolding verdict_of
  accepted_list l h = go (good_length (length l)) refl h
    where
      go : (t : Bool) → good_length (length l) ≡ t → cond t (verdict_from writable (rows_of l) 0 0) (refused BadList 0) ≡ accepted
          → (good_length (length l) ≡ true) × Writable writable 0 (rows_of l)
      go true e f = (e, accepted_writable (rows_of l) 0 0 f)
      go false e f = no_refusal f

  -- the invariant of a loop that judges row after row of l: i rows passed, the last at the time `last`
  pub record Judging (l : List ℕ) (i last : ℕ) : Type 0 where
    pub same : verdict_from writable (rows_of l) 0 0 ≡ verdict_from writable (rows_from l i (room_of l - i)) i last
    pub within : i ≤ room_of l

  pub judging_start : (l : List ℕ) → Judging l 0 0
  unfolding rows_of
  judging_start l =
      let e : room_of l ≡ room_of l - 0 = omega arith in
      record { same = ap (λ (k : ℕ). verdict_from writable (rows_from l 0 k) 0 0) e; within = omega arith }

  module _ {l : List ℕ} {i last : ℕ} (h : Judging l i last) where
    -- all rows passed
    pub judging_done : room_of l ≤ i → verdict_from writable (rows_of l) 0 0 ≡ accepted
    unfolding rows_from verdict_from
    judging_done f =
        let e : room_of l - i ≡ 0 = omega arith in
        h.same ∙ ap (λ (k : ℕ). verdict_from writable (rows_from l i k) i last) e

    -- row i is judged
    module _ (f : i < room_of l) where
      here : verdict_from writable (rows_of l) 0 0
          ≡ verdict_then (judged_of (writable (row_from l (i * 10))) (row_from l (i * 10)) last) i (verdict_from writable (rows_from l (suc i) (room_of l - suc i)) (suc i))
      unfolding rows_from verdict_from
      here =
          let e : room_of l - i ≡ suc (room_of l - suc i) = omega arith in
          h.same ∙ ap (λ (k : ℕ). verdict_from writable (rows_from l i k) i last) e

      pub judging_next : {t : ℕ} → Ok t ≡ judged_of (writable (row_from l (i * 10))) (row_from l (i * 10)) last → Judging l (i + 1) t
      judging_next {t} e = rw (add-one i) (record { same = here ∙ rw (sym e); within = f })

      pub judging_refused : {fault : Fault} → Err fault ≡ judged_of (writable (row_from l (i * 10))) (row_from l (i * 10)) last
          → verdict_from writable (rows_of l) 0 0 ≡ refused fault i
      judging_refused e = here ∙ rw (sym e)
