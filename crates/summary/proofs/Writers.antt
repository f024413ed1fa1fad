-- What a writer answers, case by case, once its rows were judged and their words or bytes counted. Over any format.
use mathlib.Core.Path.{◌≡◌, refl, sym, ◌∙◌, ap}
use Prim.Native.Nat.{ℕ, ◌≤◌, ◌<◌}
use native.Mathlib.Omega.{arith}
use mathlib.Core.Bool.{true, false}
use mathlib.Core.List.{List}
use lib.ListN.{length}
use Rattle.std.specs.Prelude.{Result, Ok, Err}
use lib.Seq.{sets}
use borrow.Author.Tests.{le-leb, lt-leb}
use Rattle.rows.specs.declared.fault.Fault.{Fault}
use Rattle.rows.specs.declared.fault.Fault.TheVariants.{NoRoom, BadList}
use Rattle.rows.specs.declared.fault.WriteError.{WriteError}
use Rattle.rows.specs.declared.row.Row.{Row}
use Rattle.rows.specs.Row.{rows_of}
use Rattle.rows.specs.Rules.{Verdict, accepted, refused, good_length}
use Rattle.rows.proofs.Stored.{sets_over}
use Rattle.words.specs.Writer.{writing_of}
use Rattle.summary.specs.Verdicts.{verdict_by, verdict_on}
use Rattle.summary.specs.Writers.{verdict_in, WroteBytes}
use Rattle.summary.proofs.Judging.{bad_list, good_list}

-- what an answer of `writing_of` says of the verdict
same_written : (v : Verdict) {n m : ℕ} → Ok n ≡ writing_of v m → (v ≡ accepted) × (n ≡ m)
same_written accepted e = (refl, cc)
same_written (refused f i) e = absurd cc

same_refused : (v : Verdict) (m : ℕ) {e : WriteError} → Err e ≡ writing_of v m → v ≡ refused e.fault e.row
same_refused accepted m h = absurd cc
same_refused (refused f i) m {e} h =
    let same : e ≡ record { fault = f; row = i } = cc in
    ap (λ (x : WriteError). refused x.fault x.row) (sym same)

-- what a row gets, the list, the bytes that it needs, the number that is answered and the bytes that are written
module _ (judged : Row → ℕ → Result ℕ Fault) (l : List ℕ) (needed count : ℕ) (bytes old : List ℕ) where
  -- the answer and the buffer of a refusal
  as_refused : {e : WriteError} → verdict_in judged l needed (length old) ≡ refused e.fault e.row → WroteBytes (verdict_in judged l needed (length old)) count bytes old old (Err e)
  as_refused h = record { answer = rw h; wrote = rw h }

  -- the list's length is refused
  pub wrote_bad_list : good_length (length l) ≡ false → WroteBytes (verdict_in judged l needed (length old)) count bytes old old (Err (record { fault = BadList; row = 0 }))
  unfolding verdict_in
  wrote_bad_list e = as_refused (rw (bad_list judged l e))

  -- the rows were judged and their words or bytes counted
  module _ (good : good_length (length l) ≡ true) where
    rows_judged : verdict_on judged l ≡ verdict_by judged (rows_of l) 0 0
    rows_judged = good_list judged l good

    pub wrote_refused : {e : WriteError} → Err e ≡ writing_of (verdict_by judged (rows_of l) 0 0) count → WroteBytes (verdict_in judged l needed (length old)) count bytes old old (Err e)
    unfolding verdict_in
    wrote_refused h = as_refused (rw (rows_judged, same_refused (verdict_by judged (rows_of l) 0 0) count h))

    module _ {n : ℕ} (is : Ok n ≡ writing_of (verdict_by judged (rows_of l) 0 0) count) where
      pub passed : verdict_by judged (rows_of l) 0 0 ≡ accepted
      passed = (same_written (verdict_by judged (rows_of l) 0 0) is).0

      pub count_same : n ≡ count
      count_same = (same_written (verdict_by judged (rows_of l) 0 0) is).1

      pub wrote_full : length old < needed → WroteBytes (verdict_in judged l needed (length old)) count bytes old old (Err (record { fault = NoRoom; row = 0 }))
      unfolding verdict_in
      wrote_full f = as_refused (rw (rows_judged, passed, lt-leb _ _ f))

      pub wrote_all : {new : List ℕ} → needed ≤ length old → length bytes ≤ needed → new ≡ sets old 0 bytes → WroteBytes (verdict_in judged l needed (length old)) count bytes old new (Ok n)
      unfolding verdict_in
      wrote_all f g h =
          record {
            answer = rw (rows_judged, passed, le-leb _ _ f) (ap Ok count_same);
            wrote = rw (rows_judged, passed, le-leb _ _ f) (h ∙ sets_over bytes old (omega arith));
          }

-- a list that passes has room where the buffer is as long as what is needed
module _ (judged : Row → ℕ → Result ℕ Fault) (l : List ℕ) (needed bytes : ℕ) (ok : verdict_on judged l ≡ accepted) where
  pub room_long : needed ≤ bytes → verdict_in judged l needed bytes ≡ accepted
  unfolding verdict_in
  room_long h = rw (ok, le-leb _ _ h)
