-- What a writer answers, case by case, once its rows were judged and their words counted.
use mathlib.Core.Path.{◌≡◌, refl, sym, ◌∙◌}
use Prim.Native.Nat.{ℕ, ◌*◌, ◌≤◌, ◌<◌, ◌/◌}
use native.Mathlib.Omega.{arith}
use mathlib.Core.Bool.{Bool, true, false, cond}
use mathlib.Core.List.{List}
use lib.ListN.{length}
use lib.Dec.{leb}
use borrow.Author.Tests.{le-leb, lt-leb, leb-false}
use Rattle.std.specs.Prelude.{Result, Ok, Err}
use Rattle.rows.specs.declared.fault.Fault.TheVariants.{NoRoom, BadList}
use Rattle.rows.specs.declared.fault.WriteError.{WriteError}
use Rattle.rows.specs.declared.row.Row.{Row}
use Rattle.rows.specs.Row.{rows_of}
use Rattle.rows.specs.Rules.{Verdict, accepted, refused, good_length, verdict_of, verdict_from}
use Rattle.words.specs.Sinks.{room, after}
use Rattle.words.specs.Walked.{walk_verdict, words_counted, WalkedAs}
use Rattle.words.specs.Writer.{Spelling, spelled, writing_verdict, writing_of, Walk, walked, WroteAs}
use Rattle.words.specs.Promises.{RoomExact}
use native.Mathlib.Nat.{le-div_iff_mul-le, div-lt_iff_lt-mul}
use lib.Seq.{sets}
use Rattle.rows.specs.declared.fault.Fault.{Fault}
use Rattle.rows.proofs.Judging.{bad_list, good_list}
use Rattle.rows.proofs.Stored.{sets_over}
use Rattle.words.specs.Words.{bytes_of_all}
use Rattle.words.proofs.Writes.{all_length}

-- what an answer of `writing_of` says of the verdict
pub same_written : (v : Verdict) {n m : ℕ} → Ok n ≡ writing_of v m → (v ≡ accepted) × (n ≡ m)
same_written accepted e = (refl, cc)
same_written (refused f i) e = let z : ◌≡◌ {A = ℕ} 0 1 = cc in absurd (omega arith)

pub same_refused : (v : Verdict) (m : ℕ) {e : WriteError} → Err e ≡ writing_of v m → v ≡ refused e.fault e.row
same_refused accepted m e = let z : ◌≡◌ {A = ℕ} 0 1 = cc in absurd (omega arith)
same_refused (refused g j) m e = cc

module _ {W : Type 0} {size : ℕ} {writable : Row → Bool} {k : Walk W} {start : W} {last : W → ℕ} (l old : List ℕ) where
  -- the list's length is refused
  pub walked_bad_list : good_length (length l) ≡ false → WalkedAs size writable k start last l old old (Err (record { fault = BadList; row = 0 }))
  walked_bad_list e = record { answer = rw e; wrote = rw e }

  -- the rows were judged and their words counted
  module _ (good : good_length (length l) ≡ true) {counted : Result ℕ WriteError}
      (is : counted ≡ writing_of (walk_verdict writable k last start (rows_of l) 0) (words_counted (walked k start (rows_of l)))) where
    pub walked_refused : {e : WriteError} → counted ≡ Err e → WalkedAs size writable k start last l old old (Err e)
    walked_refused e =
        let v = same_refused (walk_verdict writable k last start (rows_of l) 0) (words_counted (walked k start (rows_of l))) (sym e ∙ is) in
        record { answer = rw (good, v); wrote = rw (good, v) }

    pub walked_full : {n words : ℕ} → counted ≡ Ok n → words ≡ room true size old → words < n
        → WalkedAs size writable k start last l old old (Err (record { fault = NoRoom; row = 0 }))
    walked_full e f h =
        let passed = same_written (walk_verdict writable k last start (rows_of l) 0) (sym e ∙ is) in
        let short : room true size old < words_counted (walked k start (rows_of l)) = omega (arith, f, h, passed.1) in
        record { answer = rw (good, passed.0, lt-leb _ _ short); wrote = rw (good, passed.0, lt-leb _ _ short) }

    pub walked_all : {n words : ℕ} {new : List ℕ} → counted ≡ Ok n → words ≡ room true size old → n ≤ words
        → new ≡ after true size old 0 (walked k start (rows_of l)) → WalkedAs size writable k start last l old new (Ok n)
    walked_all e f h b =
        let passed = same_written (walk_verdict writable k last start (rows_of l) 0) (sym e ∙ is) in
        let fits : words_counted (walked k start (rows_of l)) ≤ room true size old = omega (arith, f, h, passed.1) in
        record { answer = rw (good, passed.0, le-leb _ _ fits, passed.1); wrote = rw (good, passed.0, le-leb _ _ fits) b }

-- the same of a spelling, whatever walk there is
module _ (s : Spelling) (l old : List ℕ) where
  -- the answer and the buffer of each verdict
  as_refused : {f : Fault} {i : ℕ} → writing_verdict s l (length old) ≡ refused f i → WroteAs s l old old (Err (record { fault = f; row = i }))
  as_refused e = record { answer = rw e; wrote = rw e }

  as_accepted : {new : List ℕ} → writing_verdict s l (length old) ≡ accepted → length (spelled s l) * s.size ≤ length old
      → new ≡ sets old 0 (bytes_of_all s.size (spelled s l)) → WroteAs s l old new (Ok (length (spelled s l)))
  as_accepted e f g =
      record {
        answer = rw e;
        wrote = rw e (g ∙ sets_over (bytes_of_all s.size (spelled s l)) old (omega (arith, all_length s.size (spelled s l))));
      }

  -- the list's length is refused
  pub wrote_bad_list : good_length (length l) ≡ false → WroteAs s l old old (Err (record { fault = BadList; row = 0 }))
  unfolding writing_verdict
  wrote_bad_list e = as_refused (rw (bad_list s.writable l e))

  -- the rows were judged and their words counted
  module _ (good : good_length (length l) ≡ true) {counted : Result ℕ WriteError} (is : counted ≡ writing_of (verdict_from s.writable (rows_of l) 0 0) (length (spelled s l))) where
    judged : verdict_of s.writable l ≡ verdict_from s.writable (rows_of l) 0 0
    judged = good_list s.writable l good

    pub wrote_refused : {e : WriteError} → counted ≡ Err e → WroteAs s l old old (Err e)
    unfolding writing_verdict
    wrote_refused e = as_refused (rw (judged, same_refused (verdict_from s.writable (rows_of l) 0 0) (length (spelled s l)) (sym e ∙ is)))

    pub passed : {n : ℕ} → counted ≡ Ok n → verdict_from s.writable (rows_of l) 0 0 ≡ accepted
    passed e = (same_written (verdict_from s.writable (rows_of l) 0 0) (sym e ∙ is)).0

    pub word_count : {n : ℕ} → counted ≡ Ok n → n ≡ length (spelled s l)
    word_count e = (same_written (verdict_from s.writable (rows_of l) 0 0) (sym e ∙ is)).1

    pub wrote_full : {n : ℕ} → counted ≡ Ok n → length old < n * s.size → WroteAs s l old old (Err (record { fault = NoRoom; row = 0 }))
    unfolding writing_verdict
    wrote_full e f = as_refused (rw (judged, passed e, sym (word_count e), lt-leb _ _ f))

    pub wrote_all : {n : ℕ} {new : List ℕ} → counted ≡ Ok n → n * s.size ≤ length old → new ≡ sets old 0 (bytes_of_all s.size (spelled s l)) → WroteAs s l old new (Ok n)
    unfolding writing_verdict
    wrote_all {n} e f g =
        rw (word_count e) (as_accepted (rw (judged, passed e, sym (word_count e), le-leb _ _ f)) (rw (sym (word_count e)) f) g)

-- the room for n words of a size, as a quotient
module _ {n room size k : ℕ} (s : Spelling) (sized : s.size ≡ size) (some : 0 < size) (is : k ≡ size) where
  pub too_few : room / k < n → room < n * s.size
  too_few h = rw sized ((div-lt_iff_lt-mul some).0 (rw is at h))

  pub enough : n ≤ room / k → n * s.size ≤ room
  enough h = rw sized ((le-div_iff_mul-le some).0 (rw is at h))

-- a list that passes 13, 12 and 5 is refused where the buffer is shorter than its words, and there alone
pub room_exact : (s : Spelling) (l : List ℕ) (bytes : ℕ) → verdict_of s.writable l ≡ accepted → RoomExact s l bytes
unfolding writing_verdict
room_exact s l bytes e =
    record {
      short = λ h. rw (e, lt-leb _ _ h);
      only = λ h. only (leb (length (spelled s l) * s.size) bytes) refl (sym (rw e) ∙ h);
      long = λ h. rw (e, le-leb _ _ h);
    }
  where
    only : (t : Bool) → leb (length (spelled s l) * s.size) bytes ≡ t → cond t accepted (refused NoRoom 0) ≡ refused NoRoom 0 → bytes < length (spelled s l) * s.size
    only true f g = let z : ◌≡◌ {A = ℕ} 0 1 = cc in absurd (omega arith)
    only false f g = leb-false _ _ f
