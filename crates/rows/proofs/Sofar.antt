-- The invariant of every loop that writes rows: the whole run is the rows written so far, and then the run of what is left.
use mathlib.Core.Path.{◌≡◌, refl, sym, ◌∙◌, ap, ap₂}
use Prim.Native.Nat.{ℕ, ◌+◌, ◌-◌, ◌*◌, ◌/◌, ◌≤◌, ◌<◌}
use native.Mathlib.Omega.{arith}
use mathlib.Core.List.{List, [], ◌++◌}
use lib.ListN.{length, length-append}
use lib.Seq.{sets, length-sets}
use borrow.Author.Tests.{le-leb, lt-leb}
use Rattle.rows.specs.declared.fault.Fault.{Fault}
use Rattle.rows.specs.declared.fault.Fault.TheVariants.{NoRoom}
use Rattle.std.specs.Prelude.{Result, Err}
use Rattle.rows.specs.declared.fault.ReadError.{ReadError}
use Rattle.rows.specs.declared.row.Row.{Row}
use Rattle.rows.specs.Row.{flat, room_of}
use Rattle.rows.specs.Runs.{Ending, finished, refused, Run, prepend, stopped, give, and_then, ending_as, run_as, answer_of, ReadAs, Did}
use Rattle.rows.proofs.Sequence.{prepend_none, prepend_both}
use Rattle.rows.proofs.Stored.{flat_append, flat_length, sets_append, sets_over}

-- `rest room` is the run of what is left with so much room. n₀ rows were in `old` before the whole run, n are in `buf` now
pub record Sofar {S : Type 0} (whole : Run S) (old : List ℕ) (n₀ : ℕ) (rest : ℕ → Run S) (n : ℕ) (buf : List ℕ) : Type 0 where
  pub done : List Row
  pub same : whole ≡ prepend done (rest (room_of old - n))
  pub count : n₀ + length done ≡ n
  pub fits : n ≤ room_of old
  pub wrote : buf ≡ sets old (n₀ * 10) (flat done)

-- before the first row
pub sofar_none : {S : Type 0} (rest : ℕ → Run S) (old : List ℕ) (n : ℕ) → n ≤ room_of old → Sofar (rest (room_of old - n)) old n rest n old
sofar_none rest old n h = record { done = []; same = refl; count = omega arith; fits = h; wrote = refl }

pub sofar_start : {S : Type 0} (rest : ℕ → Run S) (old : List ℕ) → Sofar (rest (room_of old)) old 0 rest 0 old
sofar_start rest old =
    let e : room_of old ≡ room_of old - 0 = omega arith in
    record { done = []; same = ap rest e; count = omega arith; fits = omega arith; wrote = refl }

module _ {S : Type 0} {whole : Run S} {old : List ℕ} {n₀ : ℕ} {rest : ℕ → Run S} {n : ℕ} {buf : List ℕ} where
  -- the run ends here
  pub sofar_ends : {e : Ending S} → Sofar whole old n₀ rest n buf → rest (room_of old - n) ≡ stopped e → Did whole old n₀ e n buf
  sofar_ends {e} h f =
      let same : whole ≡ record { rows = h.done; ending = e } = h.same ∙ ap (prepend h.done) f ∙ prepend_none h.done e in
      let rows : whole.rows ≡ h.done = ap (λ (r : Run S). r.rows) same in
      record {
        ending = ap (λ (r : Run S). r.ending) same;
        count = rw rows h.count;
        fits = h.fits;
        wrote = rw rows h.wrote;
      }

module _ {S : Type 0} {whole : Run S} {old : List ℕ} {n₀ : ℕ} {rest : ℕ → Run S} {n : ℕ} {buf : List ℕ} (h : Sofar whole old n₀ rest n buf) where
  pub sofar_length : length buf ≡ length old
  sofar_length = ap length h.wrote ∙ length-sets old (n₀ * 10) (flat h.done)

  pub sofar_room : room_of buf ≡ room_of old
  sofar_room = ap (λ (k : ℕ). k / 10) sofar_length

  -- the run of what is left, said otherwise
  pub sofar_as : {rest' : ℕ → Run S} → rest (room_of old - n) ≡ rest' (room_of old - n) → Sofar whole old n₀ rest' n buf
  sofar_as e = record { done = h.done; same = h.same ∙ ap (prepend h.done) e; count = h.count; fits = h.fits; wrote = h.wrote }

  -- rows were written after those so far
  pub sofar_more : {rest' : ℕ → Run S} (new : List Row) {n' : ℕ} {buf' : List ℕ}
      → rest (room_of old - n) ≡ prepend new (rest' (room_of old - n - length new))
      → n + length new ≡ n' → n' ≤ room_of old → buf' ≡ sets buf (n * 10) (flat new)
      → Sofar whole old n₀ rest' n' buf'
  sofar_more {rest'} new {n'} {buf'} e p f g =
      let room : room_of old - n - length new ≡ room_of old - n' = omega arith in
      let at : n₀ * 10 + length (flat h.done) ≡ n * 10 = omega (arith, h.count, flat_length h.done) in
      record {
        done = h.done ++ new;
        same =
            h.same ∙ ap (prepend h.done) (e ∙ ap (λ (k : ℕ). prepend new (rest' k)) room)
            ∙ prepend_both h.done new (rest' (room_of old - n'));
        count = omega (arith, h.count, length-append h.done new);
        fits = f;
        wrote =
            g ∙ ap (λ (l : List ℕ). sets l (n * 10) (flat new)) h.wrote
            ∙ ap (λ (k : ℕ). sets (sets old (n₀ * 10) (flat h.done)) k (flat new)) (sym at)
            ∙ sym (sets_append (flat h.done) (flat new) old (n₀ * 10))
            ∙ ap (sets old (n₀ * 10)) (sym (flat_append h.done new));
      }

  -- rows are next: there is room for them and they were written, or there is none
  module _ (rest' : ℕ → Run S) (new : List Row) (place : ℕ) (e : rest (room_of old - n) ≡ give new place (room_of old - n) rest') where
    pub sofar_give : {n' : ℕ} {buf' : List ℕ} → n + length new ≡ n' → n' ≤ room_of old → buf' ≡ sets buf (n * 10) (flat new) → Sofar whole old n₀ rest' n' buf'
    sofar_give p f g =
        let fits : length new ≤ room_of old - n = omega arith in
        sofar_more new (e ∙ simp (le-leb _ _ fits)) p f g

    pub sofar_full : room_of old < n + length new → Did whole old n₀ (refused NoRoom place) n buf
    sofar_full f = sofar_ends h (e ∙ simp (lt-leb (length new) (room_of old - n) (omega (arith, h.fits))))

  -- a part is next, and was read by another function
  module _ {T : Type 0} (sub : Run T) (rest' : T → ℕ → Run S) (e : rest (room_of old - n) ≡ and_then sub (room_of old - n) rest') where
    pub sofar_sub : {t : T} {n' : ℕ} {buf' : List ℕ} → Did sub buf n (finished t) n' buf' → Sofar whole old n₀ (rest' t) n' buf'
    sofar_sub d = sofar_more sub.rows (e ∙ rw d.ending) d.count (omega (arith, d.fits, sofar_room)) d.wrote

    pub sofar_stopped : {f : Fault} {place n' : ℕ} {buf' : List ℕ} → Did sub buf n (refused f place) n' buf' → Did whole old n₀ (refused f place) n' buf'
    sofar_stopped {f} {place} {n'} {buf'} d =
        let turned : rest (room_of old - n) ≡ prepend sub.rows (stopped (refused f place)) = e ∙ rw d.ending (sym (prepend_none sub.rows (refused f place))) in
        let more : Sofar whole old n₀ (λ _. stopped (refused f place)) n' buf' =
        sofar_more sub.rows turned d.count (omega (arith, d.fits, sofar_room)) d.wrote in
        sofar_ends more refl

-- nothing was read
pub did_none : {S : Type 0} (e : Ending S) (old : List ℕ) (n : ℕ) → n ≤ room_of old → Did (stopped e) old n e n old
did_none e old n h = record { ending = refl; count = omega arith; fits = h; wrote = refl }

module _ {S : Type 0} {whole : Run S} {old : List ℕ} {e : Ending S} {n : ℕ} {new : List ℕ} where
  -- the same run, with another view of the state
  pub did_as : {T : Type 0} (f : S → T) {n₀ : ℕ} → Did whole old n₀ e n new → Did (run_as f whole) old n₀ (ending_as f e) n new
  did_as f d = record { ending = ap (ending_as f) d.ending; count = d.count; fits = d.fits; wrote = d.wrote }

  -- read from the front of the buffer, that is a reader's promise
  pub did_reads : {r : Result ℕ ReadError} → Did whole old 0 e n new → r ≡ answer_of e n → ReadAs whole old new r
  did_reads d q =
      let count : n ≡ length whole.rows = omega (arith, d.count) in
      record {
        answer = q ∙ ap₂ answer_of (sym d.ending) count;
        wrote = d.wrote ∙ sets_over (flat whole.rows) old (omega (arith, d.count, d.fits, flat_length whole.rows));
      }

-- refused before the first row
pub reads_refused : {S : Type 0} (f : Fault) (place : ℕ) {old : List ℕ} → ReadAs {S = S} (stopped (refused f place)) old old (Err (record { fault = f; rows = 0; place = place }))
reads_refused f place = record { answer = refl; wrote = refl }
