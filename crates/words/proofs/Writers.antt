-- What the writer answers of a list where the format's walk spells its words (the promise of `WalkedAs` is that of `WroteAs`), and how its two loops go on there.
use mathlib.Core.Path.{◌≡◌, refl, sym, ◌∙◌, ap, subst}
use Prim.Native.Nat.{ℕ, suc, ◌+◌, ◌*◌, ◌/◌, ◌≤◌, ◌<◌}
use native.Mathlib.Omega.{arith}
use native.Mathlib.Nat.{le-div_iff_mul-le, div-lt_iff_lt-mul, add-mul}
use mathlib.Core.Bool.{Bool, true, false, cond}
use mathlib.Core.List.{List, [], ◌∷◌, ◌++◌, append-nil}
use lib.ListN.{length, length-append}
use lib.Dec.{leb}
use borrow.Author.Tests.{le-leb, lt-leb, leb-true, leb-false}
use Rattle.std.specs.Prelude.{Result, Ok, Err}
use Rattle.rows.specs.declared.fault.Fault.{Fault}
use Rattle.rows.specs.declared.fault.Fault.TheVariants.{NoRoom, BadList}
use Rattle.rows.specs.declared.fault.WriteError.{WriteError}
use Rattle.rows.specs.declared.row.Row.{Row}
use Rattle.rows.specs.Row.{time_of, room_of, row_from, rows_of, over}
use Rattle.rows.specs.Rules.{Verdict, accepted, refused, verdict_then, judged_of, verdict_from, good_length, verdict_of}
use Rattle.rows.proofs.Judging.{few_rows, judged_is_time, judged_later, judged_good, accepted_list, good_list}
use Rattle.rows.proofs.Kept.{good_timely}
use Rattle.rows.proofs.Lists.{rows_of_length}
use Rattle.rows.proofs.Stored.{sets_over}
use Rattle.words.specs.Sinks.{room, after, Put}
use Rattle.words.specs.Walked.{walk_verdict, words_counted, walk_judged, where_accepted, WalkedAs}
use Rattle.words.specs.Words.{bytes_of_all}
use Rattle.words.specs.Writer.{Spelling, spelled, then_judged, room_for, writing_verdict, writing_of, WroteAs, PutWords, Walk, walked, Spells}
use Rattle.words.proofs.Sinks.{places_fit, written, written_from}
use Rattle.words.proofs.Walks.{Counting, counting_start, counting_done, counting_next, counting_refused, Putting, putting_start, putting_close, row_fits, putting_next}
use Rattle.words.proofs.Writes.{all_length, Writes, writes_fit, writes_more, writes_done}

not_accepted : {E : Type 0} {f : Fault} {i : ℕ} → refused f i ≡ accepted → E
not_accepted e = let z : ◌≡◌ {A = ℕ} 0 1 = cc in absurd (omega arith)

then_accepted : (v w : Verdict) → then_judged v w ≡ accepted → (v ≡ accepted) × (w ≡ accepted)
then_accepted accepted w e = (refl, e)
then_accepted (refused f i) w e = not_accepted e

room_accepted : (s : Spelling) (words bytes : ℕ) → room_for s words bytes ≡ accepted → words * s.size ≤ bytes
room_accepted s words bytes e = go (leb (words * s.size) bytes) refl e
  where
    go : (t : Bool) → leb (words * s.size) bytes ≡ t → cond t accepted (refused NoRoom 0) ≡ accepted → words * s.size ≤ bytes
    go true f g = leb-true _ _ f
    go false f g = not_accepted g

module _ {W : Type 0} {s : Spelling} {k : Walk W} {start : W} {last : W → ℕ} (p : Spells s k start last) where
  -- rows are judged alike
  pub same_verdict : (w : W) (rs : List Row) (i : ℕ) → walk_verdict s.writable k last w rs i ≡ verdict_from s.writable rs i (last w)
  unfolding verdict_from
  same_verdict w [] i = refl
  same_verdict w (r ∷ rs) i = go (same_verdict (k.next w r) rs (suc i)) (judged_of (s.writable r) r (last w)) refl
    where
      go : walk_verdict s.writable k last (k.next w r) rs (suc i) ≡ verdict_from s.writable rs (suc i) (last (k.next w r))
          → (v : Result ℕ Fault) → judged_of (s.writable r) r (last w) ≡ v
          → verdict_then v i (λ (t : ℕ). walk_verdict s.writable k last (k.next w r) rs (suc i)) ≡ verdict_then v i (verdict_from s.writable rs (suc i))
      go more (Ok t) e = more ∙ ap (verdict_from s.writable rs (suc i)) (p.goes w r ∙ sym (judged_is_time (s.writable r) r (last w) (sym e)))
      go more (Err f) e = refl

  -- and those that pass add few words
  pub few_words : (w : W) (rs : List Row) (i : ℕ) → last w < 17179869184 → walk_verdict s.writable k last w rs i ≡ accepted
      → length (walked k w rs) + p.paid (last w) ≤ 16 * length rs + 65552
  few_words w [] i t e = omega (arith, p.cheap (last w) t, p.closes w)
  few_words w (r ∷ rs) i t e = go (few_words (k.next w r) rs (suc i)) (judged_of (s.writable r) r (last w)) refl e
    where
      go : (last (k.next w r) < 17179869184 → walk_verdict s.writable k last (k.next w r) rs (suc i) ≡ accepted
          → length (walked k (k.next w r) rs) + p.paid (last (k.next w r)) ≤ 16 * length rs + 65552)
          → (v : Result ℕ Fault) → judged_of (s.writable r) r (last w) ≡ v
          → verdict_then v i (λ (t : ℕ). walk_verdict s.writable k last (k.next w r) rs (suc i)) ≡ accepted
          → length (walked k w (r ∷ rs)) + p.paid (last w) ≤ 16 * length (r ∷ rs) + 65552
      go more (Err f) is e = not_accepted e
      go more (Ok t) is e =
          let later : last w ≤ time_of r = omega (arith, judged_is_time (s.writable r) r (last w) (sym is), judged_later (s.writable r) r (last w) (sym is)) in
          let timely = good_timely r (judged_good (s.writable r) r (last w) (sym is)).0 in
          omega (arith, p.short w r later, more (omega (arith, timely, p.goes w r)) e, length-append (k.words w r) (walked k (k.next w r) rs), ap p.paid (p.goes w r))

  module _ {size : ℕ} (sized : s.size ≡ size) (some : 0 < size) (l old : List ℕ) where
    -- a list that passes 13, 12 and 5: its words are those of the spelling, and no place is too large
    module _ (passed : verdict_of s.writable l ≡ accepted) where
      from_first : verdict_from s.writable (rows_of l) 0 0 ≡ accepted
      from_first = sym (good_list s.writable l (accepted_list s.writable l passed).0) ∙ passed

      pub words_spelled : walked k start (rows_of l) ≡ spelled s l
      words_spelled = p.spells (rows_of l) from_first

      few : length (walked k start (rows_of l)) ≤ 18446744073709551615
      few =
          let judged : walk_verdict s.writable k last start (rows_of l) 0 ≡ accepted =
          same_verdict start (rows_of l) 0 ∙ ap (verdict_from s.writable (rows_of l) 0) p.begins ∙ from_first in
          omega (
            arith,
            few_words start (rows_of l) 0 (omega (arith, p.begins)) judged,
            rows_of_length l,
            few_rows l (accepted_list s.writable l passed).0,
          )

      pub counted : words_counted (walked k start (rows_of l)) ≡ length (spelled s l)
      counted = omega (arith, places_fit 18446744073709551615 0 (walked k start (rows_of l)) (omega (arith, few)), ap length words_spelled)

      -- written, they are the bytes of the spelling over the front of the buffer
      pub stored_all : length (spelled s l) * s.size ≤ length old → after true size old 0 (walked k start (rows_of l)) ≡ over (bytes_of_all s.size (spelled s l)) old
      stored_all fits =
          let front : 0 * size ≡ 0 = omega arith in
          let room : 0 + length (walked k start (rows_of l)) ≤ length old / size =
          (le-div_iff_mul-le some).1 (rw (words_spelled, sym sized) (omega (arith, fits))) in
          let bytes : length (bytes_of_all s.size (spelled s l)) ≤ length old = omega (arith, all_length s.size (spelled s l), fits) in
          (written_from old 0 (walked k start (rows_of l)) room).wrote ∙ rw (front, words_spelled, sym sized) (sets_over (bytes_of_all s.size (spelled s l)) old bytes)

      pub room_alike : cond (leb (words_counted (walked k start (rows_of l))) (room true size old)) accepted (refused NoRoom 0)
          ≡ room_for s (length (spelled s l)) (length old)
      room_alike =
          rw (counted, sized) (go (leb (length (spelled s l)) (length old / size)) refl)
        where
          go : (t : Bool) → leb (length (spelled s l)) (length old / size) ≡ t
              → cond t accepted (refused NoRoom 0) ≡ cond (leb (length (spelled s l) * size) (length old)) accepted (refused NoRoom 0)
          go true e = rw (le-leb _ _ ((le-div_iff_mul-le some).0 (leb-true _ _ e)))
          go false e = rw (lt-leb _ _ ((div-lt_iff_lt-mul some).0 (leb-false _ _ e)))

    pub same_judged : walk_judged size s.writable k start last l old ≡ writing_verdict s l (length old)
    unfolding writing_verdict verdict_of
    same_judged = ap (λ (v : Verdict). then_judged (cond (good_length (length l)) v (refused BadList 0)) roomy) rows_alike ∙ go (verdict_of s.writable l) refl
      where
        roomy : Verdict
        roomy = cond (leb (words_counted (walked k start (rows_of l))) (room true size old)) accepted (refused NoRoom 0)

        rows_alike : walk_verdict s.writable k last start (rows_of l) 0 ≡ verdict_from s.writable (rows_of l) 0 0
        rows_alike = same_verdict start (rows_of l) 0 ∙ ap (verdict_from s.writable (rows_of l) 0) p.begins

        go : (v : Verdict) → verdict_of s.writable l ≡ v → then_judged v roomy ≡ then_judged v (room_for s (length (spelled s l)) (length old))
        go accepted e = room_alike e
        go (refused f i) e = refl

    pub spelled_as : {new : List ℕ} {r : Result ℕ WriteError} → WalkedAs size s.writable k start last l old new r → WroteAs s l old new r
    unfolding writing_verdict
    spelled_as {new} {r} h = go (writing_verdict s l (length old)) refl (h.answer ∙ rw same_judged) (h.wrote ∙ rw same_judged)
      where
        go : (v : Verdict) → writing_verdict s l (length old) ≡ v → r ≡ writing_of v (words_counted (walked k start (rows_of l)))
            → new ≡ where_accepted v (after true size old 0 (walked k start (rows_of l))) old → WroteAs s l old new r
        go (refused f i) e a b = record { answer = a ∙ rw e; wrote = b ∙ rw e }
        go accepted e a b =
            let both = then_accepted (verdict_of s.writable l) (room_for s (length (spelled s l)) (length old)) e in
            let fits = room_accepted s (length (spelled s l)) (length old) both.1 in
            record { answer = a ∙ ap Ok (counted both.0) ∙ rw e; wrote = b ∙ stored_all both.0 fits ∙ rw e }

-- the two loops of such a writer
module _ {W : Type 0} {s : Spelling} {k : Walk W} {start : W} {last : W → ℕ} (p : Spells s k start last) where
  -- i rows passed
  pub record Counts (l : List ℕ) (words : ℕ) (w : W) (i : ℕ) : Type 0 where
    pub counting : Counting k s.writable start l words w (last w) i
    pub small : words ≤ 16 * i + p.paid (last w)
    pub timely : last w < 17179869184

  pub counts_start : (l : List ℕ) → Counts l 0 start 0
  counts_start l =
      record {
        counting = rw p.begins (counting_start k s.writable start l);
        small = omega arith;
        timely = omega (arith, p.begins);
      }

  module _ {l : List ℕ} {words : ℕ} {w : W} {i : ℕ} (h : Counts l words w i) where
    pub counts_done : room_of l ≤ i → {n : ℕ} → n ≡ words + length (k.close w)
        → Ok n ≡ writing_of (verdict_from s.writable (rows_of l) 0 0) (length (spelled s l))
    counts_done f e =
        let done = counting_done k h.counting f in
        rw done.0 (ap Ok (e ∙ sym done.1 ∙ ap length (p.spells (rows_of l) done.0)))

    -- no sum is too large
    pub close_room : words + length (k.close w) ≤ 16 * room_of l + 65552
    close_room = omega (arith, h.small, p.cheap (last w) h.timely, h.counting.judging.within, p.closes w)

    module _ {r : Row} (f : i < room_of l) (e : r ≡ row_from l (i * 10)) where
      pub counts_refused : {fault : Fault} → Err fault ≡ judged_of (s.writable r) r (last w)
          → Err (record { fault = fault; row = i }) ≡ writing_of (verdict_from s.writable (rows_of l) 0 0) (length (spelled s l))
      counts_refused g = rw (counting_refused k h.counting f e g)

      module _ {t : ℕ} (g : Ok t ≡ judged_of (s.writable r) r (last w)) where
        is_time : t ≡ time_of r
        is_time = judged_is_time (s.writable r) r (last w) g

        fewer : length (k.words w r) + p.paid (last w) ≤ 16 + p.paid (time_of r)
        fewer = p.short w r (omega (arith, is_time, judged_later (s.writable r) r (last w) g))

        in_limit : time_of r < 17179869184
        in_limit = good_timely r (judged_good (s.writable r) r (last w) g).0

        pub row_room : words + length (k.words w r) ≤ 16 * room_of l + 65552
        row_room = omega (arith, h.small, f, p.cheap (time_of r) in_limit, fewer)

        pub counts_next : {n : ℕ} {next : W} → n ≡ words + length (k.words w r) → next ≡ k.next w r → Counts l n next (i + 1)
        counts_next {n} {next} a b =
            let same : last (k.next w r) ≡ t = p.goes w r ∙ sym is_time in
            let counted : Counting k s.writable start l (words + length (k.words w r)) (k.next w r) t (i + 1) = counting_next k h.counting f e g refl in
            rw (a, b)
            (record {
              counting = rw same counted;
              small = omega (arith, h.small, fewer, ap p.paid (p.goes w r));
              timely = omega (arith, in_limit, p.goes w r);
            })

  -- the loop that writes them
  pub record Wrote (size : ℕ) (l old : List ℕ) (at : ℕ) (w : W) (i : ℕ) (buf : List ℕ) : Type 0 where
    pub putting : Putting k size (spelled s l) l old (at * size) w i buf

  pub wrote_start : (size : ℕ) (l old : List ℕ) → verdict_from s.writable (rows_of l) 0 0 ≡ accepted → Wrote size l old 0 start 0 old
  wrote_start size l old e =
      let none : 0 ≡ 0 * size = omega arith in
      record {
        putting =
            subst (λ (n : ℕ). Putting k size (spelled s l) l old n start 0 old) none
            (subst (λ (ws : List ℕ). Putting k size ws l old 0 start 0 old) (p.spells (rows_of l) e) (putting_start k size start l old));
      }

  module _ {size : ℕ} (some : 0 < size) {l old : List ℕ} {at : ℕ} {w : W} {i : ℕ} {buf : List ℕ} (h : Wrote size l old at w i buf)
      (room : length (spelled s l) * size ≤ length old) where
    fits_in : (n : ℕ) → at * size + n * size ≤ length buf → at + n ≤ length buf / size
    fits_in n f = (le-div_iff_mul-le some).1 (omega (arith, f, add-mul at n size))

    -- what is left after the last row
    module _ (f : room_of l ≤ i) where
      close_here : Writes size (spelled s l) old 0 (k.close w ++ []) (at * size) buf
      close_here =
          subst (λ (ws : List ℕ). Writes size (spelled s l) old 0 ws (at * size) buf) (sym (append-nil (k.close w))) (putting_close k h.putting f)

      pub close_fits : at + length (k.close w) ≤ length buf / size
      close_fits = fits_in (length (k.close w)) (writes_fit (k.close w) [] close_here (omega (arith, room)))

      pub wrote_all : {end : ℕ} {buf' : List ℕ} → Put true size (k.close w) buf at buf' end → PutWords size (spelled s l) old 0 buf' (end * size)
      wrote_all q = writes_done (writes_more (k.close w) close_here (written close_fits q))

    module _ {r : Row} (f : i < room_of l) (e : r ≡ row_from l (i * 10)) where
      pub words_fit : at + length (k.words w r) ≤ length buf / size
      words_fit = fits_in (length (k.words w r)) (row_fits k h.putting f e room)

      pub wrote_next : {at' : ℕ} {next : W} {buf' : List ℕ} → Put true size (k.words w r) buf at buf' at' → next ≡ k.next w r
          → Wrote size l old at' next (i + 1) buf'
      wrote_next {at'} {next} {buf'} q n = rw n (record { putting = putting_next k h.putting f e (written words_fit q) })
