-- Writers that go over rows one by one, whatever they add for them: how the loop that judges rows and counts their words and the loop that writes them go on.
use mathlib.Core.Path.{◌≡◌, refl, sym, ◌∙◌, ap, subst}
use Prim.Native.Nat.{ℕ, suc, ◌+◌, ◌*◌, ◌≤◌, ◌<◌, min}
use native.Mathlib.Omega.{arith}
use native.Mathlib.Numerals.{add-one}
use mathlib.Core.Bool.{Bool, true}
use mathlib.Core.List.{List, [], ◌∷◌, ◌++◌, append_assoc}
use Rattle.std.specs.Prelude.{Ok, Err}
use Rattle.rows.specs.declared.fault.Fault.{Fault}
use Rattle.rows.specs.declared.row.Row.{Row}
use Rattle.rows.specs.Row.{room_of, row_from, rows_of}
use Rattle.rows.specs.Rules.{accepted, refused, judged_of, verdict_from}
use Rattle.rows.proofs.Lists.{rest, rest_none, rest_more, rest_all}
pub use Rattle.words.specs.Writer.{Walk, walked, PutWords}
use Rattle.words.specs.Sinks.{Put}
use Rattle.words.specs.Walked.{walk_verdict, words_counted}
use Rattle.words.proofs.Sinks.{counted_sum, Puts, puts_start, puts_more, last_put}
use lib.ListN.{length, length-append}
use Rattle.rows.proofs.Judging.{Judging, judging_start, judging_done, judging_next, judging_refused}
use Rattle.words.proofs.Writes.{Writes, writes_start, writes_fit, writes_more}

module _ {W : Type 0} (k : Walk W) where
  -- those from row i on: the last ones, or row i's and those after it
  none_left : (l : List ℕ) (w : W) (i : ℕ) → room_of l ≤ i → walked k w (rest l i) ≡ k.close w
  none_left l w i h = ap (walked k w) (rest_none l i h)

  row_left : (l : List ℕ) (i : ℕ) → i < room_of l → {r : Row} → r ≡ row_from l (i * 10) → rest l i ≡ r ∷ rest l (i + 1)
  row_left l i h e = rest_more l i h ∙ ap (λ (q : Row). q ∷ rest l (i + 1)) (sym e)

  -- the words of i rows are in a slice, and those of the others are to come
  pub record Walking (size : ℕ) (start : W) (l old : List ℕ) (at : ℕ) (w : W) (i : ℕ) (buf : List ℕ) : Type 0 where
    pub puts : Puts true size (walked k start (rows_of l)) old 0 (walked k w (rest l i)) at buf

  pub walking_start : (size : ℕ) (start : W) (l old : List ℕ) → Walking size start l old 0 start 0 old
  walking_start size start l old =
      record {
        puts =
            subst (λ (rs : List Row). Puts true size (walked k start (rows_of l)) old 0 (walked k start rs) 0 old) (rest_all l)
            (puts_start (walked k start (rows_of l)) old 0);
      }

  module _ {size : ℕ} {start : W} {l old : List ℕ} {at : ℕ} {w : W} {i : ℕ} {buf : List ℕ} (h : Walking size start l old at w i buf) where
    pub walking_next : {r : Row} → i < room_of l → r ≡ row_from l (i * 10) → {at' : ℕ} {next : W} {buf' : List ℕ} → Put true size (k.words w r) buf at buf' at'
        → next ≡ k.next w r → Walking size start l old at' next (i + 1) buf'
    walking_next {r} f e p n =
        rw n
        (record {
          puts =
              puts_more (k.words w r)
              (subst (λ (rs : List Row). Puts true size (walked k start (rows_of l)) old 0 (walked k w rs) at buf) (row_left l i f e) h.puts) p;
        })

    pub walking_done : room_of l ≤ i → {end : ℕ} {buf' : List ℕ} → Put true size (k.close w) buf at buf' end
        → Put true size (walked k start (rows_of l)) old 0 buf' end
    walking_done f p =
        last_put (k.close w) (subst (λ (ws : List ℕ). Puts true size (walked k start (rows_of l)) old 0 ws at buf) (none_left l w i f) h.puts) p

  -- the words of i rows are counted
  pub record Tally (start : W) (l : List ℕ) (words : ℕ) (w : W) (i : ℕ) : Type 0 where
    pub done : List ℕ
    pub same : walked k start (rows_of l) ≡ done ++ walked k w (rest l i)
    pub place : words ≡ words_counted done

  pub tally_start : (start : W) (l : List ℕ) → Tally start l 0 start 0
  tally_start start l = record { done = []; same = ap (walked k start) (rest_all l); place = refl }

  module _ {start : W} {l : List ℕ} {words : ℕ} {w : W} {i : ℕ} (h : Tally start l words w i) where
    counted : (ws : List ℕ) {c n : ℕ} → c ≡ words_counted ws → n ≡ min (words + c) 18446744073709551615 → n ≡ words_counted (h.done ++ ws)
    counted ws e f = omega (arith, e, f, h.place, counted_sum h.done ws)

    pub tally_next : {r : Row} → i < room_of l → r ≡ row_from l (i * 10) → {c n : ℕ} {next : W} → c ≡ words_counted (k.words w r)
        → n ≡ min (words + c) 18446744073709551615 → next ≡ k.next w r → Tally start l n next (i + 1)
    tally_next {r} f e p q n =
        rw n
        (record {
          done = h.done ++ k.words w r;
          same =
              h.same
              ∙ ap (λ (rs : List Row). h.done ++ walked k w rs) (row_left l i f e)
              ∙ sym (append_assoc h.done (k.words w r) (walked k (k.next w r) (rest l (i + 1))));
          place = counted (k.words w r) p q;
        })

    pub tally_done : room_of l ≤ i → {c n : ℕ} → c ≡ words_counted (k.close w) → n ≡ min (words + c) 18446744073709551615
        → n ≡ words_counted (walked k start (rows_of l))
    tally_done f p q = counted (k.close w) p q ∙ ap words_counted (sym (h.same ∙ ap (λ (ws : List ℕ). h.done ++ ws) (none_left l w i f)))

  -- i rows passed, and the others are to be judged
  module _ (writable : Row → Bool) (last : W → ℕ) (start : W) (l : List ℕ) where
    pub record Passing (w : W) (i : ℕ) : Type 0 where
      pub same : walk_verdict writable k last start (rows_of l) 0 ≡ walk_verdict writable k last w (rest l i) i

    pub passing_start : Passing start 0
    passing_start = record { same = ap (λ (rs : List Row). walk_verdict writable k last start rs 0) (rest_all l) }

    module _ {w : W} {i : ℕ} (h : Passing w i) where
      pub passing_done : room_of l ≤ i → walk_verdict writable k last start (rows_of l) 0 ≡ accepted
      passing_done f = h.same ∙ ap (λ (rs : List Row). walk_verdict writable k last w rs i) (rest_none l i f)

      module _ {r : Row} (f : i < room_of l) (e : r ≡ row_from l (i * 10)) where
        here : walk_verdict writable k last start (rows_of l) 0 ≡ walk_verdict writable k last w (r ∷ rest l (i + 1)) i
        here = h.same ∙ ap (λ (rs : List Row). walk_verdict writable k last w rs i) (row_left l i f e)

        pub passing_refused : {fault : Fault} → Err fault ≡ judged_of (writable r) r (last w) → walk_verdict writable k last start (rows_of l) 0 ≡ refused fault i
        passing_refused g = here ∙ rw (sym g)

        pub passing_next : {t : ℕ} {next : W} → Ok t ≡ judged_of (writable r) r (last w) → next ≡ k.next w r → Passing next (i + 1)
        passing_next g n =
            let one : walk_verdict writable k last start (rows_of l) 0 ≡ walk_verdict writable k last (k.next w r) (rest l (i + 1)) (suc i) = here ∙ rw (sym g) in
            rw n (record { same = one ∙ ap (walk_verdict writable k last (k.next w r) (rest l (i + 1))) (sym (add-one i)) })

-- the same two loops, the one by sums that have no bound, the other by the words' own promise
module _ {W : Type 0} (k : Walk W) where
  more_left : (l : List ℕ) (w : W) (i : ℕ) → i < room_of l → {r : Row} → r ≡ row_from l (i * 10)
      → walked k w (rest l i) ≡ k.words w r ++ walked k (k.next w r) (rest l (i + 1))
  more_left l w i h e = ap (walked k w) (row_left k l i h e)

  -- the loop that judges rows and counts their words: i rows passed, the last at the time `last`
  pub record Counting (writable : Row → Bool) (start : W) (l : List ℕ) (words : ℕ) (w : W) (last i : ℕ) : Type 0 where
    pub judging : Judging writable l i last
    pub total : length (walked k start (rows_of l)) ≡ words + length (walked k w (rest l i))

  pub counting_start : (writable : Row → Bool) (start : W) (l : List ℕ) → Counting writable start l 0 start 0 0
  counting_start writable start l =
      record { judging = judging_start writable l; total = omega (arith, ap (λ (rs : List Row). length (walked k start rs)) (rest_all l)) }

  module _ {writable : Row → Bool} {start : W} {l : List ℕ} {words : ℕ} {w : W} {last i : ℕ} (h : Counting writable start l words w last i) where
    pub counting_done : room_of l ≤ i → (verdict_from writable (rows_of l) 0 0 ≡ accepted) × (length (walked k start (rows_of l)) ≡ words + length (k.close w))
    counting_done f = (judging_done writable h.judging f, omega (arith, h.total, ap (λ (ws : List ℕ). length ws) (none_left k l w i f)))

    module _ {r : Row} (f : i < room_of l) (e : r ≡ row_from l (i * 10)) where
      pub counting_refused : {fault : Fault} → Err fault ≡ judged_of (writable r) r last → verdict_from writable (rows_of l) 0 0 ≡ refused fault i
      counting_refused {fault} g = judging_refused writable h.judging f (subst (λ (q : Row). Err fault ≡ judged_of (writable q) q last) e g)

      pub counting_next : {t n : ℕ} → Ok t ≡ judged_of (writable r) r last → n ≡ length (k.words w r) → Counting writable start l (words + n) (k.next w r) t (i + 1)
      counting_next {t} {n} g p =
          record {
            judging = judging_next writable h.judging f (subst (λ (q : Row). Ok t ≡ judged_of (writable q) q last) e g);
            total = omega (arith, h.total, ap (λ (ws : List ℕ). length ws) (more_left l w i f e), length-append (k.words w r) (walked k (k.next w r) (rest l (i + 1))));
          }

  -- the loop that writes them, all of them being `ws`: those of the rows from row i on are to come
  pub record Putting (size : ℕ) (ws l old : List ℕ) (at : ℕ) (w : W) (i : ℕ) (buf : List ℕ) : Type 0 where
    pub writes : Writes size ws old 0 (walked k w (rest l i)) at buf

  pub putting_start : (size : ℕ) (start : W) (l old : List ℕ) → Putting size (walked k start (rows_of l)) l old 0 start 0 old
  putting_start size start l old =
      record {
        writes =
            subst (λ (rs : List Row). Writes size (walked k start (rows_of l)) old 0 (walked k start rs) 0 old) (rest_all l)
            (writes_start size (walked k start (rows_of l)) old 0);
      }

  module _ {size : ℕ} {ws l old : List ℕ} {at : ℕ} {w : W} {i : ℕ} {buf : List ℕ} (h : Putting size ws l old at w i buf) where
    -- the words after the last row
    pub putting_close : room_of l ≤ i → Writes size ws old 0 (k.close w) at buf
    putting_close f = subst (λ (left : List ℕ). Writes size ws old 0 left at buf) (none_left k l w i f) h.writes

    module _ {r : Row} (f : i < room_of l) (e : r ≡ row_from l (i * 10)) where
      to_come : Writes size ws old 0 (k.words w r ++ walked k (k.next w r) (rest l (i + 1))) at buf
      to_come = subst (λ (left : List ℕ). Writes size ws old 0 left at buf) (more_left l w i f e) h.writes

      pub row_fits : length ws * size ≤ length old → at + length (k.words w r) * size ≤ length buf
      row_fits room = writes_fit (k.words w r) (walked k (k.next w r) (rest l (i + 1))) to_come (omega (arith, room))

      pub putting_next : {at' : ℕ} {buf' : List ℕ} → PutWords size (k.words w r) buf at buf' at' → Putting size ws l old at' (k.next w r) (i + 1) buf'
      putting_next p = record { writes = writes_more (k.words w r) to_come p }
