-- A reader that joins a recording part way: what is admitted, and the whole of 02, R-10.
use mathlib.Core.Path.{◌≡◌, refl, sym, ◌∙◌, ap, subst}
use Prim.Native.Nat.{ℕ, ◌+◌, ◌*◌, ◌≤◌}
use native.Mathlib.Omega.{arith}
use mathlib.Core.List.{List, [], flatten}
use lib.ListN.{length, drop, get_or, length-drop}
use lib.Seq.{get_or-drop}
use Rattle.rows.specs.declared.row.Row.{Row}
use Rattle.rows.specs.Runs.{finished, Finishes}
use Rattle.words.specs.declared.picture.Picture.{Picture}
use Rattle.std.specs.Prelude.{Result, Ok, ⊤}
use Rattle.rows.specs.declared.fault.Fault.{Fault}
use Rattle.words.specs.Words.{words_of}
use Rattle.words.specs.Machine.{Machine, Reached, run, rows_by_word, reading, read_from}
use Rattle.words.specs.Picture.{admission_of, admitted}
use Rattle.words.proofs.Admitted.{was_admitted, fewer_admitted}
use Rattle.words.proofs.Kept.{rows_of_words}
use Rattle.words.proofs.WordByWord.{FromWord, from_word, reading_ran, ran_reading}
use Rattle.evt3.specs.declared.state.State.{State}
use Rattle.evt3.specs.State.{fresh}
use Rattle.evt3.specs.Reader.{machine, reading_of}
use Rattle.join.specs.Join.{Agrees, words_from, joined_rows, full_rows, Joins}
use Rattle.join.specs.Seen.{none_seen, all_seen_in}
use Rattle.join.proofs.Behind.{fresh_behind, fresh_covers}
use Rattle.join.proofs.Followed.{wraps_from, Followed, followed, agree_at, agree_count}

module _ (p : Picture) where
  abbrev m : Machine State
  m = machine p

  -- what is admitted and whose run finishes is read, with the rows of its words
  reads : (bytes : List ℕ) (room : ℕ) (end : Reached State) → admission_of (length bytes) p ≡ Ok tt
      → (run m (words_of 2 bytes) fresh 0 room).ending ≡ finished end → Finishes (reading_of p bytes room) (flatten (full_rows p bytes))
  reads bytes room end a e =
      let finishes : (reading m (words_of 2 bytes) fresh 0 room).ending ≡ finished end = ran_reading m (words_of 2 bytes) fresh 0 room (record { ending = e; none = refl }) in
      rw a
      (record {
        state = end;
        rows = rows_of_words State m (words_of 2 bytes) fresh 0 room end finishes;
        ending = finishes;
      })

  pub joins : (bytes : List ℕ) (k room : ℕ) (end : Reached State) → k * 2 ≤ length bytes → (reading_of p bytes room).ending ≡ finished end
      → Joins p bytes k room
  joins bytes k room end h e =
      record {
        finishes = reads rest room r.end (fewer_admitted p (length rest) (length bytes) (omega (arith, length-drop (k * 2) bytes)) is_read) r.finishes;
        full = (reads bytes room end is_read runs).rows;
        count = omega (arith, agree_count r.agree, ap length f.rows, length-drop k (full_rows p bytes), f.within);
        wraps = n;
        agrees = λ i. subst (λ (l : List Row). Agrees n (all_seen_in (words_from bytes k) i) (get_or (joined_rows p bytes k) i []) l) (full_at i) (agree_at r.agree i);
      }
    where
      is_read : admission_of (length bytes) p ≡ Ok tt
      is_read = was_admitted (admission_of (length bytes) p) (read_from m bytes fresh 0 room) e

      runs : (run m (words_of 2 bytes) fresh 0 room).ending ≡ finished end
      runs =
          (reading_ran m (words_of 2 bytes) fresh 0 room
          (subst (λ (a : Result ⊤ Fault). (admitted a (read_from m bytes fresh 0 room)).ending ≡ finished end) is_read e)).ending

      rest : List ℕ
      rest = drop (k * 2) bytes

      -- the full reader at word k
      f : FromWord m k bytes fresh 0 room end
      f = from_word m (omega arith) k bytes fresh 0 room h runs

      n : ℕ
      n = wraps_from p none_seen (words_of 2 rest) f.state

      r : Followed p n none_seen (words_of 2 rest) fresh f.state 0 f.at room
      r =
          followed p n none_seen (words_of 2 rest) fresh f.state 0 f.at room f.left end (fresh_behind n f.state) fresh_covers (λ _. refl)
          f.fewer f.rest

      full_at : (i : ℕ) → get_or (rows_by_word m (words_of 2 rest) f.state f.at) i [] ≡ get_or (full_rows p bytes) (k + i) []
      full_at i = ap (λ (l : List (List Row)). get_or l i []) (sym f.rows) ∙ get_or-drop k (full_rows p bytes) i []
