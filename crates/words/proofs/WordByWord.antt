-- Runs that finish, word by word, over any machine: the first word and the run of the rest, the rows of the words, the run from word k on; and
-- readings, which finish where a run does with no group in hand.
use mathlib.Core.Path.{◌≡◌, refl, sym, ◌∙◌, ap, subst}
use Prim.Native.Nat.{ℕ, zero, suc, ◌+◌, ◌-◌, ◌*◌, ◌≤◌, ◌<◌}
use native.Mathlib.Omega.{arith}
use native.Mathlib.Nat.{zero-mul, suc-mul}
use mathlib.Core.Bool.{Bool, true, false, cond}
use mathlib.Core.List.{List, ◌∷◌, ◌++◌, append-nil, flatten}
use lib.ListN.{length, take, drop, length-drop}
use lib.Seq.{drop-drop}
use lib.Dec.{leb}
use borrow.Author.Tests.{leb-true, le-leb}
use Rattle.rows.specs.declared.fault.Fault.TheVariants.{NoRoom, Cut}
use Rattle.rows.specs.declared.row.Row.{Row}
use Rattle.rows.specs.Runs.{Ending, finished, refused, Run, prepend, stopped, resume}
use Rattle.rows.proofs.Sequence.{not_finished}
use Rattle.words.specs.Words.{value, Words, word, whole, part, words_of}
use Rattle.words.specs.Machine.{Outcome, next, fault, Machine, Reached, after, run, rows_by_word, closed, reading}
use Rattle.words.proofs.Cut.{words_one}

module _ {S : Type 0} (m : Machine S) where
  -- a word that is not refused
  module _ (w : ℕ) (ws : Words) {s s' : S} (place : ℕ) {new : List Row} (e : m.step s place w ≡ next s' new) where
    -- and whose rows fit
    pub run_next : (room : ℕ) → length new ≤ room → run m (word w ws) s place room ≡ prepend new (run m ws s' (place + m.size) (room - length new))
    run_next room h = rw (e, le-leb (length new) room h) refl

    pub rows_next : rows_by_word m (word w ws) s place ≡ new ∷ rows_by_word m ws s' (place + m.size)
    rows_next = rw e refl

  -- of a run that finishes the first word is one
  pub record FirstWord (w : ℕ) (ws : Words) (s : S) (place room : ℕ) (end : Reached S) : Type 0 where
    pub state : S
    pub new : List Row
    pub step : m.step s place w ≡ next state new
    pub fits : length new ≤ room
    pub rest : (run m ws state (place + m.size) (room - length new)).ending ≡ finished end

  pub first_word : (w : ℕ) (ws : Words) (s : S) (place room : ℕ) {end : Reached S} → (run m (word w ws) s place room).ending ≡ finished end → FirstWord w ws s place room end
  first_word w ws s place room {end} e = go (m.step s place w) refl e
    where
      given : (s' : S) (new : List Row) → m.step s place w ≡ next s' new → (t : Bool) → leb (length new) room ≡ t
          → (cond t (prepend new (run m ws s' (place + m.size) (room - length new))) (stopped (refused NoRoom (m.origin s place)))).ending ≡ finished end
          → FirstWord w ws s place room end
      given s' new is true f g = record { state = s'; new = new; step = is; fits = leb-true _ _ f; rest = g }
      given s' new is false f g = not_finished g

      go : (o : Outcome S) → m.step s place w ≡ o
          → (after o place (m.origin s place) room (λ s'' room'. run m ws s'' (place + m.size) room')).ending ≡ finished end
          → FirstWord w ws s place room end
      go (next s' new) is f = given s' new is (leb (length new) room) refl f
      go (fault f) is g = not_finished g

  -- its rows are those of its words
  pub run_rows : (ws : Words) (s : S) (place room : ℕ) {end : Reached S} → (run m ws s place room).ending ≡ finished end
      → (run m ws s place room).rows ≡ flatten (rows_by_word m ws s place)
  unfolding flatten
  run_rows whole s place room e = refl
  run_rows part s place room e = not_finished e
  run_rows (word w ws) s place room e =
      let b = first_word w ws s place room e in
      ap (λ (r : Run (Reached S)). r.rows) (run_next w ws place b.step room b.fits)
      ∙ ap (λ (rs : List Row). b.new ++ rs) (run_rows ws b.state (place + m.size) (room - length b.new) b.rest)
      ∙ sym (ap flatten (rows_next w ws place b.step))

  -- the run from word k on, and the rows of its words
  pub record FromWord (k : ℕ) (bytes : List ℕ) (s : S) (place room : ℕ) (end : Reached S) : Type 0 where
    pub state : S
    pub at : ℕ
    pub left : ℕ
    pub fewer : left ≤ room
    pub rest : (run m (words_of m.size (drop (k * m.size) bytes)) state at left).ending ≡ finished end
    pub rows : drop k (rows_by_word m (words_of m.size bytes) s place) ≡ rows_by_word m (words_of m.size (drop (k * m.size) bytes)) state at
    pub within : k ≤ length (rows_by_word m (words_of m.size bytes) s place)

  -- one word further
  from_next : (k w : ℕ) (bytes : List ℕ) (s : S) (place room : ℕ) (end : Reached S)
      → words_of m.size bytes ≡ word w (words_of m.size (drop m.size bytes))
      → (b : FirstWord w (words_of m.size (drop m.size bytes)) s place room end)
      → FromWord k (drop m.size bytes) b.state (place + m.size) (room - length b.new) end
      → FromWord (suc k) bytes s place room end
  from_next k w bytes s place room end one b f =
      record {
        state = f.state;
        at = f.at;
        left = f.left;
        fewer = omega (arith, f.fewer);
        rest = subst (λ (l : List ℕ). (run m (words_of m.size l) f.state f.at f.left).ending ≡ finished end) same f.rest;
        rows = ap (drop (suc k)) first ∙ f.rows ∙ ap (λ (l : List ℕ). rows_by_word m (words_of m.size l) f.state f.at) same;
        within = subst (λ (l : List (List Row)). suc k ≤ length l) (sym first) (omega (arith, f.within));
      }
    where
      on : m.size + k * m.size ≡ suc k * m.size
      on = omega (arith, suc-mul k m.size)

      same : drop (k * m.size) (drop m.size bytes) ≡ drop (suc k * m.size) bytes
      same = drop-drop (k * m.size) m.size bytes ∙ ap (λ (j : ℕ). drop j bytes) on

      first : rows_by_word m (words_of m.size bytes) s place ≡ b.new ∷ rows_by_word m (words_of m.size (drop m.size bytes)) b.state (place + m.size)
      first =
          ap (λ (ws : Words). rows_by_word m ws s place) one
          ∙ rows_next w (words_of m.size (drop m.size bytes)) place b.step

  pub from_word : 0 < m.size → (k : ℕ) (bytes : List ℕ) (s : S) (place room : ℕ) {end : Reached S} → k * m.size ≤ length bytes
      → (run m (words_of m.size bytes) s place room).ending ≡ finished end → FromWord k bytes s place room end
  from_word some zero bytes s place room {end} h e =
      let none : bytes ≡ drop (0 * m.size) bytes = sym (ap (λ (j : ℕ). drop j bytes) (zero-mul m.size)) in
      record {
        state = s;
        at = place;
        left = room;
        fewer = omega arith;
        rest = subst (λ (l : List ℕ). (run m (words_of m.size l) s place room).ending ≡ finished end) none e;
        rows = ap (λ (l : List ℕ). rows_by_word m (words_of m.size l) s place) none;
        within = omega arith;
      }
  from_word some (suc k) bytes s place room {end} h e =
      let w : ℕ = value (take m.size bytes) in
      let tail : List ℕ = drop m.size bytes in
      let one : words_of m.size bytes ≡ word w (words_of m.size tail) = words_one m.size some bytes (omega (arith, suc-mul k m.size)) in
      let b : FirstWord w (words_of m.size tail) s place room end =
      first_word w (words_of m.size tail) s place room (subst (λ (ws : Words). (run m ws s place room).ending ≡ finished end) one e) in
      from_next k w bytes s place room end one b
      (from_word some k tail b.state (place + m.size) (room - length b.new)
      (omega (arith, suc-mul k m.size, length-drop m.size bytes)) b.rest)

  -- a reading finishes where its run does, with no group in hand
  pub record Ran (ws : Words) (s : S) (place room : ℕ) (end : Reached S) : Type 0 where
    pub ending : (run m ws s place room).ending ≡ finished end
    pub none : m.pending end.state ≡ false

  module _ (ws : Words) (s : S) (place room : ℕ) {end : Reached S} where
    pub reading_ran : (reading m ws s place room).ending ≡ finished end → Ran ws s place room end
    reading_ran e = go (run m ws s place room).ending refl e
      where
        close : (q : Reached S) → (run m ws s place room).ending ≡ finished q → (t : Bool) → m.pending q.state ≡ t
            → cond t (refused Cut (m.origin q.state q.place)) (finished q) ≡ finished end → Ran ws s place room end
        close q is true p f = not_finished f
        close q is false p f = let same : q ≡ end = cc in record { ending = is ∙ f; none = rw (sym same) p }

        go : (x : Ending (Reached S)) → (run m ws s place room).ending ≡ x → (resume (run m ws s place room).rows x room (closed m)).ending ≡ finished end
            → Ran ws s place room end
        go (finished q) is f = close q is (m.pending q.state) refl f
        go (refused f at) is g = not_finished g

    pub ran_reading : Ran ws s place room end → (reading m ws s place room).ending ≡ finished end
    ran_reading h = rw (h.ending, h.none) refl

    pub ran_rows : Ran ws s place room end → (reading m ws s place room).rows ≡ (run m ws s place room).rows
    ran_rows h = rw h.ending (append-nil (run m ws s place room).rows)

    pub reading_rows : (reading m ws s place room).ending ≡ finished end → (reading m ws s place room).rows ≡ flatten (rows_by_word m ws s place)
    reading_rows e =
        let h = reading_ran e in
        ran_rows h ∙ run_rows ws s place room h.ending
