-- A machine that keeps up with another finishes what the other finishes; how that is shown of a machine.
use mathlib.Core.Path.{◌≡◌, refl, sym, ◌∙◌, ap, subst, subst₂}
use Prim.Native.Nat.{ℕ, ◌+◌, ◌-◌, ◌≤◌}
use native.Mathlib.Omega.{arith}
use mathlib.Core.Bool.{Bool, false}
use mathlib.Core.List.{List, ◌++◌}
use lib.ListN.{length, drop}
use Rattle.rows.specs.declared.row.Row.{Row}
use Rattle.rows.specs.Row.{only}
use Rattle.rows.specs.Runs.{finished, Run, Finishes}
use Rattle.rows.proofs.Only.{only_append, only_short}
use Rattle.rows.proofs.Sequence.{not_finished}
use Rattle.words.specs.Words.{Words, word, whole, part, words_of}
use Rattle.words.specs.Machine.{Outcome, next, fault, Machine, Reached, run, reading, read_from, Takes, KeepsUp}
use Rattle.words.proofs.WordByWord.{run_next, first_word, Ran, reading_ran, ran_reading, ran_rows}

module _ {S T : Type 0} {m : Machine S} {n : Machine T} {test : Row → Bool} {Alike : S → T → Type 0} (k : KeepsUp m n test Alike) where
  -- a run of n beside one of m that gave some rows and finished in a state
  record Beside (all : List Row) (s : S) (o : Run (Reached T)) : Type 0 where
    reached : Reached T
    rows : o.rows ≡ only test all
    ending : o.ending ≡ finished reached
    alike : Alike s reached.state

  run_beside : (ws : Words) (s : S) (t : T) (place room room' : ℕ) → Alike s t → room ≤ room' → {r : Reached S} → (run m ws s place room).ending ≡ finished r
      → Beside (run m ws s place room).rows r.state (run n ws t place room')
  run_beside whole s t place room room' a h {r} e =
      let same : s ≡ r.state = cc in
      record { reached = record { state = t; place = place }; rows = refl; ending = refl; alike = rw (sym same) a }
  run_beside part s t place room room' a h e = not_finished e
  run_beside (word w ws) s t place room room' a h {r} e =
      let b = first_word m w ws s place room e in
      let to = k.step s t place w b.state b.new a b.step in
      let fewer : length (only test b.new) ≤ length b.new = only_short test b.new in
      let left : ℕ = room - length b.new in
      let left' : ℕ = room' - length (only test b.new) in
      let rest : Beside (run m ws b.state (place + m.size) left).rows r.state (run n ws to.state (place + n.size) left') =
      subst (λ (size : ℕ). Beside (run m ws b.state (place + m.size) left).rows r.state (run n ws to.state (place + size) left')) (sym k.size)
      (run_beside ws b.state to.state (place + m.size) left left' to.holds (omega (arith, fewer, h)) b.rest) in
      subst₂ (λ (x : Run (Reached S)) (y : Run (Reached T)). Beside x.rows r.state y)
      (sym (run_next m w ws place b.step room b.fits))
      (sym (run_next n w ws place to.step room' (omega (arith, fewer, b.fits, h))))
      (record {
        reached = rest.reached;
        rows = ap (λ (rs : List Row). only test b.new ++ rs) rest.rows ∙ sym (only_append test b.new _);
        ending = rest.ending;
        alike = rest.alike;
      })

  reading_beside : (ws : Words) (s : S) (t : T) (place room : ℕ) → Alike s t → {r : Reached S} → (reading m ws s place room).ending ≡ finished r
      → Finishes (reading n ws t place room) (only test (reading m ws s place room).rows)
  reading_beside ws s t place room a {r} e =
      let h = reading_ran m ws s place room e in
      let b = run_beside ws s t place room room a (omega arith) h.ending in
      let too : Ran n ws t place room b.reached = record { ending = b.ending; none = k.pending r.state b.reached.state b.alike h.none } in
      record {
        state = b.reached;
        rows = ran_rows n ws t place room too ∙ b.rows ∙ ap (only test) (sym (ran_rows m ws s place room h));
        ending = ran_reading n ws t place room too;
      }

  pub read_beside : (bytes : List ℕ) (s : S) (t : T) (at room : ℕ) → Alike s t → {r : Reached S} → (read_from m bytes s at room).ending ≡ finished r
      → Finishes (read_from n bytes t at room) (only test (read_from m bytes s at room).rows)
  read_beside bytes s t at room a e =
      subst (λ (size : ℕ). Finishes (reading n (words_of size (drop at bytes)) t at room) (only test (read_from m bytes s at room).rows)) (sym k.size)
      (reading_beside (words_of m.size (drop at bytes)) s t at room a e)

-- how a machine is shown to keep up: of what the other does with a word
module _ {S T : Type 0} (n : Machine T) (test : Row → Bool) (Alike : S → T → Type 0) where
  abbrev pub Along : Outcome S → T → ℕ → ℕ → Type 0
  Along (next s new) t place w = Takes n t place w (only test new) (Alike s)
  Along (fault f) t place w = Unit {0}

  pub along_keeps : (m : Machine S) → n.size ≡ m.size → ((s : S) (t : T) (place w : ℕ) → Alike s t → Along (m.step s place w) t place w)
      → ((s : S) (t : T) → Alike s t → m.pending s ≡ false → n.pending t ≡ false) → KeepsUp m n test Alike
  along_keeps m same h p =
      record { size = same; step = λ s t place w s' new a e. subst (λ (o : Outcome S). Along o t place w) e (h s t place w a); pending = p }
