-- A run of words in two parts, over any machine.
use mathlib.Core.Path.{◌≡◌, refl, sym, ◌∙◌, ap}
use Prim.Native.Nat.{ℕ, ◌+◌, ◌-◌}
use native.Mathlib.Omega.{arith}
use lib.ListN.{length}
use Rattle.rows.specs.Runs.{Run, and_then}
use Rattle.rows.proofs.Sequence.{give_then, give_same}
use Rattle.words.specs.Words.{Words, word, whole, part}
use Rattle.words.specs.Machine.{Outcome, next, fault, Machine, Reached, after, run}
use Rattle.words.proofs.Cut.{join}

module _ {S : Type 0} (m : Machine S) where
  -- the run of two streams is the run of the second from what the first has led to
  pub run_join : (a b : Words) (s : S) (place room : ℕ) → run m (join a b) s place room ≡ and_then (run m a s place room) room (λ r room'. run m b r.state r.place room')
  run_join whole b s place room =
      let all : room ≡ room - 0 = omega arith in
      ap (λ (k : ℕ). run m b s place k) all
  run_join part b s place room = refl
  run_join (word w a) b s place room = go (m.step s place w) (λ s' room'. run_join a b s' (place + m.size) room')
    where
      on : Reached S → ℕ → Run (Reached S)
      on r room' = run m b r.state r.place room'

      reads : Words → Outcome S → Run (Reached S)
      reads ws o = after o place (m.origin s place) room (λ s' room'. run m ws s' (place + m.size) room')

      go : (o : Outcome S) → ((s' : S) (room' : ℕ) → run m (join a b) s' (place + m.size) room' ≡ and_then (run m a s' (place + m.size) room') room' on)
          → reads (join a b) o ≡ and_then (reads a o) room on
      go (fault f) ih = refl
      go (next s' new) ih =
          give_same new (m.origin s place) room (λ room'. run m (join a b) s' (place + m.size) room') (λ room'. and_then (run m a s' (place + m.size) room') room' on)
          (ih s' (room - length new))
          ∙ sym (give_then new (m.origin s place) room (λ room'. run m a s' (place + m.size) room') on)
