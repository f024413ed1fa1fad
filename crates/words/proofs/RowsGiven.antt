-- The rows that a machine gives: they fit the room, and pass a test where every word's do; how that is shown of a machine.
use mathlib.Core.Path.{◌≡◌, refl, subst}
use Prim.Native.Nat.{ℕ, ◌+◌, ◌-◌, ◌≤◌}
use native.Mathlib.Omega.{arith}
use mathlib.Core.Bool.{Bool, true, false, cond}
use mathlib.Core.List.{List, []}
use lib.ListN.{length, length-append}
use lib.Dec.{leb}
use borrow.Author.Tests.{leb-true}
use Rattle.rows.specs.declared.fault.Fault.{Fault}
use Rattle.rows.specs.declared.fault.Fault.TheVariants.{NoRoom}
use Rattle.rows.specs.declared.row.Row.{Row}
use Rattle.rows.specs.Row.{All}
use Rattle.rows.specs.Runs.{Ending, finished, refused, Run, prepend, stopped, resume}
use Rattle.rows.proofs.GoodRows.{all_append}
use Rattle.rows.proofs.Chosen.{cond_holds}
use Rattle.words.specs.Words.{Words, word, whole, part}
use Rattle.words.specs.Machine.{Outcome, next, fault, Given, gives, refuses, refused_if, onto, Machine, Reached, after, run, closed, reading, Keeps}

module _ {S : Type 0} (m : Machine S) where
  -- the rows of a run fit its room
  run_fits : (ws : Words) (s : S) (place room : ℕ) → length (run m ws s place room).rows ≤ room
  run_fits whole s place room = omega arith
  run_fits part s place room = omega arith
  run_fits (word w ws) s place room = go (m.step s place w) (λ s' room'. run_fits ws s' (place + m.size) room')
    where
      given : (new : List Row) (rest : Run (Reached S)) → length rest.rows ≤ room - length new → (t : Bool) → leb (length new) room ≡ t
          → length (cond t (prepend new rest) (stopped (refused NoRoom (m.origin s place)))).rows ≤ room
      given new rest h true e = omega (arith, leb-true (length new) room e, length-append new rest.rows)
      given new rest h false e = omega arith

      go : (o : Outcome S) → ((s' : S) (room' : ℕ) → length (run m ws s' (place + m.size) room').rows ≤ room')
          → length (after o place (m.origin s place) room (λ s' room'. run m ws s' (place + m.size) room')).rows ≤ room
      go (fault f) ih = omega arith
      go (next s' new) ih = given new (run m ws s' (place + m.size) (room - length new)) (ih s' (room - length new)) (leb (length new) room) refl

  pub reading_fits : (ws : Words) (s : S) (place room : ℕ) → length (reading m ws s place room).rows ≤ room
  reading_fits ws s place room = go (run m ws s place room).ending
    where
      rows : List Row
      rows = (run m ws s place room).rows

      go : (e : Ending (Reached S)) → length (resume rows e room (closed m)).rows ≤ room
      go (finished r) = omega (arith, run_fits ws s place room, length-append rows [])
      go (refused f place') = run_fits ws s place room

  -- rows of words that each give rows which pass a test
  module _ {test : Row → Bool} {Kept : S → Type 0} (k : Keeps m test Kept) where
    run_passes : (ws : Words) (s : S) (place room : ℕ) → Kept s → All test (run m ws s place room).rows
    run_passes whole s place room h = tt
    run_passes part s place room h = tt
    run_passes (word w ws) s place room h = go (m.step s place w) refl (λ s' room' h'. run_passes ws s' (place + m.size) room' h')
      where
        given : (new : List Row) (rest : Run (Reached S)) → All test new → All test rest.rows → (t : Bool)
            → All test (cond t (prepend new rest) (stopped (refused NoRoom (m.origin s place)))).rows
        given new rest g f true = all_append test new rest.rows g f
        given new rest g f false = tt

        go : (o : Outcome S) → m.step s place w ≡ o → ((s' : S) (room' : ℕ) → Kept s' → All test (run m ws s' (place + m.size) room').rows)
            → All test (after o place (m.origin s place) room (λ s' room'. run m ws s' (place + m.size) room')).rows
        go (fault f) e ih = tt
        go (next s' new) e ih =
            given new (run m ws s' (place + m.size) (room - length new)) (k.step s place w s' new h e).1
            (ih s' (room - length new) (k.step s place w s' new h e).0) (leb (length new) room)

    pub reading_passes : (ws : Words) (s : S) (place room : ℕ) → Kept s → All test (reading m ws s place room).rows
    reading_passes ws s place room h = go (run m ws s place room).ending
      where
        go : (e : Ending (Reached S)) → All test (resume (run m ws s place room).rows e room (closed m)).rows
        go (finished r) = all_append test (run m ws s place room).rows [] (run_passes ws s place room h) tt
        go (refused f place') = run_passes ws s place room h

-- how that is shown of a machine: of what a word gives, and of what it does
abbrev pub Passes : (Row → Bool) → Given → Type 0
Passes test (gives new) = All test new
Passes test (refuses f) = Unit {0}

pub if_passes : (test : Row → Bool) (a b : Given) (t : Bool) → Passes test a → Passes test b → Passes test (cond t a b)
if_passes test a b t f g = cond_holds (Passes test) t (λ e. f) (λ e. g)

module _ {S : Type 0} (test : Row → Bool) (Kept : S → Type 0) where
  abbrev pub Fine : Outcome S → Type 0
  Fine (next s new) = Kept s × All test new
  Fine (fault f) = Unit {0}

  pub onto_fine : (g : Given) (s : S) → Kept s → Passes test g → Fine (onto g s)
  onto_fine (gives new) s h k = (h, k)
  onto_fine (refuses f) s h k = tt

  pub refused_fine : (f : Fault) (s : S) (t : Bool) → (t ≡ false → Kept s) → Fine (onto (refused_if t f) s)
  refused_fine f s true h = tt
  refused_fine f s false h = (h refl, tt)

  pub fine_keeps : (m : Machine S) → ((s : S) (place w : ℕ) → Kept s → Fine (m.step s place w)) → Keeps m test Kept
  fine_keeps m h = record { step = λ s place w s' new k e. subst Fine e (h s place w k) }
