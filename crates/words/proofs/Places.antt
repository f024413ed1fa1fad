-- The places of refusals: they lie in the input, or at its end, where a machine follows its words; how that is shown of a machine.
use mathlib.Core.Path.{◌≡◌, refl, subst}
use Prim.Native.Nat.{ℕ, zero, suc, ◌+◌, ◌-◌, ◌≤◌}
use native.Mathlib.Omega.{arith}
use mathlib.Core.Bool.{Bool, true, false, cond}
use mathlib.Core.List.{List}
use lib.ListN.{length, take, drop, length-drop}
use lib.Dec.{leb, ltb, eqb}
use borrow.Author.Tests.{ltb-false}
use Rattle.rows.specs.declared.fault.Fault.TheVariants.{NoRoom, Cut}
use Rattle.rows.specs.declared.row.Row.{Row}
use Rattle.rows.specs.Runs.{Ending, finished, refused, Run, prepend, stopped, resume, EndsWithin}
use Rattle.words.specs.Words.{value, Words, word, whole, part, cut_by, words_of}
use Rattle.words.specs.Machine.{Outcome, next, fault, Given, gives, refuses, onto, Machine, Reached, after, run, closed, reading, read_from, Follows}

-- the bytes of the whole words of a stream
abbrev bytes_in : ℕ → Words → ℕ
bytes_in size (word w ws) = size + bytes_in size ws
bytes_in size whole = 0
bytes_in size part = 0

-- there are no more of them than bytes were cut into words
cut_within : (most size : ℕ) (l : List ℕ) → bytes_in size (cut_by most size l) ≤ length l
unfolding cut_by
cut_within zero size l = omega arith
cut_within (suc most) size l = go (eqb (length l) 0) (ltb (length l) size) refl (cut_within most size (drop size l))
  where
    rest : Words
    rest = cut_by most size (drop size l)

    go : (a b : Bool) → ltb (length l) size ≡ b → bytes_in size rest ≤ length (drop size l)
        → bytes_in size (cond a whole (cond b part (word (value (take size l)) rest))) ≤ length l
    go true b e ih = omega arith
    go false true e ih = omega arith
    go false false e ih = omega (arith, ltb-false (length l) size e, ih, length-drop size l)

pub words_within : (size : ℕ) (l : List ℕ) → bytes_in size (words_of size l) ≤ length l
unfolding words_of
words_within size l = cut_within (length l) size l

module _ {S : Type 0} (m : Machine S) {Kept : S → ℕ → Type 0} (k : Follows m Kept) where
  -- a run ends in a state and at a place that have the property, or is refused, by the place `end`
  abbrev Ends : Ending (Reached S) → ℕ → Type 0
  Ends (finished r) end = Kept r.state r.place × (r.place ≤ end)
  Ends (refused f place) end = place ≤ end

  run_ends : (ws : Words) (s : S) (place room end : ℕ) → Kept s place → place + bytes_in m.size ws ≤ end → Ends (run m ws s place room).ending end
  run_ends whole s place room end h g = (h, omega (arith, g))
  run_ends part s place room end h g = omega (arith, k.origin s place h, g)
  run_ends (word w ws) s place room end h g = go (m.step s place w) refl (λ s' room' h'. run_ends ws s' (place + m.size) room' end h' (omega (arith, g)))
    where
      given : (new : List Row) (rest : Run (Reached S)) → Ends rest.ending end → (t : Bool)
          → Ends (cond t (prepend new rest) (stopped (refused NoRoom (m.origin s place)))).ending end
      given new rest f true = f
      given new rest f false = omega (arith, k.origin s place h, g)

      go : (o : Outcome S) → m.step s place w ≡ o → ((s' : S) (room' : ℕ) → Kept s' (place + m.size) → Ends (run m ws s' (place + m.size) room').ending end)
          → Ends (after o place (m.origin s place) room (λ s' room'. run m ws s' (place + m.size) room')).ending end
      go (fault f) e ih = omega (arith, g)
      go (next s' new) e ih =
          given new (run m ws s' (place + m.size) (room - length new)) (ih s' (room - length new) (k.step s place w s' new h e)) (leb (length new) room)

  pub reading_ends : (ws : Words) (s : S) (at room end : ℕ) → Kept s at → at + bytes_in m.size ws ≤ end → EndsWithin (reading m ws s at room).ending end
  reading_ends ws s at room end h g = go (run m ws s at room).ending (run_ends ws s at room end h g)
    where
      close : (r : Reached S) → Ends (finished r) end → (t : Bool) → EndsWithin (cond t (refused Cut (m.origin r.state r.place)) (finished r)) end
      close r f true = omega (arith, f.1, k.origin r.state r.place f.0)
      close r f false = tt

      go : (e : Ending (Reached S)) → Ends e end → EndsWithin (resume (run m ws s at room).rows e room (closed m)).ending end
      go (finished r) f = close r f (m.pending r.state)
      go (refused f place) e = e

  pub reading_within : (bytes : List ℕ) (s : S) (at room : ℕ) → Kept s at → at ≤ length bytes → EndsWithin (read_from m bytes s at room).ending (length bytes)
  reading_within bytes s at room h g =
      reading_ends (words_of m.size (drop at bytes)) s at room (length bytes) h (omega (arith, g, words_within m.size (drop at bytes), length-drop at bytes))

-- how a machine is shown to follow its words: of what a word does at a place
module _ {S : Type 0} (Kept : S → ℕ → Type 0) where
  abbrev pub Stays : Outcome S → ℕ → Type 0
  Stays (next s new) place = Kept s place
  Stays (fault f) place = Unit {0}

  pub onto_stays : (g : Given) (s : S) (place : ℕ) → Kept s place → Stays (onto g s) place
  onto_stays (gives new) s place h = h
  onto_stays (refuses f) s place h = tt

  pub stays_follows : (m : Machine S) → ((s : S) (place : ℕ) → Kept s place → m.origin s place ≤ place)
      → ((s : S) (place w : ℕ) → Kept s place → Stays (m.step s place w) (place + m.size)) → Follows m Kept
  stays_follows m o h =
      record { origin = o; step = λ s place w s' new k e. subst (λ (a : Outcome S). Stays a (place + m.size)) e (h s place w k) }

-- a machine without groups, where nothing is asked of the state
abbrev pub Any : {S : Type 0} → S → ℕ → Type 0
Any s place = Unit {0}

pub alone_follows : {S : Type 0} (m : Machine S) → ((s : S) (place : ℕ) → m.origin s place ≡ place) → Follows m Any
alone_follows m e = record { origin = λ s place h. omega (arith, e s place); step = λ s place w s' new h f. tt }
