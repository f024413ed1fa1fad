-- Rows before a run, one run after another, and runs that did not finish.
use mathlib.Core.Path.{◌≡◌, refl, sym, ◌∙◌, ap}
use Prim.Native.Nat.{ℕ, ◌-◌}
use native.Mathlib.Omega.{arith}
use mathlib.Core.Bool.{Bool, true, false, cond}
use mathlib.Core.List.{List, ◌++◌, append_assoc, append-nil}
use lib.ListN.{length, length-append}
use lib.Dec.{leb}
use Rattle.rows.specs.declared.fault.Fault.{Fault}
use Rattle.rows.specs.declared.fault.Fault.TheVariants.{NoRoom}
use Rattle.rows.specs.declared.row.Row.{Row}
use Rattle.rows.specs.Runs.{Ending, finished, refused, Run, prepend, stopped, give, resume, and_then}

pub prepend_none : {S : Type 0} (a : List Row) (e : Ending S) → prepend a (stopped e) ≡ record { rows = a; ending = e }
prepend_none {S} a e = ap {B = Run S} (λ (l : List Row). record { rows = l; ending = e }) (append-nil a)

pub prepend_both : {S : Type 0} (a b : List Row) (r : Run S) → prepend a (prepend b r) ≡ prepend (a ++ b) r
prepend_both {S} a b r = ap {B = Run S} (λ (l : List Row). record { rows = l; ending = r.ending }) (sym (append_assoc a b r.rows))

-- what follows a run follows it in the same room where rows stand before it
module _ {S T : Type 0} (new : List Row) where
  pub prepend_then : (r : Run S) (room : ℕ) (g : S → ℕ → Run T) → and_then (prepend new r) room g ≡ prepend new (and_then r (room - length new) g)
  prepend_then r room g = go r.ending
    where
      go : (e : Ending S) → resume (new ++ r.rows) e room g ≡ prepend new (resume r.rows e (room - length new) g)
      go (finished s) =
          let k : room - length (new ++ r.rows) ≡ room - length new - length r.rows = omega (arith, length-append new r.rows) in
          ap (λ (n : ℕ). prepend (new ++ r.rows) (g s n)) k ∙ sym (prepend_both new r.rows (g s (room - length new - length r.rows)))
      go (refused f place) = refl

  pub give_then : (place room : ℕ) (rest : ℕ → Run S) (g : S → ℕ → Run T)
      → and_then (give new place room rest) room g ≡ give new place room (λ room'. and_then (rest room') room' g)
  give_then place room rest g = go (leb (length new) room)
    where
      go : (t : Bool) → and_then (cond t (prepend new (rest (room - length new))) (stopped (refused NoRoom place))) room g
          ≡ cond t (prepend new (and_then (rest (room - length new)) (room - length new) g)) (stopped (refused NoRoom place))
      go true = prepend_then (rest (room - length new)) room g
      go false = refl

-- what is read after rows matters in the room that is left alone
pub give_same : {S : Type 0} (new : List Row) (place room : ℕ) (rest rest' : ℕ → Run S) → rest (room - length new) ≡ rest' (room - length new)
    → give new place room rest ≡ give new place room rest'
give_same {S} new place room rest rest' e = ap (λ (r : Run S). cond (leb (length new) room) (prepend new r) (stopped (refused NoRoom place))) e

-- a run that was refused did not finish
pub not_finished : {S A : Type 0} {f : Fault} {place : ℕ} {s : S} → ◌≡◌ {A = Ending S} (refused f place) (finished s) → A
not_finished e = let z : ◌≡◌ {A = ℕ} 0 1 = cc in absurd (omega arith)
