-- A run with another view of its last state, and a run of a part of the input.
use mathlib.Core.Path.{◌≡◌, refl, sym, ◌∙◌, ap}
use Prim.Native.Nat.{ℕ, ◌+◌, ◌≤◌}
use native.Mathlib.Omega.{arith}
use mathlib.Core.List.{List}
use lib.ListN.{length}
use Rattle.rows.specs.declared.row.Row.{Row}
use Rattle.std.specs.Prelude.{Result, Err}
use Rattle.rows.specs.declared.fault.ReadError.{ReadError}
use Rattle.rows.specs.Runs.{Ending, finished, refused, Run, ending_as, run_as, ending_from, run_from, EndsWithin, answer_of, ReadAs, Finishes}

-- the answer does not tell the state
answer_as : {S T : Type 0} (f : S → T) (e : Ending S) (n : ℕ) → answer_of e n ≡ answer_of (ending_as f e) n
answer_as f (finished s) n = refl
answer_as f (refused fault place) n = refl

pub reads_as : {S T : Type 0} (f : S → T) {run : Run S} {old new : List ℕ} {r : Result ℕ ReadError} → ReadAs run old new r → ReadAs (run_as f run) old new r
reads_as f {run} h = record { answer = h.answer ∙ answer_as f run.ending (length run.rows); wrote = h.wrote }

pub as_within : {S T : Type 0} (f : S → T) (e : Ending S) (bytes : ℕ) → EndsWithin e bytes → EndsWithin (ending_as f e) bytes
as_within f (finished s) bytes h = tt
as_within f (refused fault place) bytes h = h

module _ {S : Type 0} {run : Run S} {old new : List ℕ} {r : Result ℕ ReadError} (h : ReadAs run old new r) where
  -- the place of an answer where the run's lies in the input
  pub reads_place : (bytes : ℕ) → EndsWithin run.ending bytes → {x : ReadError} → r ≡ Err x → x.place ≤ bytes
  reads_place bytes w {x} e = go run.ending (length run.rows) w (sym e ∙ h.answer)
    where
      go : (d : Ending S) (k : ℕ) → EndsWithin d bytes → Err x ≡ answer_of d k → x.place ≤ bytes
      go (finished s) k v g = let z : ◌≡◌ {A = ℕ} 0 1 = cc in absurd (omega arith)
      go (refused fault place') k v g = let z : x ≡ record { fault = fault; rows = k; place = place' } = cc in rw z v

pub from_within : {S : Type 0} (at : ℕ) (e : Ending S) (bytes all : ℕ) → EndsWithin e bytes → at + bytes ≤ all → EndsWithin (ending_from at e) all
from_within at (finished s) bytes all h g = tt
from_within at (refused f place) bytes all h g = omega (arith, h)

-- a run that finishes with some rows does so in every view
module _ {S : Type 0} {run : Run S} {rs : List Row} (h : Finishes run rs) where
  pub finishes_as : {T : Type 0} (f : S → T) → Finishes (run_as f run) rs
  finishes_as f = record { state = f h.state; rows = h.rows; ending = ap (ending_as f) h.ending }

  pub finishes_from : (at : ℕ) → Finishes (run_from at run) rs
  finishes_from at = record { state = h.state; rows = h.rows; ending = ap (ending_from at) h.ending }
