-- What is refused before the first word, and what is read else.
use mathlib.Core.Path.{◌≡◌, refl, sym, ◌∙◌}
use Prim.Native.Nat.{ℕ, ◌≤◌}
use native.Mathlib.Omega.{arith}
use mathlib.Core.Bool.{Bool, true, false, cond}
use mathlib.Core.List.{List}
use lib.Dec.{ltb}
use borrow.Author.Tests.{ltb-false, le-ltb}
use Rattle.std.specs.Prelude.{Result, Ok, Err, ⊤}
use Rattle.rows.specs.declared.fault.Fault.{Fault}
use Rattle.rows.specs.declared.fault.Fault.TheVariants.{TooLong, BadPicture}
use Rattle.rows.specs.declared.fault.ReadError.{ReadError}
use Rattle.rows.specs.declared.row.Row.{Row}
use Rattle.rows.specs.Row.{All}
use Rattle.rows.specs.Runs.{finished, Run, ReadAs, EndsWithin}
use Rattle.rows.proofs.Sequence.{not_finished}
use Rattle.rows.proofs.Sofar.{reads_refused}
use Rattle.words.specs.declared.picture.Picture.{Picture}
use Rattle.words.specs.Picture.{good_picture, admission_of, admitted}

-- `a` is what the definition says, `r` what the code found
module _ {S : Type 0} (run : Run S) {a r : Result ⊤ Fault} (e : r ≡ a) {old : List ℕ} where
  pub reads_none : {f : Fault} → r ≡ Err f → ReadAs (admitted a run) old old (Err (record { fault = f; rows = 0; place = 0 }))
  reads_none f = rw (sym e ∙ f) (reads_refused _ 0)

  pub reads_on : {new : List ℕ} {x : Result ℕ ReadError} → r ≡ Ok tt → ReadAs run old new x → ReadAs (admitted a run) old new x
  reads_on f h = rw (sym e ∙ f) h

-- what was not refused was admitted
pub was_admitted : {S : Type 0} (a : Result ⊤ Fault) (run : Run S) {end : S} → (admitted a run).ending ≡ finished end → a ≡ Ok tt
was_admitted (Ok done) run e = refl
was_admitted (Err f) run e = not_finished e

-- and so is a part of it, in the same picture
not_admitted : {A : Type 0} {f : Fault} → ◌≡◌ {A = Result ⊤ Fault} (Err f) (Ok tt) → A
not_admitted e = let z : ◌≡◌ {A = ℕ} 0 1 = cc in absurd (omega arith)

pub fewer_admitted : (p : Picture) (few many : ℕ) → few ≤ many → admission_of many p ≡ Ok tt → admission_of few p ≡ Ok tt
unfolding admission_of
fewer_admitted p few many h e = go (ltb 1073741824 many) refl e
  where
    picture : Result ⊤ Fault
    picture = cond (good_picture p) (Ok tt) (Err BadPicture)

    go : (t : Bool) → ltb 1073741824 many ≡ t → cond t (Err TooLong) picture ≡ Ok tt → cond (ltb 1073741824 few) (Err TooLong) picture ≡ Ok tt
    go true f g = not_admitted g
    go false f g = rw (le-ltb 1073741824 few (omega (arith, h, ltb-false 1073741824 many f))) g

-- what holds of the words' run holds of all that is read
module _ {S : Type 0} (run : Run S) where
  pub admitted_passes : (test : Row → Bool) (a : Result ⊤ Fault) → All test run.rows → All test (admitted a run).rows
  admitted_passes test (Ok done) h = h
  admitted_passes test (Err f) h = tt

  pub admitted_within : (a : Result ⊤ Fault) (n : ℕ) → EndsWithin run.ending n → EndsWithin (admitted a run).ending n
  admitted_within (Ok done) n h = h
  admitted_within (Err f) n h = omega arith
