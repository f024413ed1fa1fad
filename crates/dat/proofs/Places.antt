-- The places of refusals after the header lie in the file, or at its end.
use mathlib.Core.Path.{refl}
use Prim.Native.Nat.{ℕ, ◌+◌, ◌≤◌}
use mathlib.Core.List.{List}
use lib.ListN.{length}
use lib.Dec.{ltb}
use borrow.Author.Tests.{ltb-false}
use Rattle.rows.specs.Runs.{Run, EndsWithin}
use Rattle.words.specs.declared.picture.Picture.{Picture}
use Rattle.words.specs.Machine.{Reached}
use Rattle.words.proofs.Kept.{places_within}
use Rattle.words.proofs.Places.{Any, alone_follows}
use Rattle.rows.proofs.Chosen.{cond_holds}
use Rattle.dat.specs.declared.state.State.{State}
use Rattle.dat.specs.Words.{fresh}
use Rattle.dat.specs.Reader.{machine, is_type_and_size, after_type_and_size}

pub data_within : (p : Picture) (bytes : List ℕ) (at room : ℕ) → at ≤ length bytes
    → EndsWithin (after_type_and_size p bytes at room).ending (length bytes)
unfolding after_type_and_size
data_within p bytes at room h =
    cond_holds Inside (ltb (length bytes) (at + 2)) (λ e. h)
    (λ e. cond_holds Inside (is_type_and_size bytes at)
    (λ f. places_within State (machine p) Any (alone_follows (machine p) (λ s place. refl)) bytes fresh (at + 2) room tt (ltb-false (length bytes) (at + 2) e)) (λ f. h))
  where
    Inside : Run (Reached State) → Type 0
    Inside r = EndsWithin r.ending (length bytes)
