-- The words after a header, whichever they are: what the code read of them, and what holds of them.
use mathlib.Core.Path.{◌≡◌, refl, subst}
use Prim.Native.Nat.{ℕ, ◌+◌, ◌-◌, ◌≤◌}
use native.Mathlib.Omega.{arith}
use mathlib.Core.List.{List}
use lib.ListN.{length, take, drop, length-drop}
use Rattle.std.specs.Prelude.{Result, Err}
use Rattle.rows.specs.declared.fault.ReadError.{ReadError}
use Rattle.rows.specs.Rules.{AllGood}
use Rattle.rows.specs.Runs.{run_as, run_from, EndsWithin, ReadAs}
use Rattle.rows.proofs.Lists.{part_rest}
use Rattle.rows.proofs.Viewed.{as_within, reads_place, from_within}
use Rattle.words.specs.Picture.{picture_of}
use Rattle.evt2.specs.Reader as evt2_reader
use Rattle.evt2_laws.proofs.Kept as evt2
use Rattle.evt3.specs.Reader as evt3_reader
use Rattle.evt3_laws.proofs.Kept as evt3
use Rattle.raw.specs.declared.reader.Format.{Format}
use Rattle.raw.specs.declared.reader.Format.TheVariants.{Evt2, Evt3}
use Rattle.raw.specs.Reader.{words_as}

-- EVT2 words read as such
pub evt2_words_lem : (width height : ℕ) (bytes : List ℕ) (room : ℕ)
    → words_as Evt2 width height bytes room ≡ run_as (λ _. tt) (evt2_reader.reading_of (picture_of width height) bytes room)
unfolding words_as
evt2_words_lem width height bytes room = refl

pub words_good : (format : Format) (width height : ℕ) (bytes : List ℕ) (room : ℕ) → AllGood (words_as format width height bytes room).rows
unfolding words_as
words_good Evt2 width height bytes room = evt2.read_good (picture_of width height) bytes room
words_good Evt3 width height bytes room = evt3.read_good (picture_of width height) bytes room

words_within : (format : Format) (width height : ℕ) (bytes : List ℕ) (room : ℕ)
    → EndsWithin (words_as format width height bytes room).ending (length bytes)
unfolding words_as
words_within Evt2 width height bytes room =
    let p = picture_of width height in
    as_within _ (evt2_reader.reading_of p bytes room).ending (length bytes) (evt2.read_within p bytes room)
words_within Evt3 width height bytes room =
    let p = picture_of width height in
    as_within _ (evt3_reader.reading_of p bytes room).ending (length bytes) (evt3.read_within p bytes room)

-- the words from a place of a file on, read as a part of it
module _ (format : Format) (width height : ℕ) (bytes : List ℕ) (at room : ℕ) (there : at ≤ length bytes) {old new : List ℕ} {r : Result ℕ ReadError}
    (h : ReadAs (words_as format width height (take (length bytes - at) (drop at bytes)) room) old new r) where
  from_data : ReadAs (words_as format width height (drop at bytes) room) old new r
  from_data = subst (λ (b : List ℕ). ReadAs (words_as format width height b room) old new r) (part_rest at bytes) h

  pub place_within : {x : ReadError} → r ≡ Err x → at + x.place ≤ length bytes
  place_within e =
      let inside = words_within format width height (drop at bytes) room in
      omega (arith, there, length-drop at bytes, reads_place from_data (length (drop at bytes)) inside e)

-- the places of words from there on
pub from_there : (format : Format) (width height : ℕ) (bytes : List ℕ) (at room : ℕ) → at ≤ length bytes
    → EndsWithin (run_from at (words_as format width height (drop at bytes) room)).ending (length bytes)
from_there format width height bytes at room h =
    from_within at (words_as format width height (drop at bytes) room).ending (length (drop at bytes)) (length bytes)
    (words_within format width height (drop at bytes) room) (omega (arith, h, length-drop at bytes))
