-- The rows that the reader gives are good rows, and of camera 0.
use mathlib.Core.Path.{◌≡◌}
use Prim.Native.Nat.{ℕ, ◌+◌}
use native.Mathlib.Omega.{arith}
use mathlib.Core.Bool.{Bool, true, ◌&&◌}
use mathlib.Core.List.{List}
use lib.ListN.{length, drop}
use lib.Dec.{ltb, leb}
use borrow.Author.Tests.{leb-true}
use Rattle.rows.specs.Row.{All, pixel_row}
use Rattle.rows.specs.Rules.{plain_row}
use Rattle.rows.specs.Runs.{Run}
use Rattle.rows.proofs.GoodRows.{and_second, pixel_plain}
use Rattle.words.specs.declared.picture.Picture.{Picture}
use Rattle.words.specs.Machine.{Keeps}
use Rattle.words.specs.Picture.{in_picture}
use Rattle.words.specs.Words.{words_of}
use Rattle.words.proofs.Kept.{field_small, rows_pass}
use Rattle.words.proofs.RowsGiven.{Passes, if_passes, onto_fine, fine_keeps}
use Rattle.rows.proofs.Chosen.{cond_holds}
use Rattle.dat.specs.declared.state.State.{State}
use Rattle.dat.specs.Words.{fresh, with_last, time_of, x_of, y_of, polarity_of, event_of, step}
use Rattle.dat.specs.Reader.{machine, is_type_and_size, after_type_and_size}

-- nothing of a state need be known: a time is below 2^32 by itself
abbrev Any : State → Type 0
Any s = Unit {0}

event_plain : (p : Picture) (s : State) (w : ℕ) → Passes plain_row (event_of p s w)
unfolding event_of
event_plain p s w =
    if_passes plain_row _ _ (ltb (time_of w) s.last) tt
    (cond_holds (Passes plain_row) (inside && leb (polarity_of w) 1) (λ e. (row_plain (and_second inside _ e), tt)) (λ e. tt))
  where
    inside : Bool
    inside = in_picture p (x_of w) (y_of w)

    row_plain : leb (polarity_of w) 1 ≡ true → plain_row (pixel_row (time_of w) (x_of w) (y_of w) (polarity_of w)) ≡ true
    row_plain e =
        pixel_plain (time_of w) (omega (arith, field_small 0 32 w)) (x_of w) (y_of w) (polarity_of w)
        (omega (arith, field_small 32 14 w)) (omega (arith, field_small 46 14 w)) (omega (arith, leb-true (polarity_of w) 1 e))

machine_keeps : (p : Picture) → Keeps (machine p) plain_row Any
unfolding step
machine_keeps p = fine_keeps plain_row Any (machine p) (λ s place w h. onto_fine plain_row Any (event_of p s w) (with_last s (time_of w)) tt (event_plain p s w))

abbrev RowsPlain : {S : Type 0} → Run S → Type 0
RowsPlain r = All plain_row r.rows

-- the rows of any data that follows a header, at any place and with any room
pub data_plain : (p : Picture) (bytes : List ℕ) (at room : ℕ) → All plain_row (after_type_and_size p bytes at room).rows
unfolding after_type_and_size
data_plain p bytes at room =
    cond_holds RowsPlain (ltb (length bytes) (at + 2)) (λ e. tt)
    (λ e. cond_holds RowsPlain (is_type_and_size bytes at)
    (λ f. rows_pass State (machine p) plain_row Any (machine_keeps p) (words_of 8 (drop (at + 2) bytes)) fresh (at + 2) room tt) (λ f. tt))
