-- What an event of a DAT file does, a word of eight bytes. 01, "Files".
use Rattle.std.specs.Prelude.{ℕ, cond, ◌&&◌, [], ◌∷◌, leb, ltb}
use Rattle.rows.specs.declared.fault.Fault.TheVariants.{BadTime, Outside}
use Rattle.rows.specs.Row.{pixel_row}
use Rattle.words.specs.declared.picture.Picture.{Picture}
use Rattle.words.specs.Fields.{field}
use Rattle.words.specs.Machine.{Outcome, Given, gives, refuses, onto}
use Rattle.words.specs.Picture.{in_picture}
use Rattle.dat.specs.declared.state.State.{State}

-- no time is below that of a fresh reader
abbrev pub fresh : State
fresh = record { last = 0 }

abbrev pub with_last : State → ℕ → State
with_last s last = record { last = last }

-- the first four bytes are the time, and of the other four 13..0 x, 27..14 y, 31..28 polarity
abbrev pub time_of : ℕ → ℕ
time_of w = field 0 32 w

abbrev pub x_of : ℕ → ℕ
x_of w = field 32 14 w

abbrev pub y_of : ℕ → ℕ
y_of w = field 46 14 w

abbrev pub polarity_of : ℕ → ℕ
polarity_of w = field 60 4 w

-- a time below the last is refused 5, then a pixel outside the picture or a polarity over 1 refused 6
unfoldable pub event_of : Picture → State → ℕ → Given
event_of p s w =
    cond (ltb (time_of w) s.last)
    (refuses BadTime)
    (cond (in_picture p (x_of w) (y_of w) && leb (polarity_of w) 1)
    (gives (pixel_row (time_of w) (x_of w) (y_of w) (polarity_of w) ∷ []))
    (refuses Outside))

-- what a word does
unfoldable pub step : Picture → State → ℕ → Outcome State
step p s w = onto (event_of p s w) (with_last s (time_of w))
