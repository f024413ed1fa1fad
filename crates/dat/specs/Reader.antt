-- The reader of DAT files: what any bytes give. 01, "Files".
use Rattle.std.specs.Prelude.{ℕ, ◌+◌, Bool, false, cond, ◌&&◌, List, length, get_or, ltb, eqb}
use Rattle.rows.specs.declared.fault.Fault.TheVariants.{Cut, BadHeader}
use Rattle.rows.specs.Runs.{refused, Run, stopped}
use Rattle.words.specs.declared.picture.Picture.{Picture}
use Rattle.words.specs.Machine.{Machine, Reached, read_from}
use Rattle.words.specs.Picture.{picture_of}
use Rattle.header.specs.Header.{header_of, after_header}
use Rattle.dat.specs.declared.state.State.{State}
use Rattle.dat.specs.Words.{fresh, step}

-- words of eight bytes, and no groups
abbrev pub machine : Picture → Machine State
machine p = record { size = 8; step = λ s place w. step p s w; origin = λ s place. place; pending = λ s. false }

-- the two bytes after the header, at a place: the type of the events, 0, and their size, 8
abbrev pub is_type_and_size : List ℕ → ℕ → Bool
is_type_and_size bytes at = eqb (get_or bytes at 0) 0 && eqb (get_or bytes (at + 1) 0) 8

-- cut 4, wrong 9, at the first of them; and then the events
unfoldable pub after_type_and_size : Picture → List ℕ → ℕ → ℕ → Run (Reached State)
after_type_and_size p bytes at room =
    cond (ltb (length bytes) (at + 2))
    (stopped (refused Cut at))
    (cond (is_type_and_size bytes at)
    (read_from (machine p) bytes fresh (at + 2) room)
    (stopped (refused BadHeader at)))

-- the header, whose sides are within the limit of DAT files, and then the two bytes and the events in a picture of its sides
abbrev pub reading_of : List ℕ → ℕ → Run (Reached State)
reading_of bytes room = after_header (header_of 16384 bytes) (λ at width height. after_type_and_size (picture_of width height) bytes at room)
