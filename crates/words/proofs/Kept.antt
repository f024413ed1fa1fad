-- Each law of specs/Promises.antt, proved.
use mathlib.Core.Path.{◌∙◌, ap}
use Rattle.words.specs.Words.{Words, words_of}
use Rattle.words.specs.Machine.{run}
use Rattle.words.specs.Promises.{FieldSmall, FieldPlaced, FieldParts, TypeFound, TypeBelow, FieldBytes, RoomRefused, WordsBack, RunTwoParts, RowsFit, RowsOfWords, RowsPass, PlacesWithin, KeptUp, RoundTrip}
use Rattle.words.proofs.BitFields as fields
use Rattle.words.proofs.ByteFields as byte_fields
use Rattle.words.proofs.Bytes as bytes
use Rattle.words.proofs.Cut.{words_join}
use Rattle.words.proofs.KeptUp.{read_beside}
use Rattle.words.proofs.Places.{reading_within}
use Rattle.words.proofs.Returned.{comes_back}
use Rattle.words.proofs.RowsGiven.{reading_fits, reading_passes}
use Rattle.words.proofs.TwoParts.{run_join}
use Rattle.words.proofs.WordByWord.{reading_rows}
use Rattle.words.proofs.Writings.{room_exact}

pub field_small : FieldSmall
field_small = fields.field_small

pub field_placed : FieldPlaced
field_placed = fields.field_placed

pub field_parts : FieldParts
field_parts = fields.field_parts

pub type_found : TypeFound
type_found = fields.type_found

pub type_below : TypeBelow
type_below = fields.type_below

pub field_bytes : FieldBytes
field_bytes = byte_fields.field_bytes

pub room_refused : RoomRefused
room_refused s l bytes e = room_exact s l bytes e

pub words_back : WordsBack
words_back = bytes.words_back

pub run_two_parts : RunTwoParts
run_two_parts S m k xs ys some h s place room =
    ap (λ (ws : Words). run m ws s place room) (words_join m.size some k xs ys h)
    ∙ run_join m (words_of m.size xs) (words_of m.size ys) s place room

pub rows_fit : RowsFit
rows_fit S m ws s place room = reading_fits m ws s place room

pub rows_of_words : RowsOfWords
rows_of_words S m ws s place room r e = reading_rows m ws s place room e

pub rows_pass : RowsPass
rows_pass S m test Kept k ws s place room h = reading_passes m k ws s place room h

pub places_within : PlacesWithin
places_within S m Kept k bytes s at room h g = reading_within m k bytes s at room h g

pub kept_up : KeptUp
kept_up S T m n test Alike k bytes s t at room a r e = read_beside k bytes s t at room a e

pub round_trip : RoundTrip
round_trip S s reading_of law = comes_back s reading_of law
