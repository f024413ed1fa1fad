-- A worked case: a recording of eight words whose clock wraps at its third, and a reader that joins there.
use mathlib.Core.Path.{◌≡◌, refl}
use Prim.Native.Nat.{ℕ, ◌*◌}
use mathlib.Core.List.{List, [], ◌∷◌}
use lib.ListN.{drop}
use Rattle.rows.specs.Row.{pixel_row, trigger_row}
use Rattle.words.specs.Picture.{picture_of, admission_of, in_picture}
use Rattle.words.specs.Words.{bytes_of, bytes_of_all, cut_by, words_of}
use Rattle.evt3.specs.Words.{kind_of, drop_to, is_wrap, wraps_at, goes_back, bad_high, with_low, pixels, pixel_of, columns, vector_of, trigger_of, step}
use Rattle.evt3.specs.State.{moved}
use Rattle.evt3.specs.Reader.{reading_of}

-- TIME_HIGH 4095, TIME_LOW 9; TIME_HIGH 0, EXT_TRIGGER, TIME_LOW 7, ADDR_Y 3, ADDR_X 5, EXT_TRIGGER
abbrev recording : List ℕ
recording = bytes_of_all 2 (36863 ∷ 24585 ∷ 32768 ∷ 40960 ∷ 24583 ∷ 3 ∷ 10245 ∷ 40961 ∷ [])

-- the trigger's time is not known yet where the reader joins; every later row comes 2^24 microseconds earlier
sample_full : (reading_of (picture_of 8 8) recording 3).rows ≡ trigger_row 16773129 0 0 ∷ pixel_row 16777223 5 3 1 ∷ trigger_row 16777223 0 1 ∷ []
unfolding admission_of in_picture bytes_of cut_by words_of kind_of drop_to is_wrap wraps_at goes_back bad_high with_low pixels pixel_of columns vector_of trigger_of step moved
sample_full = refl

sample_joined : (reading_of (picture_of 8 8) (drop (2 * 2) recording) 3).rows ≡ pixel_row 7 5 3 1 ∷ trigger_row 7 0 1 ∷ []
unfolding admission_of in_picture bytes_of cut_by words_of kind_of drop_to is_wrap wraps_at goes_back bad_high with_low pixels pixel_of columns vector_of trigger_of step moved
sample_joined = refl
