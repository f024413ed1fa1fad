-- The reader of RAW files: what any bytes give. 01, "Files".
use Rattle.std.specs.Prelude.{ℕ, List, drop}
use Rattle.rows.specs.Runs.{Run, run_as, run_from}
use Rattle.words.specs.Picture.{picture_of}
use Rattle.header.specs.Header.{header_of, after_header}
use Rattle.evt2.specs.Reader as evt2
use Rattle.evt3.specs.Reader as evt3
use Rattle.raw.specs.declared.reader.Format.{Format}
use Rattle.raw.specs.declared.reader.Format.TheVariants.{Evt2, Evt3}

-- the words that the caller names, for a picture; the reader's last state is not told
unfoldable pub words_as : Format → ℕ → ℕ → List ℕ → ℕ → Run (Unit {0})
words_as Evt2 width height bytes room = run_as (λ _. tt) (evt2.reading_of (picture_of width height) bytes room)
words_as Evt3 width height bytes room = run_as (λ _. tt) (evt3.reading_of (picture_of width height) bytes room)

-- the header, whose sides are within the limit of EVT words, and then the words in a picture of its sides; places count from the file's first byte
abbrev pub reading_of : Format → List ℕ → ℕ → Run (Unit {0})
reading_of format bytes room =
    after_header (header_of 2048 bytes) (λ at width height. run_from at (words_as format width height (drop at bytes) room))
