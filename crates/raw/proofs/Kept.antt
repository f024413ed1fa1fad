-- Each law of specs/Promises.antt, proved.
use lib.ListN.{length, drop}
use lib.Dec.{lit<}
use Rattle.rows.specs.Rules.{good_row}
use Rattle.header.specs.Header.{header_of}
use Rattle.header.proofs.Files.{after_passes, after_within}
use Rattle.header.proofs.Kept.{header_within}
use Rattle.raw.specs.Promises.{ReadGood, ReadWithin}
use Rattle.raw.proofs.Words.{words_good, from_there}

pub read_good : ReadGood
read_good format bytes room = after_passes _ good_row (header_of 2048 bytes) (λ at width height. words_good format width height (drop at bytes) room)

pub read_within : ReadWithin
read_within format bytes room =
    after_within _ 2048 (length bytes) (header_of 2048 bytes) (header_within 2048 (lit< tt) bytes)
    (λ at width height h. from_there format width height bytes at room h)
