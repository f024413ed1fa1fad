-- Each law of specs/Promises.antt, proved.
use lib.ListN.{length}
use lib.Dec.{lit<}
use Rattle.rows.specs.Rules.{plain_row}
use Rattle.rows.proofs.GoodRows.{plain_good}
use Rattle.words.specs.Picture.{picture_of}
use Rattle.header.specs.Header.{header_of}
use Rattle.header.proofs.Files.{after_passes, after_within}
use Rattle.header.proofs.Kept.{header_within}
use Rattle.dat.specs.Reader.{reading_of}
use Rattle.dat.specs.Promises.{ReadGood, ReadPlain, ReadWithin}
use Rattle.dat.proofs.GoodRead.{data_plain}
use Rattle.dat.proofs.Places.{data_within}

pub read_plain : ReadPlain
read_plain bytes room = after_passes _ plain_row (header_of 16384 bytes) (λ at width height. data_plain (picture_of width height) bytes at room)

pub read_good : ReadGood
read_good bytes room = plain_good (reading_of bytes room).rows (read_plain bytes room)

pub read_within : ReadWithin
read_within bytes room =
    after_within _ 16384 (length bytes) (header_of 16384 bytes) (header_within 16384 (lit< tt) bytes)
    (λ at width height h. data_within (picture_of width height) bytes at room h)
