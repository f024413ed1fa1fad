-- `dat::reader::read` meets its contract.
use Rattle.header.proofs.Files.{data_within}
use lib.Dec.{lit<}
use Rattle.dat.proofs.reader.read.Goals as goal

pub read_data-requires : goal.read_data-requires
read_data-requires c = data_within 16384 (lit< tt) c.args.bytes.now c.read.ensures c.in_ok-header.was
