-- `words::word::store` meets its contract.
use Rattle.words.proofs.Writes.{put_lowest}
use Rattle.words.proofs.word.store.Goals as goal

pub returns : goal.returns
returns g c =
    put_lowest g.W.Word.SIZE c.args.word c.args.at g.met.W.Word.small c.requires c.SIZE.ensures c.SIZE-2.ensures c.to_le_bytes.ensures
    c.copy_from_slice.ensures.after
