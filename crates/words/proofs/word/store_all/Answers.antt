-- `words::word::store_all` meets its contract.
use Rattle.std.proofs.Common.{◌∷◌, [], add-one, drop-cons, slice_index_or}
use Rattle.words.proofs.Writes.{writes_more}
use Rattle.words.proofs.word.store_all.Goals as goal

pub loop-word-preserved : goal.loop-word-preserved
loop-word-preserved g c =
    let word = slice_index_or c.args.words.now c.loop-word.word-index 0 in
    rw add-one
    (writes_more (word ∷ []) (rw (drop-cons c.args.words.now c.loop-word.word-index 0 c.loop-word-test.true) at c.loop-word.invariant) c.store-to.ensures)
