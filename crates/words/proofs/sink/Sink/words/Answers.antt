-- `words::sink::Sink::words` meets its contract.
use Rattle.std.proofs.Common.{◌∷◌, [], add-one, drop-cons, slice_index_or}
use Rattle.words.proofs.Sinks.{puts_more}
use Rattle.words.proofs.sink.Sink.words.Goals as goal

pub loop-word-preserved : goal.loop-word-preserved
loop-word-preserved g c =
    let word = slice_index_or c.args.words.now c.loop-word.word-index 0 in
    rw add-one
    (puts_more (word ∷ []) (rw (drop-cons c.args.words.now c.loop-word.word-index 0 c.loop-word-test.true) at c.loop-word.invariant) c.word-end.ensures)
