-- `summary::writer::put_words` meets its contract: number by number.
use Rattle.std.proofs.Common.{◌<◌, ◌∷◌, [], length, get_or, sym, arith, add-one, drop-cons}
use Rattle.words.proofs.Writes.{writes_more}
use Rattle.summary.proofs.writer.put_words.Goals as goal

pub loop-number-preserved : goal.loop-number-preserved
loop-number-preserved g c =
    let k = c.loop-number.number-index in
    let numbers = c.args.numbers.now in
    let inside : k < length numbers = omega arith in
    rw (add-one k) (writes_more (get_or numbers k 0 ∷ []) (rw (sym (drop-cons numbers k 0 inside)) c.loop-number.invariant) c.put_number-at.ensures)
