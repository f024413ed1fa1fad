-- `summary::writer::put_words` meets its contract: number by number.
use Rattle.std.proofs.Common.{drop}
use Rattle.words.proofs.Writes.{Writes}
use Rattle.summary.proofs.writer.put_words.Given as goal

abbrev pub invariant-loop-number : goal.invariant-loop-number
invariant-loop-number g l = Writes g.W.Word.SIZE l.numbers l.initial.out l.initial.at (drop l.number-index l.numbers) l.at l.out
