-- `summary::writer::count` meets its contract: row by row.
use Rattle.summary.proofs.RowsJudged.{GoodSofar}
use Rattle.summary.proofs.writer.count.Given as goal

abbrev pub invariant-loop-i : goal.invariant-loop-i
invariant-loop-i l = GoodSofar l.rows l.i
