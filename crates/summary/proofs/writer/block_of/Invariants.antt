-- `summary::writer::block_of` meets its contract: row by row.
use Rattle.summary.proofs.Adding.{Adding}
use Rattle.summary.proofs.writer.block_of.Given as goal

abbrev pub invariant-loop-i : goal.invariant-loop-i
invariant-loop-i l = Adding l.rows l.from l.to l.i l.block
