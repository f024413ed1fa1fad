-- `summary::writer::put_blocks` meets its contract: block by block.
use Rattle.summary.proofs.BlocksPut.{PuttingBlocks}
use Rattle.summary.proofs.writer.put_blocks.Given as goal

abbrev pub invariant-loop-j : goal.invariant-loop-j
invariant-loop-j l = PuttingBlocks l.rows l.initial.out l.initial.at l.out l.at l.j
