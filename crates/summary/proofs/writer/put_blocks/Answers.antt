-- `summary::writer::put_blocks` meets its contract: block by block.
use Rattle.std.proofs.Common.{arith}
use Rattle.summary.proofs.BlocksPut.{putting_blocks, next_block, blocks_put}
use Rattle.summary.proofs.writer.put_blocks.Goals as goal

pub loop-j-init : goal.loop-j-init
loop-j-init c = putting_blocks _ _ _ c.requires

pub loop-j-preserved : goal.loop-j-preserved
loop-j-preserved c = next_block c.loop-j.invariant (omega (arith, c.room-n.ensures, c.block_count-j-end.ensures)) (omega (arith, c.room-n.ensures, c.min-to.ensures)) c.block_of.ensures c.put_block-at.ensures

pub returns : goal.returns
returns c = blocks_put c.loop-j.invariant (omega (arith, c.room-n.ensures, c.block_count-j-end.ensures))
