-- `summary::writer::block_of` meets its contract: row by row.
use mathlib.Core.Path.{◌∙◌, ap}
use native.Mathlib.Omega.{arith}
use Rattle.rows.specs.Row.{time_of}
use Rattle.summary.proofs.Adding.{adding_start, adding_next, adding_done}
use Rattle.summary.proofs.writer.block_of.Goals as goal

pub loop-i-init : goal.loop-i-init
loop-i-init c =
    adding_start c.args.rows.now c.args.from c.args.to c.time-time.result c.requires.some (c.time-time.ensures ∙ ap time_of c.row_at.ensures) (cc)

pub loop-i-preserved : goal.loop-i-preserved
loop-i-preserved c = adding_next c.loop-i.invariant (omega arith) c.row_at-in-loop-i.ensures c.add_row-block.ensures

pub returns : goal.returns
returns c = adding_done c.loop-i.invariant (omega arith)
