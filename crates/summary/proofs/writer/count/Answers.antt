-- `summary::writer::count` meets its contract: row by row.
use mathlib.Core.Path.{sym, ◌∙◌, ap}
use native.Mathlib.Omega.{arith}
use Rattle.std.specs.Prelude.{Ok}
use Rattle.rows.specs.Rules.{good_row}
use Rattle.summary.proofs.RowsJudged.{good_start, good_next, bad_found, all_good}
use Rattle.summary.proofs.writer.count.Goals as goal

pub loop-i-init : goal.loop-i-init
loop-i-init c = good_start _

pub returns-then-not-good : goal.returns-then-not-good
returns-then-not-good c =
    bad_found c.loop-i.invariant (omega (arith, c.room-n.ensures))
    (ap good_row (sym c.row_at.ensures) ∙ sym c.good.ensures ∙ c.if-not-good.true)

pub loop-i-preserved : goal.loop-i-preserved
loop-i-preserved c =
    good_next c.loop-i.invariant (omega (arith, c.room-n.ensures))
    (ap good_row (sym c.row_at.ensures) ∙ sym c.good.ensures ∙ c.if-not-good.false)

pub returns : goal.returns
returns c =
    let n = c.room-n.ensures in
    ap Ok (omega (arith, n, c.block_count.ensures)) ∙ all_good c.loop-i.invariant (omega (arith, n))
