-- `words::writer::put_rows` meets its contract.
use mathlib.Core.Path.{sym, ◌∙◌}
use Rattle.rows.proofs.Lists.{row_found, row_past}
use Rattle.words.proofs.Walks.{walking_start, walking_next, walking_done}
use Rattle.words.proofs.writer.put_rows.Goals as goal

pub loop-row-init : goal.loop-row-init
loop-row-init g c = rw c.start-standing.ensures (walking_start _ _ _ _ _)

pub loop-row-preserved : goal.loop-row-preserved
loop-row-preserved g c =
    let here = row_found c.args.rows.now c.loop-row.done (sym c.in-Some.is ∙ c.get.ensures) in
    walking_next _ c.loop-row.invariant here.0 here.1 c.put-at.ensures.put c.put-at.ensures.next

pub returns : goal.returns
returns g c = (walking_done _ c.loop-row.invariant (row_past c.args.rows.now c.loop-row.done (sym c.in_default.is ∙ c.get.ensures)) c.close.ensures).wrote
