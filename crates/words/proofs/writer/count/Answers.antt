-- `words::writer::count` meets its contract.
use mathlib.Core.Path.{sym, ◌∙◌}
use Rattle.rows.proofs.Lists.{row_found, row_past}
use Rattle.words.proofs.Walks.{tally_start, tally_next, tally_done, passing_start, passing_next, passing_refused, passing_done}
use Rattle.words.proofs.writer.count.Goals as goal

pub loop-row-init : goal.loop-row-init
loop-row-init g c = rw c.start-standing.ensures (tally_start _ _ _, passing_start _ _ _ _ _)

pub returns-in-Err : goal.returns-in-Err
returns-in-Err g c =
    let here = row_found c.args.rows.now c.loop-row.i (sym c.in-Some.is ∙ c.get.ensures) in
    rw (passing_refused _ _ _ _ _ c.loop-row.invariant.1 here.0 here.1 (sym c.in-Err.is ∙ c.judge.ensures))

pub loop-row-preserved : goal.loop-row-preserved
loop-row-preserved g c =
    let here = row_found c.args.rows.now c.loop-row.i (sym c.in-Some.is ∙ c.get.ensures) in (
      tally_next _ c.loop-row.invariant.0 here.0 here.1 c.put.ensures.put.place c.saturating_add-words.ensures c.put.ensures.next,
      passing_next _ _ _ _ _ c.loop-row.invariant.1 here.0 here.1 (sym c.in_default-judge.is ∙ c.judge.ensures) c.put.ensures.next,
    )

pub returns : goal.returns
returns g c =
    let past = row_past c.args.rows.now c.loop-row.i (sym c.in_default.is ∙ c.get.ensures) in
    rw (passing_done _ _ _ _ _ c.loop-row.invariant.1 past, tally_done _ c.loop-row.invariant.0 past c.close.ensures.place c.saturating_add.ensures)
