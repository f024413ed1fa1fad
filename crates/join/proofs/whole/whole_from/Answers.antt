-- `join::whole::whole_from` meets its contract.
use mathlib.Core.Path.{sym, ◌∙◌}
use Rattle.join.proofs.Looking.{looks_no_more, seen_all, looks_on}
use Rattle.join.proofs.whole.whole_from.Goals as goal

pub returns-then-all : goal.returns-then-all
returns-then-all c =
    seen_all c.loop-word.invariant c.in-Some.ensures.0 (c.from.ensures ∙ c.in-Some.ensures.1) c.with-seen.ensures (sym c.all.ensures ∙ c.if-all.true)

pub loop-word-preserved : goal.loop-word-preserved
loop-word-preserved c =
    looks_on c.loop-word.invariant c.in-Some.ensures.0 (c.from.ensures ∙ c.in-Some.ensures.1) c.with-seen.ensures (sym c.all.ensures ∙ c.if-all.false)

pub returns : goal.returns
returns c = looks_no_more c.loop-word.invariant c.in_default.ensures
