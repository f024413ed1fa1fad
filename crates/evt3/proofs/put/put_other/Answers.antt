-- `evt3::put::put_other` meets its contract.
use Rattle.evt3.proofs.PutSteps.{own_put, other_words_lem}
use Rattle.evt3.proofs.OtherRows.{no_other}
use Rattle.words.proofs.Sinks.{put_none}
use mathlib.Core.Path.{sym, ◌∙◌}
use Rattle.evt3.proofs.put.put_other.Goals as goal

pub returns-in-Trigger : goal.returns-in-Trigger
returns-in-Trigger g c =
    let a = c.args in
    own_put _ _ _ _ _ _ _ _ _ (other_words_lem a.told a.span a.time a.row (sym c.from.ensures ∙ c.in-Trigger.is))
    c.put_span-spanned.ensures c.put_time-timed.ensures c.word.ensures

pub returns-in_default : goal.returns-in_default
returns-in_default g c =
    let a = c.args in
    own_put _ _ _ _ _ _ _ _ _ (other_words_lem a.told a.span a.time a.row (sym c.from.ensures))
    c.put_span-spanned.ensures c.put_time-timed.ensures
    (rw (no_other c.from.result a.row c.in_default.not-Trigger) (put_none _ _ _))
