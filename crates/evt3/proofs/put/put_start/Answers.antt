-- `evt3::put::put_start` meets its contract.
use Rattle.evt3.proofs.PutSteps.{own_put, start_words_lem}
use Rattle.evt3.proofs.put.put_start.Goals as goal

pub returns : goal.returns
returns g c =
    let a = c.args in
    own_put _ _ _ _ _ _ _ _ _ (start_words_lem a.told a.span a.time a.y a.camera c.is_line.ensures)
    c.put_span-spanned.ensures c.put_time-timed.ensures c.put_unless.ensures
