-- `evt3::put::put_new_time` meets its contract.
use Rattle.evt3.proofs.PutSteps.{time_put}
use Rattle.evt3.proofs.put.put_new_time.Goals as goal

pub returns : goal.returns
returns g c =
    let a = c.args in
    time_put _ a.told.timed a.told.time a.time a.out.now a.at c.saturating_sub-wraps.ensures c.put_high-to.ensures c.word.ensures
