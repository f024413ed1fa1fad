-- `evt3::put::put_span` meets its contract.
use Rattle.evt3.proofs.PutSteps.{base_put}
use Rattle.evt3.proofs.put.put_span.Goals as goal

pub returns : goal.returns
returns g c =
    base_put _ c.args.span c.if-span-eq0.false c.if-span.false c.if-span-eq1.false c.word-to.ensures c.word-2.ensures
