-- `evt3::put::put_high` meets its contract.
use Rattle.evt3.proofs.PutSteps.{wrapped, high_put}
use native.Mathlib.Omega.{arith}
use Rattle.evt3.proofs.put.put_high.Goals as goal

pub loop-preserved : goal.loop-preserved
loop-preserved g c = wrapped c.loop.invariant c.loop-test.true c.is_known.ensures c.put_unless-to.ensures c.word-to.ensures

pub returns : goal.returns
returns g c = high_put c.loop.invariant (omega (arith, c.loop-test.false)) c.is_known-2.ensures c.put_unless.ensures
