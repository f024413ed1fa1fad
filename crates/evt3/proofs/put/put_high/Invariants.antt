-- `evt3::put::put_high` meets its contract.
use Rattle.evt3.proofs.PutSteps.{Climbing}
use Rattle.evt3.specs.Spelling.{high_words}
use Rattle.evt3.proofs.put.put_high.Given as goal

abbrev pub invariant-loop : goal.invariant-loop
invariant-loop g l =
    Climbing g.S.Sink.writes (high_words l.wraps l.fn.known l.fn.old l.high) l.initial.out l.at l.wraps l.counter l.set l.from l.high l.to l.out
