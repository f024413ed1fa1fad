-- `header::value::number_of` meets its contract.
use Rattle.header.proofs.Digits.{Counted}
use Rattle.header.proofs.value.number_of.Given as goal

abbrev pub invariant-loop-c : goal.invariant-loop-c
invariant-loop-c l = Counted l.digits l.n l.c-index
