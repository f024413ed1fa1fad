-- `summary::reader::hand_out` meets its contract: the numbers of the blocks so far are put, and with the others the buffer becomes what it is to be.
use Rattle.summary.proofs.HandedOut.{HandingOut}
use Rattle.summary.proofs.reader.hand_out.Given as goal

abbrev pub invariant-loop-j : goal.invariant-loop-j
invariant-loop-j l = HandingOut l.fields l.initial.out l.rest l.out l.j
