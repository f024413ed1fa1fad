-- `join::whole::whole_from` meets its contract.
use Prim.Native.Nat.{◌-◌}
use lib.ListN.{length}
use Rattle.join.proofs.Looking.{Looking}
use Rattle.join.proofs.whole.whole_from.Given as goal

abbrev pub invariant-loop-word : goal.invariant-loop-word
invariant-loop-word l = Looking l.bytes l.seen l.at

abbrev pub decreases-loop-word : goal.decreases-loop-word
decreases-loop-word l = length l.bytes - l.at
