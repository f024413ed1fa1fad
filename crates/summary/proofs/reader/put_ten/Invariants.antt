-- `summary::reader::put_ten` meets its contract: the numbers before k are pasted, the rest is as it was.
use Rattle.std.proofs.Common.{◌≡◌}
use lib.Seq.{paste}
use Rattle.summary.proofs.reader.put_ten.Given as goal

abbrev pub invariant-loop-k : goal.invariant-loop-k
invariant-loop-k l = l.out ≡ paste l.initial.out l.at l.fn.ten l.k
