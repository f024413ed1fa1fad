-- `summary::reader::judge` meets its contract: the blocks so far add up, and what is left to judge.
use Rattle.std.proofs.Common.{length}
use Rattle.summary.proofs.Judged.{Judged}
use Rattle.summary.proofs.reader.judge.Given as goal

abbrev pub invariant-loop-field : goal.invariant-loop-field
invariant-loop-field l = Judged l.fields l.rows l.rest l.left l.many

abbrev pub decreases-loop-field : goal.decreases-loop-field
decreases-loop-field l = length l.rest
