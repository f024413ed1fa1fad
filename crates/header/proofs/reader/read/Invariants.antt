-- `header::reader::read` meets its contract.
use Rattle.std.proofs.Common.{length, ◌-◌}
use Rattle.header.specs.Header.{header_of}
use Rattle.header.proofs.LineRules.{LinesRead}
use Rattle.header.proofs.Lines.{rule}
use Rattle.header.proofs.reader.read.Given as goal

abbrev pub invariant-loop-line : goal.invariant-loop-line
invariant-loop-line l = LinesRead (rule l.limit) l.bytes (header_of l.limit l.bytes) l.sides l.at

abbrev pub decreases-loop-line : goal.decreases-loop-line
decreases-loop-line l = length l.bytes - l.at
