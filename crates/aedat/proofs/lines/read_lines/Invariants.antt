-- `aedat::lines::read_lines` meets its contract.
use Rattle.aedat.specs.Lines.{lines_of}
use Rattle.aedat.proofs.HeaderLines.{rule}
use Rattle.header.proofs.LineRules.{LinesRead}
use lib.ListN.{length}
use Prim.Native.Nat.{◌-◌}
use Rattle.aedat.proofs.lines.read_lines.Given as goal

abbrev pub invariant-loop-line : goal.invariant-loop-line
invariant-loop-line l = LinesRead rule l.bytes (lines_of l.bytes) l.stage l.at

abbrev pub decreases-loop-line : goal.decreases-loop-line
decreases-loop-line l = length l.bytes - l.at
