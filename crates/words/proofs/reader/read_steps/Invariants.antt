-- `words::reader::read_steps` meets its contract.
use Prim.Native.Nat.{◌-◌, min}
use lib.ListN.{length}
use Rattle.rows.specs.Row.{room_of}
use Rattle.words.specs.Machine.{read_from}
use Rattle.words.proofs.Between.{Between}
use Rattle.words.proofs.reader.read_steps.Given as goal

abbrev pub invariant-loop-front : goal.invariant-loop-front
invariant-loop-front g l =
    Between (g.R.StepReader.machine l.reader) l.bytes (read_from (g.R.StepReader.machine l.reader) l.bytes g.R.StepReader.start (min l.from (length l.bytes)) (room_of l.initial.rows)) l.initial.rows 0 l.state
    l.at l.n l.rows

abbrev pub decreases-loop-front : goal.decreases-loop-front
decreases-loop-front g l = length l.bytes - l.at
