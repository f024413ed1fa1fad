-- `summary::reader::next_field` meets its contract: fields of other tags are passed one by one.
use Rattle.std.proofs.Common.{◌≡◌, ◌≤◌, length}
use Rattle.summary.specs.Fields.{fields_of}
use Rattle.summary.proofs.reader.next_field.Given as goal

abbrev pub invariant-loop-rest : goal.invariant-loop-rest
invariant-loop-rest l = record { same : fields_of l.bytes ≡ fields_of l.rest; within : length l.rest ≤ length l.bytes }

abbrev pub decreases-loop-rest : goal.decreases-loop-rest
decreases-loop-rest l = length l.rest
