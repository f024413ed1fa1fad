-- `words::writer::put_rows` meets its contract.
use Prim.Native.Nat.{◌-◌}
use Rattle.rows.specs.Row.{room_of}
use Rattle.words.proofs.Walks.{Walking}
use Rattle.words.proofs.writer.put_rows.Given as goal

abbrev pub invariant-loop-row : goal.invariant-loop-row
invariant-loop-row g l =
    let w = g.W.Writer in
    Walking w.walk g.W.Word.Word.SIZE w.begin l.rows l.initial.out l.at l.standing l.done l.out

abbrev pub decreases-loop-row : goal.decreases-loop-row
decreases-loop-row g l = room_of l.rows - l.done
