-- `words::writer::count` meets its contract.
use Prim.Native.Nat.{◌-◌}
use Rattle.rows.specs.Row.{room_of}
use Rattle.words.proofs.Walks.{Tally, Passing}
use Rattle.words.proofs.writer.count.Given as goal

abbrev pub invariant-loop-row : goal.invariant-loop-row
invariant-loop-row g l =
    let w = g.W.Writer in
    Tally w.walk w.begin l.rows l.words l.standing l.i × Passing w.walk w.spelling.writable w.last w.begin l.rows l.standing l.i

abbrev pub decreases-loop-row : goal.decreases-loop-row
decreases-loop-row g l = room_of l.rows - l.i
