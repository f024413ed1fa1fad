-- `words::sink::Written::words` meets its contract.
use mathlib.Core.Path.{sym}
use Prim.Native.Nat.{◌+◌, ◌*◌, ◌≤◌}
use native.Mathlib.Omega.{arith}
use native.Mathlib.Nat.{add-mul, le-div_iff_mul-le}
use lib.ListN.{length}
use Rattle.std.proofs.Common.{◌∷◌, [], add-one, drop-cons, slice_index_or}
use Rattle.words.proofs.Sinks.{put_stored, puts_more}
use Rattle.words.proofs.sink.WrittenSink.words.Goals as goal

pub store_all-requires : goal.store_all-requires
store_all-requires g c =
    let size = g.W.Word.SIZE in
    let fits : (c.args.at + length c.args.words.now) * size ≤ length c.args.out.now =
    (le-div_iff_mul-le g.met.W.Word.some).0 (omega (arith, c.if-at-room.true, c.if-words-room.true, c.room-room.ensures)) in
    rw c.SIZE.ensures (omega (arith, fits, add-mul c.args.at (length c.args.words.now) size))

pub returns-then-words-room : goal.returns-then-words-room
returns-then-words-room g c =
    put_stored (omega (arith, c.if-at-room.true, c.if-words-room.true, c.room-room.ensures))
    (rw (sym c.SIZE.ensures) c.store_all.ensures.wrote) (omega arith)

pub loop-word-preserved : goal.loop-word-preserved
loop-word-preserved g c =
    let word = slice_index_or c.args.words.now c.loop-word.word-index 0 in
    rw add-one
    (puts_more (word ∷ []) (rw (drop-cons c.args.words.now c.loop-word.word-index 0 c.loop-word-test.true) at c.loop-word.invariant) c.word-to.ensures)
