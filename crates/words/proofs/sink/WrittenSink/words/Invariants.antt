-- `words::sink::Written::words` meets its contract.
use mathlib.Core.Bool.{true}
use lib.ListN.{drop}
use Rattle.words.proofs.Sinks.{Puts}
use Rattle.words.proofs.sink.WrittenSink.words.Given as goal

abbrev pub invariant-loop-word : goal.invariant-loop-word
invariant-loop-word g l = Puts true g.W.Word.SIZE l.words l.initial.out l.initial.to (drop l.word-index l.words) l.to l.out
