-- `words::sink::Sink::words` meets its contract.
use lib.ListN.{drop}
use Rattle.words.proofs.Sinks.{Puts}
use Rattle.words.proofs.sink.Sink.words.Given as goal

abbrev pub invariant-loop-word : goal.invariant-loop-word
invariant-loop-word g l = Puts g.Self.Sink.writes g.W.Word.SIZE l.words l.initial.out l.initial.end (drop l.word-index l.words) l.end l.out
