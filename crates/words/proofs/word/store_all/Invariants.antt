-- `words::word::store_all` meets its contract.
use lib.ListN.{drop}
use Rattle.words.proofs.Writes.{Writes}
use Rattle.words.proofs.word.store_all.Given as goal

abbrev pub invariant-loop-word : goal.invariant-loop-word
invariant-loop-word g l = Writes g.W.Word.SIZE l.words l.initial.out l.initial.to (drop l.word-index l.words) l.to l.out
