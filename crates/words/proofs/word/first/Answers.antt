-- `words::word::first` meets its contract.
use Rattle.words.proofs.Cut.{first_end, first_part, first_word}
use mathlib.Core.Path.{sym, ◌∙◌}
use native.Mathlib.Omega.{arith}
use borrow.Author.Tests.{eqb-true, eqb-false}
use Rattle.words.proofs.word.first.Goals as goal

pub returns-in-Some : goal.returns-in-Some
returns-in-Some g c = first_word g.W.Word.SIZE g.met.W.Word.some c.args.bytes.now c.in-Some.ensures.0 (g.met.W.Word.numbered _ _ c.into.ensures ∙ c.in-Some.ensures.1)

pub returns-in-None : goal.returns-in-None
returns-in-None g c = first_end g.W.Word.SIZE g.met.W.Word.some c.args.bytes.now (eqb-true _ _ (sym c.is_empty.ensures ∙ c.if-is_empty.true))

pub returns-in-None-2 : goal.returns-in-None-2
returns-in-None-2 g c = first_part g.W.Word.SIZE g.met.W.Word.some c.args.bytes.now (omega (arith, eqb-false _ _ (sym c.is_empty.ensures ∙ c.if-is_empty.false))) c.in-None.ensures
