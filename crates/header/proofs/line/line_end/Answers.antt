-- `header::line::line_end` meets its contract.
use Rattle.std.proofs.Common.{◌≡◌, ◌∙◌, sym, take, rules}
use Rattle.std.specs.List.{position}
use Rattle.std.proofs.lemmas.Iterator.{YieldsList-from_slice, YieldsList-from_take}
use Rattle.std.proofs.lemmas.Iterator.Search.{position_from_yields_List}
use borrow.Author.Tests.{tests}
use Rattle.header.proofs.LineEnds.{newline, line_found, line_cut, line_far}
use Rattle.header.proofs.line.line_end.Goals as goal
use Rattle.header.proofs.line.line_end.Goals.{After-position}

place : (c : After-position) → c.position.result ≡ position newline (take c.args.most c.args.bytes.now)
place c =
    position_from_yields_List newline _ _ c.position.result c.position.ensures.ran
    (YieldsList-from_take c.args.most (YieldsList-from_slice c.args.bytes.now cc) cc) (λ x b q k. search (rules, tests))

pub returns-in-Some : goal.returns-in-Some
returns-in-Some c = line_found c.args.most c.args.bytes.now (sym (place (goal.at.returns-in-Some c).After-position) ∙ c.in-Some.is)

pub returns-in-None : goal.returns-in-None
returns-in-None c = line_cut c.args.most c.args.bytes.now (sym (place (goal.at.returns-in-None c).After-position) ∙ c.in-None.is) c.if-bytes-most.true

pub returns-in-None-2 : goal.returns-in-None-2
returns-in-None-2 c = line_far c.args.most c.args.bytes.now (sym (place (goal.at.returns-in-None-2 c).After-position) ∙ c.in-None-2.is) c.if-bytes-most.false
