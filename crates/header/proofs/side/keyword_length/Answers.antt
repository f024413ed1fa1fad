-- `header::side::keyword_length` meets its contract.
use Rattle.std.proofs.Common.{◌∙◌, rules}
use Rattle.std.proofs.lemmas.Iterator.{YieldsList-from_slice}
use Rattle.std.proofs.lemmas.Iterator.Search.{position_from_yields_List}
use borrow.Author.Tests.{tests}
use Rattle.header.specs.Sides.{ends_keyword}
use Rattle.header.proofs.Keywords.{keyword_found}
use Rattle.header.proofs.side.keyword_length.Goals as goal

pub returns : goal.returns
returns c =
    c.unwrap_or.ensures
    ∙ keyword_found c.args.text.now
    (position_from_yields_List ends_keyword _ _ c.position.result c.position.ensures.ran (YieldsList-from_slice c.args.text.now cc) (λ x b q k. search (rules, tests)))
