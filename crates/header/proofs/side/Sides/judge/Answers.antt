-- `header::side::Sides::judge` meets its contract.
use Rattle.std.proofs.Common.{◌≡◌, refl, sym, arith}
use Rattle.header.specs.Sides.{judged_by, judged_of}
use Rattle.header.proofs.Keywords.{keyword_in}
use Rattle.header.proofs.Sides.{judged}
use Rattle.header.proofs.side.Sides.judge.Goals as goal
use Rattle.header.proofs.side.Sides.judge.Goals.{After-side_of}

pub split_at-requires : goal.split_at-requires
split_at-requires c = omega (arith, keyword_in c.args.text.now, c.keyword_length.ensures)

by_side : (c : After-side_of)
    → judged_of c.args.limit c.args.text.now c.args.self ≡ judged_by c.side_of.result c.args.limit c.split_at.result.1.now c.args.self
by_side c =
    judged c.args.limit c.args.text.now c.args.self c.keyword_length.ensures c.split_at.ensures.front c.split_at.ensures.back c.side_of.ensures

pub returns-in_default : goal.returns-in_default
returns-in_default c = rw (by_side (goal.at.returns-in_default c).After-side_of, c.in_default.is) refl

pub returns-in_err-n : goal.returns-in_err-n
returns-in_err-n c =
    rw (by_side (goal.at.returns-in_err-n c).After-side_of, c.in-Some.is, sym c.value_of.ensures, c.in_err-n.was) c.from_residual.ensures

pub returns-then-may_be : goal.returns-then-may_be
returns-then-may_be c =
    rw (by_side (goal.at.returns-then-may_be c).After-side_of, c.in-Some.is, sym c.value_of.ensures, c.in_ok-n.was, sym c.said.ensures, sym c.may_be.ensures, c.if-may_be.true, c.with_side.ensures) refl

pub returns-else-may_be : goal.returns-else-may_be
returns-else-may_be c =
    rw (by_side (goal.at.returns-else-may_be c).After-side_of, c.in-Some.is, sym c.value_of.ensures, c.in_ok-n.was, sym c.said.ensures, sym c.may_be.ensures, c.if-may_be.false) refl
