-- `summary::reader::judge` meets its contract: the blocks so far add up, and what is left to judge.
use Rattle.std.proofs.Common.{◌≡◌, Err, sym, ◌∙◌, ap}
use Rattle.std.proofs.lemmas.Result.{err_from_is_err_and}
use Rattle.summary.specs.Fields.{Fields, fields_of}
use Rattle.summary.proofs.FieldByField.{next_found, next_none, next_shorter}
use Rattle.summary.proofs.Judged.{judged_faulty, judged_count, judged_wrong, judged_next, judged_other, judged_all}
use Rattle.summary.proofs.reader.judge.Goals as goal
use Rattle.summary.proofs.reader.judge.Goals.{In-Block}

pub returns-in_err-field : goal.returns-in_err-field
returns-in_err-field c =
    let p = err_from_is_err_and c.from_residual.result c.from_residual.ensures.1 in
    rw (p.1, p.2) (ap Err c.in_err-field.ensures.refused ∙ judged_faulty c.loop-field.invariant c.in_err-field.ensures.same)

pub returns-in-Count : goal.returns-in-Count
returns-in-Count c = judged_count c.loop-field.invariant (next_found c.in_ok-field.ensures.same c.in-Some.is c.in-Count.is)

block : (c : In-Block) → fields_of c.loop-field.rest.now ≡ Fields.block c.in-Block.block (fields_of c.in-Some.after.now)
block c = next_found c.in_ok-field.ensures.same c.in-Some.is c.in-Block.is

pub returns-then-not-adds_up : goal.returns-then-not-adds_up
returns-then-not-adds_up c =
    judged_wrong c.loop-field.invariant c.in-Some.after.now (block (goal.at.returns-then-not-adds_up c).In-Block) c.min-some.ensures (sym c.adds_up.ensures ∙ c.if-not-adds_up.true)

pub loop-field-preserved : goal.loop-field-preserved
loop-field-preserved c =
    judged_next c.loop-field.invariant c.in-Some.after.now (block (goal.at.loop-field-preserved c).In-Block) c.min-some.ensures (sym c.adds_up.ensures ∙ c.if-not-adds_up.false)
    (next_shorter c.in_ok-field.ensures.shorter c.in-Some.is)

pub returns-then-many-block_count : goal.returns-then-many-block_count
returns-then-many-block_count c = judged_other c.loop-field.invariant (next_none c.in_ok-field.ensures.same c.in_default.is) (λ e. c.if-many-block_count.true (e ∙ sym c.block_count.ensures))

pub returns : goal.returns
returns c = judged_all c.loop-field.invariant (next_none c.in_ok-field.ensures.same c.in_default.is) (c.if-many-block_count.false ∙ c.block_count.ensures)
