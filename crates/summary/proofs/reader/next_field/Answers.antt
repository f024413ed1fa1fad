-- `summary::reader::next_field` meets its contract: fields of other tags are passed one by one.
use Rattle.std.proofs.Common.{◌≡◌, ◌<◌, Some, length, sym, ◌∙◌, ap, arith}
use Rattle.std.specs.Result.{result_ok}
use Rattle.std.proofs.lemmas.Grind.{common_steps}
use Rattle.std.proofs.lemmas.Result.{err_from_is_err_and}
use Rattle.summary.specs.Fields.{fields_of}
use Rattle.summary.specs.Reader.{next_in}
use Rattle.summary.proofs.FieldByField.{fields_none, cut_faulty, cut_tagged, cut_shorter, field_is}
use Rattle.summary.proofs.reader.next_field.Goals as goal
use Rattle.summary.proofs.reader.next_field.Goals.{In_ok-tag}

found : (c : In_ok-tag) → c.cut.result ≡ Some (c.in_ok-tag.tag, c.in_ok-tag.contents, c.in_ok-tag.after)
found c = c.ok_or.ensures.ok_part ∙ ap result_ok c.in_ok-tag.was

shorter : (c : In_ok-tag) → length c.in_ok-tag.after.now < length c.loop-rest.rest.now
shorter c = cut_shorter c.loop-rest.rest.now c.cut.ensures (found c)

pub returns-in_err-tag-clause-same : goal.returns-in_err-tag-clause-same
returns-in_err-tag-clause-same c =
    let p = err_from_is_err_and c.from_residual.result c.from_residual.ensures.1 in
    c.loop-rest.invariant.same ∙ cut_faulty c.loop-rest.rest.now c.cut.ensures (grind (arith, common_steps)) (c.ok_or.ensures.ok_part ∙ ap result_ok c.in_err-tag.was) ∙ sym (ap next_in p.1)

pub returns-in_err-field-clause-same : goal.returns-in_err-field-clause-same
returns-in_err-field-clause-same c =
    let p = err_from_is_err_and c.from_residual-in_err-field.result c.from_residual-in_err-field.ensures.1 in
    c.loop-rest.invariant.same ∙ cut_tagged c.loop-rest.rest.now c.cut.ensures (found (goal.at.returns-in_err-field-clause-same c).In_ok-tag) ∙ c.in_err-field.ensures.same (fields_of c.in_ok-tag.after.now) ∙ sym (ap next_in p.1)

pub returns-in-Some-clause-same : goal.returns-in-Some-clause-same
returns-in-Some-clause-same c =
    c.loop-rest.invariant.same ∙ cut_tagged c.loop-rest.rest.now c.cut.ensures (found (goal.at.returns-in-Some-clause-same c).In_ok-tag) ∙ c.in_ok-field.ensures.same (fields_of c.in_ok-tag.after.now) ∙ field_is c.in-Some.is (fields_of c.in_ok-tag.after.now)

pub returns-in-Some-clause-shorter : goal.returns-in-Some-clause-shorter
returns-in-Some-clause-shorter c = omega (arith, shorter (goal.at.returns-in-Some-clause-shorter c).In_ok-tag, c.loop-rest.invariant.within)

pub loop-rest-smaller : goal.loop-rest-smaller
loop-rest-smaller c = shorter (goal.at.loop-rest-smaller c).In_ok-tag

pub loop-rest-preserved : goal.loop-rest-preserved
loop-rest-preserved c = record {
  same = c.loop-rest.invariant.same ∙ cut_tagged c.loop-rest.rest.now c.cut.ensures (found (goal.at.loop-rest-preserved c).In_ok-tag) ∙ c.in_ok-field.ensures.same (fields_of c.in_ok-tag.after.now) ∙ field_is c.in_default.is (fields_of c.in_ok-tag.after.now);
  within = omega (arith, shorter (goal.at.loop-rest-preserved c).In_ok-tag, c.loop-rest.invariant.within);
}

pub returns-clause-same : goal.returns-clause-same
returns-clause-same c = c.loop-rest.invariant.same ∙ fields_none c.loop-rest.rest.now (grind (arith, common_steps))
