-- `header::value::number_of` meets its contract.
use Rattle.std.proofs.Common.{◌∙◌, sym, ◌<◌, ◌≤◌, length, arith}
use Rattle.std.proofs.lemmas.Bool.Decides.{nat_tests}
use Rattle.header.proofs.Digits.{number_short, number_long, counted_none, counted_small, counted_other, counted_fits, counted_next, counted_all}
use Rattle.header.proofs.value.number_of.Goals as goal
use Rattle.header.proofs.value.number_of.Goals.{then-is_empty-via-then-is_empty, then-is_empty-via-else-is_empty+then-digits-gt5}

pub returns-then-is_empty : goal.returns-then-is_empty
returns-then-is_empty c =
    elim c.then-is_empty.branch [
      | then-is_empty-via-then-is_empty w ↦ let h : length c.args.digits.now < 1 = grind (arith, nat_tests) in number_short _ h
      | then-is_empty-via-else-is_empty+then-digits-gt5 w ↦ number_long _ w.if-digits-gt5.true
    ]

pub loop-c-init : goal.loop-c-init
loop-c-init c = counted_none

pub overflow_mul-n : goal.overflow_mul-n
overflow_mul-n c = omega (arith, counted_small c.loop-c.invariant c.loop-c-test.true c.if-digits-gt5.false)

pub overflow_add-n : goal.overflow_add-n
overflow_add-n c =
    omega (arith, counted_fits c.loop-c.invariant c.loop-c-test.true (sym c.in_ok-n.was ∙ c.digit_of.ensures) c.if-digits-gt5.false)

pub loop-c-preserved : goal.loop-c-preserved
loop-c-preserved c = counted_next c.loop-c.invariant c.loop-c-test.true (sym c.in_ok-n.was ∙ c.digit_of.ensures)

pub returns-in_err-n : goal.returns-in_err-n
returns-in_err-n c =
    c.from_residual.ensures ∙ counted_other c.loop-c.invariant c.loop-c-test.true (sym c.in_err-n.was ∙ c.digit_of.ensures)

pub returns : goal.returns
returns c =
    let some : 1 ≤ length c.args.digits.now = grind (arith, nat_tests) in
    counted_all c.loop-c.invariant some c.if-digits-gt5.false c.loop-c-test.false
