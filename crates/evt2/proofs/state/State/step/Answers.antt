-- `evt2::state::State::step` meets its contract: kind by kind.
use mathlib.Core.Path.{sym, ◌∙◌}
use Rattle.std.proofs.Common.{⊎_elim}
use Rattle.std.proofs.lemmas.Result.{err_from_is_err_and}
use Rattle.rows.specs.declared.fault.Fault.TheVariants as refusal
use Rattle.words.specs.Machine.{refuses}
use Rattle.words.proofs.Wrote.{gave_refused, gave_refused_if, gave_none_if, step_stays, step_stops, step_ticks, step_sets, step_rests}
use Rattle.evt2.specs.declared.kind.Kind.TheVariants.{Cd, TimeHigh, ExtTrigger, ImuEvt, Others, Continued, Reserved, Inside}
use Rattle.evt2.proofs.Steps.{begun_some, pixel_some, trigger_some, back_some, step_kind}
use Rattle.evt2.proofs.state.State.step.Goals as goal

pub returns-in_default : goal.returns-in_default
returns-in_default c = c.unclocked.ensures _ _

pub returns-in_err-count-in-Cd : goal.returns-in_err-count-in-Cd
returns-in_err-count-in-Cd c =
    let e = err_from_is_err_and c.from_residual.result c.from_residual.ensures.1 in
    rw (e.1, e.2) (step_kind _ _ _ _ Cd c.kind.ensures c.in-Cd.is (rw (pixel_some c.args.self.now c.args.w c.args.picture c.in-Some.is) (step_stops _ _ _ c.in_err-count-in-Cd.ensures)))

pub returns-in_ok-count-in-Cd : goal.returns-in_ok-count-in-Cd
returns-in_ok-count-in-Cd c = step_kind _ _ _ _ Cd c.kind.ensures c.in-Cd.is (rw (pixel_some c.args.self.now c.args.w c.args.picture c.in-Some.is) (step_stays _ _ c.in_ok-count-in-Cd.ensures))

pub returns-then-is_before : goal.returns-then-is_before
returns-then-is_before c =
    let back = back_some _ _ c.in-Some.is ∙ sym c.is_before.ensures ∙ c.if-is_before.true in
    step_kind _ _ _ _ TimeHigh c.kind.ensures c.in-TimeHigh.is (step_stops _ _ _ (gave_refused_if back _ _ _))

pub returns-else-is_before : goal.returns-else-is_before
returns-else-is_before c =
    let back = back_some _ _ c.in-Some.is ∙ sym c.is_before.ensures ∙ c.if-is_before.false in
    rw c.time_high.ensures (step_kind _ _ _ _ TimeHigh c.kind.ensures c.in-TimeHigh.is (step_ticks _ _ _ (gave_none_if back _ _ _)))

pub returns-in_err-count-in-ExtTrigger : goal.returns-in_err-count-in-ExtTrigger
returns-in_err-count-in-ExtTrigger c =
    let e = err_from_is_err_and c.from_residual-in_err-count-in-ExtTrigger.result c.from_residual-in_err-count-in-ExtTrigger.ensures.1 in
    rw (e.1, e.2)
    (step_kind _ _ _ _ ExtTrigger c.kind.ensures c.in-ExtTrigger.is (rw (trigger_some c.args.self.now c.args.w c.in-Some.is) (step_stops _ _ _ c.in_err-count-in-ExtTrigger.ensures)))

pub returns-in_ok-count-in-ExtTrigger : goal.returns-in_ok-count-in-ExtTrigger
returns-in_ok-count-in-ExtTrigger c =
    step_kind _ _ _ _ ExtTrigger c.kind.ensures c.in-ExtTrigger.is (rw (trigger_some c.args.self.now c.args.w c.in-Some.is) (step_stays _ _ c.in_ok-count-in-ExtTrigger.ensures))

pub returns-in-ImuEvt : goal.returns-in-ImuEvt
returns-in-ImuEvt c =
    step_kind _ _ _ _ ImuEvt c.kind.ensures c.in-ImuEvt.is
    (rw (begun_some c.args.self.now c.args.place c.args.w c.in-Some.is, c.begun.ensures) (step_sets _ _ _ _))

pub returns-in-Others : goal.returns-in-Others
returns-in-Others c =
    let rests = step_rests c.args.self.now _ _ in
    ⊎_elim (λ e. step_kind _ _ _ _ Others c.kind.ensures e rests) (λ e. step_kind _ _ _ _ Continued c.kind.ensures e rests) c.in-Others.is

pub returns-in-Reserved : goal.returns-in-Reserved
returns-in-Reserved c =
    step_kind _ _ _ _ Reserved c.kind.ensures c.in-Reserved.is (step_stops (refuses refusal.Reserved) _ c.args.self.now (gave_refused refusal.Reserved _ _))

pub returns-in-Inside : goal.returns-in-Inside
returns-in-Inside c = step_kind _ _ _ _ (Inside c.in-Inside.group) c.kind.ensures c.in-Inside.is c.inside.ensures
