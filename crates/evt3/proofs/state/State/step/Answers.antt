-- `evt3::state::State::step` meets its contract: kind by kind.
use mathlib.Core.Path.{sym, ◌∙◌}
use Rattle.std.proofs.Common.{⊎_elim}
use Rattle.std.proofs.lemmas.Result.{err_from_is_err_and}
use Rattle.rows.specs.declared.fault.Fault.TheVariants as refusal
use Rattle.words.specs.Machine.{refuses}
use Rattle.words.proofs.Wrote.{gave_refused, gave_refused_if, gave_none_if, step_stops, step_moves, step_sets}
use Rattle.evt3.specs.declared.kind.Kind.TheVariants.{AddrY, AddrX, VectBaseX, Vect12, Vect8, TimeLow, Continued4, TimeHigh, ExtTrigger, Others, Continued12, Reserved}
use Rattle.evt3.proofs.Steps.{step_kind, few_wraps}
use Rattle.evt3.proofs.state.State.step.Goals as goal

pub returns-in_err-count-in-AddrX : goal.returns-in_err-count-in-AddrX
returns-in_err-count-in-AddrX c =
    let e = err_from_is_err_and c.from_residual.result c.from_residual.ensures.1 in
    rw (e.1, e.2) (step_kind _ _ _ AddrX c.from.ensures c.in-AddrX.is (step_stops _ _ _ c.in_err-count-in-AddrX.ensures))

pub returns-in_ok-count-in-AddrX : goal.returns-in_ok-count-in-AddrX
returns-in_ok-count-in-AddrX c = step_kind _ _ _ AddrX c.from.ensures c.in-AddrX.is (step_moves _ _ _ c.in_ok-count-in-AddrX.ensures)

pub returns-in_err-count-in-Vect12 : goal.returns-in_err-count-in-Vect12
returns-in_err-count-in-Vect12 c =
    let e = err_from_is_err_and c.from_residual-in_err-count-in-Vect12.result c.from_residual-in_err-count-in-Vect12.ensures.1 in
    rw (e.1, e.2) (step_kind _ _ _ Vect12 c.from.ensures c.in-Vect12.is (step_stops _ _ _ c.in_err-count-in-Vect12.ensures))

pub returns-in_ok-count-in-Vect12 : goal.returns-in_ok-count-in-Vect12
returns-in_ok-count-in-Vect12 c =
    rw c.vect_12.ensures (step_kind _ _ _ Vect12 c.from.ensures c.in-Vect12.is (step_moves _ _ _ c.in_ok-count-in-Vect12.ensures))

pub returns-in_err-count-in-Vect8 : goal.returns-in_err-count-in-Vect8
returns-in_err-count-in-Vect8 c =
    let e = err_from_is_err_and c.from_residual-in_err-count-in-Vect8.result c.from_residual-in_err-count-in-Vect8.ensures.1 in
    rw (e.1, e.2) (step_kind _ _ _ Vect8 c.from.ensures c.in-Vect8.is (step_stops _ _ _ c.in_err-count-in-Vect8.ensures))

pub returns-in_ok-count-in-Vect8 : goal.returns-in_ok-count-in-Vect8
returns-in_ok-count-in-Vect8 c =
    rw c.vect_8.ensures (step_kind _ _ _ Vect8 c.from.ensures c.in-Vect8.is (step_moves _ _ _ c.in_ok-count-in-Vect8.ensures))

pub returns-in-TimeLow : goal.returns-in-TimeLow
returns-in-TimeLow c = step_kind _ _ _ TimeLow c.from.ensures c.in-TimeLow.is (rw c.time_low.ensures (step_sets _ _ _ _))

pub time_high-requires : goal.time_high-requires
time_high-requires c = few_wraps _ _ (sym c.bad_high.ensures ∙ c.if-bad_high.false)

pub returns-then-bad_high : goal.returns-then-bad_high
returns-then-bad_high c =
    step_kind _ _ _ TimeHigh c.from.ensures c.in-TimeHigh.is (step_stops _ _ _ (gave_refused_if (sym c.bad_high.ensures ∙ c.if-bad_high.true) _ _ _))

pub returns-else-bad_high : goal.returns-else-bad_high
returns-else-bad_high c =
    step_kind _ _ _ TimeHigh c.from.ensures c.in-TimeHigh.is
    (rw c.time_high.ensures (step_moves _ _ _ (gave_none_if (sym c.bad_high.ensures ∙ c.if-bad_high.false) _ _ _)))

pub returns-in-AddrY : goal.returns-in-AddrY
returns-in-AddrY c = step_kind _ _ _ AddrY c.from.ensures c.in-AddrY.is (rw c.addr_y.ensures (step_sets _ _ _ _))

pub returns-in-VectBaseX : goal.returns-in-VectBaseX
returns-in-VectBaseX c = step_kind _ _ _ VectBaseX c.from.ensures c.in-VectBaseX.is (rw c.vect_base_x.ensures (step_sets _ _ _ _))

pub returns-in_err-count-in-ExtTrigger : goal.returns-in_err-count-in-ExtTrigger
returns-in_err-count-in-ExtTrigger c =
    let e = err_from_is_err_and c.from_residual-in_err-count-in-ExtTrigger.result c.from_residual-in_err-count-in-ExtTrigger.ensures.1 in
    rw (e.1, e.2) (step_kind _ _ _ ExtTrigger c.from.ensures c.in-ExtTrigger.is (step_stops _ _ _ c.in_err-count-in-ExtTrigger.ensures))

pub returns-in_ok-count-in-ExtTrigger : goal.returns-in_ok-count-in-ExtTrigger
returns-in_ok-count-in-ExtTrigger c =
    step_kind _ _ _ ExtTrigger c.from.ensures c.in-ExtTrigger.is (step_moves _ _ _ c.in_ok-count-in-ExtTrigger.ensures)

pub returns-in-Reserved : goal.returns-in-Reserved
returns-in-Reserved c =
    step_kind _ _ _ Reserved c.from.ensures c.in-Reserved.is (step_stops (refuses refusal.Reserved) _ c.args.self.now (gave_refused refusal.Reserved _ _))

pub returns-in-Continued4 : goal.returns-in-Continued4
returns-in-Continued4 c =
    let s = c.args.self.now in
    let stays = step_sets s s _ _ in
    ⊎_elim (λ e. step_kind _ _ _ Continued4 c.from.ensures e stays)
    (⊎_elim (λ e. step_kind _ _ _ Others c.from.ensures e stays) (λ e. step_kind _ _ _ Continued12 c.from.ensures e stays)) c.in-Continued4.is
