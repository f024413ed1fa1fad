-- `evt2::state::State::unclocked` meets its contract: kind by kind.
use mathlib.Core.Path.{refl, sym}
use Rattle.std.proofs.Common.{⊎_elim}
use Rattle.rows.specs.declared.fault.Fault.TheVariants as refusal
use Rattle.words.specs.Machine.{refuses}
use Rattle.words.proofs.Wrote.{gave_refused, gave_none_if, step_stops, step_ticks, step_rests}
use Rattle.evt2.specs.declared.kind.Kind.TheVariants.{Cd, TimeHigh, ExtTrigger, ImuEvt, Others, Continued, Reserved, Inside}
use Rattle.evt2.proofs.Steps.{begun_none, pixel_none, trigger_none, back_none, step_kind}
use Rattle.evt2.proofs.state.State.unclocked.Goals as goal

pub returns-then-is_pixel : goal.returns-then-is_pixel
returns-then-is_pixel c =
    let s = c.args.self.now in
    λ picture place.
    step_kind _ _ _ _ Cd (sym (c.is_pixel.ensures c.if-is_pixel.true)) refl
    (rw (pixel_none s c.args.w c.requires picture) (step_rests s c.args.n c.args.rows.now))

pub returns-in-TimeHigh : goal.returns-in-TimeHigh
returns-in-TimeHigh c =
    λ picture place. rw c.time_high.ensures (step_kind _ _ _ _ TimeHigh c.kind.ensures c.in-TimeHigh.is (step_ticks _ _ _ (gave_none_if (back_none _ _ c.requires) _ _ _)))

pub returns-in-Reserved : goal.returns-in-Reserved
returns-in-Reserved c =
    λ picture place. step_kind _ _ _ _ Reserved c.kind.ensures c.in-Reserved.is (step_stops (refuses refusal.Reserved) _ c.args.self.now (gave_refused refusal.Reserved _ _))

pub returns-in-Inside : goal.returns-in-Inside
returns-in-Inside c = λ picture place. step_kind _ _ _ _ (Inside c.in-Inside.group) c.kind.ensures c.in-Inside.is c.inside.ensures

pub returns-in-Cd : goal.returns-in-Cd
returns-in-Cd c =
    let s = c.args.self.now in
    let w = c.args.w in
    let rests = step_rests s c.args.n c.args.rows.now in
    λ picture place.
    ⊎_elim (λ e. step_kind _ _ _ _ Cd c.kind.ensures e (rw (pixel_none s w c.requires picture) rests))
    (⊎_elim (λ e. step_kind _ _ _ _ ExtTrigger c.kind.ensures e (rw (trigger_none s w c.requires) rests))
    (⊎_elim (λ e. step_kind _ _ _ _ ImuEvt c.kind.ensures e (rw (begun_none s place w c.requires) rests))
    (⊎_elim (λ e. step_kind _ _ _ _ Others c.kind.ensures e rests) (λ e. step_kind _ _ _ _ Continued c.kind.ensures e rests)))) c.in-Cd.is
