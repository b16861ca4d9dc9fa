-- In a legal history each effect of each delivery applies.
use Rattle.std.proofs.Common.{◌≡◌, true, List, [], ◌∷◌, refl, sym, subst}
use Rattle.router_laws.proofs.KeptLemmas.{same_after}
use Rattle.router_laws_sound.specs.Rooms.{HasRoom, IsDeployed}
use Rattle.router_laws_steps.proofs.WholeSteps.{step_can, well_after}
use Rattle.router_laws_steps.specs.Applied.{AllApply, ApplyAt}
use Rattle.router_laws_steps.specs.Reads.{AreRead}
use Rattle.router_laws_suiting.proofs.Applied.{receipt_applies}
use Rattle.router_laws_suiting.specs.Declared.{AreSpelled, IsProgrammed}
use Rattle.router_state.specs.Fits.{is_u64}
use Rattle.router_state.specs.State.{State}
use Rattle.router_state.specs.Well.{IsSound, IsWell}
use Rattle.router_steps.specs.Histories.{Legal, replay}
use Rattle.router_steps.specs.Steps.{after}
use Rattle.trace_history.specs.declared.choice.Choice.{Choice}
use Rattle.trace_history.specs.declared.choice.Choice.TheVariants as choices
use Rattle.trace_history.specs.declared.entry.Entry.{Entry}

applies_at : (s : State) (c : Choice) → IsSound s → IsDeployed s.deployment → IsProgrammed s.deployment s.program → AreSpelled s.program → ApplyAt s c
applies_at s (choices.Input signal) sound deployed programmed spelled = tt
applies_at s (choices.Initial a) sound deployed programmed spelled = tt
applies_at s (choices.Deliver a) sound deployed programmed spelled = λ x is small room. receipt_applies s a.0 x sound deployed programmed spelled small is room
applies_at s (choices.Finish a) sound deployed programmed spelled = tt

pub history_applies : (s : State) (h : List Entry) → IsWell s → IsDeployed s.deployment → IsProgrammed s.deployment s.program → AreSpelled s.program → Legal s h → AreRead h → HasRoom (replay s h) → is_u64 (replay s h).inputs ≡ true → AllApply s h
history_applies s [] well deployed programmed spelled legal read room count = tt
history_applies s (e ∷ es) well deployed programmed spelled legal read room count =
    let t = after s e.choice in
    let same = same_after s e.choice in (
      applies_at s e.choice well.sound deployed programmed spelled,
      history_applies t es (well_after s e.choice well.sound deployed (step_can s e es legal read room count)) (subst IsDeployed (sym same.0) deployed)
          (subst (λ d. IsProgrammed d t.program) (sym same.0) (subst (IsProgrammed s.deployment) (sym same.1) programmed)) (subst AreSpelled (sym same.1) spelled) legal.3 read.1 room count,
    )
