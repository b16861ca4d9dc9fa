-- A step leaves the deployment with which the state was made, and a plan of a state that stays is one of it.
use Rattle.std.proofs.Common.{◌≡◌, List, refl, sym, ◌∙◌, ap, subst}
use Rattle.script_types.specs.ProgramOf.{IsChecked, kept_program}
use Rattle.deploy_model.specs.Resolving.{deployed_of}
use Rattle.slee_descriptor.specs.declared.deployment.Deployment.{Deployment}
use Rattle.trace_history.specs.declared.choice.Choice.{Choice}
use Rattle.router_state.specs.Changes.{after_changes}
use Rattle.router_state.specs.Initial.{initial}
use Rattle.router_state.specs.State.{State}
use Rattle.router_state.specs.declared.change.Change.{Change}
use Rattle.router_steps.specs.Steps.{after}
use Rattle.router_laws.proofs.KeptLemmas.{same_after, same_changes}
use Rattle.router_inputs.specs.InOrder.{AreInOrder}
use Rattle.router_plans.specs.Plans.{IsPlanOf, PlanView}
use Rattle.router_core.specs.States.{IsOwn}

-- the deployment is the one with which a state was made, in each state that has its parts and its scripts
own_by : (d : Deployment) (s t : State) → t.deployment ≡ s.deployment → t.program ≡ s.program → IsOwn d s → IsOwn d t
own_by d s t deployment program own = record {
  deployed = record {
    parts = own.deployed.parts ∙ sym deployment;
    program = own.deployed.program ∙ sym program;
    checked = own.deployed.checked;
  };
  order = own.order;
}

-- in the first state
pub own_begins : (d : Deployment) → IsChecked d.codes → AreInOrder (deployed_of d.parts) → IsOwn d (initial (deployed_of d.parts) (kept_program d.codes))
own_begins d checked order = record { deployed = record { parts = refl; program = refl; checked = checked }; order = order }

-- behind a step
pub own_after : (d : Deployment) (s : State) (c : Choice) → IsOwn d s → IsOwn d (after s c)
own_after d s c own = let same = same_after s c in own_by d s (after s c) same.0 same.1 own

-- behind changes
pub own_kept : (d : Deployment) (cs : List Change) (s t : State) → t ≡ after_changes cs s → IsOwn d s → IsOwn d t
own_kept d cs s t is own =
    let same = same_changes cs s in
    own_by d s t (ap (λ (x : State). x.deployment) is ∙ same.0) (ap (λ (x : State). x.program) is ∙ same.1) own

pub own_plan : (s t : State) (c : Choice) (plan : PlanView) → t ≡ s → IsPlanOf s c plan → IsPlanOf t plan.choice plan
own_plan s t c plan same made = subst (λ (u : State). IsPlanOf u plan.choice plan) (sym same) (subst (λ (x : Choice). IsPlanOf s x plan) (sym made.choice) made)
