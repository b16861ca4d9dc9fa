-- What was begun for a choice and then closed is a plan of it.
use Rattle.std.proofs.Common.{◌≡◌, ◌≤◌, ℕ, List, ◌++◌, Some, IsTrue, length, sym, ◌∙◌, ap, subst}
use Rattle.trace_history.specs.declared.choice.Choice.{Choice}
use Rattle.router_state.specs.State.{State}
use Rattle.router_state.specs.Changes.{after_changes}
use Rattle.router_state.specs.Ordered.{IsOrdered}
use Rattle.router_state.specs.declared.change.Change.{Change}
use Rattle.router_stores.specs.Making.{CanMakeAll}
use Rattle.router_steps.specs.Closing.{closing, lines_of_closing}
use Rattle.router_steps.specs.Histories.{is_choice}
use Rattle.router_steps.specs.Payloads.{choice_in}
use Rattle.router_steps.specs.Steps.{after, before_closing, is_enabled}
use Rattle.router_draft.specs.Drafts.{AreTrees, CanBeMade, DraftView, laid}
use Rattle.router_plans.specs.Plans.{IsBegun, IsPlanOf, PlanView, lines_before_closing}
use Rattle.router_plans.specs.declared.limits.TheConstants.{PAYLOAD_LIMIT}
use Rattle.router_plans.proofs.ClosedLemmas.{leaves_closed}

pub planned : (s : State) (c : Choice) (draft closed : DraftView) (bytes : List ℕ) (plan : PlanView) → IsTrue (is_choice c) → IsTrue (is_enabled s c)
    → IsBegun s c draft bytes → AreTrees s → IsOrdered s
    → laid s closed ≡ closing (laid s draft) → closed.lines ≡ draft.lines ++ lines_of_closing (laid s draft) → CanBeMade s closed
    → plan.choice ≡ c → plan.changes ≡ closed.changes → plan.lines ≡ closed.lines → plan.payload ≡ bytes → IsPlanOf s c plan
planned s c draft closed bytes plan valid enabled is trees ordered state lines made own all told paid =
    let led : laid s closed ≡ after s c = state ∙ ap closing is.state in
    record {
      choice = own;
      valid = valid;
      enabled = enabled;
      changes = ap (λ (cs : List Change). after_changes cs s) all ∙ led;
      made = subst (λ (cs : List Change). CanMakeAll cs s) (sym all) made;
      lines = told ∙ lines ∙ ap (λ (some : List (List ℕ)). some ++ lines_of_closing (laid s draft)) is.lines ∙ ap (λ (t : State). lines_before_closing s c ++ lines_of_closing t) is.state;
      payload = paid ∙ is.payload;
      again = subst (λ (own : List ℕ). choice_in 2 own ≡ Some c) (sym paid) is.again;
      short = subst (λ (own : List ℕ). length own ≤ PAYLOAD_LIMIT) (sym paid) is.short;
      closed = leaves_closed draft.changes s (before_closing s c) is.state is.made trees ordered;
    }
