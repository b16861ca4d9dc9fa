-- What a plan is, and when it is that of a choice in a state.
use Rattle.std.specs.Prelude.{◌≡◌, ◌≤◌, ℕ, List, [], Some, IsTrue, length}
use Rattle.std.specs.Option.{option_map_or}
use Rattle.trace_history.specs.declared.choice.Choice.{Choice}
use Rattle.router_state.specs.State.{State}
use Rattle.router_state.specs.Changes.{after_changes}
use Rattle.router_state.specs.Well.{IsClosed}
use Rattle.router_state.specs.declared.change.Change.{Change}
use Rattle.router_stores.specs.Making.{CanMakeAll}
use Rattle.router_steps.specs.Histories.{is_choice}
use Rattle.router_steps.specs.Payloads.{choice_in, payload}
use Rattle.router_steps.specs.Steps.{after, before_closing, is_enabled, lines_of_step, lines_of_subject, subject_of}
use Rattle.router_draft.specs.Drafts.{CanBeMade, DraftView, laid}
use Rattle.router_plans.specs.declared.limits.TheConstants.{PAYLOAD_LIMIT}

-- what contracts see of a plan
pub record PlanView : Type 0 where
  pub choice : Choice
  pub changes : List Change
  pub lines : List (List ℕ)
  pub payload : List ℕ

-- The plan is that of this choice, which may be made in this state.
pub record IsPlanOf (s : State) (c : Choice) (plan : PlanView) : Type 0 where
  pub choice : plan.choice ≡ c
  pub valid : IsTrue (is_choice c)
  pub enabled : IsTrue (is_enabled s c)
  pub changes : after_changes plan.changes s ≡ after s c
  pub made : CanMakeAll plan.changes s
  pub lines : plan.lines ≡ lines_of_step s c
  pub payload : plan.payload ≡ payload 2 s c
  pub again : choice_in 2 plan.payload ≡ Some c
  pub short : length plan.payload ≤ PAYLOAD_LIMIT
  -- what the step leaves is closed again
  pub closed : IsClosed (after s c)

-- the lines of a step before those of closing
abbrev pub lines_before_closing : State → Choice → List (List ℕ)
lines_before_closing s c = option_map_or (λ x. lines_of_subject x s) (subject_of s c) []

-- The draft does and tells what the choice does and tells before closing, and the bytes are what the journal keeps of it.
pub record IsBegun (s : State) (c : Choice) (draft : DraftView) (bytes : List ℕ) : Type 0 where
  pub state : laid s draft ≡ before_closing s c
  pub made : CanBeMade s draft
  pub lines : draft.lines ≡ lines_before_closing s c
  pub payload : bytes ≡ payload 2 s c
  pub again : choice_in 2 bytes ≡ Some c
  pub short : length bytes ≤ PAYLOAD_LIMIT
