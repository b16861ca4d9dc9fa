-- What becomes of a delivery: the handler, and where it isn't fine its callbacks.
use Rattle.std.specs.Prelude.{ℕ, List, [], Option, Some, None, find, bytes_eq, slice_get}
use Rattle.slee_value.specs.declared.ids.EntityId.{EntityId}
use Rattle.slee_value.specs.declared.ids.ActivityId.{ActivityId}
use Rattle.slee_value.specs.declared.value.Value.{Value}
use Rattle.script_meaning.specs.declared.key.Key.{Key}
use Rattle.slee_effect.specs.declared.effect.Effect.{Effect}
use Rattle.script_meaning.specs.declared.outcome.Args.{Args}
use Rattle.script_meaning.specs.declared.outcome.Outcome.{Outcome}
use Rattle.script_meaning.specs.declared.outcome.Outcome.TheVariants as o
use Rattle.script_types.specs.Program.{Program, HandlerProgram, BlockProgram, Steps}
use Rattle.script_meaning.specs.Answers.{Answers}
use Rattle.script_meaning.specs.Meaning.{Before, nothing_before, Report, Meaning, Done, Need, Unchecked, meaning_in}

-- How the handler and the callbacks ended, and the effects that stand.
pub record Delivered : Type 0 where
  pub outcome : Outcome
  pub exception : Option Outcome
  pub rolled_back : Option Outcome
  pub effects : List Effect

pub data Delivery : Type 0 where
  Complete : Delivered → Delivery
  Wants : Key → Delivery
  NotChecked : Delivery

-- the report of a run, if it came to one
abbrev pub reported : Meaning → (Report → Delivery) → Delivery
reported (Done report) g = g report
reported (Need key) g = Wants key
reported Unchecked g = NotChecked

-- a callback, which may be missing
abbrev pub run_callback : (Steps → Before → Meaning) → Option Steps → Before → (Option Report → Delivery) → Delivery
run_callback run None before g = g None
run_callback run (Some steps) before g = reported (run steps before) (λ report. g (Some report))

-- the exception callback runs where the handler failed, and not where it asked
abbrev pub on_failure : Outcome → Option Steps → Option Steps
on_failure (o.Broken kind) callback = callback
on_failure o.Asked callback = None
on_failure o.Fine callback = None

abbrev pub outcome_of : Option Report → Option Outcome
outcome_of None = None
outcome_of (Some report) = Some report.outcome

-- effects stand where the run was fine
abbrev pub fine_effects : Outcome → List Effect → List Effect
fine_effects o.Fine effects = effects
fine_effects o.Asked effects = []
fine_effects (o.Broken kind) effects = []

abbrev pub standing : Option Report → List Effect
standing None = []
standing (Some report) = fine_effects report.outcome report.effects

-- the callbacks of a handler that wasn't fine
abbrev pub called_back : (Steps → Before → Meaning) → BlockProgram → Report → Delivery
called_back run block handler =
    run_callback run (on_failure handler.outcome block.exception) (record { effects = handler.effects; keys = handler.keys }) (λ exception.
    run_callback run block.rolled_back nothing_before (λ rolled_back.
    Complete (record { outcome = handler.outcome; exception = outcome_of exception; rolled_back = outcome_of rolled_back; effects = standing rolled_back })))

abbrev pub behind : (List ℕ → Steps → Before → Meaning) → BlockProgram → Report → Outcome → Delivery
behind run block handler o.Fine = Complete (record { outcome = handler.outcome; exception = None; rolled_back = None; effects = handler.effects })
behind run block handler _ = called_back (run handler.failure) block handler

-- a callback gets the failure's text, and no fields
abbrev pub callback_args : ActivityId → List ℕ → Args
callback_args a failure = record { activity = a; fields = []; failure = failure }

-- a delivery of an event by a handler's steps
unfoldable pub delivered_by : Answers → Program → BlockProgram → Steps → EntityId → ActivityId → List (List ℕ × Value) → Delivery
delivered_by answers program block steps e a fields =
    reported (meaning_in answers program block steps e (record { activity = a; fields = fields; failure = [] }) nothing_before)
    (λ handler. behind (λ failure callback before. meaning_in answers program block callback e (callback_args a failure) before) block handler handler.outcome)

abbrev pub handled : Option Steps → (Steps → Delivery) → Delivery
handled None g = NotChecked
handled (Some steps) g = g steps

abbrev pub steps_in : Option HandlerProgram → Option Steps
steps_in None = None
steps_in (Some handler) = Some handler.steps

-- the handler of an event
abbrev pub handler_of : List ℕ → BlockProgram → Option Steps
handler_of event block = steps_in (find (λ h. bytes_eq h.event event) block.handlers)

abbrev pub with_block : Option BlockProgram → (BlockProgram → Delivery) → Delivery
with_block None g = NotChecked
with_block (Some block) g = g block

-- a delivery of an event to an entity of the block with that number
abbrev pub delivered : Answers → Program → ℕ → EntityId → ActivityId → List ℕ → List (List ℕ × Value) → Delivery
delivered answers program number e a event fields =
    with_block (slice_get program number) (λ block. handled (handler_of event block) (λ steps. delivered_by answers program block steps e a fields))
