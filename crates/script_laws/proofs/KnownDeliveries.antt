-- What stands of a delivery refers to what is known.
use Rattle.std.proofs.Common.{◌≡◌, ℕ, List, [], Option, Some, None, refl}
use Rattle.slee_value.specs.declared.ids.EntityId.{EntityId}
use Rattle.slee_value.specs.declared.ids.ActivityId.{ActivityId}
use Rattle.slee_value.specs.declared.value.Value.{Value}
use Rattle.slee_effect.specs.declared.effect.Effect.{Effect}
use Rattle.script_types.specs.Program.{Steps, BlockProgram, Program}
use Rattle.script_meaning.specs.declared.outcome.Outcome.{Outcome}
use Rattle.script_meaning.specs.declared.outcome.Outcome.TheVariants as o
use Rattle.script_meaning.specs.Answers.{Answers}
use Rattle.script_meaning.specs.Meaning.{Before, nothing_before, Report, Meaning, Done, Need, Unchecked, meaning_in}
use Rattle.script_meaning.specs.Delivery.{Delivery, Complete, Wants, NotChecked, reported, run_callback, on_failure, fine_effects, standing, called_back, behind, callback_args, delivered_by}
use Rattle.script_laws.specs.References.{Reference, Refer}

module _ (known : Reference → Type 0) where
  -- the effects that stand refer to what is known
  abbrev pub DeliveryRefers : Delivery → Type 0
  DeliveryRefers (Complete delivered) = Refer known delivered.effects
  DeliveryRefers (Wants key) = Unit {0}
  DeliveryRefers NotChecked = Unit {0}

  reported_refers : (m : Meaning) (g : Report → Delivery) → ((report : Report) → m ≡ Done report → DeliveryRefers (g report)) → DeliveryRefers (reported m g)
  reported_refers (Done report) g go = go report refl
  reported_refers (Need key) g go = tt
  reported_refers Unchecked g go = tt

  -- what a callback did refers to what is known
  abbrev Leaves : Option Report → Type 0
  Leaves None = Unit {0}
  Leaves (Some report) = Refer known report.effects

  -- a callback that may be run does what is known where nothing was done before
  abbrev Runs : (Steps → Before → Meaning) → Option Steps → Type 0
  Runs run None = Unit {0}
  Runs run (Some steps) = (report : Report) → run steps nothing_before ≡ Done report → Refer known report.effects

  any_callback : (run : Steps → Before → Meaning) (steps : Option Steps) (before : Before) (g : Option Report → Delivery) → ((report : Option Report) → DeliveryRefers (g report)) → DeliveryRefers (run_callback run steps before g)
  any_callback run None before g go = go None
  any_callback run (Some steps) before g go = reported_refers (run steps before) (λ report. g (Some report)) (λ report _. go (Some report))

  callback_refers : (run : Steps → Before → Meaning) (steps : Option Steps) (g : Option Report → Delivery) → Runs run steps → ((report : Option Report) → Leaves report → DeliveryRefers (g report)) → DeliveryRefers (run_callback run steps nothing_before g)
  callback_refers run None g runs go = go None tt
  callback_refers run (Some steps) g runs go = reported_refers (run steps nothing_before) (λ report. g (Some report)) (λ report e. go (Some report) (runs report e))

  stands : (outcome : Outcome) (effects : List Effect) → Refer known effects → Refer known (fine_effects outcome effects)
  stands o.Fine effects h = h
  stands o.Asked effects h = tt
  stands (o.Broken kind) effects h = tt

  left_standing : (report : Option Report) → Leaves report → Refer known (standing report)
  left_standing None h = tt
  left_standing (Some report) h = stands report.outcome report.effects h

  called_back_refers : (run : Steps → Before → Meaning) (block : BlockProgram) (handler : Report) → Runs run block.rolled_back → DeliveryRefers (called_back run block handler)
  called_back_refers run block handler runs = any_callback run (on_failure handler.outcome block.exception) (record { effects = handler.effects; keys = handler.keys }) _ (λ exception.
      callback_refers run block.rolled_back _ runs (λ rolled_back left. left_standing rolled_back left))

  pub behind_refers : (run : List ℕ → Steps → Before → Meaning) (block : BlockProgram) (handler : Report) (outcome : Outcome) → Refer known handler.effects → ((failure : List ℕ) → Runs (run failure) block.rolled_back) → DeliveryRefers (behind run block handler outcome)
  behind_refers run block handler o.Fine h runs = h
  behind_refers run block handler o.Asked h runs = called_back_refers (run handler.failure) block handler (runs handler.failure)
  behind_refers run block handler (o.Broken kind) h runs = called_back_refers (run handler.failure) block handler (runs handler.failure)

  pub runs_by : (run : Steps → Before → Meaning) (script : Option Steps) → ((steps : Steps) (report : Report) → script ≡ Some steps → run steps nothing_before ≡ Done report → Refer known report.effects) → Runs run script
  runs_by run None h = tt
  runs_by run (Some steps) h = λ report e. h steps report refl e

  -- a delivery by a handler and a rolled-back callback that do what is known
  pub delivery_refers : (answers : Answers) (program : Program) (block : BlockProgram) (steps : Steps) (e : EntityId) (a : ActivityId) (fields : List (List ℕ × Value)) →
      ((report : Report) → meaning_in answers program block steps e (record { activity = a; fields = fields; failure = [] }) nothing_before ≡ Done report → Refer known report.effects) →
      ((failure : List ℕ) → Runs (λ callback before. meaning_in answers program block callback e (callback_args a failure) before) block.rolled_back) → DeliveryRefers (delivered_by answers program block steps e a fields)
  unfolding delivered_by
  delivery_refers answers program block steps e a fields handled runs = reported_refers (meaning_in answers program block steps e (record { activity = a; fields = fields; failure = [] }) nothing_before) _ (λ handler is.
      behind_refers (λ failure callback before. meaning_in answers program block callback e (callback_args a failure) before) block handler handler.outcome (handled handler is) runs)
