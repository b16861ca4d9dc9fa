-- A delivery of an event by a checked program: the handler and its callbacks.
use Rattle.std.proofs.Common.{◌≡◌, ◌≤◌, true, false, Bool, ℕ, suc, List, [], ◌∷◌, length, Option, Some, None, Ok, refl}
use native.Mathlib.Omega.{arith}
use Rattle.std.specs.Prelude.{slice_get, cond, find, bytes_eq}
use Rattle.slee_value.specs.declared.ids.EntityId.{EntityId}
use Rattle.slee_value.specs.declared.ids.ActivityId.{ActivityId}
use Rattle.slee_value.specs.declared.value.Value.{Value}
use Rattle.slee_effect.specs.declared.effect.Effect.{Effect}
use Rattle.script_types.specs.Codes.{Codes}
use Rattle.script_types.specs.Program.{Steps, HandlerProgram, BlockProgram, Program}
use Rattle.script_types.specs.Programs.{program_of}
use Rattle.script_meaning.specs.declared.outcome.Outcome.{Outcome}
use Rattle.script_meaning.specs.declared.outcome.Outcome.TheVariants as o
use Rattle.script_meaning.specs.declared.which.Part.TheVariants as part
use Rattle.script_meaning.specs.Answers.{Answers}
use Rattle.script_meaning.specs.Running.{effect_limit, effect_bytes_limit, key_limit, bytes_of}
use Rattle.script_meaning.specs.Meaning.{Before, nothing_before, Report, Meaning, Done, Need, Unchecked, meaning_in, steps_of_handler}
use Rattle.script_meaning.specs.Delivery.{Delivery, reported, run_callback, on_failure, fine_effects, standing, called_back, behind, callback_args, delivered_by, steps_in, handler_of}
use Rattle.script_laws.specs.Fitting.{IsSound, IsSoundDelivery}
use Rattle.script_laws.proofs.SafeCalls.{meaning_is_sound}

reported_is : (answers : Answers) (before : Before) (m : Meaning) (g : Report → Delivery) → IsSound answers before m → ((report : Report) → IsSound answers before (Done report) → IsSoundDelivery answers (g report)) → IsSoundDelivery answers (reported m g)
reported_is answers before (Done report) g h go = go report h
reported_is answers before (Need key) g h go = h
reported_is answers before Unchecked g h go = absurd h

-- what a callback's report leaves to stand
abbrev Leaves : Answers → Before → Option Report → Type 0
Leaves answers before None = Unit {0}
Leaves answers before (Some report) = IsSound answers before (Done report)

-- scripts of a block that may be run
abbrev Runs : Answers → (Steps → Before → Meaning) → Option Steps → Type 0
Runs answers run None = Unit {0}
Runs answers run (Some steps) = (before : Before) → length before.keys ≤ key_limit → IsSound answers before (run steps before)

callback_is : (answers : Answers) (run : Steps → Before → Meaning) (steps : Option Steps) (before : Before) (g : Option Report → Delivery) → Runs answers run steps → length before.keys ≤ key_limit → ((report : Option Report) → Leaves answers before report → IsSoundDelivery answers (g report)) → IsSoundDelivery answers (run_callback run steps before g)
callback_is answers run None before g runs few go = go None tt
callback_is answers run (Some steps) before g runs few go = reported_is answers before (run steps before) (λ report. g (Some report)) (runs before few) (λ report h. go (Some report) h)

stands : (effects : List Effect) (outcome : Outcome) → length effects ≤ effect_limit → bytes_of effects ≤ effect_bytes_limit → (length (fine_effects outcome effects) ≤ effect_limit) × (bytes_of (fine_effects outcome effects) ≤ effect_bytes_limit)
stands effects o.Fine few short = (few, short)
stands effects o.Asked few short = (omega arith, omega arith)
stands effects (o.Broken kind) few short = (omega arith, omega arith)

left_standing : (answers : Answers) (before : Before) (report : Option Report) → Leaves answers before report → (length (standing report) ≤ effect_limit) × (bytes_of (standing report) ≤ effect_bytes_limit)
left_standing answers before None h = (omega arith, omega arith)
left_standing answers before (Some report) h = stands report.effects report.outcome h.0 h.1

failure_runs : (answers : Answers) (run : Steps → Before → Meaning) (outcome : Outcome) (callback : Option Steps) → Runs answers run callback → Runs answers run (on_failure outcome callback)
failure_runs answers run (o.Broken kind) callback runs = runs
failure_runs answers run o.Asked callback runs = tt
failure_runs answers run o.Fine callback runs = tt

few_keys : (first : Before) (report : Report) (answers : Answers) → IsSound answers first (Done report) → length report.keys ≤ key_limit
few_keys first report answers h = omega (arith, h.2)

called_back_is : (answers : Answers) (run : Steps → Before → Meaning) (block : BlockProgram) (first : Before) (handler : Report) → IsSound answers first (Done handler) → Runs answers run block.exception → Runs answers run block.rolled_back → IsSoundDelivery answers (called_back run block handler)
called_back_is answers run block first handler h exception rolled_back =
    callback_is answers run (on_failure handler.outcome block.exception) (record { effects = handler.effects; keys = handler.keys }) _ (failure_runs answers run handler.outcome block.exception exception) (few_keys first handler answers h) (λ one k.
    callback_is answers run block.rolled_back nothing_before _ rolled_back (omega arith) (λ other l. left_standing answers nothing_before other l))

behind_is : (answers : Answers) (run : List ℕ → Steps → Before → Meaning) (block : BlockProgram) (first : Before) (handler : Report) (outcome : Outcome) → IsSound answers first (Done handler) → ((failure : List ℕ) → Runs answers (run failure) block.exception × Runs answers (run failure) block.rolled_back) → IsSoundDelivery answers (behind run block handler outcome)
behind_is answers run block first handler o.Fine h runs = (h.0, h.1)
behind_is answers run block first handler o.Asked h runs = called_back_is answers (run handler.failure) block first handler h (runs handler.failure).0 (runs handler.failure).1
behind_is answers run block first handler (o.Broken kind) h runs = called_back_is answers (run handler.failure) block first handler h (runs handler.failure).0 (runs handler.failure).1

runs_by : (answers : Answers) (run : Steps → Before → Meaning) (script : Option Steps) → ((steps : Steps) (before : Before) → script ≡ Some steps → length before.keys ≤ key_limit → IsSound answers before (run steps before)) → Runs answers run script
runs_by answers run None h = tt
runs_by answers run (Some steps) h = λ before few. h steps before refl few

handler_by : (event : List ℕ) (x : HandlerProgram) (handlers : List HandlerProgram) (steps : Steps) (b : Bool) (rest : Option HandlerProgram) → steps_in (cond b (Some x) rest) ≡ Some steps → (steps_in rest ≡ Some steps → (place : ℕ) × (steps_of_handler (slice_get handlers place) ≡ Some steps)) → (place : ℕ) × (steps_of_handler (slice_get (x ∷ handlers) place) ≡ Some steps)
handler_by event x handlers steps true rest h go = (0, h)
handler_by event x handlers steps false rest h go = let r = go h in (suc r.0, r.1)

-- the first handler of an event stands in a place
pub handler_place : (event : List ℕ) (handlers : List HandlerProgram) (steps : Steps) → steps_in (find (λ h. bytes_eq h.event event) handlers) ≡ Some steps → (place : ℕ) × (steps_of_handler (slice_get handlers place) ≡ Some steps)
handler_place event [] steps h = cc
handler_place event (x ∷ handlers) steps h = handler_by event x handlers steps (bytes_eq x.event event) (find (λ h. bytes_eq h.event event) handlers) h (λ g. handler_place event handlers steps g)

-- what a delivery to an entity of a checked block comes to
pub delivery_is_sound : (all : Codes) (program : Program) → program_of all ≡ Ok program → (answers : Answers) (number : ℕ) (block : BlockProgram) (steps : Steps) (e : EntityId) (a : ActivityId) (event : List ℕ) (fields : List (List ℕ × Value)) → slice_get program number ≡ Some block → handler_of event block ≡ Some steps → IsSoundDelivery answers (delivered_by answers program block steps e a fields)
unfolding delivered_by
delivery_is_sound all program made answers number block steps e a event fields there is =
    let p = handler_place event block.handlers steps is in
    reported_is answers nothing_before _ _ (meaning_is_sound all program made answers number block (part.On p.0) steps e (record { activity = a; fields = fields; failure = [] }) nothing_before there p.1 (omega arith)) (λ handler h.
    behind_is answers (λ failure callback before. meaning_in answers program block callback e (callback_args a failure) before) block nothing_before handler handler.outcome h (λ failure. (
      runs_by answers (λ callback before. meaning_in answers program block callback e (callback_args a failure) before) block.exception (λ callback before same few. meaning_is_sound all program made answers number block part.Exception callback e (callback_args a failure) before there same few),
      runs_by answers (λ callback before. meaning_in answers program block callback e (callback_args a failure) before) block.rolled_back (λ callback before same few. meaning_is_sound all program made answers number block part.RolledBack callback e (callback_args a failure) before there same few),
    )))
