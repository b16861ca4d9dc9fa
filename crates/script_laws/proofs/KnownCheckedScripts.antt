-- Scripts and deliveries of checked programs refer to what is known.
use Rattle.std.proofs.Common.{◌≡◌, Bool, true, false, cond, ℕ, zero, suc, List, [], ◌∷◌, ◌++◌, Option, Some, None, Ok, refl, ◌∙◌, subst}
use Rattle.std.specs.Prelude.{slice_get, find, bytes_eq}
use Rattle.std.specs.List.{AllByRecursion, list_any}
use Rattle.std.proofs.lemmas.List.Folds.{list_any-append}
use Rattle.slee_value.specs.declared.ids.EntityId.{EntityId}
use Rattle.slee_value.specs.declared.ids.ActivityId.{ActivityId}
use Rattle.slee_value.specs.declared.value.Value.{Value}
use Rattle.script_types.specs.Codes.{Codes}
use Rattle.script_types.specs.Program.{Steps, HandlerProgram, BlockProgram, Program}
use Rattle.script_types.specs.Programs.{program_of}
use Rattle.script_meaning.specs.declared.key.Key.{Key}
use Rattle.script_meaning.specs.declared.key.Key.TheVariants as keys
use Rattle.script_meaning.specs.declared.seen.Seen.{Seen}
use Rattle.script_meaning.specs.declared.outcome.Args.{Args}
use Rattle.script_meaning.specs.declared.which.Part.{Part}
use Rattle.script_meaning.specs.declared.which.Part.TheVariants as part
use Rattle.script_meaning.specs.Seeing.{same_key}
use Rattle.script_meaning.specs.Answers.{Answers}
use Rattle.script_meaning.specs.Meaning.{Before, nothing_before, Report, Done, setting_of, meaning_in, steps_of_handler, script_in}
use Rattle.script_meaning.specs.Delivery.{Delivered, Complete, callback_args, delivered_by, steps_in, handler_of}
use Rattle.script_laws.proofs.LikeMeaning.{meaning_depends}
use Rattle.script_laws.specs.References.{Reference, Refer}
use Rattle.script_laws.specs.Told.{in_answer, HasGiven, HasAnswers}
use Rattle.script_laws.proofs.KnownRuns.{Told}
use Rattle.script_laws.proofs.KnownConstants.{OfSteps, OfScript, OfBlock, OfProgram}
use Rattle.script_laws.proofs.KnownCalls.{block_at, meaning_refers}
use Rattle.script_laws.proofs.KnownChecked.{HasConstants}
use Rattle.script_laws.proofs.KnownCheckedSteps.{program_is}
use Rattle.script_laws.proofs.KnownDeliveries.{DeliveryRefers, delivery_refers, runs_by}

-- no answer tells of nothing
none_told : (known : Reference → Type 0) (key : Key) → AllByRecursion known (in_answer key None)
none_told known (keys.Next a) = tt
none_told known (keys.Field e x) = tt
none_told known (keys.Children e x) = tt
none_told known (keys.Priority e) = tt
none_told known (keys.AcState a) = tt
none_told known (keys.Attr a x) = tt
none_told known (keys.Attached e a) = tt
none_told known (keys.Mask e a) = tt
none_told known (keys.Named x) = tt
none_told known (keys.Timer t) = tt
none_told known (keys.Profile t x) = tt
none_told known keys.Now = tt
none_told known (keys.Activities e) = tt

-- the answers to these keys alone
abbrev only : List Key → Answers → Answers
only read answers key = cond (list_any (same_key key) read) (answers key) None

only_told : (known : Reference → Type 0) (key : Key) (b : Bool) (seen : Option Seen) → (b ≡ true → AllByRecursion known (in_answer key seen)) → AllByRecursion known (in_answer key (cond b seen None))
only_told known key true seen h = h refl
only_told known key false seen h = none_told known key

taken : {A : Type 0} (b : Bool) (x y : A) → b ≡ true → x ≡ cond b x y
taken true x y h = refl
taken false x y h = cc

handler_at : (known : Reference → Type 0) (handlers : List HandlerProgram) (place : ℕ) (steps : Steps) → AllByRecursion (λ (h : HandlerProgram). OfSteps known h.steps) handlers → steps_of_handler (slice_get handlers place) ≡ Some steps → OfSteps known steps
handler_at known [] place steps h e = cc
handler_at known (x ∷ handlers) zero steps h e = subst (OfScript known) e h.0
handler_at known (x ∷ handlers) (suc place) steps h e = handler_at known handlers place steps h.1 e

script_at : (known : Reference → Type 0) (block : BlockProgram) (which : Part) (steps : Steps) → OfBlock known block → script_in block which ≡ Some steps → OfSteps known steps
script_at known block (part.On place) steps h e = handler_at known block.handlers place steps h.0 e
script_at known block part.Exception steps h e = subst (OfScript known) e h.2
script_at known block part.RolledBack steps h e = subst (OfScript known) e h.3
script_at known block part.Remove steps h e = subst (OfScript known) e h.4

constants_of : (known : Reference → Type 0) (all : Codes) (e : EntityId) (arguments : Args) → HasGiven known all e arguments → HasConstants known all
constants_of known all e arguments given = record { no_activity = given.no_activity; no_timer = given.no_timer; tables = given.tables }

told_of : (known : Reference → Type 0) (all : Codes) (answers : Answers) (block : BlockProgram) (e : EntityId) (arguments : Args) (before : Before) → HasGiven known all e arguments → ((key : Key) → AllByRecursion known (in_answer key (answers key))) → Told known (setting_of answers block e arguments before)
told_of known all answers block e arguments before given answered = record { activity = given.activity; fields = given.fields; no_activity = given.no_activity; no_timer = given.no_timer; answers = answered }

-- A script of a checked program refers to what is known, wherever all that it is told is among that.
pub script_refers : (known : Reference → Type 0) (all : Codes) (program : Program) (answers : Answers) (number : ℕ) (block : BlockProgram) (which : Part) (steps : Steps) (e : EntityId) (arguments : Args) (before : Before) (report : Report) → program_of all ≡ Ok program → slice_get program number ≡ Some block → script_in block which ≡ Some steps → HasGiven known all e arguments → Refer known before.effects →
    meaning_in answers program block steps e arguments before ≡ Done report → HasAnswers known answers (before.keys ++ report.keys) → Refer known (before.effects ++ report.effects)
script_refers known all program answers number block which steps e arguments before report made there is given earlier done answered =
    let of : OfProgram known program = program_is known all (constants_of known all e arguments given) program made in
    let some : OfSteps known steps = script_at known block which steps (block_at known program number block of there) is in
    let read : List Key = before.keys ++ report.keys in
    meaning_refers known (only read answers) program block steps e arguments before report of some
    (told_of known all (only read answers) block e arguments before given (λ key. only_told known key (list_any (same_key key) read) (answers key) (answered key))) given.entity earlier
    (meaning_depends answers (only read answers) program block steps e arguments before report done (λ key h. taken (list_any (same_key key) read) (answers key) None (list_any-append (same_key key) before.keys report.keys ∙ h)))

handler_by : (b : Bool) (x : HandlerProgram) (handlers : List HandlerProgram) (steps : Steps) (rest : Option HandlerProgram) → steps_in (cond b (Some x) rest) ≡ Some steps → (steps_in rest ≡ Some steps → (place : ℕ) × (steps_of_handler (slice_get handlers place) ≡ Some steps)) → (place : ℕ) × (steps_of_handler (slice_get (x ∷ handlers) place) ≡ Some steps)
handler_by true x handlers steps rest h go = (0, h)
handler_by false x handlers steps rest h go = let r = go h in (suc r.0, r.1)

-- the handler of an event stands in a place
handler_place : (event : List ℕ) (handlers : List HandlerProgram) (steps : Steps) → steps_in (find (λ h. bytes_eq h.event event) handlers) ≡ Some steps → (place : ℕ) × (steps_of_handler (slice_get handlers place) ≡ Some steps)
handler_place event [] steps h = cc
handler_place event (x ∷ handlers) steps h = handler_by (bytes_eq x.event event) x handlers steps (find (λ h. bytes_eq h.event event) handlers) h (λ g. handler_place event handlers steps g)

-- and what stands of a delivery does.
pub delivered_refers : (known : Reference → Type 0) (all : Codes) (program : Program) (answers : Answers) (number : ℕ) (block : BlockProgram) (steps : Steps) (e : EntityId) (a : ActivityId) (event : List ℕ) (fields : List (List ℕ × Value)) (delivered : Delivered) → program_of all ≡ Ok program → slice_get program number ≡ Some block → handler_of event block ≡ Some steps → HasGiven known all e (record { activity = a; fields = fields; failure = [] }) →
    ((key : Key) → AllByRecursion known (in_answer key (answers key))) → delivered_by answers program block steps e a fields ≡ Complete delivered → Refer known delivered.effects
delivered_refers known all program answers number block steps e a event fields delivered made there is given answered done =
    let p = handler_place event block.handlers steps is in
    subst (DeliveryRefers known) done (delivery_refers known answers program block steps e a fields
    (λ report run. script_refers known all program answers number block (part.On p.0) steps e (record { activity = a; fields = fields; failure = [] }) nothing_before report made there p.1 given tt run (λ key _. answered key))
    (λ failure. runs_by known (λ callback before. meaning_in answers program block callback e (callback_args a failure) before) block.rolled_back (λ callback report same run.
    script_refers known all program answers number block part.RolledBack callback e (callback_args a failure) nothing_before report made there same (record { entity = given.entity; activity = given.activity; fields = tt; no_activity = given.no_activity; no_timer = given.no_timer; tables = given.tables }) tt run (λ key _. answered key))))
