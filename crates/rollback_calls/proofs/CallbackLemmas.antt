-- A delivery by the numbers of its scripts is the one of the definition.
use Rattle.std.proofs.Common.{◌≡◌, ◌≤◌, ℕ, List, [], length, Option, Some, None, true, false, is_some, refl, sym, ap, ◌∙◌, subst}
use native.Mathlib.Omega.{arith}
use Rattle.std.specs.Prelude.{slice_get, option_and_then}
use Rattle.slee_value.specs.declared.ids.EntityId.{EntityId}
use Rattle.slee_value.specs.declared.ids.ActivityId.{ActivityId}
use Rattle.slee_value.specs.declared.value.Value.{Value}
use Rattle.script_meaning.specs.declared.outcome.Args.{Args}
use Rattle.script_meaning.specs.declared.outcome.Outcome.{Outcome}
use Rattle.script_meaning.specs.declared.outcome.Outcome.TheVariants as o
use Rattle.script_meaning.specs.declared.which.Part.{Part}
use Rattle.script_meaning.specs.declared.which.Part.TheVariants as part
use Rattle.script_meaning.specs.declared.which.Which.{Which}
use Rattle.script_types.specs.declared.codes.Codes.{Codes as CodesInMemory}
use Rattle.script_types.specs.CodesOf.{codes_of}
use Rattle.script_types.specs.ProgramOf.{IsChecked, kept_program}
use Rattle.script_types.specs.Program.{Program, BlockProgram, Steps}
use Rattle.script_meaning.specs.Answers.{Answers}
use Rattle.script_meaning.specs.Running.{effect_limit, key_limit}
use Rattle.script_meaning.specs.Meaning.{Before, nothing_before, Report, Meaning, Done, Need, Unchecked, script_in, meaning_in, meaning_with, meaning_of, meaning}
use Rattle.script_meaning.specs.Delivery.{Delivery, Complete, Wants, NotChecked, reported, run_callback, on_failure, outcome_of, standing, called_back, behind, callback_args, delivered_by, handled, handler_of, with_block, delivered}
use Rattle.script_laws.specs.Fitting.{IsSound}
use Rattle.script_laws.proofs.SafeCalls.{meaning_is_sound}
use Rattle.handler_run.specs.Scripts.{script_of_block, script_of}
use Rattle.rollback_calls.specs.Callbacks.{if_there, callback_over, exception_over, behind_callback, ended_by, rolled_back_over, called_back_over, behind_handler}
use Rattle.rollback_calls.specs.Deliveries.{handler_in, Handles}

pub there : (o : Option Steps) → is_some o ≡ true → (steps : Steps) × (o ≡ Some steps)
there None h = absurd (cc)
there (Some steps) h = (steps, refl)

pub missing : (o : Option Steps) (m : Meaning) → is_some o ≡ false → if_there o m ≡ None
missing None m h = refl
missing (Some steps) m h = absurd (cc)

pub present : (o : Option Steps) (m : Meaning) → is_some o ≡ true → if_there o m ≡ Some m
present None m h = absurd (cc)
present (Some steps) m h = refl

-- reports that go on alike
reported_alike : (m : Meaning) (f g : Report → Delivery) → ((q : Report) → f q ≡ g q) → reported m f ≡ reported m g
reported_alike (Done q) f g h = h q
reported_alike (Need key) f g h = refl
reported_alike Unchecked f g h = refl

module _ (answers : Answers) (program : Program) (number : ℕ) (block : BlockProgram) (e : EntityId) (arguments : Args) (is : slice_get program number ≡ Some block) where
  abbrev run : Steps → Before → Meaning
  run steps before = meaning_in answers program block steps e arguments before

  behind_if : (steps : Option Steps) (before : Before) (f g : Option Report → Delivery) → ((q : Option Report) → f q ≡ g q) → run_callback run steps before f ≡ behind_callback (if_there steps (meaning_with answers program block steps e arguments before)) g
  behind_if None before f g h = h None
  behind_if (Some steps) before f g h = reported_alike (run steps before) (λ q. f (Some q)) (λ q. g (Some q)) (λ q. h (Some q))

  callback_is : (which : Part) (before : Before) (f g : Option Report → Delivery) → ((q : Option Report) → f q ≡ g q) → run_callback run (script_in block which) before f ≡ behind_callback (callback_over answers program number e arguments which before) g
  callback_is which before f g h =
      behind_if (script_in block which) before f g h
      ∙ ap (λ x. behind_callback (if_there (script_of_block x (record { block = number; part = which })) (meaning_of answers program x which e arguments before)) g) (sym is)

  exception_is : (outcome : Outcome) (before : Before) (f g : Option Report → Delivery) → ((q : Option Report) → f q ≡ g q) → run_callback run (on_failure outcome block.exception) before f ≡ behind_callback (exception_over answers program number e arguments outcome before) g
  exception_is (o.Broken kind) before f g h = callback_is part.Exception before f g h
  exception_is o.Asked before f g h = h None
  exception_is o.Fine before f g h = h None

  called_back_is : (handler : Report) → called_back run block handler ≡ called_back_over answers program number e arguments handler.outcome (record { effects = handler.effects; keys = handler.keys })
  called_back_is handler =
      let last : Option Report → Option Report → Delivery = λ one other. Complete (record { outcome = handler.outcome; exception = outcome_of one; rolled_back = outcome_of other; effects = standing other }) in
      exception_is handler.outcome (record { effects = handler.effects; keys = handler.keys }) (λ one. run_callback run block.rolled_back nothing_before (last one)) (λ one. rolled_back_over answers program number e arguments handler.outcome (outcome_of one))
      (λ one. callback_is part.RolledBack nothing_before (last one) (ended_by handler.outcome (outcome_of one)) (λ other. refl))

callbacks_are : (answers : Answers) (program : Program) (number : ℕ) (block : BlockProgram) (e : EntityId) (a : ActivityId) (outcome : Outcome) (failure : List ℕ) (before : Before) → slice_get program number ≡ Some block → behind (λ failure callback before. meaning_in answers program block callback e (callback_args a failure) before) block (record { outcome = outcome; failure = failure; effects = before.effects; keys = before.keys }) outcome ≡ behind_handler answers program number e a (record { outcome = outcome; failure = failure; effects = before.effects; keys = before.keys }) outcome
callbacks_are answers program number block e a o.Fine failure before is = refl
callbacks_are answers program number block e a o.Asked failure before is = called_back_is answers program number block e (callback_args a failure) is (record { outcome = o.Asked; failure = failure; effects = before.effects; keys = before.keys })
callbacks_are answers program number block e a (o.Broken kind) failure before is = called_back_is answers program number block e (callback_args a failure) is (record { outcome = o.Broken kind; failure = failure; effects = before.effects; keys = before.keys })

behind_same : (answers : Answers) (program : Program) (number : ℕ) (block : BlockProgram) (e : EntityId) (a : ActivityId) (handler : Report) → slice_get program number ≡ Some block → behind (λ failure callback before. meaning_in answers program block callback e (callback_args a failure) before) block handler handler.outcome ≡ behind_handler answers program number e a handler handler.outcome
behind_same answers program number block e a handler is = callbacks_are answers program number block e a handler.outcome handler.failure (record { effects = handler.effects; keys = handler.keys }) is

block_of : (program : Program) (number : ℕ) (event : List ℕ) (steps : Steps) (x : Option BlockProgram) → slice_get program number ≡ x → option_and_then (handler_of event) x ≡ Some steps → (block : BlockProgram) × (slice_get program number ≡ Some block) × (handler_of event block ≡ Some steps)
block_of program number event steps None is h = cc
block_of program number event steps (Some block) is h = (block, is, h)

-- a script of a block that is there
pub runs_as : (answers : Answers) (program : Program) (which : Which) (e : EntityId) (arguments : Args) (before : Before) (block : BlockProgram) (steps : Steps) → slice_get program which.block ≡ Some block → script_of program which ≡ Some steps → meaning answers program which e arguments before ≡ meaning_in answers program block steps e arguments before
runs_as answers program which e arguments before block steps is there =
    ap (λ x. meaning_of answers program x which.part e arguments before) is
    ∙ ap (λ x. meaning_with answers program block x e arguments before) (sym (ap (λ x. script_of_block x which) is) ∙ there)

-- the delivery, behind its handler's run
pub delivery_is : (answers : Answers) (program : Program) (which : Which) (e : EntityId) (a : ActivityId) (event : List ℕ) (fields : List (List ℕ × Value)) → Handles program which.block event → script_of program which ≡ handler_in program which.block event →
    delivered answers program which.block e a event fields ≡ reported (meaning answers program which e (record { activity = a; fields = fields; failure = [] }) nothing_before) (λ handler. behind_handler answers program which.block e a handler handler.outcome)
unfolding delivered_by
delivery_is answers program which e a event fields handles same =
    let found = block_of program which.block event handles.0 (slice_get program which.block) refl handles.1 in
    let block : BlockProgram = found.0 in
    let steps : Steps = handles.0 in
    let arguments : Args = record { activity = a; fields = fields; failure = [] } in
    let own : Report → Delivery = λ handler. behind (λ failure callback before. meaning_in answers program block callback e (callback_args a failure) before) block handler handler.outcome in
    let whole : delivered answers program which.block e a event fields ≡ delivered_by answers program block steps e a fields =
    ap (λ x. with_block x (λ block. handled (handler_of event block) (λ steps. delivered_by answers program block steps e a fields))) found.1
    ∙ ap (λ x. handled x (λ steps. delivered_by answers program block steps e a fields)) found.2 in
    whole
    ∙ ap (λ m. reported m own) (sym (runs_as answers program which e arguments nothing_before block steps found.1 (same ∙ handles.1)))
    ∙ reported_alike (meaning answers program which e arguments nothing_before) own (λ handler. behind_handler answers program which.block e a handler handler.outcome) (λ handler. behind_same answers program which.block block e a handler found.1)

failure_less : (arguments : Args) → arguments.failure ≡ [] → arguments ≡ record { activity = arguments.activity; fields = arguments.fields; failure = [] }
failure_less arguments h = ap (λ t. record { activity = arguments.activity; fields = arguments.fields; failure = t }) h

-- what a handler means leads to what the delivery is
pub delivered_by_handler : (answers : Answers) (program : Program) (which : Which) (number : ℕ) (e : EntityId) (arguments : Args) (event : List ℕ) (before : Before) (m : Meaning) → Handles program number event → which.block ≡ number → script_of program which ≡ handler_in program number event → arguments.failure ≡ [] → before ≡ nothing_before → m ≡ meaning answers program which e arguments before →
    reported m (λ handler. behind_handler answers program number e arguments.activity handler handler.outcome) ≡ delivered answers program number e arguments.activity event arguments.fields
delivered_by_handler answers program which number e arguments event before m handles block script unfailed nothing is =
    let given : Args = record { activity = arguments.activity; fields = arguments.fields; failure = [] } in
    let one : Handles program which.block event = subst (λ n. Handles program n event) (sym block) handles in
    let two : script_of program which ≡ handler_in program which.block event = subst (λ n. script_of program which ≡ handler_in program n event) (sym block) script in
    let meant : m ≡ meaning answers program which e given nothing_before =
    is ∙ ap (λ x. meaning answers program which e x before) (failure_less arguments unfailed) ∙ ap (λ x. meaning answers program which e given x) nothing in
    subst (λ n. reported m (λ handler. behind_handler answers program n e arguments.activity handler handler.outcome) ≡ delivered answers program n e arguments.activity event arguments.fields) block
    (ap (λ x. reported x (λ handler. behind_handler answers program which.block e arguments.activity handler handler.outcome)) meant
    ∙ sym (delivery_is answers program which e arguments.activity event arguments.fields one two))

script_there : (program : Program) (which : Which) (steps : Steps) (x : Option BlockProgram) → slice_get program which.block ≡ x → script_of_block x which ≡ Some steps → (block : BlockProgram) × (slice_get program which.block ≡ Some block) × (script_in block which.part ≡ Some steps)
script_there program which steps None is h = cc
script_there program which steps (Some block) is h = (block, is, h)

-- a script that came to its end has no more effects and keys than it may
pub within_limits : (codes : CodesInMemory) (answers : Answers) (which : Which) (steps : Steps) (e : EntityId) (arguments : Args) (before : Before) (q : Report) → IsChecked codes → script_of (kept_program codes) which ≡ Some steps → before ≡ nothing_before → Done q ≡ meaning answers (kept_program codes) which e arguments before → (length q.effects ≤ effect_limit) × (length q.keys ≤ key_limit)
within_limits codes answers which steps e arguments before q made there nothing done =
    let program : Program = kept_program codes in
    let found = script_there program which steps (slice_get program which.block) refl there in
    let sound : IsSound answers nothing_before (meaning_in answers program found.0 steps e arguments nothing_before) = meaning_is_sound (codes_of codes) program made answers which.block found.0 which.part steps e arguments nothing_before found.1 found.2 (omega arith) in
    let same : meaning_in answers program found.0 steps e arguments nothing_before ≡ Done q =
    sym (runs_as answers program which e arguments nothing_before found.0 steps found.1 there) ∙ ap (λ x. meaning answers program which e arguments x) (sym nothing) ∙ sym done in
    let own : IsSound answers nothing_before (Done q) = subst (IsSound answers nothing_before) same sound in
    (own.0, omega (arith, own.2))
