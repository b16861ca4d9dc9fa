-- A whole step: what it does to queues and marks, and what its lines tell of it.
use Rattle.router_laws_histories.specs.Words.{fires_of_subject}
use Rattle.std.proofs.Common.{◌≡◌, ℕ, ◌==◌, true, List, [], ◌∷◌, ◌++◌, map, refl, sym, subst, inl, inr, arith, if◌then◌else◌, Option, Some, None}
use Rattle.std.specs.Prelude.{codes, decimal, option_map}
use Rattle.std.specs.Option.{option_map_or}
use Rattle.std.proofs.lemmas.Bool.{cases_Bool}
use Rattle.slee_value.specs.declared.convergence.ConvName.{ConvName}
use Rattle.script_meaning.specs.declared.outcome.Outcome.{Outcome}
use Rattle.signal_script.specs.Signals.{spelled}
use Rattle.router_laws.proofs.Queues.{AreEventsBelow, popped_here, popped_elsewhere, popped_below}
use Rattle.router_laws_histories.proofs.Reading.{quiet_verb}
use Rattle.router_laws_histories.specs.Fires.{Firing, fires_of_closing}
use Rattle.router_laws_histories.proofs.Growing.{told_on, Grows, grows_then, quietly, quiet_one, quiet_more, quiet_if, SameQueues, same_then, same_if}
use Rattle.router_laws_histories.proofs.Stepping.{effects_grow, closing_grows, taken_grows, attached_grows, same_with_root, same_dropped}
use Rattle.script_types.specs.declared.codes.FieldCode.{FieldCode}
use Rattle.deploy_model.specs.Deployed.{DeployedService, service_at, service_key, block_fields}
use Rattle.router_state.specs.State.{State}
use Rattle.router_state.specs.Changes.{after_change, after_changes}
use Rattle.router_state.specs.Queues.{queue, head_event, without_head}
use Rattle.router_state.specs.declared.change.Change.TheVariants as changes
use Rattle.router_state.specs.declared.rows.Event.{Event}
use Rattle.router_steps.specs.Closing.{closing, lines_of_closing}
use Rattle.router_steps.specs.Creating.{with_root, root_of}
use Rattle.router_steps.specs.Applying.{applied_in, done_effects, lines_of_done_effects}
use Rattle.router_steps.specs.Lines.{input_heading, initial_heading, initial_none_heading, deliver_heading, finish_heading, exception_line, rolled_back_line, gone_line, outcome_words}
use Rattle.router_steps.specs.Moves.{attached, lines_of_attached, dropped}
use Rattle.router_steps.specs.Steps.{Subject, Taking, Selecting, Delivering, Finishing, Root, NoRoot, OldRoot, NewRoot, Due, Finish, after_subject, subject_of, lines_of_subject, lines_of_root, lines_of_finish, line_of_callback, with_root_attached, marked_service, marked_entity, finished, is_end, due_at, delivery_at, finish_at}
use Rattle.router_steps.specs.Values.{unset}
use Rattle.trace_history.specs.Reading.{queued_by}
use Rattle.trace_history.specs.Words.{words_in}
use Rattle.trace_history.specs.declared.choice.Choice.{Choice}
use Rattle.trace_history.specs.declared.choice.Choice.TheVariants as choices

-- the state in which a step begins to put events on queues: the entity is marked, or the head event is gone
abbrev pub begun : Subject → State → State
begun (Taking signal action) s = s
begun (Selecting x) s = s
begun (Delivering x) s = marked_entity x s
begun (Finishing x) s = finished x s

-- the event that goes
abbrev pub gone_on : ℕ → Subject → List Event
gone_on a (Taking signal action) = []
gone_on a (Selecting x) = []
gone_on a (Delivering x) = []
gone_on a (Finishing x) = if x.activity == a then x.event ∷ [] else []

-- what a step is about is as it was looked up
abbrev pub IsLookedUp : Subject → State → Type 0
IsLookedUp (Taking signal action) s = Unit {0}
IsLookedUp (Selecting x) s = Unit {0}
IsLookedUp (Delivering x) s = Unit {0}
IsLookedUp (Finishing x) s = head_event s.events x.activity ≡ Some x.event

pub some_same : {X : Type 0} {x y : X} → Some x ≡ Some y → x ≡ y
some_same same = cc

pub mapped_some : {X Y : Type 0} (P : Y → Type 0) (f : X → Y) (o : Option X) (y : Y) → option_map f o ≡ Some y → ((x : X) → o ≡ Some x → P (f x)) → P y
mapped_some P f None y is each = absurd (cc)
mapped_some P f (Some x) y is each = subst P (some_same is) (each x refl)

pub looked_up : (s : State) (c : Choice) (x : Subject) → subject_of s c ≡ Some x → IsLookedUp x s
looked_up s (choices.Input signal) x is = subst (λ y. IsLookedUp y s) (some_same is) tt
looked_up s (choices.Initial a) x is = mapped_some (λ y. IsLookedUp y s) Selecting (due_at s a.0) x is (λ due found. tt)
looked_up s (choices.Deliver a) x is = mapped_some (λ y. IsLookedUp y s) Delivering (delivery_at s a.0) x is (λ receipt found. tt)
looked_up s (choices.Finish a) x is =
    mapped_some (λ y. IsLookedUp y s) Finishing (finish_at s a.0) x is
    (λ y found. mapped_some (λ (z : Finish). head_event s.events z.activity ≡ Some z.event) _ (head_event s.events a.0) y found (λ v is. is))

-- lines

quiet_callback : (a : ℕ) (line : Outcome → List ℕ) → ((o : Outcome) → queued_by a (words_in (line o)) ≡ []) → (o : Option Outcome) → told_on a (line_of_callback line o) ≡ []
quiet_callback a line each None = refl
quiet_callback a line each (Some outcome) = quiet_one a (line outcome) (each outcome)

quiet_exception : (a : ℕ) (o : Outcome) → queued_by a (words_in (exception_line o)) ≡ []
quiet_exception a o = quiet_verb a (codes "exception") (words_in (outcome_words o)) refl

quiet_rolled_back : (a : ℕ) (o : Outcome) → queued_by a (words_in (rolled_back_line o)) ≡ []
quiet_rolled_back a o = quiet_verb a (codes "rolled-back") (words_in (outcome_words o)) refl

quiet_gone : (a b : ℕ) → queued_by a (words_in (gone_line b)) ≡ []
quiet_gone a b = quiet_verb a (codes "gone") (words_in (codes "a" ++ decimal b)) refl

headed : (s t : State) (line : List ℕ) (lines : List (List ℕ)) (fires : List Firing) → AreEventsBelow s.next_event s.events → ((a : ℕ) → queued_by a (words_in line) ≡ [])
    → Grows s t lines fires → Grows s t (line ∷ lines) fires
headed s t line lines fires below quiet grows =
    grows_then s s t (line ∷ []) lines [] fires (quietly s s (line ∷ []) below (refl, refl, refl) (λ a. quiet_one a line (quiet a))) grows

-- what a step is about

fields_keep_links : (e : ℕ) (fields : List FieldCode) (s : State) → (after_changes (map (λ (field : FieldCode). changes.SetField (record { 0 = e }) field.name (unset field.kind)) fields) s).links ≡ s.links
fields_keep_links e [] s = refl
fields_keep_links e (f ∷ fields) s = fields_keep_links e fields (after_change (changes.SetField (record { 0 = e }) f.name (unset f.kind)) s)

root_keeps_links : (service : ℕ) (name : ConvName) (s : State) → (with_root s service name).links ≡ s.links
root_keeps_links service name s = each (service_at s.deployment service)
  where
    each : (o : Option DeployedService) → (option_map_or (λ row. root_of row s service name) o s).links ≡ s.links
    each None = refl
    each (Some row) = fields_keep_links s.next_entity (block_fields s.deployment row.root) _

root_grows : (x : Due) (root : Root) (s : State) → AreEventsBelow s.next_event s.events → Grows s (with_root_attached x root (marked_service x s)) (lines_of_root x root s) []
root_grows x NoRoot s below =
    quietly s (marked_service x s) (initial_none_heading x.activity x.event.id.0 (service_key s.deployment x.service) ∷ []) below (refl, refl, refl)
    (λ a. quiet_one a (initial_none_heading x.activity x.event.id.0 (service_key s.deployment x.service)) refl)
root_grows x (OldRoot e) s below =
    let t = marked_service x s in
    let heading = initial_heading x.activity x.event.id.0 (service_key s.deployment x.service) e (codes "old") in
    grows_then s t (attached t e x.activity) (heading ∷ []) (lines_of_attached s e x.activity) [] []
    (quietly s t (heading ∷ []) below (refl, refl, refl) (λ a. quiet_one a heading refl))
    (attached_grows t e x.activity below)
root_grows x (NewRoot name) s below =
    let t = with_root (marked_service x s) x.service name in
    let heading = initial_heading x.activity x.event.id.0 (service_key s.deployment x.service) s.next_entity (codes "new") in
    let same : SameQueues s t = same_then s (marked_service x s) t (refl, refl, refl) (same_with_root x.service name (marked_service x s)) in
    let begun = quietly s t (heading ∷ []) below same (λ a. quiet_one a heading refl) in
    grows_then s t (attached t s.next_entity x.activity) (heading ∷ []) (lines_of_attached (with_root s x.service name) s.next_entity x.activity) [] [] begun
    (subst (λ lines. Grows t (attached t s.next_entity x.activity) lines []) (lines_same x name s) (attached_grows t s.next_entity x.activity begun.below))
  where
    lines_same : (x : Due) (name : ConvName) (s : State) → lines_of_attached (with_root (marked_service x s) x.service name) s.next_entity x.activity ≡ lines_of_attached (with_root s x.service name) s.next_entity x.activity
    lines_same x name s = rw (root_keeps_links x.service name (marked_service x s), root_keeps_links x.service name s) refl

pub dropped_same : (x : Finish) (s : State) → SameQueues (after_change (changes.Pop (record { 0 = x.activity })) s) (finished x s)
dropped_same x s =
    let t = after_change (changes.Pop (record { 0 = x.activity })) s in
    same_if (is_end x) t (dropped t x.activity) t (same_dropped x.activity t) (refl, refl, refl)

finished_below : (x : Finish) (s : State) → AreEventsBelow s.next_event s.events → AreEventsBelow (finished x s).next_event (finished x s).events
finished_below x s below =
    let same = dropped_same x s in
    rw (same.0, same.1) (popped_below s.next_event s.events x.activity below)

pub begun_below : (x : Subject) (s : State) → AreEventsBelow s.next_event s.events → AreEventsBelow (begun x s).next_event (begun x s).events
begun_below (Taking signal action) s below = below
begun_below (Selecting x) s below = below
begun_below (Delivering x) s below = below
begun_below (Finishing x) s below = finished_below x s below

pub subject_grows : (x : Subject) (s : State) → IsLookedUp x s → AreEventsBelow s.next_event s.events → Grows (begun x s) (after_subject x s) (lines_of_subject x s) (fires_of_subject x s)
subject_grows (Taking signal action) s is below = headed s _ (input_heading (spelled signal)) _ _ below (λ a. refl) (taken_grows action s below)
subject_grows (Selecting x) s is below = root_grows x x.root s below
subject_grows (Delivering x) s is below =
    let t = marked_entity x s in
    let u = done_effects x.entity.number.0 x.delivered.effects t in
    let callbacks = line_of_callback exception_line x.delivered.exception in
    let more = line_of_callback rolled_back_line x.delivered.rolled_back in
    let effects = effects_grow (applied_in x.entity.number.0 t x.delivered.effects) t below in
    headed t u (deliver_heading x.activity x.event.id.0 x.entity.number.0 x.delivered.outcome) (callbacks ++ (more ++ lines_of_done_effects x.entity.number.0 x.delivered.effects t)) _ below (λ a. refl)
    (grows_then t t u callbacks (more ++ lines_of_done_effects x.entity.number.0 x.delivered.effects t) [] _ (quietly t t callbacks below (refl, refl, refl) (λ a. quiet_callback a exception_line (quiet_exception a) x.delivered.exception))
    (grows_then t t u more (lines_of_done_effects x.entity.number.0 x.delivered.effects t) [] _ (quietly t t more below (refl, refl, refl) (λ a. quiet_callback a rolled_back_line (quiet_rolled_back a) x.delivered.rolled_back)) effects))
subject_grows (Finishing x) s is below =
    let t = finished x s in
    quietly t t (lines_of_finish x) (finished_below x s below) (refl, refl, refl)
    (λ a. quiet_more a (finish_heading x.activity x.event.id.0) (if is_end x then gone_line x.activity ∷ [] else []) refl (quiet_if a (is_end x) (gone_line x.activity ∷ []) (quiet_one a (gone_line x.activity) (quiet_gone a x.activity))))

-- a step, for what it is about
pub step_grows : (x : Subject) (s : State) → IsLookedUp x s → AreEventsBelow s.next_event s.events
    → Grows (begun x s) (closing (after_subject x s)) (lines_of_subject x s ++ lines_of_closing (after_subject x s)) (fires_of_subject x s ++ fires_of_closing (after_subject x s))
step_grows x s is below =
    let one = subject_grows x s is below in
    grows_then (begun x s) (after_subject x s) (closing (after_subject x s)) _ _ _ _ one (closing_grows (after_subject x s) one.below)

-- what goes, and what is left where a step begins
pub begun_queues : (x : Subject) (s : State) → IsLookedUp x s → (a : ℕ) → queue s.events a ≡ gone_on a x ++ queue (begun x s).events a
begun_queues (Taking signal action) s is a = refl
begun_queues (Selecting x) s is a = refl
begun_queues (Delivering x) s is a = refl
begun_queues (Finishing x) s is a =
    let same = dropped_same x s in
    rw same.0 (elim (cases_Bool (x.activity == a)) [
      | inl here ↦ rw here (subst (λ b. queue s.events b ≡ x.event ∷ queue (without_head s.events x.activity) b) (number x.activity a here) (popped_here s.events x.activity x.event is))
      | inr elsewhere ↦ rw elsewhere (sym (popped_elsewhere s.events x.activity a elsewhere))
    ])
  where
    number : (b c : ℕ) → (b == c) ≡ true → b ≡ c
    number b c is = grind (arith, is)
