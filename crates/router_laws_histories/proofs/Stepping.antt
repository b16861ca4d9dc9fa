-- Each part of a step puts its events behind those that wait, and says so.
use Rattle.std.proofs.Common.{◌≡◌, ℕ, ℤ, ◌+◌, ◌==◌, Bool, true, false, not, List, [], ◌∷◌, ◌++◌, filter, map, refl, ◌∙◌, ap, subst, if◌then◌else◌, Option, Some, None, flat_map, Ok, Err, Result}
use Rattle.std.specs.Prelude.{codes, decimal, filter_map, nat_lt, is_some, is_none}
use Rattle.std.proofs.lemmas.Bool.{cond_both}
use Rattle.slee_value.specs.Escape.{escaped}
use Rattle.slee_value.specs.declared.convergence.ConvName.{ConvName}
use Rattle.slee_value.specs.declared.ids.EntityId.{EntityId}
use Rattle.script_types.specs.declared.codes.FieldCode.{FieldCode}
use Rattle.script_types.specs.declared.codes.RelationCode.{RelationCode}
use Rattle.script_types.specs.Program.{Steps, BlockProgram}
use Rattle.script_meaning.specs.Removal.{said, text_in, lines_of, lines_by, lines_in, lines_with, removal_lines, no_args}
use Rattle.script_meaning.specs.Meaning.{Meaning, Done, Need, Unchecked, meaning_in, nothing_before}
use Rattle.script_meaning.specs.declared.outcome.Outcome.{Outcome}
use Rattle.script_meaning.specs.declared.outcome.Outcome.TheVariants as outcomes
use Rattle.deploy_model.specs.Deployed.{DeployedService, service_at, service_key, block_fields}
use Rattle.slee_effect.specs.declared.effect.Effect.{Effect}
use Rattle.slee_effect.specs.declared.effect.Effect.TheVariants as effects
use Rattle.router_laws.proofs.Queues.{AreEventsBelow}
use Rattle.router_laws.proofs.ListRules.{all_append}
use Rattle.router_laws_histories.proofs.Reading.{quiet_verb}
use Rattle.router_laws_histories.specs.Fires.{Firing, fires_of_ended, fires_of_effect, fires_of_effects, fires_of_nulls, fires_of_closing, fires_of_occurrences, fires_of_ended_if, fires_of_action, fires_of_taken}
use Rattle.router_laws_histories.proofs.Growing.{told_on, Grows, grows_then, queued_grows, quiet_append, quiet_one, quiet_more, quiet_if, quiet_unless, quiet_option, SameQueues, AreQuiet, leaves_queues, same_queues, same_then, same_changes, same_if, same_option, quietly, still, grows_if}
use Rattle.router_state.specs.State.{State}
use Rattle.router_state.specs.Changes.{after_change, after_changes}
use Rattle.router_state.specs.Closed.{is_loose, is_stopped}
use Rattle.router_state.specs.Contexts.{is_active as is_active_activity, is_linked, links_on, external}
use Rattle.router_state.specs.Trees.{roots, tree_of, entity_at}
use Rattle.router_state.specs.Queues.{head_event, is_suspended}
use Rattle.router_state.specs.declared.change.Change.TheVariants as changes
use Rattle.router_state.specs.declared.rows.Activity.{Activity}
use Rattle.router_state.specs.declared.rows.Event.{Event}
use Rattle.router_state.specs.declared.rows.Link.{Link}
use Rattle.router_state.specs.declared.rows.Service.{Service}
use Rattle.router_state.specs.declared.rows.Suspension.{Suspension}
use Rattle.router_steps.specs.declared.refusal.Refusal.{Refusal}
use Rattle.router_steps.specs.declared.refusal.Refusal.TheVariants as refusals
use Rattle.router_steps.specs.Actions.{Action, StartActivity, EndActivity, FireEvent, SetClock, ActivateService, StopService, ChangeRow, RowChange, RowAdded, RowUpdated, RowRemoved, change_of_row, event_of_row}
use Rattle.router_steps.specs.Closing.{close_root, close_roots, close_service, close_services, activity_numbers, close_null, close_nulls, is_idle_at, closing, lines_of_root, lines_of_roots, lines_of_services, lines_of_nulls, lines_of_closing, without_loose, without_stopped}
use Rattle.router_steps.specs.Creating.{with_root, root_of, with_child, first_fields}
use Rattle.router_steps.specs.Effects.{after_effect, after_effects, lines_of_effect, lines_of_effects, number_in, relation_at, lines_of_suspended}
use Rattle.router_steps.specs.Going.{removed, all_removed, tree_removed, changes_of_removal, lines_of_removed, lines_of_all_removed, lines_of_tree_removed, lines_of_parting}
use Rattle.router_steps.specs.Lines.{queued_line, refused_line, ending_line, removed_line, attached_line, detached_line, created_line, started_line, timer_line, usage_line, suspended_line, resumed_line, service_line}
use Rattle.router_steps.specs.Moves.{lines_of_queued, ended, lines_of_ended, attached, lines_of_attached, detached, lines_of_detached, resumed, lines_of_resumed, changes_of_detaching, changes_of_dropping, changes_of_services, dropped, with_service}
use Rattle.router_steps.specs.Scripts.{last_words, answers_in}
use Rattle.router_steps.specs.Taking.{taken, counted, after_action, all_resumed, all_occurred, occurred, ended_if, lines_of_all_resumed, lines_of_all_occurred, lines_of_action, lines_of_ended_if, lines_of_taken, activated, row_changed}
use Rattle.router_state.specs.Timing.{Occurrence, occurrence_limit, fired, fired_in_all, ending_suspensions}
use Rattle.router_steps.specs.Values.{unset}
use Rattle.signal_script.specs.declared.signal.Signal.{Signal}
use Rattle.signal_script.specs.declared.signal.Signal.TheVariants as signals
use Rattle.built_in_events.specs.declared.built_in.BuiltInEvent.TheVariants as built_in_events
use Rattle.built_in_events.specs.BuiltIn.{name_of as built_in_name}
use Rattle.router_state.specs.Initial.{table_activity}
use Rattle.router_state.specs.Profiles.{row_at}
use Rattle.router_state.specs.Services.{is_inactive, is_active}
use Rattle.router_state.specs.declared.rows.AcKind.TheVariants as kinds
use Rattle.router_state.specs.declared.rows.ServiceState.TheVariants as states
use Rattle.trace_history.specs.Reading.{queued_by}
use Rattle.trace_history.specs.Words.{words_in}

-- lines

quiet_removed : (a e : ℕ) → queued_by a (words_in (removed_line e)) ≡ []
quiet_removed a e = quiet_verb a (codes "removed") (words_in (codes "e" ++ decimal e)) refl

quiet_said : (a : ℕ) (e : EntityId) (text : List ℕ) → queued_by a (words_in (said e text)) ≡ []
quiet_said a e text = quiet_verb a (codes "say") (words_in (codes "e" ++ (decimal e.0 ++ (codes " " ++ escaped false text)))) refl

quiet_ending : (a b : ℕ) → queued_by a (words_in (ending_line b)) ≡ []
quiet_ending a b = quiet_verb a (codes "ending") (words_in (codes "a" ++ decimal b)) refl

quiet_attached : (a e b : ℕ) → queued_by a (words_in (attached_line e b)) ≡ []
quiet_attached a e b = quiet_verb a (codes "attached") (words_in (codes "e" ++ (decimal e ++ (codes " a" ++ decimal b)))) refl

quiet_detached : (a e b : ℕ) → queued_by a (words_in (detached_line e b)) ≡ []
quiet_detached a e b = quiet_verb a (codes "detached") (words_in (codes "e" ++ (decimal e ++ (codes " a" ++ decimal b)))) refl

quiet_created : (a e parent : ℕ) (relation : List ℕ) → queued_by a (words_in (created_line e parent relation)) ≡ []
quiet_created a e parent relation = quiet_verb a (codes "created") (words_in (codes "e" ++ (decimal e ++ (codes " e" ++ (decimal parent ++ (codes "." ++ relation)))))) refl

quiet_started : (a b : ℕ) (what : List ℕ) → queued_by a (words_in (started_line b what)) ≡ []
quiet_started a b what = quiet_verb a (codes "started") (words_in (codes "a" ++ (decimal b ++ (codes " " ++ what)))) refl

quiet_timer : (a t b : ℕ) → queued_by a (words_in (timer_line t b)) ≡ []
quiet_timer a t b = quiet_verb a (codes "timer") (words_in (codes "t" ++ (decimal t ++ (codes " a" ++ decimal b)))) refl

quiet_usage : (a e : ℕ) (name : List ℕ) (amount : ℤ) → queued_by a (words_in (usage_line e name amount)) ≡ []
quiet_usage a e name amount = quiet_verb a (codes "usage") _ refl

quiet_suspended : (a v b until : ℕ) → queued_by a (words_in (suspended_line v b until)) ≡ []
quiet_suspended a v b until = quiet_verb a (codes "suspended") _ refl

quiet_resumed : (a v b : ℕ) → queued_by a (words_in (resumed_line v b)) ≡ []
quiet_resumed a v b = quiet_verb a (codes "resumed") _ refl

quiet_service : (a : ℕ) (key word : List ℕ) → queued_by a (words_in (service_line key word)) ≡ []
quiet_service a key word = quiet_verb a (codes "service") (words_in (key ++ (codes " " ++ word))) refl

-- trees that go

quiet_texts : (a : ℕ) (e : EntityId) (texts : List (List ℕ)) → told_on a (map (said e) texts) ≡ []
quiet_texts a e [] = refl
quiet_texts a e (text ∷ texts) = quiet_more a (said e text) (map (said e) texts) (quiet_said a e text) (quiet_texts a e texts)

quiet_by : (a : ℕ) (e : EntityId) (outcome : Outcome) (es : List Effect) → told_on a (lines_by e outcome es) ≡ []
quiet_by a e outcomes.Fine es = quiet_if a _ (lines_of e es) (quiet_texts a e (filter_map text_in es))
quiet_by a e outcomes.Asked es = refl
quiet_by a e (outcomes.Broken kind) es = refl

quiet_meaning : (a : ℕ) (e : EntityId) (m : Meaning) → told_on a (lines_in e m) ≡ []
quiet_meaning a e (Done report) = quiet_by a e report.outcome report.effects
quiet_meaning a e (Need key) = refl
quiet_meaning a e Unchecked = refl

quiet_steps : (a : ℕ) (s : State) (block : BlockProgram) (e : EntityId) (steps : Option Steps) → told_on a (lines_with (answers_in s) s.program block e steps) ≡ []
quiet_steps a s block e None = refl
quiet_steps a s block e (Some steps) = quiet_meaning a e (meaning_in (answers_in s) s.program block steps e no_args nothing_before)

quiet_parting : (a : ℕ) (s : State) (e : ℕ) → told_on a (lines_of_parting s e) ≡ []
quiet_parting a s e =
    quiet_option a (last_words s) (λ row. quiet_option a (λ block. removal_lines (answers_in s) s.program block row.number) (λ block. quiet_steps a s block row.number block.remove) _) (entity_at s.entities e)

quiet_all_removed : (a : ℕ) (es : List ℕ) (s : State) → told_on a (lines_of_all_removed es s) ≡ []
quiet_all_removed a [] s = refl
quiet_all_removed a (e ∷ es) s =
    quiet_append a (lines_of_removed s e) (lines_of_all_removed es (removed s e))
    (quiet_append a (lines_of_parting s e) (removed_line e ∷ []) (quiet_parting a s e) (quiet_one a (removed_line e) (quiet_removed a e))) (quiet_all_removed a es (removed s e))

quiet_detaching : (links : List Link) → AreQuiet (flat_map changes_of_detaching links)
quiet_detaching [] = tt
quiet_detaching (l ∷ links) = (refl, (refl, quiet_detaching links))

same_removed : (e : ℕ) (s : State) → SameQueues s (removed s e)
same_removed e s =
    same_changes (changes_of_removal s e) s
    (all_append (λ c. leaves_queues c ≡ true) (flat_map changes_of_detaching (filter (λ l. l.entity.0 == e) s.links)) _ (quiet_detaching (filter (λ l. l.entity.0 == e) s.links)) (refl, (refl, tt)))

same_all_removed : (es : List ℕ) (s : State) → SameQueues s (all_removed es s)
same_all_removed [] s = (refl, refl, refl)
same_all_removed (e ∷ es) s = same_then s (removed s e) (all_removed es (removed s e)) (same_removed e s) (same_all_removed es (removed s e))

tree_grows : (s : State) (e : ℕ) → AreEventsBelow s.next_event s.events → Grows s (tree_removed s e) (lines_of_tree_removed s e) []
tree_grows s e below = quietly s (tree_removed s e) (lines_of_tree_removed s e) below (same_all_removed (tree_of s.entities e) s) (λ a. quiet_all_removed a (tree_of s.entities e) s)

-- moves

ended_grows : (s : State) (a : ℕ) → AreEventsBelow s.next_event s.events → Grows s (ended s a) (lines_of_ended s a) (fires_of_ended s a)
ended_grows s a below =
    let t = after_changes (changes.End (record { 0 = a }) ∷ changes.CancelAll (record { 0 = a }) ∷ []) s in
    grows_then s t (ended s a) (ending_line a ∷ []) _ [] (fires_of_ended s a)
    (quietly s t (ending_line a ∷ []) below (refl, refl, refl) (λ b. quiet_one b (ending_line a) (quiet_ending b a)))
    (queued_grows t a _ [] None below)

pub attached_grows : (s : State) (e a : ℕ) → AreEventsBelow s.next_event s.events → Grows s (attached s e a) (lines_of_attached s e a) []
attached_grows s e a below =
    quietly s (attached s e a) (lines_of_attached s e a) below (same_if (is_linked s.links e a) s s _ (refl, refl, refl) (refl, refl, refl))
    (λ b. quiet_unless b (is_linked s.links e a) (attached_line e a ∷ []) (quiet_one b (attached_line e a) (quiet_attached b e a)))

detached_grows : (s : State) (e a : ℕ) → AreEventsBelow s.next_event s.events → Grows s (detached s e a) (lines_of_detached s e a) []
detached_grows s e a below =
    quietly s (detached s e a) (lines_of_detached s e a) below (refl, refl, refl)
    (λ b. quiet_if b (is_linked s.links e a) (detached_line e a ∷ []) (quiet_one b (detached_line e a) (quiet_detached b e a)))

quiet_resuming : (b : ℕ) (s : State) (a : ℕ) → told_on b (lines_of_resumed s a) ≡ []
quiet_resuming b s a =
    quiet_if b (is_suspended s.suspensions a) _ (quiet_option b (λ (v : Event). resumed_line v.id.0 a ∷ []) (λ v. quiet_one b (resumed_line v.id.0 a) (quiet_resumed b v.id.0 a)) (head_event s.events a))

resumed_grows : (s : State) (a : ℕ) → AreEventsBelow s.next_event s.events → Grows s (resumed s a) (lines_of_resumed s a) []
resumed_grows s a below = quietly s (resumed s a) (lines_of_resumed s a) below (refl, refl, refl) (λ b. quiet_resuming b s a)

quiet_fields : (e : ℕ) (fields : List FieldCode) → AreQuiet (map (λ (field : FieldCode). changes.SetField (record { 0 = e }) field.name (unset field.kind)) fields)
quiet_fields e [] = tt
quiet_fields e (f ∷ fields) = (refl, quiet_fields e fields)

same_root_of : (service : ℕ) (name : ConvName) (s : State) (row : DeployedService) → SameQueues s (root_of row s service name)
same_root_of service name s row =
    same_changes (changes.CreateRoot row.root service row.priority ∷ changes.Root (record { 0 = s.next_entity }) name ∷ first_fields s row.root s.next_entity) s
    (refl, (refl, quiet_fields s.next_entity (block_fields s.deployment row.root)))

pub same_with_root : (service : ℕ) (name : ConvName) (s : State) → SameQueues s (with_root s service name)
same_with_root service name s = same_option (λ row. root_of row s service name) s (same_root_of service name s) (service_at s.deployment service)

same_with_child : (parent : ℕ) (relation : List ℕ) (priority : ℤ) (s : State) (r : RelationCode) → SameQueues s (with_child s parent relation r.block priority)
same_with_child parent relation priority s r =
    same_changes (changes.CreateChild (record { 0 = parent }) relation r.block priority ∷ first_fields s r.block s.next_entity) s
    (refl, quiet_fields s.next_entity (block_fields s.deployment r.block))

-- effects

pub effect_grows : (x : Effect) (s : State) → AreEventsBelow s.next_event s.events → Grows s (after_effect x s) (lines_of_effect x s) (fires_of_effect x s)
effect_grows (effects.SetField entity name value) s below = quietly s _ [] below (refl, refl, refl) (λ a. refl)
effect_grows (effects.SetAttr activity key value) s below = quietly s _ [] below (refl, refl, refl) (λ a. refl)
effect_grows (effects.Create parent relation priority) s below =
    quietly s (after_effect (effects.Create parent relation priority) s) (created_line s.next_entity (number_in parent) relation ∷ []) below
    (same_option (λ (r : RelationCode). with_child s (number_in parent) relation r.block priority) s (same_with_child (number_in parent) relation priority s) (relation_at s (number_in parent) relation))
    (λ a. quiet_one a (created_line s.next_entity (number_in parent) relation) (quiet_created a s.next_entity (number_in parent) relation))
effect_grows (effects.Remove entity) s below = tree_grows s (number_in entity) below
effect_grows (effects.SetPriority entity priority) s below = quietly s _ [] below (refl, refl, refl) (λ a. refl)
effect_grows (effects.Attach entity activity) s below = attached_grows s (number_in entity) (number_in activity) below
effect_grows (effects.Detach entity activity) s below = detached_grows s (number_in entity) (number_in activity) below
effect_grows (effects.SetMask entity activity event on) s below = quietly s _ [] below (refl, refl, refl) (λ a. refl)
effect_grows (effects.Fire activity event service fields) s below = queued_grows s (number_in activity) event _ _ below
effect_grows effects.NewNull s below =
    quietly s _ (started_line s.next_activity (codes "null") ∷ []) below (refl, refl, refl) (λ a. quiet_one a (started_line s.next_activity (codes "null")) (quiet_started a s.next_activity (codes "null")))
effect_grows (effects.EndNull activity) s below = ended_grows s (number_in activity) below
effect_grows (effects.SetTimer activity start period times keep) s below =
    quietly s _ (timer_line s.next_timer (number_in activity) ∷ []) below (refl, refl, refl) (λ a. quiet_one a (timer_line s.next_timer (number_in activity)) (quiet_timer a s.next_timer (number_in activity)))
effect_grows (effects.CancelTimer timer) s below = quietly s _ [] below (refl, refl, refl) (λ a. refl)
effect_grows (effects.Bind name activity) s below = quietly s _ [] below (refl, refl, refl) (λ a. refl)
effect_grows (effects.Unbind name) s below = quietly s _ [] below (refl, refl, refl) (λ a. refl)
effect_grows (effects.Emit entity text) s below =
    quietly s s (said (record { 0 = number_in entity }) text ∷ []) below (refl, refl, refl) (λ a. quiet_one a (said (record { 0 = number_in entity }) text) (quiet_said a (record { 0 = number_in entity }) text))
effect_grows (effects.Usage entity name amount) s below =
    quietly s s (usage_line (number_in entity) name amount ∷ []) below (refl, refl, refl) (λ a. quiet_one a (usage_line (number_in entity) name amount) (quiet_usage a (number_in entity) name amount))
effect_grows (effects.Suspend activity until) s below =
    quietly s _ (lines_of_suspended s (number_in activity) until) below (refl, refl, refl)
    (λ a. quiet_option a (λ (v : Event). suspended_line v.id.0 (number_in activity) until ∷ []) (λ v. quiet_one a (suspended_line v.id.0 (number_in activity) until) (quiet_suspended a v.id.0 (number_in activity) until)) (head_event s.events (number_in activity)))
effect_grows (effects.Resume activity) s below = resumed_grows s (number_in activity) below

pub effects_grow : (xs : List Effect) (s : State) → AreEventsBelow s.next_event s.events → Grows s (after_effects xs s) (lines_of_effects xs s) (fires_of_effects xs s)
effects_grow [] s below = still s below
effects_grow (x ∷ xs) s below =
    let one = effect_grows x s below in
    grows_then s (after_effect x s) (after_effects xs (after_effect x s)) _ _ _ _ one (effects_grow xs (after_effect x s) one.below)

-- closing

roots_grow : (es : List ℕ) (s : State) → AreEventsBelow s.next_event s.events → Grows s (close_roots es s) (lines_of_roots es s) []
roots_grow [] s below = still s below
roots_grow (e ∷ es) s below =
    let one = grows_if (is_loose s.entities s.links e) s (tree_removed s e) (lines_of_tree_removed s e) [] below (tree_grows s e below) in
    let first : Grows s (close_root e s) (lines_of_root e s) [] = no_fires (is_loose s.entities s.links e) s (close_root e s) (lines_of_root e s) one in
    grows_then s (close_root e s) (close_roots es (close_root e s)) (lines_of_root e s) (lines_of_roots es (close_root e s)) [] [] first (roots_grow es (close_root e s) first.below)
  where
    no_fires : (b : Bool) (s t : State) (lines : List (List ℕ)) → Grows s t lines (if b then [] else []) → Grows s t lines []
    no_fires true s t lines grows = grows
    no_fires false s t lines grows = grows

service_grows : (n : ℕ) (row : Service) (s : State) → AreEventsBelow s.next_event s.events
    → Grows s (close_service n row s) (if is_stopped s.entities n row then service_line (service_key s.deployment n) (codes "inactive") ∷ [] else []) []
service_grows n row s below =
    quietly s (close_service n row s) _ below (same_if (is_stopped s.entities n row) s _ s (refl, refl, refl) (refl, refl, refl))
    (λ a. quiet_if a (is_stopped s.entities n row) _ (quiet_one a (service_line (service_key s.deployment n) (codes "inactive")) (quiet_service a (service_key s.deployment n) (codes "inactive"))))

services_grow : (n : ℕ) (rows : List Service) (s : State) → AreEventsBelow s.next_event s.events → Grows s (close_services n rows s) (lines_of_services n rows s) []
services_grow n [] s below = still s below
services_grow n (row ∷ rows) s below =
    let one = service_grows n row s below in
    let same = kept n row s in
    grows_then s (close_service n row s) (close_services (n + 1) rows (close_service n row s)) _ (lines_of_services (n + 1) rows s) [] [] one
    (rw (← lines_same (n + 1) rows s (close_service n row s) same.0 same.1) (services_grow (n + 1) rows (close_service n row s) one.below))
  where
    kept : (n : ℕ) (row : Service) (s : State) → ((close_service n row s).entities ≡ s.entities) × ((close_service n row s).deployment ≡ s.deployment)
    kept n row s = cond_both (is_stopped s.entities n row) _ s (λ (t : State). (t.entities ≡ s.entities) × (t.deployment ≡ s.deployment)) (λ _. (refl, refl)) (λ _. (refl, refl))

    lines_same : (n : ℕ) (rows : List Service) (s t : State) → t.entities ≡ s.entities → t.deployment ≡ s.deployment → lines_of_services n rows t ≡ lines_of_services n rows s
    lines_same n [] s t entities deployment = refl
    lines_same n (row ∷ rows) s t entities deployment = rw (lines_same (n + 1) rows s t entities deployment, entities, deployment) refl

nulls_grow : (all : List ℕ) (s : State) → AreEventsBelow s.next_event s.events → Grows s (close_nulls all s) (lines_of_nulls all s) (fires_of_nulls all s)
nulls_grow [] s below = still s below
nulls_grow (a ∷ rest) s below =
    let one = grows_if (is_idle_at s a) s (ended s a) (lines_of_ended s a) (fires_of_ended s a) below (ended_grows s a below) in
    grows_then s (close_null a s) (close_nulls rest (close_null a s)) _ _ _ _ one (nulls_grow rest (close_null a s) one.below)

services_leave_activities : (n : ℕ) (rows : List Service) (s : State) → (close_services n rows s).activities ≡ s.activities
services_leave_activities n [] s = refl
services_leave_activities n (row ∷ rows) s =
    services_leave_activities (n + 1) rows (close_service n row s) ∙ cond_both (is_stopped s.entities n row) _ s (λ (t : State). t.activities ≡ s.activities) (λ _. refl) (λ _. refl)

pub closing_grows : (s : State) → AreEventsBelow s.next_event s.events → Grows s (closing s) (lines_of_closing s) (fires_of_closing s)
closing_grows s below =
    let t = without_loose s in
    let u = without_stopped t in
    let loose = roots_grow (roots s.entities) s below in
    let stopped = services_grow 0 t.services t loose.below in
    let same : u.activities ≡ t.activities = services_leave_activities 0 t.services t in
    let unused : Grows u (close_nulls (activity_numbers u) u) (lines_of_nulls (activity_numbers t) u) (fires_of_nulls (activity_numbers u) u) =
    subst (λ (rows : List Activity). Grows u (close_nulls (activity_numbers u) u) (lines_of_nulls (map (λ (row : Activity). row.number.0) rows) u) (fires_of_nulls (activity_numbers u) u)) same (nulls_grow (activity_numbers u) u stopped.below) in
    grows_then s t (closing s) _ _ [] (fires_of_closing s) loose (grows_then t u (closing s) _ _ [] (fires_of_closing s) stopped unused)

-- taking a line

quiet_all_resumed : (a : ℕ) (rows : List Suspension) (s : State) → told_on a (lines_of_all_resumed rows s) ≡ []
quiet_all_resumed a [] s = refl
quiet_all_resumed a (row ∷ rows) s = quiet_append a (lines_of_resumed s row.activity.0) (lines_of_all_resumed rows (resumed s row.activity.0)) (quiet_resuming a s row.activity.0) (quiet_all_resumed a rows (resumed s row.activity.0))

same_all_resumed : (rows : List Suspension) (s : State) → SameQueues s (all_resumed rows s)
same_all_resumed [] s = (refl, refl, refl)
same_all_resumed (row ∷ rows) s = same_then s (resumed s row.activity.0) (all_resumed rows (resumed s row.activity.0)) (refl, refl, refl) (same_all_resumed rows (resumed s row.activity.0))

occurred_grow : (xs : List Occurrence) (s : State) → AreEventsBelow s.next_event s.events → Grows s (all_occurred xs s) (lines_of_all_occurred xs s) (fires_of_occurrences xs s)
occurred_grow [] s below = still s below
occurred_grow (x ∷ xs) s below =
    let one = queued_grows s x.activity _ _ None below in
    grows_then s (occurred x s) (all_occurred xs (occurred x s)) _ _ _ _ one (occurred_grow xs (occurred x s) one.below)

-- their lines are of the next number alone
occurrences_told : (xs : List Occurrence) (s t : State) → t.next_event ≡ s.next_event → lines_of_all_occurred xs t ≡ lines_of_all_occurred xs s
occurrences_told [] s t same = refl
occurrences_told (x ∷ xs) s t same = rw (occurrences_told xs (occurred x s) (occurred x t) (ap (λ n. n + 1) same), same) refl

from_counted : (s t : State) (lines : List (List ℕ)) (fires : List Firing) → Grows (counted s) t lines fires → Grows s t lines fires
from_counted s t lines fires grows = record { queues = grows.queues; below = grows.below; numbers = grows.numbers; delivered = grows.delivered; told = grows.told }

quiet_refused : (a : ℕ) (why : Refusal) → queued_by a (words_in (refused_line why)) ≡ []
quiet_refused a why = quiet_verb a (codes "refused") _ refl

-- what a line changes in a table leaves queues as they are
row_leaves : (table : ℕ) (row : List ℕ) (change : RowChange) → leaves_queues (change_of_row table row change) ≡ true
row_leaves table row (RowAdded values) = refl
row_leaves table row (RowUpdated values) = refl
row_leaves table row RowRemoved = refl

action_grows : (x : Action) (s : State) → AreEventsBelow s.next_event s.events → Grows s (after_action x (counted s)) (lines_of_action x s) (fires_of_action x (counted s))
action_grows (StartActivity name) s below = quietly s _ (started_line s.next_activity name ∷ []) below (refl, refl, refl) (λ a. quiet_one a (started_line s.next_activity name) (quiet_started a s.next_activity name))
action_grows (EndActivity a) s below = from_counted s _ _ _ (ended_grows (counted s) a below)
action_grows (FireEvent a event fields target) s below = from_counted s _ _ _ (queued_grows (counted s) a event fields target below)
action_grows (SetClock to suspensions occurrences) s below =
    let set = after_change (changes.Clock to) (counted s) in
    let resumed = all_resumed suspensions set in
    let advanced = after_change (changes.Advance to) resumed in
    let same : SameQueues s advanced = same_then s set advanced (refl, refl, refl) (same_all_resumed suspensions set) in
    let begun = quietly s advanced (lines_of_all_resumed suspensions s) below same (λ a. quiet_all_resumed a suspensions s) in
    let more = occurred_grow occurrences advanced begun.below in
    grows_then s advanced (all_occurred occurrences advanced) (lines_of_all_resumed suspensions s) (lines_of_all_occurred occurrences s) [] _ begun
    (subst (λ lines. Grows advanced (all_occurred occurrences advanced) lines (fires_of_occurrences occurrences advanced)) (occurrences_told occurrences s advanced same.1) more)
action_grows (ActivateService n) s below =
    let t = with_service (after_change (changes.Start (kinds.Service n)) (counted s)) n states.Active s.next_activity in
    let key = service_key s.deployment n in
    grows_then s t (activated n (counted s)) (service_line key (codes "active") ∷ started_line s.next_activity (codes "service " ++ key) ∷ []) _ [] _
    (quietly s t (service_line key (codes "active") ∷ started_line s.next_activity (codes "service " ++ key) ∷ []) below (refl, refl, refl)
    (λ a. quiet_more a (service_line key (codes "active")) (started_line s.next_activity (codes "service " ++ key) ∷ []) (quiet_service a key (codes "active")) (quiet_one a (started_line s.next_activity (codes "service " ++ key)) (quiet_started a s.next_activity (codes "service " ++ key)))))
    (queued_grows t s.next_activity _ [] (Some n) below)
action_grows (StopService n a) s below =
    let t = with_service (counted s) n states.Stopping a in
    let key = service_key s.deployment n in
    grows_then s t (ended_if a t) (service_line key (codes "stopping") ∷ []) (lines_of_ended_if a s) [] (fires_of_ended_if a (counted s))
    (quietly s t (service_line key (codes "stopping") ∷ []) below (refl, refl, refl) (λ b. quiet_one b (service_line key (codes "stopping")) (quiet_service b key (codes "stopping"))))
    (grows_if (is_active_activity s.activities a) t (ended t a) (lines_of_ended t a) (fires_of_ended t a) below (ended_grows t a below))
action_grows (ChangeRow table row change) s below =
    let t = after_change (change_of_row table row change) (counted s) in
    let same : SameQueues s t = same_then s (counted s) t (refl, refl, refl) (same_queues (change_of_row table row change) (counted s) (row_leaves table row change)) in
    let begun = quietly s t [] below same (λ a. refl) in
    grows_then s t (row_changed table row change (counted s)) [] (lines_of_queued s (table_activity table) (event_of_row change)) [] _ begun
    (subst (λ n. Grows t (row_changed table row change (counted s)) (queued_line n (event_of_row change) (table_activity table) ∷ []) (fires_of_action (ChangeRow table row change) (counted s))) same.1
    (queued_grows t (table_activity table) (event_of_row change) _ None begun.below))

pub taken_grows : (x : Result Action Refusal) (s : State) → AreEventsBelow s.next_event s.events → Grows s (taken x s) (lines_of_taken x s) (fires_of_taken x (counted s))
taken_grows (Ok x) s below = action_grows x s below
taken_grows (Err why) s below = quietly s (counted s) (refused_line why ∷ []) below (refl, refl, refl) (λ a. quiet_one a (refused_line why) (quiet_refused a why))

-- an activity that goes

quiet_masks : (links : List Link) → AreQuiet (map (λ l. changes.ForgetMasks l.entity l.activity) links)
quiet_masks [] = tt
quiet_masks (l ∷ links) = (refl, quiet_masks links)

quiet_services : (a n : ℕ) (rows : List Service) → AreQuiet (changes_of_services a n rows)
quiet_services a n [] = tt
quiet_services a n (row ∷ rows) =
    all_append (λ c. leaves_queues c ≡ true) _ (changes_of_services a (n + 1) rows)
    (cond_both (row.activity.0 == a) (changes.Service n row.state (record { 0 = 0 }) ∷ []) [] AreQuiet (λ _. (refl, tt)) (λ _. tt)) (quiet_services a (n + 1) rows)

pub same_dropped : (a : ℕ) (s : State) → SameQueues s (dropped s a)
same_dropped a s =
    same_changes (changes_of_dropping s a) s
    (all_append (λ c. leaves_queues c ≡ true) (map (λ l. changes.ForgetMasks l.entity l.activity) (links_on s.links a)) _ (quiet_masks (links_on s.links a)) (refl, quiet_services a 0 s.services))
