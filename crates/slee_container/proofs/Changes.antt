-- What each change of a state keeps, each step keeps.
use Rattle.std.proofs.Common.{ℕ, ◌+◌, ℤ, List, [], ◌∷◌, Option, Some, None, Result, Ok, Err}
use Rattle.std.specs.Option.{option_map_or}
use Rattle.std.proofs.lemmas.Bool.{cond_both}
use Rattle.slee_value.specs.declared.convergence.ConvName.{ConvName}
use Rattle.slee_value.specs.declared.value.Value.{Value}
use Rattle.script_types.specs.declared.codes.RelationCode.{RelationCode}
use Rattle.slee_effect.specs.declared.effect.Effect.{Effect}
use Rattle.slee_effect.specs.declared.effect.Effect.TheVariants as effects
use Rattle.deploy_model.specs.Deployed.{DeployedService, service_at}
use Rattle.trace_history.specs.declared.choice.Choice.{Choice}
use Rattle.router_state.specs.Changes.{after_change, after_changes}
use Rattle.router_state.specs.Closed.{is_loose, is_stopped}
use Rattle.router_state.specs.Contexts.{is_active, is_linked}
use Rattle.router_state.specs.Queues.{activity_end}
use Rattle.router_state.specs.State.{State}
use Rattle.router_state.specs.Timing.{Occurrence}
use Rattle.router_state.specs.Trees.{roots, tree_of}
use Rattle.router_state.specs.declared.change.Change.{Change}
use Rattle.router_state.specs.declared.change.Change.TheVariants as changes
use Rattle.router_state.specs.declared.rows.AcKind.TheVariants as kinds
use Rattle.router_state.specs.declared.rows.Service.{Service}
use Rattle.router_state.specs.declared.rows.ServiceState.{ServiceState}
use Rattle.router_state.specs.declared.rows.ServiceState.TheVariants as states
use Rattle.router_state.specs.declared.rows.Suspension.{Suspension}
use Rattle.router_steps.specs.Actions.{Action, StartActivity, EndActivity, FireEvent, SetClock, ActivateService, StopService, ChangeRow, change_of_row}
use Rattle.router_steps.specs.Applying.{applied_in}
use Rattle.router_steps.specs.Closing.{close_root, close_roots, close_service, close_services, close_null, close_nulls, is_idle_at, activity_numbers, closing, without_loose, without_stopped}
use Rattle.router_steps.specs.Creating.{with_root, root_of, with_child, first_fields}
use Rattle.router_steps.specs.Effects.{after_effect, after_effects, number_in, plain, relation_at}
use Rattle.router_steps.specs.Going.{removed, all_removed, tree_removed, changes_of_removal}
use Rattle.router_steps.specs.Moves.{queued, ended, attached, detached, changes_of_detaching, changes_of_dropping, dropped, first_masks, with_service}
use Rattle.router_steps.specs.Steps.{Subject, Taking, Selecting, Delivering, Finishing, Root, NoRoot, OldRoot, NewRoot, Due, Finish, after, after_subject, before_closing, finished, is_end, marked_entity, marked_service, subject_of, with_root_attached}
use Rattle.router_steps.specs.Taking.{activated, after_action, all_occurred, all_resumed, clocked, counted, occurred, taken}
use Rattle.router_steps.specs.declared.refusal.Refusal.{Refusal}

-- each change keeps it
abbrev pub IsKept : (State → Type 0) → Type 0
IsKept P = (c : Change) (s : State) → P s → P (after_change c s)

all_keep : (P : State → Type 0) → IsKept P → (cs : List Change) (s : State) → P s → P (after_changes cs s)
all_keep P each [] s is = is
all_keep P each (c ∷ cs) s is = all_keep P each cs (after_change c s) (each c s is)

option_keeps : {B : Type 0} (P : State → Type 0) (f : B → State) (s : State) → P s → ((x : B) → P (f x)) → (o : Option B) → P (option_map_or f o s)
option_keeps P f s is more None = is
option_keeps P f s is more (Some x) = more x

-- moves

queued_keeps : (P : State → Type 0) → IsKept P → (s : State) (a : ℕ) (event : List ℕ) (fields : List (List ℕ × Value)) (target : Option ℕ) → P s → P (queued s a event fields target)
queued_keeps P each s a event fields target is =
    all_keep P each (changes.Push (record { 0 = a }) (record { id = record { 0 = s.next_event }; name = event; fields = fields; target = target }) ∷ changes.NextEvent ∷ []) s is

ended_keeps : (P : State → Type 0) → IsKept P → (s : State) (a : ℕ) → P s → P (ended s a)
ended_keeps P each s a is =
    let cs : List Change = changes.End (record { 0 = a }) ∷ changes.CancelAll (record { 0 = a }) ∷ [] in
    queued_keeps P each (after_changes cs s) a activity_end [] None (all_keep P each cs s is)

attached_keeps : (P : State → Type 0) → IsKept P → (s : State) (e a : ℕ) → P s → P (attached s e a)
attached_keeps P each s e a is =
    let cs : List Change = changes.Attach (record { 0 = e }) (record { 0 = a }) ∷ changes.MaskOnAttach (record { 0 = e }) (record { 0 = a }) (first_masks s e) ∷ [] in
    cond_both (is_linked s.links e a) s (after_changes cs s) P (λ _. is) (λ _. all_keep P each cs s is)

detached_keeps : (P : State → Type 0) → IsKept P → (s : State) (e a : ℕ) → P s → P (detached s e a)
detached_keeps P each s e a is = all_keep P each (changes_of_detaching (record { entity = record { 0 = e }; activity = record { 0 = a } })) s is

with_service_keeps : (P : State → Type 0) → IsKept P → (s : State) (service : ℕ) (state : ServiceState) (a : ℕ) → P s → P (with_service s service state a)
with_service_keeps P each s service state a is = each (changes.Service service state (record { 0 = a })) s is

-- entities that go and come

all_removed_keep : (P : State → Type 0) → IsKept P → (es : List ℕ) (s : State) → P s → P (all_removed es s)
all_removed_keep P each [] s is = is
all_removed_keep P each (e ∷ es) s is = all_removed_keep P each es (removed s e) (all_keep P each (changes_of_removal s e) s is)

tree_keeps : (P : State → Type 0) → IsKept P → (s : State) (e : ℕ) → P s → P (tree_removed s e)
tree_keeps P each s e is = all_removed_keep P each (tree_of s.entities e) s is

root_of_keeps : (P : State → Type 0) → IsKept P → (service : ℕ) (name : ConvName) (s : State) (row : DeployedService) → P s → P (root_of row s service name)
root_of_keeps P each service name s row is =
    all_keep P each (changes.CreateRoot row.root service row.priority ∷ changes.Root (record { 0 = s.next_entity }) name ∷ first_fields s row.root s.next_entity) s is

with_root_keeps : (P : State → Type 0) → IsKept P → (service : ℕ) (name : ConvName) (s : State) → P s → P (with_root s service name)
with_root_keeps P each service name s is =
    option_keeps P (λ row. root_of row s service name) s is (λ row. root_of_keeps P each service name s row is) (service_at s.deployment service)

with_child_keeps : (P : State → Type 0) → IsKept P → (parent : ℕ) (relation : List ℕ) (priority : ℤ) (s : State) (r : RelationCode) → P s → P (with_child s parent relation r.block priority)
with_child_keeps P each parent relation priority s r is =
    all_keep P each (changes.CreateChild (record { 0 = parent }) relation r.block priority ∷ first_fields s r.block s.next_entity) s is

-- closing

roots_keep : (P : State → Type 0) → IsKept P → (es : List ℕ) (s : State) → P s → P (close_roots es s)
roots_keep P each [] s is = is
roots_keep P each (e ∷ es) s is =
    roots_keep P each es (close_root e s) (cond_both (is_loose s.entities s.links e) (tree_removed s e) s P (λ _. tree_keeps P each s e is) (λ _. is))

services_keep : (P : State → Type 0) → IsKept P → (n : ℕ) (rows : List Service) (s : State) → P s → P (close_services n rows s)
services_keep P each n [] s is = is
services_keep P each n (row ∷ rows) s is =
    services_keep P each (n + 1) rows (close_service n row s)
    (cond_both (is_stopped s.entities n row) (with_service s n states.Inactive row.activity.0) s P (λ _. with_service_keeps P each s n states.Inactive row.activity.0 is) (λ _. is))

nulls_keep : (P : State → Type 0) → IsKept P → (all : List ℕ) (s : State) → P s → P (close_nulls all s)
nulls_keep P each [] s is = is
nulls_keep P each (a ∷ rest) s is = nulls_keep P each rest (close_null a s) (cond_both (is_idle_at s a) (ended s a) s P (λ _. ended_keeps P each s a is) (λ _. is))

closing_keeps : (P : State → Type 0) → IsKept P → (s : State) → P s → P (closing s)
closing_keeps P each s is =
    let loose = without_loose s in
    let stopped = without_stopped loose in
    nulls_keep P each (activity_numbers stopped) stopped (services_keep P each 0 loose.services loose (roots_keep P each (roots s.entities) s is))

-- taking a line

resumed_keep : (P : State → Type 0) → IsKept P → (rows : List Suspension) (s : State) → P s → P (all_resumed rows s)
resumed_keep P each [] s is = is
resumed_keep P each (row ∷ rows) s is =
    let change = changes.Release (record { 0 = row.activity.0 }) in
    resumed_keep P each rows (after_change change s) (each change s is)

occurred_keep : (P : State → Type 0) → IsKept P → (xs : List Occurrence) (s : State) → P s → P (all_occurred xs s)
occurred_keep P each [] s is = is
occurred_keep P each (x ∷ xs) s is = occurred_keep P each xs (occurred x s) (queued_keeps P each s x.activity _ _ None is)

clocked_keeps : (P : State → Type 0) → IsKept P → (to : ℕ) (rows : List Suspension) (xs : List Occurrence) (s : State) → P s → P (clocked to rows xs s)
clocked_keeps P each to rows xs s is =
    let set = after_change (changes.Clock to) s in
    let resumed = all_resumed rows set in
    occurred_keep P each xs (after_change (changes.Advance to) resumed) (each (changes.Advance to) resumed (resumed_keep P each rows set (each (changes.Clock to) s is)))

activated_keeps : (P : State → Type 0) → IsKept P → (n : ℕ) (s : State) → P s → P (activated n s)
activated_keeps P each n s is =
    let t = after_change (changes.Start (kinds.Service n)) s in
    let u = with_service t n states.Active s.next_activity in
    queued_keeps P each u s.next_activity _ [] (Some n) (with_service_keeps P each t n states.Active s.next_activity (each (changes.Start (kinds.Service n)) s is))

action_keeps : (P : State → Type 0) → IsKept P → (x : Action) (s : State) → P s → P (after_action x s)
action_keeps P each (StartActivity name) s is = each (changes.Start (kinds.External name)) s is
action_keeps P each (EndActivity a) s is = ended_keeps P each s a is
action_keeps P each (FireEvent a event fields target) s is = queued_keeps P each s a event fields target is
action_keeps P each (SetClock to rows xs) s is = clocked_keeps P each to rows xs s is
action_keeps P each (ActivateService n) s is = activated_keeps P each n s is
action_keeps P each (StopService n a) s is =
    let t = with_service s n states.Stopping a in
    let there = with_service_keeps P each s n states.Stopping a is in
    cond_both (is_active t.activities a) (ended t a) t P (λ _. ended_keeps P each t a there) (λ _. there)
action_keeps P each (ChangeRow table row change) s is =
    queued_keeps P each (after_change (change_of_row table row change) s) _ _ _ None (each (change_of_row table row change) s is)

taken_keeps : (P : State → Type 0) → IsKept P → (x : Result Action Refusal) (s : State) → P s → P (taken x s)
taken_keeps P each (Ok x) s is = action_keeps P each x (counted s) (each changes.Taken s is)
taken_keeps P each (Err why) s is = each changes.Taken s is

-- effects

effect_keeps : (P : State → Type 0) → IsKept P → (x : Effect) (s : State) → P s → P (after_effect x s)
effect_keeps P each (effects.SetField entity name value) s is = each (changes.SetField (record { 0 = number_in entity }) name (plain value)) s is
effect_keeps P each (effects.SetAttr activity key value) s is = each (changes.SetAttr (record { 0 = number_in activity }) key (plain value)) s is
effect_keeps P each (effects.Create parent relation priority) s is =
    option_keeps P (λ (r : RelationCode). with_child s (number_in parent) relation r.block priority) s is
    (λ r. with_child_keeps P each (number_in parent) relation priority s r is) (relation_at s (number_in parent) relation)
effect_keeps P each (effects.Remove entity) s is = tree_keeps P each s (number_in entity) is
effect_keeps P each (effects.SetPriority entity priority) s is = each (changes.SetPriority (record { 0 = number_in entity }) priority) s is
effect_keeps P each (effects.Attach entity activity) s is = attached_keeps P each s (number_in entity) (number_in activity) is
effect_keeps P each (effects.Detach entity activity) s is = detached_keeps P each s (number_in entity) (number_in activity) is
effect_keeps P each (effects.SetMask entity activity event on) s is =
    each (changes.SetMask (record { 0 = number_in entity }) (record { 0 = number_in activity }) event on) s is
effect_keeps P each (effects.Fire activity event service fields) s is = queued_keeps P each s (number_in activity) event _ _ is
effect_keeps P each effects.NewNull s is = each (changes.Start kinds.Null) s is
effect_keeps P each (effects.EndNull activity) s is = ended_keeps P each s (number_in activity) is
effect_keeps P each (effects.SetTimer activity start period times keep) s is =
    each (changes.SetTimer (record { activity = record { 0 = number_in activity }; start = start; period = period; times = times; keep = keep })) s is
effect_keeps P each (effects.CancelTimer timer) s is = each (changes.Cancel (record { 0 = number_in timer })) s is
effect_keeps P each (effects.Bind name activity) s is = each (changes.Bind name (record { 0 = number_in activity })) s is
effect_keeps P each (effects.Unbind name) s is = each (changes.Unbind name) s is
effect_keeps P each (effects.Emit entity text) s is = is
effect_keeps P each (effects.Usage entity name amount) s is = is
effect_keeps P each (effects.Suspend activity until) s is = each (changes.Hold (record { 0 = number_in activity }) until) s is
effect_keeps P each (effects.Resume activity) s is = each (changes.Release (record { 0 = number_in activity })) s is

effects_keep : (P : State → Type 0) → IsKept P → (xs : List Effect) (s : State) → P s → P (after_effects xs s)
effects_keep P each [] s is = is
effects_keep P each (x ∷ xs) s is = effects_keep P each xs (after_effect x s) (effect_keeps P each x s is)

-- steps

root_keeps : (P : State → Type 0) → IsKept P → (x : Due) (root : Root) (s : State) → P s → P (with_root_attached x root s)
root_keeps P each x NoRoot s is = is
root_keeps P each x (OldRoot e) s is = attached_keeps P each s e x.activity is
root_keeps P each x (NewRoot name) s is =
    attached_keeps P each (with_root s x.service name) s.next_entity x.activity (with_root_keeps P each x.service name s is)

finished_keeps : (P : State → Type 0) → IsKept P → (x : Finish) (s : State) → P s → P (finished x s)
finished_keeps P each x s is =
    let popped = after_change (changes.Pop (record { 0 = x.activity })) s in
    let there = each (changes.Pop (record { 0 = x.activity })) s is in
    cond_both (is_end x) (dropped popped x.activity) popped P (λ _. all_keep P each (changes_of_dropping popped x.activity) popped there) (λ _. there)

subject_keeps : (P : State → Type 0) → IsKept P → (x : Subject) (s : State) → P s → P (after_subject x s)
subject_keeps P each (Taking signal action) s is = taken_keeps P each action s is
subject_keeps P each (Selecting x) s is =
    root_keeps P each x x.root (marked_service x s) (each (changes.MarkService (record { 0 = x.activity }) x.service) s is)
subject_keeps P each (Delivering x) s is =
    effects_keep P each (applied_in x.entity.number.0 (marked_entity x s) x.delivered.effects) (marked_entity x s)
    (each (changes.MarkEntity (record { 0 = x.activity }) x.entity.number) s is)
subject_keeps P each (Finishing x) s is = finished_keeps P each x s is

-- a step, whatever it is about
pub after_keeps : (P : State → Type 0) → IsKept P → (s : State) (c : Choice) → P s → P (after s c)
after_keeps P each s c is =
    closing_keeps P each (before_closing s c) (option_keeps P (λ x. after_subject x s) s is (λ x. subject_keeps P each x s is) (subject_of s c))
