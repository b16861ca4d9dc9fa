-- No step changes what was deployed, nor its scripts.
use Rattle.std.proofs.Common.{◌≡◌, ℕ, List, [], ◌∷◌, ◌++◌, ◌+◌, ◌==◌, refl, ◌∙◌, Some, None, Option, true, false, if◌then◌else◌, Bool, Ok, Err, Result}
use Rattle.std.specs.Option.{option_map_or}
use Rattle.std.proofs.lemmas.Bool.{cond_both}
use Rattle.slee_value.specs.declared.convergence.ConvName.{ConvName}
use Rattle.script_types.specs.declared.codes.RelationCode.{RelationCode}
use Rattle.deploy_model.specs.Deployed.{DeployedService, service_at}
use Rattle.slee_effect.specs.declared.effect.Effect.{Effect}
use Rattle.slee_effect.specs.declared.effect.Effect.TheVariants as effects
use Rattle.router_state.specs.State.{State}
use Rattle.router_state.specs.Changes.{after_change, after_changes}
use Rattle.router_state.specs.Closed.{is_loose, is_stopped}
use Rattle.router_state.specs.Contexts.{is_active, is_linked}
use Rattle.router_state.specs.Trees.{roots, tree_of}
use Rattle.router_state.specs.declared.change.Change.{Change}
use Rattle.router_state.specs.declared.change.Change.TheVariants as changes
use Rattle.router_state.specs.declared.rows.Service.{Service}
use Rattle.router_state.specs.declared.rows.Suspension.{Suspension}
use Rattle.router_steps.specs.Actions.{Action, StartActivity, EndActivity, FireEvent, SetClock, ActivateService, StopService, ChangeRow, change_of_row}
use Rattle.router_steps.specs.Closing.{close_root, close_roots, close_service, close_services, close_null, close_nulls, is_idle_at, activity_numbers, closing, without_loose, without_stopped}
use Rattle.router_steps.specs.Creating.{with_root, root_of, with_child, first_fields}
use Rattle.router_steps.specs.Applying.{applied_in}
use Rattle.router_steps.specs.Effects.{after_effect, after_effects, number_in, relation_at}
use Rattle.router_steps.specs.Going.{removed, all_removed, tree_removed, changes_of_removal}
use Rattle.router_steps.specs.Histories.{replay}
use Rattle.router_steps.specs.Moves.{ended, attached, dropped, changes_of_dropping, with_service}
use Rattle.router_steps.specs.Steps.{Subject, Taking, Selecting, Delivering, Finishing, Root, NoRoot, OldRoot, NewRoot, Due, Finish, after, before_closing, after_subject, subject_of, with_root_attached, marked_service, marked_entity, finished, is_end}
use Rattle.router_steps.specs.Taking.{taken, counted, after_action, all_resumed, all_occurred, occurred, clocked, ended_if}
use Rattle.router_state.specs.Timing.{Occurrence}
use Rattle.router_steps.specs.declared.refusal.Refusal.{Refusal}
use Rattle.trace_history.specs.declared.choice.Choice.{Choice}
use Rattle.trace_history.specs.declared.entry.Entry.{Entry}

-- the second state has the deployment and the scripts of the first
abbrev pub Same : State → State → Type 0
Same s t = (t.deployment ≡ s.deployment) × (t.program ≡ s.program)

same : (s : State) → Same s s
same s = (refl, refl)

pub then_same : (s t u : State) → Same s t → Same t u → Same s u
then_same s t u one two = (two.0 ∙ one.0, two.1 ∙ one.1)

pub same_change : (c : Change) (s : State) → Same s (after_change c s)
same_change (changes.SetField e name value) s = (refl, refl)
same_change (changes.ForgetFields e) s = (refl, refl)
same_change (changes.CreateRoot block service priority) s = (refl, refl)
same_change (changes.CreateChild parent relation block priority) s = (refl, refl)
same_change (changes.Remove e) s = (refl, refl)
same_change (changes.SetPriority e priority) s = (refl, refl)
same_change (changes.Start kind) s = (refl, refl)
same_change (changes.End a) s = (refl, refl)
same_change (changes.DropContext a) s = (refl, refl)
same_change (changes.Attach e a) s = (refl, refl)
same_change (changes.Detach e a) s = (refl, refl)
same_change (changes.SetAttr a key value) s = (refl, refl)
same_change (changes.Bind name a) s = (refl, refl)
same_change (changes.Unbind name) s = (refl, refl)
same_change (changes.MaskOnAttach e a events) s = (refl, refl)
same_change (changes.SetMask e a event on) s = (refl, refl)
same_change (changes.ForgetMasks e a) s = (refl, refl)
same_change (changes.Push a event) s = (refl, refl)
same_change (changes.Pop a) s = (refl, refl)
same_change (changes.MarkService a service) s = (refl, refl)
same_change (changes.MarkEntity a e) s = (refl, refl)
same_change (changes.Hold a until) s = (refl, refl)
same_change (changes.Release a) s = (refl, refl)
same_change (changes.SetTimer spec) s = (refl, refl)
same_change (changes.Cancel t) s = (refl, refl)
same_change (changes.CancelAll a) s = (refl, refl)
same_change (changes.Advance to) s = (refl, refl)
same_change (changes.AddRow table row fields) s = (refl, refl)
same_change (changes.UpdateRow table row fields) s = (refl, refl)
same_change (changes.RemoveRow table row) s = (refl, refl)
same_change (changes.Clock to) s = (refl, refl)
same_change changes.Taken s = (refl, refl)
same_change (changes.Service service state a) s = (refl, refl)
same_change (changes.Root e name) s = (refl, refl)
same_change changes.NextEvent s = (refl, refl)

pub same_changes : (cs : List Change) (s : State) → Same s (after_changes cs s)
same_changes [] s = (refl, refl)
same_changes (c ∷ cs) s = then_same s (after_change c s) (after_changes cs (after_change c s)) (same_change c s) (same_changes cs (after_change c s))

same_if : (b : Bool) (s t u : State) → Same s t → Same s u → Same s (if b then t else u)
same_if b s t u one two = cond_both b t u (Same s) (λ _. one) (λ _. two)

same_option : {B : Type 0} (f : B → State) (s : State) → ((x : B) → Same s (f x)) → (o : Option B) → Same s (option_map_or f o s)
same_option f s each None = (refl, refl)
same_option f s each (Some x) = each x

same_attached : (s : State) (e a : ℕ) → Same s (attached s e a)
same_attached s e a = cond_both (is_linked s.links e a) s _ (Same s) (λ _. (refl, refl)) (λ _. (refl, refl))

pub same_removed : (e : ℕ) (s : State) → Same s (removed s e)
same_removed e s = same_changes (changes_of_removal s e) s

pub same_all_removed : (es : List ℕ) (s : State) → Same s (all_removed es s)
same_all_removed [] s = (refl, refl)
same_all_removed (e ∷ es) s = then_same s (removed s e) (all_removed es (removed s e)) (same_removed e s) (same_all_removed es (removed s e))

same_root_of : (service : ℕ) (name : ConvName) (s : State) (row : DeployedService) → Same s (root_of row s service name)
same_root_of service name s row =
    same_changes (changes.CreateRoot row.root service row.priority ∷ changes.Root (record { 0 = s.next_entity }) name ∷ first_fields s row.root s.next_entity) s

pub same_with_root : (service : ℕ) (name : ConvName) (s : State) → Same s (with_root s service name)
same_with_root service name s = same_option (λ row. root_of row s service name) s (same_root_of service name s) (service_at s.deployment service)

same_with_child : (parent : ℕ) (relation : List ℕ) (priority : _) (s : State) (r : RelationCode) → Same s (with_child s parent relation r.block priority)
same_with_child parent relation priority s r =
    same_changes (changes.CreateChild (record { 0 = parent }) relation r.block priority ∷ first_fields s r.block s.next_entity) s

-- closing

pub same_close_root : (e : ℕ) (s : State) → Same s (close_root e s)
same_close_root e s = same_if (is_loose s.entities s.links e) s (tree_removed s e) s (same_all_removed (tree_of s.entities e) s) (same s)

pub same_close_roots : (es : List ℕ) (s : State) → Same s (close_roots es s)
same_close_roots [] s = (refl, refl)
same_close_roots (e ∷ es) s = then_same s (close_root e s) (close_roots es (close_root e s)) (same_close_root e s) (same_close_roots es (close_root e s))

pub same_close_service : (n : ℕ) (row : Service) (s : State) → Same s (close_service n row s)
same_close_service n row s = cond_both (is_stopped s.entities n row) _ s (Same s) (λ _. (refl, refl)) (λ _. (refl, refl))

pub same_close_services : (n : ℕ) (rows : List Service) (s : State) → Same s (close_services n rows s)
same_close_services n [] s = (refl, refl)
same_close_services n (row ∷ rows) s =
    then_same s (close_service n row s) (close_services (n + 1) rows (close_service n row s)) (same_close_service n row s) (same_close_services (n + 1) rows (close_service n row s))

pub same_close_null : (a : ℕ) (s : State) → Same s (close_null a s)
same_close_null a s = cond_both (is_idle_at s a) _ s (Same s) (λ _. (refl, refl)) (λ _. (refl, refl))

pub same_close_nulls : (all : List ℕ) (s : State) → Same s (close_nulls all s)
same_close_nulls [] s = (refl, refl)
same_close_nulls (a ∷ rest) s = then_same s (close_null a s) (close_nulls rest (close_null a s)) (same_close_null a s) (same_close_nulls rest (close_null a s))

pub same_closing : (s : State) → Same s (closing s)
same_closing s =
    let loose = without_loose s in
    let stopped = without_stopped loose in
    then_same s loose (closing s) (same_close_roots (roots s.entities) s)
    (then_same loose stopped (closing s) (same_close_services 0 loose.services loose) (same_close_nulls (activity_numbers stopped) stopped))

-- taking a line

pub same_all_resumed : (rows : List Suspension) (s : State) → Same s (all_resumed rows s)
same_all_resumed [] s = (refl, refl)
same_all_resumed (row ∷ rows) s =
    let t = after_change (changes.Release row.activity) s in
    then_same s t (all_resumed rows t) (refl, refl) (same_all_resumed rows t)

pub same_all_occurred : (xs : List Occurrence) (s : State) → Same s (all_occurred xs s)
same_all_occurred [] s = (refl, refl)
same_all_occurred (x ∷ xs) s = then_same s (occurred x s) (all_occurred xs (occurred x s)) (refl, refl) (same_all_occurred xs (occurred x s))

same_clocked : (to : ℕ) (rows : List Suspension) (xs : List Occurrence) (s : State) → Same s (clocked to rows xs s)
same_clocked to rows xs s =
    let set = after_change (changes.Clock to) s in
    let resumed = all_resumed rows set in
    let advanced = after_change (changes.Advance to) resumed in
    then_same s resumed (clocked to rows xs s) (then_same s set resumed (refl, refl) (same_all_resumed rows set))
    (then_same resumed advanced (clocked to rows xs s) (refl, refl) (same_all_occurred xs advanced))

same_ended_if : (a : ℕ) (s : State) → Same s (ended_if a s)
same_ended_if a s = cond_both (is_active s.activities a) _ s (Same s) (λ _. (refl, refl)) (λ _. (refl, refl))

pub same_action : (x : Action) (s : State) → Same s (after_action x s)
same_action (StartActivity name) s = (refl, refl)
same_action (EndActivity a) s = (refl, refl)
same_action (FireEvent a event fields target) s = (refl, refl)
same_action (SetClock to rows xs) s = same_clocked to rows xs s
same_action (ActivateService n) s = (refl, refl)
same_action (StopService n a) s = same_ended_if a (with_service s n _ a)
same_action (ChangeRow table row change) s =
    let t = after_change (change_of_row table row change) s in then_same s t (after_action (ChangeRow table row change) s) (same_change (change_of_row table row change) s) (refl, refl)

pub same_taken : (x : Result Action Refusal) (s : State) → Same s (taken x s)
same_taken (Ok x) s = then_same s (counted s) (after_action x (counted s)) (refl, refl) (same_action x (counted s))
same_taken (Err why) s = (refl, refl)

-- effects

pub same_effect : (x : Effect) (s : State) → Same s (after_effect x s)
same_effect (effects.SetField entity name value) s = (refl, refl)
same_effect (effects.SetAttr activity key value) s = (refl, refl)
same_effect (effects.Create parent relation priority) s =
    same_option (λ (r : RelationCode). with_child s (number_in parent) relation r.block priority) s (same_with_child (number_in parent) relation priority s) (relation_at s (number_in parent) relation)
same_effect (effects.Remove entity) s = same_all_removed (tree_of s.entities (number_in entity)) s
same_effect (effects.SetPriority entity priority) s = (refl, refl)
same_effect (effects.Attach entity activity) s = same_attached s (number_in entity) (number_in activity)
same_effect (effects.Detach entity activity) s = (refl, refl)
same_effect (effects.SetMask entity activity event on) s = (refl, refl)
same_effect (effects.Fire activity event service fields) s = (refl, refl)
same_effect effects.NewNull s = (refl, refl)
same_effect (effects.EndNull activity) s = (refl, refl)
same_effect (effects.SetTimer activity start period times keep) s = (refl, refl)
same_effect (effects.CancelTimer timer) s = (refl, refl)
same_effect (effects.Bind name activity) s = (refl, refl)
same_effect (effects.Unbind name) s = (refl, refl)
same_effect (effects.Emit entity text) s = (refl, refl)
same_effect (effects.Usage entity name amount) s = (refl, refl)
same_effect (effects.Suspend activity until) s = (refl, refl)
same_effect (effects.Resume activity) s = (refl, refl)

pub same_effects : (xs : List Effect) (s : State) → Same s (after_effects xs s)
same_effects [] s = (refl, refl)
same_effects (x ∷ xs) s = then_same s (after_effect x s) (after_effects xs (after_effect x s)) (same_effect x s) (same_effects xs (after_effect x s))

-- steps

pub same_root : (x : Due) (root : Root) (s : State) → Same s (with_root_attached x root s)
same_root x NoRoot s = (refl, refl)
same_root x (OldRoot e) s = same_attached s e x.activity
same_root x (NewRoot name) s =
    let t = with_root s x.service name in
    then_same s t (attached t s.next_entity x.activity) (same_with_root x.service name s) (same_attached t s.next_entity x.activity)

pub same_dropped : (a : ℕ) (s : State) → Same s (dropped s a)
same_dropped a s = same_changes (changes_of_dropping s a) s

pub same_finished : (x : Finish) (s : State) → Same s (finished x s)
same_finished x s =
    let t = after_change (changes.Pop (record { 0 = x.activity })) s in
    same_if (is_end x) s (dropped t x.activity) t (then_same s t (dropped t x.activity) (refl, refl) (same_dropped x.activity t)) (refl, refl)

pub same_subject : (x : Subject) (s : State) → Same s (after_subject x s)
same_subject (Taking signal action) s = same_taken action s
same_subject (Selecting x) s = then_same s (marked_service x s) (after_subject (Selecting x) s) (refl, refl) (same_root x x.root (marked_service x s))
same_subject (Delivering x) s =
    then_same s (marked_entity x s) (after_subject (Delivering x) s) (refl, refl) (same_effects (applied_in x.entity.number.0 (marked_entity x s) x.delivered.effects) (marked_entity x s))
same_subject (Finishing x) s = same_finished x s

pub same_before_closing : (s : State) (c : Choice) → Same s (before_closing s c)
same_before_closing s c = same_option (λ x. after_subject x s) s (λ x. same_subject x s) (subject_of s c)

pub same_after : (s : State) (c : Choice) → Same s (after s c)
same_after s c = then_same s (before_closing s c) (after s c) (same_before_closing s c) (same_closing (before_closing s c))

same_replay : (s : State) (h : List Entry) → Same s (replay s h)
same_replay s [] = (refl, refl)
same_replay s (e ∷ es) = then_same s (after s e.choice) (replay (after s e.choice) es) (same_after s e.choice) (same_replay (after s e.choice) es)

pub deployment_kept : (s : State) (c : Choice) → (after s c).deployment ≡ s.deployment
deployment_kept s c = (same_after s c).0

pub program_kept : (s : State) (c : Choice) → (after s c).program ≡ s.program
program_kept s c = (same_after s c).1

pub deployment_replayed : (s : State) (h : List Entry) → (replay s h).deployment ≡ s.deployment
deployment_replayed s h = (same_replay s h).0

pub program_replayed : (s : State) (h : List Entry) → (replay s h).program ≡ s.program
program_replayed s h = (same_replay s h).1
