-- How far a step carries the numbers that come next, before closing.
use Rattle.std.proofs.Common.{Bool, List, None, Option, Some, [], ap, arith, false, inl, inr, length, map, refl, suc, ℕ, ◌+◌, ◌∙◌, ◌∷◌, ◌≡◌, ◌≤◌, flat_map, sum}
use Rattle.std.proofs.lemmas.Bool.{cases_Bool, cond_both, ltb-false}
use Rattle.std.proofs.lemmas.List.{length-append, length-map}
use Rattle.std.proofs.lemmas.List.FromFn.{length-range_with_len}
use Rattle.std.proofs.lemmas.List.Sums.{sum_by-cons}
use Rattle.std.specs.List.{range_with_len}
use Rattle.std.specs.Option.{option_map_or}
use Rattle.std.specs.Prelude.{Err, Ok, Result, if◌then◌else◌, is_none, is_some, nat_lt, not, ◌-◌, ℤ}
use Rattle.deploy_model.specs.Deployed.{DeployedService, block_fields, service_at}
use Rattle.router_laws_sound.proofs.SoundCreated.{fields_set_alone, setting}
use Rattle.router_laws_sound.proofs.SoundDropped.{dropped_is}
use Rattle.router_laws_sound.proofs.SoundNumbers.{SameNumbers}
use Rattle.router_laws_sound.proofs.SoundTrees.{removed_alone}
use Rattle.router_state.specs.Changes.{after_change, after_changes}
use Rattle.router_state.specs.Contexts.{external, is_active, is_linked}
use Rattle.router_state.specs.Profiles.{row_at}
use Rattle.router_state.specs.Services.{is_active as is_service_active, is_inactive}
use Rattle.router_state.specs.State.{State}
use Rattle.router_state.specs.Timers.{due_count}
use Rattle.router_state.specs.Timing.{Occurrence, ending_suspensions, fired, fired_count, fired_in_all, fired_of, occurrence_before, occurrence_limit, occurrence_of}
use Rattle.router_state.specs.Trees.{tree_of}
use Rattle.router_state.specs.declared.rows.Suspension.{Suspension}
use Rattle.router_state.specs.declared.rows.Timer.{Timer}
use Rattle.router_steps.specs.Actions.{Action, ActivateService, ChangeRow, EndActivity, FireEvent, RowAdded, RowChange, RowRemoved, RowUpdated, SetClock, StartActivity, StopService, action_of, and_then, clocking, declared_event, open_activity, refused_if, row_values, service_of_key, table_of_name, target_of, values_of}
use Rattle.router_steps.specs.Applying.{applies, applying, done_effects}
use Rattle.router_steps.specs.Closing.{close_null, is_idle_at}
use Rattle.router_steps.specs.Creating.{root_of, with_child, with_root}
use Rattle.router_steps.specs.Effects.{after_effect, after_effects, number_in, relation_at, resolved_in}
use Rattle.router_steps.specs.Going.{all_removed}
use Rattle.router_steps.specs.Moves.{attached, dropped, ended, resumed, with_service}
use Rattle.router_steps.specs.Steps.{Due, Finish, NewRoot, NoRoot, OldRoot, Root, finished, is_end, marked_service, with_root_attached}
use Rattle.router_steps.specs.Taking.{after_action, all_occurred, all_resumed, clocked, counted, occurred, row_changed, taken}
use Rattle.router_steps.specs.declared.refusal.Refusal.{Refusal}
use Rattle.rows_sorted.specs.Orders.{inserted, sorted}
use Rattle.script_types.specs.declared.codes.FieldCode.{FieldCode}
use Rattle.script_types.specs.declared.codes.RelationCode.{RelationCode}
use Rattle.signal_script.specs.declared.signal.Signal.{Signal}
use Rattle.signal_script.specs.declared.signal.Signal.TheVariants as signals
use Rattle.slee_effect.specs.declared.effect.Effect.{Effect}
use Rattle.slee_effect.specs.declared.effect.Effect.TheVariants as effects
use Rattle.slee_value.specs.declared.convergence.ConvName.{ConvName}
use Rattle.router_state.specs.declared.change.Change.TheVariants as changes
use Rattle.router_state.specs.declared.rows.ServiceState.TheVariants as states
use Rattle.router_steps.specs.declared.refusal.Refusal.TheVariants as refusals

-- each number that comes next is higher by so much at most
pub record IsWithin (k : ℕ) (s t : State) : Type 0 where
  pub entity : t.next_entity ≤ s.next_entity + k
  pub activity : t.next_activity ≤ s.next_activity + k
  pub timer : t.next_timer ≤ s.next_timer + k
  pub event : t.next_event ≤ s.next_event + k

pub within_same : (k : ℕ) (s t : State) → SameNumbers s t → IsWithin k s t
within_same k s t same = record { entity = le s.next_entity t.next_entity same.0; activity = le s.next_activity t.next_activity same.1; timer = le s.next_timer t.next_timer same.2; event = le s.next_event t.next_event same.3 }
  where
    le : (n m : ℕ) → m ≡ n → m ≤ n + k
    le n m is = omega (arith, is)

pub within_then : (k l : ℕ) (s t u : State) → IsWithin k s t → IsWithin l t u → IsWithin (k + l) s u
within_then k l s t u one two = record {
  entity = le s.next_entity t.next_entity u.next_entity one.entity two.entity;
  activity = le s.next_activity t.next_activity u.next_activity one.activity two.activity;
  timer = le s.next_timer t.next_timer u.next_timer one.timer two.timer;
  event = le s.next_event t.next_event u.next_event one.event two.event;
}
  where
    le : (n m p : ℕ) → m ≤ n + k → p ≤ m + l → p ≤ n + (k + l)
    le n m p one two = omega (arith, one, two)

pub within_more : (k l : ℕ) (s t : State) → k ≤ l → IsWithin k s t → IsWithin l s t
within_more k l s t more is = record { entity = le s.next_entity t.next_entity is.entity; activity = le s.next_activity t.next_activity is.activity; timer = le s.next_timer t.next_timer is.timer; event = le s.next_event t.next_event is.event }
  where
    le : (n m : ℕ) → m ≤ n + k → m ≤ n + l
    le n m is = omega (arith, is, more)

-- nothing was drawn first
pub within_first : (k : ℕ) (s t u : State) → SameNumbers s t → IsWithin k t u → IsWithin k s u
within_first k s t u same is = record {
  entity = le s.next_entity t.next_entity u.next_entity same.0 is.entity;
  activity = le s.next_activity t.next_activity u.next_activity same.1 is.activity;
  timer = le s.next_timer t.next_timer u.next_timer same.2 is.timer;
  event = le s.next_event t.next_event u.next_event same.3 is.event;
}
  where
    le : (n m p : ℕ) → m ≡ n → p ≤ m + k → p ≤ n + k
    le n m p is less = omega (arith, is, less)

pub within_if : (k : ℕ) (b : Bool) (s t u : State) → IsWithin k s t → IsWithin k s u → IsWithin k s (if b then t else u)
within_if k b s t u one two = cond_both b t u (IsWithin k s) (λ _. one) (λ _. two)

still : (k : ℕ) (s : State) → IsWithin k s s
still k s = within_same k s s (refl, refl, refl, refl)

-- effects

same_removed : (es : List ℕ) (s : State) → SameNumbers s (all_removed es s)
same_removed es s =
    let alone = removed_alone es s in
    (ap (λ (t : State). t.next_entity) alone, ap (λ (t : State). t.next_activity) alone, ap (λ (t : State). t.next_timer) alone, ap (λ (t : State). t.next_event) alone)

same_fields : (e : ℕ) (fields : List FieldCode) (s : State) → SameNumbers s (after_changes (setting e fields) s)
same_fields e fields s =
    let alone = fields_set_alone e fields s in
    (ap (λ (t : State). t.next_entity) alone, ap (λ (t : State). t.next_activity) alone, ap (λ (t : State). t.next_timer) alone, ap (λ (t : State). t.next_event) alone)

-- one entity more, and its fields
one_made : (s t u : State) → t.next_entity ≤ s.next_entity + 1 → t.next_activity ≡ s.next_activity → t.next_timer ≡ s.next_timer → t.next_event ≡ s.next_event → SameNumbers t u → IsWithin 1 s u
one_made s t u more activity timer event same = record {
  entity = first s.next_entity t.next_entity u.next_entity more same.0;
  activity = le s.next_activity t.next_activity u.next_activity activity same.1;
  timer = le s.next_timer t.next_timer u.next_timer timer same.2;
  event = le s.next_event t.next_event u.next_event event same.3;
}
  where
    first : (n m p : ℕ) → m ≤ n + 1 → p ≡ m → p ≤ n + 1
    first n m p le is = omega (arith, le, is)

    le : (n m p : ℕ) → m ≡ n → p ≡ m → p ≤ n + 1
    le n m p one two = omega (arith, one, two)

within_child : (parent : ℕ) (relation : List ℕ) (priority : ℤ) (s : State) (o : Option RelationCode) → IsWithin 1 s (option_map_or (λ (r : RelationCode). with_child s parent relation r.block priority) o s)
within_child parent relation priority s None = still 1 s
within_child parent relation priority s (Some r) =
    let t = after_change (changes.CreateChild (record { 0 = parent }) relation r.block priority) s in
    one_made s t (with_child s parent relation r.block priority) (omega arith) refl refl refl (same_fields s.next_entity (block_fields s.deployment r.block) t)

within_attached : (k : ℕ) (s : State) (e a : ℕ) → IsWithin k s (attached s e a)
within_attached k s e a = cond_both (is_linked s.links e a) s _ (IsWithin k s) (λ _. still k s) (λ _. within_same k s _ (refl, refl, refl, refl))

within_effect : (x : Effect) (s : State) → IsWithin 1 s (after_effect x s)
within_effect (effects.SetField entity name value) s = within_same 1 s _ (refl, refl, refl, refl)
within_effect (effects.SetAttr activity key value) s = within_same 1 s _ (refl, refl, refl, refl)
within_effect (effects.Create parent relation priority) s = within_child (number_in parent) relation priority s (relation_at s (number_in parent) relation)
within_effect (effects.Remove entity) s = within_same 1 s _ (same_removed (tree_of s.entities (number_in entity)) s)
within_effect (effects.SetPriority entity priority) s = within_same 1 s _ (refl, refl, refl, refl)
within_effect (effects.Attach entity activity) s = within_attached 1 s (number_in entity) (number_in activity)
within_effect (effects.Detach entity activity) s = within_same 1 s _ (refl, refl, refl, refl)
within_effect (effects.SetMask entity activity event on) s = within_same 1 s _ (refl, refl, refl, refl)
within_effect (effects.Fire activity event service fields) s = record { entity = omega arith; activity = omega arith; timer = omega arith; event = omega arith }
within_effect effects.NewNull s = record { entity = omega arith; activity = omega arith; timer = omega arith; event = omega arith }
within_effect (effects.EndNull activity) s = record { entity = omega arith; activity = omega arith; timer = omega arith; event = omega arith }
within_effect (effects.SetTimer activity start period times keep) s = record { entity = omega arith; activity = omega arith; timer = omega arith; event = omega arith }
within_effect (effects.CancelTimer timer) s = within_same 1 s _ (refl, refl, refl, refl)
within_effect (effects.Bind name activity) s = within_same 1 s _ (refl, refl, refl, refl)
within_effect (effects.Unbind name) s = within_same 1 s _ (refl, refl, refl, refl)
within_effect (effects.Emit entity text) s = still 1 s
within_effect (effects.Usage entity name amount) s = still 1 s
within_effect (effects.Suspend activity until) s = within_same 1 s _ (refl, refl, refl, refl)
within_effect (effects.Resume activity) s = within_same 1 s _ (refl, refl, refl, refl)

pub within_effects : (xs : List Effect) (s : State) → IsWithin (length xs) s (after_effects xs s)
within_effects [] s = still 0 s
within_effects (x ∷ xs) s =
    within_more (1 + length xs) (suc (length xs)) s (after_effects xs (after_effect x s)) (omega arith) (within_then 1 (length xs) s (after_effect x s) (after_effects xs (after_effect x s)) (within_effect x s) (within_effects xs (after_effect x s)))

fewer_apply : (me : ℕ) (xs : List Effect) (s : State) → length (applying me xs s) ≤ length xs
fewer_apply me [] s = omega arith
fewer_apply me (x ∷ xs) s = cond_both (applies me x s) (x ∷ applying me xs (after_effect x s)) (applying me xs s) (λ ys. length ys ≤ suc (length xs)) (λ _. more (fewer_apply me xs (after_effect x s))) (λ _. less (fewer_apply me xs s))
  where
    more : {n m : ℕ} → n ≤ m → suc n ≤ suc m
    more le = omega (arith, le)

    less : {n m : ℕ} → n ≤ m → n ≤ suc m
    less le = omega (arith, le)

-- the effects of a delivery that apply
pub within_done : (me : ℕ) (xs : List Effect) (s : State) → IsWithin (length xs) s (done_effects me xs s)
within_done me xs s =
    let resolved = resolved_in s xs in
    within_more (length (applying me resolved s)) (length xs) s (done_effects me xs s) (below (length (applying me resolved s)) (length resolved) (length xs) (fewer_apply me resolved s) (length-map xs _)) (within_effects (applying me resolved s) s)
  where
    below : (n m k : ℕ) → n ≤ m → m ≡ k → n ≤ k
    below n m k le is = omega (arith, le, is)

-- lines

same_moment : (to : ℕ) (rows : List Suspension) (s : State) → SameNumbers s (after_change (changes.Advance to) (all_resumed rows s))
same_moment to [] s = (refl, refl, refl, refl)
same_moment to (row ∷ rows) s = same_moment to rows (resumed s row.activity.0)

within_occurred : (xs : List Occurrence) (s : State) → IsWithin (length xs) s (all_occurred xs s)
within_occurred [] s = still 0 s
within_occurred (x ∷ xs) s =
    within_more (1 + length xs) (suc (length xs)) s (all_occurred xs (occurred x s)) (omega arith)
    (within_then 1 (length xs) s (occurred x s) (all_occurred xs (occurred x s)) (record { entity = omega arith; activity = omega arith; timer = omega arith; event = omega arith }) (within_occurred xs (occurred x s)))

within_ended : (s : State) (a : ℕ) → IsWithin 1 s (ended s a)
within_ended s a = record { entity = omega arith; activity = omega arith; timer = omega arith; event = omega arith }

within_row : (table : ℕ) (row : List ℕ) (change : RowChange) (s : State) → IsWithin 1 s (row_changed table row change s)
within_row table row (RowAdded attributes) s = record { entity = omega arith; activity = omega arith; timer = omega arith; event = omega arith }
within_row table row (RowUpdated attributes) s = record { entity = omega arith; activity = omega arith; timer = omega arith; event = omega arith }
within_row table row RowRemoved s = record { entity = omega arith; activity = omega arith; timer = omega arith; event = omega arith }

-- how many occurrences of timers an action fires
abbrev occurrences_in : Action → ℕ
occurrences_in (SetClock to rows xs) = length xs
occurrences_in _ = 0

within_action : (x : Action) (s : State) → IsWithin (1 + occurrences_in x) s (after_action x s)
within_action (StartActivity name) s = record { entity = omega arith; activity = omega arith; timer = omega arith; event = omega arith }
within_action (EndActivity a) s = within_ended s a
within_action (FireEvent a event fields target) s = record { entity = omega arith; activity = omega arith; timer = omega arith; event = omega arith }
within_action (SetClock to rows xs) s =
    let t = after_change (changes.Advance to) (all_resumed rows (after_change (changes.Clock to) s)) in
    within_then 1 (length xs) s t (clocked to rows xs s) (within_same 1 s t (same_moment to rows (after_change (changes.Clock to) s))) (within_occurred xs t)
within_action (ActivateService n) s = record { entity = omega arith; activity = omega arith; timer = omega arith; event = omega arith }
within_action (StopService n a) s =
    let t = with_service s n states.Stopping a in
    within_if 1 (is_active t.activities a) s (ended t a) t (within_first 1 s t (ended t a) (refl, refl, refl, refl) (within_ended t a)) (within_same 1 s t (refl, refl, refl, refl))
within_action (ChangeRow table row change) s = within_row table row change s

-- as many occurrences are fired as are counted

inserted_more : {X : Type 0} (before : X → X → Bool) (x : X) (xs : List X) → length (inserted before x xs) ≡ suc (length xs)
inserted_more before x [] = refl
inserted_more before x (y ∷ ys) = cond_both (before x y) (x ∷ y ∷ ys) (y ∷ inserted before x ys) (λ zs. length zs ≡ suc (suc (length ys))) (λ _. refl) (λ _. ap suc (inserted_more before x ys))

sorted_same : {X : Type 0} (before : X → X → Bool) (xs : List X) → length (sorted before xs) ≡ length xs
sorted_same before [] = refl
sorted_same before (x ∷ xs) = inserted_more before x (sorted before xs) ∙ ap suc (sorted_same before xs)

fired_counted : (to : ℕ) (timers : List Timer) → length (flat_map (fired_of to) timers) ≡ fired_in_all to timers
fired_counted to [] = refl
fired_counted to (t ∷ timers) =
    added (length (fired_of to t)) (fired_count to t) (length (flat_map (fired_of to) timers)) (fired_in_all to timers) (length (flat_map (fired_of to) (t ∷ timers))) (fired_in_all to (t ∷ timers))
    (length-append (fired_of to t) (flat_map (fired_of to) timers)) (one t) (fired_counted to timers) (summed (fired_count to t) (map (fired_count to) timers))
  where
    one : (t : Timer) → length (fired_of to t) ≡ fired_count to t
    one t = length-map (range_with_len (due_count t to - fired_count to t) (fired_count to t)) (occurrence_of t) ∙ length-range_with_len (due_count t to - fired_count to t) (fired_count to t)

    summed : (n : ℕ) (ns : List ℕ) → sum (n ∷ ns) ≡ n + sum ns
    summed n ns = sum_by-cons (λ k. k) n ns

    added : (a b c d e f : ℕ) → e ≡ a + c → a ≡ b → c ≡ d → f ≡ b + d → e ≡ f
    added a b c d e f one two three four = omega (arith, one, two, three, four)

few_occurrences : (s : State) (to : ℕ) → nat_lt occurrence_limit (fired_in_all to s.timers) ≡ false → length (fired to s.timers) ≤ 10000
few_occurrences s to few =
    below (length (fired to s.timers)) (fired_in_all to s.timers) (sorted_same occurrence_before (flat_map (fired_of to) s.timers) ∙ fired_counted to s.timers) (ltb-false occurrence_limit (fired_in_all to s.timers) few)
  where
    below : (n m : ℕ) → n ≡ m → m ≤ 10000 → n ≤ 10000
    below n m is le = omega (arith, is, le)

within_clock : (s : State) (to : ℕ) → IsWithin 10001 s (taken (clocking s to) s)
within_clock s to = elim (cases_Bool (nat_lt to s.clock)) [
  | inl back ↦ rw back (within_same 10001 s (counted s) (refl, refl, refl, refl))
  | inr on ↦ rw on (elim (cases_Bool (nat_lt occurrence_limit (fired_in_all to s.timers))) [
    | inl many ↦ rw many (within_same 10001 s (counted s) (refl, refl, refl, refl))
    | inr few ↦ rw few (
        let x : Action = SetClock to (ending_suspensions to s.suspensions) (fired to s.timers) in
        within_more (1 + length (fired to s.timers)) 10001 s (after_action x (counted s)) (most (length (fired to s.timers)) (few_occurrences s to few))
        (within_first (1 + length (fired to s.timers)) s (counted s) (after_action x (counted s)) (refl, refl, refl, refl) (within_action x (counted s)))
        )
  ])
]
  where
    most : (n : ℕ) → n ≤ 10000 → 1 + n ≤ 10001
    most n le = omega (arith, le)

-- a line that isn't about the clock fires no occurrence
abbrev HasNone : Result Action Refusal → Type 0
HasNone (Ok x) = occurrences_in x ≡ 0
HasNone (Err why) = Unit {0}

none_then : {A : Type 0} (r : Result A Refusal) (f : A → Result Action Refusal) → ((x : A) → HasNone (f x)) → HasNone (and_then r f)
none_then (Ok x) f each = each x
none_then (Err why) f each = tt

none_if : (b : Bool) (why : Refusal) (x : Action) → occurrences_in x ≡ 0 → HasNone (refused_if b why x)
none_if b why x none = cond_both b (Err why) (Ok x) HasNone (λ _. tt) (λ _. none)

none_unless : (b : Bool) (why : Refusal) (r : Result Action Refusal) → HasNone r → HasNone (if b then Err why else r)
none_unless b why r none = cond_both b (Err why) r HasNone (λ _. tt) (λ _. none)

within_none : (r : Result Action Refusal) (s : State) → HasNone r → IsWithin 10001 s (taken r s)
within_none (Ok x) s none =
    within_more (1 + occurrences_in x) 10001 s (after_action x (counted s)) (few (occurrences_in x) none)
    (within_first (1 + occurrences_in x) s (counted s) (after_action x (counted s)) (refl, refl, refl, refl) (within_action x (counted s)))
  where
    few : (n : ℕ) → n ≡ 0 → 1 + n ≤ 10001
    few n is = omega (arith, is)
within_none (Err why) s none = within_same 10001 s (counted s) (refl, refl, refl, refl)

-- what a line does
pub within_line : (s : State) (signal : Signal) → IsWithin 10001 s (taken (action_of s signal) s)
within_line s (signals.Start name) = within_none (action_of s (signals.Start name)) s (none_if (is_some (external s.activities name)) refusals.Exists (StartActivity name) refl)
within_line s (signals.End name) = within_none (action_of s (signals.End name)) s (none_then (open_activity s name) _ (λ row. refl))
within_line s (signals.Fire name event service words) =
    within_none (action_of s (signals.Fire name event service words)) s
    (none_then (open_activity s name) _ (λ row. none_then (declared_event s.deployment event) _ (λ declared. none_then (target_of s.deployment service) _ (λ target. none_then (values_of declared.fields words) _ (λ values. refl)))))
within_line s (signals.Clock to) = within_clock s to
within_line s (signals.Activate service) =
    within_none (action_of s (signals.Activate service)) s (none_then (service_of_key s service) _ (λ x. none_if (not (is_inactive x.1.state)) refusals.NotInactive (ActivateService x.0) refl))
within_line s (signals.Deactivate service) =
    within_none (action_of s (signals.Deactivate service)) s (none_then (service_of_key s service) _ (λ x. none_if (not (is_service_active x.1.state)) refusals.NotActive (StopService x.0 x.1.activity.0) refl))
within_line s (signals.ProfileAdd table row words) =
    within_none (action_of s (signals.ProfileAdd table row words)) s
    (none_then (table_of_name s table) _ (λ n. none_unless (is_some (row_at s.rows n row)) refusals.RowExists _ (none_then (row_values s n row words) _ (λ values. refl))))
within_line s (signals.ProfileUpdate table row words) =
    within_none (action_of s (signals.ProfileUpdate table row words)) s
    (none_then (table_of_name s table) _ (λ n. none_unless (is_none (row_at s.rows n row)) refusals.NoRow _ (none_then (row_values s n row words) _ (λ values. refl))))
within_line s (signals.ProfileRemove table row) =
    within_none (action_of s (signals.ProfileRemove table row)) s (none_then (table_of_name s table) _ (λ n. none_if (is_none (row_at s.rows n row)) refusals.NoRow (ChangeRow n row RowRemoved) refl))

-- selections and finishes

within_root : (service : ℕ) (name : ConvName) (s : State) (o : Option DeployedService) → IsWithin 1 s (option_map_or (λ (row : DeployedService). root_of row s service name) o s)
within_root service name s None = still 1 s
within_root service name s (Some row) =
    let t = after_change (changes.Root (record { 0 = s.next_entity }) name) (after_change (changes.CreateRoot row.root service row.priority) s) in
    one_made s t (root_of row s service name) (omega arith) refl refl refl (same_fields s.next_entity (block_fields s.deployment row.root) t)

within_attaching : (x : Due) (root : Root) (s : State) → IsWithin 1 s (with_root_attached x root s)
within_attaching x NoRoot s = still 1 s
within_attaching x (OldRoot e) s = within_attached 1 s e x.activity
within_attaching x (NewRoot name) s =
    within_then 1 0 s (with_root s x.service name) (attached (with_root s x.service name) s.next_entity x.activity) (within_root x.service name s (service_at s.deployment x.service)) (within_attached 0 (with_root s x.service name) s.next_entity x.activity)

pub within_selected : (x : Due) (s : State) → IsWithin 1 s (with_root_attached x x.root (marked_service x s))
within_selected x s = within_first 1 s (marked_service x s) (with_root_attached x x.root (marked_service x s)) (refl, refl, refl, refl) (within_attaching x x.root (marked_service x s))

pub within_finished : (x : Finish) (s : State) → IsWithin 0 s (finished x s)
within_finished x s =
    let t = after_change (changes.Pop (record { 0 = x.activity })) s in
    let gone = dropped_is t x.activity in
    within_if 0 (is_end x) s (dropped t x.activity) t
    (within_same 0 s (dropped t x.activity) (ap (λ (u : State). u.next_entity) gone, ap (λ (u : State). u.next_activity) gone, ap (λ (u : State). u.next_timer) gone, ap (λ (u : State). u.next_event) gone))
    (within_same 0 s t (refl, refl, refl, refl))

-- a null activity that may end
pub within_closed_null : (a : ℕ) (s : State) → IsWithin 1 s (close_null a s)
within_closed_null a s = within_if 1 (is_idle_at s a) s (ended s a) s (within_ended s a) (still 1 s)
