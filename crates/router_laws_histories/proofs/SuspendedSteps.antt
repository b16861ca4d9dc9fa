-- Where the lines say at last that an activity's head event is suspended, it is, whatever a step is about.
use Rattle.std.proofs.Common.{◌≡◌, ℕ, ◌+◌, ◌^◌, ◌<◌, ◌≤◌, ◌==◌, Bool, true, false, not, List, [], ◌∷◌, ◌++◌, map, refl, sym, ◌∙◌, ap, subst, inl, inr, arith, if◌then◌else◌, Option, Some, None, Ok, Err, Result}
use Rattle.std.specs.Prelude.{codes}
use Rattle.std.specs.List.{AllByRecursion}
use Rattle.std.proofs.lemmas.Bool.{cases_Bool, cond_both}
use Rattle.built_in_events.specs.declared.built_in.BuiltInEvent.TheVariants as built_in_events
use Rattle.built_in_events.specs.BuiltIn.{name_of as built_in_name}
use Rattle.deploy_model.specs.Deployed.{service_key}
use Rattle.script_types.specs.declared.codes.RelationCode.{RelationCode}
use Rattle.signal_script.specs.Signals.{spelled}
use Rattle.slee_effect.specs.declared.effect.Effect.{Effect}
use Rattle.slee_effect.specs.declared.effect.Effect.TheVariants as effects
use Rattle.router_laws.proofs.ListRules.{all_append}
use Rattle.router_laws.proofs.Queues.{AreEventsBelow, first_of, head_is_first, popped_elsewhere}
use Rattle.router_laws_histories.proofs.AtMostOnce.{fired_below}
use Rattle.router_laws_histories.proofs.Growing.{Grows, RisesFrom}
use Rattle.router_laws_histories.proofs.HeadLemmas.{first_stays}
use Rattle.router_laws_histories.proofs.PlainLines.{ArePlain, IsKept, IsPlain, Leaves, attached_leaves, closing_leaves, detached_leaves, ended_leaves, kept_child, kept_dropped, kept_root, kept_then, leaves_if, leaves_then, occurred_leave, plain_created, plain_emitted, plain_exceptions, plain_gone, plain_refused, plain_rollbacks, plain_service, plain_started, plain_timer, plain_told, plain_usage, queued_leaves, tree_leaves}
use Rattle.router_laws_histories.proofs.Stepped.{IsLookedUp, begun, dropped_same, subject_grows}
use Rattle.router_laws_histories.proofs.Stepping.{closing_grows, effect_grows, effects_grow, taken_grows}
use Rattle.router_laws_histories.proofs.Suspending.{IsHeldBack, Suspends, resume_suspends, suspend_suspends, suspends_then}
use Rattle.router_laws_histories.specs.Fires.{Firing, fires_of_closing, fires_of_effects, fires_of_taken}
use Rattle.router_laws_histories.specs.Suspended.{AreReadableEnds, AreReadableHolds, IsReadableHold, told_by, told_suspended}
use Rattle.router_laws_histories.specs.Words.{fires_of_subject}
use Rattle.router_state.specs.State.{State}
use Rattle.router_state.specs.Changes.{after_change}
use Rattle.router_state.specs.Contexts.{is_active}
use Rattle.router_state.specs.Queues.{head_event, is_suspended, queue, without_suspension}
use Rattle.router_state.specs.Timing.{Occurrence}
use Rattle.router_state.specs.declared.change.Change.TheVariants as changes
use Rattle.router_state.specs.declared.rows.AcKind.TheVariants as kinds
use Rattle.router_state.specs.declared.rows.Event.{Event}
use Rattle.router_state.specs.declared.rows.Queued.{Queued}
use Rattle.router_state.specs.declared.rows.ServiceState.TheVariants as states
use Rattle.router_state.specs.declared.rows.Suspension.{Suspension}
use Rattle.router_steps.specs.declared.refusal.Refusal.{Refusal}
use Rattle.router_steps.specs.Actions.{Action, StartActivity, EndActivity, FireEvent, SetClock, ActivateService, StopService, ChangeRow, RowChange, RowAdded, RowUpdated, RowRemoved, change_of_row, event_of_row}
use Rattle.router_steps.specs.Closing.{closing, lines_of_closing}
use Rattle.router_steps.specs.Creating.{with_root}
use Rattle.router_steps.specs.Applying.{applied_in, lines_of_done_effects}
use Rattle.router_steps.specs.Effects.{after_effect, after_effects, lines_of_effect, lines_of_effects, number_in, plain_field, relation_at, service_for}
use Rattle.router_steps.specs.Lines.{created_line, deliver_heading, exception_line, finish_heading, gone_line, initial_heading, initial_none_heading, input_heading, refused_line, rolled_back_line, service_line, started_line, timer_line, usage_line}
use Rattle.router_steps.specs.Moves.{attached, dropped, ended, lines_of_attached, lines_of_queued, lines_of_resumed, resumed, with_service}
use Rattle.router_steps.specs.Steps.{Due, Finish, Root, NoRoot, OldRoot, NewRoot, Subject, Taking, Selecting, Delivering, Finishing, after_subject, finished, is_end, line_of_callback, lines_of_finish, lines_of_root, lines_of_subject, marked_entity, marked_service, with_root_attached}
use Rattle.router_steps.specs.Taking.{after_action, all_occurred, all_resumed, counted, occurred, ended_if, lines_of_action, lines_of_all_occurred, lines_of_all_resumed, lines_of_ended_if, lines_of_taken, row_changed, taken}
use Rattle.trace_history.specs.Words.{words_in}

-- head events stay where events are put behind those that wait

head_grows : (s t : State) (lines : List (List ℕ)) (fires : List Firing) → Grows s t lines fires → (a : ℕ) (v : Event) → head_event s.events a ≡ Some v → head_event t.events a ≡ Some v
head_grows s t lines fires grows a v is =
    head_is_first t.events a ∙ ap first_of (grows.queues a) ∙ first_stays (queue s.events a) _ v (sym (head_is_first s.events a) ∙ is)

plainly : (s t : State) (lines : List (List ℕ)) (fires : List Firing) → Grows s t lines fires → t.suspensions ≡ s.suspensions → ArePlain lines → Suspends s t lines
plainly s t lines fires grows same plain a was fits begins ends =
    let held = begins (sym (plain_told lines plain a was) ∙ ends) in
    (ap (λ rows. is_suspended rows a) same ∙ held.0, (held.1.0, head_grows s t lines fires grows a held.1.0 held.1.1))

headed : (s t : State) (line : List ℕ) (lines : List (List ℕ)) → IsPlain line → Suspends s t lines → Suspends s t (line ∷ lines)
headed s t line lines plain one a was fits begins ends = one a was fits begins (subst (λ w. told_suspended a w lines ≡ true) (plain a was) ends)

behind : (s t : State) (lines more : List (List ℕ)) → ArePlain lines → Suspends s t more → Suspends s t (lines ++ more)
behind s t [] more plain one = one
behind s t (line ∷ lines) more plain one = headed s t line (lines ++ more) plain.0 (behind s t lines more plain.1 one)

-- numbers of head events

head_below : (events : List Queued) (n b : ℕ) (v : Event) → AreEventsBelow n events → head_event events b ≡ Some v → v.id.0 < n
head_below [] n b v below is = absurd (cc)
head_below (q ∷ qs) n b v below is = elim (cases_Bool (q.activity.0 == b)) [
  | inl own ↦ let same : Some q.event ≡ Some v = rw own at is in subst (λ (w : Event). w.id.0 < n) (same_some same) below.0
  | inr other ↦ head_below qs n b v below.1 (rw other at is)
]
  where
    same_some : {X : Type 0} {x y : X} → Some x ≡ Some y → x ≡ y
    same_some same = cc

small : (s : State) (b : ℕ) → AreEventsBelow s.next_event s.events → s.next_event ≤ 2 ^ 64 → (v : Event) → head_event s.events b ≡ Some v → v.id.0 < 2 ^ 64
small s b below few v is = let less = head_below s.events s.next_event b v below is in omega (arith, less, few)

fewer : (n m : ℕ) (fires : List Firing) → RisesFrom n fires m → m ≤ 2 ^ 64 → n ≤ 2 ^ 64
fewer n m fires rises few = let le = fired_below n m fires rises in omega (arith, le, few)

-- effects

effect_leaves : (x : Effect) (s : State) → AreEventsBelow s.next_event s.events → Leaves s (after_effect x s) (lines_of_effect x s) → Suspends s (after_effect x s) (lines_of_effect x s)
effect_leaves x s below leaves = plainly s (after_effect x s) (lines_of_effect x s) _ (effect_grows x s below) leaves.0.0 leaves.1

effect_suspends : (x : Effect) (s : State) → AreEventsBelow s.next_event s.events → s.next_event ≤ 2 ^ 64 → IsReadableHold x → Suspends s (after_effect x s) (lines_of_effect x s)
effect_suspends (effects.SetField entity name value) s below few fits = effect_leaves (effects.SetField entity name value) s below ((refl, refl), tt)
effect_suspends (effects.SetAttr activity key value) s below few fits = effect_leaves (effects.SetAttr activity key value) s below ((refl, refl), tt)
effect_suspends (effects.Create parent relation priority) s below few fits =
    effect_leaves (effects.Create parent relation priority) s below
    (kept_child (number_in parent) relation priority s (relation_at s (number_in parent) relation), (plain_created s.next_entity (number_in parent) relation, tt))
effect_suspends (effects.Remove entity) s below few fits = effect_leaves (effects.Remove entity) s below (tree_leaves s (number_in entity))
effect_suspends (effects.SetPriority entity priority) s below few fits = effect_leaves (effects.SetPriority entity priority) s below ((refl, refl), tt)
effect_suspends (effects.Attach entity activity) s below few fits = effect_leaves (effects.Attach entity activity) s below (attached_leaves s (number_in entity) (number_in activity))
effect_suspends (effects.Detach entity activity) s below few fits = effect_leaves (effects.Detach entity activity) s below (detached_leaves s (number_in entity) (number_in activity))
effect_suspends (effects.SetMask entity activity event on) s below few fits = effect_leaves (effects.SetMask entity activity event on) s below ((refl, refl), tt)
effect_suspends (effects.Fire activity event service fields) s below few fits = effect_leaves (effects.Fire activity event service fields) s below (queued_leaves s (number_in activity) event (map plain_field fields) (service_for s service))
effect_suspends effects.NewNull s below few fits = effect_leaves effects.NewNull s below ((refl, refl), (plain_started s.next_activity (codes "null"), tt))
effect_suspends (effects.EndNull activity) s below few fits = effect_leaves (effects.EndNull activity) s below (ended_leaves s (number_in activity))
effect_suspends (effects.SetTimer activity start period times keep) s below few fits =
    effect_leaves (effects.SetTimer activity start period times keep) s below ((refl, refl), (plain_timer s.next_timer (number_in activity), tt))
effect_suspends (effects.CancelTimer timer) s below few fits = effect_leaves (effects.CancelTimer timer) s below ((refl, refl), tt)
effect_suspends (effects.Bind name activity) s below few fits = effect_leaves (effects.Bind name activity) s below ((refl, refl), tt)
effect_suspends (effects.Unbind name) s below few fits = effect_leaves (effects.Unbind name) s below ((refl, refl), tt)
effect_suspends (effects.Emit entity text) s below few fits = effect_leaves (effects.Emit entity text) s below ((refl, refl), plain_emitted (record { 0 = number_in entity }) text)
effect_suspends (effects.Usage entity name amount) s below few fits = effect_leaves (effects.Usage entity name amount) s below ((refl, refl), (plain_usage (number_in entity) name amount, tt))
effect_suspends (effects.Suspend activity until) s below few fits = suspend_suspends s (number_in activity) until fits (small s (number_in activity) below few)
effect_suspends (effects.Resume activity) s below few fits = resume_suspends s (number_in activity) fits (small s (number_in activity) below few)

effects_suspend : (xs : List Effect) (s : State) → AreEventsBelow s.next_event s.events → (after_effects xs s).next_event ≤ 2 ^ 64 → AllByRecursion IsReadableHold xs
    → Suspends s (after_effects xs s) (lines_of_effects xs s)
effects_suspend [] s below few fits = λ a was small_a begins ends. begins ends
effects_suspend (x ∷ xs) s below few fits =
    let one = effect_grows x s below in
    let all = effects_grow (x ∷ xs) s below in
    suspends_then s (after_effect x s) (after_effects xs (after_effect x s)) (lines_of_effect x s) (lines_of_effects xs (after_effect x s))
    (effect_suspends x s below (fewer s.next_event (after_effects (x ∷ xs) s).next_event (fires_of_effects (x ∷ xs) s) all.numbers few) fits.0)
    (effects_suspend xs (after_effect x s) one.below few fits.1)

-- lines that are taken

all_resume : (rows : List Suspension) (s : State) → ((b : ℕ) (v : Event) → head_event s.events b ≡ Some v → v.id.0 < 2 ^ 64) → AllByRecursion (λ (row : Suspension). row.activity.0 < 2 ^ 64) rows
    → Suspends s (all_resumed rows s) (lines_of_all_resumed rows s)
all_resume [] s few fits = λ a was small_a begins ends. begins ends
all_resume (row ∷ rows) s few fits =
    suspends_then s (resumed s row.activity.0) (all_resumed rows (resumed s row.activity.0)) (lines_of_resumed s row.activity.0) (lines_of_all_resumed rows (resumed s row.activity.0))
    (resume_suspends s row.activity.0 fits.0 (few row.activity.0))
    (all_resume rows (resumed s row.activity.0) few fits.1)

-- their lines are of suspensions and events alone
resumed_told : (rows : List Suspension) (s t : State) → t.suspensions ≡ s.suspensions → t.events ≡ s.events → lines_of_all_resumed rows t ≡ lines_of_all_resumed rows s
resumed_told [] s t held events = refl
resumed_told (row ∷ rows) s t held events =
    rw (resumed_told rows (resumed s row.activity.0) (resumed t row.activity.0) (ap (λ all. without_suspension all row.activity.0) held) events, held, events) refl

resumed_events : (rows : List Suspension) (s : State) → ((all_resumed rows s).events ≡ s.events) × ((all_resumed rows s).next_event ≡ s.next_event)
resumed_events [] s = (refl, refl)
resumed_events (row ∷ rows) s = resumed_events rows (resumed s row.activity.0)

occurred_told : (xs : List Occurrence) (s t : State) → t.next_event ≡ s.next_event → lines_of_all_occurred xs t ≡ lines_of_all_occurred xs s
occurred_told [] s t same = refl
occurred_told (x ∷ xs) s t same = rw (occurred_told xs (occurred x s) (occurred x t) (ap (λ n. n + 1) same), same) refl

kept_row : (table : ℕ) (row : List ℕ) (change : RowChange) (s : State) → IsKept s (after_change (change_of_row table row change) s)
kept_row table row (RowAdded values) s = (refl, refl)
kept_row table row (RowUpdated values) s = (refl, refl)
kept_row table row RowRemoved s = (refl, refl)

taken_leaves : (x : Action) (s : State) → AreEventsBelow s.next_event s.events → Leaves (counted s) (after_action x (counted s)) (lines_of_action x s) → Suspends s (after_action x (counted s)) (lines_of_action x s)
taken_leaves x s below leaves = plainly s (after_action x (counted s)) (lines_of_action x s) _ (taken_grows (Ok x) s below) leaves.0.0 leaves.1

action_suspends : (x : Action) (s : State) → AreEventsBelow s.next_event s.events → (after_action x (counted s)).next_event ≤ 2 ^ 64 → AreReadableEnds (Ok x) → Suspends s (after_action x (counted s)) (lines_of_action x s)
action_suspends (StartActivity name) s below few fits = taken_leaves (StartActivity name) s below ((refl, refl), (plain_started s.next_activity name, tt))
action_suspends (EndActivity a) s below few fits = taken_leaves (EndActivity a) s below (ended_leaves (counted s) a)
action_suspends (FireEvent a event fields target) s below few fits = taken_leaves (FireEvent a event fields target) s below (queued_leaves (counted s) a event fields target)
action_suspends (SetClock to suspensions occurrences) s below few fits =
    let set = after_change (changes.Clock to) (counted s) in
    let free = all_resumed suspensions set in
    let advanced = after_change (changes.Advance to) free in
    let events = resumed_events suspensions set in
    let all = taken_grows (Ok (SetClock to suspensions occurrences)) s below in
    let now : s.next_event ≤ 2 ^ 64 = fewer s.next_event (after_action (SetClock to suspensions occurrences) (counted s)).next_event (fires_of_taken (Ok (SetClock to suspensions occurrences)) (counted s)) all.numbers few in
    let resumes : Suspends s free (lines_of_all_resumed suspensions s) =
    subst (λ lines. Suspends s free lines) (resumed_told suspensions s set refl refl) (all_resume suspensions set (λ b. small s b below now) fits) in
    let occurs : Leaves advanced (all_occurred occurrences advanced) (lines_of_all_occurred occurrences s) =
    subst (λ lines. Leaves advanced (all_occurred occurrences advanced) lines) (occurred_told occurrences s advanced events.1) (occurred_leave occurrences advanced) in
    suspends_then s free (all_occurred occurrences advanced) (lines_of_all_resumed suspensions s) (lines_of_all_occurred occurrences s) resumes
    (λ a was small_a begins ends.
    let held = begins (sym (plain_told (lines_of_all_occurred occurrences s) occurs.1 a was) ∙ ends) in
    let head : head_event s.events a ≡ Some held.1.0 = sym (ap (λ rows. head_event rows a) events.0) ∙ held.1.1 in
    (ap (λ rows. is_suspended rows a) occurs.0.0 ∙ held.0, (held.1.0, head_grows s (all_occurred occurrences advanced) _ _ all a held.1.0 head)))
action_suspends (ActivateService n) s below few fits =
    taken_leaves (ActivateService n) s below
    ((refl, refl), (plain_service (service_key s.deployment n) (codes "active"), (plain_started s.next_activity (codes "service " ++ service_key s.deployment n), (queued_leaves s s.next_activity (built_in_name built_in_events.ServiceStarted) [] None).1)))
action_suspends (StopService n a) s below few fits =
    let t = with_service (counted s) n states.Stopping a in
    taken_leaves (StopService n a) s below
    (leaves_then (counted s) t (ended_if a t) (service_line (service_key s.deployment n) (codes "stopping") ∷ []) (lines_of_ended_if a s) ((refl, refl), (plain_service (service_key s.deployment n) (codes "stopping"), tt))
    (leaves_if (is_active s.activities a) t (ended t a) _ (ended_leaves t a)))
action_suspends (ChangeRow table row change) s below few fits =
    taken_leaves (ChangeRow table row change) s below (kept_row table row change (counted s), (queued_leaves s _ (event_of_row change) [] None).1)

taken_suspends : (x : Result Action Refusal) (s : State) → AreEventsBelow s.next_event s.events → (taken x s).next_event ≤ 2 ^ 64 → AreReadableEnds x → Suspends s (taken x s) (lines_of_taken x s)
taken_suspends (Ok x) s below few fits = action_suspends x s below few fits
taken_suspends (Err why) s below few fits = plainly s (counted s) (refused_line why ∷ []) _ (taken_grows (Err why) s below) refl (plain_refused why, tt)

-- what a step is about

pub root_leaves : (x : Due) (root : Root) (s : State) → Leaves s (with_root_attached x root (marked_service x s)) (lines_of_root x root s)
root_leaves x NoRoot s = ((refl, refl), ((λ a was. refl), tt))
root_leaves x (OldRoot e) s =
    leaves_then s (marked_service x s) (attached (marked_service x s) e x.activity) (initial_heading x.activity x.event.id.0 (service_key s.deployment x.service) e (codes "old") ∷ []) (lines_of_attached s e x.activity)
    ((refl, refl), ((λ a was. refl), tt)) (attached_leaves (marked_service x s) e x.activity)
root_leaves x (NewRoot name) s =
    let t = with_root (marked_service x s) x.service name in
    let more = attached_leaves t s.next_entity x.activity in (
      kept_then s t (attached t s.next_entity x.activity) (kept_root x.service name (marked_service x s)) more.0,
      ((λ a was. refl), (attached_leaves (with_root s x.service name) s.next_entity x.activity).1),
    )

-- a finish is of an activity that isn't suspended
abbrev pub IsFree : Subject → State → Type 0
IsFree (Taking signal action) s = Unit {0}
IsFree (Selecting x) s = is_suspended s.suspensions x.activity ≡ false
IsFree (Delivering x) s = is_suspended s.suspensions x.activity ≡ false
IsFree (Finishing x) s = is_suspended s.suspensions x.activity ≡ false

finish_suspends : (x : Finish) (s : State) → is_suspended s.suspensions x.activity ≡ false → Suspends s (finished x s) (lines_of_finish x)
finish_suspends x s free a was fits begins ends =
    let plain : ArePlain (lines_of_finish x) = ((λ b w. refl), cond_both (is_end x) (gone_line x.activity ∷ []) [] ArePlain (λ _. (plain_gone x.activity, tt)) (λ _. tt)) in
    let held = begins (sym (plain_told (lines_of_finish x) plain a was) ∙ ends) in
    let kept : (finished x s).suspensions ≡ s.suspensions = cond_both (is_end x) (dropped t x.activity) t (λ (u : State). u.suspensions ≡ s.suspensions) (λ _. (kept_dropped x.activity t).0) (λ _. refl) in
    let other : (x.activity == a) ≡ false = elim (cases_Bool (x.activity == a)) [
      | inr isnt ↦ isnt
      | inl is ↦ absurd (clash (is_suspended s.suspensions a) (subst (λ n. is_suspended s.suspensions n ≡ false) (number x.activity a is) free) held.0)
    ] in
    let same : queue (finished x s).events a ≡ queue s.events a = ap (λ rows. queue rows a) (dropped_same x s).0 ∙ popped_elsewhere s.events x.activity a other in (
      ap (λ rows. is_suspended rows a) kept ∙ held.0,
      (held.1.0, head_is_first (finished x s).events a ∙ ap first_of same ∙ sym (head_is_first s.events a) ∙ held.1.1),
    )
  where
    t : State
    t = after_change (changes.Pop (record { 0 = x.activity })) s

    number : (b c : ℕ) → (b == c) ≡ true → b ≡ c
    number b c is = grind (arith, is)

    clash : (b : Bool) → b ≡ false → b ≡ true → ⊥
    clash b one two = absurd (cc)

subject_suspends : (x : Subject) (s : State) → IsLookedUp x s → IsFree x s → AreEventsBelow s.next_event s.events → (after_subject x s).next_event ≤ 2 ^ 64 → AreReadableHolds x s
    → Suspends s (after_subject x s) (lines_of_subject x s)
subject_suspends (Taking signal action) s is free below few fits =
    headed s (taken action s) (input_heading (spelled signal)) (lines_of_taken action s) (λ a was. refl) (taken_suspends action s below few fits)
subject_suspends (Selecting x) s is free below few fits =
    plainly s (after_subject (Selecting x) s) (lines_of_root x x.root s) _ (subject_grows (Selecting x) s is below) (root_leaves x x.root s).0.0 (root_leaves x x.root s).1
subject_suspends (Delivering x) s is free below few fits =
    let t = marked_entity x s in
    let done = effects_suspend (applied_in x.entity.number.0 t x.delivered.effects) t below few fits.1 in
    headed s (after_effects (applied_in x.entity.number.0 t x.delivered.effects) t) (deliver_heading x.activity x.event.id.0 x.entity.number.0 x.delivered.outcome)
    (line_of_callback exception_line x.delivered.exception ++ (line_of_callback rolled_back_line x.delivered.rolled_back ++ lines_of_done_effects x.entity.number.0 x.delivered.effects t)) (λ a was. refl)
    (behind s (after_effects (applied_in x.entity.number.0 t x.delivered.effects) t) (line_of_callback exception_line x.delivered.exception) (line_of_callback rolled_back_line x.delivered.rolled_back ++ lines_of_done_effects x.entity.number.0 x.delivered.effects t) (plain_exceptions x.delivered.exception)
    (behind s (after_effects (applied_in x.entity.number.0 t x.delivered.effects) t) (line_of_callback rolled_back_line x.delivered.rolled_back) (lines_of_done_effects x.entity.number.0 x.delivered.effects t) (plain_rollbacks x.delivered.rolled_back) done))
subject_suspends (Finishing x) s is free below few fits = finish_suspends x s free

-- a step
pub step_suspends : (x : Subject) (s : State) → IsLookedUp x s → IsFree x s → AreEventsBelow s.next_event s.events → (closing (after_subject x s)).next_event ≤ 2 ^ 64 → AreReadableHolds x s
    → Suspends s (closing (after_subject x s)) (lines_of_subject x s ++ lines_of_closing (after_subject x s))
step_suspends x s is free below few fits =
    let one = subject_grows x s is below in
    let closed = closing_grows (after_subject x s) one.below in
    suspends_then s (after_subject x s) (closing (after_subject x s)) (lines_of_subject x s) (lines_of_closing (after_subject x s))
    (subject_suspends x s is free below (fewer (after_subject x s).next_event (closing (after_subject x s)).next_event (fires_of_closing (after_subject x s)) closed.numbers few) fits)
    (plainly (after_subject x s) (closing (after_subject x s)) (lines_of_closing (after_subject x s)) _ closed (closing_leaves (after_subject x s)).0.0 (closing_leaves (after_subject x s)).1)
