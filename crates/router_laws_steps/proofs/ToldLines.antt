-- What lines fire is read as it was written.
use Rattle.built_in_events.specs.BuiltIn.{name_of as built_in_name}
use Rattle.router_laws_histories.specs.Fires.{fires_of_occurrences, fires_of_taken}
use Rattle.router_laws_histories.specs.Words.{IsWord}
use Rattle.router_laws_steps.proofs.LineFacts.{table_active}
use Rattle.router_laws_steps.proofs.LineMoves.{active_is_there, all_sorted, of_timers}
use Rattle.router_laws_steps.proofs.Taken.{external_open, table_there, there_ok}
use Rattle.router_laws_steps.proofs.Told.{IsSaid, end_word, there_is_below, word_from}
use Rattle.router_laws_steps.specs.About.{AreWords}
use Rattle.router_state.specs.Changes.{after_change}
use Rattle.router_state.specs.Contexts.{external, is_active}
use Rattle.router_state.specs.Profiles.{row_at}
use Rattle.router_state.specs.Services.{is_active as is_service_active, is_inactive}
use Rattle.router_state.specs.State.{State}
use Rattle.router_state.specs.Timing.{Occurrence, ending_suspensions, fired, fired_in_all, fired_of, occurrence_before, occurrence_limit}
use Rattle.router_state.specs.Well.{IsSound}
use Rattle.router_state.specs.WellRows.{is_timer_row}
use Rattle.router_state.specs.declared.rows.Activity.{Activity}
use Rattle.router_state.specs.declared.rows.Suspension.{Suspension}
use Rattle.router_state.specs.declared.rows.Timer.{Timer}
use Rattle.router_steps.specs.Actions.{Action, ActivateService, ChangeRow, RowAdded, RowChange, RowRemoved, RowUpdated, StartActivity, StopService, action_of, adding, and_then, clocking, declared_event, event_of_row, open_activity, refused_if, removing, row_values, service_of_key, table_of_name, target_of, updating, values_of}
use Rattle.router_steps.specs.Moves.{resumed}
use Rattle.router_steps.specs.Taking.{all_occurred, all_resumed, counted, occurred, row_changed, taken}
use Rattle.router_steps.specs.declared.refusal.Refusal.{Refusal}
use Rattle.rows_sorted.specs.Orders.{rises_in}
use Rattle.script_meaning.specs.Values.{number}
use Rattle.script_types.specs.Codes.{named}
use Rattle.script_types.specs.declared.codes.EventCode.{EventCode}
use Rattle.signal_script.specs.declared.signal.Signal.{Signal}
use Rattle.std.proofs.Common.{Bool, List, [], arith, false, flat_map, inl, inr, length, refl, subst, sym, true, ℕ, ◌+◌, ◌<◌, ◌∙◌, ◌∷◌, ◌≡◌}
use Rattle.std.proofs.lemmas.Bool.{and_parts, cases_Bool}
use Rattle.std.specs.List.{AllByRecursion, list_all}
use Rattle.std.specs.Prelude.{Err, Ok, Result, is_none, is_some, nat_lt, not}
use Rattle.built_in_events.specs.declared.built_in.BuiltInEvent.TheVariants as built_in_events
use Rattle.router_state.specs.declared.change.Change.TheVariants as changes
use Rattle.router_steps.specs.declared.refusal.Refusal.TheVariants as refusals
use Rattle.signal_script.specs.declared.signal.Signal.TheVariants as signals

-- what a line fires is said, by the numbers that are next behind it
abbrev Says : State → Result Action Refusal → Type 0
Says s r = AllByRecursion (IsSaid (taken r s).next_activity) (fires_of_taken r (counted s))

says_then : {A : Type 0} (s : State) (r : Result A Refusal) (f : A → Result Action Refusal) → ((x : A) → r ≡ Ok x → Says s (f x)) → Says s (and_then r f)
says_then s (Ok x) f each = each x refl
says_then s (Err why) f each = tt

says_if : (s : State) (b : Bool) (why : Refusal) (x : Action) → Says s (Ok x) → Says s (refused_if b why x)
says_if s true why x says = tt
says_if s false why x says = says

occurred_leaves : (xs : List Occurrence) (s : State) → (all_occurred xs s).next_activity ≡ s.next_activity
occurred_leaves [] s = refl
occurred_leaves (x ∷ xs) s = occurred_leaves xs (occurred x s)

timer_word : IsWord (built_in_name built_in_events.Timer)
timer_word = word_from (built_in_name built_in_events.Timer) refl

said_occurred : (n : ℕ) (xs : List Occurrence) (s : State) → AllByRecursion (λ (x : Occurrence). x.activity < n) xs → AllByRecursion (IsSaid n) (fires_of_occurrences xs s)
said_occurred n [] s all = tt
said_occurred n (x ∷ xs) s all = ((all.0, timer_word), said_occurred n xs (occurred x s) all.1)

moment_next : (to : ℕ) (rows : List Suspension) (s : State) → (after_change (changes.Advance to) (all_resumed rows s)).next_activity ≡ s.next_activity
moment_next to [] s = refl
moment_next to (row ∷ rows) s = moment_next to rows (resumed s row.activity.0)

says_clock : (s : State) (to : ℕ) → IsSound s → Says s (clocking s to)
says_clock s to sound = elim (cases_Bool (nat_lt to s.clock)) [
  | inl back ↦ rw back tt
  | inr on ↦ rw on (elim (cases_Bool (nat_lt occurrence_limit (fired_in_all to s.timers))) [
    | inl many ↦ rw many tt
    | inr few ↦ rw few fires
  ])
]
  where
    begun : State
    begun = after_change (changes.Advance to) (all_resumed (ending_suspensions to s.suspensions) (after_change (changes.Clock to) (counted s)))

    each : (xs : List Occurrence) → AllByRecursion (λ (x : Occurrence). (is_active s.activities x.activity ≡ true) × (nat_lt x.timer s.next_timer ≡ true)) xs → AllByRecursion (λ (x : Occurrence). x.activity < s.next_activity) xs
    each [] all = tt
    each (x ∷ xs) all = (there_is_below s x.activity sound (active_is_there s x.activity all.0.0), each xs all.1)

    fires : AllByRecursion (IsSaid (all_occurred (fired to s.timers) begun).next_activity) (fires_of_occurrences (fired to s.timers) begun)
    fires =
        let ticking = and_parts (rises_in (λ (t : Timer). t.number.0) s.timers) (list_all (is_timer_row s.activities s.next_timer) s.timers) sound.timers in
        let all = all_sorted (λ (x : Occurrence). (is_active s.activities x.activity ≡ true) × (nat_lt x.timer s.next_timer ≡ true)) occurrence_before (flat_map (fired_of to) s.timers) (of_timers s.activities s.next_timer to s.timers ticking.1) in
        subst (λ n. AllByRecursion (IsSaid n) (fires_of_occurrences (fired to s.timers) begun)) (sym (occurred_leaves (fired to s.timers) begun ∙ moment_next to (ending_suspensions to s.suspensions) (after_change (changes.Clock to) (counted s))))
        (said_occurred s.next_activity (fired to s.timers) begun (each (fired to s.timers) all))

row_word : (change : RowChange) → IsWord (event_of_row change)
row_word (RowAdded attributes) = word_from (event_of_row (RowAdded attributes)) refl
row_word (RowUpdated attributes) = word_from (event_of_row (RowUpdated attributes)) refl
row_word RowRemoved = word_from (event_of_row RowRemoved) refl

says_change : (s : State) (n : ℕ) (row : List ℕ) (change : RowChange) → IsSound s → nat_lt n (length s.deployment.tables) ≡ true → Says s (Ok (ChangeRow n row change))
says_change s n row change sound there = ((subst (λ k. n + 1 < k) (sym (leaves change)) (there_is_below s (n + 1) sound (active_is_there s (n + 1) (table_active s n sound there))), row_word change), tt)
  where
    leaves : (change : RowChange) → (row_changed n row change (counted s)).next_activity ≡ s.next_activity
    leaves (RowAdded attributes) = refl
    leaves (RowUpdated attributes) = refl
    leaves RowRemoved = refl

says_adding : (s : State) (n : ℕ) (row : List ℕ) (words : List (List ℕ × List ℕ)) → IsSound s → nat_lt n (length s.deployment.tables) ≡ true → Says s (adding s n row words)
says_adding s n row words sound there = elim (cases_Bool (is_some (row_at s.rows n row))) [
  | inl had ↦ rw had tt
  | inr new ↦ rw new (says_then s (row_values s n row words) _ (λ vs given. says_change s n row (RowAdded vs) sound there))
]

says_updating : (s : State) (n : ℕ) (row : List ℕ) (words : List (List ℕ × List ℕ)) → IsSound s → nat_lt n (length s.deployment.tables) ≡ true → Says s (updating s n row words)
says_updating s n row words sound there = elim (cases_Bool (is_none (row_at s.rows n row))) [
  | inl none ↦ rw none tt
  | inr had ↦ rw had (says_then s (row_values s n row words) _ (λ vs given. says_change s n row (RowUpdated vs) sound there))
]

says_removing : (s : State) (n : ℕ) (row : List ℕ) → IsSound s → nat_lt n (length s.deployment.tables) ≡ true → Says s (removing s n row)
says_removing s n row sound there = elim (cases_Bool (is_none (row_at s.rows n row))) [
  | inl none ↦ rw none tt
  | inr had ↦ rw had (says_change s n row RowRemoved sound there)
]

open_is_there : (s : State) (name : List ℕ) (row : Activity) → IsSound s → open_activity s name ≡ Ok row → row.number.0 < s.next_activity
open_is_there s name row sound found = there_is_below s row.number.0 sound (rw (external_open s name row sound found).found refl)

started_word : IsWord (built_in_name built_in_events.ServiceStarted)
started_word = word_from (built_in_name built_in_events.ServiceStarted) refl

says_stop : (s : State) (n a : ℕ) → IsSound s → Says s (Ok (StopService n a))
says_stop s n a sound = elim (cases_Bool (is_active s.activities a)) [
  | inl active ↦ rw active ((there_is_below s a sound (active_is_there s a active), end_word), tt)
  | inr idle ↦ rw idle tt
]

said_line : (s : State) (signal : Signal) → IsSound s → AreWords s.deployment → Says s (action_of s signal)
said_line s (signals.Start name) sound words = says_if s (is_some (external s.activities name)) refusals.Exists (StartActivity name) tt
said_line s (signals.End name) sound words = says_then s (open_activity s name) _ (λ row found. ((open_is_there s name row sound found, end_word), tt))
said_line s (signals.Fire name event service fields) sound words =
    says_then s (open_activity s name) _ (λ row found.
    says_then s (declared_event s.deployment event) _ (λ code known.
    says_then s (target_of s.deployment service) _ (λ target meant.
    says_then s (values_of code.fields fields) _ (λ vs given.
    ((open_is_there s name row sound found, words.declared event (rw (there_ok refusals.UnknownEvent (named (λ (e : EventCode). e.name) event s.deployment.events) code known) refl)), tt)))))
said_line s (signals.Clock to) sound words = says_clock s to sound
said_line s (signals.Activate service) sound words =
    says_then s (service_of_key s service) _ (λ x found. says_if s (not (is_inactive x.1.state)) refusals.NotInactive (ActivateService x.0) ((next_less s.next_activity, started_word), tt))
  where
    next_less : (n : ℕ) → n < n + 1
    next_less n = omega arith
said_line s (signals.Deactivate service) sound words =
    says_then s (service_of_key s service) _ (λ x found. says_if s (not (is_service_active x.1.state)) refusals.NotActive (StopService x.0 x.1.activity.0) (says_stop s x.0 x.1.activity.0 sound))
said_line s (signals.ProfileAdd table row fields) sound words = says_then s (table_of_name s table) _ (λ n found. says_adding s n row fields sound (table_there s table n found))
said_line s (signals.ProfileUpdate table row fields) sound words = says_then s (table_of_name s table) _ (λ n found. says_updating s n row fields sound (table_there s table n found))
said_line s (signals.ProfileRemove table row) sound words = says_then s (table_of_name s table) _ (λ n found. says_removing s n row sound (table_there s table n found))

pub said_taken : (s : State) (signal : Signal) → IsSound s → AreWords s.deployment → AllByRecursion (IsSaid (taken (action_of s signal) s).next_activity) (fires_of_taken (action_of s signal) (counted s))
said_taken s signal sound words = said_line s signal sound words
