-- What steps say of suspensions is read as it was written.
use Rattle.deploy_model.specs.Deployed.{Deployed}
use Rattle.router_laws.proofs.KeptLemmas.{same_after, same_effect}
use Rattle.router_laws_histories.proofs.DeliveryOrder.{delivered_first}
use Rattle.router_laws_histories.proofs.Receiving.{chained}
use Rattle.router_laws_histories.proofs.Stepped.{mapped_some}
use Rattle.router_laws_histories.specs.Suspended.{AreHoldsTold, AreReadableEnds, AreReadableHolds, IsHoldTold, IsReadableHold}
use Rattle.router_laws_sound.proofs.SoundApplied.{sound_effect}
use Rattle.router_laws_sound.proofs.SoundBase.{some_there}
use Rattle.router_laws_sound.proofs.SoundClosing.{grown_closing}
use Rattle.router_laws_sound.proofs.SoundNumbers.{grown_effect, grown_effects, room_before}
use Rattle.router_laws_sound.proofs.SoundSmall.{waits_where_delivered}
use Rattle.router_laws_sound.specs.Rooms.{HasRoom, IsDeployed}
use Rattle.router_laws_steps.proofs.LineMoves.{all_sorted}
use Rattle.router_laws_steps.proofs.Selecting.{head_is}
use Rattle.router_laws_steps.proofs.Told.{there_is_below}
use Rattle.router_laws_steps.proofs.ToldSteps.{has_bits}
use Rattle.router_laws_steps.proofs.WholeSteps.{grown_after, sound_after, sound_marked, step_can}
use Rattle.router_laws_steps.specs.About.{AreAbout}
use Rattle.router_laws_steps.specs.Reads.{AreRead}
use Rattle.router_laws_steps.specs.Steps.{CanStep}
use Rattle.router_state.specs.Contexts.{activity_at, external}
use Rattle.router_state.specs.Fits.{is_drawn, is_u64}
use Rattle.router_state.specs.Next.{due_service, selects_at}
use Rattle.router_state.specs.Profiles.{row_at}
use Rattle.router_state.specs.Queues.{entity_mark_before, head_event, is_undelivered, is_waiting, queued_before, suspension_before}
use Rattle.router_state.specs.Services.{is_active as is_service_active, is_inactive}
use Rattle.router_state.specs.State.{State}
use Rattle.router_state.specs.Timing.{ends_before, fired_in_all, occurrence_limit}
use Rattle.router_state.specs.Well.{IsSound}
use Rattle.router_state.specs.WellEntities.{all_differ}
use Rattle.router_state.specs.WellQueues.{differ_in_number, is_event_row, is_suspension_row}
use Rattle.router_state.specs.declared.rows.Activity.{Activity}
use Rattle.router_state.specs.declared.rows.Event.{Event}
use Rattle.router_state.specs.declared.rows.Queued.{Queued}
use Rattle.router_state.specs.declared.rows.Suspension.{Suspension}
use Rattle.router_steps.specs.Actions.{Action, ActivateService, StartActivity, StopService, action_of, adding, and_then, clocking, declared_event, open_activity, refused_if, removing, row_values, service_of_key, table_of_name, target_of, updating, values_of}
use Rattle.router_steps.specs.Applying.{applies, applying}
use Rattle.router_steps.specs.Effects.{after_effect, after_effects, number_in}
use Rattle.router_steps.specs.Histories.{Legal, replay}
use Rattle.router_steps.specs.Steps.{Delivering, Due, Finish, Finishing, Receipt, Selecting, Subject, after, after_subject, before_closing, delivery_at, due_at, finish_at, marked_entity, root_selected, subject_of}
use Rattle.router_steps.specs.declared.refusal.Refusal.{Refusal}
use Rattle.rows_sorted.specs.Orders.{rises_by}
use Rattle.script_meaning.specs.Delivery.{delivered}
use Rattle.script_meaning.specs.Values.{number}
use Rattle.signal_script.specs.declared.signal.Signal.{Signal}
use Rattle.slee_effect.specs.declared.effect.Effect.{Effect}
use Rattle.std.proofs.Common.{Bool, List, Some, [], ap, arith, false, filter, inl, inr, subst, sym, true, ℕ, ◌<◌, ◌==◌, ◌^◌, ◌∷◌, ◌≡◌, ◌≤◌}
use Rattle.std.proofs.lemmas.Bool.{and_parts, cases_Bool, cond_both, eqb-true, ltb-true, or_cases}
use Rattle.std.specs.List.{AllByRecursion, list_all}
use Rattle.std.specs.Option.{option_map_or}
use Rattle.std.specs.Prelude.{Err, Ok, Result, is_none, is_some, nat_le, nat_lt, not, option_map}
use Rattle.trace_history.specs.declared.choice.Choice.{Choice}
use Rattle.trace_history.specs.declared.entry.Entry.{Entry}
use Rattle.trace_history.specs.declared.choice.Choice.TheVariants as choices
use Rattle.slee_effect.specs.declared.effect.Effect.TheVariants as effects
use Rattle.router_steps.specs.declared.refusal.Refusal.TheVariants as refusals
use Rattle.signal_script.specs.declared.signal.Signal.TheVariants as signals

-- where an event waits an activity is
waits_there : (d : Deployed) (rows : List Activity) (n m k a : ℕ) (events : List Queued) → is_waiting events a ≡ true → list_all (is_event_row d rows n m k) events ≡ true → is_some (activity_at rows a) ≡ true
waits_there d rows n m k a [] waits all = absurd (cc)
waits_there d rows n m k a (q ∷ events) waits all =
    let parts = and_parts (is_event_row d rows n m k q) (list_all (is_event_row d rows n m k) events) all in
    elim (or_cases (q.activity.0 == a) (is_waiting events a) waits) [
      | inl here ↦ subst (λ b. is_some (activity_at rows b) ≡ true) (eqb-true q.activity.0 a here) (and_parts (is_some (activity_at rows q.activity.0)) _ (and_parts (is_drawn k q.event.id.0) _ parts.0).1).0
      | inr there ↦ waits_there d rows n m k a events there parts.1
    ]

waiting_bits : (s : State) (a : ℕ) → IsSound s → is_u64 s.next_activity ≡ true → is_waiting s.events a ≡ true → a < 2 ^ 64
waiting_bits s a sound room waits =
    has_bits a s.next_activity (there_is_below s a sound (waits_there s.deployment s.activities s.next_activity s.next_timer s.next_event a s.events waits
    (and_parts (list_all (is_event_row s.deployment s.activities s.next_activity s.next_timer s.next_event) s.events) _ (and_parts (all_differ differ_in_number s.events) _ (and_parts (rises_by queued_before s.events) _ sound.events).1).1).0)) room

-- lines

ends_then : {A : Type 0} (r : Result A Refusal) (f : A → Result Action Refusal) → ((x : A) → AreReadableEnds (f x)) → AreReadableEnds (and_then r f)
ends_then (Ok x) f each = each x
ends_then (Err why) f each = tt

ends_if : (b : Bool) (why : Refusal) (x : Action) → AreReadableEnds (Ok x) → AreReadableEnds (refused_if b why x)
ends_if true why x ends = tt
ends_if false why x ends = ends

ends_clock : (s : State) (to : ℕ) → IsSound s → is_u64 s.next_activity ≡ true → AreReadableEnds (clocking s to)
ends_clock s to sound room = elim (cases_Bool (nat_lt to s.clock)) [
  | inl back ↦ rw back tt
  | inr on ↦ rw on (elim (cases_Bool (nat_lt occurrence_limit (fired_in_all to s.timers))) [
    | inl many ↦ rw many tt
    | inr few ↦ rw few (all_sorted (λ (row : Suspension). row.activity.0 < 2 ^ 64) ends_before (filter (λ (row : Suspension). nat_le row.until to) s.suspensions)
        (kept s.suspensions (and_parts (rises_by suspension_before s.suspensions) (list_all (is_suspension_row s.clock s.events s.delivered) s.suspensions) sound.suspensions).1))
  ])
]
  where
    kept : (rows : List Suspension) → list_all (is_suspension_row s.clock s.events s.delivered) rows ≡ true → AllByRecursion (λ (row : Suspension). row.activity.0 < 2 ^ 64) (filter (λ (row : Suspension). nat_le row.until to) rows)
    kept [] all = tt
    kept (row ∷ rows) all =
        let parts = and_parts (is_suspension_row s.clock s.events s.delivered row) (list_all (is_suspension_row s.clock s.events s.delivered) rows) all in
        cond_both (nat_le row.until to) (row ∷ filter (λ (r : Suspension). nat_le r.until to) rows) (filter (λ (r : Suspension). nat_le r.until to) rows) (AllByRecursion (λ (r : Suspension). r.activity.0 < 2 ^ 64))
        (λ _. (waiting_bits s row.activity.0 sound room (and_parts (is_waiting s.events row.activity.0) _ parts.0).0, kept rows parts.1)) (λ _. kept rows parts.1)

ends_line : (s : State) (signal : Signal) → IsSound s → is_u64 s.next_activity ≡ true → AreReadableEnds (action_of s signal)
ends_line s (signals.Start name) sound room = ends_if (is_some (external s.activities name)) refusals.Exists (StartActivity name) tt
ends_line s (signals.End name) sound room = ends_then (open_activity s name) _ (λ row. tt)
ends_line s (signals.Fire name event service fields) sound room =
    ends_then (open_activity s name) _ (λ row. ends_then (declared_event s.deployment event) _ (λ code. ends_then (target_of s.deployment service) _ (λ target. ends_then (values_of code.fields fields) _ (λ vs. tt))))
ends_line s (signals.Clock to) sound room = ends_clock s to sound room
ends_line s (signals.Activate service) sound room = ends_then (service_of_key s service) _ (λ x. ends_if (not (is_inactive x.1.state)) refusals.NotInactive (ActivateService x.0) tt)
ends_line s (signals.Deactivate service) sound room = ends_then (service_of_key s service) _ (λ x. ends_if (not (is_service_active x.1.state)) refusals.NotActive (StopService x.0 x.1.activity.0) tt)
ends_line s (signals.ProfileAdd table row fields) sound room = ends_then (table_of_name s table) _ (λ n. adds n)
  where
    adds : (n : ℕ) → AreReadableEnds (adding s n row fields)
    adds n = elim (cases_Bool (is_some (row_at s.rows n row))) [
      | inl had ↦ rw had tt
      | inr new ↦ rw new (ends_then (row_values s n row fields) _ (λ vs. tt))
    ]
ends_line s (signals.ProfileUpdate table row fields) sound room = ends_then (table_of_name s table) _ (λ n. updates n)
  where
    updates : (n : ℕ) → AreReadableEnds (updating s n row fields)
    updates n = elim (cases_Bool (is_none (row_at s.rows n row))) [
      | inl none ↦ rw none tt
      | inr had ↦ rw had (ends_then (row_values s n row fields) _ (λ vs. tt))
    ]
ends_line s (signals.ProfileRemove table row) sound room = ends_then (table_of_name s table) _ (λ n. removes n)
  where
    removes : (n : ℕ) → AreReadableEnds (removing s n row)
    removes n = elim (cases_Bool (is_none (row_at s.rows n row))) [
      | inl none ↦ rw none tt
      | inr had ↦ rw had tt
    ]

-- effects

hold_told : (me : ℕ) (x : Effect) (s : State) → IsSound s → is_u64 s.next_activity ≡ true → applies me x s ≡ true → IsReadableHold x
hold_told me (effects.SetField entity name value) s sound room is = tt
hold_told me (effects.SetAttr activity key value) s sound room is = tt
hold_told me (effects.Create parent relation priority) s sound room is = tt
hold_told me (effects.Remove entity) s sound room is = tt
hold_told me (effects.SetPriority entity priority) s sound room is = tt
hold_told me (effects.Attach entity activity) s sound room is = tt
hold_told me (effects.Detach entity activity) s sound room is = tt
hold_told me (effects.SetMask entity activity event on) s sound room is = tt
hold_told me (effects.Fire activity event service fields) s sound room is = tt
hold_told me effects.NewNull s sound room is = tt
hold_told me (effects.EndNull activity) s sound room is = tt
hold_told me (effects.SetTimer activity start period times keep) s sound room is = tt
hold_told me (effects.CancelTimer timer) s sound room is = tt
hold_told me (effects.Bind name activity) s sound room is = tt
hold_told me (effects.Unbind name) s sound room is = tt
hold_told me (effects.Emit entity text) s sound room is = tt
hold_told me (effects.Usage entity name amount) s sound room is = tt
hold_told me (effects.Suspend activity until) s sound room is =
    waiting_bits s (number_in activity) sound room (waits_where_delivered s.events s.next_entity (number_in activity) s.delivered (and_parts (rises_by entity_mark_before s.delivered) _ sound.delivered).1 (and_parts (not (is_undelivered s.delivered (number_in activity))) _ is).0)
hold_told me (effects.Resume activity) s sound room is = has_bits (number_in activity) s.next_activity (there_is_below s (number_in activity) sound is) room

holds_told : (me : ℕ) (xs : List Effect) (s : State) → IsSound s → IsDeployed s.deployment → HasRoom (after_effects (applying me xs s) s) → AllByRecursion IsReadableHold (applying me xs s)
holds_told me [] s sound deployed room = tt
holds_told me (x ∷ xs) s sound deployed room = elim (cases_Bool (applies me x s)) [
  | inr isnt ↦ (let end : HasRoom (after_effects (applying me xs s) s) = rw isnt at room in rw isnt (holds_told me xs s sound deployed end))
  | inl is ↦
      let t = after_effect x s in
      let rest = applying me xs t in
      let end : HasRoom (after_effects rest t) = rw is at room in
      let near = room_before t (after_effects rest t) (grown_effects rest t) end in
      let one = sound_effect me x s sound deployed near is in
      rw is (hold_told me x s sound (room_before s t (grown_effect x s) near).activity is, holds_told me xs t one (subst IsDeployed (sym (same_effect x s).0) deployed) end)
]

-- steps

subject_holds : (s : State) (c : Choice) (x : Subject) → IsSound s → IsDeployed s.deployment → HasRoom s → subject_of s c ≡ Some x → HasRoom (after_subject x s) → AreReadableHolds x s
subject_holds s (choices.Input signal) x sound deployed now is room = subst (λ y. AreReadableHolds y s) (some_same is) (ends_line s signal sound now.activity)
  where
    some_same : {X : Type 0} {x y : X} → Some x ≡ Some y → x ≡ y
    some_same same = cc
subject_holds s (choices.Initial a) x sound deployed now is room =
    mapped_some (λ y. AreReadableHolds y s) Selecting (due_at s a.0) x is
    (λ due found. mapped_some (λ (d : Due). d.activity < 2 ^ 64) (λ (pair : Event × ℕ). record { activity = a.0; event = pair.0; service = pair.1; root = root_selected s pair.1 a.0 pair.0 }) (selects_at s a.0) due found
    (λ pair picked. chained (λ (y : Event × ℕ). a.0 < 2 ^ 64) (λ v. option_map (λ service. (v, service)) (due_service s a.0 v)) (head_event s.events a.0) pair picked
    (λ v head told. has_bits a.0 s.next_activity (there_is_below s a.0 sound (head_is s a.0 v sound head).there) now.activity)))
subject_holds s (choices.Deliver a) x sound deployed now is room =
    mapped_some (λ y. HasRoom (after_subject y s) → AreReadableHolds y s) Delivering (delivery_at s a.0) x is (λ receipt found more. delivery receipt found more) room
  where
    delivery : (x : Receipt) → delivery_at s a.0 ≡ Some x → HasRoom (after_subject (Delivering x) s) → AreReadableHolds (Delivering x) s
    delivery x found room =
        let facts = delivered_first s a.0 x found in (
          has_bits x.activity s.next_activity (there_is_below s x.activity sound (head_is s x.activity x.event sound facts.0).there) now.activity,
          holds_told x.entity.number.0 _ (marked_entity x s) (sound_marked s a.0 x sound found) deployed room,
        )
subject_holds s (choices.Finish a) x sound deployed now is room =
    mapped_some (λ y. AreReadableHolds y s) Finishing (finish_at s a.0) x is
    (λ done found. mapped_some (λ (y : Finish). y.activity < 2 ^ 64) (λ v. record { activity = a.0; event = v }) (head_event s.events a.0) done found
    (λ v head. has_bits a.0 s.next_activity (there_is_below s a.0 sound (head_is s a.0 v sound head).there) now.activity))

hold_step : (s : State) (c : Choice) → IsSound s → IsDeployed s.deployment → CanStep s c → is_some (subject_of s c) ≡ true → IsHoldTold s c
hold_step s c sound deployed can about =
    let x = some_there (subject_of s c) about in
    let t = before_closing s c in
    let same : t ≡ after_subject x.0 s = ap (λ o. option_map_or (λ y. after_subject y s) o s) x.1 in
    let early = room_before t (after s c) (grown_closing t) can.room in
    (x.0, x.1, subject_holds s c x.0 sound deployed (room_before s (after s c) (grown_after s c) can.room) x.1 (subst HasRoom same early), few (after s c).next_event can.room.event)
  where
    few : (n : ℕ) → is_u64 n ≡ true → n ≤ 2 ^ 64
    few n fits = below n (2 ^ 64) (ltb-true n (2 ^ 64) fits)
      where
        below : (n m : ℕ) → n < m → n ≤ m
        below n m less = omega (arith, less)

pub holds_all : (s : State) (h : List Entry) → IsSound s → IsDeployed s.deployment → AreAbout s h → Legal s h → AreRead h → HasRoom (replay s h) → is_u64 (replay s h).inputs ≡ true → AreHoldsTold s h
holds_all s [] sound deployed about legal read room count = tt
holds_all s (e ∷ es) sound deployed about legal read room count =
    let t = after s e.choice in
    let can = step_can s e es legal read room count in
    (hold_step s e.choice sound deployed can about.0, holds_all t es (sound_after s e.choice sound deployed can) (subst IsDeployed (sym (same_after s e.choice).0) deployed) about.1 legal.3 read.1 room count)
