-- Where a choice is enabled, the numbers that come next behind its step have 64 bits, and so has the count of lines.
use Rattle.std.proofs.Common.{Bool, List, None, Option, Some, [], ap, arith, false, length, refl, subst, true, ℕ, ◌+◌, ◌<◌, ◌==◌, ◌^◌, ◌∷◌, ◌≡◌, ◌≤◌}
use Rattle.std.proofs.lemmas.Bool.{and_parts, lt-ltb, ltb-false, ltb-true, not-true}
use Rattle.std.proofs.lemmas.List.{length-map}
use Rattle.std.specs.Option.{option_map_or}
use Rattle.std.specs.Prelude.{nat_lt, not, option_map, ◌||◌}
use Rattle.router_laws.proofs.RisingLemmas.{order_from_rises}
use Rattle.router_laws.specs.Forest.{IsIn}
use Rattle.router_laws_histories.proofs.InputLemmas.{counted_inputs}
use Rattle.router_laws_runs.proofs.Numbers.{IsWithin, within_closed_null, within_done, within_finished, within_first, within_if, within_line, within_more, within_same, within_selected, within_then}
use Rattle.router_laws_sound.proofs.SoundClosing.{sound_close_services, sound_without_loose}
use Rattle.router_laws_sound.proofs.SoundEntities.{passes_in}
use Rattle.router_laws_sound.proofs.SoundEvents.{number_joins}
use Rattle.router_laws_sound.proofs.SoundTrees.{removed_alone}
use Rattle.router_laws_sound.specs.Rooms.{HasRoom, IsDeployed}
use Rattle.router_laws_steps.proofs.WholeSteps.{sound_before}
use Rattle.router_laws_steps.specs.Reads.{IsReadChoice}
use Rattle.router_laws_steps.specs.Steps.{CanStep}
use Rattle.router_laws_suiting.proofs.Applied.{receipt_delivered}
use Rattle.router_laws_suiting.proofs.Counting.{all_from_in, fewer_than}
use Rattle.router_laws_suiting.proofs.Deliveries.{handler_ran}
use Rattle.router_laws_suiting.specs.Declared.{IsProgrammed}
use Rattle.router_state.specs.Closed.{is_loose, is_stopped}
use Rattle.router_state.specs.Fits.{is_drawn, is_u64}
use Rattle.router_state.specs.Queues.{head_event}
use Rattle.router_state.specs.State.{State, is_used_up}
use Rattle.router_state.specs.Trees.{roots, tree_of}
use Rattle.router_state.specs.Well.{IsSound}
use Rattle.router_state.specs.WellContexts.{are_services_from, is_activity_row}
use Rattle.router_state.specs.declared.rows.Activity.{Activity}
use Rattle.router_state.specs.declared.rows.Event.{Event}
use Rattle.router_state.specs.declared.rows.Service.{Service}
use Rattle.router_steps.specs.Closing.{activity_numbers, close_null, close_nulls, close_root, close_roots, close_service, close_services, closing, without_loose, without_stopped}
use Rattle.router_steps.specs.Going.{tree_removed}
use Rattle.router_steps.specs.Moves.{with_service}
use Rattle.router_steps.specs.Scripts.{answers_in}
use Rattle.router_steps.specs.Steps.{Delivering, Due, Finish, Finishing, Receipt, Selecting, after, after_subject, before_closing, delivery_at, due_at, is_enabled, is_next, marked_entity}
use Rattle.rows_sorted.specs.Orders.{rises_in}
use Rattle.script_laws.proofs.SafeDeliveries.{delivery_is_sound}
use Rattle.script_laws.specs.Fitting.{IsSoundDelivery}
use Rattle.trace_history.specs.Histories.{input_of}
use Rattle.trace_history.specs.declared.choice.Choice.{Choice}
use Rattle.router_state.specs.declared.rows.ServiceState.TheVariants as states
use Rattle.trace_history.specs.declared.choice.Choice.TheVariants as choices

-- a state that isn't used up

pub record IsLow (s : State) : Type 0 where
  pub inputs : s.inputs ≤ 2 ^ 62
  pub entity : s.next_entity ≤ 2 ^ 62
  pub activity : s.next_activity ≤ 2 ^ 62
  pub timer : s.next_timer ≤ 2 ^ 62
  pub event : s.next_event ≤ 2 ^ 62

either_false : (a b : Bool) → (a || b) ≡ false → (a ≡ false) × (b ≡ false)
either_false true b is = absurd (cc)
either_false false b is = (refl, is)

pub enabled_low : (s : State) (c : Choice) → is_enabled s c ≡ true → IsLow s
enabled_low s c on =
    let one = either_false (nat_lt (2 ^ 62) s.inputs) _ (not-true (is_used_up s) (and_parts (not (is_used_up s)) (is_next s c) on).0) in
    let two = either_false (nat_lt (2 ^ 62) s.next_entity) _ one.1 in
    let three = either_false (nat_lt (2 ^ 62) s.next_activity) _ two.1 in
    let four = either_false (nat_lt (2 ^ 62) s.next_timer) (nat_lt (2 ^ 62) s.next_event) three.1 in
    record {
      inputs = ltb-false (2 ^ 62) s.inputs one.0;
      entity = ltb-false (2 ^ 62) s.next_entity two.0;
      activity = ltb-false (2 ^ 62) s.next_activity three.0;
      timer = ltb-false (2 ^ 62) s.next_timer four.0;
      event = ltb-false (2 ^ 62) s.next_event four.1;
    }

-- closing

-- there are fewer activities than numbers were drawn
few_activities : (s : State) → IsSound s → length s.activities + 1 ≤ s.next_activity
few_activities s sound =
    let rises = and_parts (rises_in (λ (r : Activity). r.number.0) s.activities) _ sound.activities in
    fewer_than (λ (r : Activity). r.number.0) 1 s.next_activity s.activities (ltb-true 0 s.next_activity (and_parts (nat_lt 0 s.next_activity) _ sound.next_activity).0)
    (order_from_rises (λ (x y : Activity). nat_lt x.number.0 y.number.0) number_joins s.activities rises.0)
    (all_from_in (λ (r : Activity). 1 ≤ r.number.0) s.activities (λ r there. (between r there).0))
    (all_from_in (λ (r : Activity). r.number.0 < s.next_activity) s.activities (λ r there. (between r there).1))
  where
    between : (r : Activity) → IsIn r s.activities → (1 ≤ r.number.0) × (r.number.0 < s.next_activity)
    between r there =
        let rows = (and_parts _ _ (and_parts (rises_in (λ (x : Activity). x.number.0) s.activities) _ sound.activities).1).0 in
        let passes = passes_in (is_activity_row s.deployment s.next_activity) s.activities r there rows in
        let drawn = and_parts (nat_lt 0 r.number.0) (nat_lt r.number.0 s.next_activity) (and_parts (is_drawn s.next_activity r.number.0) _ passes).0 in
        (ltb-true 0 r.number.0 drawn.0, ltb-true r.number.0 s.next_activity drawn.1)

within_roots : (es : List ℕ) (s : State) → IsWithin 0 s (close_roots es s)
within_roots [] s = within_same 0 s s (refl, refl, refl, refl)
within_roots (e ∷ es) s =
    within_then 0 0 s (close_root e s) (close_roots es (close_root e s)) (within_if 0 (is_loose s.entities s.links e) s (tree_removed s e) s (within_same 0 s (tree_removed s e) (removed (removed_alone (tree_of s.entities e) s))) (within_same 0 s s (refl, refl, refl, refl))) (within_roots es (close_root e s))
  where
    removed : {t u : State} → u ≡ t → (u.next_entity ≡ t.next_entity) × (u.next_activity ≡ t.next_activity) × (u.next_timer ≡ t.next_timer) × (u.next_event ≡ t.next_event)
    removed alone = (ap (λ (x : State). x.next_entity) alone, ap (λ (x : State). x.next_activity) alone, ap (λ (x : State). x.next_timer) alone, ap (λ (x : State). x.next_event) alone)

within_services : (n : ℕ) (rows : List Service) (s : State) → IsWithin 0 s (close_services n rows s)
within_services n [] s = within_same 0 s s (refl, refl, refl, refl)
within_services n (row ∷ rows) s =
    within_then 0 0 s (close_service n row s) (close_services (n + 1) rows (close_service n row s)) (within_if 0 (is_stopped s.entities n row) s (with_service s n states.Inactive row.activity.0) s (within_same 0 s (with_service s n states.Inactive row.activity.0) (refl, refl, refl, refl)) (within_same 0 s s (refl, refl, refl, refl))) (within_services (n + 1) rows (close_service n row s))

within_nulls : (all : List ℕ) (s : State) → IsWithin (length all) s (close_nulls all s)
within_nulls [] s = within_same 0 s s (refl, refl, refl, refl)
within_nulls (a ∷ rest) s =
    within_more (1 + length rest) (length (a ∷ rest)) s (close_nulls rest (close_null a s)) (omega arith) (within_then 1 (length rest) s (close_null a s) (close_nulls rest (close_null a s)) (within_closed_null a s) (within_nulls rest (close_null a s)))

within_closing : (s : State) → IsSound s → IsWithin s.next_activity s (closing s)
within_closing s sound =
    let loose = without_loose s in
    let stopped = without_stopped loose in
    let one = sound_without_loose s sound in
    let two = sound_close_services 0 loose.services loose one (and_parts (length loose.services == length loose.deployment.services) (are_services_from loose.activities 0 loose.services) one.services).1 in
    let quiet = within_then 0 0 s loose stopped (within_roots (roots s.entities) s) (within_services 0 loose.services loose) in
    within_more (0 + length (activity_numbers stopped)) s.next_activity s (closing s)
    (few (length (activity_numbers stopped)) (length stopped.activities) stopped.next_activity s.next_activity (length-map stopped.activities _) (few_activities stopped two) quiet.activity)
    (within_then 0 (length (activity_numbers stopped)) s stopped (closing s) quiet (within_nulls (activity_numbers stopped) stopped))
  where
    few : (n m k j : ℕ) → n ≡ m → m + 1 ≤ k → k ≤ j + 0 → 0 + n ≤ j
    few n m k j is less le = omega (arith, is, less, le)

-- before closing

-- no more than 256 effects stand of a delivery
pub few_effects : (s : State) (a : ℕ) (x : Receipt) → IsProgrammed s.deployment s.program → delivery_at s a ≡ Some x → length x.delivered.effects ≤ 256
few_effects s a x p is =
    let ran = handler_ran s x.activity x.event x.entity x.delivered (receipt_delivered s a x is) in
    (subst (IsSoundDelivery (answers_in s)) ran.done
    (delivery_is_sound p.codes s.program p.made (answers_in s) x.entity.block ran.block ran.steps x.entity.number (record { 0 = x.activity }) x.event.name x.event.fields ran.there ran.handler)).0

pub within_before : (s : State) (c : Choice) → IsProgrammed s.deployment s.program → IsWithin 10001 s (before_closing s c)
within_before s (choices.Input signal) p = within_line s signal
within_before s (choices.Initial a) p = by (due_at s a.0)
  where
    by : (o : Option Due) → IsWithin 10001 s (option_map_or (λ x. after_subject x s) (option_map Selecting o) s)
    by None = within_same 10001 s s (refl, refl, refl, refl)
    by (Some x) = within_more 1 10001 s (after_subject (Selecting x) s) (omega arith) (within_selected x s)
within_before s (choices.Deliver a) p = by (delivery_at s a.0) refl
  where
    by : (o : Option Receipt) → delivery_at s a.0 ≡ o → IsWithin 10001 s (option_map_or (λ x. after_subject x s) (option_map Delivering o) s)
    by None found = within_same 10001 s s (refl, refl, refl, refl)
    by (Some x) found =
        within_more (length x.delivered.effects) 10001 s (after_subject (Delivering x) s) (more (length x.delivered.effects) (few_effects s a.0 x p found))
        (within_first (length x.delivered.effects) s (marked_entity x s) (after_subject (Delivering x) s) (refl, refl, refl, refl) (within_done x.entity.number.0 x.delivered.effects (marked_entity x s)))
      where
        more : (n : ℕ) → n ≤ 256 → n ≤ 10001
        more n le = omega (arith, le)
within_before s (choices.Finish a) p = by (head_event s.events a.0)
  where
    by : (o : Option Event) → IsWithin 10001 s (option_map_or (λ x. after_subject x s) (option_map Finishing (option_map (λ v. record { activity = a.0; event = v }) o)) s)
    by None = within_same 10001 s s (refl, refl, refl, refl)
    by (Some v) = let x : Finish = record { activity = a.0; event = v } in within_more 0 10001 s (after_subject (Finishing x) s) (omega arith) (within_finished x s)

-- room

pub room_within : (k : ℕ) (s t : State) → k ≤ 2 ^ 62 + 20002 → s.next_entity ≤ 2 ^ 62 + 10001 → s.next_activity ≤ 2 ^ 62 + 10001 → s.next_timer ≤ 2 ^ 62 + 10001 → s.next_event ≤ 2 ^ 62 + 10001 → IsWithin k s t → HasRoom t
room_within k s t most entity activity timer event is = record {
  entity = fits s.next_entity t.next_entity entity is.entity;
  activity = fits s.next_activity t.next_activity activity is.activity;
  timer = fits s.next_timer t.next_timer timer is.timer;
  event = fits s.next_event t.next_event event is.event;
}
  where
    fits : (n m : ℕ) → n ≤ 2 ^ 62 + 10001 → m ≤ n + k → is_u64 m ≡ true
    fits n m low le = lt-ltb m (2 ^ 64) (omega (arith, low, le, most))

-- a choice that is enabled can be made
pub choice_can : (s : State) (c : Choice) → IsSound s → IsDeployed s.deployment → IsProgrammed s.deployment s.program → is_enabled s c ≡ true → IsReadChoice c → CanStep s c
choice_can s c sound deployed p on read =
    let low = enabled_low s c on in
    let t = before_closing s c in
    let before = within_before s c p in
    let count : is_u64 (after s c).inputs ≡ true = counted s.inputs (length (input_of c)) (after s c).inputs low.inputs (one_line c) (counted_inputs s c) in
    let early : HasRoom t = room_within 10001 s t (omega arith) (higher s.next_entity low.entity) (higher s.next_activity low.activity) (higher s.next_timer low.timer) (higher s.next_event low.event) before in
    let between = sound_before s c sound deployed on read count early in
    record {
      enabled = on;
      read = read;
      room = room_within t.next_activity t (after s c) (most s.next_activity t.next_activity low.activity before.activity) (carried s.next_entity t.next_entity low.entity before.entity) (carried s.next_activity t.next_activity low.activity before.activity)
          (carried s.next_timer t.next_timer low.timer before.timer) (carried s.next_event t.next_event low.event before.event) (within_closing t between);
      count = count;
    }
  where
    one_line : (c : Choice) → length (input_of c) ≤ 1
    one_line (choices.Input signal) = omega arith
    one_line (choices.Initial a) = omega arith
    one_line (choices.Deliver a) = omega arith
    one_line (choices.Finish a) = omega arith

    counted : (n k m : ℕ) → n ≤ 2 ^ 62 → k ≤ 1 → m ≡ n + k → is_u64 m ≡ true
    counted n k m low one is = lt-ltb m (2 ^ 64) (omega (arith, low, one, is))

    higher : (n : ℕ) → n ≤ 2 ^ 62 → n ≤ 2 ^ 62 + 10001
    higher n low = omega (arith, low)

    carried : (n m : ℕ) → n ≤ 2 ^ 62 → m ≤ n + 10001 → m ≤ 2 ^ 62 + 10001
    carried n m low le = omega (arith, low, le)

    most : (n m : ℕ) → n ≤ 2 ^ 62 → m ≤ n + 10001 → m ≤ 2 ^ 62 + 20002
    most n m low le = omega (arith, low, le)
