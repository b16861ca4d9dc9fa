-- An activity on which nothing waits any longer goes, with what belongs to it.
use Rattle.deploy_model.specs.Deployed.{Deployed, DeployedTable, is_event}
use Rattle.deploy_model.specs.declared.parts.Table.{Table}
use Rattle.router_laws.proofs.ListRules.{append_joins}
use Rattle.router_laws.proofs.Queues.{popped_elsewhere, popped_here}
use Rattle.router_laws.proofs.Removal.{filter_true, out_twice}
use Rattle.router_laws.proofs.Tests.{any_filter, differ_all, tests_filter, tests_kept, tests_weaker}
use Rattle.router_laws_sound.proofs.SoundBase.{found_passes, ordered_changes, some_there, still_ordered}
use Rattle.router_laws_sound.proofs.SoundGone.{delivered_popped, differ_popped, end_alone, no_end_first, none_on, other_found, services_done_popped, suspensions_popped, tests_popped}
use Rattle.router_state.specs.Changes.{after_change, after_changes}
use Rattle.router_state.specs.Contexts.{activity_at, attribute_before, is_active, is_link, is_linked, is_of_table, link_before, links_on, name_before, without_activity, without_attributes, without_links_on, without_names_of}
use Rattle.router_state.specs.Fits.{is_drawn, is_text}
use Rattle.router_state.specs.Initial.{table_activity}
use Rattle.router_state.specs.Masks.{is_mask_of, mask_before}
use Rattle.router_state.specs.Ordered.{IsOrdered}
use Rattle.router_state.specs.Queues.{head_event, is_suspended, queue, queued_before, suspension_before, without_head}
use Rattle.router_state.specs.Services.{with_service as with_service_row}
use Rattle.router_state.specs.State.{State}
use Rattle.router_state.specs.Trees.{entity_at}
use Rattle.router_state.specs.Well.{IsSound}
use Rattle.router_state.specs.WellContexts.{are_services_from, differ_in_kind, is_activity_row, is_attribute_row, is_kind, is_link_row, is_mask_row, is_name_row, is_service_row, tables_have_activities}
use Rattle.router_state.specs.WellEntities.{all_differ}
use Rattle.router_state.specs.WellQueues.{differ_in_number, ends_right, has_end_last, has_no_end, is_end, is_event_row, is_suspension_row}
use Rattle.router_state.specs.WellRows.{are_timers, is_timer_row}
use Rattle.router_state.specs.declared.change.Change.{Change}
use Rattle.router_state.specs.declared.rows.AcKind.{AcKind}
use Rattle.router_state.specs.declared.rows.Activity.{Activity}
use Rattle.router_state.specs.declared.rows.Attribute.{Attribute}
use Rattle.router_state.specs.declared.rows.Event.{Event}
use Rattle.router_state.specs.declared.rows.Link.{Link}
use Rattle.router_state.specs.declared.rows.Mask.{Mask}
use Rattle.router_state.specs.declared.rows.Named.{Named}
use Rattle.router_state.specs.declared.rows.Queued.{Queued}
use Rattle.router_state.specs.declared.rows.Service.{Service}
use Rattle.router_state.specs.declared.rows.Timer.{Timer}
use Rattle.router_steps.specs.Moves.{changes_of_dropping, changes_of_services, dropped}
use Rattle.rows_sorted.specs.Orders.{rises_by, rises_in, same_pair}
use Rattle.std.proofs.Common.{Bool, List, Some, [], ap, arith, false, filter, inl, inr, length, map, refl, subst, suc, sym, true, zero, ℕ, ◌++◌, ◌+◌, ◌==◌, ◌∙◌, ◌∷◌, ◌≡◌}
use Rattle.std.proofs.lemmas.Bool.{and_from, and_parts, cases_Bool, cond_both, eqb-true, false_from_ne_true, false≢true, not-true, or_cases, or_left, or_right}
use Rattle.std.proofs.lemmas.Bool.Decides.{nat_tests}
use Rattle.std.specs.List.{list_all, list_any}
use Rattle.std.specs.Option.{option_map_or}
use Rattle.std.specs.Prelude.{if◌then◌else◌, is_some, nat_lt, not}
use Rattle.router_state.specs.declared.change.Change.TheVariants as changes
use Rattle.router_state.specs.declared.rows.AcKind.TheVariants as kinds

-- the services of which this activity is one have none any longer
abbrev without_service_activity : ℕ → List Service → List Service
without_service_activity a rows = map (λ (row : Service). if row.activity.0 == a then record { state = row.state; activity = record { 0 = 0 } } else row) rows

-- what goes of the attachments' masks
abbrev on_links : List Link → Mask → Bool
on_links links m = list_any (λ (l : Link). is_mask_of l.entity.0 l.activity.0 m) links

masks_forgotten : (links : List Link) (s : State) → after_changes (map (λ (l : Link). changes.ForgetMasks l.entity l.activity) links) s ≡ record s { masks = filter (λ (m : Mask). not (on_links links m)) s.masks }
masks_forgotten [] s = ap (λ (rows : List Mask). record s { masks = rows }) (sym (filter_true s.masks))
masks_forgotten (l ∷ links) s =
    masks_forgotten links (after_change (changes.ForgetMasks l.entity l.activity) s)
    ∙ ap (λ (rows : List Mask). record s { masks = rows }) (out_twice (is_mask_of l.entity.0 l.activity.0) (on_links links) s.masks)

-- services are changed one after another
services_changed : (a n : ℕ) (front rows : List Service) (s : State) → s.services ≡ front ++ rows → length front ≡ n
    → after_changes (changes_of_services a n rows) s ≡ record s { services = front ++ without_service_activity a rows }
services_changed a n front [] s is place = ap (λ (all : List Service). record s { services = all }) is
services_changed a n front (row ∷ rows) s is place = elim (cases_Bool (row.activity.0 == a)) [
  | inl mine ↦
      let new : Service = record { state = row.state; activity = record { 0 = 0 } } in
      let t = after_change (changes.Service n row.state (record { 0 = 0 })) s in
      let set : t.services ≡ (front ++ new ∷ []) ++ rows = ap (λ (all : List Service). with_service_row all n row.state 0) is ∙ put_at front n place ∙ sym (append_joins front (new ∷ []) rows) in
      rw mine (services_changed a (n + 1) (front ++ new ∷ []) rows t set (longer front new n place) ∙ ap (λ (all : List Service). record s { services = all }) (append_joins front (new ∷ []) (without_service_activity a rows)))
  | inr other ↦
      rw other (services_changed a (n + 1) (front ++ row ∷ []) rows s (is ∙ sym (append_joins front (row ∷ []) rows)) (longer front row n place)
      ∙ ap (λ (all : List Service). record s { services = all }) (append_joins front (row ∷ []) (without_service_activity a rows)))
]
  where
    put_at : (front : List Service) (n : ℕ) → length front ≡ n → with_service_row (front ++ row ∷ rows) n row.state 0 ≡ front ++ record { state = row.state; activity = record { 0 = 0 } } ∷ rows
    put_at [] n place = ap (λ k. with_service_row (row ∷ rows) k row.state 0) (sym place)
    put_at (x ∷ front) zero place = absurd (suc_not (length front) place)
      where
        suc_not : (k : ℕ) → suc k ≡ 0 → ⊥
        suc_not k is = omega (arith, is)
    put_at (x ∷ front) (suc n) place = ap (λ (all : List Service). x ∷ all) (put_at front n (less (length front) n place))
      where
        less : (k n : ℕ) → suc k ≡ suc n → k ≡ n
        less k n is = omega (arith, is)

    longer : (front : List Service) (x : Service) (n : ℕ) → length front ≡ n → length (front ++ x ∷ []) ≡ n + 1
    longer [] x n place = one n place
      where
        one : (n : ℕ) → 0 ≡ n → 1 ≡ n + 1
        one n is = omega (arith, is)
    longer (y ∷ front) x n place = more (length (front ++ x ∷ [])) (length front) n (longer front x (length front) refl) place
      where
        more : (l k n : ℕ) → l ≡ k + 1 → suc k ≡ n → suc l ≡ n + 1
        more l k n one two = omega (arith, one, two)

-- an activity that goes, as one record
abbrev pub dropped_state : State → ℕ → State
dropped_state s a = record s {
  activities = without_activity s.activities a;
  attributes = without_attributes s.attributes a;
  links = without_links_on s.links a;
  masks = filter (λ (m : Mask). not (on_links (links_on s.links a) m)) s.masks;
  names = without_names_of s.names a;
  services = without_service_activity a s.services;
}

after_both : (cs ds : List Change) (s : State) → after_changes (cs ++ ds) s ≡ after_changes ds (after_changes cs s)
after_both [] ds s = refl
after_both (c ∷ cs) ds s = after_both cs ds (after_change c s)

pub dropped_is : (s : State) (a : ℕ) → dropped s a ≡ dropped_state s a
dropped_is s a =
    after_both (map (λ (l : Link). changes.ForgetMasks l.entity l.activity) (links_on s.links a)) (changes.DropContext (record { 0 = a }) ∷ changes_of_services a 0 s.services) s
    ∙ ap (λ t. after_changes (changes.DropContext (record { 0 = a }) ∷ changes_of_services a 0 s.services) t) (masks_forgotten (links_on s.links a) s)
    ∙ services_changed a 0 [] s.services (after_change (changes.DropContext (record { 0 = a })) (record s { masks = filter (λ (m : Mask). not (on_links (links_on s.links a) m)) s.masks })) refl refl

-- the lists without an activity

services_dropped : (rows : List Activity) (a n : ℕ) (services : List Service) → are_services_from rows n services ≡ true → are_services_from (without_activity rows a) n (without_service_activity a services) ≡ true
services_dropped rows a n [] all = refl
services_dropped rows a n (x ∷ services) all =
    let parts = and_parts (is_service_row rows n x) (are_services_from rows (n + 1) services) all in
    let more = services_dropped rows a (n + 1) services parts.1 in
    elim (cases_Bool (x.activity.0 == a)) [
      | inl mine ↦ rw mine more
      | inr other ↦ rw other (and_from (is_service_row (without_activity rows a) n x) _ (elim (or_cases (x.activity.0 == 0) _ parts.0) [
        | inl none ↦ or_left (x.activity.0 == 0) _ none
        | inr own ↦ or_right (x.activity.0 == 0) _ (rw (other_found rows a x.activity.0 other) own)
      ]) more)
    ]

services_length : (a : ℕ) (services : List Service) → length (without_service_activity a services) ≡ length services
services_length a [] = refl
services_length a (x ∷ services) = ap suc (services_length a services)

tables_dropped : (rows : List Activity) (a n : ℕ) (tables : List DeployedTable) → ((k : ℕ) → option_map_or (λ (row : Activity). is_of_table k row.kind) (activity_at rows (table_activity k)) false ≡ true → (table_activity k == a) ≡ false)
    → tables_have_activities rows n tables ≡ true → tables_have_activities (without_activity rows a) n tables ≡ true
tables_dropped rows a n [] apart all = refl
tables_dropped rows a n (t ∷ tables) apart all =
    let parts = and_parts (option_map_or (λ (row : Activity). is_of_table n row.kind) (activity_at rows (table_activity n)) false) (tables_have_activities rows (n + 1) tables) all in
    and_from (option_map_or (λ (row : Activity). is_of_table n row.kind) (activity_at (without_activity rows a) (table_activity n)) false) _
    (rw (other_found rows a (table_activity n) (apart n parts.0)) parts.0) (tables_dropped rows a (n + 1) tables apart parts.1)

-- an Ending activity is none of a table
ending_no_table : (d : Deployed) (next : ℕ) (rows : List Activity) (a : ℕ) (row : Activity) → list_all (is_activity_row d next) rows ≡ true → activity_at rows a ≡ Some row → row.ending ≡ true
    → (k : ℕ) → option_map_or (λ (x : Activity). is_of_table k x.kind) (activity_at rows (table_activity k)) false ≡ true → (table_activity k == a) ≡ false
ending_no_table d next rows a row all found ending k is =
    false_from_ne_true (table_activity k == a) (λ same.
    let here : is_of_table k row.kind ≡ true = rw (eqb-true (table_activity k) a same, found) at is in
    let kind = (and_parts (is_drawn next row.number.0) _ (found_passes (is_activity_row d next) (λ (r : Activity). r.number.0 == a) rows row found all).0).1 in
    clash row.kind here kind)
  where
    clash : (kind : AcKind) → is_of_table k kind ≡ true → is_kind d row kind ≡ true → ⊥
    clash (kinds.External name) here is = absurd (cc)
    clash kinds.Null here is = absurd (cc)
    clash (kinds.Service service) here is = absurd (cc)
    clash (kinds.Table own) here is = false≢true (rw ending at (and_parts (row.number.0 == table_activity own) (not row.ending) (and_parts (nat_lt own (length d.tables)) _ is).1).1)

still_linked : (links : List Link) (a : ℕ) (m : Mask) → not (on_links (links_on links a) m) ≡ true → is_linked links m.entity.0 m.activity.0 ≡ true → is_linked (without_links_on links a) m.entity.0 m.activity.0 ≡ true
still_linked links a m keep linked =
    any_filter (is_link m.entity.0 m.activity.0) (λ (l : Link). not (l.activity.0 == a)) links (λ l same. apart l.entity.0 l.activity.0 m.entity.0 m.activity.0 a same (other (m.activity.0 == a) refl)) linked
  where
    apart : (x y e b a : ℕ) → same_pair x y e b ≡ true → (b == a) ≡ false → not (y == a) ≡ true
    apart x y e b a same isnt = grind (arith, nat_tests)

    turned : (x y e b : ℕ) → same_pair x y e b ≡ true → same_pair e b x y ≡ true
    turned x y e b same = grind (arith, nat_tests)

    own : (y e b x a : ℕ) → same_pair x y e b ≡ true → (b == a) ≡ true → (y == a) ≡ true
    own y e b x a same is = grind (arith, nat_tests)

    under : (links : List Link) → (m.activity.0 == a) ≡ true → is_linked links m.entity.0 m.activity.0 ≡ true → on_links (links_on links a) m ≡ true
    under [] mine linked = absurd (cc)
    under (l ∷ links) mine linked = elim (or_cases (is_link m.entity.0 m.activity.0 l) (is_linked links m.entity.0 m.activity.0) linked) [
      | inl here ↦
          let on : (l.activity.0 == a) ≡ true = own l.activity.0 m.entity.0 m.activity.0 l.entity.0 a here mine in
          let same : is_mask_of l.entity.0 l.activity.0 m ≡ true = turned l.entity.0 l.activity.0 m.entity.0 m.activity.0 here in
          rw (on, same) refl
      | inr there ↦ cond_both (l.activity.0 == a) (l ∷ links_on links a) (links_on links a) (λ ls. on_links ls m ≡ true) (λ _. or_right (is_mask_of l.entity.0 l.activity.0 m) _ (under links mine there)) (λ _. under links mine there)
    ]

    other : (b : Bool) → (m.activity.0 == a) ≡ b → (m.activity.0 == a) ≡ false
    other true mine = absurd (false≢true (rw (under links mine linked) at keep))
    other false isnt = isnt

-- the activity is there and Ending, and nothing waits on it behind its end
abbrev IsLast : State → ℕ → Type 0
IsLast s a = (row : Activity) × (activity_at s.activities a ≡ Some row) × (row.ending ≡ true) × (queue (without_head s.events a) a ≡ [])

last_there : (s : State) (a : ℕ) (event : Event) → IsSound s → head_event s.events a ≡ Some event → is_end event ≡ true → IsLast s a
last_there s a event sound head is =
    let tests = and_parts (list_all (is_event_row s.deployment s.activities s.next_activity s.next_timer s.next_event) s.events) (list_all (ends_right s.events) s.activities) (and_parts (all_differ differ_in_number s.events) _ (and_parts (rises_by queued_before s.events) _ sound.events).1).1 in
    let row = some_there (activity_at s.activities a) (there s.events head tests.0) in
    let right = found_passes (ends_right s.events) (λ (r : Activity). r.number.0 == a) s.activities row.0 row.1 tests.1 in
    let number : row.0.number.0 ≡ a = eqb-true row.0.number.0 a right.1 in
    let own : (if row.0.ending then has_end_last (queue s.events a) else has_no_end (queue s.events a)) ≡ true = subst (λ k. (if row.0.ending then has_end_last (queue s.events k) else has_no_end (queue s.events k)) ≡ true) number right.0 in
    let waiting : (if row.0.ending then has_end_last (event ∷ queue (without_head s.events a) a) else has_no_end (event ∷ queue (without_head s.events a) a)) ≡ true = subst (λ es. (if row.0.ending then has_end_last es else has_no_end es) ≡ true) (popped_here s.events a event head) own in
    by row.0 row.1 row.0.ending refl waiting
  where
    there : (events : List Queued) → head_event events a ≡ Some event → list_all (is_event_row s.deployment s.activities s.next_activity s.next_timer s.next_event) events ≡ true → is_some (activity_at s.activities a) ≡ true
    there [] head all = absurd (cc)
    there (q ∷ events) head all =
        let parts = and_parts (is_event_row s.deployment s.activities s.next_activity s.next_timer s.next_event q) (list_all (is_event_row s.deployment s.activities s.next_activity s.next_timer s.next_event) events) all in
        elim (cases_Bool (q.activity.0 == a)) [
          | inl mine ↦ subst (λ k. is_some (activity_at s.activities k) ≡ true) (eqb-true q.activity.0 a mine) (and_parts (is_some (activity_at s.activities q.activity.0)) _ (and_parts (is_drawn s.next_event q.event.id.0) _ parts.0).1).0
          | inr other ↦ there events (rw other at head) parts.1
        ]

    by : (row : Activity) → activity_at s.activities a ≡ Some row → (b : Bool) → row.ending ≡ b → (if row.ending then has_end_last (event ∷ queue (without_head s.events a) a) else has_no_end (event ∷ queue (without_head s.events a) a)) ≡ true → IsLast s a
    by row found true ending right = (row, found, ending, end_alone (queue (without_head s.events a) a) event is (rw ending at right))
    by row found false active right = absurd (no_end_first (queue (without_head s.events a) a) event is (rw active at right))

timers_dropped : (rows : List Activity) (timers : List Timer) (next a : ℕ) → is_active rows a ≡ false → are_timers rows timers next ≡ true → are_timers (without_activity rows a) timers next ≡ true
timers_dropped rows timers next a isnt sound =
    let parts = and_parts (rises_in (λ (t : Timer). t.number.0) timers) (list_all (is_timer_row rows next) timers) sound in
    and_from (rises_in (λ (t : Timer). t.number.0) timers) _ parts.0 (tests_weaker (is_timer_row rows next) (is_timer_row (without_activity rows a) next) each timers parts.1)
  where
    each : (t : Timer) → is_timer_row rows next t ≡ true → is_timer_row (without_activity rows a) next t ≡ true
    each t is =
        let one = and_parts (is_drawn next t.number.0) _ is in
        let two = and_parts (is_active rows t.activity.0) _ one.1 in
        let other : (t.activity.0 == a) ≡ false = false_from_ne_true (t.activity.0 == a) (λ same. false≢true (sym isnt ∙ subst (λ k. is_active rows k ≡ true) (eqb-true t.activity.0 a same) two.0)) in
        and_from (is_drawn next t.number.0) _ one.0 (and_from (is_active (without_activity rows a) t.activity.0) _ (rw (other_found rows a t.activity.0 other) two.0) two.1)

-- the end of an activity goes, and the activity with it
pub sound_dropped : (s : State) (a : ℕ) (event : Event) → IsSound s → head_event s.events a ≡ Some event → is_end event ≡ true → is_suspended s.suspensions a ≡ false → IsSound (dropped (after_change (changes.Pop (record { 0 = a })) s) a)
sound_dropped s a event sound head is free =
    let t = after_change (changes.Pop (record { 0 = a })) s in
    let order = ordered_changes (changes_of_dropping t a) t (still_ordered (changes.Pop (record { 0 = a })) s sound) in
    let last = last_there s a event sound head is in
    subst IsSound (sym (dropped_is t a)) (made (subst IsOrdered (dropped_is t a) order) last)
  where
    apart_to : (x a : ℕ) → not (x == a) ≡ true → (x == a) ≡ false
    apart_to x a is = not-true (x == a) is

    made : IsOrdered (dropped_state (after_change (changes.Pop (record { 0 = a })) s) a) → IsLast s a → IsSound (dropped_state (after_change (changes.Pop (record { 0 = a })) s) a)
    made order last =
        let rows = s.activities in
        let own = and_parts (length s.services == length s.deployment.services) (are_services_from rows 0 s.services) sound.services in
        let acts = and_parts (rises_in (λ (r : Activity). r.number.0) rows) _ sound.activities in
        let act_tests = and_parts (list_all (is_activity_row s.deployment s.next_activity) rows) _ acts.1 in
        let act_kinds = and_parts (all_differ (λ (x y : Activity). differ_in_kind x.kind y.kind) rows) (tables_have_activities rows 0 s.deployment.tables) act_tests.1 in
        let attrs = and_parts (rises_by attribute_before s.attributes) (list_all (is_attribute_row s.deployment rows s.next_activity s.next_timer) s.attributes) sound.attributes in
        let linked = and_parts (rises_by link_before s.links) (list_all (is_link_row s.entities rows) s.links) sound.links in
        let masked = and_parts (rises_by mask_before s.masks) (list_all (is_mask_row s.deployment s.links) s.masks) sound.masks in
        let names = and_parts (rises_by name_before s.names) (list_all (is_name_row rows) s.names) sound.names in
        let first = and_parts (rises_by queued_before s.events) _ sound.events in
        let apart = and_parts (all_differ differ_in_number s.events) _ first.1 in
        let tests = and_parts (list_all (is_event_row s.deployment rows s.next_activity s.next_timer s.next_event) s.events) (list_all (ends_right s.events) rows) apart.1 in
        let held = and_parts (rises_by suspension_before s.suspensions) (list_all (is_suspension_row s.clock s.events s.delivered) s.suspensions) sound.suspensions in
        let none = none_on (without_head s.events a) a last.3 in
        let idle : is_active rows a ≡ false = rw (last.1, last.2) refl in
        record {
          clock = sound.clock;
          inputs = sound.inputs;
          next_entity = sound.next_entity;
          next_activity = sound.next_activity;
          next_timer = sound.next_timer;
          next_event = sound.next_event;
          services = and_from (length (without_service_activity a s.services) == length s.deployment.services) _ (rw (services_length a s.services) own.0) (services_dropped rows a 0 s.services own.1);
          entities = sound.entities;
          root_names = sound.root_names;
          apart = sound.apart;
          fields = sound.fields;
          activities = and_from (rises_in (λ (r : Activity). r.number.0) (without_activity rows a)) _ order.activities (and_from (list_all (is_activity_row s.deployment s.next_activity) (without_activity rows a)) _ (tests_filter (is_activity_row s.deployment s.next_activity) (λ (r : Activity). not (r.number.0 == a)) rows act_tests.0) (and_from (all_differ (λ (x y : Activity). differ_in_kind x.kind y.kind) (without_activity rows a)) _ (differ_all (λ (x y : Activity). differ_in_kind x.kind y.kind) (λ (r : Activity). not (r.number.0 == a)) rows act_kinds.0) (tables_dropped rows a 0 s.deployment.tables (ending_no_table s.deployment s.next_activity rows a last.0 act_tests.0 last.1 last.2) act_kinds.1)));
          attributes = and_from (rises_by attribute_before (without_attributes s.attributes a)) _ order.attributes (tests_kept (is_attribute_row s.deployment rows s.next_activity s.next_timer) (is_attribute_row s.deployment (without_activity rows a) s.next_activity s.next_timer) (λ (x : Attribute). not (x.activity.0 == a)) (λ x keep is. let both = and_parts (is_some (activity_at rows x.activity.0)) _ is in and_from (is_some (activity_at (without_activity rows a) x.activity.0)) _ (rw (other_found rows a x.activity.0 (apart_to x.activity.0 a keep)) both.0) both.1) s.attributes attrs.1);
          links = and_from (rises_by link_before (without_links_on s.links a)) _ order.links (tests_kept (is_link_row s.entities rows) (is_link_row s.entities (without_activity rows a)) (λ (l : Link). not (l.activity.0 == a)) (λ l keep is. let both = and_parts (is_some (entity_at s.entities l.entity.0)) (is_some (activity_at rows l.activity.0)) is in and_from (is_some (entity_at s.entities l.entity.0)) _ both.0 (rw (other_found rows a l.activity.0 (apart_to l.activity.0 a keep)) both.1)) s.links linked.1);
          masks = and_from (rises_by mask_before (filter (λ (m : Mask). not (on_links (links_on s.links a) m)) s.masks)) _ order.masks (tests_kept (is_mask_row s.deployment s.links) (is_mask_row s.deployment (without_links_on s.links a)) (λ (m : Mask). not (on_links (links_on s.links a) m)) (λ m keep is. let both = and_parts (is_linked s.links m.entity.0 m.activity.0) (is_event s.deployment m.event) is in and_from (is_linked (without_links_on s.links a) m.entity.0 m.activity.0) _ (still_linked s.links a m keep both.0) both.1) s.masks masked.1);
          names = and_from (rises_by name_before (without_names_of s.names a)) _ order.names (tests_kept (is_name_row rows) (is_name_row (without_activity rows a)) (λ (x : Named). not (x.activity.0 == a)) (λ x keep is. let both = and_parts (is_text x.name) (is_some (activity_at rows x.activity.0)) is in and_from (is_text x.name) _ both.0 (rw (other_found rows a x.activity.0 (apart_to x.activity.0 a keep)) both.1)) s.names names.1);
          events = and_from (rises_by queued_before (without_head s.events a)) _ order.events (and_from (all_differ differ_in_number (without_head s.events a)) _ (differ_popped s.events a apart.0) (and_from (list_all (is_event_row s.deployment (without_activity rows a) s.next_activity s.next_timer s.next_event) (without_head s.events a)) _ (events_still (without_head s.events a) none (tests_popped (is_event_row s.deployment rows s.next_activity s.next_timer s.next_event) s.events a tests.0)) (tests_kept (ends_right s.events) (ends_right (without_head s.events a)) (λ (r : Activity). not (r.number.0 == a)) (λ r keep right. rw (popped_elsewhere s.events a r.number.0 (turned r.number.0 a keep)) right) rows tests.1)));
          services_done = services_done_popped s.deployment s.events s.services_done a order.services_done sound.services_done;
          delivered = delivered_popped s.events s.delivered s.next_entity a order.delivered sound.delivered;
          suspensions = and_from (rises_by suspension_before s.suspensions) _ held.0 (suspensions_popped s.clock s.events s.delivered s.suspensions a free held.1);
          timers = timers_dropped rows s.timers s.next_timer a idle sound.timers;
          rows = sound.rows;
        }
      where
        turned : (x a : ℕ) → not (x == a) ≡ true → (a == x) ≡ false
        turned x a is = grind (arith, nat_tests)

        events_still : (events : List Queued) → list_all (λ (q : Queued). not (q.activity.0 == a)) events ≡ true → list_all (is_event_row s.deployment s.activities s.next_activity s.next_timer s.next_event) events ≡ true → list_all (is_event_row s.deployment (without_activity s.activities a) s.next_activity s.next_timer s.next_event) events ≡ true
        events_still [] none all = refl
        events_still (q ∷ events) none all =
            let parts = and_parts (is_event_row s.deployment s.activities s.next_activity s.next_timer s.next_event q) (list_all (is_event_row s.deployment s.activities s.next_activity s.next_timer s.next_event) events) all in
            let others = and_parts (not (q.activity.0 == a)) (list_all (λ (q : Queued). not (q.activity.0 == a)) events) none in
            let drawn = and_parts (is_drawn s.next_event q.event.id.0) _ parts.0 in
            let stands = and_parts (is_some (activity_at s.activities q.activity.0)) _ drawn.1 in
            and_from (is_event_row s.deployment (without_activity s.activities a) s.next_activity s.next_timer s.next_event q) _
            (and_from (is_drawn s.next_event q.event.id.0) _ drawn.0 (and_from (is_some (activity_at (without_activity s.activities a) q.activity.0)) _ (rw (other_found s.activities a q.activity.0 (not-true (q.activity.0 == a) others.0)) stands.0) stands.1))
            (events_still events others.1 parts.1)
