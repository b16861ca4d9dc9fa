-- Two whole moves: an event is put on a queue, and an activity ends. Each keeps every part sound.
use Rattle.std.proofs.Common.{◌≡◌, ℕ, ◌+◌, ◌≤◌, ◌==◌, Bool, true, false, ◌&&◌, ◌||◌, not, List, [], ◌∷◌, refl, subst, inl, inr, ◌⊎◌, arith, nat_lt, Option, Some, None}
use Rattle.std.specs.Prelude.{is_some, nat_le, length, option_map}
use Rattle.std.specs.List.{list_all}
use Rattle.std.specs.Option.{option_map_or}
use Rattle.std.proofs.lemmas.Bool.{cases_Bool, cond_both, and_parts, and_from, or_cases, or_left, or_right, not-true}
use Rattle.std.proofs.lemmas.Bool.Decides.{nat_tests}
use Rattle.slee_value.specs.declared.value.Value.{Value}
use Rattle.slee_value.specs.declared.ids.EventId.{EventId}
use Rattle.deploy_model.specs.Deployed.{Deployed, DeployedTable, is_event}
use Rattle.router_laws_sound.proofs.SoundEvents.{number_of, events_fired, events_ended, end_there, drawn_more}
use Rattle.router_laws.proofs.Queues.{waiting_more}
use Rattle.router_laws.proofs.Tests.{tests_weaker, tests_map, tests_kept, any_put}
use Rattle.router_laws.proofs.RisingLemmas.{Joins, filter_rises}
use Rattle.router_state.specs.State.{State}
use Rattle.router_state.specs.Contexts.{activity_at, is_active, ends, with_end, is_of_table, is_of_service}
use Rattle.router_state.specs.Fits.{is_drawn, is_text, is_u64, none_or}
use Rattle.router_state.specs.Trees.{entity_at}
use Rattle.router_state.specs.Initial.{table_activity}
use Rattle.rows_sorted.specs.Orders.{pair_before}
use Rattle.rows_sorted.specs.Orders.{rises_in}
use Rattle.router_state.specs.Queues.{is_waiting, with_event, queued_before, activity_end}
use Rattle.router_state.specs.Services.{is_active as is_service_active}
use Rattle.router_state.specs.Timers.{without_timers_on, last_moment}
use Rattle.router_state.specs.Well.{IsSound}
use Rattle.router_state.specs.WellContexts.{is_kind, is_activity_row, differ_in_kind, tables_have_activities, are_activities, is_attribute_row, are_attributes, is_link_row, are_links, is_name_row, are_names, is_activity_of, is_service_row, are_services_from}
use Rattle.router_state.specs.WellEntities.{all_differ, is_root_name, are_root_names}
use Rattle.router_state.specs.WellQueues.{is_end, is_service_mark, are_services_done, is_entity_mark, are_delivered, is_suspension_row, are_suspensions}
use Rattle.router_state.specs.WellRows.{is_timer_row, are_timers, is_next_number}
use Rattle.router_laws_sound.specs.Moves.{CanEnd, CanFire, is_table}
use Rattle.router_state.specs.declared.rows.AcKind.{AcKind}
use Rattle.router_state.specs.declared.rows.AcKind.TheVariants as kinds
use Rattle.router_state.specs.declared.rows.Activity.{Activity}
use Rattle.router_state.specs.declared.rows.Attribute.{Attribute}
use Rattle.router_state.specs.declared.rows.Entity.{Entity}
use Rattle.router_state.specs.declared.rows.EntityMark.{EntityMark}
use Rattle.router_state.specs.declared.rows.Event.{Event}
use Rattle.router_state.specs.declared.rows.Link.{Link}
use Rattle.router_state.specs.declared.rows.Named.{Named}
use Rattle.router_state.specs.declared.rows.Queued.{Queued}
use Rattle.router_state.specs.declared.rows.RootName.{RootName}
use Rattle.router_state.specs.declared.rows.Service.{Service}
use Rattle.router_state.specs.declared.rows.ServiceMark.{ServiceMark}
use Rattle.router_state.specs.declared.rows.Suspension.{Suspension}
use Rattle.router_state.specs.declared.rows.Timer.{Timer}
use Rattle.router_steps.specs.Moves.{queued, ended}

-- what an event that is put on a queue leaves as it was

waits_more : (d : Deployed) (events : List Queued) (a : ℕ) (event : Event) (m : ServiceMark) → is_service_mark d events m ≡ true → is_service_mark d (with_event events a event) m ≡ true
waits_more d events a event m is =
    let parts = and_parts (is_waiting events m.activity.0) (nat_lt m.service (length d.services)) is in
    and_from (is_waiting (with_event events a event) m.activity.0) _ (waiting_more events a m.activity.0 event parts.0) parts.1

services_done_more : (d : Deployed) (events : List Queued) (marks : List ServiceMark) (a : ℕ) (event : Event) → are_services_done d events marks ≡ true → are_services_done d (with_event events a event) marks ≡ true
services_done_more d events marks a event is =
    let parts = and_parts _ (list_all (is_service_mark d events) marks) is in
    and_from _ _ parts.0 (tests_weaker (is_service_mark d events) (is_service_mark d (with_event events a event)) (waits_more d events a event) marks parts.1)

delivered_more : (events : List Queued) (marks : List EntityMark) (next a : ℕ) (event : Event) → are_delivered events marks next ≡ true → are_delivered (with_event events a event) marks next ≡ true
delivered_more events marks next a event is =
    let parts = and_parts _ (list_all (is_entity_mark events next) marks) is in
    and_from _ _ parts.0 (tests_weaker (is_entity_mark events next) (is_entity_mark (with_event events a event) next)
    (λ m passes. let both = and_parts (is_waiting events m.activity.0) (is_drawn next m.entity.0) passes in and_from (is_waiting (with_event events a event) m.activity.0) _ (waiting_more events a m.activity.0 event both.0) both.1) marks parts.1)

suspensions_more : (clock : ℕ) (events : List Queued) (marks : List EntityMark) (rows : List Suspension) (a : ℕ) (event : Event) → are_suspensions clock events marks rows ≡ true → are_suspensions clock (with_event events a event) marks rows ≡ true
suspensions_more clock events marks rows a event is =
    let parts = and_parts _ (list_all (is_suspension_row clock events marks) rows) is in
    and_from _ _ parts.0 (tests_weaker (is_suspension_row clock events marks) (is_suspension_row clock (with_event events a event) marks)
    (λ r passes. let both = and_parts (is_waiting events r.activity.0) _ passes in and_from (is_waiting (with_event events a event) r.activity.0) _ (waiting_more events a r.activity.0 event both.0) both.1) rows parts.1)

-- convergence names, where there is one event more
root_names_more : (d : Deployed) (rows : List Entity) (names : List RootName) (n m k : ℕ) → m ≤ k → are_root_names d rows names n m ≡ true → are_root_names d rows names n k ≡ true
root_names_more d rows names n m k le is =
    let rises = and_parts _ _ is in
    let tests = and_parts (list_all (is_root_name d rows n m) names) _ rises.1 in
    and_from _ _ rises.0 (and_from _ _ (tests_weaker (is_root_name d rows n m) (is_root_name d rows n k) (λ r passes. each r passes) names tests.0) tests.1)
  where
    drawn : (o : Option EventId) → none_or (λ v. is_drawn m v.0) o ≡ true → none_or (λ v. is_drawn k v.0) o ≡ true
    drawn None is = refl
    drawn (Some v) is = drawn_more m k v.0 le is

    swap : (p q r t u v w : Bool) → (t ≡ true → u ≡ true) → (p && (q && (r && (v && (t && w))))) ≡ true → (p && (q && (r && (v && (u && w))))) ≡ true
    swap p q r t u v w follows is =
        let one = and_parts p _ is in
        let two = and_parts q _ one.1 in
        let three = and_parts r _ two.1 in
        let four = and_parts v _ three.1 in
        let five = and_parts t w four.1 in
        and_from p _ one.0 (and_from q _ two.0 (and_from r _ three.0 (and_from v _ four.0 (and_from u w (follows five.0) five.1))))

    each : (r : RootName) → is_root_name d rows n m r ≡ true → is_root_name d rows n k r ≡ true
    each r passes =
        swap (is_some (entity_at rows r.entity.0)) (none_or (λ a. is_drawn n a.0) r.name.activity) (none_or is_text r.name.address) (none_or (λ v. is_drawn m v.0) r.name.event) (none_or (λ v. is_drawn k v.0) r.name.event)
        (none_or (is_event d) r.name.event_type) (none_or is_text r.name.custom) (drawn r.name.event) passes

-- a next number, where there is one more
next_counted : (n : ℕ) → is_u64 (n + 1) ≡ true → is_next_number (n + 1) ≡ true
next_counted n fits = and_from (nat_lt 0 (n + 1)) (is_u64 (n + 1)) (positive n) fits
  where
    positive : (n : ℕ) → nat_lt 0 (n + 1) ≡ true
    positive n = grind (arith, nat_tests)

-- an event is put on the queue of an Active activity
pub sound_queued : (s : State) (a : ℕ) (name : List ℕ) (fields : List (List ℕ × Value)) (target : Option ℕ) → IsSound s
    → CanFire s.deployment s.activities s.next_activity s.next_timer s.next_event a (record { id = record { 0 = s.next_event }; name = name; fields = fields; target = target })
    → is_active s.activities a ≡ true → is_end (record { id = record { 0 = s.next_event }; name = name; fields = fields; target = target }) ≡ false → is_u64 (s.next_event + 1) ≡ true
    → IsSound (queued s a name fields target)
sound_queued s a name fields target sound can active isnt fits =
    let v : Event = record { id = record { 0 = s.next_event }; name = name; fields = fields; target = target } in
    record {
      clock = sound.clock;
      inputs = sound.inputs;
      next_entity = sound.next_entity;
      next_activity = sound.next_activity;
      next_timer = sound.next_timer;
      next_event = next_counted s.next_event fits;
      services = sound.services;
      entities = sound.entities;
      root_names = root_names_more s.deployment s.entities s.root_names s.next_activity s.next_event (s.next_event + 1) (omega arith) sound.root_names;
      apart = sound.apart;
      fields = sound.fields;
      activities = sound.activities;
      attributes = sound.attributes;
      links = sound.links;
      masks = sound.masks;
      names = sound.names;
      events = events_fired s.deployment s.activities s.events s.next_activity s.next_timer s.next_event a v (and_parts _ _ sound.activities).0 sound.events can active isnt;
      services_done = services_done_more s.deployment s.events s.services_done a v sound.services_done;
      delivered = delivered_more s.events s.delivered s.next_entity a v sound.delivered;
      suspensions = suspensions_more s.clock s.events s.delivered s.suspensions a v sound.suspensions;
      timers = sound.timers;
      rows = sound.rows;
    }

-- look-ups among activities of which one ends

same_number : (b : ℕ) (row : Activity) → (ends b row).number ≡ row.number
same_number b row = cond_both (row.number.0 == b) (record row { ending = true }) row (λ r. r.number ≡ row.number) (λ _. refl) (λ _. refl)

pub end_at : (rows : List Activity) (b a : ℕ) → activity_at (with_end rows b) a ≡ option_map (ends b) (activity_at rows a)
end_at [] b a = refl
end_at (row ∷ rows) b a = rw (same_number b row) (elim (cases_Bool (row.number.0 == a)) [
  | inl is ↦ rw is refl
  | inr isnt ↦ rw isnt (end_at rows b a)
])

same_kind : (b : ℕ) (row : Activity) → (ends b row).kind ≡ row.kind
same_kind b row = cond_both (row.number.0 == b) (record row { ending = true }) row (λ r. r.kind ≡ row.kind) (λ _. refl) (λ _. refl)

-- a row that has the number is kept as it was where it has another one
other_kept : (b : ℕ) (row : Activity) → (row.number.0 == b) ≡ false → ends b row ≡ row
other_kept b row other = rw other refl

number_kept : (b : ℕ) (row : Activity) → number_of (ends b row) ≡ number_of row
number_kept b row = cond_both (row.number.0 == b) (record row { ending = true }) row (λ r. number_of r ≡ number_of row) (λ _. refl) (λ _. refl)

end_rises : (b : ℕ) (rows : List Activity) → rises_in number_of rows ≡ true → rises_in number_of (with_end rows b) ≡ true
end_rises b [] rises = refl
end_rises b (x ∷ []) rises = refl
end_rises b (x ∷ y ∷ rows) rises =
    let parts = and_parts (nat_lt x.number.0 y.number.0) (rises_in number_of (y ∷ rows)) rises in
    let one : nat_lt (number_of (ends b x)) (number_of (ends b y)) ≡ true = rw (number_kept b x, number_kept b y) parts.0 in
    rw one (end_rises b (y ∷ rows) parts.1)

either_not : (p q : Bool) → (not p || not q) ≡ true → p ≡ true → q ≡ false
either_not true true one two = absurd (cc)
either_not true false one two = refl
either_not false q one two = absurd (cc)

end_rows : (d : Deployed) (n b : ℕ) (rows : List Activity) → list_all (λ row. not (row.number.0 == b) || not (is_table row.kind)) rows ≡ true → list_all (is_activity_row d n) rows ≡ true → list_all (is_activity_row d n) (with_end rows b) ≡ true
end_rows d n b [] fine all = refl
end_rows d n b (row ∷ rows) fine all =
    let parts = and_parts (is_activity_row d n row) (list_all (is_activity_row d n) rows) all in
    let fines = and_parts (not (row.number.0 == b) || not (is_table row.kind)) _ fine in
    and_from (is_activity_row d n (ends b row)) (list_all (is_activity_row d n) (with_end rows b)) (one row fines.0 parts.0) (end_rows d n b rows fines.1 parts.1)
  where
    kept : (row : Activity) (kind : AcKind) → is_table kind ≡ false → is_kind d row kind ≡ true → is_kind d (record row { ending = true }) kind ≡ true
    kept row (kinds.External name) isnt is = is
    kept row kinds.Null isnt is = is
    kept row (kinds.Service service) isnt is = is
    kept row (kinds.Table table) isnt is = absurd (cc)

    one : (row : Activity) → (not (row.number.0 == b) || not (is_table row.kind)) ≡ true → is_activity_row d n row ≡ true → is_activity_row d n (ends b row) ≡ true
    one row fine is = elim (cases_Bool (row.number.0 == b)) [
      | inl mine ↦ (let parts = and_parts (is_drawn n row.number.0) (is_kind d row row.kind) is in rw mine (and_from (is_drawn n row.number.0) _ parts.0 (kept row row.kind (either_not (row.number.0 == b) (is_table row.kind) fine mine) parts.1)))
      | inr other ↦ rw other is
    ]

end_differ : (b : ℕ) (rows : List Activity) → all_differ (λ (x y : Activity). differ_in_kind x.kind y.kind) rows ≡ true → all_differ (λ (x y : Activity). differ_in_kind x.kind y.kind) (with_end rows b) ≡ true
end_differ b [] all = refl
end_differ b (row ∷ rows) all =
    let parts = and_parts (list_all (λ (y : Activity). differ_in_kind row.kind y.kind) rows) _ all in
    rw (same_kind b row) (and_from _ _ (tests_map (λ (y : Activity). differ_in_kind row.kind y.kind) (λ y. differ_in_kind row.kind y.kind) (ends b) (λ y is. rw (same_kind b y) is) rows parts.0) (end_differ b rows parts.1))

end_tables : (b : ℕ) (rows : List Activity) (n : ℕ) (ts : List DeployedTable) → tables_have_activities rows n ts ≡ true → tables_have_activities (with_end rows b) n ts ≡ true
end_tables b rows n [] is = refl
end_tables b rows n (t ∷ ts) is =
    let parts = and_parts _ (tables_have_activities rows (n + 1) ts) is in
    and_from _ _ (rw (end_at rows b (table_activity n)) (one (activity_at rows (table_activity n)) parts.0)) (end_tables b rows (n + 1) ts parts.1)
  where
    one : (o : Option Activity) → option_map_or (λ (row : Activity). is_of_table n row.kind) o false ≡ true → option_map_or (λ (row : Activity). is_of_table n row.kind) (option_map (ends b) o) false ≡ true
    one None is = is
    one (Some row) is = rw (same_kind b row) is

activities_end : (d : Deployed) (rows : List Activity) (n b : ℕ) → list_all (λ row. not (row.number.0 == b) || not (is_table row.kind)) rows ≡ true → are_activities d rows n ≡ true → are_activities d (with_end rows b) n ≡ true
activities_end d rows n b fine sound =
    let rises = and_parts (rises_in number_of rows) _ sound in
    let tests = and_parts (list_all (is_activity_row d n) rows) _ rises.1 in
    let differ = and_parts (all_differ (λ (x y : Activity). differ_in_kind x.kind y.kind) rows) (tables_have_activities rows 0 d.tables) tests.1 in
    and_from _ _ (end_rises b rows rises.0) (and_from _ _ (end_rows d n b rows fine tests.0) (and_from _ _ (end_differ b rows differ.0) (end_tables b rows 0 d.tables differ.1)))

services_end : (rows : List Activity) (b n : ℕ) (services : List Service) → list_all (λ row. not (row.activity.0 == b) || not (is_service_active row.state)) services ≡ true → are_services_from rows n services ≡ true → are_services_from (with_end rows b) n services ≡ true
services_end rows b n [] fine is = refl
services_end rows b n (row ∷ services) fine is =
    let parts = and_parts (is_service_row rows n row) _ is in
    let fines = and_parts (not (row.activity.0 == b) || not (is_service_active row.state)) _ fine in
    and_from (is_service_row (with_end rows b) n row) _ (elim (or_cases (row.activity.0 == 0) _ parts.0) [
      | inl none ↦ or_left (row.activity.0 == 0) _ none
      | inr own ↦ or_right (row.activity.0 == 0) _ (rw (end_at rows b row.activity.0) (elim (cases_Bool (row.activity.0 == b)) [
        | inl mine ↦ stopped (activity_at rows row.activity.0) (either_not (row.activity.0 == b) (is_service_active row.state) fines.0 mine) own
        | inr other ↦ found (activity_at rows row.activity.0) (numbers rows row.activity.0) other own
      ]))
    ]) (services_end rows b (n + 1) services fines.1 parts.1)
  where
    no_clash : (p q r : Bool) → q ≡ false → (p && not (q && r)) ≡ true → (t : Bool) → (p && not (q && t)) ≡ true
    no_clash p true r isnt is t = absurd (cc)
    no_clash p false r isnt is t = is

    stopped : (o : Option Activity) → is_service_active row.state ≡ false → option_map_or (is_activity_of n row) o false ≡ true → option_map_or (is_activity_of n row) (option_map (ends b) o) false ≡ true
    stopped None isnt is = is
    stopped (Some x) isnt is = rw (same_kind b x) (no_clash (is_of_service n x.kind) (is_service_active row.state) x.ending isnt is (ends b x).ending)

    numbers : (rows : List Activity) (a : ℕ) → (x : Activity) → activity_at rows a ≡ Some x → (x.number.0 == a) ≡ true
    numbers [] a x found = absurd (cc)
    numbers (y ∷ rows) a x found = elim (cases_Bool (y.number.0 == a)) [
      | inl is ↦ subst (λ (z : Activity). (z.number.0 == a) ≡ true) (some_same (rw is at found)) is
      | inr isnt ↦ numbers rows a x (rw isnt at found)
    ]
      where
        some_same : {X : Type 0} {x y : X} → Some x ≡ Some y → x ≡ y
        some_same same = cc

    found : (o : Option Activity) → ((x : Activity) → o ≡ Some x → (x.number.0 == row.activity.0) ≡ true) → (row.activity.0 == b) ≡ false → option_map_or (is_activity_of n row) o false ≡ true → option_map_or (is_activity_of n row) (option_map (ends b) o) false ≡ true
    found None number other is = is
    found (Some x) number other is = rw (other_kept b x (apart x.number.0 row.activity.0 b (number x refl) other)) is
      where
        apart : (x y b : ℕ) → (x == y) ≡ true → (y == b) ≡ false → (x == b) ≡ false
        apart x y b one two = grind (arith, nat_tests)

attributes_end : (d : Deployed) (rows : List Activity) (b n m : ℕ) (attributes : List Attribute) → are_attributes d rows attributes n m ≡ true → are_attributes d (with_end rows b) attributes n m ≡ true
attributes_end d rows b n m attributes sound =
    let parts = and_parts _ (list_all (is_attribute_row d rows n m) attributes) sound in
    and_from _ _ parts.0 (tests_weaker (is_attribute_row d rows n m) (is_attribute_row d (with_end rows b) n m)
    (λ x is. let both = and_parts (is_some (activity_at rows x.activity.0)) _ is in and_from (is_some (activity_at (with_end rows b) x.activity.0)) _ (end_there rows b x.activity.0 both.0) both.1) attributes parts.1)

links_end : (entities : List Entity) (rows : List Activity) (b : ℕ) (links : List Link) → are_links entities rows links ≡ true → are_links entities (with_end rows b) links ≡ true
links_end entities rows b links sound =
    let parts = and_parts _ (list_all (is_link_row entities rows) links) sound in
    and_from _ _ parts.0 (tests_weaker (is_link_row entities rows) (is_link_row entities (with_end rows b))
    (λ x is. let both = and_parts (is_some (entity_at entities x.entity.0)) (is_some (activity_at rows x.activity.0)) is in and_from (is_some (entity_at entities x.entity.0)) _ both.0 (end_there rows b x.activity.0 both.1)) links parts.1)

names_end : (rows : List Activity) (b : ℕ) (names : List Named) → are_names rows names ≡ true → are_names (with_end rows b) names ≡ true
names_end rows b names sound =
    let parts = and_parts _ (list_all (is_name_row rows) names) sound in
    and_from _ _ parts.0 (tests_weaker (is_name_row rows) (is_name_row (with_end rows b))
    (λ x is. let both = and_parts (is_text x.name) (is_some (activity_at rows x.activity.0)) is in and_from (is_text x.name) _ both.0 (end_there rows b x.activity.0 both.1)) names parts.1)

timer_joins : Joins (λ (x y : Timer). nat_lt x.number.0 y.number.0)
timer_joins x y z one two = lt x.number.0 y.number.0 z.number.0 one two
  where
    lt : (a b c : ℕ) → nat_lt a b ≡ true → nat_lt b c ≡ true → nat_lt a c ≡ true
    lt a b c one two = grind (arith, nat_tests)

active_else : (rows : List Activity) (b a : ℕ) → (a == b) ≡ false → is_active rows a ≡ true → is_active (with_end rows b) a ≡ true
active_else rows b a other is = rw (end_at rows b a) (found (activity_at rows a) (number rows) is)
  where
    number : (rows : List Activity) (x : Activity) → activity_at rows a ≡ Some x → (x.number.0 == a) ≡ true
    number [] x found = absurd (cc)
    number (y ∷ rows) x found = elim (cases_Bool (y.number.0 == a)) [
      | inl same ↦ subst (λ (z : Activity). (z.number.0 == a) ≡ true) (some_same (rw same at found)) same
      | inr isnt ↦ number rows x (rw isnt at found)
    ]
      where
        some_same : {X : Type 0} {x y : X} → Some x ≡ Some y → x ≡ y
        some_same same = cc

    apart : (x a b : ℕ) → (x == a) ≡ true → (a == b) ≡ false → (x == b) ≡ false
    apart x a b one two = grind (arith, nat_tests)

    found : (o : Option Activity) → ((x : Activity) → o ≡ Some x → (x.number.0 == a) ≡ true) → option_map_or (λ (row : Activity). not row.ending) o false ≡ true → option_map_or (λ (row : Activity). not row.ending) (option_map (ends b) o) false ≡ true
    found None number is = is
    found (Some x) number is = rw (other_kept b x (apart x.number.0 a b (number x refl) other)) is

timers_end : (rows : List Activity) (b next : ℕ) (timers : List Timer) → are_timers rows timers next ≡ true → are_timers (with_end rows b) (without_timers_on timers b) next ≡ true
timers_end rows b next timers sound =
    let parts = and_parts (rises_in (λ (row : Timer). row.number.0) timers) (list_all (is_timer_row rows next) timers) sound in
    and_from _ _ (filter_rises (λ (x y : Timer). nat_lt x.number.0 y.number.0) timer_joins (λ row. not (row.activity.0 == b)) timers parts.0)
    (tests_kept (is_timer_row rows next) (is_timer_row (with_end rows b) next) (λ row. not (row.activity.0 == b))
    (λ t keep is. let drawn = and_parts (is_drawn next t.number.0) _ is in let active = and_parts (is_active rows t.activity.0) _ drawn.1 in
    and_from (is_drawn next t.number.0) _ drawn.0 (and_from (is_active (with_end rows b) t.activity.0) _ (active_else rows b t.activity.0 (not-true (t.activity.0 == b) keep) active.0) active.1)) timers parts.1)

-- an activity ends
pub sound_ended : (s : State) (a : ℕ) → IsSound s → CanEnd s a
    → CanFire s.deployment s.activities s.next_activity s.next_timer s.next_event a (record { id = record { 0 = s.next_event }; name = activity_end; fields = []; target = None })
    → is_u64 (s.next_event + 1) ≡ true → IsSound (ended s a)
sound_ended s a sound can fire fits =
    let v : Event = record { id = record { 0 = s.next_event }; name = activity_end; fields = []; target = None } in
    let own = and_parts (length s.services == length s.deployment.services) (are_services_from s.activities 0 s.services) sound.services in
    record {
      clock = sound.clock;
      inputs = sound.inputs;
      next_entity = sound.next_entity;
      next_activity = sound.next_activity;
      next_timer = sound.next_timer;
      next_event = next_counted s.next_event fits;
      services = and_from _ _ own.0 (services_end s.activities a 0 s.services can.service own.1);
      entities = sound.entities;
      root_names = root_names_more s.deployment s.entities s.root_names s.next_activity s.next_event (s.next_event + 1) (omega arith) sound.root_names;
      apart = sound.apart;
      fields = sound.fields;
      activities = activities_end s.deployment s.activities s.next_activity a can.kind sound.activities;
      attributes = attributes_end s.deployment s.activities a s.next_activity s.next_timer s.attributes sound.attributes;
      links = links_end s.entities s.activities a s.links sound.links;
      masks = sound.masks;
      names = names_end s.activities a s.names sound.names;
      events = events_ended s.deployment s.activities s.events s.next_activity s.next_timer s.next_event a v (and_parts (rises_in number_of s.activities) _ sound.activities).0 sound.events fire can.active refl;
      services_done = services_done_more s.deployment s.events s.services_done a v sound.services_done;
      delivered = delivered_more s.events s.delivered s.next_entity a v sound.delivered;
      suspensions = suspensions_more s.clock s.events s.delivered s.suspensions a v sound.suspensions;
      timers = timers_end s.activities a s.next_timer s.timers sound.timers;
      rows = sound.rows;
    }
