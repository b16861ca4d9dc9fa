-- The lists of a sound state that stand beside entities, activities and attachments are those of all of them, one behind another.
use Rattle.std.proofs.Common.{◌≡◌, ℕ, ◌==◌, ◌<◌, ◌≤◌, Bool, true, false, List, [], ◌∷◌, map, refl, inl, inr, arith, nat_lt}
use Rattle.std.specs.Prelude.{filter, find, flat_map, is_some}
use Rattle.std.specs.List.{AllByRecursion, list_all, list_any}
use Rattle.std.proofs.lemmas.Bool.{and_parts, eqb-true, ltb-true, or_cases}
use Rattle.std.proofs.lemmas.Bool.Decides.{nat_tests}
use Rattle.slee_value.specs.Order.{is_below}
use Rattle.rows_sorted.specs.Orders.{rises_by, rises_in, same_pair}
use Rattle.deploy_model.specs.Deployed.{is_event}
use Rattle.router_state.specs.State.{State}
use Rattle.router_state.specs.Contexts.{activity_at, attribute_before, is_link, is_linked, link_before}
use Rattle.router_state.specs.Fields.{field_before}
use Rattle.router_state.specs.Fits.{is_drawn}
use Rattle.router_state.specs.Masks.{is_mask_of, mask_before}
use Rattle.router_state.specs.Queues.{entity_mark_before, is_waiting, queued_before, service_mark_before, suspension_before}
use Rattle.router_state.specs.Trees.{entity_at, root_name_before}
use Rattle.router_state.specs.Well.{IsSound}
use Rattle.router_state.specs.WellContexts.{is_attribute_row, is_mask_row}
use Rattle.router_state.specs.WellEntities.{is_field_row, is_root_name}
use Rattle.router_state.specs.WellQueues.{is_entity_mark, is_service_mark, is_suspension_row}
use Rattle.router_state.specs.declared.rows.Activity.{Activity}
use Rattle.router_state.specs.declared.rows.Attribute.{Attribute}
use Rattle.router_state.specs.declared.rows.Entity.{Entity}
use Rattle.router_state.specs.declared.rows.EntityMark.{EntityMark}
use Rattle.router_state.specs.declared.rows.Field.{Field}
use Rattle.router_state.specs.declared.rows.Link.{Link}
use Rattle.router_state.specs.declared.rows.Mask.{Mask}
use Rattle.router_state.specs.declared.rows.Queued.{Queued}
use Rattle.router_state.specs.declared.rows.RootName.{RootName}
use Rattle.router_state.specs.declared.rows.ServiceMark.{ServiceMark}
use Rattle.router_state.specs.declared.rows.Suspension.{Suspension}
use Rattle.router_laws_snapshots.proofs.Gathering.{InPairs, IsAmong, gathered, only_one, option_list, pairs_from_rises}
use Rattle.router_laws_snapshots.proofs.Keys.{IsLess, IsPairBelow, has_number, keys_apart, numbered, numbers_up, pair_on, paired, pairs_up, rows_apart, tied_up, triple_on, triple_up}
use Rattle.router_laws_snapshots.proofs.Fitting.{all_tests, found_among}
use Rattle.router_laws_snapshots.proofs.Parsed.{IsGathered, activity_numbers, entity_numbers, link_keys, rows_of}
use Rattle.router_laws_snapshots.proofs.SoundContexts.{events_there, waiting_there}

-- ---- the keys rise

up_less : (a b : ℕ) → nat_lt a b ≡ true → a ≤ b
up_less a b is = grind (arith, nat_tests)

other_number : (a b k : ℕ) → (a == k) ≡ true → a < b → (b == k) ≡ false
other_number a b k is less = grind (arith, nat_tests)

entities_order : (s : State) → IsSound s → InPairs IsLess (entity_numbers s)
entities_order s sound =
    keys_apart (λ (row : Entity). row.number.0) IsLess s.entities
    (rows_apart (λ (row : Entity). row.number.0) (λ (x y : Entity). nat_lt x.number.0 y.number.0) (λ x y is. ltb-true x.number.0 y.number.0 is) s.entities (and_parts (rises_in (λ (row : Entity). row.number.0) s.entities) _ sound.entities).0)

activities_order : (s : State) → IsSound s → InPairs IsLess (activity_numbers s)
activities_order s sound =
    keys_apart (λ (row : Activity). row.number.0) IsLess s.activities
    (rows_apart (λ (row : Activity). row.number.0) (λ (x y : Activity). nat_lt x.number.0 y.number.0) (λ x y is. ltb-true x.number.0 y.number.0 is) s.activities (and_parts (rises_in (λ (row : Activity). row.number.0) s.activities) _ sound.activities).0)

links_order : (s : State) → IsSound s → InPairs IsPairBelow (link_keys s)
links_order s sound =
    keys_apart (λ (l : Link). (l.activity.0, l.entity.0)) IsPairBelow s.links
    (pairs_from_rises link_before (λ (x y : Link). IsPairBelow (x.activity.0, x.entity.0) (y.activity.0, y.entity.0)) (λ x y is. is) (λ x y z is later. pair_on x.activity.0 x.entity.0 y.activity.0 y.entity.0 z.activity.0 z.entity.0 is later) s.links
    (and_parts (rises_by link_before s.links) _ sound.links).0)

-- ---- rows by number

-- rows that rise, each with the number of something that is there, are gathered by these numbers
by_number : {Row : Type 0} (number : Row → ℕ) (before : Row → Row → Bool) → ((x y : Row) → before x y ≡ true → number x ≤ number y) → (ks : List ℕ) (rows : List Row) → InPairs IsLess ks → rises_by before rows ≡ true → AllByRecursion (λ row. IsAmong (number row) ks) rows
    → flat_map (rows_of number rows) ks ≡ rows
by_number number before up ks rows order rises among =
    gathered number (has_number number) IsLess (numbered number) ks rows order (numbers_up number before up rows rises) among

-- rows whose numbers rise have one of each number at most
one_each : {Row : Type 0} (number : Row → ℕ) (before : Row → Row → Bool) → ((x y : Row) → before x y ≡ true → number x < number y) → (rows : List Row) → rises_by before rows ≡ true → (k : ℕ) → option_list (find (has_number number k) rows) ≡ rows_of number rows k
one_each number before less rows rises k =
    only_one (has_number number k) (λ x y. number x < number y) (λ x y is below. other_number (number x) (number y) k is below) rows (rows_apart number before less rows rises)

entity_among : (s : State) (e : ℕ) → is_some (entity_at s.entities e) ≡ true → IsAmong e (entity_numbers s)
entity_among s e is = found_among (λ (row : Entity). row.number.0) s.entities e is

activity_among : (s : State) (a : ℕ) → is_some (activity_at s.activities a) ≡ true → IsAmong a (activity_numbers s)
activity_among s a is = found_among (λ (row : Activity). row.number.0) s.activities a is

gathered_fields : (s : State) → IsSound s → flat_map (rows_of (λ (row : Field). row.entity.0) s.fields) (entity_numbers s) ≡ s.fields
gathered_fields s sound =
    let parts = and_parts (rises_by field_before s.fields) _ sound.fields in
    by_number (λ (row : Field). row.entity.0) field_before (λ x y is. tied_up x.entity.0 y.entity.0 (is_below x.name y.name) is) (entity_numbers s) s.fields (entities_order s sound) parts.0
    (all_tests (is_field_row s.entities s.next_activity s.next_timer) (λ (row : Field). IsAmong row.entity.0 (entity_numbers s)) (λ row is. entity_among s row.entity.0 (and_parts (is_some (entity_at s.entities row.entity.0)) _ is).0) s.fields
    (and_parts (list_all (is_field_row s.entities s.next_activity s.next_timer) s.fields) _ parts.1).0)

gathered_names : (s : State) → IsSound s → flat_map (rows_of (λ (row : RootName). row.entity.0) s.root_names) (entity_numbers s) ≡ s.root_names
gathered_names s sound =
    let parts = and_parts (rises_by root_name_before s.root_names) _ sound.root_names in
    by_number (λ (row : RootName). row.entity.0) root_name_before (λ x y is. up_less x.entity.0 y.entity.0 is) (entity_numbers s) s.root_names (entities_order s sound) parts.0
    (all_tests (is_root_name s.deployment s.entities s.next_activity s.next_event) (λ (row : RootName). IsAmong row.entity.0 (entity_numbers s)) (λ row is. entity_among s row.entity.0 (and_parts (is_some (entity_at s.entities row.entity.0)) _ is).0) s.root_names
    (and_parts (list_all (is_root_name s.deployment s.entities s.next_activity s.next_event) s.root_names) _ parts.1).0)

gathered_attributes : (s : State) → IsSound s → flat_map (rows_of (λ (row : Attribute). row.activity.0) s.attributes) (activity_numbers s) ≡ s.attributes
gathered_attributes s sound =
    let parts = and_parts (rises_by attribute_before s.attributes) (list_all (is_attribute_row s.deployment s.activities s.next_activity s.next_timer) s.attributes) sound.attributes in
    by_number (λ (row : Attribute). row.activity.0) attribute_before (λ x y is. tied_up x.activity.0 y.activity.0 (is_below x.key y.key) is) (activity_numbers s) s.attributes (activities_order s sound) parts.0
    (all_tests (is_attribute_row s.deployment s.activities s.next_activity s.next_timer) (λ (row : Attribute). IsAmong row.activity.0 (activity_numbers s)) (λ row is. activity_among s row.activity.0 (and_parts (is_some (activity_at s.activities row.activity.0)) _ is).0) s.attributes parts.1)

gathered_events : (s : State) → IsSound s → flat_map (rows_of (λ (row : Queued). row.activity.0) s.events) (activity_numbers s) ≡ s.events
gathered_events s sound =
    by_number (λ (row : Queued). row.activity.0) queued_before (λ x y is. tied_up x.activity.0 y.activity.0 (nat_lt x.event.id.0 y.event.id.0) is) (activity_numbers s) s.events (activities_order s sound)
    (and_parts (rises_by queued_before s.events) _ sound.events).0 (events_there s sound)

gathered_services_done : (s : State) → IsSound s → flat_map (rows_of (λ (row : ServiceMark). row.activity.0) s.services_done) (activity_numbers s) ≡ s.services_done
gathered_services_done s sound =
    let parts = and_parts (rises_by service_mark_before s.services_done) (list_all (is_service_mark s.deployment s.events) s.services_done) sound.services_done in
    by_number (λ (row : ServiceMark). row.activity.0) service_mark_before (λ x y is. tied_up x.activity.0 y.activity.0 (nat_lt x.service y.service) is) (activity_numbers s) s.services_done (activities_order s sound) parts.0
    (all_tests (is_service_mark s.deployment s.events) (λ (row : ServiceMark). IsAmong row.activity.0 (activity_numbers s)) (λ row is. waiting_there s row.activity.0 sound (and_parts (is_waiting s.events row.activity.0) _ is).0) s.services_done parts.1)

gathered_delivered : (s : State) → IsSound s → flat_map (rows_of (λ (row : EntityMark). row.activity.0) s.delivered) (activity_numbers s) ≡ s.delivered
gathered_delivered s sound =
    let parts = and_parts (rises_by entity_mark_before s.delivered) (list_all (is_entity_mark s.events s.next_entity) s.delivered) sound.delivered in
    by_number (λ (row : EntityMark). row.activity.0) entity_mark_before (λ x y is. tied_up x.activity.0 y.activity.0 (nat_lt x.entity.0 y.entity.0) is) (activity_numbers s) s.delivered (activities_order s sound) parts.0
    (all_tests (is_entity_mark s.events s.next_entity) (λ (row : EntityMark). IsAmong row.activity.0 (activity_numbers s)) (λ row is. waiting_there s row.activity.0 sound (and_parts (is_waiting s.events row.activity.0) (is_drawn s.next_entity row.entity.0) is).0) s.delivered parts.1)

gathered_suspensions : (s : State) → IsSound s → flat_map (rows_of (λ (row : Suspension). row.activity.0) s.suspensions) (activity_numbers s) ≡ s.suspensions
gathered_suspensions s sound =
    let parts = and_parts (rises_by suspension_before s.suspensions) (list_all (is_suspension_row s.clock s.events s.delivered) s.suspensions) sound.suspensions in
    by_number (λ (row : Suspension). row.activity.0) suspension_before (λ x y is. up_less x.activity.0 y.activity.0 is) (activity_numbers s) s.suspensions (activities_order s sound) parts.0
    (all_tests (is_suspension_row s.clock s.events s.delivered) (λ (row : Suspension). IsAmong row.activity.0 (activity_numbers s)) (λ row is. waiting_there s row.activity.0 sound (and_parts (is_waiting s.events row.activity.0) _ is).0) s.suspensions parts.1)

-- ---- masks

linked_among : (links : List Link) (e a : ℕ) → list_any (is_link e a) links ≡ true → IsAmong {K = ℕ × ℕ} (a, e) (map (λ (l : Link). (l.activity.0, l.entity.0)) links)
linked_among [] e a is = absurd (cc)
linked_among (l ∷ links) e a is = elim (or_cases (is_link e a l) (list_any (is_link e a) links) is) [
  | inl here ↦ (let parts = and_parts (l.entity.0 == e) (l.activity.0 == a) here in inl (same (eqb-true l.activity.0 a parts.1) (eqb-true l.entity.0 e parts.0)))
  | inr later ↦ inr (linked_among links e a later)
]
  where
    same : {n m k j : ℕ} → n ≡ k → m ≡ j → (let p : ℕ × ℕ = (k, j) in p) ≡ (n, m)
    same one two = rw (one, two) refl

gathered_masks : (s : State) → IsSound s → flat_map (λ (k : ℕ × ℕ). filter (is_mask_of k.1 k.0) s.masks) (link_keys s) ≡ s.masks
gathered_masks s sound =
    let parts = and_parts (rises_by mask_before s.masks) (list_all (is_mask_row s.deployment s.links) s.masks) sound.masks in
    gathered (λ (m : Mask). (m.activity.0, m.entity.0)) (λ (k : ℕ × ℕ) m. same_pair m.entity.0 m.activity.0 k.1 k.0) IsPairBelow (paired (λ (m : Mask). m.activity.0) (λ m. m.entity.0)) (link_keys s) s.masks (links_order s sound)
    (pairs_up (λ (m : Mask). m.activity.0) (λ m. m.entity.0) mask_before
    (λ x y is turned. triple_up x.activity.0 x.entity.0 y.activity.0 y.entity.0 (is_below x.event y.event) is turned)
    (λ x y z is below. triple_on x.activity.0 x.entity.0 y.activity.0 y.entity.0 z.activity.0 z.entity.0 (is_below x.event y.event) is below) s.masks parts.0)
    (all_tests (is_mask_row s.deployment s.links) (λ (m : Mask). IsAmong {K = ℕ × ℕ} (m.activity.0, m.entity.0) (link_keys s)) (λ m is. linked_among s.links m.entity.0 m.activity.0 (and_parts (is_linked s.links m.entity.0 m.activity.0) (is_event s.deployment m.event) is).0) s.masks parts.1)

-- all of them
pub sound_gathered : (s : State) → IsSound s → IsGathered s
sound_gathered s sound = record {
  fields = gathered_fields s sound;
  root_names = gathered_names s sound;
  one_name = one_each (λ (row : RootName). row.entity.0) root_name_before (λ x y is. ltb-true x.entity.0 y.entity.0 is) s.root_names (and_parts (rises_by root_name_before s.root_names) _ sound.root_names).0;
  attributes = gathered_attributes s sound;
  events = gathered_events s sound;
  services_done = gathered_services_done s sound;
  delivered = gathered_delivered s sound;
  suspensions = gathered_suspensions s sound;
  one_suspension = one_each (λ (row : Suspension). row.activity.0) suspension_before (λ x y is. ltb-true x.activity.0 y.activity.0 is) s.suspensions (and_parts (rises_by suspension_before s.suspensions) _ sound.suspensions).0;
  masks = gathered_masks s sound;
}
