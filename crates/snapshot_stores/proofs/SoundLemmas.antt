-- A sound state can be put into stores.
use Rattle.std.proofs.Common.{◌≡◌, ℕ, ◌<◌, Bool, true, List, [], ◌∷◌, refl, arith}
use Rattle.std.specs.Prelude.{IsTrue, is_some, nat_lt}
use Rattle.std.specs.List.{AllByRecursion, list_all}
use Rattle.std.proofs.lemmas.Bool.{and_parts}
use Rattle.std.proofs.lemmas.Bool.Decides.{nat_tests}
use Rattle.rows_sorted.specs.Orders.{are_below, rises_by, rises_in}
use Rattle.deploy_model.specs.Deployed.{Deployed}
use Rattle.router_state.specs.Contexts.{activity_at, attribute_before, link_before, name_before}
use Rattle.router_state.specs.Fields.{field_before}
use Rattle.router_state.specs.Fits.{is_drawn, is_priority}
use Rattle.router_state.specs.Masks.{mask_before}
use Rattle.router_state.specs.Ordered.{IsOrdered}
use Rattle.router_state.specs.Profiles.{row_before}
use Rattle.router_state.specs.Queues.{entity_mark_before, queued_before, service_mark_before, suspension_before}
use Rattle.router_state.specs.State.{State}
use Rattle.router_state.specs.Trees.{entity_at, parent_in, parent_of, root_name_before}
use Rattle.router_state.specs.Well.{IsSound}
use Rattle.router_state.specs.WellContexts.{is_activity_row, is_link_row}
use Rattle.router_state.specs.WellEntities.{all_differ, is_entity_row, is_stem}
use Rattle.router_state.specs.WellQueues.{differ_in_number, is_event_row}
use Rattle.router_state.specs.WellRows.{is_timer_row}
use Rattle.router_state.specs.declared.rows.Activity.{Activity}
use Rattle.router_state.specs.declared.rows.Entity.{Entity}
use Rattle.router_state.specs.declared.rows.Link.{Link}
use Rattle.router_state.specs.declared.rows.Queued.{Queued}
use Rattle.router_state.specs.declared.rows.Stem.{Stem}
use Rattle.router_state.specs.declared.rows.Stem.TheVariants as stems
use Rattle.router_state.specs.declared.rows.Timer.{Timer}
use Rattle.entity_tree.specs.Kept.{is_entity}
use Rattle.snapshot_stores.specs.Storing.{CanBeStored}

-- a test of all rows, as a fact of each
each : {Row : Type 0} (p : Row → Bool) (P : Row → Type 0) → ((x : Row) → p x ≡ true → P x) → (rows : List Row) → list_all p rows ≡ true → AllByRecursion P rows
each p P says [] all = tt
each p P says (x ∷ rows) all = let parts = and_parts (p x) (list_all p rows) all in (says x parts.0, each p P says rows parts.1)

weaker : {Row : Type 0} (p q : Row → Bool) → ((x : Row) → p x ≡ true → q x ≡ true) → (rows : List Row) → list_all p rows ≡ true → list_all q rows ≡ true
weaker p q says [] all = refl
weaker p q says (x ∷ rows) all = let parts = and_parts (p x) (list_all p rows) all in rw (says x parts.0) (weaker p q says rows parts.1)

-- numbers below the next one
pub below_each : {Row : Type 0} (number : Row → ℕ) (n : ℕ) (rows : List Row) → IsTrue (are_below number n rows) → AllByRecursion (λ row. number row < n) rows
below_each number n rows below = each (λ row. nat_lt (number row) n) (λ row. number row < n) (λ row less. grind (arith, nat_tests, less)) rows below

drawn_below : (next n : ℕ) → is_drawn next n ≡ true → nat_lt n next ≡ true
drawn_below next n drawn = (and_parts (nat_lt 0 n) (nat_lt n next) drawn).1

drawn_some : (next n : ℕ) → is_drawn next n ≡ true → 0 < n
drawn_some next n drawn = let some = (and_parts (nat_lt 0 n) (nat_lt n next) drawn).0 in grind (arith, nat_tests, some)

parent_low : (d : Deployed) (rows : List Entity) (number block : ℕ) (stem : Stem) → 0 < number → is_stem d rows number block stem ≡ true → parent_in stem < number
parent_low d rows number block (stems.Root service) some stands = some
parent_low d rows number block (stems.Child parent relation) some stands = let low = (and_parts (nat_lt parent.0 number) _ stands).0 in grind (arith, nat_tests, low)

-- what a test of a row says of its number
entity_drawn : (d : Deployed) (rows : List Entity) (next : ℕ) (row : Entity) → is_entity_row d rows next row ≡ true → is_drawn next row.number.0 ≡ true
entity_drawn d rows next row stands = (and_parts (is_drawn next row.number.0) _ stands).0

entity_stands : (d : Deployed) (rows : List Entity) (next : ℕ) (row : Entity) → is_entity_row d rows next row ≡ true → is_stem d rows row.number.0 row.block row.stem ≡ true
entity_stands d rows next row stands = (and_parts (is_priority row.priority) (is_stem d rows row.number.0 row.block row.stem) (and_parts (is_drawn next row.number.0) _ stands).1).1

entity_below : (d : Deployed) (rows : List Entity) (next : ℕ) (row : Entity) → is_entity_row d rows next row ≡ true → row.number.0 < next
entity_below d rows next row stands = let less = drawn_below next row.number.0 (entity_drawn d rows next row stands) in grind (arith, nat_tests, less)

entity_parent : (d : Deployed) (rows : List Entity) (next : ℕ) (row : Entity) → is_entity_row d rows next row ≡ true → parent_of row < row.number.0
entity_parent d rows next row stands = parent_low d rows row.number.0 row.block row.stem (drawn_some next row.number.0 (entity_drawn d rows next row stands)) (entity_stands d rows next row stands)

activity_below : (d : Deployed) (next : ℕ) (row : Activity) → is_activity_row d next row ≡ true → nat_lt row.number.0 next ≡ true
activity_below d next row stands = drawn_below next row.number.0 (and_parts (is_drawn next row.number.0) _ stands).0

timer_below : (activities : List Activity) (next : ℕ) (t : Timer) → is_timer_row activities next t ≡ true → nat_lt t.number.0 next ≡ true
timer_below activities next t stands = drawn_below next t.number.0 (and_parts (is_drawn next t.number.0) _ stands).0

link_there : (entities : List Entity) (activities : List Activity) (l : Link) → is_link_row entities activities l ≡ true → is_entity entities l.entity.0 ≡ true
link_there entities activities l stands = (and_parts (is_some (entity_at entities l.entity.0)) _ stands).0

event_there : (d : Deployed) (activities : List Activity) (next_activity next_timer next_event : ℕ) (q : Queued) → is_event_row d activities next_activity next_timer next_event q ≡ true → is_some (activity_at activities q.activity.0) ≡ true
event_there d activities next_activity next_timer next_event q stands = (and_parts (is_some (activity_at activities q.activity.0)) _ (and_parts (is_drawn next_event q.event.id.0) _ stands).1).0

module _ (s : State) (sound : IsSound s) where
  entity_rows : list_all (is_entity_row s.deployment s.entities s.next_entity) s.entities ≡ true
  entity_rows = (and_parts (rises_in (λ (row : Entity). row.number.0) s.entities) (list_all (is_entity_row s.deployment s.entities s.next_entity) s.entities) sound.entities).1

  activity_rows : list_all (is_activity_row s.deployment s.next_activity) s.activities ≡ true
  activity_rows = (and_parts (list_all (is_activity_row s.deployment s.next_activity) s.activities) _ (and_parts (rises_in (λ (row : Activity). row.number.0) s.activities) _ sound.activities).1).0

  timer_rows : list_all (is_timer_row s.activities s.next_timer) s.timers ≡ true
  timer_rows = (and_parts (rises_in (λ (row : Timer). row.number.0) s.timers) (list_all (is_timer_row s.activities s.next_timer) s.timers) sound.timers).1

  event_rows : list_all (is_event_row s.deployment s.activities s.next_activity s.next_timer s.next_event) s.events ≡ true
  event_rows =
      (and_parts (list_all (is_event_row s.deployment s.activities s.next_activity s.next_timer s.next_event) s.events) _
      (and_parts (all_differ differ_in_number s.events) _ (and_parts (rises_by queued_before s.events) _ sound.events).1).1).0

  next_some : 0 < s.next_entity
  next_some = let some = (and_parts (nat_lt 0 s.next_entity) _ sound.next_entity).0 in grind (arith, nat_tests, some)

  sound_ordered : IsOrdered s
  sound_ordered = record {
    entities = (and_parts (rises_in (λ (row : Entity). row.number.0) s.entities) _ sound.entities).0;
    entities_below = weaker (is_entity_row s.deployment s.entities s.next_entity) (λ (row : Entity). nat_lt row.number.0 s.next_entity) (λ row stands. drawn_below s.next_entity row.number.0 (entity_drawn s.deployment s.entities s.next_entity row stands)) s.entities entity_rows;
    root_names = (and_parts (rises_by root_name_before s.root_names) _ sound.root_names).0;
    fields = (and_parts (rises_by field_before s.fields) _ sound.fields).0;
    activities = (and_parts (rises_in (λ (row : Activity). row.number.0) s.activities) _ sound.activities).0;
    activities_below = weaker (is_activity_row s.deployment s.next_activity) (λ (row : Activity). nat_lt row.number.0 s.next_activity) (activity_below s.deployment s.next_activity) s.activities activity_rows;
    attributes = (and_parts (rises_by attribute_before s.attributes) _ sound.attributes).0;
    links = (and_parts (rises_by link_before s.links) _ sound.links).0;
    masks = (and_parts (rises_by mask_before s.masks) _ sound.masks).0;
    names = (and_parts (rises_by name_before s.names) _ sound.names).0;
    events = (and_parts (rises_by queued_before s.events) _ sound.events).0;
    services_done = (and_parts (rises_by service_mark_before s.services_done) _ sound.services_done).0;
    delivered = (and_parts (rises_by entity_mark_before s.delivered) _ sound.delivered).0;
    suspensions = (and_parts (rises_by suspension_before s.suspensions) _ sound.suspensions).0;
    timers = (and_parts (rises_in (λ (row : Timer). row.number.0) s.timers) _ sound.timers).0;
    timers_below = weaker (is_timer_row s.activities s.next_timer) (λ (t : Timer). nat_lt t.number.0 s.next_timer) (timer_below s.activities s.next_timer) s.timers timer_rows;
    rows = (and_parts (rises_by row_before s.rows) _ sound.rows).0;
  }

  -- a sound state can be put into stores
  pub can_be_stored : CanBeStored s
  can_be_stored = record {
    ordered = sound_ordered;
    entities = record {
      below = each (is_entity_row s.deployment s.entities s.next_entity) (λ row. row.number.0 < s.next_entity) (entity_below s.deployment s.entities s.next_entity) s.entities entity_rows;
      parents = each (is_entity_row s.deployment s.entities s.next_entity) (λ row. parent_of row < row.number.0) (entity_parent s.deployment s.entities s.next_entity) s.entities entity_rows;
      from_one = next_some;
    };
    attached = each (is_link_row s.entities s.activities) (λ (l : Link). is_entity s.entities l.entity.0 ≡ true) (link_there s.entities s.activities) s.links (and_parts (rises_by link_before s.links) (list_all (is_link_row s.entities s.activities) s.links) sound.links).1;
    waiting = weaker (is_event_row s.deployment s.activities s.next_activity s.next_timer s.next_event) (λ (q : Queued). is_some (activity_at s.activities q.activity.0)) (event_there s.deployment s.activities s.next_activity s.next_timer s.next_event) s.events event_rows;
  }
