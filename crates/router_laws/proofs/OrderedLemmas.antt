-- Each change keeps every list rising, and numbers that were drawn below the next ones.
use Rattle.std.proofs.Common.{◌≡◌, ℕ, ◌+◌, ◌<◌, ◌==◌, Bool, true, false, ◌&&◌, not, List, [], ◌∷◌, ◌++◌, filter, map, refl, arith, nat_lt, IsTrue, if◌then◌else◌}
use Rattle.std.specs.List.{AllByRecursion, list_all}
use Rattle.std.specs.Str.{bytes_eq}
use Rattle.std.proofs.lemmas.Bool.{cond_both, and_parts}
use Rattle.std.proofs.lemmas.Bool.Decides.{nat_tests}
use Rattle.router_laws.proofs.OrderLemmas.{below_joins, pair_joins, text_joins, triple_joins}
use Rattle.router_laws.proofs.RisingLemmas.{Joins, InOrder, order_append, order_from_rises, rises_from_order, put_rises, filter_rises}
use Rattle.router_state.specs.State.{State}
use Rattle.rows_sorted.specs.Orders.{rises_by, rises_in, are_below}
use Rattle.router_state.specs.Ordered.{IsOrdered}
use Rattle.router_state.specs.Changes.{after_change}
use Rattle.router_state.specs.Fields.{field_before}
use Rattle.router_state.specs.Trees.{has_priority, root_name_before}
use Rattle.router_state.specs.Contexts.{ends, attribute_before, link_before, is_link, name_before}
use Rattle.router_state.specs.Masks.{mask_before, is_mask, is_mask_of, with_mask, with_masks, with_mask_set, without_mask, without_masks}
use Rattle.router_state.specs.Queues.{queued_before, without_head, service_mark_before, entity_mark_before, suspension_before}
use Rattle.router_state.specs.Timers.{advanced, behind, due_count, goes_on}
use Rattle.router_state.specs.Profiles.{row_before, is_row}
use Rattle.router_state.specs.declared.change.Change.{Change}
use Rattle.router_state.specs.declared.change.Change.TheVariants as changes
use Rattle.router_state.specs.declared.rows.Activity.{Activity}
use Rattle.router_state.specs.declared.rows.Attribute.{Attribute}
use Rattle.router_state.specs.declared.rows.Entity.{Entity}
use Rattle.router_state.specs.declared.rows.EntityMark.{EntityMark}
use Rattle.router_state.specs.declared.rows.Field.{Field}
use Rattle.router_state.specs.declared.rows.Link.{Link}
use Rattle.router_state.specs.declared.rows.Mask.{Mask}
use Rattle.router_state.specs.declared.rows.Named.{Named}
use Rattle.router_state.specs.declared.rows.ProfileRow.{ProfileRow}
use Rattle.router_state.specs.declared.rows.Queued.{Queued}
use Rattle.router_state.specs.declared.rows.RootName.{RootName}
use Rattle.router_state.specs.declared.rows.ServiceMark.{ServiceMark}
use Rattle.router_state.specs.declared.rows.Stem.TheVariants as stems
use Rattle.router_state.specs.declared.rows.Suspension.{Suspension}
use Rattle.router_state.specs.declared.rows.Timer.{Timer}

-- the orders go on from row to row

lt_joins : (a b c : ℕ) → nat_lt a b ≡ true → nat_lt b c ≡ true → nat_lt a c ≡ true
lt_joins a b c one two = grind (arith, nat_tests)

abbrev by_number : {Row : Type 0} → (Row → ℕ) → Row → Row → Bool
by_number number x y = nat_lt (number x) (number y)

number_joins : {Row : Type 0} (number : Row → ℕ) → Joins (by_number number)
number_joins number x y z one two = lt_joins (number x) (number y) (number z) one two

field_joins : Joins field_before
field_joins x y z one two = text_joins x.entity.0 x.name y.entity.0 y.name z.entity.0 z.name one two

root_name_joins : Joins root_name_before
root_name_joins x y z one two = lt_joins x.entity.0 y.entity.0 z.entity.0 one two

attribute_joins : Joins attribute_before
attribute_joins x y z one two = text_joins x.activity.0 x.key y.activity.0 y.key z.activity.0 z.key one two

link_joins : Joins link_before
link_joins x y z one two = pair_joins x.activity.0 x.entity.0 y.activity.0 y.entity.0 z.activity.0 z.entity.0 one two

name_joins : Joins name_before
name_joins x y z one two = below_joins x.name y.name z.name one two

mask_joins : Joins mask_before
mask_joins x y z one two = triple_joins x.activity.0 x.entity.0 x.event y.activity.0 y.entity.0 y.event z.activity.0 z.entity.0 z.event one two

queued_joins : Joins queued_before
queued_joins x y z one two = pair_joins x.activity.0 x.event.id.0 y.activity.0 y.event.id.0 z.activity.0 z.event.id.0 one two

service_mark_joins : Joins service_mark_before
service_mark_joins x y z one two = pair_joins x.activity.0 x.service y.activity.0 y.service z.activity.0 z.service one two

entity_mark_joins : Joins entity_mark_before
entity_mark_joins x y z one two = pair_joins x.activity.0 x.entity.0 y.activity.0 y.entity.0 z.activity.0 z.entity.0 one two

suspension_joins : Joins suspension_before
suspension_joins x y z one two = lt_joins x.activity.0 y.activity.0 z.activity.0 one two

row_joins : Joins row_before
row_joins x y z one two = text_joins x.table x.row y.table y.row z.table z.row one two

-- lists by a number

all_before : {Row : Type 0} (number : Row → ℕ) (n : ℕ) (rows : List Row) (row : Row) → are_below number n rows ≡ true → number row ≡ n
    → AllByRecursion (λ x. AllByRecursion (λ y. by_number number x y ≡ true) (row ∷ [])) rows
all_before number n [] row below is = tt
all_before number n (x ∷ xs) row below is =
    let parts = and_parts _ _ below in ((rw is parts.0, tt), all_before number n xs row parts.1 is)

pushed : {Row : Type 0} (number : Row → ℕ) (n : ℕ) (rows : List Row) (row : Row) → rises_in number rows ≡ true → are_below number n rows ≡ true → number row ≡ n
    → rises_in number (rows ++ row ∷ []) ≡ true
pushed number n rows row rises below is =
    rises_from_order (by_number number) (rows ++ row ∷ [])
    (order_append (by_number number) rows (row ∷ []) (order_from_rises (by_number number) (number_joins number) rows rises) (tt, tt) (all_before number n rows row below is))

below_pushed : {Row : Type 0} (number : Row → ℕ) (n : ℕ) (rows : List Row) (row : Row) → are_below number n rows ≡ true → number row ≡ n
    → are_below number (n + 1) (rows ++ row ∷ []) ≡ true
below_pushed number n [] row below is = let last : nat_lt (number row) (n + 1) ≡ true = grind (arith, nat_tests, is) in rw last refl
below_pushed number n (x ∷ xs) row below is =
    let parts = and_parts _ _ below in
    let less : nat_lt (number x) n ≡ true = parts.0 in
    let one : nat_lt (number x) (n + 1) ≡ true = grind (arith, nat_tests, less) in
    rw one (below_pushed number n xs row parts.1 is)

below_filter : {Row : Type 0} (number : Row → ℕ) (n : ℕ) (p : Row → Bool) (rows : List Row) → are_below number n rows ≡ true → are_below number n (filter p rows) ≡ true
below_filter number n p [] below = refl
below_filter number n p (x ∷ xs) below =
    let parts = and_parts (nat_lt (number x) n) (are_below number n xs) below in
    cond_both (p x) (x ∷ filter p xs) (filter p xs) (λ rows. are_below number n rows ≡ true)
    (λ _. rw parts.0 (below_filter number n p xs parts.1)) (λ _. below_filter number n p xs parts.1)

mapped_rises : {Row : Type 0} (number : Row → ℕ) (f : Row → Row) → ((x : Row) → number (f x) ≡ number x) → (rows : List Row) → rises_in number rows ≡ true → rises_in number (map f rows) ≡ true
mapped_rises number f keeps [] rises = refl
mapped_rises number f keeps (x ∷ []) rises = refl
mapped_rises number f keeps (x ∷ y ∷ rows) rises =
    let parts = and_parts _ _ rises in
    let one : nat_lt (number (f x)) (number (f y)) ≡ true = rw (keeps x, keeps y) parts.0 in
    rw one (mapped_rises number f keeps (y ∷ rows) parts.1)

mapped_below : {Row : Type 0} (number : Row → ℕ) (n : ℕ) (f : Row → Row) → ((x : Row) → number (f x) ≡ number x) → (rows : List Row) → are_below number n rows ≡ true → are_below number n (map f rows) ≡ true
mapped_below number n f keeps [] below = refl
mapped_below number n f keeps (x ∷ rows) below =
    let parts = and_parts _ _ below in
    let one : nat_lt (number (f x)) n ≡ true = rw (keeps x) parts.0 in
    rw one (mapped_below number n f keeps rows parts.1)

abbrev entity_number : Entity → ℕ
entity_number row = row.number.0

abbrev activity_number : Activity → ℕ
activity_number row = row.number.0

abbrev timer_number : Timer → ℕ
timer_number row = row.number.0

priority_number : (e : ℕ) (priority : _) (row : Entity) → entity_number (has_priority e priority row) ≡ entity_number row
priority_number e priority row = cond_both (row.number.0 == e) (record row { priority = priority }) row (λ r. entity_number r ≡ entity_number row) (λ _. refl) (λ _. refl)

ends_number : (a : ℕ) (row : Activity) → activity_number (ends a row) ≡ activity_number row
ends_number a row = cond_both (row.number.0 == a) (record row { ending = true }) row (λ r. activity_number r ≡ activity_number row) (λ _. refl) (λ _. refl)

advanced_rises : (to : ℕ) (timers : List Timer) → rises_in timer_number timers ≡ true → rises_in timer_number (advanced timers to) ≡ true
advanced_rises to timers rises =
    mapped_rises timer_number (λ t. behind t (due_count t to)) (λ t. refl) (filter (λ t. goes_on t (due_count t to)) timers)
    (filter_rises (by_number timer_number) (number_joins timer_number) (λ t. goes_on t (due_count t to)) timers rises)

advanced_below : (to n : ℕ) (timers : List Timer) → are_below timer_number n timers ≡ true → are_below timer_number n (advanced timers to) ≡ true
advanced_below to n timers below =
    mapped_below timer_number n (λ t. behind t (due_count t to)) (λ t. refl) (filter (λ t. goes_on t (due_count t to)) timers)
    (below_filter timer_number n (λ t. goes_on t (due_count t to)) timers below)

-- masks, and the head event that goes

mask_rises : (e a : ℕ) (event : List ℕ) (masks : List Mask) → rises_by mask_before masks ≡ true → rises_by mask_before (with_mask masks e a event) ≡ true
mask_rises e a event masks rises = put_rises mask_before mask_joins (record { entity = record { 0 = e }; activity = record { 0 = a }; event = event }) masks rises

masks_rise : (e a : ℕ) (events : List (List ℕ)) (masks : List Mask) → rises_by mask_before masks ≡ true → rises_by mask_before (with_masks masks e a events) ≡ true
masks_rise e a [] masks rises = rises
masks_rise e a (event ∷ events) masks rises = masks_rise e a events (with_mask masks e a event) (mask_rises e a event masks rises)

mask_set_rises : (e a : ℕ) (event : List ℕ) (on : Bool) (masks : List Mask) → rises_by mask_before masks ≡ true → rises_by mask_before (with_mask_set masks e a event on) ≡ true
mask_set_rises e a event true masks rises = mask_rises e a event masks rises
mask_set_rises e a event false masks rises = filter_rises mask_before mask_joins (λ m. not (is_mask e a event m)) masks rises

all_without_head : (P : Queued → Type 0) (a : ℕ) (events : List Queued) → AllByRecursion P events → AllByRecursion P (without_head events a)
all_without_head P a [] all = tt
all_without_head P a (q ∷ qs) all =
    cond_both (q.activity.0 == a) qs (q ∷ without_head qs a) (AllByRecursion P) (λ _. all.1) (λ _. (all.0, all_without_head P a qs all.1))

order_without_head : (a : ℕ) (events : List Queued) → InOrder queued_before events → InOrder queued_before (without_head events a)
order_without_head a [] order = tt
order_without_head a (q ∷ qs) order =
    cond_both (q.activity.0 == a) qs (q ∷ without_head qs a) (InOrder queued_before) (λ _. order.1)
    (λ _. (all_without_head (λ y. queued_before q y ≡ true) a qs order.0, order_without_head a qs order.1))

head_gone_rises : (a : ℕ) (events : List Queued) → rises_by queued_before events ≡ true → rises_by queued_before (without_head events a) ≡ true
head_gone_rises a events rises =
    rises_from_order queued_before (without_head events a) (order_without_head a events (order_from_rises queued_before queued_joins events rises))

-- each change

pub ordered_after : (c : Change) (s : State) → IsOrdered s → IsOrdered (after_change c s)
ordered_after (changes.SetField e name value) s order = record {
  entities = order.entities;
  entities_below = order.entities_below;
  root_names = order.root_names;
  fields = put_rises field_before field_joins (record { entity = record { 0 = e.0 }; name = name; value = value }) s.fields order.fields;
  activities = order.activities;
  activities_below = order.activities_below;
  attributes = order.attributes;
  links = order.links;
  masks = order.masks;
  names = order.names;
  events = order.events;
  services_done = order.services_done;
  delivered = order.delivered;
  suspensions = order.suspensions;
  timers = order.timers;
  timers_below = order.timers_below;
  rows = order.rows;
}
ordered_after (changes.ForgetFields e) s order = record {
  entities = order.entities;
  entities_below = order.entities_below;
  root_names = order.root_names;
  fields = filter_rises field_before field_joins (λ row. not (row.entity.0 == e.0)) s.fields order.fields;
  activities = order.activities;
  activities_below = order.activities_below;
  attributes = order.attributes;
  links = order.links;
  masks = order.masks;
  names = order.names;
  events = order.events;
  services_done = order.services_done;
  delivered = order.delivered;
  suspensions = order.suspensions;
  timers = order.timers;
  timers_below = order.timers_below;
  rows = order.rows;
}
ordered_after (changes.CreateRoot block service priority) s order = record {
  entities = pushed entity_number s.next_entity s.entities (record { number = record { 0 = s.next_entity }; block = block; stem = stems.Root service; priority = priority }) order.entities order.entities_below refl;
  entities_below = below_pushed entity_number s.next_entity s.entities (record { number = record { 0 = s.next_entity }; block = block; stem = stems.Root service; priority = priority }) order.entities_below refl;
  root_names = order.root_names;
  fields = order.fields;
  activities = order.activities;
  activities_below = order.activities_below;
  attributes = order.attributes;
  links = order.links;
  masks = order.masks;
  names = order.names;
  events = order.events;
  services_done = order.services_done;
  delivered = order.delivered;
  suspensions = order.suspensions;
  timers = order.timers;
  timers_below = order.timers_below;
  rows = order.rows;
}
ordered_after (changes.CreateChild parent relation block priority) s order = record {
  entities = pushed entity_number s.next_entity s.entities (record { number = record { 0 = s.next_entity }; block = block; stem = stems.Child parent relation; priority = priority }) order.entities order.entities_below refl;
  entities_below = below_pushed entity_number s.next_entity s.entities (record { number = record { 0 = s.next_entity }; block = block; stem = stems.Child parent relation; priority = priority }) order.entities_below refl;
  root_names = order.root_names;
  fields = order.fields;
  activities = order.activities;
  activities_below = order.activities_below;
  attributes = order.attributes;
  links = order.links;
  masks = order.masks;
  names = order.names;
  events = order.events;
  services_done = order.services_done;
  delivered = order.delivered;
  suspensions = order.suspensions;
  timers = order.timers;
  timers_below = order.timers_below;
  rows = order.rows;
}
ordered_after (changes.Remove e) s order = record {
  entities = filter_rises (by_number entity_number) (number_joins entity_number) (λ row. not (row.number.0 == e.0)) s.entities order.entities;
  entities_below = below_filter entity_number s.next_entity (λ row. not (row.number.0 == e.0)) s.entities order.entities_below;
  root_names = filter_rises root_name_before root_name_joins (λ row. not (row.entity.0 == e.0)) s.root_names order.root_names;
  fields = order.fields;
  activities = order.activities;
  activities_below = order.activities_below;
  attributes = order.attributes;
  links = order.links;
  masks = order.masks;
  names = order.names;
  events = order.events;
  services_done = order.services_done;
  delivered = order.delivered;
  suspensions = order.suspensions;
  timers = order.timers;
  timers_below = order.timers_below;
  rows = order.rows;
}
ordered_after (changes.SetPriority e priority) s order = record {
  entities = mapped_rises entity_number (has_priority e.0 priority) (priority_number e.0 priority) s.entities order.entities;
  entities_below = mapped_below entity_number s.next_entity (has_priority e.0 priority) (priority_number e.0 priority) s.entities order.entities_below;
  root_names = order.root_names;
  fields = order.fields;
  activities = order.activities;
  activities_below = order.activities_below;
  attributes = order.attributes;
  links = order.links;
  masks = order.masks;
  names = order.names;
  events = order.events;
  services_done = order.services_done;
  delivered = order.delivered;
  suspensions = order.suspensions;
  timers = order.timers;
  timers_below = order.timers_below;
  rows = order.rows;
}
ordered_after (changes.Start kind) s order = record {
  entities = order.entities;
  entities_below = order.entities_below;
  root_names = order.root_names;
  fields = order.fields;
  activities = pushed activity_number s.next_activity s.activities (record { number = record { 0 = s.next_activity }; kind = kind; ending = false }) order.activities order.activities_below refl;
  activities_below = below_pushed activity_number s.next_activity s.activities (record { number = record { 0 = s.next_activity }; kind = kind; ending = false }) order.activities_below refl;
  attributes = order.attributes;
  links = order.links;
  masks = order.masks;
  names = order.names;
  events = order.events;
  services_done = order.services_done;
  delivered = order.delivered;
  suspensions = order.suspensions;
  timers = order.timers;
  timers_below = order.timers_below;
  rows = order.rows;
}
ordered_after (changes.End a) s order = record {
  entities = order.entities;
  entities_below = order.entities_below;
  root_names = order.root_names;
  fields = order.fields;
  activities = mapped_rises activity_number (ends a.0) (ends_number a.0) s.activities order.activities;
  activities_below = mapped_below activity_number s.next_activity (ends a.0) (ends_number a.0) s.activities order.activities_below;
  attributes = order.attributes;
  links = order.links;
  masks = order.masks;
  names = order.names;
  events = order.events;
  services_done = order.services_done;
  delivered = order.delivered;
  suspensions = order.suspensions;
  timers = order.timers;
  timers_below = order.timers_below;
  rows = order.rows;
}
ordered_after (changes.DropContext a) s order = record {
  entities = order.entities;
  entities_below = order.entities_below;
  root_names = order.root_names;
  fields = order.fields;
  activities = filter_rises (by_number activity_number) (number_joins activity_number) (λ row. not (row.number.0 == a.0)) s.activities order.activities;
  activities_below = below_filter activity_number s.next_activity (λ row. not (row.number.0 == a.0)) s.activities order.activities_below;
  attributes = filter_rises attribute_before attribute_joins (λ row. not (row.activity.0 == a.0)) s.attributes order.attributes;
  links = filter_rises link_before link_joins (λ l. not (l.activity.0 == a.0)) s.links order.links;
  masks = order.masks;
  names = filter_rises name_before name_joins (λ row. not (row.activity.0 == a.0)) s.names order.names;
  events = order.events;
  services_done = order.services_done;
  delivered = order.delivered;
  suspensions = order.suspensions;
  timers = order.timers;
  timers_below = order.timers_below;
  rows = order.rows;
}
ordered_after (changes.Attach e a) s order = record {
  entities = order.entities;
  entities_below = order.entities_below;
  root_names = order.root_names;
  fields = order.fields;
  activities = order.activities;
  activities_below = order.activities_below;
  attributes = order.attributes;
  links = put_rises link_before link_joins (record { entity = record { 0 = e.0 }; activity = record { 0 = a.0 } }) s.links order.links;
  masks = order.masks;
  names = order.names;
  events = order.events;
  services_done = order.services_done;
  delivered = order.delivered;
  suspensions = order.suspensions;
  timers = order.timers;
  timers_below = order.timers_below;
  rows = order.rows;
}
ordered_after (changes.Detach e a) s order = record {
  entities = order.entities;
  entities_below = order.entities_below;
  root_names = order.root_names;
  fields = order.fields;
  activities = order.activities;
  activities_below = order.activities_below;
  attributes = order.attributes;
  links = filter_rises link_before link_joins (λ l. not (is_link e.0 a.0 l)) s.links order.links;
  masks = order.masks;
  names = order.names;
  events = order.events;
  services_done = order.services_done;
  delivered = order.delivered;
  suspensions = order.suspensions;
  timers = order.timers;
  timers_below = order.timers_below;
  rows = order.rows;
}
ordered_after (changes.SetAttr a key value) s order = record {
  entities = order.entities;
  entities_below = order.entities_below;
  root_names = order.root_names;
  fields = order.fields;
  activities = order.activities;
  activities_below = order.activities_below;
  attributes = put_rises attribute_before attribute_joins (record { activity = record { 0 = a.0 }; key = key; value = value }) s.attributes order.attributes;
  links = order.links;
  masks = order.masks;
  names = order.names;
  events = order.events;
  services_done = order.services_done;
  delivered = order.delivered;
  suspensions = order.suspensions;
  timers = order.timers;
  timers_below = order.timers_below;
  rows = order.rows;
}
ordered_after (changes.Bind name a) s order = record {
  entities = order.entities;
  entities_below = order.entities_below;
  root_names = order.root_names;
  fields = order.fields;
  activities = order.activities;
  activities_below = order.activities_below;
  attributes = order.attributes;
  links = order.links;
  masks = order.masks;
  names = put_rises name_before name_joins (record { name = name; activity = record { 0 = a.0 } }) s.names order.names;
  events = order.events;
  services_done = order.services_done;
  delivered = order.delivered;
  suspensions = order.suspensions;
  timers = order.timers;
  timers_below = order.timers_below;
  rows = order.rows;
}
ordered_after (changes.Unbind name) s order = record {
  entities = order.entities;
  entities_below = order.entities_below;
  root_names = order.root_names;
  fields = order.fields;
  activities = order.activities;
  activities_below = order.activities_below;
  attributes = order.attributes;
  links = order.links;
  masks = order.masks;
  names = filter_rises name_before name_joins (λ row. not (bytes_eq row.name name)) s.names order.names;
  events = order.events;
  services_done = order.services_done;
  delivered = order.delivered;
  suspensions = order.suspensions;
  timers = order.timers;
  timers_below = order.timers_below;
  rows = order.rows;
}
ordered_after (changes.MaskOnAttach e a events) s order = record {
  entities = order.entities;
  entities_below = order.entities_below;
  root_names = order.root_names;
  fields = order.fields;
  activities = order.activities;
  activities_below = order.activities_below;
  attributes = order.attributes;
  links = order.links;
  masks = masks_rise e.0 a.0 events (without_masks s.masks e.0 a.0) (filter_rises mask_before mask_joins (λ m. not (is_mask_of e.0 a.0 m)) s.masks order.masks);
  names = order.names;
  events = order.events;
  services_done = order.services_done;
  delivered = order.delivered;
  suspensions = order.suspensions;
  timers = order.timers;
  timers_below = order.timers_below;
  rows = order.rows;
}
ordered_after (changes.SetMask e a event on) s order = record {
  entities = order.entities;
  entities_below = order.entities_below;
  root_names = order.root_names;
  fields = order.fields;
  activities = order.activities;
  activities_below = order.activities_below;
  attributes = order.attributes;
  links = order.links;
  masks = mask_set_rises e.0 a.0 event on s.masks order.masks;
  names = order.names;
  events = order.events;
  services_done = order.services_done;
  delivered = order.delivered;
  suspensions = order.suspensions;
  timers = order.timers;
  timers_below = order.timers_below;
  rows = order.rows;
}
ordered_after (changes.ForgetMasks e a) s order = record {
  entities = order.entities;
  entities_below = order.entities_below;
  root_names = order.root_names;
  fields = order.fields;
  activities = order.activities;
  activities_below = order.activities_below;
  attributes = order.attributes;
  links = order.links;
  masks = filter_rises mask_before mask_joins (λ m. not (is_mask_of e.0 a.0 m)) s.masks order.masks;
  names = order.names;
  events = order.events;
  services_done = order.services_done;
  delivered = order.delivered;
  suspensions = order.suspensions;
  timers = order.timers;
  timers_below = order.timers_below;
  rows = order.rows;
}
ordered_after (changes.Push a event) s order = record {
  entities = order.entities;
  entities_below = order.entities_below;
  root_names = order.root_names;
  fields = order.fields;
  activities = order.activities;
  activities_below = order.activities_below;
  attributes = order.attributes;
  links = order.links;
  masks = order.masks;
  names = order.names;
  events = put_rises queued_before queued_joins (record { activity = record { 0 = a.0 }; event = event }) s.events order.events;
  services_done = order.services_done;
  delivered = order.delivered;
  suspensions = order.suspensions;
  timers = order.timers;
  timers_below = order.timers_below;
  rows = order.rows;
}
ordered_after (changes.Pop a) s order = record {
  entities = order.entities;
  entities_below = order.entities_below;
  root_names = order.root_names;
  fields = order.fields;
  activities = order.activities;
  activities_below = order.activities_below;
  attributes = order.attributes;
  links = order.links;
  masks = order.masks;
  names = order.names;
  events = head_gone_rises a.0 s.events order.events;
  services_done = filter_rises service_mark_before service_mark_joins (λ m. not (m.activity.0 == a.0)) s.services_done order.services_done;
  delivered = filter_rises entity_mark_before entity_mark_joins (λ m. not (m.activity.0 == a.0)) s.delivered order.delivered;
  suspensions = order.suspensions;
  timers = order.timers;
  timers_below = order.timers_below;
  rows = order.rows;
}
ordered_after (changes.MarkService a service) s order = record {
  entities = order.entities;
  entities_below = order.entities_below;
  root_names = order.root_names;
  fields = order.fields;
  activities = order.activities;
  activities_below = order.activities_below;
  attributes = order.attributes;
  links = order.links;
  masks = order.masks;
  names = order.names;
  events = order.events;
  services_done = put_rises service_mark_before service_mark_joins (record { activity = record { 0 = a.0 }; service = service }) s.services_done order.services_done;
  delivered = order.delivered;
  suspensions = order.suspensions;
  timers = order.timers;
  timers_below = order.timers_below;
  rows = order.rows;
}
ordered_after (changes.MarkEntity a e) s order = record {
  entities = order.entities;
  entities_below = order.entities_below;
  root_names = order.root_names;
  fields = order.fields;
  activities = order.activities;
  activities_below = order.activities_below;
  attributes = order.attributes;
  links = order.links;
  masks = order.masks;
  names = order.names;
  events = order.events;
  services_done = order.services_done;
  delivered = put_rises entity_mark_before entity_mark_joins (record { activity = record { 0 = a.0 }; entity = record { 0 = e.0 } }) s.delivered order.delivered;
  suspensions = order.suspensions;
  timers = order.timers;
  timers_below = order.timers_below;
  rows = order.rows;
}
ordered_after (changes.Hold a until) s order = record {
  entities = order.entities;
  entities_below = order.entities_below;
  root_names = order.root_names;
  fields = order.fields;
  activities = order.activities;
  activities_below = order.activities_below;
  attributes = order.attributes;
  links = order.links;
  masks = order.masks;
  names = order.names;
  events = order.events;
  services_done = order.services_done;
  delivered = order.delivered;
  suspensions = put_rises suspension_before suspension_joins (record { activity = record { 0 = a.0 }; until = until }) s.suspensions order.suspensions;
  timers = order.timers;
  timers_below = order.timers_below;
  rows = order.rows;
}
ordered_after (changes.Release a) s order = record {
  entities = order.entities;
  entities_below = order.entities_below;
  root_names = order.root_names;
  fields = order.fields;
  activities = order.activities;
  activities_below = order.activities_below;
  attributes = order.attributes;
  links = order.links;
  masks = order.masks;
  names = order.names;
  events = order.events;
  services_done = order.services_done;
  delivered = order.delivered;
  suspensions = filter_rises suspension_before suspension_joins (λ row. not (row.activity.0 == a.0)) s.suspensions order.suspensions;
  timers = order.timers;
  timers_below = order.timers_below;
  rows = order.rows;
}
ordered_after (changes.SetTimer spec) s order = record {
  entities = order.entities;
  entities_below = order.entities_below;
  root_names = order.root_names;
  fields = order.fields;
  activities = order.activities;
  activities_below = order.activities_below;
  attributes = order.attributes;
  links = order.links;
  masks = order.masks;
  names = order.names;
  events = order.events;
  services_done = order.services_done;
  delivered = order.delivered;
  suspensions = order.suspensions;
  timers = pushed timer_number s.next_timer s.timers (record { number = record { 0 = s.next_timer }; activity = spec.activity; next = spec.start; period = spec.period; left = spec.times; keep = spec.keep }) order.timers order.timers_below refl;
  timers_below = below_pushed timer_number s.next_timer s.timers (record { number = record { 0 = s.next_timer }; activity = spec.activity; next = spec.start; period = spec.period; left = spec.times; keep = spec.keep }) order.timers_below refl;
  rows = order.rows;
}
ordered_after (changes.Cancel t) s order = record {
  entities = order.entities;
  entities_below = order.entities_below;
  root_names = order.root_names;
  fields = order.fields;
  activities = order.activities;
  activities_below = order.activities_below;
  attributes = order.attributes;
  links = order.links;
  masks = order.masks;
  names = order.names;
  events = order.events;
  services_done = order.services_done;
  delivered = order.delivered;
  suspensions = order.suspensions;
  timers = filter_rises (by_number timer_number) (number_joins timer_number) (λ row. not (row.number.0 == t.0)) s.timers order.timers;
  timers_below = below_filter timer_number s.next_timer (λ row. not (row.number.0 == t.0)) s.timers order.timers_below;
  rows = order.rows;
}
ordered_after (changes.CancelAll a) s order = record {
  entities = order.entities;
  entities_below = order.entities_below;
  root_names = order.root_names;
  fields = order.fields;
  activities = order.activities;
  activities_below = order.activities_below;
  attributes = order.attributes;
  links = order.links;
  masks = order.masks;
  names = order.names;
  events = order.events;
  services_done = order.services_done;
  delivered = order.delivered;
  suspensions = order.suspensions;
  timers = filter_rises (by_number timer_number) (number_joins timer_number) (λ row. not (row.activity.0 == a.0)) s.timers order.timers;
  timers_below = below_filter timer_number s.next_timer (λ row. not (row.activity.0 == a.0)) s.timers order.timers_below;
  rows = order.rows;
}
ordered_after (changes.Advance to) s order = record {
  entities = order.entities;
  entities_below = order.entities_below;
  root_names = order.root_names;
  fields = order.fields;
  activities = order.activities;
  activities_below = order.activities_below;
  attributes = order.attributes;
  links = order.links;
  masks = order.masks;
  names = order.names;
  events = order.events;
  services_done = order.services_done;
  delivered = order.delivered;
  suspensions = order.suspensions;
  timers = advanced_rises to s.timers order.timers;
  timers_below = advanced_below to s.next_timer s.timers order.timers_below;
  rows = order.rows;
}
ordered_after (changes.AddRow table row fields) s order = record {
  entities = order.entities;
  entities_below = order.entities_below;
  root_names = order.root_names;
  fields = order.fields;
  activities = order.activities;
  activities_below = order.activities_below;
  attributes = order.attributes;
  links = order.links;
  masks = order.masks;
  names = order.names;
  events = order.events;
  services_done = order.services_done;
  delivered = order.delivered;
  suspensions = order.suspensions;
  timers = order.timers;
  timers_below = order.timers_below;
  rows = put_rises row_before row_joins (record { table = table; row = row; attributes = fields }) s.rows order.rows;
}
ordered_after (changes.UpdateRow table row fields) s order = record {
  entities = order.entities;
  entities_below = order.entities_below;
  root_names = order.root_names;
  fields = order.fields;
  activities = order.activities;
  activities_below = order.activities_below;
  attributes = order.attributes;
  links = order.links;
  masks = order.masks;
  names = order.names;
  events = order.events;
  services_done = order.services_done;
  delivered = order.delivered;
  suspensions = order.suspensions;
  timers = order.timers;
  timers_below = order.timers_below;
  rows = put_rises row_before row_joins (record { table = table; row = row; attributes = fields }) s.rows order.rows;
}
ordered_after (changes.RemoveRow table row) s order = record {
  entities = order.entities;
  entities_below = order.entities_below;
  root_names = order.root_names;
  fields = order.fields;
  activities = order.activities;
  activities_below = order.activities_below;
  attributes = order.attributes;
  links = order.links;
  masks = order.masks;
  names = order.names;
  events = order.events;
  services_done = order.services_done;
  delivered = order.delivered;
  suspensions = order.suspensions;
  timers = order.timers;
  timers_below = order.timers_below;
  rows = filter_rises row_before row_joins (λ other. not (is_row table row other)) s.rows order.rows;
}
ordered_after (changes.Clock to) s order = record {
  entities = order.entities;
  entities_below = order.entities_below;
  root_names = order.root_names;
  fields = order.fields;
  activities = order.activities;
  activities_below = order.activities_below;
  attributes = order.attributes;
  links = order.links;
  masks = order.masks;
  names = order.names;
  events = order.events;
  services_done = order.services_done;
  delivered = order.delivered;
  suspensions = order.suspensions;
  timers = order.timers;
  timers_below = order.timers_below;
  rows = order.rows;
}
ordered_after changes.Taken s order = record {
  entities = order.entities;
  entities_below = order.entities_below;
  root_names = order.root_names;
  fields = order.fields;
  activities = order.activities;
  activities_below = order.activities_below;
  attributes = order.attributes;
  links = order.links;
  masks = order.masks;
  names = order.names;
  events = order.events;
  services_done = order.services_done;
  delivered = order.delivered;
  suspensions = order.suspensions;
  timers = order.timers;
  timers_below = order.timers_below;
  rows = order.rows;
}
ordered_after (changes.Service service state a) s order = record {
  entities = order.entities;
  entities_below = order.entities_below;
  root_names = order.root_names;
  fields = order.fields;
  activities = order.activities;
  activities_below = order.activities_below;
  attributes = order.attributes;
  links = order.links;
  masks = order.masks;
  names = order.names;
  events = order.events;
  services_done = order.services_done;
  delivered = order.delivered;
  suspensions = order.suspensions;
  timers = order.timers;
  timers_below = order.timers_below;
  rows = order.rows;
}
ordered_after (changes.Root e name) s order = record {
  entities = order.entities;
  entities_below = order.entities_below;
  root_names = put_rises root_name_before root_name_joins (record { entity = record { 0 = e.0 }; name = name }) s.root_names order.root_names;
  fields = order.fields;
  activities = order.activities;
  activities_below = order.activities_below;
  attributes = order.attributes;
  links = order.links;
  masks = order.masks;
  names = order.names;
  events = order.events;
  services_done = order.services_done;
  delivered = order.delivered;
  suspensions = order.suspensions;
  timers = order.timers;
  timers_below = order.timers_below;
  rows = order.rows;
}
ordered_after changes.NextEvent s order = record {
  entities = order.entities;
  entities_below = order.entities_below;
  root_names = order.root_names;
  fields = order.fields;
  activities = order.activities;
  activities_below = order.activities_below;
  attributes = order.attributes;
  links = order.links;
  masks = order.masks;
  names = order.names;
  events = order.events;
  services_done = order.services_done;
  delivered = order.delivered;
  suspensions = order.suspensions;
  timers = order.timers;
  timers_below = order.timers_below;
  rows = order.rows;
}
