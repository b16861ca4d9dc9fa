-- The events that wait on activities, the marks beside head events, and suspensions: what is read of them, and how they change.
use Rattle.std.specs.Prelude.{ℕ, nat_lt, Bool, ◌==◌, not, if◌then◌else◌, List, [], ◌∷◌, Option, option_map, filter, find, map, is_some}
use Rattle.std.specs.List.{list_any, list_all}
use Rattle.built_in_events.specs.declared.built_in.BuiltInEvent.TheVariants as built_in_events
use Rattle.built_in_events.specs.BuiltIn.{name_of as built_in_name}
use Rattle.rows_sorted.specs.Orders.{put, pair_before, same_pair}
use Rattle.router_state.specs.declared.rows.Event.{Event}
use Rattle.router_state.specs.declared.rows.Queued.{Queued}
use Rattle.router_state.specs.declared.rows.ServiceMark.{ServiceMark}
use Rattle.router_state.specs.declared.rows.EntityMark.{EntityMark}
use Rattle.router_state.specs.declared.rows.Suspension.{Suspension}

-- the event that ends an activity; each activity has it, and nobody fires it (JSR 240, 7.6)
abbrev pub activity_end : List ℕ
activity_end = built_in_name built_in_events.ActivityEnd

-- by activity, then by number
abbrev pub queued_before : Queued → Queued → Bool
queued_before x y = pair_before x.activity.0 x.event.id.0 y.activity.0 y.event.id.0

-- the events that wait on an activity, the head event first
abbrev pub queue : List Queued → ℕ → List Event
queue events a = map (λ q. q.event) (filter (λ q. q.activity.0 == a) events)

-- the head event of an activity: the one that comes next
abbrev pub head_event : List Queued → ℕ → Option Event
head_event events a = option_map (λ q. q.event) (find (λ q. q.activity.0 == a) events)

-- an event waits on the activity
abbrev pub is_waiting : List Queued → ℕ → Bool
is_waiting events a = list_any (λ q. q.activity.0 == a) events

-- the event waits on the activity; a new one has the greatest number, and so waits last
abbrev pub with_event : List Queued → ℕ → Event → List Queued
with_event events a event = put queued_before (record { activity = record { 0 = a }; event = event }) events

-- the head event of the activity is gone
abbrev pub without_head : List Queued → ℕ → List Queued
without_head [] a = []
without_head (q ∷ qs) a = if q.activity.0 == a then qs else q ∷ without_head qs a

-- by activity, then by service
abbrev pub service_mark_before : ServiceMark → ServiceMark → Bool
service_mark_before x y = pair_before x.activity.0 x.service y.activity.0 y.service

-- the service's selection was done for the activity's head event
abbrev pub is_done : List ServiceMark → ℕ → ℕ → Bool
is_done marks a service = list_any (λ m. same_pair m.activity.0 m.service a service) marks

-- the services whose selection was done, rising
abbrev pub done_on : List ServiceMark → ℕ → List ℕ
done_on marks a = map (λ m. m.service) (filter (λ m. m.activity.0 == a) marks)

-- the service is marked, once
abbrev pub with_service_mark : List ServiceMark → ℕ → ℕ → List ServiceMark
with_service_mark marks a service = put service_mark_before (record { activity = record { 0 = a }; service = service }) marks

-- no marks of services on the activity
abbrev pub without_service_marks : List ServiceMark → ℕ → List ServiceMark
without_service_marks marks a = filter (λ m. not (m.activity.0 == a)) marks

-- by activity, then by entity
abbrev pub entity_mark_before : EntityMark → EntityMark → Bool
entity_mark_before x y = pair_before x.activity.0 x.entity.0 y.activity.0 y.entity.0

-- the entity has received the activity's head event
abbrev pub is_delivered : List EntityMark → ℕ → ℕ → Bool
is_delivered marks a e = list_any (λ m. same_pair m.activity.0 m.entity.0 a e) marks

-- the entities that have received the activity's head event, rising
abbrev pub delivered_on : List EntityMark → ℕ → List ℕ
delivered_on marks a = map (λ m. m.entity.0) (filter (λ m. m.activity.0 == a) marks)

-- no entity has received the activity's head event yet
abbrev pub is_undelivered : List EntityMark → ℕ → Bool
is_undelivered marks a = list_all (λ m. not (m.activity.0 == a)) marks

-- the entity is marked, once
abbrev pub with_entity_mark : List EntityMark → ℕ → ℕ → List EntityMark
with_entity_mark marks a e = put entity_mark_before (record { activity = record { 0 = a }; entity = record { 0 = e } }) marks

-- no marks of entities on the activity
abbrev pub without_entity_marks : List EntityMark → ℕ → List EntityMark
without_entity_marks marks a = filter (λ m. not (m.activity.0 == a)) marks

-- by activity
abbrev pub suspension_before : Suspension → Suspension → Bool
suspension_before x y = nat_lt x.activity.0 y.activity.0

-- the moment until which the activity's head event is suspended
abbrev pub suspended_until : List Suspension → ℕ → Option ℕ
suspended_until rows a = option_map (λ row. row.until) (find (λ row. row.activity.0 == a) rows)

-- the activity's head event is suspended
abbrev pub is_suspended : List Suspension → ℕ → Bool
is_suspended rows a = is_some (suspended_until rows a)

-- the activity's head event is suspended until this moment
abbrev pub with_suspension : List Suspension → ℕ → ℕ → List Suspension
with_suspension rows a until = put suspension_before (record { activity = record { 0 = a }; until = until }) rows

-- the activity's head event isn't suspended
abbrev pub without_suspension : List Suspension → ℕ → List Suspension
without_suspension rows a = filter (λ row. not (row.activity.0 == a)) rows
