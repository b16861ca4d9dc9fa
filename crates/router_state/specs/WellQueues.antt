-- Tests of queues, of the marks beside head events, and of suspensions. Each test takes the lists that it reads.
use Rattle.std.specs.Prelude.{ℕ, nat_lt, nat_le, ◌==◌, Bool, false, ◌&&◌, not, if◌then◌else◌, is_some, List, [], ◌∷◌, length}
use Rattle.std.specs.Option.{option_map_or}
use Rattle.std.specs.List.{list_all}
use Rattle.std.specs.Str.{bytes_eq}
use Rattle.deploy_model.specs.Deployed.{Deployed, event_fields}
use Rattle.rows_sorted.specs.Orders.{rises_by}
use Rattle.router_state.specs.Fits.{is_drawn, is_value, none_or, are_declared}
use Rattle.router_state.specs.Timers.{last_moment}
use Rattle.router_state.specs.Contexts.{activity_at}
use Rattle.router_state.specs.Queues.{activity_end, queue, is_waiting, is_undelivered, queued_before, service_mark_before, entity_mark_before, suspension_before}
use Rattle.router_state.specs.WellEntities.{all_differ}
use Rattle.router_state.specs.declared.rows.Activity.{Activity}
use Rattle.router_state.specs.declared.rows.Event.{Event}
use Rattle.router_state.specs.declared.rows.Queued.{Queued}
use Rattle.router_state.specs.declared.rows.ServiceMark.{ServiceMark}
use Rattle.router_state.specs.declared.rows.EntityMark.{EntityMark}
use Rattle.router_state.specs.declared.rows.Suspension.{Suspension}

-- the fields are those of the event, which is declared or built in, and their values fit
abbrev pub has_event_fields : Deployed → ℕ → ℕ → Event → Bool
has_event_fields d next_activity next_timer event =
    option_map_or (λ declared. are_declared declared event.fields) (event_fields d event.name) false
    && list_all (λ field. is_value next_activity next_timer field.1) event.fields

-- an event waits on an activity that is there, and its target is deployed
abbrev pub is_event_row : Deployed → List Activity → ℕ → ℕ → ℕ → Queued → Bool
is_event_row d activities next_activity next_timer next_event q =
    is_drawn next_event q.event.id.0
    && (is_some (activity_at activities q.activity.0)
    && (none_or (λ service. nat_lt service (length d.services)) q.event.target
    && has_event_fields d next_activity next_timer q.event))

-- two events that wait have different numbers
abbrev pub differ_in_number : Queued → Queued → Bool
differ_in_number x y = not (x.event.id.0 == y.event.id.0)

-- the event is the end of an activity
abbrev pub is_end : Event → Bool
is_end event = bytes_eq event.name activity_end

-- no event is an activity's end
abbrev pub has_no_end : List Event → Bool
has_no_end events = list_all (λ event. not (is_end event)) events

-- the last event is an activity's end, and no other
abbrev pub has_end_last : List Event → Bool
has_end_last [] = false
has_end_last (event ∷ []) = is_end event
has_end_last (event ∷ other ∷ events) = not (is_end event) && has_end_last (other ∷ events)

-- the end of an Ending activity waits last on it, and no other activity has an end that waits (JSR 240, 7.6)
abbrev pub ends_right : List Queued → Activity → Bool
ends_right events row =
    if row.ending then has_end_last (queue events row.number.0) else has_no_end (queue events row.number.0)

-- events rise, their numbers differ, each row passes, and ends stand where they should
abbrev pub are_events : Deployed → List Activity → List Queued → ℕ → ℕ → ℕ → Bool
are_events d activities events next_activity next_timer next_event =
    rises_by queued_before events
    && (all_differ differ_in_number events
    && (list_all (is_event_row d activities next_activity next_timer next_event) events && list_all (ends_right events) activities))

-- a mark stands beside a head event, and its service is deployed
abbrev pub is_service_mark : Deployed → List Queued → ServiceMark → Bool
is_service_mark d events m = is_waiting events m.activity.0 && nat_lt m.service (length d.services)

-- marks of services rise, and each row passes
abbrev pub are_services_done : Deployed → List Queued → List ServiceMark → Bool
are_services_done d events marks = rises_by service_mark_before marks && list_all (is_service_mark d events) marks

-- a mark stands beside a head event, and its entity was there once
abbrev pub is_entity_mark : List Queued → ℕ → EntityMark → Bool
is_entity_mark events next_entity m = is_waiting events m.activity.0 && is_drawn next_entity m.entity.0

-- marks of entities rise, and each row passes
abbrev pub are_delivered : List Queued → List EntityMark → ℕ → Bool
are_delivered events marks next_entity = rises_by entity_mark_before marks && list_all (is_entity_mark events next_entity) marks

-- A suspension stands beside a head event that some entity has received; its moment is above the clock.
abbrev pub is_suspension_row : ℕ → List Queued → List EntityMark → Suspension → Bool
is_suspension_row clock events marks row =
    is_waiting events row.activity.0 && (not (is_undelivered marks row.activity.0) && (nat_lt clock row.until && nat_le row.until last_moment))

-- suspensions rise, and each row passes
abbrev pub are_suspensions : ℕ → List Queued → List EntityMark → List Suspension → Bool
are_suspensions clock events marks rows = rises_by suspension_before rows && list_all (is_suspension_row clock events marks) rows
