-- Well-formed states: a test for each list, together with the lists that it reads.
use Rattle.std.specs.Prelude.{nat_le, Bool, ◌&&◌, IsTrue}
use Rattle.router_state.specs.State.{State}
use Rattle.router_state.specs.WellEntities.{are_entities, are_root_names, are_root_names_apart, are_fields}
use Rattle.router_state.specs.WellContexts.{are_activities, are_attributes, are_links, are_masks, are_names, are_services}
use Rattle.router_state.specs.WellQueues.{are_events, are_services_done, are_delivered, are_suspensions}
use Rattle.router_state.specs.Fits.{is_u64}
use Rattle.router_state.specs.Timers.{last_moment}
use Rattle.router_state.specs.WellRows.{are_timers, are_rows, is_next_number}
use Rattle.router_state.specs.Closed.{are_roots_held, are_stopping_with_trees, are_nulls_in_use}

-- sound parts: the clock, counts and next numbers are in their ranges, and each list passes its test
pub record IsSound (s : State) : Type 0 where
  pub clock : IsTrue (nat_le s.clock last_moment)
  pub inputs : IsTrue (is_u64 s.inputs)
  pub next_entity : IsTrue (is_next_number s.next_entity)
  pub next_activity : IsTrue (is_next_number s.next_activity)
  pub next_timer : IsTrue (is_next_number s.next_timer)
  pub next_event : IsTrue (is_next_number s.next_event)
  pub services : IsTrue (are_services s.deployment s.activities s.services)
  pub entities : IsTrue (are_entities s.deployment s.entities s.next_entity)
  pub root_names : IsTrue (are_root_names s.deployment s.entities s.root_names s.next_activity s.next_event)
  pub apart : IsTrue (are_root_names_apart s.entities s.root_names)
  pub fields : IsTrue (are_fields s.deployment s.entities s.fields s.next_activity s.next_timer)
  pub activities : IsTrue (are_activities s.deployment s.activities s.next_activity)
  pub attributes : IsTrue (are_attributes s.deployment s.activities s.attributes s.next_activity s.next_timer)
  pub links : IsTrue (are_links s.entities s.activities s.links)
  pub masks : IsTrue (are_masks s.deployment s.links s.masks)
  pub names : IsTrue (are_names s.activities s.names)
  pub events : IsTrue (are_events s.deployment s.activities s.events s.next_activity s.next_timer s.next_event)
  pub services_done : IsTrue (are_services_done s.deployment s.events s.services_done)
  pub delivered : IsTrue (are_delivered s.events s.delivered s.next_entity)
  pub suspensions : IsTrue (are_suspensions s.clock s.events s.delivered s.suspensions)
  pub timers : IsTrue (are_timers s.activities s.timers s.next_timer)
  pub rows : IsTrue (are_rows s.deployment s.rows s.next_activity s.next_timer)

-- closing changes nothing
pub record IsClosed (s : State) : Type 0 where
  pub roots : IsTrue (are_roots_held s.entities s.links)
  pub services : IsTrue (are_stopping_with_trees s.entities 0 s.services)
  pub nulls : IsTrue (are_nulls_in_use s.activities s.links s.names s.timers s.events)

-- a well-formed state
pub record IsWell (s : State) : Type 0 where
  pub sound : IsSound s
  pub closed : IsClosed s

-- the tests of counts in one
abbrev pub are_counts : State → Bool
are_counts s =
    nat_le s.clock last_moment
    && (is_u64 s.inputs
    && (is_next_number s.next_entity
    && (is_next_number s.next_activity && (is_next_number s.next_timer && is_next_number s.next_event))))

-- the tests of entities in one
abbrev pub are_entities_sound : State → Bool
are_entities_sound s =
    are_entities s.deployment s.entities s.next_entity
    && (are_root_names s.deployment s.entities s.root_names s.next_activity s.next_event
    && (are_root_names_apart s.entities s.root_names
    && are_fields s.deployment s.entities s.fields s.next_activity s.next_timer))

-- the tests of activities in one
abbrev pub are_contexts_sound : State → Bool
are_contexts_sound s =
    are_activities s.deployment s.activities s.next_activity
    && (are_attributes s.deployment s.activities s.attributes s.next_activity s.next_timer
    && (are_links s.entities s.activities s.links
    && (are_masks s.deployment s.links s.masks && are_names s.activities s.names)))

-- the tests of what waits in one
abbrev pub are_queues_sound : State → Bool
are_queues_sound s =
    are_events s.deployment s.activities s.events s.next_activity s.next_timer s.next_event
    && (are_services_done s.deployment s.events s.services_done
    && (are_delivered s.events s.delivered s.next_entity && are_suspensions s.clock s.events s.delivered s.suspensions))

-- all tests of sound parts in one
abbrev pub is_sound : State → Bool
is_sound s =
    are_counts s
    && (are_services s.deployment s.activities s.services
    && (are_entities_sound s
    && (are_contexts_sound s
    && (are_queues_sound s
    && (are_timers s.activities s.timers s.next_timer && are_rows s.deployment s.rows s.next_activity s.next_timer)))))

-- closing changes nothing
abbrev pub is_closed : State → Bool
is_closed s =
    are_roots_held s.entities s.links
    && (are_stopping_with_trees s.entities 0 s.services && are_nulls_in_use s.activities s.links s.names s.timers s.events)

-- whether a state is well formed
abbrev pub is_well : State → Bool
is_well s = is_sound s && is_closed s
