-- The counts and the lists of a snapshot as they are read, and the state that they are.
use Rattle.std.specs.Prelude.{ℕ, ◌==◌, if◌then◌else◌, List, Ok, map, filter_map, flat_map}
use Rattle.slee_value.specs.Reading.{Part, ◌>>=◌}
use Rattle.script_types.specs.Program.{Program}
use Rattle.deploy_model.specs.Deployed.{Deployed}
use Rattle.router_state.specs.State.{State}
use Rattle.router_state.specs.Parsing.{EntityPart, ActivityPart, LinkPart, list_at, u64_at, service_at, entity_at, activity_at, link_at, named_at, timer_at, row_at, suspensions_at}
use Rattle.router_state.specs.Restoring.{entity_of, root_name_of, fields_of, activity_of, attributes_of, events_of, services_done_of, delivered_of, suspension_of, link_of, masks_of}
use Rattle.router_state.specs.declared.rows.Service.{Service}
use Rattle.router_state.specs.declared.rows.Named.{Named}
use Rattle.router_state.specs.declared.rows.Suspension.{Suspension}
use Rattle.router_state.specs.declared.rows.Timer.{Timer}
use Rattle.router_state.specs.declared.rows.ProfileRow.{ProfileRow}
use Rattle.snapshot_read.specs.declared.reading.Counts.{Counts}
use Rattle.snapshot_read.specs.declared.reading.Lists.{Lists as ListsHeld}

-- the counts
abbrev pub counts_at : List ℕ → Part Counts
counts_at bytes =
    u64_at bytes >>= λ clock. u64_at clock.1 >>= λ inputs. u64_at inputs.1 >>= λ next_entity. u64_at next_entity.1 >>= λ next_activity. u64_at next_activity.1 >>= λ next_timer. u64_at next_timer.1 >>= λ next_event.
    Ok (record { clock = clock.0; inputs = inputs.0; next_entity = next_entity.0; next_activity = next_activity.0; next_timer = next_timer.0; next_event = next_event.0 }, next_event.1)

-- the lists as they are spelled
pub record SpelledLists : Type 0 where
  pub services : List Service
  pub entities : List EntityPart
  pub activities : List ActivityPart
  pub links : List LinkPart
  pub names : List Named
  pub timers : List Timer
  pub rows : List ProfileRow
  pub suspensions : List Suspension

-- the lists of a format
abbrev pub lists_at : ℕ → Deployed → List ℕ → Part SpelledLists
lists_at format d bytes =
    list_at service_at bytes >>= λ services. list_at (entity_at d) services.1 >>= λ entities. list_at (activity_at format d) entities.1 >>= λ activities. list_at link_at activities.1 >>= λ links.
    list_at named_at links.1 >>= λ names. list_at timer_at names.1 >>= λ timers. list_at (row_at d) timers.1 >>= λ rows. suspensions_at format rows.1 >>= λ suspensions.
    Ok (record { services = services.0; entities = entities.0; activities = activities.0; links = links.0; names = names.0; timers = timers.0; rows = rows.0; suspensions = suspensions.0 }, suspensions.1)

-- the lists that were read
abbrev pub lists_of : ListsHeld → SpelledLists
lists_of l = record {
  services = l.services.items;
  entities = l.entities.items;
  activities = l.activities.items;
  links = l.links.items;
  names = l.names.items;
  timers = l.timers.items;
  rows = l.rows.items;
  suspensions = l.suspensions.items;
}

-- the state that counts and lists of a format are
abbrev pub state_in : ℕ → Deployed → Program → Counts → SpelledLists → State
state_in format d program c l = record {
  deployment = d;
  program = program;
  clock = c.clock;
  inputs = c.inputs;
  next_entity = c.next_entity;
  next_activity = c.next_activity;
  next_timer = c.next_timer;
  next_event = c.next_event;
  services = l.services;
  entities = map entity_of l.entities;
  root_names = filter_map root_name_of l.entities;
  fields = flat_map fields_of l.entities;
  activities = map activity_of l.activities;
  attributes = flat_map attributes_of l.activities;
  links = map link_of l.links;
  masks = flat_map masks_of l.links;
  names = l.names;
  events = flat_map events_of l.activities;
  services_done = flat_map services_done_of l.activities;
  delivered = flat_map delivered_of l.activities;
  suspensions = if format == 2 then filter_map suspension_of l.activities else l.suspensions;
  timers = l.timers;
  rows = l.rows;
}
