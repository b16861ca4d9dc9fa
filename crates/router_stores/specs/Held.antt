-- The state that the stores hold, and what always holds of them.
use Rattle.std.specs.Prelude.{◌≡◌}
use Rattle.script_types.specs.ProgramOf.{kept_program}
use Rattle.deploy_model.specs.Resolving.{deployed_of}
use Rattle.router_state.specs.State.{State}
use Rattle.router_order.specs.Listed.{Agrees}
use Rattle.router_stores.specs.Views.{StoresView}
use Rattle.router_stores.specs.TableSpecs.{specs_of}
use Rattle.router_stores.specs.Ready.{AreReady}
use Rattle.router_stores.specs.declared.stores.Stores.TheInside.{Inside}

-- the state, by the stores
abbrev pub held_state : Inside → State
held_state s = record {
  deployment = deployed_of s.deployment.value.parts;
  program = kept_program s.deployment.value.codes;
  clock = s.clock;
  inputs = s.inputs;
  next_entity = s.tree.next;
  next_activity = s.contexts.next;
  next_timer = s.timers.next;
  next_event = s.next_event;
  services = s.services.items;
  entities = s.tree.rows;
  root_names = s.root_names.rows;
  fields = s.fields.rows;
  activities = s.contexts.activities;
  attributes = s.contexts.attributes;
  links = s.contexts.links;
  masks = s.masks.rows;
  names = s.contexts.names;
  events = s.queues.events;
  services_done = s.queues.services_done;
  delivered = s.queues.delivered;
  suspensions = s.queues.suspensions;
  timers = s.timers.timers;
  rows = s.profiles.rows;
}

-- the same, with the room beside the lists
abbrev pub held : Inside → StoresView
held s = record {
  state = held_state s;
  rooms = record {
    fields = s.fields.room;
    entities = s.tree.room;
    root_names = s.root_names.room;
    activities = s.contexts.rooms.activities;
    attributes = s.contexts.rooms.attributes;
    links = s.contexts.rooms.links;
    names = s.contexts.rooms.names;
    masks = s.masks.room;
    events = s.queues.events_room;
    services_done = s.queues.services_room;
    delivered = s.queues.entities_room;
    suspensions = s.queues.suspensions_room;
    timers = s.timers.room;
    rows = s.profiles.room;
    by_path = s.order.room;
    ready = s.ready.room;
  };
}

-- All attachments are in the order of paths; the profile tables are those of the deployment; the activities that are ready are listed.
pub record IsKept (s : Inside) : Type 0 where
  pub ordered : Agrees s.tree.rows s.contexts.links s.order.rows
  pub tables : s.profiles.tables ≡ specs_of (deployed_of s.deployment.value.parts)
  pub ready : AreReady s.ready.rows s.queues.events s.queues.suspensions
