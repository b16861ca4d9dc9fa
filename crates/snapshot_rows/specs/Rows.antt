-- The state that rows are.
use Rattle.script_types.specs.Program.{Program}
use Rattle.deploy_model.specs.Deployed.{Deployed}
use Rattle.router_state.specs.State.{State}
use Rattle.snapshot_rows.specs.declared.rows.Rows.{Rows as RowLists}

-- the state of a deployment and its scripts that has these counts and lists
abbrev pub state_of : Deployed → Program → RowLists → State
state_of d program r = record {
  deployment = d;
  program = program;
  clock = r.clock;
  inputs = r.inputs;
  next_entity = r.next_entity;
  next_activity = r.next_activity;
  next_timer = r.next_timer;
  next_event = r.next_event;
  services = r.services.items;
  entities = r.entities.items;
  root_names = r.root_names.items;
  fields = r.fields.items;
  activities = r.activities.items;
  attributes = r.attributes.items;
  links = r.links.items;
  masks = r.masks.items;
  names = r.names.items;
  events = r.events.items;
  services_done = r.services_done.items;
  delivered = r.delivered.items;
  suspensions = r.suspensions.items;
  timers = r.timers.items;
  rows = r.rows.items;
}
