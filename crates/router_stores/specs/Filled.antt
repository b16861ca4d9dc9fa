-- The state that filled stores hold.
use Rattle.std.specs.Prelude.{◌≡◌}
use Rattle.script_types.specs.Program.{Program}
use Rattle.deploy_model.specs.Deployed.{Deployed}
use Rattle.router_order.specs.Listed.{Agrees}
use Rattle.router_state.specs.State.{State}
use Rattle.router_stores.specs.Ready.{AreReady}
use Rattle.router_stores.specs.TableSpecs.{specs_of}
use Rattle.router_stores.specs.declared.parts.StoreParts.{StoreParts}

-- the state of a deployment and its scripts
abbrev pub filled_state : Deployed → Program → StoreParts → State
filled_state d program s = record {
  deployment = d;
  program = program;
  clock = s.clock;
  inputs = s.inputs;
  next_entity = s.tree.next;
  next_activity = s.contexts.next;
  next_timer = s.timers.next;
  next_event = s.next_event;
  services = s.services.items;
  entities = s.tree.rows;
  root_names = s.root_names.rows;
  fields = s.fields.rows;
  activities = s.contexts.activities;
  attributes = s.contexts.attributes;
  links = s.contexts.links;
  masks = s.masks.rows;
  names = s.contexts.names;
  events = s.queues.events;
  services_done = s.queues.services_done;
  delivered = s.queues.delivered;
  suspensions = s.queues.suspensions;
  timers = s.timers.timers;
  rows = s.profiles.rows;
}

-- the stores agree with each other and with the deployment
pub record AreFilled (d : Deployed) (s : StoreParts) : Type 0 where
  pub ordered : Agrees s.tree.rows s.contexts.links s.order.rows
  pub tables : s.profiles.tables ≡ specs_of d
  pub ready : AreReady s.ready.rows s.queues.events s.queues.suspensions
