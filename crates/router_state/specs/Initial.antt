-- The state of a deployment in which nothing has happened: services as deployed, and an Active activity for each table.
use Rattle.std.specs.Prelude.{ℕ, ◌+◌, false, if◌then◌else◌, List, [], ◌∷◌, map, length}
use Rattle.script_types.specs.Program.{Program}
use Rattle.deploy_model.specs.Deployed.{Deployed, DeployedTable, DeployedService}
use Rattle.router_state.specs.State.{State}
use Rattle.router_state.specs.declared.rows.AcKind.TheVariants as kinds
use Rattle.router_state.specs.declared.rows.Activity.{Activity}
use Rattle.router_state.specs.declared.rows.Service.{Service}
use Rattle.router_state.specs.declared.rows.ServiceState.TheVariants as states

-- a service as deployed, without an activity
abbrev pub service_deployed : DeployedService → Service
service_deployed service =
    record { state = if service.active then states.Active else states.Inactive; activity = record { 0 = 0 } }

-- the number of the activity of a table: its place in byte order, counted from 1
abbrev pub table_activity : ℕ → ℕ
table_activity table = table + 1

-- the activities of tables from this one on
abbrev pub table_activities : ℕ → List DeployedTable → List Activity
table_activities n [] = []
table_activities n (t ∷ ts) = record { number = record { 0 = table_activity n }; kind = kinds.Table n; ending = false } ∷ table_activities (n + 1) ts

-- the first state of a deployment with its scripts
abbrev pub initial : Deployed → Program → State
initial d program = record {
  deployment = d;
  program = program;
  clock = 0;
  inputs = 0;
  next_entity = 1;
  next_activity = length d.tables + 1;
  next_timer = 1;
  next_event = 1;
  services = map service_deployed d.services;
  entities = [];
  root_names = [];
  fields = [];
  activities = table_activities 0 d.tables;
  attributes = [];
  links = [];
  masks = [];
  names = [];
  events = [];
  services_done = [];
  delivered = [];
  suspensions = [];
  timers = [];
  rows = [];
}
