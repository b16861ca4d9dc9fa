-- The state in which nothing has happened: an Active activity for each profile table, and the services as deployed.
use Rattle.std.specs.Prelude.{◌≡◌, ℕ, zero, suc, ◌+◌, if◌then◌else◌, List, []}
use Rattle.deploy_model.specs.declared.parts.Service.{Service as ServiceInParts}
use Rattle.router_state.specs.Contexts.{with_activity}
use Rattle.router_state.specs.Initial.{table_activity}
use Rattle.router_state.specs.declared.rows.AcKind.TheVariants as kinds
use Rattle.router_state.specs.declared.rows.Activity.{Activity}
use Rattle.router_state.specs.declared.rows.Service.{Service}
use Rattle.router_state.specs.declared.rows.ServiceState.TheVariants as states
use Rattle.activity_context.specs.Views.{ContextsView}

-- the activities of the first so many tables
abbrev pub activities_up_to : ℕ → List Activity
activities_up_to zero = []
activities_up_to (suc n) = with_activity (activities_up_to n) (table_activity n) (kinds.Table n)

-- these activities, and nothing else
pub record IsBegun (n : ℕ) (c : ContextsView) : Type 0 where
  pub activities : c.activities ≡ activities_up_to n
  pub attributes : c.attributes ≡ []
  pub links : c.links ≡ []
  pub names : c.names ≡ []
  pub next : c.next ≡ n + 1

-- a service as deployed, without an activity
abbrev pub begins : ServiceInParts → Service
begins service = record { state = if service.active then states.Active else states.Inactive; activity = record { 0 = 0 } }
