-- What is asked of a state where an event is fired or an activity ends, so that it stays sound.
use Rattle.std.specs.Prelude.{ℕ, ◌≡◌, ◌==◌, nat_lt, Bool, true, false, ◌||◌, not, List, None, is_some, length}
use Rattle.std.specs.List.{list_all}
use Rattle.script_types.specs.Codes.{built_in, named}
use Rattle.script_types.specs.declared.codes.EventCode.{EventCode}
use Rattle.deploy_model.specs.Deployed.{Deployed}
use Rattle.router_state.specs.State.{State}
use Rattle.router_state.specs.Contexts.{activity_at, is_active}
use Rattle.router_state.specs.Fits.{none_or}
use Rattle.router_state.specs.Services.{is_active as is_service_active}
use Rattle.router_state.specs.WellQueues.{has_event_fields}
use Rattle.router_state.specs.declared.rows.AcKind.{AcKind}
use Rattle.router_state.specs.declared.rows.AcKind.TheVariants as kinds
use Rattle.router_state.specs.declared.rows.Activity.{Activity}
use Rattle.router_state.specs.declared.rows.Event.{Event}

-- no declared event has the name of one that is built in
abbrev pub AreOwnNames : Deployed → Type 0
AreOwnNames d = (name : List ℕ) → is_some (named (λ (e : EventCode). e.name) name d.events) ≡ true → named (λ (e : EventCode). e.name) name built_in ≡ None

-- what is asked of an event that is put on a queue
pub record CanFire (d : Deployed) (activities : List Activity) (n m next a : ℕ) (event : Event) : Type 0 where
  pub number : event.id.0 ≡ next
  pub some : nat_lt 0 next ≡ true
  pub there : is_some (activity_at activities a) ≡ true
  pub target : none_or (λ service. nat_lt service (length d.services)) event.target ≡ true
  pub fields : has_event_fields d n m event ≡ true

-- a kind is that of tables
abbrev pub is_table : AcKind → Bool
is_table (kinds.External name) = false
is_table kinds.Null = false
is_table (kinds.Service service) = false
is_table (kinds.Table table) = true

-- what is asked of an activity that ends: it is Active, and neither a table's nor that of an Active service
pub record CanEnd (s : State) (a : ℕ) : Type 0 where
  pub active : is_active s.activities a ≡ true
  pub kind : list_all (λ row. not (row.number.0 == a) || not (is_table row.kind)) s.activities ≡ true
  pub service : list_all (λ row. not (row.activity.0 == a) || not (is_service_active row.state)) s.services ≡ true
