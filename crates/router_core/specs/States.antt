-- What contracts see of the router's state, what always holds of it, and which deployment is lent to it.
use Rattle.std.specs.Prelude.{ℕ, ◌≤◌, ◌<◌, ◌^◌, length}
use Rattle.deploy_model.specs.Resolving.{deployed_of}
use Rattle.slee_descriptor.specs.declared.deployment.Deployment.{Deployment}
use Rattle.router_state.specs.State.{State}
use Rattle.router_state.specs.Well.{IsClosed}
use Rattle.router_stores.specs.Views.{HasRoom, Rooms, StoresView, widths}
use Rattle.router_roots.specs.Room.{all_added}
use Rattle.router_inputs.specs.InOrder.{AreInOrder}
use Rattle.router_basis.specs.Deploying.{IsDeployed}
use Rattle.router_plans.specs.Plans.{PlanView}

-- the state, the room beside its lists, and how many more roots and names of roots are found without memory
pub record StateView : Type 0 where
  pub state : State
  pub rooms : Rooms
  pub root_room : ℕ

-- the stores alone
abbrev pub stores_of : StateView → StoresView
stores_of s = record { state = s.state; rooms = s.rooms }

-- Nothing is left to close, and the services have numbers of 32 bits.
pub record IsSteady (s : State) : Type 0 where
  pub closed : IsClosed s
  pub few : length s.services < 2 ^ 32

-- The deployment is the one with which the state was made, its scripts are checked, and its declared fields rise.
pub record IsOwn (d : Deployment) (s : State) : Type 0 where
  pub deployed : IsDeployed d s
  pub order : AreInOrder (deployed_of d.parts)

-- There is room for all that the plan changes.
pub record HasRoomFor (plan : PlanView) (s : StateView) : Type 0 where
  pub stores : HasRoom (widths plan.changes) (stores_of s)
  pub roots : all_added plan.changes ≤ s.root_room
