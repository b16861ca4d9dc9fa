-- What a state holds, and what always holds of it.
use Rattle.router_roots.specs.Roots.{AreRootsOf}
use Rattle.router_core.specs.States.{IsSteady, StateView}
use Rattle.router_core.specs.declared.state.State.TheInside.{Inside}

-- the stores, with the room for roots
abbrev pub held : Inside → StateView
held s = record { state = s.stores.state; rooms = s.stores.rooms; root_room = s.roots.room }

-- the state is steady, and its roots are those that are found
pub record IsKept (s : Inside) : Type 0 where
  pub steady : IsSteady s.stores.state
  pub roots : AreRootsOf s.stores.state s.roots
