-- What a basis keeps of its stores, their roots and its deployment.
use Rattle.std.specs.Prelude.{◌<◌, ◌^◌, length}
use Rattle.router_roots.specs.Roots.{AreRootsOf}
use Rattle.router_basis.specs.Deploying.{IsDeployed}
use Rattle.router_basis.specs.declared.basis.Basis.TheInside.{Inside}

-- The deployment is the one with which the state was made, the roots are those of the state, and services have numbers of 32 bits.
pub record IsBasis (b : Inside) : Type 0 where
  pub deployed : IsDeployed b.deployment.now b.stores.now.state
  pub roots : AreRootsOf b.stores.now.state b.roots.now
  pub few : length b.stores.now.state.services < 2 ^ 32
