-- In a state in which nothing has happened nothing is to be closed.
use Rattle.std.proofs.Common.{◌≡◌, ℕ, suc, ◌+◌, ◌<◌, ◌^◌, true, false, List, [], ◌∷◌, map, length, refl, sym, ap, subst, arith, inl, inr}
use Rattle.std.proofs.lemmas.Bool.{cases_Bool}
use Rattle.script_types.specs.Program.{Program}
use Rattle.deploy_model.specs.Deployed.{Deployed, DeployedService, DeployedTable}
use Rattle.deploy_model.specs.Resolving.{deployed_of, service_of}
use Rattle.deploy_model.specs.Tables.{key_number}
use Rattle.deploy_model.specs.declared.parts.Parts.{Parts}
use Rattle.router_state.specs.Closed.{are_nulls_in_use, are_stopping_with_trees, is_stopped}
use Rattle.router_state.specs.Initial.{initial, service_deployed, table_activities}
use Rattle.router_state.specs.State.{State}
use Rattle.router_state.specs.Well.{IsClosed}
use Rattle.router_roots.specs.Roots.{AreListed, AreRootsOf}
use Rattle.router_roots.specs.Views.{RootsView}
use Rattle.router_core.specs.States.{IsSteady}

-- no service is Stopping
runs : (n : ℕ) (service : DeployedService) → is_stopped [] n (service_deployed service) ≡ false
runs n service = elim (cases_Bool service.active) [
  | inl is ↦ rw is refl
  | inr isnt ↦ rw isnt refl
]

all_run : (n : ℕ) (services : List DeployedService) → are_stopping_with_trees [] n (map service_deployed services) ≡ true
all_run n [] = refl
all_run n (service ∷ services) = rw (runs n service) (all_run (n + 1) services)

-- no activity is a null activity
no_nulls : (n : ℕ) (tables : List DeployedTable) → are_nulls_in_use (table_activities n tables) [] [] [] [] ≡ true
no_nulls n [] = refl
no_nulls n (t ∷ ts) = no_nulls (n + 1) ts

pub starts_closed : (d : Deployed) (program : Program) (s : State) → s ≡ initial d program → IsClosed s
starts_closed d program s is =
    let closed : IsClosed (initial d program) = record { roots = refl; services = all_run 0 d.services; nulls = no_nulls 0 d.tables } in
    rw is closed

mapped_length : {A B : Type 0} (f : A → B) (xs : List A) → length (map f xs) ≡ length xs
mapped_length f [] = refl
mapped_length f (x ∷ xs) = ap (λ (n : ℕ). suc n) (mapped_length f xs)

-- as many services as there are parts for
pub starts_few : (parts : Parts) (program : Program) (s : State) → s ≡ initial (deployed_of parts) program → length parts.services < 2 ^ 32 → length s.services < 2 ^ 32
starts_few parts program s is few =
    let one = ap (λ (t : State). length t.services) is in
    let two = mapped_length service_deployed (deployed_of parts).services in
    let three = mapped_length (service_of (key_number (λ b. b.key) parts.blocks)) parts.services in
    omega (arith, one, two, three, few)

pub starts_steady : (parts : Parts) (program : Program) (s : State) → s ≡ initial (deployed_of parts) program → length parts.services < 2 ^ 32 → IsSteady s
starts_steady parts program s is few = record {
  closed = starts_closed (deployed_of parts) program s is;
  few = starts_few parts program s is few;
}

-- there are no roots yet
pub starts_rooted : (d : Deployed) (program : Program) (s : State) (roots : RootsView) → s ≡ initial d program → AreListed [] [] roots.by_service roots.by_name → AreRootsOf s roots
starts_rooted d program s roots is none = subst (λ (t : State). AreRootsOf t roots) (sym is) none
