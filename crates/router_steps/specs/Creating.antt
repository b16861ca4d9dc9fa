-- New entities, each with its block's fields.
use Rattle.std.specs.Prelude.{ℕ, ℤ, List, ◌∷◌, map}
use Rattle.std.specs.Option.{option_map_or}
use Rattle.slee_value.specs.declared.convergence.ConvName.{ConvName}
use Rattle.script_types.specs.declared.codes.FieldCode.{FieldCode}
use Rattle.deploy_model.specs.Deployed.{DeployedService, block_fields, service_at}
use Rattle.router_state.specs.State.{State}
use Rattle.router_state.specs.Changes.{after_changes}
use Rattle.router_state.specs.declared.change.Change.{Change}
use Rattle.router_state.specs.declared.change.Change.TheVariants as changes
use Rattle.router_steps.specs.Values.{unset}

-- the changes that give a new entity the fields of its block
abbrev pub first_fields : State → ℕ → ℕ → List Change
first_fields s block e =
    map (λ (field : FieldCode). changes.SetField (record { 0 = e }) field.name (unset field.kind)) (block_fields s.deployment block)

-- a new root of a service, with the next number and a convergence name
abbrev pub root_of : DeployedService → State → ℕ → ConvName → State
root_of row s service name =
    after_changes (changes.CreateRoot row.root service row.priority ∷ changes.Root (record { 0 = s.next_entity }) name ∷ first_fields s row.root s.next_entity) s

-- the same for the service of a number
abbrev pub with_root : State → ℕ → ConvName → State
with_root s service name = option_map_or (λ row. root_of row s service name) (service_at s.deployment service) s

-- a new child of an entity under a relation, with the next number
abbrev pub with_child : State → ℕ → List ℕ → ℕ → ℤ → State
with_child s parent relation block priority =
    after_changes (changes.CreateChild (record { 0 = parent }) relation block priority ∷ first_fields s block s.next_entity) s
