-- Changes by which an entity comes and goes.
use Rattle.std.specs.Prelude.{ℕ, List, flat_map}
use Rattle.script_types.specs.declared.codes.FieldCode.{FieldCode}
use Rattle.router_state.specs.declared.change.Change.{Change}
use Rattle.router_state.specs.declared.change.Change.TheVariants as changes
use Rattle.router_steps.specs.Moves.{changes_of_detaching}
use Rattle.router_steps.specs.Values.{unset}

-- the change that gives a new entity a field
abbrev pub first_set : ℕ → FieldCode → Change
first_set e field = changes.SetField (record { 0 = e }) field.name (unset field.kind)

-- the changes by which an entity's attachments to these activities go
abbrev pub detachings : ℕ → List ℕ → List Change
detachings e activities = flat_map (λ a. changes_of_detaching (record { entity = record { 0 = e }; activity = record { 0 = a } })) activities
