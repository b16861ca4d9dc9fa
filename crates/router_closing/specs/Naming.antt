-- The names that may stand for an activity after changes.
use Rattle.std.specs.Prelude.{ℕ, ◌==◌, Bool, false, if◌then◌else◌, List, [], ◌∷◌, ◌++◌, filter, flat_map, map, Option}
use Rattle.std.specs.Option.{option_map_or}
use Rattle.slee_value.specs.declared.ids.ActivityId.{ActivityId}
use Rattle.router_state.specs.State.{State}
use Rattle.router_state.specs.declared.change.Change.{Change}
use Rattle.router_state.specs.declared.change.Change.TheVariants as changes

-- the name that the change gives to the activity
abbrev pub name_given : ℕ → Change → List (List ℕ)
name_given a (changes.Bind name a') = if a'.0 == a then name ∷ [] else []
name_given a _ = []

-- the names that stood for the activity before the changes, and those that they give to it
abbrev pub names_given : State → List Change → ℕ → List (List ℕ)
names_given s cs a = map (λ row. row.name) (filter (λ row. row.activity.0 == a) s.names) ++ flat_map (name_given a) cs

-- what a name stands for is this activity
abbrev pub stands_for : ℕ → Option ActivityId → Bool
stands_for a activity = option_map_or (λ other. other.0 == a) activity false
