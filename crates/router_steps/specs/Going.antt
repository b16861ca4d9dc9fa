-- How trees of entities go: children before parents, each with what belongs to it, behind what its remove script says. That what is below an entity goes with it is JSR 240's, chapter 6; the order is the project's own.
use Rattle.std.specs.Prelude.{ℕ, ◌==◌, List, [], ◌∷◌, ◌++◌, filter, flat_map}
use Rattle.std.specs.Option.{option_map_or}
use Rattle.router_state.specs.State.{State}
use Rattle.router_state.specs.Changes.{after_changes}
use Rattle.router_state.specs.Trees.{tree_of, entity_at}
use Rattle.router_state.specs.declared.change.Change.{Change}
use Rattle.router_state.specs.declared.change.Change.TheVariants as changes
use Rattle.router_steps.specs.Moves.{changes_of_detaching}
use Rattle.router_steps.specs.Lines.{removed_line}
use Rattle.router_steps.specs.Scripts.{last_words}

-- what an entity says when it goes
abbrev pub lines_of_parting : State → ℕ → List (List ℕ)
lines_of_parting s e = option_map_or (last_words s) (entity_at s.entities e) []

-- the changes by which an entity goes: its attachments with their masks, its fields, and the entity with its name
abbrev pub changes_of_removal : State → ℕ → List Change
changes_of_removal s e =
    flat_map changes_of_detaching (filter (λ l. l.entity.0 == e) s.links) ++ changes.ForgetFields (record { 0 = e }) ∷ changes.Remove (record { 0 = e }) ∷ []

-- the entity is gone
abbrev pub removed : State → ℕ → State
removed s e = after_changes (changes_of_removal s e) s

-- its lines: what it says, and that it is removed
abbrev pub lines_of_removed : State → ℕ → List (List ℕ)
lines_of_removed s e = lines_of_parting s e ++ removed_line e ∷ []

-- these entities go, the first of them first
abbrev pub all_removed : List ℕ → State → State
all_removed [] s = s
all_removed (e ∷ es) s = all_removed es (removed s e)

-- the lines of each, in the state where its turn comes
abbrev pub lines_of_all_removed : List ℕ → State → List (List ℕ)
lines_of_all_removed [] s = []
lines_of_all_removed (e ∷ es) s = lines_of_removed s e ++ lines_of_all_removed es (removed s e)

-- the changes by which these entities go, the first of them first
abbrev pub changes_of_all_removed : List ℕ → State → List Change
changes_of_all_removed [] s = []
changes_of_all_removed (e ∷ es) s = changes_of_removal s e ++ changes_of_all_removed es (removed s e)

-- an entity goes with its tree
abbrev pub tree_removed : State → ℕ → State
tree_removed s e = all_removed (tree_of s.entities e) s

-- the lines of a tree that goes
abbrev pub lines_of_tree_removed : State → ℕ → List (List ℕ)
lines_of_tree_removed s e = lines_of_all_removed (tree_of s.entities e) s
