-- The roots whose trees a step may have left loose, by its changes and the state with which it began.
use Rattle.std.specs.Prelude.{ℕ, zero, suc, ◌-◌, ◌==◌, nat_lt, Bool, false, if◌then◌else◌, List, [], ◌∷◌, ◌++◌, map, flat_map, slice_get}
use Rattle.std.specs.List.{range_with_len}
use Rattle.std.specs.Option.{option_map_or}
use Rattle.router_state.specs.State.{State}
use Rattle.router_state.specs.Contexts.{links_on}
use Rattle.router_state.specs.Changes.{after_changes}
use Rattle.router_state.specs.Trees.{entity_at, parent_of}
use Rattle.router_state.specs.declared.change.Change.{Change}
use Rattle.router_state.specs.declared.change.Change.TheVariants as changes
use Rattle.router_state.specs.declared.rows.Entity.{Entity}
use Rattle.router_steps.specs.Closing.{close_root, lines_of_root}

-- the numbers from one up to another, without that one
abbrev pub numbers_between : ℕ → ℕ → List ℕ
numbers_between first last = range_with_len first (last - first)

-- the parent of the entity that the change makes, 0 for a root
abbrev pub born : Change → List ℕ
born (changes.CreateRoot block service priority) = 0 ∷ []
born (changes.CreateChild parent relation block priority) = parent.0 ∷ []
born _ = []

-- the same of changes, for each entity that they make
abbrev pub births : List Change → List ℕ
births cs = flat_map born cs

-- the parent with which an entity was made, before the step or by it; 0 for a root
abbrev pub first_parent : State → List ℕ → ℕ → ℕ
first_parent s made e =
    if nat_lt e s.next_entity then option_map_or (λ row. parent_of row) (entity_at s.entities e) 0
    else option_map_or (λ p. p) (slice_get made (e - s.next_entity)) 0

-- the root above an entity, so many generations up at most
abbrev pub climbed : (ℕ → ℕ) → ℕ → ℕ → ℕ
climbed parent zero e = e
climbed parent (suc n) e = if parent e == 0 then e else climbed parent n (parent e)

-- the entity that the change attaches to the activity
abbrev pub attached_by : ℕ → Change → List ℕ
attached_by a (changes.Attach e a') = if a'.0 == a then e.0 ∷ [] else []
attached_by a _ = []

-- the entities that may have been attached to the activity when the changes come to an end
abbrev pub attached_to : State → List Change → ℕ → List ℕ
attached_to s cs a = map (λ l. l.entity.0) (links_on s.links a) ++ flat_map (attached_by a) cs

-- the entities whose attachments the change may cut
abbrev pub cut_by : State → List Change → Change → List ℕ
cut_by s cs (changes.Detach e a) = e.0 ∷ []
cut_by s cs (changes.DropContext a) = attached_to s cs a.0
cut_by s cs _ = []

-- the entities that the changes make, and the roots above those whose attachments they may cut
abbrev pub touched_roots : State → List Change → List ℕ
touched_roots s cs =
    numbers_between s.next_entity (after_changes cs s).next_entity
    ++ map (λ e. climbed (first_parent s (births cs)) e e) (flat_map (cut_by s cs) cs)

-- the entity is a root that is there
abbrev pub stands : List Entity → ℕ → Bool
stands rows e = option_map_or (λ row. parent_of row == 0) (entity_at rows e) false

-- a root is closed where it is there
abbrev pub close_standing : ℕ → State → State
close_standing e s = if stands s.entities e then close_root e s else s

-- the same of several, the first of them first
abbrev pub close_standings : List ℕ → State → State
close_standings [] s = s
close_standings (e ∷ es) s = close_standings es (close_standing e s)

-- the lines of a root
abbrev pub lines_of_standing : ℕ → State → List (List ℕ)
lines_of_standing e s = if stands s.entities e then lines_of_root e s else []

-- the lines of several, each in the state where its turn comes
abbrev pub lines_of_standings : List ℕ → State → List (List ℕ)
lines_of_standings [] s = []
lines_of_standings (e ∷ es) s = lines_of_standing e s ++ lines_of_standings es (close_standing e s)
