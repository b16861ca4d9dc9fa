-- What a change touches: entities, and activities that end or go.
use Rattle.std.specs.Prelude.{ℕ, ◌==◌, Bool, false, List, Option, Some, None}
use Rattle.std.specs.List.{list_any}
use Rattle.std.specs.Option.{option_map_or}
use Rattle.rows_sorted.specs.Keys.{Key, number_key}
use Rattle.router_state.specs.declared.change.Change.{Change}
use Rattle.router_state.specs.declared.change.Change.TheVariants as changes
use Rattle.router_draft.specs.declared.changes.Touched.{Touched}

-- the entity whose fields or attachments the change changes, or that goes, or that has a child more; 0 where there is a root more
abbrev pub entity_of : Change → Option ℕ
entity_of (changes.SetField e name value) = Some e.0
entity_of (changes.ForgetFields e) = Some e.0
entity_of (changes.CreateRoot block service priority) = Some 0
entity_of (changes.CreateChild parent relation block priority) = Some parent.0
entity_of (changes.Remove e) = Some e.0
entity_of (changes.Attach e a) = Some e.0
entity_of (changes.Detach e a) = Some e.0
entity_of _ = None

-- the activity that ends or goes by the change
abbrev pub ended_of : Change → Option ℕ
ended_of (changes.End a) = Some a.0
ended_of (changes.DropContext a) = Some a.0
ended_of _ = None

-- the activity that goes by the change, with all attachments to it
abbrev pub dropped_of : Change → Option ℕ
dropped_of (changes.DropContext a) = Some a.0
dropped_of _ = None

-- the number is this one
abbrev pub is_it : ℕ → Option ℕ → Bool
is_it n number = option_map_or (λ m. m == n) number false

-- the change touches the entity
abbrev pub touches : ℕ → Change → Bool
touches e c = is_it e (entity_of c)

-- the activity ends or goes by the change
abbrev pub ends : ℕ → Change → Bool
ends a c = is_it a (ended_of c)

-- the activity goes by the change
abbrev pub drops : ℕ → Change → Bool
drops a c = is_it a (dropped_of c)

-- a number that was touched stands by itself
abbrev pub touched_key : Touched → Key
touched_key t = number_key t.number

-- the number is listed
abbrev pub is_listed : List Touched → ℕ → Bool
is_listed rows n = list_any (λ t. t.number == n) rows
