-- The choice of an activity that isn't claimed, and the first one of several activities.
use Rattle.std.specs.Prelude.{ℕ, ◌==◌, is_some, if◌then◌else◌, List, [], ◌∷◌, Option, Some, None}
use Rattle.std.specs.List.{list_any}
use Rattle.std.specs.Option.{option_map_or}
use Rattle.router_state.specs.State.{State}
use Rattle.router_state.specs.Contexts.{activity_at}
use Rattle.router_state.specs.Next.{next}
use Rattle.router_state.specs.declared.kindred.Kindred.{Kindred}

-- the choice of an activity that is there and isn't claimed
abbrev pub free_choice : State → List ℕ → ℕ → Option Kindred
free_choice s claimed a =
    if list_any (λ b. b == a) claimed then None else (if is_some (activity_at s.activities a) then next s a else None)

-- the first of these numbers that has a choice, with that choice
abbrev pub first_of : (ℕ → Option Kindred) → List ℕ → Option (ℕ × Kindred)
first_of choice [] = None
first_of choice (n ∷ ns) = option_map_or (λ kind. Some (n, kind)) (choice n) (first_of choice ns)
