-- Closing a step: roots in whose trees nothing is attached go, Stopping services without a tree are Inactive, and null activities that aren't in use end.
use Rattle.std.specs.Prelude.{ℕ, ◌+◌, Bool, false, if◌then◌else◌, List, [], ◌∷◌, ◌++◌, map, codes}
use Rattle.std.specs.Option.{option_map_or}
use Rattle.deploy_model.specs.Deployed.{service_key}
use Rattle.router_state.specs.State.{State}
use Rattle.router_state.specs.Closed.{is_loose, is_stopped, is_unused}
use Rattle.router_state.specs.Contexts.{activity_at}
use Rattle.router_state.specs.Trees.{roots}
use Rattle.router_state.specs.declared.rows.Activity.{Activity}
use Rattle.router_state.specs.declared.rows.Service.{Service}
use Rattle.router_state.specs.declared.rows.ServiceState.TheVariants as states
use Rattle.router_steps.specs.Going.{tree_removed, lines_of_tree_removed}
use Rattle.router_steps.specs.Moves.{ended, lines_of_ended, with_service}
use Rattle.router_steps.specs.Lines.{service_line}

-- a root goes with its tree where nothing is attached in it (JSR 240, chapter 6)
abbrev pub close_root : ℕ → State → State
close_root e s = if is_loose s.entities s.links e then tree_removed s e else s

-- the same of several roots, the first of them first
abbrev pub close_roots : List ℕ → State → State
close_roots [] s = s
close_roots (e ∷ es) s = close_roots es (close_root e s)

-- the lines of a root that goes
abbrev pub lines_of_root : ℕ → State → List (List ℕ)
lines_of_root e s = if is_loose s.entities s.links e then lines_of_tree_removed s e else []

-- the lines of several roots, each in the state where its turn comes
abbrev pub lines_of_roots : List ℕ → State → List (List ℕ)
lines_of_roots [] s = []
lines_of_roots (e ∷ es) s = lines_of_root e s ++ lines_of_roots es (close_root e s)

-- the service of this number is Inactive where it is stopped (JSR 240, chapter 9)
abbrev pub close_service : ℕ → Service → State → State
close_service n row s = if is_stopped s.entities n row then with_service s n states.Inactive row.activity.0 else s

-- the same of the services from this number on
abbrev pub close_services : ℕ → List Service → State → State
close_services n [] s = s
close_services n (row ∷ rows) s = close_services (n + 1) rows (close_service n row s)

-- a line for each service that is stopped
abbrev pub lines_of_services : ℕ → List Service → State → List (List ℕ)
lines_of_services n [] s = []
lines_of_services n (row ∷ rows) s =
    (if is_stopped s.entities n row then service_line (service_key s.deployment n) (codes "inactive") ∷ [] else [])
    ++ lines_of_services (n + 1) rows s

-- the row is that of an Active null activity that isn't in use
abbrev pub is_idle : State → Activity → Bool
is_idle s row = is_unused s.links s.names s.timers s.events row

-- the activity of this number is such a one
abbrev pub is_idle_at : State → ℕ → Bool
is_idle_at s a = option_map_or (is_idle s) (activity_at s.activities a) false

-- an activity ends where it is (JSR 240, chapter 7)
abbrev pub close_null : ℕ → State → State
close_null a s = if is_idle_at s a then ended s a else s

-- the same of several activities, the first of them first
abbrev pub close_nulls : List ℕ → State → State
close_nulls [] s = s
close_nulls (a ∷ rest) s = close_nulls rest (close_null a s)

-- the lines of an activity that ends
abbrev pub lines_of_null : ℕ → State → List (List ℕ)
lines_of_null a s = if is_idle_at s a then lines_of_ended s a else []

-- the lines of several, each in the state where its turn comes
abbrev pub lines_of_nulls : List ℕ → State → List (List ℕ)
lines_of_nulls [] s = []
lines_of_nulls (a ∷ rest) s = lines_of_null a s ++ lines_of_nulls rest (close_null a s)

-- the numbers of all activities, rising
abbrev pub activity_numbers : State → List ℕ
activity_numbers s = map (λ row. row.number.0) s.activities

-- no root is left in whose tree nothing is attached
abbrev pub without_loose : State → State
without_loose s = close_roots (roots s.entities) s

-- no Stopping service is left without a tree
abbrev pub without_stopped : State → State
without_stopped s = close_services 0 s.services s

-- no Active null activity is left that isn't in use
abbrev pub without_unused : State → State
without_unused s = close_nulls (activity_numbers s) s

-- the state once a step is closed
abbrev pub closing : State → State
closing s = without_unused (without_stopped (without_loose s))

-- the lines of services and null activities, behind those of roots
abbrev pub lines_behind_roots : State → List (List ℕ)
lines_behind_roots s = lines_of_services 0 s.services s ++ lines_of_nulls (activity_numbers s) (without_stopped s)

-- the lines of closing
abbrev pub lines_of_closing : State → List (List ℕ)
lines_of_closing s = lines_of_roots (roots s.entities) s ++ lines_behind_roots (without_loose s)
