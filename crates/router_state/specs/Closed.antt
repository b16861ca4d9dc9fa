-- What closing a step looks at: whether anything is attached in a root's tree, whether a service stops, and whether a null activity is in use.
use Rattle.std.specs.Prelude.{ℕ, ◌+◌, ◌==◌, Bool, true, ◌&&◌, ◌||◌, not, List, [], ◌∷◌}
use Rattle.std.specs.List.{list_all, list_any}
use Rattle.router_state.specs.Trees.{roots, count_of, is_root_of}
use Rattle.router_state.specs.Contexts.{is_null}
use Rattle.router_state.specs.Queues.{is_waiting}
use Rattle.router_state.specs.Services.{is_stopping}
use Rattle.router_state.specs.declared.rows.Activity.{Activity}
use Rattle.router_state.specs.declared.rows.Entity.{Entity}
use Rattle.router_state.specs.declared.rows.Link.{Link}
use Rattle.router_state.specs.declared.rows.Named.{Named}
use Rattle.router_state.specs.declared.rows.Queued.{Queued}
use Rattle.router_state.specs.declared.rows.Service.{Service}
use Rattle.router_state.specs.declared.rows.Timer.{Timer}

-- nothing is attached in the tree of the root: its attachment count is 0 (JSR 240, chapter 6)
abbrev pub is_loose : List Entity → List Link → ℕ → Bool
is_loose entities links e = count_of entities links e == 0

-- a root of the service is there
abbrev pub has_tree : List Entity → ℕ → Bool
has_tree entities service = list_any (λ row. is_root_of service row.stem) entities

-- the service of this number is Stopping and has no tree any longer (JSR 240, chapter 9)
abbrev pub is_stopped : List Entity → ℕ → Service → Bool
is_stopped entities n row = is_stopping row.state && not (has_tree entities n)

-- the activity has an attachment, a name, a timer or an event
abbrev pub is_in_use : List Link → List Named → List Timer → List Queued → ℕ → Bool
is_in_use links names timers events a =
    list_any (λ l. l.activity.0 == a) links
    || (list_any (λ row. row.activity.0 == a) names
    || (list_any (λ t. t.activity.0 == a) timers || is_waiting events a))

-- an Active null activity that isn't in use (JSR 240, chapter 7)
abbrev pub is_unused : List Link → List Named → List Timer → List Queued → Activity → Bool
is_unused links names timers events row =
    is_null row.kind && (not row.ending && not (is_in_use links names timers events row.number.0))

-- something is attached in the tree of each root
abbrev pub are_roots_held : List Entity → List Link → Bool
are_roots_held entities links = list_all (λ e. not (is_loose entities links e)) (roots entities)

-- no service from number n on is stopped
abbrev pub are_stopping_with_trees : List Entity → ℕ → List Service → Bool
are_stopping_with_trees entities n [] = true
are_stopping_with_trees entities n (row ∷ rows) = not (is_stopped entities n row) && are_stopping_with_trees entities (n + 1) rows

-- no Active null activity is unused
abbrev pub are_nulls_in_use : List Activity → List Link → List Named → List Timer → List Queued → Bool
are_nulls_in_use activities links names timers events = list_all (λ row. not (is_unused links names timers events row)) activities
