-- What is next on an activity: a service selects, an entity receives the head event, or the head event goes.
use Rattle.std.specs.Prelude.{ℕ, Bool, true, false, ◌&&◌, ◌==◌, not, if◌then◌else◌, is_some, List, [], ◌∷◌, filter, find, Option, Some, None, option_map, option_and_then}
use Rattle.std.specs.List.{list_any}
use Rattle.std.specs.Option.{option_map_or}
use Rattle.deploy_model.specs.Deployed.{handles, is_initial}
use Rattle.deploy_model.specs.Selecting.{Numbered, service_order}
use Rattle.router_state.specs.State.{State}
use Rattle.router_state.specs.Trees.{service_of}
use Rattle.router_state.specs.Paths.{least_path}
use Rattle.router_state.specs.Contexts.{is_linked}
use Rattle.router_state.specs.Masks.{is_masked}
use Rattle.router_state.specs.Queues.{head_event, is_done, is_delivered, is_undelivered, is_suspended}
use Rattle.router_state.specs.Services.{is_active_at}
use Rattle.router_state.specs.declared.rows.Activity.{Activity}
use Rattle.router_state.specs.declared.rows.Entity.{Entity}
use Rattle.router_state.specs.declared.rows.Event.{Event}
use Rattle.router_state.specs.declared.kindred.Kindred.{Kindred}
use Rattle.router_state.specs.declared.kindred.Kindred.TheVariants as kindreds

-- the event is for all services, or for this one
abbrev pub is_for : Option ℕ → ℕ → Bool
is_for None service = true
is_for (Some target) service = target == service

-- The service is to select for the activity's head event: it is Active, the event is for it and initial for its root, and it hasn't selected yet (JSR 240, 8.5).
abbrev pub is_due : State → ℕ → Event → Numbered → Bool
is_due s a v x =
    is_active_at s.services x.0
    && (is_for v.target x.0 && (is_initial s.deployment x.1.root v.name && not (is_done s.services_done a x.0)))

-- the service that selects next for the activity's head event, before the event is delivered
abbrev pub due_service : State → ℕ → Event → Option ℕ
due_service s a v =
    if is_undelivered s.delivered a then option_map (λ x. x.0) (find (is_due s a v) (service_order s.deployment.services)) else None

-- the event is for all services, or for that of the entity's tree
abbrev pub is_for_tree : List Entity → Option ℕ → Entity → Bool
is_for_tree rows None row = true
is_for_tree rows (Some target) row = option_map_or (λ service. service == target) (service_of rows row) false

-- An entity may receive the activity's head event: it is attached, its block handles the event, it doesn't mask it there, and it hasn't received it yet (JSR 240, 8.4).
abbrev pub is_eligible : State → ℕ → Event → Entity → Bool
is_eligible s a v row =
    is_linked s.links row.number.0 a
    && (handles s.deployment row.block v.name
    && (not (is_masked s.masks row.number.0 a v.name)
    && (not (is_delivered s.delivered a row.number.0) && is_for_tree s.entities v.target row)))

-- the entities that may receive it
abbrev pub eligible : State → ℕ → Event → List Entity
eligible s a v = filter (is_eligible s a v) s.entities

-- the one of them that receives it first
abbrev pub first : State → ℕ → Event → Option Entity
first s a v = least_path s.entities None (eligible s a v)

-- the head event of an activity, and the service that selects for it
abbrev pub selects_at : State → ℕ → Option (Event × ℕ)
selects_at s a = option_and_then (λ v. option_map (λ service. (v, service)) (due_service s a v)) (head_event s.events a)

-- the head event of an activity, and the entity that receives it
abbrev pub receives_at : State → ℕ → Option (Event × Entity)
receives_at s a = option_and_then (λ v. option_map (λ row. (v, row)) (first s a v)) (head_event s.events a)

-- the choice that a head event brings
abbrev pub next_for : State → ℕ → Event → Kindred
next_for s a v =
    if is_some (due_service s a v) then kindreds.Initial
    else (if is_some (first s a v) then kindreds.Deliver else kindreds.Finish)

-- The choice that is next on an activity: none where no event waits, or where the head event is suspended.
abbrev pub next : State → ℕ → Option Kindred
next s a = if is_suspended s.suspensions a then None else option_map (next_for s a) (head_event s.events a)

-- the activity is one of these
abbrev pub is_claimed : List ℕ → Activity → Bool
is_claimed claimed row = list_any (λ a. a == row.number.0) claimed

-- the first of these activities that isn't claimed and has a choice, with that choice
abbrev pub first_choice : State → List ℕ → List Activity → Option (ℕ × Kindred)
first_choice s claimed [] = None
first_choice s claimed (row ∷ rows) =
    if is_claimed claimed row then first_choice s claimed rows
    else option_map_or (λ kind. Some (row.number.0, kind)) (next s row.number.0) (first_choice s claimed rows)

-- the least activity that isn't claimed and has a choice, with that choice
abbrev pub least : State → List ℕ → Option (ℕ × Kindred)
least s claimed = first_choice s claimed s.activities
