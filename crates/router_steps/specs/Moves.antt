-- What several steps do: events, attachments, activities, services and suspensions, each as changes of the state, with its lines.
use Rattle.std.specs.Prelude.{ℕ, ◌+◌, ◌==◌, if◌then◌else◌, List, [], ◌∷◌, ◌++◌, None, Option, flat_map, filter, map}
use Rattle.std.specs.Option.{option_map_or}
use Rattle.slee_value.specs.declared.value.Value.{Value}
use Rattle.deploy_model.specs.Deployed.{masked_on_attach}
use Rattle.router_state.specs.State.{State}
use Rattle.router_state.specs.Contexts.{is_linked, links_on}
use Rattle.router_state.specs.Queues.{activity_end, head_event, is_suspended}
use Rattle.router_state.specs.Changes.{after_change, after_changes}
use Rattle.router_state.specs.Trees.{entity_at}
use Rattle.router_state.specs.declared.change.Change.{Change}
use Rattle.router_state.specs.declared.change.Change.TheVariants as changes
use Rattle.router_state.specs.declared.rows.Link.{Link}
use Rattle.router_state.specs.declared.rows.Service.{Service}
use Rattle.router_state.specs.declared.rows.ServiceState.{ServiceState}
use Rattle.router_steps.specs.Lines.{queued_line, ending_line, attached_line, detached_line, resumed_line}

-- An event with the next number waits on the activity, for one service alone where there is a target. Events are fired on Active activities alone (JSR 240, 7.5).
abbrev pub queued : State → ℕ → List ℕ → List (List ℕ × Value) → Option ℕ → State
queued s a event fields target =
    after_changes (changes.Push (record { 0 = a }) (record { id = record { 0 = s.next_event }; name = event; fields = fields; target = target }) ∷ changes.NextEvent ∷ []) s

-- its line
abbrev pub lines_of_queued : State → ℕ → List ℕ → List (List ℕ)
lines_of_queued s a event = queued_line s.next_event event a ∷ []

-- The activity is Ending, its timers are gone, and its end waits last on it (JSR 240, 7.6).
abbrev pub ended : State → ℕ → State
ended s a = queued (after_changes (changes.End (record { 0 = a }) ∷ changes.CancelAll (record { 0 = a }) ∷ []) s) a activity_end [] None

-- its lines
abbrev pub lines_of_ended : State → ℕ → List (List ℕ)
lines_of_ended s a = (ending_line a ∷ []) ++ lines_of_queued s a activity_end

-- the events that an entity masks where it is attached
abbrev pub first_masks : State → ℕ → List (List ℕ)
first_masks s e = option_map_or (λ row. masked_on_attach s.deployment row.block) (entity_at s.entities e) []

-- the entity is attached to the activity, with its masks, where it wasn't before (JSR 240, 7.4)
abbrev pub attached : State → ℕ → ℕ → State
attached s e a =
    if is_linked s.links e a then s
    else after_changes (changes.Attach (record { 0 = e }) (record { 0 = a }) ∷ changes.MaskOnAttach (record { 0 = e }) (record { 0 = a }) (first_masks s e) ∷ []) s

-- the line of an attachment that is new
abbrev pub lines_of_attached : State → ℕ → ℕ → List (List ℕ)
lines_of_attached s e a = if is_linked s.links e a then [] else attached_line e a ∷ []

-- the changes by which an attachment goes, with its masks
abbrev pub changes_of_detaching : Link → List Change
changes_of_detaching l = changes.Detach l.entity l.activity ∷ changes.ForgetMasks l.entity l.activity ∷ []

-- the entity isn't attached to the activity, and has no masks there
abbrev pub detached : State → ℕ → ℕ → State
detached s e a = after_changes (changes_of_detaching (record { entity = record { 0 = e }; activity = record { 0 = a } })) s

-- the line of an attachment that was there
abbrev pub lines_of_detached : State → ℕ → ℕ → List (List ℕ)
lines_of_detached s e a = if is_linked s.links e a then detached_line e a ∷ [] else []

-- the suspension of the activity's head event ends, where there is one
abbrev pub resumed : State → ℕ → State
resumed s a = after_change (changes.Release (record { 0 = a })) s

-- the line of a suspension that was there
abbrev pub lines_of_resumed : State → ℕ → List (List ℕ)
lines_of_resumed s a =
    if is_suspended s.suspensions a then option_map_or (λ v. resumed_line v.id.0 a ∷ []) (head_event s.events a) [] else []

-- the service has this state and this activity
abbrev pub with_service : State → ℕ → ServiceState → ℕ → State
with_service s service state a = after_change (changes.Service service state (record { 0 = a })) s

-- the services from this number on whose activity this is have none from now on
abbrev pub changes_of_services : ℕ → ℕ → List Service → List Change
changes_of_services a n [] = []
changes_of_services a n (row ∷ rows) =
    (if row.activity.0 == a then changes.Service n row.state (record { 0 = 0 }) ∷ [] else []) ++ changes_of_services a (n + 1) rows

-- the changes by which an activity goes: the masks of its attachments, the activity with these, its attributes and its names, and its place in its service
abbrev pub changes_of_dropping : State → ℕ → List Change
changes_of_dropping s a =
    map (λ l. changes.ForgetMasks l.entity l.activity) (links_on s.links a) ++ changes.DropContext (record { 0 = a }) ∷ changes_of_services a 0 s.services

-- the activity is gone (JSR 240, 7.6)
abbrev pub dropped : State → ℕ → State
dropped s a = after_changes (changes_of_dropping s a) s
