-- One step: what it is about, looked up once, and from that the state after it and its lines; Payloads has its bytes.
use Rattle.std.specs.Prelude.{ℕ, Bool, true, false, ◌&&◌, not, if◌then◌else◌, List, [], ◌∷◌, ◌++◌, codes, Some, None, Option, option_map, option_and_then, Result}
use Rattle.std.specs.Option.{option_map_or}
use Rattle.std.specs.Str.{bytes_eq}
use Rattle.slee_value.specs.declared.convergence.ConvName.{ConvName}
use Rattle.script_meaning.specs.Delivery.{Delivered}
use Rattle.script_meaning.specs.declared.outcome.Outcome.{Outcome}
use Rattle.signal_script.specs.Signals.{spelled}
use Rattle.signal_script.specs.declared.signal.Signal.{Signal}
use Rattle.deploy_model.specs.Deployed.{service_key}
use Rattle.trace_history.specs.declared.choice.Choice.{Choice}
use Rattle.trace_history.specs.declared.choice.Choice.TheVariants as choices
use Rattle.trace_history.specs.declared.entry.Entry.{Entry}
use Rattle.router_state.specs.State.{State, is_used_up}
use Rattle.router_state.specs.Changes.{after_change}
use Rattle.router_state.specs.Next.{next, selects_at, receives_at}
use Rattle.router_state.specs.Queues.{activity_end, head_event}
use Rattle.router_state.specs.declared.change.Change.TheVariants as changes
use Rattle.router_state.specs.declared.kindred.Kindred.{Kindred}
use Rattle.router_state.specs.declared.kindred.Kindred.TheVariants as kindreds
use Rattle.router_state.specs.declared.rows.Entity.{Entity}
use Rattle.router_state.specs.declared.rows.Event.{Event}
use Rattle.router_state.specs.declared.rows.RootName.{RootName}
use Rattle.router_steps.specs.declared.refusal.Refusal.{Refusal}
use Rattle.router_steps.specs.Actions.{Action, action_of}
use Rattle.router_steps.specs.Closing.{closing, lines_of_closing}
use Rattle.router_steps.specs.Creating.{with_root}
use Rattle.router_steps.specs.Applying.{done_effects, lines_of_done_effects}
use Rattle.router_steps.specs.Lines.{input_heading, initial_heading, initial_none_heading, deliver_heading, finish_heading, exception_line, rolled_back_line, gone_line}
use Rattle.router_steps.specs.Moves.{attached, lines_of_attached, dropped}
use Rattle.router_steps.specs.Scripts.{delivered_in}
use Rattle.router_steps.specs.Selection.{selection, root_named}
use Rattle.router_steps.specs.Taking.{taken, lines_of_taken}

-- Which root an initial selection gives: none where the event isn't initial for the service, one that has the convergence name, or a new one.
pub data Root : Type 0 where
  NoRoot : Root
  OldRoot : ℕ → Root
  NewRoot : ConvName → Root

-- What an initial selection is about: an activity, its head event, the service that is due, and the root.
pub record Due : Type 0 where
  pub activity : ℕ
  pub event : Event
  pub service : ℕ
  pub root : Root

-- the root of a convergence name, old or new
abbrev pub root_by_name : Option RootName → ConvName → Root
root_by_name None name = NewRoot name
root_by_name (Some row) name = OldRoot row.entity.0

-- the root that an event on an activity selects for a service (JSR 240, 8.5)
abbrev pub root_selected : State → ℕ → ℕ → Event → Root
root_selected s service a v = option_map_or (λ name. root_by_name (root_named s service name) name) (selection s service a v) NoRoot

-- the initial selection that is due on an activity
abbrev pub due_at : State → ℕ → Option Due
due_at s a = option_map (λ x. record { activity = a; event = x.0; service = x.1; root = root_selected s x.1 a x.0 }) (selects_at s a)

-- What a delivery is about: an activity, its head event, the entity that receives it, and what its scripts come to.
pub record Receipt : Type 0 where
  pub activity : ℕ
  pub event : Event
  pub entity : Entity
  pub delivered : Delivered

-- the delivery of an event on an activity to an entity
abbrev pub delivery_to : State → ℕ → Event × Entity → Option Receipt
delivery_to s a x = option_map (λ found. record { activity = a; event = x.0; entity = x.1; delivered = found }) (delivered_in s a x.0 x.1)

-- the delivery that comes first on an activity
abbrev pub delivery_at : State → ℕ → Option Receipt
delivery_at s a = option_and_then (delivery_to s a) (receives_at s a)

-- What a finish is about: an activity and its head event.
pub record Finish : Type 0 where
  pub activity : ℕ
  pub event : Event

-- the finish of the head event of an activity
abbrev pub finish_at : State → ℕ → Option Finish
finish_at s a = option_map (λ v. record { activity = a; event = v }) (head_event s.events a)

-- What a step is about.
pub data Subject : Type 0 where
  Taking : Signal → Result Action Refusal → Subject
  Selecting : Due → Subject
  Delivering : Receipt → Subject
  Finishing : Finish → Subject

-- what a choice is about in a state, if there is something
abbrev pub subject_of : State → Choice → Option Subject
subject_of s (choices.Input signal) = Some (Taking signal (action_of s signal))
subject_of s (choices.Initial a) = option_map Selecting (due_at s a.0)
subject_of s (choices.Deliver a) = option_map Delivering (delivery_at s a.0)
subject_of s (choices.Finish a) = option_map Finishing (finish_at s a.0)

-- the service is marked for the head event, whatever it selects
abbrev pub marked_service : Due → State → State
marked_service x s = after_change (changes.MarkService (record { 0 = x.activity }) x.service) s

-- the root is attached to the activity, new or old
abbrev pub with_root_attached : Due → Root → State → State
with_root_attached x NoRoot s = s
with_root_attached x (OldRoot e) s = attached s e x.activity
with_root_attached x (NewRoot name) s = attached (with_root s x.service name) s.next_entity x.activity

-- the heading, and the line of an attachment
abbrev pub lines_of_root : Due → Root → State → List (List ℕ)
lines_of_root x NoRoot s = initial_none_heading x.activity x.event.id.0 (service_key s.deployment x.service) ∷ []
lines_of_root x (OldRoot e) s =
    initial_heading x.activity x.event.id.0 (service_key s.deployment x.service) e (codes "old") ∷ lines_of_attached s e x.activity
lines_of_root x (NewRoot name) s =
    initial_heading x.activity x.event.id.0 (service_key s.deployment x.service) s.next_entity (codes "new")
    ∷ lines_of_attached (with_root s x.service name) s.next_entity x.activity

-- the entity has received the event
abbrev pub marked_entity : Receipt → State → State
marked_entity x s = after_change (changes.MarkEntity (record { 0 = x.activity }) x.entity.number) s

-- the line of a callback that ran
abbrev pub line_of_callback : (Outcome → List ℕ) → Option Outcome → List (List ℕ)
line_of_callback line None = []
line_of_callback line (Some outcome) = line outcome ∷ []

-- the heading, the lines of the callbacks, and those of the effects
abbrev pub lines_of_delivery : Receipt → State → List (List ℕ)
lines_of_delivery x s =
    deliver_heading x.activity x.event.id.0 x.entity.number.0 x.delivered.outcome
    ∷ (line_of_callback exception_line x.delivered.exception
    ++ (line_of_callback rolled_back_line x.delivered.rolled_back ++ lines_of_done_effects x.entity.number.0 x.delivered.effects (marked_entity x s)))

-- the event ends its activity
abbrev pub is_end : Finish → Bool
is_end x = bytes_eq x.event.name activity_end

-- the event is gone with its marks; behind an activity's end the activity goes too (JSR 240, 7.6)
abbrev pub finished : Finish → State → State
finished x s =
    let popped = after_change (changes.Pop (record { 0 = x.activity })) s in
    if is_end x then dropped popped x.activity else popped

-- the heading, and a line where the activity is gone
abbrev pub lines_of_finish : Finish → List (List ℕ)
lines_of_finish x = finish_heading x.activity x.event.id.0 ∷ (if is_end x then gone_line x.activity ∷ [] else [])

-- the state after what a step is about, before closing
abbrev pub after_subject : Subject → State → State
after_subject (Taking signal action) s = taken action s
after_subject (Selecting x) s = with_root_attached x x.root (marked_service x s)
after_subject (Delivering x) s = done_effects x.entity.number.0 x.delivered.effects (marked_entity x s)
after_subject (Finishing x) s = finished x s

-- the heading without its number, and the lines below it, before those of closing
abbrev pub lines_of_subject : Subject → State → List (List ℕ)
lines_of_subject (Taking signal action) s = input_heading (spelled signal) ∷ lines_of_taken action s
lines_of_subject (Selecting x) s = lines_of_root x x.root s
lines_of_subject (Delivering x) s = lines_of_delivery x s
lines_of_subject (Finishing x) s = lines_of_finish x

-- the state after a choice, before closing; where it is about nothing, nothing changes
abbrev pub before_closing : State → Choice → State
before_closing s c = option_map_or (λ x. after_subject x s) (subject_of s c) s

-- the state after a step
abbrev pub after : State → Choice → State
after s c = closing (before_closing s c)

-- the lines of a step
abbrev pub lines_of_step : State → Choice → List (List ℕ)
lines_of_step s c =
    option_map_or (λ x. lines_of_subject x s) (subject_of s c) [] ++ lines_of_closing (before_closing s c)

-- a choice of this kind is next on an activity
abbrev pub is_next_by : (Kindred → Bool) → State → ℕ → Bool
is_next_by test s a = option_map_or test (next s a) false

-- it is an initial selection
abbrev pub is_initial : Kindred → Bool
is_initial kindreds.Initial = true
is_initial kindreds.Deliver = false
is_initial kindreds.Finish = false

-- it is a delivery
abbrev pub is_delivery : Kindred → Bool
is_delivery kindreds.Initial = false
is_delivery kindreds.Deliver = true
is_delivery kindreds.Finish = false

-- it is a finish
abbrev pub is_finish : Kindred → Bool
is_finish kindreds.Initial = false
is_finish kindreds.Deliver = false
is_finish kindreds.Finish = true

-- a line may be taken, and on an activity its next choice may be made
abbrev pub is_next : State → Choice → Bool
is_next s (choices.Input signal) = true
is_next s (choices.Initial a) = is_next_by is_initial s a.0
is_next s (choices.Deliver a) = is_next_by is_delivery s a.0
is_next s (choices.Finish a) = is_next_by is_finish s a.0

-- a choice may be made now: it is the next one, and the state isn't used up
abbrev pub is_enabled : State → Choice → Bool
is_enabled s c = not (is_used_up s) && is_next s c

-- the choice of this kind on an activity
abbrev pub choice_on : ℕ × Kindred → Choice
choice_on (a, kindreds.Initial) = choices.Initial (record { 0 = a })
choice_on (a, kindreds.Deliver) = choices.Deliver (record { 0 = a })
choice_on (a, kindreds.Finish) = choices.Finish (record { 0 = a })

-- the entry of a step
abbrev pub step_entry : State → Choice → Entry
step_entry s c = record { choice = c; lines = lines_of_step s c }
