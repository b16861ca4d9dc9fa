-- Histories: legal ones, what they leave, and that of one worker.
use Rattle.std.specs.Prelude.{◌≡◌, ℕ, zero, suc, ◌==◌, Bool, true, if◌then◌else◌, List, [], ◌∷◌, map, flat_map, Some, None, Option, IsTrue}
use Rattle.std.specs.Option.{option_map_or}
use Rattle.signal_script.specs.Signals.{is_signal}
use Rattle.signal_script.specs.declared.signal.Signal.{Signal}
use Rattle.trace_history.specs.declared.choice.Choice.{Choice}
use Rattle.trace_history.specs.declared.choice.Choice.TheVariants as choices
use Rattle.trace_history.specs.declared.entry.Entry.{Entry}
use Rattle.router_state.specs.State.{State, is_used_up}
use Rattle.router_state.specs.Next.{least}
use Rattle.router_state.specs.Queues.{queue, delivered_on}
use Rattle.router_state.specs.Show.{is_head}
use Rattle.router_state.specs.declared.kindred.Kindred.{Kindred}
use Rattle.router_state.specs.declared.rows.Activity.{Activity}
use Rattle.router_state.specs.declared.rows.Event.{Event}
use Rattle.router_steps.specs.Steps.{after, lines_of_step, is_enabled, choice_on, step_entry}

-- the state after a history
abbrev pub replay : State → List Entry → State
replay s [] = s
replay s (e ∷ es) = replay (after s e.choice) es

-- if the choice takes a line, its signal is one that a line can give
abbrev pub is_choice : Choice → Bool
is_choice (choices.Input signal) = is_signal signal
is_choice (choices.Initial a) = true
is_choice (choices.Deliver a) = true
is_choice (choices.Finish a) = true

-- A legal history: each signal is one that a line can give, each choice is enabled where it stands, and each entry has the lines of its step.
abbrev pub Legal : State → List Entry → Type 0
Legal s [] = Unit {0}
Legal s (e ∷ es) =
    IsTrue (is_choice e.choice) × IsTrue (is_enabled s e.choice) × (e.lines ≡ lines_of_step s e.choice) × Legal (after s e.choice) es

-- a line, where no choice is left on an activity
abbrev pub line_choice : List Signal → Option (Choice × List Signal)
line_choice [] = None
line_choice (signal ∷ more) = Some (choices.Input signal, more)

-- what one worker does next in a state, with the lines that are left then: the choice of the least activity that has one, else a line, and nothing where the state is used up
abbrev pub solo_choice : State → List Signal → Option (Choice × List Signal)
solo_choice s lines =
    if is_used_up s then None else option_map_or (λ x. Some (choice_on x, lines)) (least s []) (line_choice lines)

-- the history of one worker, of so many entries at most
abbrev pub solo : ℕ → State → List Signal → List Entry
solo zero s lines = []
solo (suc n) s lines = option_map_or (λ x. step_entry s x.0 ∷ solo n (after s x.0) x.1) (solo_choice s lines) []

-- the events that wait on an activity, by number
abbrev pub pending_at : State → ℕ → List ℕ
pending_at s a = map (λ (v : Event). v.id.0) (queue s.events a)

-- the entities that a state has marked for an event
abbrev pub marked_at : State → ℕ → List ℕ
marked_at s v = flat_map (λ (row : Activity). if is_head s.events row.number.0 v then delivered_on s.delivered row.number.0 else []) s.activities
