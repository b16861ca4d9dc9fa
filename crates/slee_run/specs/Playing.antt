-- How playing goes on, and how it ends.
use Rattle.std.specs.Prelude.{◌≡◌, ◌⊎◌, ℕ, ◌+◌, ◌-◌, ◌≤◌, ◌<◌, true, false, IsTrue, is_some, List, [], ◌∷◌, ◌++◌, length, drop, Some, None, Option, Result, Ok, Err}
use Rattle.commit_journal.specs.declared.limits.TheConstants.{RECORD_FRAME}
use Rattle.signal_script.specs.declared.signal.Signal.{Signal}
use Rattle.trace_history.specs.declared.choice.Choice.{Choice}
use Rattle.trace_history.specs.declared.entry.Entry.{Entry}
use Rattle.router_state.specs.State.{State, is_used_up}
use Rattle.trace_history.specs.Histories.{input_of, inputs_of}
use Rattle.router_steps.specs.Histories.{replay, solo, solo_choice}
use Rattle.router_steps.specs.Payloads.{payload}
use Rattle.router_steps.specs.Steps.{step_entry}
use Rattle.script_types.specs.Program.{Program}
use Rattle.handler_run.specs.Views.{conflict}
use Rattle.router_state.specs.Look.{look}
use Rattle.tx_attempt.specs.Attempts.{IsDone}
use Rattle.tx_attempt.specs.declared.attempt.Attempt.{Attempt}
use Rattle.tx_attempt.specs.declared.ticket.Ticket.{Ticket}
use Rattle.router_durable.specs.Choices.{written_format}
use Rattle.router_durable.specs.declared.fault.StepFault.{StepFault}
use Rattle.router_durable.specs.declared.fault.StepFault.TheVariants as faults
use Rattle.router_durable.specs.declared.fault.Stop.{Stop}
use Rattle.router_durable.specs.declared.fault.Stop.TheVariants as stops
use Rattle.router_durable.specs.Facts.{Origin, size_after, size_added, HasRoom}
use Rattle.slee_container.specs.Claims.{IsAttemptOf}
use Rattle.slee_container.specs.Container.{View, state_of}
use Rattle.slee_container.specs.Steps.{is_spent}
use Rattle.slee_container.specs.declared.fault.CommitFault.{CommitFault}
use Rattle.slee_container.specs.declared.fault.CommitFault.TheVariants as refusals
use Rattle.slee_run.specs.declared.playing.End.{End}
use Rattle.slee_run.specs.declared.playing.End.TheVariants as ends
use Rattle.slee_run.specs.declared.status.Status.{Status}
use Rattle.slee_run.specs.declared.status.Status.TheVariants as statuses

-- the lines that aren't taken yet
abbrev pub left : {D : Type 0} → View D → List Signal
left v = drop v.taken v.setup.lines

-- the choice that one worker makes next, which takes its lines from those that are left
pub record IsDueIn {D : Type 0} (v : View D) (c : Choice) : Type 0 where
  pub fewer : length v.history < v.setup.steps
  pub due : solo_choice (state_of v) (left v) ≡ Some (c, drop (length (input_of c)) (left v))

-- the step of this choice stands in the history
pub record IsStepOn {D : Type 0} (old : View D) (c : Choice) (new : View D) : Type 0 where
  pub history : new.history ≡ old.history ++ step_entry (state_of old) c ∷ []
  pub taken : new.taken ≡ old.taken + length (input_of c)
  pub room : HasRoom old.setup.origin old.setup.journal old.history c

-- no step was made
pub record IsStill {D : Type 0} (old new : View D) : Type 0 where
  pub history : new.history ≡ old.history
  pub taken : new.taken ≡ old.taken

-- what a step does to a container without claims
abbrev pub Moves : {D : Type 0} → View D → Choice → Result ℕ StepFault → View D → Type 0
Moves old c (Ok number) new = IsStepOn old c new × (new.stop ≡ None) × (new.claims ≡ [])
Moves old c (Err faults.DiskFault) new = IsStepOn old c new × (new.stop ≡ Some stops.DiskFault)
Moves old c (Err (faults.Full size adding)) new = IsStill old new × (new.stop ≡ Some (stops.Full size adding)) × (adding ≡ size_added old.setup.origin old.history c) × (old.setup.journal < size + adding)
Moves old c (Err faults.NoMemory) new = IsStill old new × (new.stop ≡ old.stop)
Moves old c (Err faults.Spent) new = IsStill old new × (new.stop ≡ old.stop) × IsTrue (is_spent old)

-- an attempt at the delivery of a ticket that was tried to its end over what is seen of a state
pub record IsTriedWhole (program : Program) (s : State) (t : Ticket) (a : Attempt) : Type 0 where
  pub of : IsAttemptOf t a
  pub done : IsDone program a
  pub seen : conflict (look s) a.known ≡ None

-- a commit was refused for the step that it would make, and not for what is seen
abbrev pub IsOfStep : CommitFault → Type 0
IsOfStep (refusals.Conflict key saw found) = ⊥
IsOfStep refusals.DiskFault = Unit {0}
IsOfStep (refusals.Full size adding) = Unit {0}
IsOfStep refusals.Spent = Unit {0}
IsOfStep refusals.NoMemory = Unit {0}

-- the fault of that step
abbrev pub step_fault_of : CommitFault → StepFault
step_fault_of (refusals.Conflict key saw found) = faults.NoMemory
step_fault_of refusals.DiskFault = faults.DiskFault
step_fault_of (refusals.Full size adding) = faults.Full size adding
step_fault_of refusals.Spent = faults.Spent
step_fault_of refusals.NoMemory = faults.NoMemory

-- what playing ends with after a step
abbrev pub end_of : Result ℕ StepFault → Option End
end_of (Ok number) = None
end_of (Err faults.DiskFault) = Some ends.DiskFault
end_of (Err (faults.Full size adding)) = Some (ends.Full size adding)
end_of (Err faults.NoMemory) = Some ends.NoMemory
end_of (Err faults.Spent) = Some ends.Spent

-- the worker may go no further
abbrev pub IsSpent : State → ℕ → List Entry → List Signal → Type 0
IsSpent s steps history lines = (is_used_up s ≡ true) ⊎ ((length history ≡ steps) × (is_some (solo_choice s lines) ≡ true))

-- what one step of playing does: it goes on, or this is the end
abbrev pub Advances : {D : Type 0} → View D → Option End → View D → Type 0
Advances old None new = (c : Choice) × IsDueIn old c × IsStepOn old c new × (new.stop ≡ None) × (new.claims ≡ [])
Advances old (Some ends.DiskFault) new = (c : Choice) × IsDueIn old c × IsStepOn old c new × (new.stop ≡ Some stops.DiskFault)
Advances old (Some (ends.Full size adding)) new = IsStill old new × (new.stop ≡ Some (stops.Full size adding)) × (c : Choice) × IsDueIn old c × (adding ≡ size_added old.setup.origin old.history c) × (old.setup.journal < size + adding)
Advances old (Some ends.NoMemory) new = IsStill old new × (new.stop ≡ None)
Advances old (Some ends.Spent) new = IsStill old new × (new.stop ≡ None) × ((length old.history ≤ old.setup.steps) → IsSpent (state_of old) old.setup.steps old.history (left old))
Advances old (Some ends.Done) new = IsStill old new × (new.stop ≡ None) × (left old ≡ []) × (solo_choice (state_of old) [] ≡ None) × (is_used_up (state_of old) ≡ false)

-- A run of at most so many steps on these lines has come to this history, and these lines are left.
pub record IsSoFar (base : State) (steps : ℕ) (lines : List Signal) (history : List Entry) (rest : List Signal) : Type 0 where
  pub taken : inputs_of history ++ rest ≡ lines
  pub count : length history ≤ steps
  pub solo : history ++ solo (steps - length history) (replay base history) rest ≡ solo steps base lines

-- One worker would go on, with a choice whose record has this many bytes; with it a side of this size would be longer than the
-- limit.
pub record NextHasNoRoom (limit : ℕ) (base : State) (steps : ℕ) (history : List Entry) (left : List Signal) (size adding : ℕ) : Type 0 where
  pub fewer : length history < steps
  pub choice : Choice
  pub more : List Signal
  pub next : solo_choice (replay base history) left ≡ Some (choice, more)
  pub adds : adding ≡ RECORD_FRAME + length (payload written_format (replay base history) choice)
  pub above : limit < size + adding

-- how playing ends: done, where no line is left and no choice is enabled; spent, where the run may go no further; full, where
-- the next record has no room
abbrev pub EndsAs : ℕ → State → ℕ → List Entry → List Signal → End → Type 0
EndsAs limit base steps history rest ends.Done = (rest ≡ []) × (solo_choice (replay base history) rest ≡ None) × (is_used_up (replay base history) ≡ false)
EndsAs limit base steps history rest ends.Spent = IsSpent (replay base history) steps history rest
EndsAs limit base steps history rest (ends.Full size adding) = NextHasNoRoom limit base steps history rest size adding
EndsAs limit base steps history rest ends.DiskFault = Unit {0}
EndsAs limit base steps history rest ends.NoMemory = Unit {0}

-- the lines were played so far, and so it ended
pub record IsPlayed (limit : ℕ) (base : State) (steps : ℕ) (lines : List Signal) (history : List Entry) (end : End) : Type 0 where
  pub rest : List Signal
  pub so_far : IsSoFar base steps lines history rest
  pub ends : EndsAs limit base steps history rest end

-- each entry that was made had room
abbrev pub HadRoom : Origin → ℕ → List Entry → Type 0
HadRoom o limit history = IsTrue o.told → (history ≡ []) ⊎ (size_after o history ≤ limit)

-- how an end has stopped a container
abbrev pub stop_of : End → Option Stop
stop_of ends.Done = None
stop_of ends.Spent = None
stop_of (ends.Full size adding) = Some (stops.Full size adding)
stop_of ends.DiskFault = Some stops.DiskFault
stop_of ends.NoMemory = None

-- the end of a run is as it was, unless the disk failed when what was left was written
abbrev pub IsEndOf : End → End → Type 0
IsEndOf end closed = (closed ≡ end) ⊎ (closed ≡ ends.DiskFault)

-- the status of an end, after so many entries
abbrev pub status_after : ℕ → End → Status
status_after entries ends.Done = statuses.Ok
status_after entries ends.Spent = statuses.StepsSpent entries
status_after entries (ends.Full size adding) = statuses.Full size adding
status_after entries ends.DiskFault = statuses.DiskFault
status_after entries ends.NoMemory = statuses.NoMemory
