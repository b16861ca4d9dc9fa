-- What a run of several workers is.
use Rattle.std.specs.Prelude.{◌≡◌, ◌⊎◌, ◌≤◌, ◌<◌, ◌==◌, if◌then◌else◌, ℕ, false, IsTrue, IsOk, List, [], length, Option, Some, None, IfSome, IsSome, option_and_then}
use Rattle.signal_script.specs.declared.signal.Signal.{Signal}
use Rattle.slee_disk.specs.Disk.{DiskState}
use Rattle.router_durable.specs.Core.{is_down}
use Rattle.router_durable.specs.declared.fault.Stop.{Stop}
use Rattle.router_durable.specs.declared.fault.Stop.TheVariants as stops
use Rattle.router_laws_restarts.specs.Orderly.{IsOrderly}
use Rattle.router_state.specs.State.{is_used_up}
use Rattle.router_steps.specs.Histories.{solo_choice}
use Rattle.slee_container.specs.Container.{View, state_of}
use Rattle.slee_container.specs.declared.container.Mode.{Mode}
use Rattle.slee_container.specs.declared.container.Mode.TheVariants as modes
use Rattle.slee_run.specs.Words.{command_of, most_workers}
use Rattle.slee_run.specs.Given.{Document, IsDocument, refusal_of}
use Rattle.slee_run.specs.Headline.{ComesOn, EndsOn, IsBefore, IsComplete, IsCompleteTask, IsCompleteTrial, IsWholeCheck, lines_of_run}
use Rattle.slee_run.specs.Opening.{IsGood, found}
use Rattle.slee_run.specs.Answers.{IsPlayedBy, Outcome}
use Rattle.slee_run.specs.Playing.{IsSpent, left}
use Rattle.slee_run.specs.declared.command.Command.{Command}
use Rattle.slee_run.specs.declared.command.Command.TheVariants as commands
use Rattle.slee_run.specs.declared.finishing.Report.TheVariants as reports
use Rattle.slee_run.specs.declared.many.Crew.{Crew}
use Rattle.slee_run.specs.declared.playing.End.{End}
use Rattle.slee_run.specs.declared.playing.End.TheVariants as ends
use Rattle.slee_run.specs.declared.status.Status.{Status}

-- so many workers, where they are several, with the lines that are new and the most entries
abbrev pub several : Mode → ℕ → ℕ → Option Crew
several mode workers steps = if workers == 1 then None else Some (record { workers = workers; mode = mode; steps = steps })

-- the workers that a command asks for, where they are several
abbrev pub crew_of : Command → Option Crew
crew_of commands.Check = None
crew_of (commands.Play workers steps) = several modes.AllNew workers steps
crew_of (commands.Resume workers steps) = several modes.SkipTaken workers steps
crew_of commands.Show = None
crew_of commands.Compact = None
crew_of (commands.Gen seed count) = None
crew_of (commands.Trial seed count) = None

-- the workers that the words ask for, where they are several
abbrev pub crew_in : List (List ℕ) → Option Crew
crew_in words = option_and_then crew_of (command_of words)

-- there are some, as many as words may ask for, and they may make an entry
pub record IsCrew (c : Crew) : Type 0 where
  pub some : 0 < c.workers
  pub few : c.workers ≤ most_workers
  pub steps : 0 < c.steps

-- ---- containers

-- How a container stands where its run has ended so: done, where no line is left and no choice is enabled; spent, where it may go no
-- further; full and by a fault of the disk, where it is stopped for that.
abbrev pub StandsAt : {D : Type 0} → View D → End → Type 0
StandsAt v ends.Done = (left v ≡ []) × (solo_choice (state_of v) [] ≡ None) × (is_used_up (state_of v) ≡ false)
StandsAt v ends.Spent = IsSpent (state_of v) v.setup.steps v.history (left v)
StandsAt v (ends.Full size adding) = v.stop ≡ Some (stops.Full size adding)
StandsAt v ends.DiskFault = v.stop ≡ Some stops.DiskFault
StandsAt v ends.NoMemory = Unit {0}

-- how a stopped container's run ended
abbrev pub end_of_stop : Stop → End
end_of_stop stops.DiskFault = ends.DiskFault
end_of_stop (stops.Full size adding) = ends.Full size adding
end_of_stop stops.NoMemory = ends.NoMemory

-- it is stopped by its disk exactly where its run has ended so
abbrev pub IsDownAt : Option Stop → End → Type 0
IsDownAt stop ends.Done = is_down stop ≡ false
IsDownAt stop ends.Spent = is_down stop ≡ false
IsDownAt stop (ends.Full size adding) = is_down stop ≡ false
IsDownAt stop ends.DiskFault = stop ≡ Some stops.DiskFault
IsDownAt stop ends.NoMemory = is_down stop ≡ false

-- ---- runs

-- lines were played for a deployment's document
pub record IsPlayedTogether (x : Document) (mode : Mode) (steps : ℕ) (lines : List Signal) (before after : Option (List ℕ)) (old new : DiskState) (status : Status) : Type 0 where
  pub run : Outcome
  pub played : IsPlayedBy x reports.Trace before after old new status run
  pub few : length run.history ≤ steps
  pub ends : EndsOn run.base steps (lines_of_run mode run.base lines) run.history run.ended

-- What two sources told was played: one legal history, its text and its journal, and the status with its cause.
pub record IsPlayedByMany (mode : Mode) (steps : ℕ) (deploy signals before after : Option (List ℕ)) (old new : DiskState) (status : Status) : Type 0 where
  pub document : Document
  pub run : Outcome
  -- the document is the one that was given, unless nothing was opened
  pub given : IsDocument deploy document ⊎ IsBefore run.history old new run.ended
  pub played : IsPlayedBy document reports.Trace before after old new status run
  pub few : length run.history ≤ steps
  pub comes : IfSome deploy (λ d. IfSome signals (λ bytes. ComesOn run.base mode steps d bytes run.history run.ended))

-- What is said of a run of several workers. On a disk that tells its bytes its history keeps all laws of runs.
pub record IsRunOfMany (words : List (List ℕ)) (deploy signals before after : Option (List ℕ)) (old new : DiskState) (status : Status) : Type 0 where
  pub crew : Crew
  pub asks : crew_in words ≡ Some crew
  pub run : IsPlayedByMany crew.mode crew.steps deploy signals before after old new status
  pub laws : IsTrue old.told → IsOrderly run.run.base run.run.history

-- On bytes of a deployment and of lines of the grammar within the limits, and bytes on the disk that stand for a state, a run of
-- several workers without a fault comes to no other status.
abbrev pub IsCompleteOfMany : Option (List ℕ) → Option (List ℕ) → DiskState → Type 0 → Status → Type 0
IsCompleteOfMany deploy signals disk Faulted status =
    IsTrue disk.told → (x : Document) → IsDocument deploy x → IsOk (found x disk)
    → IfSome deploy (λ d. IfSome signals (λ bytes. refusal_of d bytes ≡ None → (Faulted → ⊥) → IsGood status))

-- What is said of the status of a run without a fault, by what the words ask.
pub record IsCompleteRun (words : List (List ℕ)) (deploy signals : Option (List ℕ)) (disk : DiskState) (Faulted : Type 0) (status : Status) : Type 0 where
  pub plays : IsComplete words deploy signals disk Faulted status
  pub several : IsSome (crew_in words) → IsCompleteOfMany deploy signals disk Faulted status
  pub tries : IsCompleteTrial words deploy disk Faulted status
  pub tends : IsCompleteTask words deploy disk Faulted status
  pub checks : IsWholeCheck words deploy Faulted status
