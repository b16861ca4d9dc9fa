-- What a run is: a legal history of the signal lines, its text, and a status with its cause.
use Rattle.std.specs.Prelude.{◌≡◌, ◌≢◌, ◌⊎◌, ℕ, ◌+◌, ◌<◌, ◌≤◌, ◌==◌, Bool, true, false, IsTrue, IsOk, List, [], ◌∷◌, ◌++◌, drop, length, Some, None, IfSome, IsSome, MatchOption}
use mathlib.Core.List.{IsPrefix}
use Rattle.std.specs.Io.KnownBytes.{Appends}
use Rattle.std.specs.declared.option.Option.{Option}
use Rattle.signal_script.specs.declared.signal.Signal.{Signal}
use Rattle.slee_disk.specs.Disk.{DiskState}
use Rattle.commit_journal.specs.declared.limits.TheConstants.{RECORD_FRAME}
use Rattle.slee_disk.specs.Writes.{AppendsFront}
use Rattle.trace_history.specs.Histories.{inputs_of, input_of}
use Rattle.trace_history.specs.declared.choice.Choice.{Choice}
use Rattle.trace_history.specs.declared.choice.Choice.TheVariants as choices
use Rattle.router_state.specs.declared.rows.Activity.{Activity}
use Rattle.std.specs.List.{list_any}
use Rattle.trace_history.specs.declared.entry.Entry.{Entry}
use Rattle.router_state.specs.State.{State, is_used_up}
use Rattle.router_steps.specs.Histories.{Legal, replay, solo}
use Rattle.router_steps.specs.Payloads.{payload}
use Rattle.router_steps.specs.Steps.{is_enabled}
use Rattle.deploy_model.specs.Resolving.{deployed_of}
use Rattle.slee_descriptor.specs.declared.deployment.Deployment.{Deployment}
use Rattle.signal_gen.specs.Generator.{generated}
use Rattle.slee_container.specs.declared.container.Mode.{Mode}
use Rattle.slee_container.specs.declared.container.Mode.TheVariants as modes
use Rattle.router_durable.specs.Choices.{written_format}
use Rattle.router_durable.specs.Opening.{IsLeftAlone}
use Rattle.slee_run.specs.Words.{command_of}
use Rattle.slee_run.specs.Status.{row_of, status_line, Holds}
use Rattle.slee_run.specs.Text.{IsTextOf, task_text}
use Rattle.slee_run.specs.Given.{Document, IsDeployment, IsDocument, refusal_of, refusal_of_deploy, lines_in}
use Rattle.slee_run.specs.Checking.{IsCheck, IsAnswerFor, IsBarred, IsGenerated}
use Rattle.slee_run.specs.declared.finishing.Report.TheVariants as reports
use Rattle.slee_run.specs.Opening.{journal_limit, found, IsGood, IsEarly}
use Rattle.slee_run.specs.Stops.{DoneOn, KeepsJournal, MeetsJournal}
use Rattle.slee_run.specs.declared.command.Command.{Command}
use Rattle.slee_run.specs.declared.command.Command.TheVariants as commands
use Rattle.slee_run.specs.declared.tending.Task.{Task}
use Rattle.slee_run.specs.declared.tending.Task.TheVariants as tasks
use Rattle.slee_run.specs.declared.status.Status.{Status}
use Rattle.slee_run.specs.declared.status.Status.TheVariants as statuses

-- the words by which one worker plays: all lines are new, or those behind the lines that the journal has
abbrev pub command_for : Mode → ℕ → Command
command_for modes.AllNew steps = commands.Play 1 steps
command_for modes.SkipTaken steps = commands.Resume 1 steps

-- the words ask to play with one worker, in so many entries at most
abbrev pub Plays : List (List ℕ) → Mode → ℕ → Type 0
Plays words mode steps = command_of words ≡ Some (command_for mode steps)

-- the command that asks for a task
abbrev pub command_of_task : Task → Command
command_of_task tasks.Show = commands.Show
command_of_task tasks.Compact = commands.Compact

-- the words ask for a task with the journal: to show the state that it has, or to compact it
abbrev pub Tends : List (List ℕ) → Task → Type 0
Tends words task = command_of words ≡ Some (command_of_task task)

-- the words ask to check the deployment
abbrev pub Checks : List (List ℕ) → Type 0
Checks words = command_of words ≡ Some commands.Check

-- the words ask for so many lines by a seed
abbrev pub Generates : List (List ℕ) → ℕ → ℕ → Type 0
Generates words seed count = command_of words ≡ Some (commands.Gen seed count)

-- the words ask to play so many lines by a seed
abbrev pub Tries : List (List ℕ) → ℕ → ℕ → Type 0
Tries words seed count = command_of words ≡ Some (commands.Trial seed count)

-- the command opens the journal
abbrev pub IsOpening : Command → Type 0
IsOpening commands.Check = ⊥
IsOpening (commands.Play workers steps) = Unit {0}
IsOpening (commands.Resume workers steps) = Unit {0}
IsOpening commands.Show = Unit {0}
IsOpening commands.Compact = Unit {0}
IsOpening (commands.Gen seed count) = ⊥
IsOpening (commands.Trial seed count) = Unit {0}

-- the words ask to open the journal
pub record Opens (words : List (List ℕ)) : Type 0 where
  pub command : Command
  pub asks : command_of words ≡ Some command
  pub opening : IsOpening command

-- the words ask for something: each command reads the deployment
abbrev pub Reads : List (List ℕ) → Type 0
Reads words = IsSome (command_of words)

-- the most entries of a trial
abbrev pub trial_steps : ℕ
trial_steps = 1000000

-- the lines of a run from this state: all, or those behind as many as the state has taken
abbrev pub lines_of_run : Mode → State → List Signal → List Signal
lines_of_run modes.AllNew base lines = lines
lines_of_run modes.SkipTaken base lines = drop base.inputs lines

-- an activity is there
abbrev pub has_activity : State → ℕ → Bool
has_activity s a = list_any (λ (row : Activity). row.number.0 == a) s.activities

-- the activity of a choice is there, if it is one of an activity
abbrev pub is_there : State → Choice → Bool
is_there s (choices.Input signal) = true
is_there s (choices.Initial a) = has_activity s a.0
is_there s (choices.Deliver a) = has_activity s a.0
is_there s (choices.Finish a) = has_activity s a.0

-- A choice may follow where these lines are left: it is enabled, and if it takes a line, it takes the next.
pub record MayFollow (s : State) (left : List Signal) (c : Choice) : Type 0 where
  pub enabled : IsTrue (is_enabled s c)
  pub there : IsTrue (is_there s c)
  pub next : IsPrefix (input_of c) left

-- all lines were taken, and no choice is left in a state that isn't used up
pub record IsDoneOn (base : State) (lines : List Signal) (history : List Entry) : Type 0 where
  pub taken : inputs_of history ≡ lines
  pub idle : (c : Choice) → MayFollow (replay base history) [] c → ⊥
  pub fresh : is_used_up (replay base history) ≡ false

-- The history may go no further: the state is used up, or there are as many entries as the words allow, and a choice may follow.
pub record IsSpentOn (base : State) (steps : ℕ) (lines : List Signal) (history : List Entry) : Type 0 where
  pub taken : IsPrefix (inputs_of history) lines
  pub spent : (is_used_up (replay base history) ≡ true) ⊎ ((length history ≡ steps) × ((c : Choice) × MayFollow (replay base history) taken.0 c))

-- A choice may follow whose record has this many bytes; with it a side of this size would be longer than the limit.
pub record IsFullOn (limit : ℕ) (base : State) (steps : ℕ) (lines : List Signal) (history : List Entry) (size adding : ℕ) : Type 0 where
  pub taken : IsPrefix (inputs_of history) lines
  pub fewer : length history < steps
  pub choice : Choice
  pub may : MayFollow (replay base history) taken.0 choice
  pub adds : adding ≡ RECORD_FRAME + length (payload written_format (replay base history) choice)
  pub above : limit < size + adding

-- No entry is made, since a side that opening would write anew would be longer than the limit.
pub record HasNoSide (limit : ℕ) (history : List Entry) (size adding : ℕ) : Type 0 where
  pub none : history ≡ []
  pub empty : size ≡ 0
  pub above : limit < adding

-- When a run on these lines, in so many entries at most, comes to a status, and what its history is then.
abbrev pub EndsOn : State → ℕ → List Signal → List Entry → Status → Type 0
EndsOn base steps lines history statuses.Ok = IsDoneOn base lines history
EndsOn base steps lines history statuses.BadWords = ⊥
EndsOn base steps lines history statuses.ReadFault = history ≡ []
EndsOn base steps lines history statuses.WriteFault = ⊥
EndsOn base steps lines history statuses.DiskFault = IsPrefix (inputs_of history) lines
EndsOn base steps lines history (statuses.BadJournal side at kind) = history ≡ []
EndsOn base steps lines history (statuses.OtherDeployment kept_len place) = history ≡ []
EndsOn base steps lines history (statuses.Full size adding) = IsFullOn journal_limit base steps lines history size adding ⊎ HasNoSide journal_limit history size adding
EndsOn base steps lines history (statuses.StepsSpent entries) = (entries ≡ length history) × IsSpentOn base steps lines history
EndsOn base steps lines history statuses.NoMemory = IsPrefix (inputs_of history) lines
EndsOn base steps lines history (statuses.BadDeploy fault) = ⊥
EndsOn base steps lines history (statuses.BadSignals line kind) = ⊥
EndsOn base steps lines history (statuses.TooLarge what) = ⊥

-- the bytes weren't read, or memory ran out before they were understood
abbrev pub IsUnread : Status → Type 0
IsUnread status = (status ≡ statuses.ReadFault) ⊎ (status ≡ statuses.NoMemory)

-- a status that bytes with a first refusal come to: that one, or what came before it
abbrev pub IsRefusedAs : Status → Status → Type 0
IsRefusedAs refusal status = (status ≡ refusal) ⊎ IsUnread status

-- When a run on the bytes of a deployment and of signals, in so many entries at most, comes to a status, and what its history is then.
abbrev pub ComesOn : State → Mode → ℕ → List ℕ → List ℕ → List Entry → Status → Type 0
ComesOn base mode steps deploy signals history status =
    MatchOption (refusal_of deploy signals) (EndsOn base steps (lines_of_run mode base (lines_in signals)) history status)
    (λ refusal. (history ≡ []) × IsRefusedAs refusal status)

-- when a task comes to a status
abbrev pub IsTendedAt : Status → Type 0
IsTendedAt status = Holds (row_of status).tended

-- the record of the first of these entries adds so many bytes
abbrev pub AddsFirst : State → ℕ → List Entry → Type 0
AddsFirst s adding [] = ⊥
AddsFirst s adding (e ∷ more) = adding ≡ RECORD_FRAME + length (payload written_format s e.choice)

-- With one worker a history is a front of that worker's run. It is all of it where the run is done or spent, and a record that
-- has no room on a side that stands is that of the next entry.
pub record IsByOne (base : State) (steps : ℕ) (lines : List Signal) (history : List Entry) (status : Status) : Type 0 where
  pub rest : List Entry
  pub front : history ++ rest ≡ solo steps base lines
  pub done : status ≡ statuses.Ok → rest ≡ []
  pub spent : (entries : ℕ) → status ≡ statuses.StepsSpent entries → rest ≡ []
  pub full : (size adding : ℕ) → size ≢ 0 → status ≡ statuses.Full size adding → AddsFirst (replay base history) adding rest

-- the same of the bytes of a deployment and of signals, if they give lines
abbrev pub IsByOneOn : State → Mode → ℕ → List ℕ → List ℕ → List Entry → Status → Type 0
IsByOneOn base mode steps deploy signals history status =
    refusal_of deploy signals ≡ None → IsByOne base steps (lines_of_run mode base (lines_in signals)) history status

-- the same of what sources told, if both did
abbrev pub IsByOneFrom : State → Mode → ℕ → Option (List ℕ) → Option (List ℕ) → List Entry → Status → Type 0
IsByOneFrom base mode steps deploy signals history status =
    IfSome deploy (λ d. IfSome signals (λ bytes. IsByOneOn base mode steps d bytes history status))

-- A history is legal, and a front of it was acknowledged: all of it, unless the disk failed.
pub record IsHistory (base : State) (history acked : List Entry) (status : Status) : Type 0 where
  pub legal : Legal base history
  pub front : IsPrefix acked history
  pub whole : status ≢ statuses.DiskFault → acked ≡ history

-- nothing is done but this refusal
pub record IsRefusal (history : List Entry) (text : List ℕ) (refusal status : Status) : Type 0 where
  pub same : status ≡ refusal
  pub none : history ≡ []
  pub alone : text ≡ status_line refusal

-- what is played, from sources that told that these bytes were left
pub record IsPlay (base : State) (mode : Mode) (steps : ℕ) (deploy signals : Option (List ℕ)) (history acked : List Entry) (ended stood : Status) (text : List ℕ) : Type 0 where
  pub few : length history ≤ steps
  pub comes : IfSome deploy (λ d. IfSome signals (λ bytes. ComesOn base mode steps d bytes history ended))
  pub words : ended ≢ statuses.BadWords
  pub prints : IsTextOf reports.Trace history acked ended stood text

-- a history on generated lines, in as many entries as a trial may have
pub record IsTrialOn (base : State) (seed count : ℕ) (bytes : List ℕ) (history : List Entry) (status : Status) : Type 0 where
  pub deployment : Deployment
  pub given : IsDeployment bytes deployment
  pub ends : EndsOn base trial_steps (generated seed count (deployed_of deployment.parts)) history status
  pub alone : IsByOne base trial_steps (generated seed count (deployed_of deployment.parts)) history status

-- the same, or nothing was played
abbrev pub IsTrialOrNone : State → ℕ → ℕ → List ℕ → List Entry → Status → Type 0
IsTrialOrNone base seed count bytes history status = IsTrialOn base seed count bytes history status ⊎ ((history ≡ []) × IsUnread status)

-- what is played of generated lines
pub record IsTrial (base : State) (seed count : ℕ) (deploy : Option (List ℕ)) (history acked : List Entry) (ended stood : Status) (text : List ℕ) : Type 0 where
  pub few : length history ≤ trial_steps
  pub comes : IfSome deploy (λ bytes. MatchOption (refusal_of_deploy bytes) (IsTrialOrNone base seed count bytes history ended)
      (λ refusal. (history ≡ []) × IsRefusedAs refusal ended))
  pub words : ended ≢ statuses.BadWords
  pub prints : IsTextOf reports.Summary history acked ended stood text

-- a task, and the text of it: what is shown, or the generation that compacting gave
pub record IsTask (task : Task) (base : State) (generation : ℕ) (deploy : Option (List ℕ)) (history : List Entry) (text : List ℕ) (status : Status) : Type 0 where
  pub comes : IsTendedAt status
  pub none : history ≡ []
  pub barred : IfSome deploy (λ bytes. IsBarred bytes status)
  pub prints : text ≡ task_text task base generation status

-- What is said of a run with these words, where the sources of the deployment and of the signals told that these bytes were left.
-- It came to the status `ended`; `stood` is the status before its text was written.
pub record IsRun (base : State) (generation : ℕ) (words : List (List ℕ)) (deploy signals : Option (List ℕ)) (history acked : List Entry) (ended stood : Status) (text : List ℕ) : Type 0 where
  pub legal : IsHistory base history acked ended
  pub bad : command_of words ≡ None → IsRefusal history text statuses.BadWords ended
  pub plays : (mode : Mode) (steps : ℕ) → Plays words mode steps → IsPlay base mode steps deploy signals history acked ended stood text
  pub tends : (task : Task) → Tends words task → IsTask task base generation deploy history text ended
  pub checks : Checks words → IsCheck deploy history text ended
  pub generates : (seed count : ℕ) → Generates words seed count → IsGenerated seed count deploy history text ended
  pub tries : (seed count : ℕ) → Tries words seed count → IsTrial base seed count deploy history acked ended stood text
  -- of one worker besides
  pub alone : (mode : Mode) (steps : ℕ) → Plays words mode steps → IsByOneFrom base mode steps deploy signals history ended
  -- but for want of memory the status that it came to stands
  pub same : stood ≢ statuses.NoMemory → stood ≡ ended
  pub unwritten : stood ≢ statuses.WriteFault

-- The text is out and the status is the one that stood, or a front of the text is out.
pub record IsWritten (before after : Option (List ℕ)) (text : List ℕ) (stood status : Status) : Type 0 where
  pub whole : status ≢ statuses.WriteFault → (stood ≡ status) × Appends before after text
  pub front : status ≡ statuses.WriteFault → AppendsFront before after text

-- the journal wasn't opened, and the disk was left alone
pub record IsBefore (history : List Entry) (old new : DiskState) (status : Status) : Type 0 where
  pub none : history ≡ []
  pub early : IsEarly status
  pub same : IsLeftAlone old new

-- What is said of the journal and of its disk, by what the words ask.
pub record LeavesJournal (words : List (List ℕ)) (x : Document) (base : State) (generation : ℕ) (history acked : List Entry) (old new : DiskState) (status : Status) : Type 0 where
  pub met : Opens words → MeetsJournal x base history old new status
  -- a run goes on behind the records
  pub keeps : Opens words → ((task : Task) → Tends words task → ⊥) → KeepsJournal x base history acked old new status
  pub done : (task : Task) → Tends words task → DoneOn task x base generation old new status

-- where no side could be written anew, nothing but the status is told
abbrev pub IsBareText : DiskState → List ℕ → Status → Type 0
IsBareText old text status = IsTrue old.told → (adding : ℕ) → status ≡ statuses.Full 0 adding → text ≡ status_line status

-- One history is legal, follows the signals that were read, and its acknowledged part is what was written and what the
-- journal has; the status has its cause. `ended` is the status that the run came to, and `stood` that before writing failed, if it did.
pub record IsLegalRun (words : List (List ℕ)) (deploy signals before after : Option (List ℕ)) (old new : DiskState) (status : Status) : Type 0 where
  pub document : Document
  pub base : State
  -- of the side that compacting wrote
  pub generation : ℕ
  pub history : List Entry
  pub acked : List Entry
  pub text : List ℕ
  pub ended : Status
  pub stood : Status
  pub run : IsRun base generation words deploy signals history acked ended stood text
  -- the document is the one that was given, unless nothing was opened
  pub given : Opens words → IsDocument deploy document ⊎ IsBefore history old new ended
  pub journal : LeavesJournal words document base generation history acked old new ended
  pub bare : Opens words → IsBareText old text ended
  pub output : IsWritten before after text stood status

-- With words that play, bytes of a deployment and of lines of the grammar within the limits, and bytes on the disk that stand for a
-- state, a run without a fault comes to no other status.
abbrev pub IsComplete : List (List ℕ) → Option (List ℕ) → Option (List ℕ) → DiskState → Type 0 → Status → Type 0
IsComplete words deploy signals disk Faulted status =
    (mode : Mode) (steps : ℕ) → Plays words mode steps → IsTrue disk.told → (x : Document) → IsDocument deploy x → IsOk (found x disk)
    → IfSome deploy (λ d. IfSome signals (λ bytes. refusal_of d bytes ≡ None → (Faulted → ⊥) → IsGood status))

-- The same of a trial.
abbrev pub IsCompleteTrial : List (List ℕ) → Option (List ℕ) → DiskState → Type 0 → Status → Type 0
IsCompleteTrial words deploy disk Faulted status =
    (seed count : ℕ) → Tries words seed count → IsTrue disk.told → (x : Document) → IsDocument deploy x → IsOk (found x disk)
    → IfSome deploy (λ bytes. refusal_of_deploy bytes ≡ None → (Faulted → ⊥) → IsGood status)

-- With words that ask for a task, bytes of a deployment, and bytes on the disk that stand for a state, a run without a fault does it, or
-- a side that is written anew has no room, or memory ran out.
abbrev pub IsCompleteTask : List (List ℕ) → Option (List ℕ) → DiskState → Type 0 → Status → Type 0
IsCompleteTask words deploy disk Faulted status =
    (task : Task) → Tends words task → IsTrue disk.told → (x : Document) → IsDocument deploy x → IsOk (found x disk)
    → IfSome deploy (λ bytes. refusal_of_deploy bytes ≡ None → (Faulted → ⊥) → IsGood status × IsTendedAt status)

-- the words ask to check the deployment, or for lines by a seed
abbrev pub IsOfDeployment : List (List ℕ) → Type 0
IsOfDeployment words = Checks words ⊎ ((seed : ℕ) × (count : ℕ) × Generates words seed count)

-- With such words a run without a fault gives the one answer to the bytes, or memory ran out.
abbrev pub IsWholeCheck : List (List ℕ) → Option (List ℕ) → Type 0 → Status → Type 0
IsWholeCheck words deploy Faulted status = IsOfDeployment words → IfSome deploy (λ bytes. (Faulted → ⊥) → IsAnswerFor bytes status)

-- a status that doesn't follow from the words, the deployment, the lines and the journal
abbrev pub IsByFault : Status → Type 0
IsByFault status = Holds (row_of status).faulty
