-- What the parts of a run answer: what is said of the whole in Headline, but for the words.
use Rattle.std.specs.Prelude.{◌≡◌, ◌≢◌, ◌⊎◌, ◌≤◌, ℕ, List, [], length, Option, Some, None, Result, Ok, Err, IfSome, MatchOption}
use Rattle.signal_script.specs.declared.signal.Signal.{Signal}
use Rattle.signal_script.specs.declared.fault.SignalFault.{SignalFault}
use Rattle.signal_script.specs.declared.fault.SignalFault.TheVariants as line_faults
use Rattle.slee_disk.specs.declared.reading.ReadFault.{ReadFault}
use Rattle.slee_disk.specs.declared.reading.ReadFault.TheVariants as read_faults
use Rattle.slee_disk.specs.Disk.{DiskState}
use Rattle.trace_history.specs.declared.entry.Entry.{Entry}
use Rattle.router_state.specs.State.{State}
use Rattle.router_durable.specs.declared.fault.OpenFault.{OpenFault}
use Rattle.router_durable.specs.declared.fault.OpenFault.TheVariants as faults
use Rattle.router_durable.specs.Opening.{IsRefused}
use Rattle.commit_journal.specs.declared.fault.BeginFault.{BeginFault}
use Rattle.commit_journal.specs.declared.fault.BeginFault.TheVariants as renewals
use Rattle.deploy_json.specs.Checking.{reading_of, read_as}
use Rattle.deploy_json.specs.declared.fault.ReadFault.{ReadFault as DeployFault}
use Rattle.deploy_json.specs.declared.fault.ReadFault.TheVariants as deploy_faults
use Rattle.slee_container.specs.declared.container.Limits.{Limits}
use Rattle.slee_container.specs.declared.container.Mode.{Mode}
use Rattle.slee_container.specs.Compacting.{Compacts}
use Rattle.slee_container.specs.Container.{View, state_of as state_in}
use Rattle.slee_descriptor.specs.declared.deployment.Deployment.{Deployment}
use Rattle.slee_run.specs.Given.{Document, IsDeployment, IsDocument, start_of, refusal_of, refusal_of_deploy}
use Rattle.script_types.specs.ProgramOf.{IsChecked}
use Rattle.slee_run.specs.declared.reading.Deployed.{Deployed}
use Rattle.slee_run.specs.declared.reading.Inputs.{Inputs}
use Rattle.signal_script.specs.Signals.{signals_of}
use Rattle.slee_run.specs.Status.{status_line}
use Rattle.slee_run.specs.Text.{IsReported, IsTextOf, lines_text, task_text}
use Rattle.slee_run.specs.Opening.{IsBeforeOpening, journal_limit}
use Rattle.slee_run.specs.Checking.{IsBarred, IsCheck, IsGenerated}
use Rattle.slee_run.specs.Headline.{command_for, command_of_task, lines_of_run, trial_steps, IsBareText, IsBefore, IsHistory, IsRefusedAs, IsTendedAt, IsTrialOrNone, EndsOn, ComesOn, IsByOne, IsByOneFrom, IsWritten}
use Rattle.slee_run.specs.Stops.{DoneOn, KeepsJournal, MeetsJournal}
use Rattle.slee_run.specs.declared.finishing.Report.{Report}
use Rattle.slee_run.specs.declared.finishing.Report.TheVariants as reports
use Rattle.slee_run.specs.declared.status.Given.{Given}
use Rattle.slee_run.specs.declared.command.Command.{Command}
use Rattle.slee_run.specs.declared.command.Command.TheVariants as commands
use Rattle.slee_run.specs.declared.tending.Task.{Task}
use Rattle.slee_run.specs.declared.tending.Task.TheVariants as tasks
use Rattle.slee_run.specs.declared.top.Form.{Form}
use Rattle.slee_run.specs.declared.top.Form.TheVariants as forms
use Rattle.slee_run.specs.declared.status.Status.{Status}
use Rattle.slee_run.specs.declared.status.Status.TheVariants as statuses

-- what a run came to: its history, the status that it came to and the one that stood before writing failed, and its text
pub record Outcome : Type 0 where
  pub base : State
  -- of the side that compacting wrote
  pub generation : ℕ
  pub history : List Entry
  pub acked : List Entry
  pub ended : Status
  pub stood : Status
  pub text : List ℕ

-- such a run is legal, was written and is kept
pub record IsPlayedBy (x : Document) (report : Report) (before after : Option (List ℕ)) (old new : DiskState) (status : Status) (r : Outcome) : Type 0 where
  pub legal : IsHistory r.base r.history r.acked r.ended
  pub words : r.ended ≢ statuses.BadWords
  pub same : r.stood ≢ statuses.NoMemory → r.stood ≡ r.ended
  pub unwritten : r.stood ≢ statuses.WriteFault
  pub prints : IsTextOf report r.history r.acked r.ended r.stood r.text
  pub met : MeetsJournal x r.base r.history old new r.ended
  pub keeps : KeepsJournal x r.base r.history r.acked old new r.ended
  pub bare : IsBareText old r.text r.ended
  pub output : IsWritten before after r.text r.stood status

-- a history on lines, in so many entries at most, and the status that it came to
pub record IsPlayOn (base : State) (steps : ℕ) (lines : List Signal) (history : List Entry) (status : Status) : Type 0 where
  pub few : length history ≤ steps
  pub ends : EndsOn base steps lines history status
  pub alone : IsByOne base steps lines history status

-- lines were played for a deployment's document
pub record IsPlayedOn (x : Document) (mode : Mode) (steps : ℕ) (report : Report) (lines : List Signal) (before after : Option (List ℕ)) (old new : DiskState) (status : Status) : Type 0 where
  pub run : Outcome
  pub played : IsPlayedBy x report before after old new status run
  pub play : IsPlayOn run.base steps (lines_of_run mode run.base lines) run.history run.ended

-- what two sources told was played
pub record IsPlayedFrom (mode : Mode) (steps : ℕ) (deploy signals before after : Option (List ℕ)) (old new : DiskState) (status : Status) : Type 0 where
  pub document : Document
  pub run : Outcome
  pub given : IsDocument deploy document ⊎ IsBefore run.history old new run.ended
  pub played : IsPlayedBy document reports.Trace before after old new status run
  pub few : length run.history ≤ steps
  pub comes : IfSome deploy (λ d. IfSome signals (λ bytes. ComesOn run.base mode steps d bytes run.history run.ended))
  pub alone : IsByOneFrom run.base mode steps deploy signals run.history run.ended

-- lines that were generated for what a source told were played
pub record IsTriedBy (seed count : ℕ) (deploy before after : Option (List ℕ)) (old new : DiskState) (status : Status) : Type 0 where
  pub document : Document
  pub run : Outcome
  pub given : IsDocument deploy document ⊎ IsBefore run.history old new run.ended
  pub played : IsPlayedBy document reports.Summary before after old new status run
  pub few : length run.history ≤ trial_steps
  pub comes : IfSome deploy (λ bytes. MatchOption (refusal_of_deploy bytes) (IsTrialOrNone run.base seed count bytes run.history run.ended)
      (λ refusal. (run.history ≡ []) × IsRefusedAs refusal run.ended))

-- a report that was written, of a run that came to this status
pub record IsFinished (report : Report) (acked : List Entry) (ended : Status) (before after : Option (List ℕ)) (status : Status) : Type 0 where
  pub stood : Status
  pub text : List ℕ
  pub reported : IsReported report acked ended stood text
  pub output : IsWritten before after text stood status

-- a task that was done with the journal of a document
pub record IsTaskOf (task : Task) (x : Document) (before after : Option (List ℕ)) (old new : DiskState) (status : Status) : Type 0 where
  pub base : State
  pub generation : ℕ
  pub stood : Status
  pub comes : IsTendedAt stood
  pub late : IsBeforeOpening stood → ⊥
  pub met : MeetsJournal x base [] old new stood
  pub done : DoneOn task x base generation old new stood
  pub output : IsWritten before after (task_text task base generation stood) stood status

-- a task that was done for what a source told
pub record IsTaskBy (task : Task) (deploy before after : Option (List ℕ)) (old new : DiskState) (status : Status) : Type 0 where
  pub document : Document
  pub base : State
  pub generation : ℕ
  pub stood : Status
  pub given : IsDocument deploy document ⊎ IsBefore [] old new stood
  pub comes : IsTendedAt stood
  pub barred : IfSome deploy (λ bytes. IsBarred bytes stood)
  pub met : MeetsJournal document base [] old new stood
  pub done : DoneOn task document base generation old new stood
  pub output : IsWritten before after (task_text task base generation stood) stood status

-- lines were written, or memory ran out
pub record IsLinesOut (lines : List Signal) (before after : Option (List ℕ)) (status : Status) : Type 0 where
  pub text : List ℕ
  pub stood : Status
  pub which : ((stood ≡ statuses.Ok) × (text ≡ lines_text lines)) ⊎ ((stood ≡ statuses.NoMemory) × (text ≡ status_line statuses.NoMemory))
  pub output : IsWritten before after text stood status

-- lines that were generated and written
pub record IsGeneratedBy (seed count : ℕ) (deploy before after : Option (List ℕ)) (status : Status) : Type 0 where
  pub text : List ℕ
  pub stood : Status
  pub lines : IsGenerated seed count deploy [] text stood
  pub output : IsWritten before after text stood status

-- a deployment that was checked
pub record IsCheckedBy (told before after : Option (List ℕ)) (status : Status) : Type 0 where
  pub text : List ℕ
  pub stood : Status
  pub check : IsCheck told [] text stood
  pub output : IsWritten before after text stood status

-- the status of a fault of opening
abbrev pub status_of : OpenFault → Status
status_of faults.DiskFault = statuses.DiskFault
status_of (faults.BadJournal side at kind) = statuses.BadJournal side at kind
status_of (faults.OtherDeployment kept_len place) = statuses.OtherDeployment kept_len place
status_of (faults.Full size adding) = statuses.Full size adding
status_of faults.NoMemory = statuses.NoMemory

-- the journal of a document wasn't opened, for the fault that has this status
pub record IsUnopenedAs (x : Document) (old new : DiskState) (status : Status) : Type 0 where
  pub fault : OpenFault
  pub is : status ≡ status_of fault
  pub refused : IsRefused old new x.start x.bytes journal_limit fault

-- the limits of a run of so many entries at most
abbrev pub limits_of : ℕ → Limits
limits_of steps = record { journal = journal_limit; steps = steps }

-- the status of a side that isn't written anew
abbrev pub status_of_renewal : BeginFault → Status
status_of_renewal renewals.DiskFault = statuses.DiskFault
status_of_renewal (renewals.Full size adding) = statuses.Full size adding
status_of_renewal renewals.NoMemory = statuses.NoMemory

-- the status of compacting
abbrev pub status_of_compacting : Result ℕ BeginFault → Status
status_of_compacting (Ok generation) = statuses.Ok
status_of_compacting (Err fault) = status_of_renewal fault

-- the generation that compacting gave
abbrev pub generation_of : Result ℕ BeginFault → ℕ
generation_of (Ok generation) = generation
generation_of (Err fault) = 0

-- the status of a source that couldn't be read whole
abbrev pub status_of_reading : ReadFault → Given → Status
status_of_reading read_faults.Failed what = statuses.ReadFault
status_of_reading read_faults.TooLarge what = statuses.TooLarge what
status_of_reading read_faults.NoMemory what = statuses.NoMemory

-- a refusal of bytes, or want of memory
abbrev pub IsRefusalFor : Option Status → Status → Type 0
IsRefusalFor refusal status = (status ≡ statuses.NoMemory) ⊎ (refusal ≡ Some status)

-- the same where they had to be read
abbrev pub IsRefusalBy : Option Status → Status → Type 0
IsRefusalBy refusal status = (status ≡ statuses.ReadFault) ⊎ IsRefusalFor refusal status

-- a source wasn't read to its end
abbrev pub IsUnreadAs : Given → Status → Type 0
IsUnreadAs what status = (status ≡ statuses.ReadFault) ⊎ ((status ≡ statuses.NoMemory) ⊎ (status ≡ statuses.TooLarge what))

-- a document was read as a deployment
pub record IsDeployedBy (document : List ℕ) (d : Deployed) : Type 0 where
  pub bytes : d.bytes ≡ document
  pub checked : IsChecked d.checked.codes
  pub read : reading_of d.bytes ≡ Ok (read_as d.checked)

-- these bytes are lines, and with those of the document they give no refusal
pub record AreInputs (document bytes : List ℕ) (i : Inputs) : Type 0 where
  pub lines : signals_of bytes ≡ Ok i.lines
  pub accepted : refusal_of document bytes ≡ None

-- what a source gave as a deployment
pub record IsDeployedFrom (source : Option (List ℕ)) (d : Deployed) : Type 0 where
  pub checked : IsChecked d.checked.codes
  pub given : IsDeployment d.bytes d.checked
  pub told : IfSome source (λ bytes. d.bytes ≡ bytes)

-- what two sources gave as a deployment and lines
pub record AreInputsFrom (deploy signals : Option (List ℕ)) (i : Inputs) : Type 0 where
  pub deployed : IsDeployedFrom deploy i.deployed
  pub lines : IfSome signals (λ bytes. signals_of bytes ≡ Ok i.lines)
  pub accepted : IfSome deploy (λ d. IfSome signals (λ bytes. refusal_of d bytes ≡ None))

-- the document of a deployment
abbrev pub document_on : List ℕ → Deployment → Document
document_on bytes d = record { bytes = bytes; start = start_of d }

-- that of a deployment that was read
abbrev pub document_of : Deployed → Document
document_of d = document_on d.bytes d.checked

-- the status of bytes that are no deployment
abbrev pub status_of_fault : DeployFault → Status
status_of_fault deploy_faults.NoMemory = statuses.NoMemory
status_of_fault fault = statuses.BadDeploy fault

-- the status of bytes that aren't lines
abbrev pub status_of_lines : SignalFault → Status
status_of_lines (line_faults.At line kind) = statuses.BadSignals line kind
status_of_lines line_faults.NoMemory = statuses.NoMemory

-- what was shown of a container's state, or memory ran out
pub record ShowsState {D : Type 0} (old new : View D) (before after : Option (List ℕ)) (status : Status) : Type 0 where
  pub stood : Status
  pub which : (stood ≡ statuses.Ok) ⊎ (stood ≡ statuses.NoMemory)
  pub same : new ≡ old
  pub output : IsWritten before after (task_text tasks.Show (state_in old) 0 stood) stood status

-- a container that was compacted, or that couldn't be
pub record CompactsState {D : Type 0} (disk_of : D → DiskState) (old new : View D) (before after : Option (List ℕ)) (status : Status) : Type 0 where
  pub outcome : Result ℕ BeginFault
  pub compacts : Compacts (disk_of old.disk) (disk_of new.disk) old outcome new
  pub output : IsWritten before after (task_text tasks.Compact (state_in old) (generation_of outcome) (status_of_compacting outcome)) (status_of_compacting outcome) status

-- what a task does with a container
abbrev pub DoesTask : {D : Type 0} → (D → DiskState) → Task → View D → View D → Option (List ℕ) → Option (List ℕ) → Status → Type 0
DoesTask disk_of tasks.Show old new before after status = ShowsState old new before after status
DoesTask disk_of tasks.Compact old new before after status = CompactsState disk_of old new before after status

-- what a command asks of one worker
abbrev pub IsFormOf : Command → Form → Type 0
IsFormOf command forms.Check = command ≡ commands.Check
IsFormOf command (forms.Play run) = (command ≡ command_for run.mode run.steps) × (run.report ≡ reports.Trace)
IsFormOf command (forms.Tend task) = command ≡ command_of_task task
IsFormOf command (forms.Gen seeded) = command ≡ commands.Gen seeded.seed seeded.count
IsFormOf command (forms.Trial seeded) = command ≡ commands.Trial seeded.seed seeded.count
