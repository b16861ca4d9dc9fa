-- The whole text of a run.
use Rattle.std.specs.Prelude.{◌≡◌, ◌⊎◌, ℕ, List, [], ◌++◌, map, codes}
use Rattle.deploy_model.specs.Deployed.{Deployed}
use Rattle.trace_history.specs.Lines.{line_texts}
use Rattle.trace_history.specs.Trace.{trace_text}
use Rattle.trace_history.specs.declared.entry.Entry.{Entry}
use Rattle.router_state.specs.State.{State}
use Rattle.router_state.specs.Show.{show_text}
use Rattle.signal_gen.specs.Generator.{generated}
use Rattle.signal_script.specs.Signals.{spelled}
use Rattle.signal_script.specs.declared.signal.Signal.{Signal}
use Rattle.usage_totals.specs.Totals.{total_lines}
use Rattle.deploy_report.specs.Texts.{counts_text}
use Rattle.deploy_report.specs.declared.counts.Counts.{Counts}
use Rattle.slee_run.specs.Status.{row_of, status_line, Time, Early, Refusing, Ending, Filled, DiskFailed, WantOfMemory, WritingFailed}
use Rattle.slee_run.specs.Summary.{count_line, summary_text}
use Rattle.slee_run.specs.declared.finishing.Report.{Report}
use Rattle.slee_run.specs.declared.finishing.Report.TheVariants as reports
use Rattle.slee_run.specs.declared.tending.Task.{Task}
use Rattle.slee_run.specs.declared.tending.Task.TheVariants as tasks
use Rattle.slee_run.specs.declared.status.Status.{Status}
use Rattle.slee_run.specs.declared.status.Status.TheVariants as statuses

-- what is written of a history, before its totals
abbrev pub report_text : Report → List Entry → List ℕ
report_text reports.Trace history = trace_text history
report_text reports.Summary history = summary_text history

-- the usage totals of a history, a line each
abbrev pub totals_text : List Entry → List ℕ
totals_text history = line_texts (total_lines history)

-- the report, the totals and the status line
abbrev pub output_text : Report → List Entry → Status → List ℕ
output_text report history status = report_text report history ++ (totals_text history ++ status_line status)

-- what is written where memory for the totals ran out: a trace stands without them, a summary not at all
abbrev pub short_text : Report → List Entry → List ℕ
short_text reports.Trace history = trace_text history ++ status_line statuses.NoMemory
short_text reports.Summary history = status_line statuses.NoMemory

-- the steps were reached
abbrev pub IsReachedTime : Time → Type 0
IsReachedTime Early = ⊥
IsReachedTime (Refusing wrong) = ⊥
IsReachedTime Ending = Unit {0}
IsReachedTime Filled = Unit {0}
IsReachedTime DiskFailed = Unit {0}
IsReachedTime WantOfMemory = Unit {0}
IsReachedTime WritingFailed = ⊥

-- the steps came to no end
abbrev pub IsUnendedTime : Time → Type 0
IsUnendedTime Early = Unit {0}
IsUnendedTime (Refusing wrong) = Unit {0}
IsUnendedTime Ending = ⊥
IsUnendedTime Filled = Unit {0}
IsUnendedTime DiskFailed = Unit {0}
IsUnendedTime WantOfMemory = Unit {0}
IsUnendedTime WritingFailed = ⊥

-- The report of the acknowledged entries is written with the status that the run came to; at want of memory perhaps without the totals.
pub record IsReported (report : Report) (acked : List Entry) (ended stood : Status) (text : List ℕ) : Type 0 where
  pub reached : IsReachedTime (row_of ended).time
  pub prints : ((stood ≡ ended) × (text ≡ output_text report acked ended)) ⊎ ((stood ≡ statuses.NoMemory) × (text ≡ short_text report acked))

-- The status line alone is written, where no entry was made and the steps came to no end: of a side that would be written anew, nothing
-- stands.
pub record IsAlone (history : List Entry) (ended stood : Status) (text : List ℕ) : Type 0 where
  pub none : history ≡ []
  pub unended : IsUnendedTime (row_of ended).time
  pub anew : (size adding : ℕ) → ended ≡ statuses.Full size adding → size ≡ 0
  pub same : stood ≡ ended
  pub alone : text ≡ status_line ended

-- what a run writes that came to this status; `stood` is the status before writing failed
abbrev pub IsTextOf : Report → List Entry → List Entry → Status → Status → List ℕ → Type 0
IsTextOf report history acked ended stood text = IsReported report acked ended stood text ⊎ IsAlone history ended stood text

-- the generation of a side, on a line
abbrev pub generation_line : ℕ → List ℕ
generation_line generation = count_line (codes "generation ") generation

-- what is written of a task: what is shown of the state, or the generation of the side that compacting wrote
abbrev pub done_text : Task → State → ℕ → List ℕ
done_text tasks.Show state generation = show_text state
done_text tasks.Compact state generation = generation_line generation

-- the same, and the status line; the line alone at every status but Ok
abbrev pub task_text : Task → State → ℕ → Status → List ℕ
task_text task state generation statuses.Ok = done_text task state generation ++ status_line statuses.Ok
task_text task state generation status = status_line status

-- the counts of a deployment, and the status line
abbrev pub checked_text : Counts → List ℕ
checked_text counts = counts_text counts ++ status_line statuses.Ok

-- signal lines, each with its newline
abbrev pub lines_text : List Signal → List ℕ
lines_text lines = line_texts (map spelled lines)

-- the lines that a seed gives for a deployment
abbrev pub generated_text : ℕ → ℕ → Deployed → List ℕ
generated_text seed count d = lines_text (generated seed count d)
