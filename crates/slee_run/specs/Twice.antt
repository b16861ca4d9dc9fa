-- What two runs over one disk leave.
use Rattle.std.specs.Prelude.{◌≡◌, ◌≢◌, ℕ, List, ◌++◌, IsTrue}
use Rattle.slee_disk.specs.Disk.{DiskState, is_clean}
use Rattle.trace_history.specs.Histories.{choices_of}
use Rattle.trace_history.specs.declared.entry.Entry.{Entry}
use Rattle.slee_descriptor.specs.declared.deployment.Deployment.{Deployment}
use Rattle.router_durable.specs.Choices.{written_format}
use Rattle.router_durable.specs.Recovery.{records}
use Rattle.router_steps.specs.Histories.{Legal, replay}
use Rattle.router_steps.specs.Payloads.{payloads}
use Rattle.slee_container.specs.declared.container.Mode.{Mode}
use Rattle.slee_run.specs.Given.{start_of}
use Rattle.slee_run.specs.Text.{output_text}
use Rattle.slee_run.specs.Headline.{ComesOn}
use Rattle.slee_run.specs.declared.finishing.Report.TheVariants as reports
use Rattle.slee_run.specs.declared.status.Status.{Status}
use Rattle.slee_run.specs.declared.status.Status.TheVariants as statuses

-- neither the writing nor the disk failed, and memory was found
abbrev pub IsUnbroken : Status → Type 0
IsUnbroken status = (status ≢ statuses.WriteFault) × (status ≢ statuses.DiskFault) × (status ≢ statuses.NoMemory)

-- Two runs of one worker for a deployment, of so many entries each, on a new disk are one legal history from its first state, whose
-- text was written in two parts, and whose records the disk has, with nothing pending. The lines of each come to its status where it
-- began.
pub record IsOneHistory (mode : Mode) (steps : ℕ) (deploy lines more before after : List ℕ) (d : Deployment) (disk : DiskState) (first second : Status) : Type 0 where
  pub one : List Entry
  pub other : List Entry
  pub legal : Legal (start_of d) (one ++ other)
  pub comes : ComesOn (start_of d) mode steps deploy lines one first
  pub comes_on : ComesOn (replay (start_of d) one) mode steps deploy more other second
  pub text : after ≡ before ++ (output_text reports.Trace one first ++ output_text reports.Trace other second)
  pub records : records deploy disk.seen ≡ payloads written_format (start_of d) (choices_of (one ++ other))
  pub rest : IsTrue (is_clean disk)
