-- What replaying gives, and why it stops.
use Rattle.std.specs.Prelude.{◌≡◌, ℕ, List, map, Option, Some, None}
use Rattle.commit_journal.specs.declared.fault.JournalBad.{JournalBad}
use Rattle.commit_journal.specs.declared.record.Record.{Record}
use Rattle.commit_journal.specs.Spelling.{Head, format_number}
use Rattle.commit_journal.specs.Views.{payload_of}
use Rattle.deploy_model.specs.Deployed.{Deployed}
use Rattle.router_state.specs.Restoring.{state_of_snapshot}
use Rattle.router_state.specs.State.{State}
use Rattle.script_types.specs.Program.{Program}
use Rattle.router_durable.specs.declared.replaying.PayloadFault.{PayloadFault}
use Rattle.router_durable.specs.declared.replaying.PayloadFault.TheVariants as payload_faults
use Rattle.router_durable.specs.declared.replaying.ReplayFault.{ReplayFault}
use Rattle.router_durable.specs.declared.replaying.ReplayFault.TheVariants as replay_faults
use Rattle.slee_disk.specs.declared.side.Side.{Side}
use Rattle.router_durable.specs.declared.fault.OpenFault.{OpenFault}
use Rattle.router_durable.specs.declared.fault.OpenFault.TheVariants as faults
use Rattle.router_durable.specs.Choices.{after_all}
use Rattle.router_durable.specs.Recovery.{Misfit, choices_in, misfit}

-- a payload is refused for what is wrong with it, or for want of memory
abbrev pub IsWrong : PayloadFault → Option JournalBad → Type 0
IsWrong (payload_faults.Wrong kind) wrong = wrong ≡ Some kind
IsWrong payload_faults.NoMemory wrong = Unit {0}

-- replaying ends at the first record that doesn't fit, or for want of memory
abbrev pub IsMisfit : ReplayFault → Option Misfit → Type 0
IsMisfit (replay_faults.Misfit at kind) first = first ≡ Some (record { at = at; kind = kind })
IsMisfit replay_faults.NoMemory first = Unit {0}

-- why records aren't replayed, where the one whose gate stands there isn't
abbrev pub misfit_at : ℕ → PayloadFault → ReplayFault
misfit_at at (payload_faults.Wrong kind) = replay_faults.Misfit at kind
misfit_at at payload_faults.NoMemory = replay_faults.NoMemory

-- why a journal isn't opened, where the records of this side aren't replayed
abbrev pub refusal_of : Side → ReplayFault → OpenFault
refusal_of side (replay_faults.Misfit at kind) = faults.BadJournal side at kind
refusal_of side replay_faults.NoMemory = faults.NoMemory

-- A side with this head and these records was replayed: its snapshot stands for the start, and behind the records is this state.
pub record Replays (d : Deployed) (p : Program) (head : Head) (rs : List Record) (start s : State) : Type 0 where
  pub started : state_of_snapshot (format_number head.format) d p head.snapshot ≡ Some start
  pub fits : misfit (format_number head.format) start rs ≡ None
  pub state : s ≡ after_all start (choices_in (format_number head.format) (map payload_of rs))
