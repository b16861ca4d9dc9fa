use Rattle.std.proofs.Common.{◌≡◌, ◌≤◌}
use Rattle.script_meaning.specs.Running.{Gave}
use Rattle.script_run_machine.specs.Lending.{standing}
use Rattle.script_run_machine.specs.Machines.{state_of}
use Rattle.script_run_terms.specs.Links.{spend}
use Rattle.script_run_terms.proofs.chains.spend.Given as goal

-- the units so far are spent
abbrev pub invariant-units : goal.invariant-units
invariant-units l = (spend l._unit (state_of l.initial.machine) ≡ Gave tt (state_of l.machine)) × (l.machine.left ≤ l.initial.machine.left) × (standing l.machine ≡ standing l.initial.machine) × (l.machine.names ≡ l.initial.machine.names)
