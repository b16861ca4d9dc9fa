use Rattle.std.proofs.Common.{◌≡◌, ◌++◌, drop}
use Rattle.deploy_schema.specs.Pointers.{escaped}
use Rattle.deploy_schema.proofs.fault.push_escaped.Given as goal

abbrev pub invariant-loop-byte : goal.invariant-loop-byte
invariant-loop-byte l = l.step.items ++ escaped (drop l.byte-index l.name) ≡ l.initial.step.items ++ escaped l.name
