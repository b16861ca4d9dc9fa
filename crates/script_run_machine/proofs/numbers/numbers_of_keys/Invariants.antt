use Rattle.std.proofs.Common.{◌≡◌, take, map}
use Rattle.script_run_machine.specs.Numbering.{key_number}
use Rattle.script_run_machine.proofs.numbers.numbers_of_keys.Given as goal

-- those so far are there
abbrev pub invariant-loop-key : goal.invariant-loop-key
invariant-loop-key l = l.numbers.items ≡ map (key_number l.names) (take l.key-index l.keys)
