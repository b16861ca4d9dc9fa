use Rattle.std.proofs.Common.{◌≡◌, take, map}
use Rattle.script_run_machine.specs.Numbering.{answer_numbers}
use Rattle.script_run_machine.proofs.numbers.numbers_of_answers.Given as goal

-- those so far are there
abbrev pub invariant-loop-key : goal.invariant-loop-key
invariant-loop-key l = l.numbers.items ≡ map (answer_numbers l.names) (take l.key-index l.known)
