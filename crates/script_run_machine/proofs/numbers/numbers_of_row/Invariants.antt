use Rattle.std.proofs.Common.{◌≡◌, take, map}
use Rattle.script_types.specs.Codes.{number_in}
use Rattle.script_run_machine.proofs.numbers.numbers_of_row.Given as goal

-- those so far are there
abbrev pub invariant-loop-name : goal.invariant-loop-name
invariant-loop-name l = l.numbers ≡ map (number_in l.names) (map (λ f. f.0) (take l.name-index l.fields))
