use Rattle.std.proofs.Common.{◌≡◌, take, map}
use Rattle.script_run_machine.specs.Numbering.{effect_number}
use Rattle.script_run_machine.proofs.numbers.numbers_of_effects.Given as goal

-- those so far are there
abbrev pub invariant-loop-effect : goal.invariant-loop-effect
invariant-loop-effect l = l.numbers.items ≡ map (effect_number l.names) (take l.effect-index l.effects)
