use Rattle.std.proofs.Common.{◌≡◌, filter, map, take}
use Rattle.script_hints.specs.Following.{choice_of, is_alone}
use Rattle.script_hints.proofs.expected.choices_alone.Given as goal

-- those of the tokens so far
abbrev pub invariant-loop-candidate : goal.invariant-loop-candidate
invariant-loop-candidate l = l.list.items ≡ map choice_of (filter (is_alone l.groups) (take l.candidate-index l.all))
