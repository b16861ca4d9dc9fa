use Rattle.std.proofs.Common.{◌≡◌, map, take}
use Rattle.script_hints.specs.Following.{candidate_behind}
use Rattle.script_hints.proofs.expected.candidates_behind.Given as goal

-- those of the kinds so far; the tokens stay as they were
abbrev pub invariant-loop-choice : goal.invariant-loop-choice
invariant-loop-choice l = (l.list.items ≡ map (candidate_behind l.initial.front.items) (take l.choice-index l.all)) × (l.front.items ≡ l.initial.front.items)
