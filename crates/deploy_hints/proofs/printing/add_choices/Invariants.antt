use Rattle.std.proofs.Common.{◌≡◌, ◌++◌, map, drop}
use Rattle.deploy_hints.specs.Texts.{choice_text, items_text}
use Rattle.deploy_hints.proofs.printing.add_choices.Given as goal

-- the text so far, and what the rest adds to it
abbrev pub invariant-loop-choice : goal.invariant-loop-choice
invariant-loop-choice l = l.text.items ++ items_text l.is_first (map choice_text (drop l.choice-index l.choices)) ≡ l.initial.text.items ++ items_text l.initial.is_first (map choice_text l.choices)
