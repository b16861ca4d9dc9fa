use Rattle.std.proofs.Common.{◌≡◌, ◌++◌, true, map, drop}
use Rattle.deploy_hints.specs.Texts.{group_text, items_text}
use Rattle.deploy_hints.proofs.printing.add_groups.Given as goal

-- the text so far, and what the rest adds to it
abbrev pub invariant-loop-group : goal.invariant-loop-group
invariant-loop-group l = l.text.items ++ items_text l.is_first (map group_text (drop l.group-index l.groups)) ≡ l.initial.text.items ++ items_text true (map group_text l.groups)
