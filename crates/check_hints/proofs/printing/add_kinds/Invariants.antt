use Rattle.std.proofs.Common.{◌≡◌, ◌++◌, true, map, drop}
use Rattle.check_hints.specs.Texts.{kind_text, items_text}
use Rattle.check_hints.proofs.printing.add_kinds.Given as goal

-- the text so far, and what the rest adds to it
abbrev pub invariant-loop-kind : goal.invariant-loop-kind
invariant-loop-kind l = l.text.items ++ items_text l.is_first (map kind_text (drop l.kind-index l.kinds)) ≡ l.initial.text.items ++ items_text true (map kind_text l.kinds)
