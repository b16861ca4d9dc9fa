use Rattle.std.proofs.Common.{◌≡◌, take}
use Rattle.slee_value.proofs.names.copied_texts.Given as goal

-- the texts so far are copied
abbrev pub invariant-loop-text : goal.invariant-loop-text
invariant-loop-text l = l.copied.items ≡ take l.text-index l.texts
