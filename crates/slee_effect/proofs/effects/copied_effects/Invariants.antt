use Rattle.std.proofs.Common.{◌≡◌, take}
use Rattle.slee_effect.proofs.effects.copied_effects.Given as goal

-- the effects so far are copied
abbrev pub invariant-loop-effect : goal.invariant-loop-effect
invariant-loop-effect l = l.copied.items ≡ take l.effect-index l.effects
