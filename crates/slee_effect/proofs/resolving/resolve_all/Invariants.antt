use Rattle.std.proofs.Common.{◌≡◌, ◌++◌, map, take, drop}
use Rattle.slee_effect.specs.Resolving.{resolved_effect}
use Rattle.slee_effect.proofs.resolving.resolve_all.Given as goal

-- those so far have their numbers, and the others are as they were
abbrev pub invariant-loop-effect : goal.invariant-loop-effect
invariant-loop-effect l = l.effects ≡ map (resolved_effect l.next) (take l.effect-index l.fn.effects) ++ drop l.effect-index l.fn.effects
