use Rattle.std.proofs.Common.{drop}
use Rattle.std.specs.List.{AllByRecursion}
use Rattle.slee_effect.specs.Fitting.{FitsEffect}
use Rattle.router_payloads.proofs.fitting.check_effects.Given as goal

-- where the effects that are left fit, all do
abbrev pub invariant-effects : goal.invariant-effects
invariant-effects l = AllByRecursion FitsEffect (drop l.effect-index l.effects) → AllByRecursion FitsEffect l.effects
