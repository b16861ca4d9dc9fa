use Rattle.std.proofs.Common.{drop}
use Rattle.std.specs.List.{AllByRecursion}
use Rattle.slee_effect.specs.Resolving.{CanResolve}
use Rattle.router_subjects.proofs.numbering.Numbers.pass.Given as goal

-- where the effects that are left pass, all do
abbrev pub invariant-effects : goal.invariant-effects
invariant-effects l =
    let passes = CanResolve (record { entity = l.self.entity; activity = l.self.activity; timer = l.self.timer }) in
    AllByRecursion passes (drop l.effect-index l.effects) → AllByRecursion passes l.effects
