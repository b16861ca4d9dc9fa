use Rattle.std.proofs.Common.{drop}
use Rattle.std.specs.List.{AllByRecursion}
use Rattle.slee_effect.specs.Resolving.{CanResolveField}
use Rattle.router_subjects.proofs.numbering.Numbers.pass_fields.Given as goal

-- where the fields that are left pass, all do
abbrev pub invariant-fields : goal.invariant-fields
invariant-fields l =
    let passes = CanResolveField (record { entity = l.self.entity; activity = l.self.activity; timer = l.self.timer }) in
    AllByRecursion passes (drop l.value-index l.fields) → AllByRecursion passes l.fields
