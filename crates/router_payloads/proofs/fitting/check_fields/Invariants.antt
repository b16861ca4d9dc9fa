use Rattle.std.proofs.Common.{drop}
use Rattle.std.specs.List.{AllByRecursion}
use Rattle.slee_effect.specs.Fitting.{FitsField}
use Rattle.router_payloads.proofs.fitting.check_fields.Given as goal

-- where the fields that are left fit, all do
abbrev pub invariant-fields : goal.invariant-fields
invariant-fields l = AllByRecursion FitsField (drop l.name-index l.fields) → AllByRecursion FitsField l.fields
