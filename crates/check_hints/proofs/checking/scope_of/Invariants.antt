use Rattle.std.proofs.Common.{◌≡◌, take}
use Rattle.script_types.specs.Scopes.{parameters_in_scope}
use Rattle.check_hints.proofs.checking.scope_of.Given as goal

-- the variables that the parameters so far are
abbrev pub invariant-fields : goal.invariant-fields
invariant-fields l = l.scope ≡ parameters_in_scope (take l.field-index l.parameters)
