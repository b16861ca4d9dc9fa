-- Variables that are kept in memory, as values.
use Rattle.script_check_terms.specs.declared.scope.Holding.{Holding as HoldingInMemory}
use Rattle.script_check_terms.specs.declared.scope.Holding.TheVariants as h
use Rattle.script_check_terms.specs.declared.scope.Found.{Found as FoundInMemory}
use Rattle.script_check_terms.specs.declared.scope.ValueAt.{ValueAt as ValueAtInMemory}
use Rattle.script_check_terms.specs.declared.scope.ChildAt.{ChildAt as ChildAtInMemory}
use Rattle.script_types.specs.Scopes.{Holding, Value, Child}
use Rattle.script_types.specs.Elaboration.{Found, ValueAt, ChildAt}

abbrev pub holding_of : HoldingInMemory → Holding
holding_of (h.Value kind) = Value kind
holding_of (h.Child block) = Child block

abbrev pub found_of : FoundInMemory → Found
found_of x = record { place = x.place; holds = holding_of x.holds }

abbrev pub value_at_of : ValueAtInMemory → ValueAt
value_at_of x = record { place = x.place; kind = x.kind }

abbrev pub child_at_of : ChildAtInMemory → ChildAt
child_at_of x = record { place = x.place; block = x.block }
