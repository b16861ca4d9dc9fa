-- the values so far and those of the other fields are those of all, and the names rise
use Rattle.std.proofs.Common.{◌≡◌, ◌++◌, drop, map}
use Rattle.std.specs.Prelude.{option_map, IsTrue}
use Rattle.slee_value.specs.Order.{names_of, rises}
use Rattle.router_steps.specs.Values.{values_given}
use Rattle.router_inputs.proofs.values.values_given.Given as goal

abbrev pub invariant-fields : goal.invariant-fields
invariant-fields l = record {
  given : option_map (λ more. l.values ++ more) (values_given (drop l.field-index l.fields) l.words) ≡ values_given l.fields l.words;
  rising : IsTrue (rises (names_of l.values ++ map (λ f. f.name) (drop l.field-index l.fields)));
}
