use Rattle.std.proofs.Common.{◌≡◌, ◌++◌, drop, map}
use Rattle.std.specs.Prelude.{IsTrue}
use Rattle.std.specs.List.{list_all}
use Rattle.slee_value.specs.Name.{is_name}
use Rattle.slee_value.specs.Order.{names_of}
use Rattle.router_state.specs.Fits.{are_declared}
use Rattle.router_steps.specs.Effects.{plain_field}
use Rattle.router_effects.proofs.firing.values_of.Given as goal

abbrev pub invariant-fields : goal.invariant-fields
invariant-fields l = record {
  names : IsTrue (list_all is_name (names_of l.all.items));
  values : l.all.items ++ map plain_field (drop l.field-index l.fields) ≡ map plain_field l.fields;
  declared : IsTrue (are_declared l.left (map plain_field (drop l.field-index l.fields)));
}
