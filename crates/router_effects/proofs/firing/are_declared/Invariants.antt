use Rattle.std.proofs.Common.{◌≡◌, drop, map}
use Rattle.router_state.specs.Fits.{are_declared}
use Rattle.router_steps.specs.Effects.{plain_field}
use Rattle.router_effects.proofs.firing.are_declared.Given as goal

abbrev pub invariant-fields : goal.invariant-fields
invariant-fields l = record {
  same : are_declared l.left (map plain_field (drop l.field-index l.fields)) ≡ are_declared l.declared (map plain_field l.fields);
}
