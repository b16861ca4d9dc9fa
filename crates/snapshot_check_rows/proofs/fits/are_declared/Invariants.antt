-- what is left turns out as all does
use Rattle.std.proofs.Common.{◌≡◌, drop, map}
use Rattle.router_state.specs.Fits.{are_declared}
use Rattle.snapshot_check_rows.proofs.fits.are_declared.Given as goal

abbrev pub invariant-fields : goal.invariant-fields
invariant-fields g l = record {
  same : are_declared l.left (map g.T.NamedValue.pair (drop l.field-index l.fields)) ≡ are_declared l.declared (map g.T.NamedValue.pair l.fields);
}
