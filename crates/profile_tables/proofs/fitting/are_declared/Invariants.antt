-- the fields before this one are the declared ones
use Rattle.std.proofs.Common.{◌≡◌, drop}
use Rattle.router_state.specs.Fits.{are_declared}
use Rattle.profile_tables.proofs.fitting.are_declared.Given as goal

abbrev pub invariant-loop-place : goal.invariant-loop-place
invariant-loop-place l = are_declared (drop l.place l.declared) (drop l.place l.fields) ≡ are_declared l.declared l.fields
