-- none of the fields before this one has the name
use Rattle.std.proofs.Common.{◌≡◌, drop}
use Rattle.router_state.specs.Profiles.{value_of}
use Rattle.snapshot_check.proofs.differing.value_of.Given as goal

abbrev pub invariant-loop-other : goal.invariant-loop-other
invariant-loop-other l = value_of (drop l.other-index l.fields) l.name ≡ value_of l.fields l.name
