-- the attributes that are left turn out as all do
use Rattle.std.proofs.Common.{◌≡◌, drop}
use Rattle.snapshot_check.specs.Tables.{differ_in_names}
use Rattle.snapshot_check.proofs.differing.differ_in_all.Given as goal

abbrev pub invariant-names : goal.invariant-names
invariant-names l = differ_in_names l.rows (drop l.name-index l.names) ≡ differ_in_names l.rows l.names
