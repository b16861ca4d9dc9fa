-- the tables that are left may have more
use Rattle.std.proofs.Common.{◌≡◌, drop}
use Rattle.std.specs.Prelude.{max}
use Rattle.profile_tables.specs.Unique.{most_of}
use Rattle.profile_tables.proofs.table_spec.most_of.Given as goal

abbrev pub invariant-loop-spec : goal.invariant-loop-spec
invariant-loop-spec l = max l.most (most_of (drop l.spec-index l.tables)) ≡ most_of l.tables
