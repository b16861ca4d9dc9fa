use Rattle.std.proofs.Common.{◌≡◌, ◌++◌, drop}
use Rattle.std.specs.Prelude.{flat_map}
use Rattle.slee_descriptor.specs.CodesOfParts.{table_names}
use Rattle.slee_descriptor.proofs.naming.add_tables.Given as goal

abbrev pub invariant-loop-table : goal.invariant-loop-table
invariant-loop-table l = l.names.items ++ flat_map table_names (drop l.table-index l.tables) ≡ l.initial.names.items ++ flat_map table_names l.tables
