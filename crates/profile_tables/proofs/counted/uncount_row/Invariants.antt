-- the values that are left are still counted
use Rattle.std.proofs.Common.{◌≡◌, ◌+◌, ◌≤◌, drop, length, map}
use Rattle.rows_sorted.specs.Keys.{Rises}
use Rattle.rows_index.specs.Tallies.{tally_key, all_less, AreCounted}
use Rattle.profile_tables.specs.Unique.{value_entry}
use Rattle.profile_tables.proofs.counted.uncount_row.Given as goal

abbrev pub invariant-loop-name : goal.invariant-loop-name
invariant-loop-name l = record {
  rows : all_less (map (value_entry l.table l.fields l.number) (drop l.name-index l.unique)) l.tallies.rows ≡ all_less (map (value_entry l.table l.fields l.number) l.unique) l.fn.tallies.rows;
  rises : Rises tally_key l.tallies.rows;
  counted : AreCounted (map (value_entry l.table l.fields l.number) (drop l.name-index l.unique)) l.tallies.rows;
  capacity : l.fn.tallies.room + length l.fn.tallies.rows ≤ l.tallies.room + length l.tallies.rows;
}
