-- the least so far and the least of the values that are left lead to the least of all of them
use Rattle.std.proofs.Common.{◌≡◌, drop}
use Rattle.std.specs.Prelude.{option_copied}
use Rattle.std.specs.List.{AllByRecursion, find}
use Rattle.router_state.specs.declared.rows.ProfileRow.{ProfileRow}
use Rattle.profile_tables.specs.Faults.{is_rival}
use Rattle.profile_tables.specs.Keeping.{in_byte_order}
use Rattle.profile_tables.specs.Unique.{earlier, AreUnder}
use Rattle.profile_tables.proofs.rivals.least_rival.Given as goal

abbrev pub invariant-loop-name : goal.invariant-loop-name
invariant-loop-name l =
    let asked : ProfileRow = record { table = l.table; row = l.row; attributes = l.fields } in
    let rows = in_byte_order l.rows.rows in
    let left = drop l.name-index l.unique in
    record {
      least : earlier (option_copied l.least) (find (is_rival left asked) rows) ≡ find (is_rival l.unique asked) rows;
      under : AllByRecursion (AreUnder rows l.tallies.rows asked) left;
    }
