-- the least so far and the least under the tallies that are left lead to the least under all of them
use Rattle.std.proofs.Common.{◌≡◌, ◌==◌}
use Rattle.std.specs.Prelude.{◌&&◌, option_copied}
use Rattle.std.specs.List.{filter, find}
use Rattle.router_state.specs.declared.rows.ProfileRow.{ProfileRow}
use Rattle.rows_index.specs.declared.tally.Tally.{Tally}
use Rattle.profile_tables.specs.Keeping.{in_byte_order}
use Rattle.profile_tables.specs.Unique.{earlier, is_rival_in, value_key}
use Rattle.profile_tables.proofs.LeastLemmas.{is_among}
use Rattle.profile_tables.proofs.rivals.rival_in.Given as goal

abbrev pub invariant-loop-tally : goal.invariant-loop-tally
invariant-loop-tally l =
    let asked : ProfileRow = record { table = l.table; row = l.row; attributes = l.fields } in
    let under = filter (λ (t : Tally). t.entry.key == value_key l.table l.fields l.name) l.tallies.rows in
    let rows = in_byte_order l.rows.rows in
    earlier (option_copied l.least) (find (λ (row : ProfileRow). is_rival_in asked l.name row && is_among asked l.name l.tally-iterator row) rows) ≡ find (λ (row : ProfileRow). is_rival_in asked l.name row && is_among asked l.name under row) rows
