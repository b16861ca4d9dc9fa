-- one tally after the other
use Rattle.std.proofs.Common.{◌≡◌, ◌==◌, sym, ap, ◌∙◌}
use Rattle.std.specs.Prelude.{◌&&◌, List, option_copied}
use Rattle.std.specs.List.{filter, find}
use Rattle.router_state.specs.declared.rows.ProfileRow.{ProfileRow}
use Rattle.rows_index.specs.declared.tally.Tally.{Tally}
use Rattle.rows_index.specs.Numbers.{number_of}
use Rattle.profile_tables.specs.Keeping.{in_byte_order}
use Rattle.profile_tables.specs.Unique.{earlier, is_rival_in, value_key}
use Rattle.profile_tables.proofs.FilingLemmas.{row_order}
use Rattle.profile_tables.proofs.LeastLemmas.{earlier_joins, earlier_none, is_among, next_rival, no_tally, under_all}
use Rattle.profile_tables.proofs.rivals.rival_in.Goals as goal

pub loop-tally-init : goal.loop-tally-init
loop-tally-init c =
    let asked : ProfileRow = record { table = c.args.table; row = c.args.row.now; attributes = c.args.fields.now } in
    let name = c.args.name.now in
    let rows = in_byte_order c.args.rows.now.rows in
    let under = filter (λ (t : Tally). t.entry.key == value_key c.args.table c.args.fields.now name) c.args.tallies.now.rows in
    let run : c.rows_of-tally-items.result ≡ under = rw c.value_key.ensures at c.rows_of-tally-items.ensures in
    let is : c.into_iter-tally-iterator.result ≡ under = c.into_iter-tally-iterator.ensures.into_iter_gives ∙ run in
    ap (λ (ts : List Tally). find (λ (row : ProfileRow). is_rival_in asked name row && is_among asked name ts row) rows) is

pub loop-tally-preserved : goal.loop-tally-preserved
loop-tally-preserved c =
    let asked : ProfileRow = record { table = c.args.table; row = c.args.row.now; attributes = c.args.fields.now } in
    let name = c.args.name.now in
    let rows = in_byte_order c.args.rows.now.rows in
    let t = c.in-Some.tally.now in
    let left = c.next.new.self in
    let rest = find (λ (row : ProfileRow). is_rival_in asked name row && is_among asked name left row) rows in
    let one = find (λ (row : ProfileRow). is_rival_in asked name row && (number_of row.row == t.entry.number)) rows in
    let least = option_copied c.loop-tally.least in
    ap (λ o. earlier o rest) (c.earlier-least.ensures ∙ ap (earlier least) c.rival_numbered-rival.ensures)
    ∙ earlier_joins least one rest
    ∙ ap (earlier least) (sym (next_rival asked name t left rows (row_order c.args.rows.now.rows c.requires.filed)))
    ∙ (λ i. earlier least (find (λ (row : ProfileRow). is_rival_in asked name row && is_among asked name (sym c.in-Some.ensures.steps i) row) rows))
    ∙ c.loop-tally.invariant

pub returns : goal.returns
returns c =
    let asked : ProfileRow = record { table = c.args.table; row = c.args.row.now; attributes = c.args.fields.now } in
    let name = c.args.name.now in
    let rows = in_byte_order c.args.rows.now.rows in
    let under = filter (λ (t : Tally). t.entry.key == value_key c.args.table c.args.fields.now name) c.args.tallies.now.rows in
    let least = option_copied c.loop-tally.least in
    sym (earlier_none least)
    ∙ ap (earlier least) (sym (no_tally asked name rows))
    ∙ (λ i. earlier least (find (λ (row : ProfileRow). is_rival_in asked name row && is_among asked name (sym c.in-None.ensures.steps.0 i) row) rows))
    ∙ c.loop-tally.invariant
    ∙ under_all asked name under rows c.requires.under
