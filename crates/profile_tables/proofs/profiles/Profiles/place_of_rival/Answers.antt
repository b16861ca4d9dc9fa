-- the rows that have a value are found under it, and the place of one is told
use Rattle.std.proofs.Common.{[], ap, subst}
use Rattle.std.specs.Prelude.{Option}
use Rattle.std.specs.List.{AllByRecursion}
use Rattle.std.specs.Option.{option_map_or}
use Rattle.router_state.specs.declared.rows.ProfileRow.{ProfileRow}
use Rattle.profile_tables.specs.Keeping.{in_byte_order}
use Rattle.profile_tables.specs.Unique.{AreUnder}
use Rattle.profile_tables.specs.declared.table_spec.TableSpec.{TableSpec}
use Rattle.profile_tables.proofs.RivalLemmas.{all_under}
use Rattle.profile_tables.proofs.profiles.Profiles.place_of_rival.Goals as goal

pub least_rival-rival-requires-clause-under : goal.least_rival-rival-requires-clause-under
least_rival-rival-requires-clause-under c =
    let inside = c.self.inside in
    let asked : ProfileRow = record { table = c.args.table; row = c.args.row.now; attributes = c.args.fields.now } in
    let spec = rw (← c.self.view_is) at c.requires in
    let unique = ap (λ (o : Option TableSpec). option_map_or (λ (spec : TableSpec). spec.unique) o []) spec in
    let all = all_under inside.tables.items asked inside.rows.rows inside.by_value.rows c.self.invariant.filed c.self.invariant.counted in
    rw (c.as_slice.ensures, c.as_slice-2.ensures.fields) (subst (AllByRecursion (AreUnder (in_byte_order inside.rows.rows) inside.by_value.rows asked)) unique all)
