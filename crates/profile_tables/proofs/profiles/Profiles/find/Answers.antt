-- the row of the key is the one in byte order
use Rattle.std.proofs.Common.{ap, ◌∙◌}
use Rattle.std.specs.Prelude.{option_map}
use Rattle.profile_tables.specs.declared.numbered.NumberedRow.{NumberedRow}
use Rattle.profile_tables.proofs.FilingLemmas.{found_in_order}
use Rattle.profile_tables.proofs.profiles.Profiles.find.Goals as goal

pub returns-in-Some : goal.returns-in-Some
returns-in-Some c =
    let is = rw (c.number_of.ensures.number, c.as_bytes-name.ensures.bytes) at c.in-Some.ensures in
    rw (← c.self.view_is) (ap (option_map (λ (row : NumberedRow). row.item)) is ∙ found_in_order c.args.table c.args.row.now c.self.inside.rows.rows c.self.invariant.filed)

pub returns-in-None : goal.returns-in-None
returns-in-None c =
    let is = rw (c.number_of.ensures.number, c.as_bytes-name.ensures.bytes) at c.in-None.ensures in
    rw (← c.self.view_is) (ap (option_map (λ (row : NumberedRow). row.item)) is ∙ found_in_order c.args.table c.args.row.now c.self.inside.rows.rows c.self.invariant.filed)
