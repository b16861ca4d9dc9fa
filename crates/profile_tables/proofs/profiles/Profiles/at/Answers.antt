-- as many are kept, each with its item
use Rattle.std.proofs.Common.{ap, ◌∙◌, arith}
use Rattle.std.specs.Prelude.{option_map}
use Rattle.std.proofs.lemmas.Option.{slice_get-map}
use Rattle.profile_tables.specs.declared.numbered.NumberedRow.{NumberedRow}
use Rattle.profile_tables.proofs.FilingLemmas.{as_many, same_rows}
use Rattle.profile_tables.proofs.profiles.Profiles.at.Goals as goal

pub at-requires : goal.at-requires
at-requires c =
    let within = rw (← c.self.view_is) at c.requires in
    let many = as_many c.self.inside.rows.rows in
    omega (arith, within, many)

pub returns-clause-row : goal.returns-clause-row
returns-clause-row c =
    rw (← c.self.view_is)
    (slice_get-map (λ (row : NumberedRow). row.item) c.self.inside.rows.rows c.args.place ∙ ap (option_map (λ (row : NumberedRow). row.item)) c.at.ensures)

pub returns-clause-order : goal.returns-clause-order
returns-clause-order c = rw (← c.self.view_is) c.self.invariant.filed.once

pub returns-clause-kept : goal.returns-clause-kept
returns-clause-kept c = rw (← c.self.view_is) (same_rows c.self.inside.rows.rows)
