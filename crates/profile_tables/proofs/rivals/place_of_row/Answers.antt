-- the place of its key is its own
use Rattle.std.proofs.Common.{◌∙◌}
use Rattle.profile_tables.proofs.FilingLemmas.{place_in_order}
use Rattle.profile_tables.proofs.rivals.place_of_row.Goals as goal

pub returns-in-Some : goal.returns-in-Some
returns-in-Some c =
    let is = rw (c.number_of.ensures.number, c.as_bytes-name.ensures.bytes) at c.in-Some.ensures in
    is ∙ place_in_order c.args.item.now.table c.args.item.now.row c.args.rows.now.rows c.requires

pub returns-in-None : goal.returns-in-None
returns-in-None c =
    let is = rw (c.number_of.ensures.number, c.as_bytes-name.ensures.bytes) at c.in-None.ensures in
    is ∙ place_in_order c.args.item.now.table c.args.item.now.row c.args.rows.now.rows c.requires
