-- the rows of one number and table are kept in byte order
use Rattle.std.proofs.Common.{ap, ◌∙◌}
use Rattle.std.specs.List.{find}
use Rattle.router_state.specs.declared.rows.ProfileRow.{ProfileRow}
use Rattle.profile_tables.specs.Keeping.{as_kept}
use Rattle.profile_tables.specs.Unique.{is_rival_in}
use Rattle.profile_tables.proofs.LeastLemmas.{numbered_rival}
use Rattle.profile_tables.proofs.rivals.rival_numbered.Goals as goal

pub returns : goal.returns
returns c =
    let asked : ProfileRow = record { table = c.args.table; row = c.args.row.now; attributes = c.args.fields.now } in
    c.first_rival.ensures ∙ ap (λ rows. find (is_rival_in asked c.args.name.now) (as_kept rows)) c.rows_of_pair-among.ensures ∙ numbered_rival asked c.args.name.now c.args.number c.args.rows.now.rows c.rises.ensures c.requires
