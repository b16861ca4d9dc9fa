-- the root goes from under the name that it has
use Rattle.std.proofs.Common.{sym}
use Rattle.router_roots.proofs.NameLemmas.{name_removed, none_unnamed}
use Rattle.router_roots.proofs.listing.unlist_name.Goals as goal

pub returns-in-Some-clause-listed : goal.returns-in-Some-clause-listed
returns-in-Some-clause-listed c =
    rw (c.cut_row.ensures.rows, c.name_number.ensures) (name_removed c.args.stores.now.state.root_names c.args.entity.0 c.in-Some.name.now c.args.entries.now.rows c.ordered.ensures.root_names c.requires (sym c.in-Some.ensures))

pub returns-in-None-clause-listed : goal.returns-in-None-clause-listed
returns-in-None-clause-listed c = rw (none_unnamed c.args.stores.now.state.root_names c.args.entity.0 (sym c.in-None.ensures)) c.requires
