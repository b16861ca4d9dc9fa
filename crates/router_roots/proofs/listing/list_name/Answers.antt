-- the name comes where the root has none any more
use Rattle.router_roots.proofs.NameLemmas.{name_put}
use Rattle.router_roots.proofs.listing.list_name.Goals as goal

pub returns-clause-listed : goal.returns-clause-listed
returns-clause-listed c =
    rw (c.put_row.ensures.rows, c.name_number.ensures) (name_put c.args.stores.now.state.root_names c.args.entity.0 c.args.name.now c.unlist_name.new.entries.rows c.ordered.ensures.root_names c.unlist_name.ensures.listed)
