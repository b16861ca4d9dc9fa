-- the next entity stands last under its service
use Rattle.router_roots.proofs.ServiceLemmas.{root_created}
use Rattle.router_roots.proofs.listing.list_root.Goals as goal

pub returns-clause-listed : goal.returns-clause-listed
returns-clause-listed c = λ block priority.
    let s = c.args.stores.now.state in
    rw (c.put_row.ensures.rows, c.next_number-number.ensures, c.tree.ensures.next) (root_created s.entities s.next_entity c.args.service c.args.entries.now.rows c.ordered.ensures.entities_below c.requires.listed block priority)
