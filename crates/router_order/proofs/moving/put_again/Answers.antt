-- an attachment that is there stays, and another one is put in
use Rattle.router_order.specs.Placed.{attachments}
use Rattle.router_order.proofs.DetachLemmas.{found_linked, none_linked}
use Rattle.router_order.proofs.RankLemmas.{listed_already}
use Rattle.router_order.proofs.moving.put_again.Goals as goal

pub returns-in-Some-clause-rows : goal.returns-in-Some-clause-rows
returns-in-Some-clause-rows c =
    let found = rw c.rows_of.ensures at c.in-Some.ensures in
    listed_already c.args.tree.now.rows c.args.link (attachments c.args.rows.now.rows) c.ordered.ensures.parents c.requires.there c.requires.listing (found_linked c.args.link.entity.0 c.args.link.activity.0 _ c.args.rows.now.rows found).0

pub insert_link-requires-clause-absent : goal.insert_link-requires-clause-absent
insert_link-requires-clause-absent c =
    let found = rw c.rows_of.ensures at c.in-None.ensures in
    none_linked c.args.link.entity.0 c.args.link.activity.0 c.args.rows.now.rows found
