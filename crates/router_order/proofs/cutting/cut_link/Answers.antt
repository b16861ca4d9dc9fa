-- the attachment of the rank that was found goes
use Rattle.std.proofs.Common.{sym}
use Rattle.router_order.proofs.DetachLemmas.{cut_found, found_linked, none_cut, none_linked}
use Rattle.router_order.proofs.cutting.cut_link.Goals as goal

pub returns-in-Some-clause-found : goal.returns-in-Some-clause-found
returns-in-Some-clause-found c =
    let found = rw c.rows_of.ensures at c.in-Some.ensures in
    sym (found_linked c.args.entity.0 c.args.activity.0 c.in-Some.rank c.args.rows.now.rows found).0

pub returns-in-Some-clause-rows : goal.returns-in-Some-clause-rows
returns-in-Some-clause-rows c = λ entities listing.
    let found = rw c.rows_of.ensures at c.in-Some.ensures in
    cut_found entities c.args.entity.0 c.args.activity.0 c.in-Some.rank c.args.rows.now.rows c.cut_row.new.self.rows c.rises.ensures listing found c.cut_row.ensures.rows

pub returns-in-Some-clause-gives : goal.returns-in-Some-clause-gives
returns-in-Some-clause-gives c = λ _.
    let found = rw c.rows_of.ensures at c.in-Some.ensures in
    c.cut_row.ensures.gives (found_linked c.args.entity.0 c.args.activity.0 c.in-Some.rank c.args.rows.now.rows found).1

pub returns-in-None-clause-found : goal.returns-in-None-clause-found
returns-in-None-clause-found c =
    let found = rw c.rows_of.ensures at c.in-None.ensures in
    sym (none_linked c.args.entity.0 c.args.activity.0 c.args.rows.now.rows found)

pub returns-in-None-clause-rows : goal.returns-in-None-clause-rows
returns-in-None-clause-rows c = λ entities listing.
    let found = rw c.rows_of.ensures at c.in-None.ensures in
    none_cut c.args.entity.0 c.args.activity.0 c.args.rows.now.rows found
