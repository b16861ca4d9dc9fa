-- the place is that among the attachments to the activity
use Rattle.std.proofs.Common.{List, arith, subst}
use Rattle.router_state.specs.declared.rows.Link.{Link}
use Rattle.router_order.specs.Listed.{IsListing}
use Rattle.router_order.specs.Placed.{attachments}
use Rattle.router_order.proofs.MoveLemmas.{run_listed}
use Rattle.router_order.proofs.RunLemmas.{run_is, run_length, run_short}
use Rattle.router_order.proofs.inserting.neighbours.Goals as goal

pub place_in-place-requires-clause-listing : goal.place_in-place-requires-clause-listing
place_in-place-requires-clause-listing c =
    let a = c.args.link.now.activity.0 in
    rw c.rows_of-run.ensures (subst (λ (links : List Link). IsListing c.args.tree.now.rows links) (run_is c.args.rows.now.rows a) (run_listed c.args.tree.now.rows (attachments c.args.rows.now.rows) a c.requires))

pub place_in-place-requires-clause-count : goal.place_in-place-requires-clause-count
place_in-place-requires-clause-count c =
    let same = run_length c.args.rows.now.rows c.args.link.now.activity.0 in
    let short = run_short c.args.rows.now.rows c.args.link.now.activity.0 in
    rw c.rows_of-run.ensures (omega (arith, same, short, c.len-count.ensures))

pub returns-clause-before : goal.returns-clause-before
returns-clause-before c =
    let place = rw c.rows_of-run.ensures at c.place_in-place.ensures in
    rw (c.rows_of-run.ensures, place) at c.row_before.ensures

pub returns-clause-behind : goal.returns-clause-behind
returns-clause-behind c =
    let place = rw c.rows_of-run.ensures at c.place_in-place.ensures in
    rw (c.rows_of-run.ensures, place) at c.row_in.ensures
