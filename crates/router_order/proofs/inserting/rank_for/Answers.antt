-- the rank lies between those of the neighbours
use Rattle.std.proofs.Common.{◌≡◌, ◌<◌, ◌∙◌, List, true, false, subst}
use Rattle.std.specs.List.{AllByRecursion}
use Rattle.router_state.specs.declared.rows.Link.{Link}
use Rattle.router_order.specs.declared.placed.Placed.{Placed}
use Rattle.router_order.specs.Listed.{IsListing}
use Rattle.router_order.specs.Placed.{attachments}
use Rattle.router_order.proofs.RankLemmas.{above_front, below_back, earlier_down, is_earlier, run_ranks, some_follows}
use Rattle.router_order.proofs.MoveLemmas.{run_listed}
use Rattle.router_order.proofs.RunLemmas.{run, run_is}
use Rattle.router_order.proofs.inserting.rank_for.Goals as goal

pub returns-clause-above : goal.returns-clause-above
returns-clause-above c =
    let es = c.args.tree.now.rows in
    let rows = c.args.rows.now.rows in
    let a = c.args.link.now.activity.0 in
    let test = is_earlier es c.args.link.now in
    let listing = subst (λ (links : List Link). IsListing es links) (run_is rows a) (run_listed es (attachments rows) a c.requires) in
    some_follows _ (λ rank. AllByRecursion (λ (row : Placed). test row ≡ true → row.rank < rank) (run rows a)) _
    (λ rank above. above_front test rank (run rows a) (run_ranks a rows c.rises.ensures) (earlier_down es c.args.link.now (run rows a) listing) (λ y some at. above y (c.neighbours-beside.ensures.before y some at)))
    c.rank_between.ensures.above

pub returns-clause-below : goal.returns-clause-below
returns-clause-below c =
    let es = c.args.tree.now.rows in
    let rows = c.args.rows.now.rows in
    let a = c.args.link.now.activity.0 in
    let test = is_earlier es c.args.link.now in
    some_follows _ (λ rank. AllByRecursion (λ (row : Placed). test row ≡ false → rank < row.rank) (run rows a)) _
    (λ rank below. below_back test rank (run rows a) (run_ranks a rows c.rises.ensures) (λ y at. below y (c.neighbours-beside.ensures.behind ∙ at)))
    c.rank_between.ensures.below
