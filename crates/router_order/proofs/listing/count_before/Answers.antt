-- the rows that are listed before the attachment stand at the front
use Rattle.std.proofs.Common.{rules, ◌≡◌, true}
use Rattle.std.proofs.lemmas.List.Sorted.{IsPartitionPoint-from_clause}
use Rattle.router_state.specs.declared.rows.Link.{Link}
use Rattle.rows_sorted.proofs.HalvingLemmas.{parted, point_is_prefix}
use Rattle.router_order.specs.Listed.{listed_before}
use Rattle.router_order.proofs.ListingLemmas.{listing_order, steps}
use Rattle.router_order.proofs.listing.count_before.Goals as goal

pub returns-clause-count : goal.returns-clause-count
returns-clause-count c =
    let es = c.args.tree.now.rows in
    let test = λ (row : Link). listed_before es row c.args.link.now in
    let parts = parted (λ (x y : Link). listed_before es x y ≡ true) test (λ x y rises low. steps es x y c.args.link.now rises low) _ (listing_order es _ c.requires) in
    let point = IsPartitionPoint-from_clause test _ _ c.partition_point.ensures.partitioned parts (λ a r q k. search rules) in
    point_is_prefix test _ _ c.partition_point.ensures.bound point
