-- the rank puts the attachment in its place
use Rattle.std.proofs.Common.{◌≡◌, ◌∙◌, List, false, ap, subst, sym}
use Rattle.router_state.specs.declared.rows.Link.{Link}
use Rattle.router_state.specs.Contexts.{is_linked}
use Rattle.rows_sorted.specs.Orders.{put}
use Rattle.router_order.specs.Listed.{IsListing, listed_before}
use Rattle.router_order.proofs.RankLemmas.{put_ranked}
use Rattle.router_order.proofs.inserting.insert_link.Goals as goal

pub returns-in-Some-clause-rows : goal.returns-in-Some-clause-rows
returns-in-Some-clause-rows c =
    let es = c.args.tree.now.rows in
    let same = c.make_rank.ensures.rows in
    let listing = subst (λ (links : List Link). IsListing es links) (sym same) c.requires.listing in
    let absent = subst (λ (links : List Link). is_linked links c.args.link.entity.0 c.args.link.activity.0 ≡ false) (sym same) c.requires.absent in
    put_ranked es c.args.link c.ordered.ensures.parents c.requires.there c.in-Some.rank c.make_rank.new.rows.rows c.put_row.new.self.rows c.put_row.ensures.rows
    c.put_row.ensures.rises listing absent c.in-Some.ensures.above c.in-Some.ensures.below
    ∙ ap (put (listed_before es) c.args.link) same

pub insert_anew-requires-clause-listing : goal.insert_anew-requires-clause-listing
insert_anew-requires-clause-listing c = subst (λ (links : List Link). IsListing c.args.tree.now.rows links) (sym c.make_rank.ensures.rows) c.requires.listing

pub returns-in-None-clause-rows : goal.returns-in-None-clause-rows
returns-in-None-clause-rows c = c.insert_anew.ensures.rows ∙ ap (put (listed_before c.args.tree.now.rows) c.args.link) c.make_rank.ensures.rows
