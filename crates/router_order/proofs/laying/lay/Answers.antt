-- one attachment more is laid behind the others
use Rattle.std.proofs.Common.{◌≡◌, ◌==◌, false, refl, ◌∙◌, arith}
use Rattle.std.proofs.lemmas.Bool.Decides.{nat_tests}
use Rattle.router_state.specs.declared.rows.Link.{Link}
use Rattle.router_order.proofs.LayLemmas.{all_at}
use Rattle.router_order.proofs.LayLemmas.{laid_below, laid_links, next_rank, none_below, same_attachment}
use Rattle.router_order.proofs.RunLemmas.{put_other}
use Rattle.router_order.proofs.laying.lay.Goals as goal

pub links-init : goal.links-init
links-init c = record {
  laid = c.requires.none;
  others = λ b apart. refl;
  below = none_below _ c.args.activity.0 c.args.rows.now.rows c.requires.none;
  rank = omega arith;
  room = omega arith;
  whole = refl;
}

pub links-preserved : goal.links-preserved
links-preserved c =
    let rows = c.links.rows.rows in
    let more = c.put_row.new.self.rows in
    let is = c.put_row.ensures.rows in
    let own = all_at (λ (link : Link). link.activity.0 ≡ c.args.activity.0) c.args.links.now c.links.link-index _ c.requires.own c.links-test.true in
    record {
      laid = laid_links _ rows more is c.links.invariant.below c.links.link-index c.args.links.now _ c.links-test.true (same_attachment _ c.args.activity c.links.rank own) c.links.invariant.laid;
      others = λ b apart. let turned : (c.args.activity.0 == b) ≡ false = grind (arith, nat_tests, apart) in put_other _ rows more is b turned ∙ c.links.invariant.others b apart;
      below = laid_below _ rows more is c.links.invariant.below _ c.spread-start.ensures.some;
      rank = next_rank _ _ _ _ c.links.invariant.rank;
      room = omega (arith, c.links.invariant.room, c.put_row.ensures.room);
      whole = omega (arith, c.links.invariant.whole, c.put_row.ensures.whole);
    }
