-- one row more comes to the end
use Rattle.std.proofs.Common.{length, arith, ap}
use Rattle.router_state.specs.Contexts.{link_before}
use Rattle.activity_context.specs.Views.{ContextsView}
use Rattle.router_state.specs.Keys.{link_key}
use Rattle.snapshot_stores.proofs.FillLemmas.{turn}
use Rattle.snapshot_stores.proofs.KeptLemmas.{more_links}
use Rattle.snapshot_stores.proofs.OrderedLemmas as orders
use Rattle.snapshot_stores.proofs.contexts.add_links.Goals as goal

pub rows-preserved : goal.rows-preserved
rows-preserved c =
    let cut = c.in-Some.ensures.steps.0 in
    let count = ap length cut in
    record {
      can_next = tt;
      is_finite = tt;
      rows = turn link_key link_before orders.links _ _ _ _ _ _ c.requires.rises cut (ap (λ (x : ContextsView). x.links) c.restore_link.ensures.restored) c.rows.invariant.rows;
      kept = more_links c.args.contexts.now _ _ _ c.rows.invariant.kept c.restore_link.ensures.restored;
      room = omega (arith, count, c.rows.invariant.room, c.restore_link.ensures.room);
    }
