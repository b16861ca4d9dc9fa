-- one row more comes to the end
use Rattle.std.proofs.Common.{length, arith, ap}
use Rattle.router_state.specs.Contexts.{attribute_before}
use Rattle.activity_context.specs.Views.{ContextsView}
use Rattle.router_state.specs.Keys.{attribute_key}
use Rattle.snapshot_stores.proofs.FillLemmas.{turn}
use Rattle.snapshot_stores.proofs.KeptLemmas.{more_attributes}
use Rattle.snapshot_stores.proofs.OrderedLemmas as orders
use Rattle.snapshot_stores.proofs.contexts.add_attributes.Goals as goal

pub rows-preserved : goal.rows-preserved
rows-preserved c =
    let cut = c.in-Some.ensures.steps.0 in
    let count = ap length cut in
    record {
      can_next = tt;
      is_finite = tt;
      rows = turn attribute_key attribute_before orders.attributes _ _ _ _ _ _ c.requires.rises cut (ap (λ (x : ContextsView). x.attributes) c.set_attr.ensures.set) c.rows.invariant.rows;
      kept = more_attributes c.args.contexts.now _ _ _ c.rows.invariant.kept c.set_attr.ensures.set;
      room = omega (arith, count, c.rows.invariant.room, c.set_attr.ensures.room);
    }
