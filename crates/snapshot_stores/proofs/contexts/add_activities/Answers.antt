-- one row more comes to the end
use Rattle.std.proofs.Common.{◌<◌, length, arith, ap}
use Rattle.activity_context.specs.Views.{activity_before, ContextsView}
use Rattle.router_state.specs.declared.rows.Activity.{Activity}
use Rattle.router_state.specs.Keys.{activity_key}
use Rattle.snapshot_stores.proofs.FillLemmas.{turn, fact_first}
use Rattle.snapshot_stores.proofs.KeptLemmas.{more_activities}
use Rattle.snapshot_stores.proofs.OrderedLemmas as orders
use Rattle.snapshot_stores.proofs.SoundLemmas.{below_each}
use Rattle.snapshot_stores.proofs.contexts.add_activities.Goals as goal

pub restore-requires-clause-below : goal.restore-requires-clause-below
restore-requires-clause-below c =
    let low = fact_first (λ (row : Activity). row.number.0 < c.args.contexts.now.next) _ _ _ _ _ c.in-Some.ensures.steps.0 c.rows.invariant.rows (below_each (λ (row : Activity). row.number.0) c.args.contexts.now.next c.args.rows.items c.requires.below) in
    let next = ap (λ (x : ContextsView). x.next) c.rows.invariant.kept in
    omega (arith, low, next)

pub rows-preserved : goal.rows-preserved
rows-preserved c =
    let cut = c.in-Some.ensures.steps.0 in
    let count = ap length cut in
    record {
      can_next = tt;
      is_finite = tt;
      rows = turn activity_key activity_before orders.activities _ _ _ _ _ _ c.requires.rises cut (ap (λ (x : ContextsView). x.activities) c.restore.ensures.restored) c.rows.invariant.rows;
      kept = more_activities c.args.contexts.now _ _ _ c.rows.invariant.kept c.restore.ensures.restored;
      room = omega (arith, count, c.rows.invariant.room, c.restore.ensures.room);
    }
