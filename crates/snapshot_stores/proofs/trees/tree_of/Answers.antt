-- one row more comes to the end
use Rattle.std.proofs.Common.{◌<◌, ◌∙◌, length, arith, ap}
use Rattle.router_state.specs.Trees.{parent_of}
use Rattle.entity_tree.specs.Kept.{entity_before}
use Rattle.router_state.specs.Keys.{entity_key}
use Rattle.snapshot_stores.proofs.EntityLemmas.{entity_absent}
use Rattle.snapshot_stores.proofs.FillLemmas.{turn, fact_first}
use Rattle.snapshot_stores.proofs.OrderedLemmas.{entities}
use Rattle.snapshot_stores.proofs.trees.tree_of.Goals as goal

pub restore-requires-clause-absent : goal.restore-requires-clause-absent
restore-requires-clause-absent c = entity_absent _ _ _ _ _ c.requires.rises c.in-Some.ensures.steps.0 c.rows.invariant.rows

pub restore-requires-clause-drawn : goal.restore-requires-clause-drawn
restore-requires-clause-drawn c =
    let drawn = fact_first (λ row. row.number.0 < c.args.next) _ _ _ _ _ c.in-Some.ensures.steps.0 c.rows.invariant.rows c.requires.kept.below in
    omega (arith, drawn, c.rows.invariant.next)

pub restore-requires-clause-parent : goal.restore-requires-clause-parent
restore-requires-clause-parent c = fact_first (λ row. parent_of row < row.number.0) _ _ _ _ _ c.in-Some.ensures.steps.0 c.rows.invariant.rows c.requires.kept.parents

pub rows-preserved : goal.rows-preserved
rows-preserved c =
    let cut = c.in-Some.ensures.steps.0 in
    let count = ap length cut in
    record {
      can_next = tt;
      is_finite = tt;
      rows = turn entity_key entity_before entities _ _ _ _ _ _ c.requires.rises cut c.restore.ensures.rows c.rows.invariant.rows;
      next = c.restore.ensures.next ∙ c.rows.invariant.next;
      room = omega (arith, count, c.rows.invariant.room, c.restore.ensures.room);
    }
