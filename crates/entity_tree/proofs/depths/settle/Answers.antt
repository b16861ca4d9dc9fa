-- the depths of the entities gone through are right
use Rattle.std.proofs.Common.{◌≡◌, ◌+◌, sym, subst, ◌∙◌, arith}
use Rattle.router_state.specs.Trees.{parent_of}
use Rattle.entity_tree.specs.Depths.{depth_at, with_steps}
use Rattle.entity_tree.proofs.PathLemmas.{path_low}
use Rattle.entity_tree.proofs.SettleLemmas.{IsSettled, begun, goes_on, parent_right}
use Rattle.entity_tree.proofs.depths.settle.Goals as goal

pub rows-init : goal.rows-init
rows-init c = record {
  settled = subst (λ rest. IsSettled c.args.rows.now.rows rest c.args.depths.now.rows) (sym (c.into_iter-row-iterator.ensures.into_iter_gives ∙ c.iter-row-items.ensures)) (begun c.args.rows.now.rows c.args.depths.now.rows c.rises.ensures c.requires.parents c.requires.kept);
  room = omega arith;
}

pub settle_one-requires : goal.settle_one-requires
settle_one-requires c =
    let rows = c.args.rows.now.rows in
    let settled = subst (λ rest. IsSettled rows rest c.rows.depths.rows) c.in-Some.ensures.steps c.rows.invariant.settled in
    let right = parent_right rows c.next.new.self c.in-Some.row.now c.rows.depths.rows settled in
    let low = path_low rows c.requires.parents (parent_of c.in-Some.row.now) in
    let same : depth_at c.rows.depths.rows c.parent_in.result.0 ≡ depth_at c.rows.depths.rows (parent_of c.in-Some.row.now) = λ i. depth_at c.rows.depths.rows (c.parent_in.ensures i) in
    omega (arith, same, right, low, settled.parents.0)

pub rows-preserved : goal.rows-preserved
rows-preserved c =
    let rows = c.args.rows.now.rows in
    let settled = subst (λ rest. IsSettled rows rest c.rows.depths.rows) c.in-Some.ensures.steps c.rows.invariant.settled in
    record {
      settled = goes_on rows c.next.new.self c.in-Some.row.now c.rows.depths.rows c.settle_one.new.depths.rows c.requires.parents settled
          (c.settle_one.ensures.rows ∙ (λ i. with_steps c.rows.depths.rows c.in-Some.row.now.number.0 (depth_at c.rows.depths.rows (c.parent_in.ensures i) + 1)));
      room = omega (arith, c.settle_one.ensures.room, c.rows.invariant.room);
    }
