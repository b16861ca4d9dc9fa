-- what the store keeps goes on without the entity
use Rattle.std.proofs.Common.{arith}
use Rattle.entity_tree.proofs.KeptLemmas.{cut_keeps}
use Rattle.entity_tree.proofs.tree.Tree.remove.Goals as goal

pub invariant_of-self : goal.invariant_of-self
invariant_of-self c = (
  cut_keeps c.self.inside.next c.args.entity.0 c.self.inside.rows.rows c.cut.new.rows.rows c.self.invariant.0 c.cut.ensures.rows,
  c.cut.ensures.index,
  c.cut.ensures.depths,
  omega (arith, c.cut.ensures.room, c.cut.ensures.whole, c.self.invariant.3),
  omega (arith, c.cut.ensures.room, c.cut.ensures.whole, c.self.invariant.4),
)
