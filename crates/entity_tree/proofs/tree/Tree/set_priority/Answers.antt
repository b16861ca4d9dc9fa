-- a priority doesn't count for what the store keeps
use Rattle.std.proofs.Common.{arith}
use Rattle.entity_tree.proofs.DepthLemmas.{priority_depths}
use Rattle.entity_tree.proofs.KeptLemmas.{priority_keeps_index}
use Rattle.entity_tree.proofs.SetLemmas.{priority_keeps}
use Rattle.entity_tree.proofs.tree.Tree.set_priority.Goals as goal

pub invariant_of-self : goal.invariant_of-self
invariant_of-self c = (
  rw c.set_priority.ensures.rows (priority_keeps _ _ _ _ c.self.invariant.0),
  rw c.set_priority.ensures.rows (priority_keeps_index _ _ _ _ c.self.invariant.1),
  rw c.set_priority.ensures.rows (priority_depths _ _ _ _ _ c.self.invariant.0 c.self.invariant.2),
  omega (arith, c.set_priority.ensures.room, c.set_priority.ensures.whole, c.self.invariant.3),
  omega (arith, c.set_priority.ensures.room, c.set_priority.ensures.whole, c.self.invariant.4),
)
