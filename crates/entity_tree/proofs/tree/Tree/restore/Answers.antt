-- what the store keeps goes on with the entity
use Rattle.std.proofs.Common.{arith}
use Rattle.entity_tree.proofs.KeptLemmas.{added_keeps}
use Rattle.entity_tree.proofs.tree.Tree.restore.Goals as goal

pub invariant_of-self : goal.invariant_of-self
invariant_of-self c =
    let room = rw (← c.self.view_is) at c.requires.room in (
      added_keeps c.self.inside.next c.self.inside.next c.args.item c.self.inside.rows.rows c.restore.new.rows.rows c.self.invariant.0 (omega arith) (rw (← c.self.view_is) at c.requires.drawn) c.requires.parent c.restore.ensures.rows,
      c.restore.ensures.index,
      c.restore.ensures.depths,
      omega (arith, room, c.restore.ensures.room, c.restore.ensures.whole, c.self.invariant.3),
      omega (arith, room, c.restore.ensures.room, c.restore.ensures.whole, c.self.invariant.4),
    )
