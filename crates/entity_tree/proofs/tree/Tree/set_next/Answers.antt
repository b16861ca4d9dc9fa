-- all numbers are below the next one
use Rattle.entity_tree.proofs.KeptLemmas.{next_keeps}
use Rattle.entity_tree.proofs.tree.Tree.set_next.Goals as goal

pub invariant_of-self : goal.invariant_of-self
invariant_of-self c = (next_keeps c.self.inside.next c.args.next c.self.inside.rows.rows c.self.invariant.0 c.requires.one (rw (← c.self.view_is) at c.requires.above), c.self.invariant.1, c.self.invariant.2, c.self.invariant.3, c.self.invariant.4)
