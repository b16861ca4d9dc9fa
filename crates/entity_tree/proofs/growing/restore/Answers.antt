-- where the entity has no children, its own depth is the only new one
use Rattle.std.proofs.Common.{◌<◌, sym, subst, ◌∙◌}
use Rattle.router_state.specs.Trees.{parent_of}
use Rattle.entity_tree.specs.Kept.{AreParents}
use Rattle.entity_tree.proofs.KeptLemmas.{childless}
use Rattle.entity_tree.proofs.RowLemmas.{all_put}
use Rattle.entity_tree.proofs.growing.restore.Goals as goal

pub settle-requires-clause-parents : goal.settle-requires-clause-parents
settle-requires-clause-parents c = subst AreParents (sym c.add.ensures.rows) (all_put (λ row. parent_of row < row.number.0) c.args.row c.args.rows.now.rows c.requires.parents c.requires.parent)

pub returns-else-is_parent-clause-depths : goal.returns-else-is_parent-clause-depths
returns-else-is_parent-clause-depths c =
    c.add.ensures.depths (childless c.args.row.number.0 c.args.rows.now.rows c.args.branches.now.rows c.requires.index (sym c.has_child-is_parent.ensures ∙ c.if-is_parent.false))
