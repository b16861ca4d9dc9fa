-- the index has the children
use Rattle.std.proofs.Common.{map, ap, ◌∙◌}
use Rattle.std.proofs.lemmas.Result.{IfOk-weaker}
use Rattle.entity_tree.specs.declared.branch.Branch.{Branch}
use Rattle.entity_tree.proofs.KeptLemmas.{branch_numbers}
use Rattle.entity_tree.proofs.tree.Tree.all_children.Goals as goal

pub returns : goal.returns
returns c =
    rw (← c.self.view_is)
    (IfOk-weaker c.all_children.result _ _ (λ all h. h ∙ ap (map (λ (b : Branch). b.number.0)) (c.self.invariant.1 c.args.entity.0) ∙ branch_numbers _) c.all_children.ensures)
