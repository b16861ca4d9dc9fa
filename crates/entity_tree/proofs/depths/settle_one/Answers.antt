-- the row of the entity's number is set
use Rattle.std.proofs.Common.{rules, ◌∙◌}
use Rattle.entity_tree.specs.declared.depths.Depth.{Depth}
use Rattle.entity_tree.proofs.NumberLemmas.{set_by_key}
use Rattle.entity_tree.specs.Depths.{with_steps}
use Rattle.entity_tree.proofs.DepthLemmas.{whose}
use Rattle.entity_tree.proofs.depths.settle_one.Goals as goal

pub returns-clause-rows : goal.returns-clause-rows
returns-clause-rows c =
    c.change_row.ensures.rows (λ (depth : Depth). record depth { steps = c.steps_below-steps.result }) (λ old new gives. search rules)
    ∙ set_by_key whose c.args.entity.0 (λ (depth : Depth). record depth { steps = c.steps_below-steps.result }) c.args.depths.now.rows
    ∙ (λ i. with_steps c.args.depths.now.rows c.args.entity.0 (c.steps_below-steps.ensures i))
