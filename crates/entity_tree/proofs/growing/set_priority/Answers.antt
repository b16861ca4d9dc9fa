-- the row of the number has the priority
use Rattle.std.proofs.Common.{rules, ◌∙◌}
use Rattle.router_state.specs.declared.rows.Entity.{Entity}
use Rattle.entity_tree.proofs.SetLemmas.{set_by_number}
use Rattle.entity_tree.proofs.growing.set_priority.Goals as goal

pub returns-clause-rows : goal.returns-clause-rows
returns-clause-rows c =
    c.change_row.ensures.rows (λ (row : Entity). record row { priority = c.args.priority }) (λ old new gives. search rules)
    ∙ set_by_number c.args.entity.0 c.args.priority c.args.rows.now.rows
