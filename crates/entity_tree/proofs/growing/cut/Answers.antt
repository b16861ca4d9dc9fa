-- the index and the depths follow the entity that went
use Rattle.std.proofs.Common.{◌==◌, List, map, sym, ap, subst, ◌∙◌}
use Rattle.std.specs.List.{filter}
use Rattle.router_state.specs.Trees.{children, without_entity}
use Rattle.router_state.specs.declared.rows.Entity.{Entity}
use Rattle.entity_tree.specs.declared.branch.Branch.{Branch}
use Rattle.entity_tree.specs.Kept.{branch_of}
use Rattle.entity_tree.specs.Depths.{AreDepths}
use Rattle.entity_tree.proofs.DepthLemmas.{cut_depths, whose}
use Rattle.entity_tree.proofs.NumberLemmas.{cut_by_key}
use Rattle.entity_tree.proofs.IndexLemmas.{index_cut}
use Rattle.entity_tree.proofs.RowLemmas.{cut_by_number}
use Rattle.entity_tree.proofs.growing.cut.Goals as goal

pub returns-clause-index : goal.returns-clause-index
returns-clause-index c =
    let branches = rw c.parent_at-parent.ensures at c.cut_row.ensures.rows in
    let rows = c.cut_row-3.ensures.rows ∙ cut_by_number c.args.entity.0 c.args.rows.now.rows in
    λ p.
    ap (filter (λ (branch : Branch). branch.parent.0 == p)) branches
    ∙ index_cut c.args.entity.0 p c.args.rows.now.rows c.args.branches.now.rows c.rises.ensures (c.requires.index p)
    ∙ ap (λ (entities : List Entity). map branch_of (children entities p)) (sym rows)

pub returns-clause-depths : goal.returns-clause-depths
returns-clause-depths c =
    let rows = c.cut_row-3.ensures.rows ∙ cut_by_number c.args.entity.0 c.args.rows.now.rows in
    let depths = c.cut_row-2.ensures.rows ∙ cut_by_key whose c.args.entity.0 c.args.depths.now.rows in
    subst (λ all. AreDepths all c.cut_row-2.new.self.rows) (sym rows) (subst (AreDepths (without_entity c.args.rows.now.rows c.args.entity.0)) (sym depths) (cut_depths c.args.rows.now.rows c.args.depths.now.rows c.args.entity.0 c.requires.parents c.requires.depths c.requires.childless))
