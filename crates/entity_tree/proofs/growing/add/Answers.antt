-- the index and the depths follow the entity that was put in
use Rattle.std.proofs.Common.{◌+◌, ◌==◌, List, map, sym, ap, subst, ◌∙◌, arith}
use Rattle.std.specs.List.{filter}
use Rattle.rows_sorted.specs.Orders.{put}
use Rattle.router_state.specs.Trees.{children}
use Rattle.router_state.specs.declared.rows.Entity.{Entity}
use Rattle.entity_tree.specs.declared.branch.Branch.{Branch}
use Rattle.entity_tree.specs.Kept.{branch_of, entity_before}
use Rattle.entity_tree.specs.Depths.{AreDepths, HasDepths, depth_at}
use Rattle.entity_tree.proofs.DepthLemmas.{put_below, put_depths, put_keeps}
use Rattle.entity_tree.proofs.IndexLemmas.{before, index_put}
use Rattle.entity_tree.proofs.PathLemmas.{path_low}
use Rattle.entity_tree.proofs.RowLemmas.{put_by_number}
use Rattle.entity_tree.proofs.growing.add.Goals as goal

pub steps_below-steps-requires : goal.steps_below-steps-requires
steps_below-steps-requires c =
    let right = c.requires.depths c.parent_in-parent.result.0 in
    let low = path_low c.args.rows.now.rows c.requires.parents c.parent_in-parent.result.0 in
    omega (arith, right, low, c.parent_in-parent.ensures, c.requires.parent)

pub returns-clause-rows : goal.returns-clause-rows
returns-clause-rows c = c.put_row-3.ensures.rows ∙ put_by_number c.args.row c.args.rows.now.rows

pub returns-clause-index : goal.returns-clause-index
returns-clause-index c =
    let branches = c.put_row-2.ensures.rows ∙ (λ i. put before (record { parent = record { 0 = c.parent_in-parent.ensures i }; number = c.args.row.number }) c.args.branches.now.rows) in
    λ p.
    ap (filter (λ (branch : Branch). branch.parent.0 == p)) branches
    ∙ index_put c.args.row p c.args.rows.now.rows c.args.branches.now.rows c.rises.ensures c.requires.absent (c.requires.index p)
    ∙ ap (λ (entities : List Entity). map branch_of (children entities p)) (sym (returns-clause-rows c))

pub returns-clause-depths : goal.returns-clause-depths
returns-clause-depths c = λ none.
    let old = c.args.depths.now.rows in
    let depths = c.put_row.ensures.rows ∙ put_below c.steps_below-steps.result c.args.row old (c.steps_below-steps.ensures ∙ (λ i. depth_at old (c.parent_in-parent.ensures i) + 1)) in
    subst (λ all. AreDepths all c.put_row.new.self.rows) (sym (returns-clause-rows c)) (subst (AreDepths (put entity_before c.args.row c.args.rows.now.rows)) (sym depths) (put_depths c.args.rows.now.rows old c.args.row c.requires.parents c.requires.depths c.requires.parent none))

pub returns-clause-kept : goal.returns-clause-kept
returns-clause-kept c =
    let old = c.args.depths.now.rows in
    let depths = c.put_row.ensures.rows ∙ put_below c.steps_below-steps.result c.args.row old (c.steps_below-steps.ensures ∙ (λ i. depth_at old (c.parent_in-parent.ensures i) + 1)) in
    subst (λ all. HasDepths all c.put_row.new.self.rows) (sym (returns-clause-rows c)) (subst (HasDepths (put entity_before c.args.row c.args.rows.now.rows)) (sym depths) (put_keeps c.args.rows.now.rows c.requires.parents old c.requires.depths c.args.row))
