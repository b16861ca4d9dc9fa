-- the run that was gone through has the children
use Rattle.std.proofs.Common.{sym, ◌∙◌}
use Rattle.std.proofs.lemmas.List.{append-nil}
use Rattle.entity_tree.specs.Kept.{numbers_of}
use Rattle.entity_tree.proofs.RowLemmas.{named_is}
use Rattle.entity_tree.proofs.reading.children_under.Goals as goal

pub returns : goal.returns
returns c =
    let all = rw c.in-None.ensures.steps.0 at c.children.invariant in
    sym (append-nil (numbers_of c.children.all.items)) ∙ all
    ∙ named_is c.args.entity.0 c.args.relation.now c.args.rows.now.rows c.args.branches.now.rows c.rises.ensures (c.requires c.args.entity.0)
