-- each round takes one entity, whose children come in its place
use Rattle.std.proofs.Common.{◌≡◌, ◌++◌, ℕ, [], List, reverse, sym, ap, ◌∙◌}
use Rattle.std.proofs.lemmas.List.{append-nil}
use Rattle.router_draft.specs.Drafts.{laid}
use Rattle.router_draft.proofs.MakingLemmas.{trees_after}
use Rattle.router_draft.proofs.TreeLemmas.{tree_more, trees}
use Rattle.router_draft.proofs.trees.tree.Goals as goal

pub tree-smaller : goal.tree-smaller
tree-smaller g c =
    (tree_more (laid (g.B.Base.state c.args.base.now) c.args.draft.now) (trees_after c.args.draft.now.changes (g.B.Base.state c.args.base.now) c.requires.made c.ordered.ensures.trees) c.tree.waiting.items c.visit.new.waiting.items c.pop.new.self.items c.tree.all.items c.visit.new.all.items c.in-Some.member c.args.entity.0
    c.in-Some.ensures.items c.in_ok-visit.ensures.waiting c.in_ok-visit.ensures.all c.tree.invariant.order c.tree.invariant.there).2

pub tree-preserved : goal.tree-preserved
tree-preserved g c =
    let more = tree_more (laid (g.B.Base.state c.args.base.now) c.args.draft.now) (trees_after c.args.draft.now.changes (g.B.Base.state c.args.base.now) c.requires.made c.ordered.ensures.trees) c.tree.waiting.items c.visit.new.waiting.items c.pop.new.self.items c.tree.all.items c.visit.new.all.items c.in-Some.member c.args.entity.0
    c.in-Some.ensures.items c.in_ok-visit.ensures.waiting c.in_ok-visit.ensures.all c.tree.invariant.order c.tree.invariant.there in
    record {
      order = more.0;
      there = more.1;
    }

pub returns : goal.returns
returns g c =
    let zero = c.in_default.ensures.cases.0 in
    let rest = rw zero at c.in_default.ensures.rest in
    let none : c.tree.waiting.items ≡ [] = c.in_default.ensures.items ∙ append-nil c.pop.new.self.items ∙ rest in
    let all = ap (λ (es : List ℕ). trees (laid (g.B.Base.state c.args.base.now) c.args.draft.now).entities es ++ reverse c.tree.all.items) none in
    c.reverse.ensures.items ∙ sym all ∙ c.tree.invariant.order
