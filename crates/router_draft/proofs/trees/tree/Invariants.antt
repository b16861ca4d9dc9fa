use Rattle.std.proofs.Common.{◌≡◌, ◌++◌, reverse, length}
use Rattle.router_state.specs.Trees.{tree_of}
use Rattle.router_draft.specs.Drafts.{laid}
use Rattle.router_draft.proofs.TreeLemmas.{trees, AreThere}
use Rattle.router_draft.proofs.trees.tree.Given as goal

abbrev pub invariant-tree : goal.invariant-tree
invariant-tree g l = record {
  order : trees (laid (g.B.Base.state l.base) l.draft).entities l.waiting.items ++ reverse l.all.items ≡ tree_of (laid (g.B.Base.state l.base) l.draft).entities l.fn.entity.0;
  there : AreThere (laid (g.B.Base.state l.base) l.draft).entities l.waiting.items;
}

abbrev pub decreases-tree : goal.decreases-tree
decreases-tree g l = length (trees (laid (g.B.Base.state l.base) l.draft).entities l.waiting.items)
