-- each round takes one entity, whose children come in its place
use Rattle.std.proofs.Common.{◌≡◌, ◌==◌, ◌++◌, false, true, [], List, reverse, sym, ap, ◌∙◌, arith}
use Rattle.std.specs.List.{filter}
use Rattle.std.proofs.lemmas.List.{append-nil}
use Rattle.slee_value.specs.declared.ids.EntityId.{EntityId}
use Rattle.entity_tree.specs.declared.branch.Branch.{Branch}
use Rattle.entity_tree.specs.Kept.{numbers_of}
use Rattle.entity_tree.proofs.CountLemmas.{tree_room}
use Rattle.entity_tree.proofs.TreeLemmas.{numbers_reversed, tree_more, trees}
use Rattle.entity_tree.proofs.removal.list.Goals as goal

pub tree-smaller : goal.tree-smaller
tree-smaller c =
    (tree_more c.args.rows.now.rows c.rises.ensures c.requires.parents c.tree.waiting.items c.push_children.new.into.items c.pop.new.self.items c.tree.all.items c.push-in-Some.new.self.items c.in-Some.entity
    (filter (λ (branch : Branch). branch.parent.0 == c.in-Some.entity.0) c.args.branches.now.rows) c.args.top.0
    c.in-Some.ensures.items c.in_ok-push_children.ensures.items (c.requires.index c.in-Some.entity.0) c.in_ok-push-2.ensures.items c.tree.invariant.order c.tree.invariant.there).2

pub tree-preserved : goal.tree-preserved
tree-preserved c =
    let more = tree_more c.args.rows.now.rows c.rises.ensures c.requires.parents c.tree.waiting.items c.push_children.new.into.items c.pop.new.self.items c.tree.all.items c.push-in-Some.new.self.items c.in-Some.entity
    (filter (λ (branch : Branch). branch.parent.0 == c.in-Some.entity.0) c.args.branches.now.rows) c.args.top.0
    c.in-Some.ensures.items c.in_ok-push_children.ensures.items (c.requires.index c.in-Some.entity.0) c.in_ok-push-2.ensures.items c.tree.invariant.order c.tree.invariant.there in
    record {
      order = more.0;
      there = more.1;
      waiting_capacity = omega (arith, c.tree.invariant.waiting_capacity, c.pop.ensures.capacity, c.push_children.ensures.capacity);
      capacity = omega (arith, c.tree.invariant.capacity, c.push-in-Some.ensures.capacity);
    }

pub returns-clause-order : goal.returns-clause-order
returns-clause-order c =
    let zero = c.in_default.ensures.cases.0 in
    let rest = rw zero at c.in_default.ensures.rest in
    let none : c.tree.waiting.items ≡ [] = c.in_default.ensures.items ∙ append-nil c.pop.new.self.items ∙ rest in
    let all = ap (λ (ids : List EntityId). trees c.args.rows.now.rows ids ++ reverse (numbers_of c.tree.all.items)) none in
    ap numbers_of c.reverse.ensures.items ∙ numbers_reversed c.tree.all.items ∙ sym all ∙ c.tree.invariant.order

pub returns-in_err-push_children-clause-fits : goal.returns-in_err-push_children-clause-fits
returns-in_err-push_children-clause-fits c = λ few also.
    let room = tree_room c.args.rows.now.rows c.rises.ensures c.requires.parents c.tree.waiting.items c.pop.new.self.items c.tree.all.items c.in-Some.entity
    (filter (λ (branch : Branch). branch.parent.0 == c.in-Some.entity.0) c.args.branches.now.rows) c.args.top.0 c.requires.there
    c.in-Some.ensures.items (c.requires.index c.in-Some.entity.0) c.tree.invariant.order c.tree.invariant.there in
    let wrong : false ≡ true = c.in_err-push_children.ensures.fits (omega (arith, few, room.0, c.pop.new.self.ok.0, c.pop.ensures.capacity, c.tree.invariant.waiting_capacity)) in
    absurd (cc)

pub returns-in_err-push-2-clause-fits : goal.returns-in_err-push-2-clause-fits
returns-in_err-push-2-clause-fits c = λ few also.
    let room = tree_room c.args.rows.now.rows c.rises.ensures c.requires.parents c.tree.waiting.items c.pop.new.self.items c.tree.all.items c.in-Some.entity
    (filter (λ (branch : Branch). branch.parent.0 == c.in-Some.entity.0) c.args.branches.now.rows) c.args.top.0 c.requires.there
    c.in-Some.ensures.items (c.requires.index c.in-Some.entity.0) c.tree.invariant.order c.tree.invariant.there in
    absurd (omega (arith, also, room.1, c.tree.all.ok.0, c.in_err-push-2.ensures.full, c.tree.invariant.capacity))
