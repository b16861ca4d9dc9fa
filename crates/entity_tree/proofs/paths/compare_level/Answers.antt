-- both are followed up until one path stands above them
use Rattle.std.proofs.Common.{◌≡◌, ◌<◌, ◌==◌, Some, false, length, sym, ap, subst, arith}
use Rattle.std.specs.Prelude.{IsTrue}
use Rattle.std.specs.Ordering.{is_lt, is_gt}
use Rattle.std.proofs.lemmas.Bool.Decides.{nat_tests}
use Rattle.router_state.specs.Trees.{entity_at, parent_of}
use Rattle.entity_tree.specs.Kept.{is_entity}
use Rattle.entity_tree.specs.Climbing.{path_at}
use Rattle.entity_tree.proofs.RowLemmas.{found_number}
use Rattle.entity_tree.proofs.PathLemmas.{begins_itself}
use Rattle.entity_tree.proofs.ClimbLemmas.{found_itself, none_above, over_begins, over_length, parent_there, parts}
use Rattle.entity_tree.proofs.paths.compare_level.Goals.{then-up-test+else-parent_in, else-up-test}
use Rattle.entity_tree.proofs.paths.compare_level.Goals as goal

pub up-init : goal.up-init
up-init c = record {
  left_there = c.requires.one_there;
  right_there = c.requires.other_there;
  one = begins_itself (path_at c.args.rows.now.rows c.args.one.now.number.0);
  other = begins_itself (path_at c.args.rows.now.rows c.args.other.now.number.0);
  depth_of_left = c.requires.depth_of_one;
  depth_of_right = c.requires.depth_of_other;
  apart = c.requires.apart;
}

pub entity_there-left-requires : goal.entity_there-left-requires
entity_there-left-requires c =
    let rows = c.args.rows.now.rows in
    let long : 1 < length (path_at rows c.up.left.now.number.0) = grind (arith, nat_tests, c.up-test.true, c.up.invariant.depth_of_left) in
    subst (λ n. IsTrue (is_entity rows n)) (sym c.parent_in-in-up-2.ensures) (parent_there rows c.requires.parents c.up.left.now c.up.invariant.left_there long)

pub entity_there-right-requires : goal.entity_there-right-requires
entity_there-right-requires c =
    let rows = c.args.rows.now.rows in
    let long : 1 < length (path_at rows c.up.right.now.number.0) = grind (arith, nat_tests, c.up-test.true, c.up.invariant.depth_of_right) in
    subst (λ n. IsTrue (is_entity rows n)) (sym c.parent_in-in-up-3.ensures) (parent_there rows c.requires.parents c.up.right.now c.up.invariant.right_there long)

pub up-preserved : goal.up-preserved
up-preserved c =
    let rows = c.args.rows.now.rows in
    let inv = c.up.invariant in
    let left = c.up.left.now in
    let right = c.up.right.now in
    let over_left = c.entity_there-left.result.now in
    let over_right = c.entity_there-right.result.now in
    let left_is = subst (λ n. entity_at rows n ≡ Some over_left) c.parent_in-in-up-2.ensures c.entity_there-left.ensures in
    let right_is = subst (λ n. entity_at rows n ≡ Some over_right) c.parent_in-in-up-3.ensures c.entity_there-right.ensures in
    let number_left = found_number (parent_of left) over_left rows left_is in
    let number_right = found_number (parent_of right) over_right rows right_is in
    let less_left = over_length rows c.requires.parents left over_left inv.left_there left_is in
    let less_right = over_length rows c.requires.parents right over_right inv.right_there right_is in
    record {
      left_there = found_itself rows c.requires.parents (parent_of left) over_left left_is;
      right_there = found_itself rows c.requires.parents (parent_of right) over_right right_is;
      one = over_begins rows c.requires.parents left over_left (path_at rows c.args.one.now.number.0) inv.left_there left_is inv.one;
      other = over_begins rows c.requires.parents right over_right (path_at rows c.args.other.now.number.0) inv.right_there right_is inv.other;
      depth_of_left = omega (arith, less_left, inv.depth_of_left);
      depth_of_right = omega (arith, less_right, inv.depth_of_right);
      apart = grind (arith, nat_tests, c.if-parent_in.true, c.parent_in.ensures, c.parent_in-in-up.ensures, number_left, number_right);
    }

pub returns-clause-less : goal.returns-clause-less
returns-clause-less c =
    let rows = c.args.rows.now.rows in
    let inv = c.up.invariant in
    let left = c.up.left.now in
    let right = c.up.right.now in
    let above : path_at rows (parent_of left) ≡ path_at rows (parent_of right) = elim c.up-test.branch [
      | then-up-test+else-parent_in w ↦ let same : parent_of left ≡ parent_of right = grind (arith, nat_tests, w.if-parent_in.false, w.parent_in.ensures, w.parent_in-in-up.ensures) in ap (path_at rows) same
      | else-up-test w ↦ none_above rows c.requires.parents left right c.up.steps inv.left_there inv.right_there inv.depth_of_left inv.depth_of_right (grind (arith, nat_tests, w.up-test.false))
    ] in
    parts rows c.requires.parents c.args.one.now.number.0 c.args.other.now.number.0 left right (is_lt c.compare_rows.result) inv.one inv.other inv.apart inv.left_there inv.right_there above c.compare_rows.ensures.less

pub returns-clause-greater : goal.returns-clause-greater
returns-clause-greater c =
    let rows = c.args.rows.now.rows in
    let inv = c.up.invariant in
    let left = c.up.left.now in
    let right = c.up.right.now in
    let above : path_at rows (parent_of right) ≡ path_at rows (parent_of left) = elim c.up-test.branch [
      | then-up-test+else-parent_in w ↦ let same : parent_of right ≡ parent_of left = grind (arith, nat_tests, w.if-parent_in.false, w.parent_in.ensures, w.parent_in-in-up.ensures) in ap (path_at rows) same
      | else-up-test w ↦ none_above rows c.requires.parents right left c.up.steps inv.right_there inv.left_there inv.depth_of_right inv.depth_of_left (grind (arith, nat_tests, w.up-test.false))
    ] in
    let back : (right.number.0 == left.number.0) ≡ false = grind (arith, nat_tests, inv.apart) in
    parts rows c.requires.parents c.args.other.now.number.0 c.args.one.now.number.0 right left (is_gt c.compare_rows.result) inv.other inv.one back inv.right_there inv.left_there above c.compare_rows.ensures.greater
