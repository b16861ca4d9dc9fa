-- a parent is there as long as the path has steps left
use Rattle.std.proofs.Common.{◌≡◌, ◌<◌, Some, length, sym, ap, subst, arith}
use Rattle.std.specs.Prelude.{IsTrue}
use Rattle.std.proofs.lemmas.Bool.Decides.{nat_tests}
use Rattle.router_state.specs.Trees.{entity_at, parent_of}
use Rattle.entity_tree.specs.Kept.{is_entity}
use Rattle.entity_tree.specs.Climbing.{BeginsWith, path_at}
use Rattle.entity_tree.proofs.RowLemmas.{found_number}
use Rattle.entity_tree.proofs.PathLemmas.{begins_itself, length_there}
use Rattle.entity_tree.proofs.ClimbLemmas.{found_itself, over_begins, over_length, parent_there}
use Rattle.entity_tree.proofs.paths.above.Goals as goal

pub entity_there-top-requires : goal.entity_there-top-requires
entity_there-top-requires c = length_there c.args.rows.now.rows c.requires.parents c.args.entity.0 (omega (arith, c.requires.within))

pub up-init : goal.up-init
up-init c =
    let rows = c.args.rows.now.rows in
    let top = c.entity_there-top.result.now in
    let number = found_number c.args.entity.0 top rows c.entity_there-top.ensures in
    let long = ap (λ n. length (path_at rows n)) number in
    record {
      there = found_itself rows c.requires.parents c.args.entity.0 top c.entity_there-top.ensures;
      path = subst (λ n. BeginsWith (path_at rows c.args.entity.0) (path_at rows n)) (sym number) (begins_itself (path_at rows c.args.entity.0));
      length = omega (arith, long);
      within = omega arith;
      none = λ zero. number;
    }

pub entity_there-top-requires-in-up : goal.entity_there-top-requires-in-up
entity_there-top-requires-in-up c =
    let rows = c.args.rows.now.rows in
    let long : 1 < length (path_at rows c.up.top.now.number.0) = grind (arith, nat_tests, c.up-test.true, c.up.invariant.length, c.requires.within) in
    subst (λ n. IsTrue (is_entity rows n)) (sym c.parent_in.ensures) (parent_there rows c.requires.parents c.up.top.now c.up.invariant.there long)

pub up-preserved : goal.up-preserved
up-preserved c =
    let rows = c.args.rows.now.rows in
    let top = c.up.top.now in
    let over = c.entity_there-top-in-up.result.now in
    let is = subst (λ n. entity_at rows n ≡ Some over) c.parent_in.ensures c.entity_there-top-in-up.ensures in
    let less = over_length rows c.requires.parents top over c.up.invariant.there is in
    record {
      there = found_itself rows c.requires.parents (parent_of top) over is;
      path = over_begins rows c.requires.parents top over (path_at rows c.args.entity.0) c.up.invariant.there is c.up.invariant.path;
      length = omega (arith, less, c.up.invariant.length);
      within = grind (arith, nat_tests, c.up-test.true);
      none = λ zero. absurd (omega (arith, zero));
    }
