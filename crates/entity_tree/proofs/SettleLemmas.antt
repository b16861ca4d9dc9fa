-- Depths are counted anew from parent to child: those of the entities gone through are right.
use Rattle.std.proofs.Common.{◌≡◌, ℕ, ◌+◌, ◌==◌, true, false, List, ◌∷◌, Some, None, length, sym, ap, subst, ◌∙◌, arith, inl, inr}
use Rattle.std.specs.Prelude.{is_some, nat_lt}
use Rattle.std.specs.List.{AllByRecursion}
use Rattle.std.proofs.lemmas.Bool.{cases_Bool}
use Rattle.std.proofs.lemmas.Bool.Decides.{nat_tests}
use Rattle.router_state.specs.declared.rows.Entity.{Entity}
use Rattle.router_state.specs.Trees.{entity_at, parent_of}
use Rattle.rows_sorted.specs.Keys.{Rises}
use Rattle.router_state.specs.Keys.{entity_key}
use Rattle.rows_sorted.proofs.OrderLemmas.{AllInOrder, IsBefore, all_from_all, in_order}
use Rattle.entity_tree.specs.declared.depths.Depth.{Depth}
use Rattle.entity_tree.specs.Kept.{AreParents, is_entity}
use Rattle.entity_tree.specs.Climbing.{path_at}
use Rattle.entity_tree.specs.Depths.{HasDepths, depth_at, with_steps}
use Rattle.entity_tree.proofs.RowLemmas.{each_found, none_there}
use Rattle.entity_tree.proofs.PathLemmas.{no_path}
use Rattle.entity_tree.proofs.DepthLemmas.{next_right, set_other, set_own}

-- what holds of the depths where these entities are still to come
pub record IsSettled (rows rest : List Entity) (depths : List Depth) : Type 0 where
  pub kept : HasDepths rows depths
  pub right : (e : ℕ) → entity_at rest e ≡ None → depth_at depths e ≡ length (path_at rows e)
  pub order : AllInOrder (IsBefore entity_key) rest
  pub parents : AreParents rest
  pub found : AllByRecursion (λ row. entity_at rows row.number.0 ≡ Some row) rest

none_kept : (n : ℕ) → nat_lt 0 n ≡ false → n ≡ 0
none_kept n none = grind (arith, nat_tests, none)

pub begun : (rows : List Entity) (depths : List Depth) → Rises entity_key rows → AreParents rows → HasDepths rows depths → IsSettled rows rows depths
begun rows depths rises parents kept =
    let order = in_order entity_key rows rises in
    record {
      kept = kept;
      right = λ e none. none_kept (depth_at depths e) (kept e ∙ ap is_some none) ∙ sym (ap length (no_path rows parents e none));
      order = order;
      parents = parents;
      found = each_found rows order;
    }

pub parent_right : (rows rest : List Entity) (row : Entity) (depths : List Depth) → IsSettled rows (row ∷ rest) depths → depth_at depths (parent_of row) ≡ length (path_at rows (parent_of row))
parent_right rows rest row depths settled =
    let lower = settled.parents.0 in
    let own : (row.number.0 == parent_of row) ≡ false = grind (arith, nat_tests, lower) in
    let others = all_from_all (IsBefore entity_key row) (λ other. (other.number.0 == parent_of row) ≡ false) (λ other before. grind (arith, nat_tests, lower, before)) rest settled.order.0 in
    settled.right (parent_of row) (none_there (parent_of row) (row ∷ rest) (own, others))

pub goes_on : (rows rest : List Entity) (row : Entity) (depths more : List Depth) → AreParents rows → IsSettled rows (row ∷ rest) depths → more ≡ with_steps depths row.number.0 (depth_at depths (parent_of row) + 1)
    → IsSettled rows rest more
goes_on rows rest row depths more parents settled is = record {
  kept = λ e. elim (cases_Bool (row.number.0 == e)) [
    | inl mine ↦
        let same : row.number.0 ≡ e = grind (arith, nat_tests, mine) in
        let some : nat_lt 0 (depth_at depths (parent_of row) + 1) ≡ true = grind (arith, nat_tests) in
        subst (λ n. nat_lt 0 (depth_at more n) ≡ is_entity rows n) same (ap (nat_lt 0) own ∙ some ∙ sym (ap is_some settled.found.0))
    | inr other ↦ ap (nat_lt 0) (others e other) ∙ settled.kept e
  ];
  right = λ e none. elim (cases_Bool (row.number.0 == e)) [
    | inl mine ↦
        let same : row.number.0 ≡ e = grind (arith, nat_tests, mine) in
        subst (λ n. depth_at more n ≡ length (path_at rows n)) same (own ∙ next_right rows parents depths row.number.0 row settled.found.0 (parent_right rows rest row depths settled))
    | inr other ↦ others e other ∙ settled.right e (rw other none)
  ];
  order = settled.order.1;
  parents = settled.parents.1;
  found = settled.found.1;
}
  where
    own : depth_at more row.number.0 ≡ depth_at depths (parent_of row) + 1
    own = ap (λ all. depth_at all row.number.0) is ∙ set_own row.number.0 (depth_at depths (parent_of row) + 1) depths (settled.kept row.number.0 ∙ ap is_some settled.found.0)

    others : (e : ℕ) → (row.number.0 == e) ≡ false → depth_at more e ≡ depth_at depths e
    others e apart = ap (λ all. depth_at all e) is ∙ set_other row.number.0 e (depth_at depths (parent_of row) + 1) depths apart
