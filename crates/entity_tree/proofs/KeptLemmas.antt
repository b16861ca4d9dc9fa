-- What each change leaves of what the store keeps.
use Rattle.std.proofs.Common.{◌≡◌, ℕ, ℤ, ◌+◌, ◌<◌, ◌≤◌, ◌==◌, true, false, List, [], ◌∷◌, ◌++◌, Option, Some, None, map, length, refl, sym, ap, subst, ◌∙◌, arith}
use Rattle.std.specs.Prelude.{◌||◌, nat_lt, is_some, IsTrue}
use Rattle.std.specs.List.{AllByRecursion, filter}
use Rattle.std.proofs.lemmas.Bool.Decides.{nat_tests}
use Rattle.router_state.specs.declared.rows.Entity.{Entity}
use Rattle.router_state.specs.declared.rows.Stem.{Stem}
use Rattle.router_state.specs.declared.rows.Stem.TheVariants as stems
use Rattle.rows_sorted.specs.Orders.{put, are_below}
use Rattle.router_state.specs.Trees.{children, entity_at, number_of, is_root, parent_in, parent_of, with_priority, without_entity}
use Rattle.rows_sorted.proofs.OrderLemmas.{all_filter, all_from_all}
use Rattle.entity_tree.specs.declared.branch.Branch.{Branch}
use Rattle.entity_tree.specs.Kept.{AreEntities, IsIndex, branch_of, entity_before}
use Rattle.entity_tree.proofs.ListLemmas.{all_tested, all_two, filter_none}
use Rattle.entity_tree.proofs.RowLemmas.{all_put, found_holds, found_number, none_there, put_last}
use Rattle.entity_tree.proofs.IndexLemmas.{index_set}

lower_than : (n m : ℕ) (rows : List Entity) → n ≤ m → AllByRecursion (λ row. row.number.0 < n) rows → AllByRecursion (λ row. row.number.0 < m) rows
lower_than n m rows le below = all_from_all (λ (row : Entity). row.number.0 < n) (λ row. row.number.0 < m) (λ row less. omega (arith, less, le)) rows below

-- an entity that was put in its place
pub added_keeps : (next later : ℕ) (row : Entity) (rows more : List Entity) → AreEntities next rows → next ≤ later → row.number.0 < later → parent_of row < row.number.0
    → more ≡ put entity_before row rows → AreEntities later more
added_keeps next later row rows more kept le drawn parent is = record {
  below = subst (λ (all : List Entity). AllByRecursion (λ row. row.number.0 < later) all) (sym is) (all_put (λ row. row.number.0 < later) row rows (lower_than next later rows le kept.below) drawn);
  parents = subst (λ (all : List Entity). AllByRecursion (λ row. parent_of row < row.number.0) all) (sym is) (all_put (λ row. parent_of row < row.number.0) row rows kept.parents parent);
  from_one = omega (arith, kept.from_one, le);
}

-- an entity that went
pub cut_keeps : (next e : ℕ) (rows fewer : List Entity) → AreEntities next rows → fewer ≡ without_entity rows e → AreEntities next fewer
cut_keeps next e rows fewer kept is = record {
  below = subst (λ (all : List Entity). AllByRecursion (λ row. row.number.0 < next) all) (sym is) (all_filter (λ row. row.number.0 < next) _ rows kept.below);
  parents = subst (λ (all : List Entity). AllByRecursion (λ row. parent_of row < row.number.0) all) (sym is) (all_filter (λ row. parent_of row < row.number.0) _ rows kept.parents);
  from_one = kept.from_one;
}

-- no entity has the next number
pub next_is_free : (next : ℕ) (rows : List Entity) → AreEntities next rows → entity_at rows next ≡ None
next_is_free next rows kept = none_there next rows (all_from_all (λ (row : Entity). row.number.0 < next) (λ row. (row.number.0 == next) ≡ false) (λ row less. grind (arith, nat_tests, less)) rows kept.below)

-- the entity of the next number stands last
pub next_stands_last : (row : Entity) (rows : List Entity) → AreEntities row.number.0 rows → put entity_before row rows ≡ rows ++ row ∷ []
next_stands_last row rows kept = put_last row rows kept.below

-- an entity that is there was drawn
pub there_is_drawn : (next e : ℕ) (rows : List Entity) → AreEntities next rows → is_some (entity_at rows e) ≡ true → e < next
there_is_drawn next e rows kept there = by (entity_at rows e) refl
  where
    by : (found : Option Entity) → entity_at rows e ≡ found → e < next
    by None is = let wrong : false ≡ true = rw is at there in cc
    by (Some row) is = let below = found_holds (λ (row : Entity). row.number.0 < next) e row rows kept.below is in let same = found_number e row rows is in omega (arith, below, same)

-- a priority doesn't count for the index
pub priority_keeps_index : (e : ℕ) (priority : ℤ) (rows : List Entity) (branches : List Branch) → IsIndex rows branches → IsIndex (with_priority rows e priority) branches
priority_keeps_index e priority rows branches index = λ p. index p ∙ sym (index_set e p priority rows)

-- a next number that is above all
pub next_keeps : (next later : ℕ) (rows : List Entity) → AreEntities next rows → 0 < later → IsTrue (are_below number_of later rows) → AreEntities later rows
next_keeps next later rows kept one above = record {
  below = all_from_all (λ (row : Entity). nat_lt row.number.0 later ≡ true) (λ row. row.number.0 < later) (λ row less. grind (arith, nat_tests, less)) rows (all_tested (λ row. nat_lt (number_of row) later) rows above);
  parents = kept.parents;
  from_one = one;
}

-- a root has no parent, and the parent of a child was drawn
pub stem_is_drawn : (next : ℕ) (stem : Stem) (rows : List Entity) → AreEntities next rows → (is_root stem || is_some (entity_at rows (parent_in stem))) ≡ true → parent_in stem < next
stem_is_drawn next (stems.Root service) rows kept there = kept.from_one
stem_is_drawn next (stems.Child parent relation) rows kept there = there_is_drawn next parent.0 rows kept there

-- no entity has the next number for its parent
pub next_is_childless : (next : ℕ) (rows : List Entity) → AreEntities next rows → children rows next ≡ []
next_is_childless next rows kept =
    filter_none (λ (row : Entity). parent_of row == next) rows (all_two (λ (row : Entity). row.number.0 < next) (λ row. parent_of row < row.number.0) (λ row. (parent_of row == next) ≡ false) (λ row less lower. grind (arith, nat_tests, less, lower)) rows kept.below kept.parents)

no_kids : (kids : List Entity) → nat_lt 0 (length (map branch_of kids)) ≡ false → kids ≡ []
no_kids [] none = refl
no_kids (x ∷ xs) none = absurd (let some : nat_lt 0 (length (map branch_of xs) + 1) ≡ true = grind (arith, nat_tests) in grind (arith, nat_tests, none))

-- an entity of which the index has no children has none
pub childless : (n : ℕ) (rows : List Entity) (branches : List Branch) → IsIndex rows branches → nat_lt 0 (length (filter (λ branch. branch.parent.0 == n) branches)) ≡ false → children rows n ≡ []
childless n rows branches index none = no_kids (children rows n) (sym (ap (λ (run : List Branch). nat_lt 0 (length run)) (index n)) ∙ none)

-- the numbers of the children in the index are those of the children
pub branch_numbers : (rows : List Entity) → map (λ (branch : Branch). branch.number.0) (map branch_of rows) ≡ map number_of rows
branch_numbers [] = refl
branch_numbers (x ∷ xs) = ap (λ rest. x.number.0 ∷ rest) (branch_numbers xs)
