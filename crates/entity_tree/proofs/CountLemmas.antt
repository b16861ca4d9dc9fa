-- The tree of an entity has no more entities than there are.
use Rattle.std.proofs.Common.{◌≡◌, ℕ, ◌+◌, ◌<◌, ◌≤◌, ◌==◌, Bool, true, false, List, [], ◌∷◌, ◌++◌, Option, Some, None, map, length, reverse, refl, ap, subst, ◌∙◌, arith, inl, inr}
use Rattle.std.specs.Prelude.{nat_lt, is_some, if◌then◌else◌}
use Rattle.std.specs.List.{AllByRecursion}
use Rattle.std.proofs.lemmas.Bool.{cases_Bool}
use Rattle.std.proofs.lemmas.Bool.Decides.{nat_tests}
use Rattle.std.proofs.lemmas.List.{length-append, length-map, length-reverse}
use Rattle.slee_value.specs.declared.ids.EntityId.{EntityId}
use Rattle.router_state.specs.declared.rows.Entity.{Entity}
use Rattle.router_state.specs.Trees.{entity_at, parent_of, children, tree_of}
use Rattle.rows_sorted.specs.Keys.{Rises}
use Rattle.router_state.specs.Keys.{entity_key}
use Rattle.rows_sorted.proofs.OrderLemmas.{AllInOrder, IsBefore, in_order, all_from_all}
use Rattle.entity_tree.specs.declared.branch.Branch.{Branch}
use Rattle.entity_tree.specs.Kept.{AreParents, branch_of, numbers_of}
use Rattle.entity_tree.proofs.ListLemmas.{all_back, all_front, all_joined, all_of_any}
use Rattle.entity_tree.proofs.RowLemmas.{each_found}
use Rattle.entity_tree.proofs.TreeLemmas.{IsThere, fewer, kids_there, tree_step, trees}

-- how many entities are in the tree of this number
abbrev weight : List Entity → ℕ → ℕ
weight rows e = length (tree_of rows e)

-- the weights of those whose parents pass
abbrev weighed : List Entity → (ℕ → Bool) → List Entity → ℕ
weighed rows passes [] = 0
weighed rows passes (x ∷ xs) = if passes (parent_of x) then weight rows x.number.0 + weighed rows passes xs else weighed rows passes xs

-- the weights of the children
abbrev below : List Entity → ℕ → List Entity → ℕ
below rows e some = weighed rows (λ p. p == e) some

-- the weights of those whose parents have lower numbers than this one
abbrev under_lower : List Entity → ℕ → List Entity → ℕ
under_lower rows k some = weighed rows (λ p. nat_lt p k) some

children_weighed : (rows : List Entity) (e : ℕ) (some : List Entity) → length (trees rows (map (λ (b : Branch). b.number) (map branch_of (children some e)))) ≡ below rows e some
children_weighed rows e [] = refl
children_weighed rows e (x ∷ xs) = elim (cases_Bool (parent_of x == e)) [
  | inl child ↦ rw child (length-append (tree_of rows x.number.0) (trees rows (map (λ (b : Branch). b.number) (map branch_of (children xs e)))) ∙ ap (λ n. weight rows x.number.0 + n) (children_weighed rows e xs))
  | inr other ↦ rw other (children_weighed rows e xs)
]

-- a parent's number isn't both below the one and the other one
apart : (rows : List Entity) (k m : ℕ) → k ≤ m → (some : List Entity) → under_lower rows k some + below rows m some ≤ under_lower rows (m + 1) some
apart rows k m le [] = omega arith
apart rows k m le (x ∷ xs) = let more = apart rows k m le xs in grind (arith, nat_tests, more, le)

without : (rows : List Entity) (x : Entity) (xs : List Entity) (e : ℕ) → parent_of x < e → below rows e (x ∷ xs) ≡ below rows e xs
without rows x xs e less = let other : (parent_of x == e) ≡ false = grind (arith, nat_tests, less) in rw other refl

-- what is known of the rows from one of them on: they have numbers from this one on, and so have all whose parents are among them
record IsRest (rows : List Entity) (k : ℕ) (some : List Entity) : Type 0 where
  order : AllInOrder (IsBefore entity_key) some
  low : AllByRecursion (λ row. k ≤ row.number.0) some
  parents : AreParents some
  there : AllByRecursion (λ row. is_some (entity_at rows row.number.0) ≡ true) some
  whole : (e : ℕ) → k ≤ e → below rows e rows ≡ below rows e some

rest_next : (rows : List Entity) (k : ℕ) (x : Entity) (xs : List Entity) → IsRest rows k (x ∷ xs) → IsRest rows (x.number.0 + 1) xs
rest_next rows k x xs rest = record {
  order = rest.order.1;
  low = all_from_all (IsBefore entity_key x) (λ (row : Entity). x.number.0 + 1 ≤ row.number.0) (λ row before. grind (arith, nat_tests, before)) xs rest.order.0;
  parents = rest.parents.1;
  there = rest.there.1;
  whole = λ e up. rest.whole e (let low = rest.low.0 in omega (arith, low, up)) ∙ without rows x xs e (let lower = rest.parents.0 in omega (arith, lower, up));
}

not_empty : (rows : List Entity) (e : ℕ) → is_some (entity_at rows e) ≡ true → 0 < length rows
not_empty [] e there = absurd (cc)
not_empty (x ∷ xs) e there = omega arith

module _ (rows : List Entity) (rises : Rises entity_key rows) (parents : AreParents rows) where
  weight_step : (e : ℕ) → is_some (entity_at rows e) ≡ true → weight rows e ≡ below rows e rows + 1
  weight_step e there =
      let kids = trees rows (map (λ (b : Branch). b.number) (map branch_of (children rows e))) in
      ap length (tree_step rows rises parents e there) ∙ length-append kids (e ∷ []) ∙ ap (λ n. n + 1) (children_weighed rows e rows)

  -- the first one's tree and those of the others whose parents come before have no more entities than there are here
  first_fits : (k : ℕ) (x : Entity) (xs : List Entity) → IsRest rows k (x ∷ xs) → under_lower rows (x.number.0 + 1) xs ≤ length xs → weight rows x.number.0 + under_lower rows k xs ≤ length xs + 1
  first_fits k x xs rest more =
      let low = rest.low.0 in
      let own = weight_step x.number.0 rest.there.0 in
      let here = rest.whole x.number.0 low ∙ without rows x xs x.number.0 rest.parents.0 in
      let both = apart rows k x.number.0 low xs in
      omega (arith, own, here, both, more)

  rest_fits : (k : ℕ) (some : List Entity) → IsRest rows k some → under_lower rows k some ≤ length some
  rest_fits k [] rest = omega arith
  rest_fits k (x ∷ xs) rest =
      let all = first_fits k x xs rest (rest_fits (x.number.0 + 1) xs (rest_next rows k x xs rest)) in
      elim (cases_Bool (nat_lt (parent_of x) k)) [
        | inl under ↦ rw under (omega (arith, all))
        | inr apart ↦ rw apart (omega (arith, all))
      ]

  found_fits : (k : ℕ) (some : List Entity) (e : ℕ) (row : Entity) → IsRest rows k some → entity_at some e ≡ Some row → weight rows e ≤ length some
  found_fits k [] e row rest is = absurd (cc)
  found_fits k (x ∷ xs) e row rest is =
      let next = rest_next rows k x xs rest in
      elim (cases_Bool (x.number.0 == e)) [
        | inl mine ↦
            let same : x.number.0 ≡ e = grind (arith, nat_tests, mine) in
            let all = first_fits k x xs rest (rest_fits (x.number.0 + 1) xs next) in
            subst (λ n. weight rows n ≤ length (x ∷ xs)) same (omega (arith, all))
        | inr other ↦ let more = found_fits (x.number.0 + 1) xs e row next (rw other at is) in omega (arith, more)
      ]

  all_rest : IsRest rows 0 rows
  all_rest = record {
    order = in_order entity_key rows rises;
    low = all_of_any (λ (row : Entity). 0 ≤ row.number.0) (λ row. omega arith) rows;
    parents = parents;
    there = all_from_all (λ (row : Entity). entity_at rows row.number.0 ≡ Some row) (λ row. is_some (entity_at rows row.number.0) ≡ true) (λ row is. rw is refl) rows (each_found rows (in_order entity_key rows rises));
    whole = λ e up. refl;
  }

  tree_fits : (e : ℕ) → is_some (entity_at rows e) ≡ true → weight rows e ≤ length rows
  tree_fits e there = by (entity_at rows e) refl
    where
      by : (found : Option Entity) → entity_at rows e ≡ found → weight rows e ≤ length rows
      by None is = let wrong : false ≡ true = rw is at there in absurd (cc)
      by (Some row) is = found_fits 0 rows e row all_rest is

  -- trees have no fewer entities than there are trees
  as_many : (ids : List EntityId) → AllByRecursion (IsThere rows rises parents) ids → length ids ≤ length (trees rows ids)
  as_many [] all = omega arith
  as_many (x ∷ xs) all =
      let more = as_many xs all.1 in
      let own = weight_step x.0 all.0 in
      let both = length-append (tree_of rows x.0) (trees rows xs) in
      omega (arith, more, own, both)

  -- where one entity is taken, its children and those that wait are no more than all, and one more can be listed
  pub tree_room : (before left all : List EntityId) (e : EntityId) (run : List Branch) (top : ℕ) → is_some (entity_at rows top) ≡ true
      → before ≡ left ++ e ∷ [] → run ≡ map branch_of (children rows e.0)
      → trees rows before ++ reverse (numbers_of all) ≡ tree_of rows top → AllByRecursion (IsThere rows rises parents) before
      → (length left + length run ≤ length rows) × (length all < length rows)
  tree_room before left all e run top top_there before_is run_is order there =
      let whole = subst (AllByRecursion (IsThere rows rises parents)) before_is there in
      let last = all_back (IsThere rows rises parents) left (e ∷ []) whole in
      let kids = map (λ (b : Branch). b.number) (map branch_of (children rows e.0)) in
      let waits = as_many (left ++ kids) (all_joined (IsThere rows rises parents) left kids (all_front (IsThere rows rises parents) left (e ∷ []) whole) (kids_there rows rises parents e.0)) in
      let less = fewer rows rises parents left kids e (tree_step rows rises parents e.0 last.0) in
      let was = ap (λ ids. length (trees rows ids)) before_is in
      let fits = tree_fits top top_there in
      let listed = length-append (trees rows before) (reverse (numbers_of all)) in
      let turned = length-reverse (numbers_of all) in
      let numbers = length-map all (λ (id : EntityId). id.0) in
      let sum = ap length order in
      let joined = length-append left kids in
      let named = length-map (map branch_of (children rows e.0)) (λ (b : Branch). b.number) in
      let same = ap length run_is in
      (omega (arith, waits, less, was, fits, listed, sum, joined, named, same), omega (arith, less, was, fits, listed, turned, numbers, sum))
