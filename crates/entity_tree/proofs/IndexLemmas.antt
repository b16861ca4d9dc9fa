-- The index of children follows the entities.
use Rattle.std.proofs.Common.{◌≡◌, ℕ, ℤ, ◌==◌, Bool, true, false, List, [], ◌∷◌, ◌++◌, Some, None, map, cond, refl, sym, ap, ◌∙◌, arith, inl, inr, append-nil}
use Rattle.std.specs.Prelude.{not, nat_lt, ◌&&◌}
use Rattle.std.specs.List.{filter}
use Rattle.std.proofs.lemmas.Bool.{cases_Bool}
use Rattle.std.proofs.lemmas.List.{map-append}
use Rattle.std.proofs.lemmas.Bool.Decides.{nat_tests}
use Rattle.router_state.specs.declared.rows.Entity.{Entity}
use Rattle.rows_sorted.specs.Orders.{put, triple_before}
use Rattle.router_state.specs.Trees.{entity_at, parent_of, children, with_priority, without_entity}
use Rattle.rows_sorted.specs.Keys.{key_before, is_key, pair_key, Rises}
use Rattle.router_state.specs.Keys.{entity_key}
use Rattle.rows_sorted.proofs.OrderLemmas.{IsBefore, in_order, order_filter, all_filter, all_from_all}
use Rattle.entity_tree.specs.declared.branch.Branch.{Branch}
use Rattle.entity_tree.specs.Kept.{entity_before, parent_at, branch_key, branch_of}
use Rattle.entity_tree.proofs.ListLemmas.{all_filtered, all_of_any, filter_all, filter_none, filter_agree, filter_swap, filter_of_map, put_filtered}
use Rattle.entity_tree.proofs.RowLemmas.{each_found, none_found, two_sides, same_number, same_stem}

-- branches stand by parent, then by number
abbrev pub before : Branch → Branch → Bool
before x y = key_before (branch_key x) (branch_key y)

-- below one parent by number
level : (p n a m : ℕ) → (p == a) ≡ true → triple_before p n [] a m [] ≡ nat_lt n m
level p n a m same = grind (arith, nat_tests, same)

-- below two parents by parent
apart : (p n a m : ℕ) → (p == a) ≡ false → triple_before p n [] a m [] ≡ nat_lt p a
apart p n a m differ = grind (arith, nat_tests, differ)

module _ (row : Entity) (p : ℕ) where
  abbrev mine : Entity → Bool
  mine other = parent_of other == p

  same_low : (parent_of row == p) ≡ true → (other : Entity) → mine other ≡ true → before (branch_of other) (branch_of row) ≡ entity_before other row
  same_low is other child = level (parent_of other) other.number.0 (parent_of row) row.number.0 (grind (arith, nat_tests, is, child))

  same_high : (parent_of row == p) ≡ true → (other : Entity) → mine other ≡ true → before (branch_of row) (branch_of other) ≡ entity_before row other
  same_high is other child = level (parent_of row) row.number.0 (parent_of other) other.number.0 (grind (arith, nat_tests, is, child))

  apart_low : (parent_of row == p) ≡ false → (other : Entity) → mine other ≡ true → before (branch_of other) (branch_of row) ≡ nat_lt p (parent_of row)
  apart_low is other child =
      let step = apart (parent_of other) other.number.0 (parent_of row) row.number.0 (grind (arith, nat_tests, is, child)) in
      let same : parent_of other ≡ p = grind (arith, nat_tests, child) in
      step ∙ ap (λ n. nat_lt n (parent_of row)) same

  apart_high : (parent_of row == p) ≡ false → (other : Entity) → mine other ≡ true → before (branch_of row) (branch_of other) ≡ nat_lt (parent_of row) p
  apart_high is other child =
      let step = apart (parent_of row) row.number.0 (parent_of other) other.number.0 (grind (arith, nat_tests, is, child)) in
      let same : parent_of other ≡ p = grind (arith, nat_tests, child) in
      step ∙ ap (λ n. nat_lt (parent_of row) n) same

  -- what stands on both sides of a child of another parent
  others_stay : (rows : List Entity) → (parent_of row == p) ≡ false
      → filter (λ other. before (branch_of other) (branch_of row)) (children rows p) ++ filter (λ other. before (branch_of row) (branch_of other)) (children rows p) ≡ children rows p
  others_stay rows is =
      let low = filter_agree (λ other. before (branch_of other) (branch_of row)) (λ other. nat_lt p (parent_of row)) (children rows p) (all_filtered mine _ rows (all_of_any _ (apart_low is) rows)) in
      let high = filter_agree (λ other. before (branch_of row) (branch_of other)) (λ other. nat_lt (parent_of row) p) (children rows p) (all_filtered mine _ rows (all_of_any _ (apart_high is) rows)) in
      elim (cases_Bool (nat_lt p (parent_of row))) [
        | inl below ↦
            let not_above : nat_lt (parent_of row) p ≡ false = grind (arith, nat_tests, below) in
            let all = filter_all (λ (other : Entity). nat_lt p (parent_of row)) (children rows p) (all_of_any _ (λ other. below) (children rows p)) in
            let none = filter_none (λ (other : Entity). nat_lt (parent_of row) p) (children rows p) (all_of_any _ (λ other. not_above) (children rows p)) in
            rw (low, high, all, none) (append-nil (children rows p))
        | inr not_below ↦
            let above : nat_lt (parent_of row) p ≡ true = grind (arith, nat_tests, not_below, is) in
            let none = filter_none (λ (other : Entity). nat_lt p (parent_of row)) (children rows p) (all_of_any _ (λ other. not_below) (children rows p)) in
            let all = filter_all (λ (other : Entity). nat_lt (parent_of row) p) (children rows p) (all_of_any _ (λ other. above) (children rows p)) in
            rw (low, high, none, all) refl
      ]

  -- a row put among the entities is put among the children of its parent
  children_put : (rows : List Entity) → Rises entity_key rows → entity_at rows row.number.0 ≡ None
      → filter (λ other. before (branch_of other) (branch_of row)) (children rows p) ++ (cond (parent_of row == p) (row ∷ []) [] ++ filter (λ other. before (branch_of row) (branch_of other)) (children rows p))
      ≡ children (put entity_before row rows) p
  children_put rows rises absent = elim (cases_Bool (parent_of row == p)) [
    | inl is ↦
        let low = filter_agree (λ other. before (branch_of other) (branch_of row)) (λ other. entity_before other row) (children rows p) (all_filtered mine _ rows (all_of_any _ (same_low is) rows)) in
        let high = filter_agree (λ other. before (branch_of row) (branch_of other)) (λ other. entity_before row other) (children rows p) (all_filtered mine _ rows (all_of_any _ (same_high is) rows)) in
        rw (low, high) (sym (put_filtered entity_before mine row rows))
    | inr is ↦
        let sides = two_sides row (children rows p) (order_filter (IsBefore entity_key) mine rows (in_order entity_key rows rises)) (all_filter _ mine rows (none_found row.number.0 rows absent)) in
        let after : children (put entity_before row rows) p ≡ children rows p = put_filtered entity_before mine row rows ∙ (rw is sides) in
        rw is (others_stay rows is ∙ sym after)
  ]

  pub index_put : (rows : List Entity) (branches : List Branch) → Rises entity_key rows → entity_at rows row.number.0 ≡ None
      → filter (λ branch. branch.parent.0 == p) branches ≡ map branch_of (children rows p)
      → filter (λ branch. branch.parent.0 == p) (put before (branch_of row) branches) ≡ map branch_of (children (put entity_before row rows) p)
  index_put rows branches rises absent run =
      let own : cond (parent_of row == p) (branch_of row ∷ []) [] ≡ map branch_of (cond (parent_of row == p) (row ∷ []) []) = elim (cases_Bool (parent_of row == p)) [ inl is ↦ rw is refl | inr is ↦ rw is refl ] in
      let low = filter_of_map (λ branch. before branch (branch_of row)) branch_of (children rows p) in
      let high = filter_of_map (λ branch. before (branch_of row) branch) branch_of (children rows p) in
      let joined = map-append branch_of (cond (parent_of row == p) (row ∷ []) []) (filter (λ other. before (branch_of row) (branch_of other)) (children rows p)) in
      let all = map-append branch_of (filter (λ other. before (branch_of other) (branch_of row)) (children rows p)) (cond (parent_of row == p) (row ∷ []) [] ++ filter (λ other. before (branch_of row) (branch_of other)) (children rows p)) in
      put_filtered before (λ branch. branch.parent.0 == p) (branch_of row) branches
      ∙ (rw (run, low, high, own) (sym (rw joined at all)))
      ∙ ap (map branch_of) (children_put rows rises absent)

-- the one branch that goes is that of the entity
is_cut : (e : ℕ) (rows : List Entity) (row : Entity) → entity_at rows row.number.0 ≡ Some row
    → not (is_key (branch_key (branch_of row)) (pair_key (parent_at rows e) e)) ≡ not (row.number.0 == e)
is_cut e rows row found = elim (cases_Bool (row.number.0 == e)) [
  | inl is ↦
      let same : row.number.0 ≡ e = grind (arith, nat_tests, is) in
      let parent : parent_at rows e ≡ parent_of row = rw (← same, found) refl in
      let mine : (parent_of row == parent_of row) ≡ true = grind (arith, nat_tests) in
      rw (parent, is, mine) refl
  | inr other ↦ rw other (never (parent_of row == parent_at rows e))
]
  where
    never : (b : Bool) → not (b && false) ≡ true
    never true = refl
    never false = refl

pub index_cut : (e p : ℕ) (rows : List Entity) (branches : List Branch) → Rises entity_key rows
    → filter (λ branch. branch.parent.0 == p) branches ≡ map branch_of (children rows p)
    → filter (λ branch. branch.parent.0 == p) (filter (λ branch. not (is_key (branch_key branch) (pair_key (parent_at rows e) e))) branches) ≡ map branch_of (children (without_entity rows e) p)
index_cut e p rows branches rises run =
    let gone = λ (branch : Branch). not (is_key (branch_key branch) (pair_key (parent_at rows e) e)) in
    let each = all_filter (λ (row : Entity). gone (branch_of row) ≡ not (row.number.0 == e)) (λ row. parent_of row == p) rows (all_from_all _ (λ row. gone (branch_of row) ≡ not (row.number.0 == e)) (is_cut e rows) rows (each_found rows (in_order entity_key rows rises))) in
    filter_swap (λ branch. branch.parent.0 == p) gone branches
    ∙ (rw run (filter_of_map gone branch_of (children rows p)))
    ∙ ap (map branch_of) (filter_agree (λ row. gone (branch_of row)) (λ row. not (row.number.0 == e)) (children rows p) each ∙ filter_swap (λ row. not (row.number.0 == e)) (λ row. parent_of row == p) rows)

pub index_set : (e p : ℕ) (priority : ℤ) (rows : List Entity) → map branch_of (children (with_priority rows e priority) p) ≡ map branch_of (children rows p)
index_set e p priority [] = refl
index_set e p priority (x ∷ xs) = elim (cases_Bool (parent_of x == p)) [
  | inl is ↦ rw (same_stem e priority x, is, same_number e priority x, same_stem e priority x) (ap (λ rest. branch_of x ∷ rest) (index_set e p priority xs))
  | inr is ↦ rw (same_stem e priority x, is) (index_set e p priority xs)
]
