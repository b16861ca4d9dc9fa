-- The depths that are kept follow the entities.
use Rattle.std.proofs.Common.{◌≡◌, ℕ, zero, suc, ℤ, ◌+◌, ◌<◌, ◌==◌, true, false, List, [], ◌∷◌, Option, Some, None, length, refl, sym, ap, subst, ◌∙◌, arith, inl, inr, length-append}
use Rattle.std.specs.Prelude.{not, nat_lt, is_some}
use Rattle.std.specs.List.{filter, find}
use Rattle.std.specs.Option.{option_map_or}
use Rattle.std.proofs.lemmas.Bool.{cases_Bool}
use Rattle.std.proofs.lemmas.Bool.Decides.{nat_tests}
use Rattle.router_state.specs.declared.rows.Entity.{Entity}
use Rattle.rows_sorted.specs.Orders.{put}
use Rattle.router_state.specs.Trees.{entity_at, number_of, parent_of, children, with_priority, without_entity}
use Rattle.rows_sorted.specs.Keys.{is_key, key_before}
use Rattle.rows_sorted.proofs.OrderLemmas.{all_filter}
use Rattle.entity_tree.specs.declared.depths.Depth.{Depth}
use Rattle.entity_tree.specs.Kept.{AreEntities, AreParents, entity_before, is_entity}
use Rattle.entity_tree.specs.Climbing.{path_at, step_of}
use Rattle.entity_tree.specs.Depths.{AreDepths, HasDepths, depth_at, depth_before, depth_key, with_steps}
use Rattle.entity_tree.proofs.ListLemmas.{none_left}
use Rattle.entity_tree.proofs.NumberLemmas.{cut_other, cut_own, found_by_key, put_by_key, put_other, put_own}
use Rattle.entity_tree.proofs.RowLemmas.{all_put, found_holds, same_number, same_stem}
use Rattle.entity_tree.proofs.SetLemmas.{priority_keeps}
use Rattle.entity_tree.proofs.PathLemmas.{no_path, parent_lower, path_step}

-- whose depth it is
abbrev pub whose : Depth → ℕ
whose depth = depth.entity.0

pub found_by_number : (e : ℕ) (depths : List Depth) → find (λ depth. is_key (depth_key depth) (record { first = e; second = 0; text = [] })) depths ≡ find (λ depth. depth.entity.0 == e) depths
found_by_number e depths = found_by_key whose e depths

pub put_below : (steps : ℕ) (row : Entity) (depths : List Depth) → steps ≡ depth_at depths (parent_of row) + 1
    → put (λ x y. key_before (depth_key x) (depth_key y)) (record { entity = row.number; steps = steps }) depths ≡ put depth_before (record { entity = row.number; steps = depth_at depths (parent_of row) + 1 }) depths
put_below steps row depths is = put_by_key whose (record { entity = row.number; steps = steps }) depths ∙ (λ i. put depth_before (record { entity = row.number; steps = is i }) depths)

-- one more from parent to child, and 0 where there is no entity
abbrev pub Steps : (ℕ → ℕ) → List Entity → Type 0
Steps f rows = (e : ℕ) → f e ≡ option_map_or (λ (row : Entity). f (parent_of row) + 1) (entity_at rows e) 0

pub steps_kept : (f : ℕ → ℕ) (rows : List Entity) → Steps f rows → (e : ℕ) → nat_lt 0 (f e) ≡ is_entity rows e
steps_kept f rows steps e = ap (nat_lt 0) (steps e) ∙ by (entity_at rows e)
  where
    by : (found : Option Entity) → nat_lt 0 (option_map_or (λ (row : Entity). f (parent_of row) + 1) found 0) ≡ is_some found
    by None = refl
    by (Some row) = grind (arith, nat_tests)

module _ (rows : List Entity) (parents : AreParents rows) where
  pub path_steps : Steps (λ e. length (path_at rows e)) rows
  path_steps e = by (entity_at rows e) refl
    where
      by : (found : Option Entity) → entity_at rows e ≡ found → length (path_at rows e) ≡ option_map_or (λ (row : Entity). length (path_at rows (parent_of row)) + 1) found 0
      by None is = ap length (no_path rows parents e is)
      by (Some row) is = ap length (path_step rows parents e row is) ∙ length-append (path_at rows (parent_of row)) (step_of row ∷ [])

  lengths_from : (f : ℕ → ℕ) → Steps f rows → (n e : ℕ) → e < n → f e ≡ length (path_at rows e)
  lengths_from f steps zero e few = absurd (omega (arith, few))
  lengths_from f steps (suc n) e few =
      steps e
      ∙ by e (entity_at rows e) refl (λ row is. let lower = parent_lower rows parents e row is in lengths_from f steps n (parent_of row) (omega (arith, lower, few)))
      ∙ sym (path_steps e)
    where
      by : (e : ℕ) (found : Option Entity) → entity_at rows e ≡ found → ((row : Entity) → entity_at rows e ≡ Some row → f (parent_of row) ≡ length (path_at rows (parent_of row)))
          → option_map_or (λ (row : Entity). f (parent_of row) + 1) found 0 ≡ option_map_or (λ (row : Entity). length (path_at rows (parent_of row)) + 1) found 0
      by e None is more = refl
      by e (Some row) is more = ap (λ n. n + 1) (more row is)

  -- only the lengths of paths go by such steps
  pub lengths : (f : ℕ → ℕ) → Steps f rows → (e : ℕ) → f e ≡ length (path_at rows e)
  lengths f steps e = lengths_from f steps (suc e) e (omega arith)

  pub depth_steps : (depths : List Depth) → AreDepths rows depths → Steps (depth_at depths) rows
  depth_steps depths right e = right e ∙ path_steps e ∙ sym (λ i. option_map_or (λ (row : Entity). right (parent_of row) i + 1) (entity_at rows e) 0)

  no_parent : (n e : ℕ) (row : Entity) → children rows n ≡ [] → entity_at rows e ≡ Some row → (n == parent_of row) ≡ false
  no_parent n e row none is =
      let apart = found_holds (λ (row : Entity). (parent_of row == n) ≡ false) e row rows (none_left (λ (row : Entity). parent_of row == n) rows none) is in
      grind (arith, nat_tests, apart)

  -- what changes at a number that is nobody's parent leaves the steps to the others
  module _ (depths also : List Depth) (others : List Entity) (n : ℕ) (right : AreDepths rows depths) (none : children rows n ≡ [])
      (depth_other : (e : ℕ) → (n == e) ≡ false → depth_at also e ≡ depth_at depths e) (row_other : (e : ℕ) → (n == e) ≡ false → entity_at others e ≡ entity_at rows e) where
    other_step : (e : ℕ) → (n == e) ≡ false → depth_at also e ≡ option_map_or (λ (row : Entity). depth_at also (parent_of row) + 1) (entity_at others e) 0
    other_step e apart = depth_other e apart ∙ depth_steps depths right e ∙ by (entity_at rows e) refl ∙ ap (λ found. option_map_or (λ (row : Entity). depth_at also (parent_of row) + 1) found 0) (sym (row_other e apart))
      where
        by : (found : Option Entity) → entity_at rows e ≡ found → option_map_or (λ (row : Entity). depth_at depths (parent_of row) + 1) found 0 ≡ option_map_or (λ (row : Entity). depth_at also (parent_of row) + 1) found 0
        by None is = refl
        by (Some row) is = ap (λ n. n + 1) (sym (depth_other (parent_of row) (no_parent n e row none is)))

  module _ (depths : List Depth) (right : AreDepths rows depths) (row : Entity) where
    -- an entity is put in, one step below its parent
    abbrev own : Depth
    own = record { entity = row.number; steps = depth_at depths (parent_of row) + 1 }

    abbrev put_own_depth : depth_at (put depth_before own depths) row.number.0 ≡ depth_at depths (parent_of row) + 1
    put_own_depth = ap (λ (found : Option Depth). option_map_or (λ depth. depth.steps) found 0) (put_own whose own depths)

    put_other_depth : (e : ℕ) → (row.number.0 == e) ≡ false → depth_at (put depth_before own depths) e ≡ depth_at depths e
    put_other_depth e apart = ap (λ (found : Option Depth). option_map_or (λ depth. depth.steps) found 0) (put_other whose e own depths apart)

    pub put_keeps : HasDepths (put entity_before row rows) (put depth_before own depths)
    put_keeps e = elim (cases_Bool (row.number.0 == e)) [
      | inl mine ↦
          let same : row.number.0 ≡ e = grind (arith, nat_tests, mine) in
          let found = put_own number_of row rows in
          let some : nat_lt 0 (depth_at depths (parent_of row) + 1) ≡ true = grind (arith, nat_tests) in
          subst (λ n. nat_lt 0 (depth_at (put depth_before own depths) n) ≡ is_entity (put entity_before row rows) n) same (ap (nat_lt 0) put_own_depth ∙ some ∙ sym (ap is_some found))
      | inr other ↦ ap (nat_lt 0) (put_other_depth e other) ∙ steps_kept (depth_at depths) rows (depth_steps depths right) e ∙ sym (ap is_some (put_other number_of e row rows other))
    ]

    put_steps : children rows row.number.0 ≡ [] → parent_of row < row.number.0 → Steps (depth_at (put depth_before own depths)) (put entity_before row rows)
    put_steps none lower e = elim (cases_Bool (row.number.0 == e)) [
      | inl mine ↦
          let same : row.number.0 ≡ e = grind (arith, nat_tests, mine) in
          let apart : (row.number.0 == parent_of row) ≡ false = grind (arith, nat_tests, lower) in
          let more = put depth_before own depths in
          subst (λ n. depth_at more n ≡ option_map_or (λ (row : Entity). depth_at more (parent_of row) + 1) (entity_at (put entity_before row rows) n) 0) same
          (put_own_depth ∙ ap (λ n. n + 1) (sym (put_other_depth (parent_of row) apart)) ∙ sym (ap (λ found. option_map_or (λ (row : Entity). depth_at more (parent_of row) + 1) found 0) (put_own number_of row rows)))
      | inr other ↦ other_step depths (put depth_before own depths) (put entity_before row rows) row.number.0 right none put_other_depth (λ e apart. put_other number_of e row rows apart) e other
    ]

  -- an entity that is nobody's parent is cut
  cut_steps : (depths : List Depth) (n : ℕ) → AreDepths rows depths → children rows n ≡ [] → Steps (depth_at (filter (λ depth. not (depth.entity.0 == n)) depths)) (without_entity rows n)
  cut_steps depths n right none e =
      let fewer = filter (λ (depth : Depth). not (depth.entity.0 == n)) depths in
      elim (cases_Bool (n == e)) [
        | inl mine ↦
            let same : n ≡ e = grind (arith, nat_tests, mine) in
            subst (λ n'. depth_at fewer n' ≡ option_map_or (λ (row : Entity). depth_at fewer (parent_of row) + 1) (entity_at (without_entity rows n) n') 0) same
            (ap (λ (found : Option Depth). option_map_or (λ depth. depth.steps) found 0) (cut_own whose n depths) ∙ sym (ap (λ found. option_map_or (λ (row : Entity). depth_at fewer (parent_of row) + 1) found 0) (cut_own number_of n rows)))
        | inr other ↦ other_step depths fewer (without_entity rows n) n right none (λ e apart. ap (λ (found : Option Depth). option_map_or (λ depth. depth.steps) found 0) (cut_other whose e n depths apart)) (λ e apart. cut_other number_of e n rows apart) e other
      ]

  -- the depth of what stands below none but those that are right
  pub next_right : (depths : List Depth) (e : ℕ) (row : Entity) → entity_at rows e ≡ Some row → depth_at depths (parent_of row) ≡ length (path_at rows (parent_of row)) → depth_at depths (parent_of row) + 1 ≡ length (path_at rows e)
  next_right depths e row is right = ap (λ n. n + 1) right ∙ sym (path_steps e ∙ ap (λ found. option_map_or (λ (row : Entity). length (path_at rows (parent_of row)) + 1) found 0) is)

pub put_depths : (rows : List Entity) (depths : List Depth) (row : Entity) → AreParents rows → AreDepths rows depths → parent_of row < row.number.0 → children rows row.number.0 ≡ []
    → AreDepths (put entity_before row rows) (put depth_before (record { entity = row.number; steps = depth_at depths (parent_of row) + 1 }) depths)
put_depths rows depths row parents right lower none =
    lengths (put entity_before row rows) (all_put (λ row. parent_of row < row.number.0) row rows parents lower) (depth_at (put depth_before (record { entity = row.number; steps = depth_at depths (parent_of row) + 1 }) depths)) (put_steps rows parents depths right row none lower)

pub cut_depths : (rows : List Entity) (depths : List Depth) (n : ℕ) → AreParents rows → AreDepths rows depths → children rows n ≡ [] → AreDepths (without_entity rows n) (filter (λ depth. not (depth.entity.0 == n)) depths)
cut_depths rows depths n parents right none =
    lengths (without_entity rows n) (all_filter (λ row. parent_of row < row.number.0) (λ row. not (row.number.0 == n)) rows parents) (depth_at (filter (λ depth. not (depth.entity.0 == n)) depths)) (cut_steps rows parents depths n right none)

-- a priority doesn't count for depths
priority_step : (f : ℕ → ℕ) (n e : ℕ) (priority : ℤ) (rows : List Entity)
    → option_map_or (λ (row : Entity). f (parent_of row) + 1) (entity_at rows e) 0 ≡ option_map_or (λ (row : Entity). f (parent_of row) + 1) (entity_at (with_priority rows n priority) e) 0
priority_step f n e priority [] = refl
priority_step f n e priority (x ∷ xs) = elim (cases_Bool (x.number.0 == e)) [
  | inl is ↦ rw (same_number n priority x, is, same_stem n priority x) refl
  | inr isnt ↦ rw (same_number n priority x, isnt) (priority_step f n e priority xs)
]

pub priority_depths : (n next : ℕ) (priority : ℤ) (rows : List Entity) (depths : List Depth) → AreEntities next rows → AreDepths rows depths → AreDepths (with_priority rows n priority) depths
priority_depths n next priority rows depths kept right =
    let later = priority_keeps n next priority rows kept in
    lengths (with_priority rows n priority) later.parents (depth_at depths) (λ e. depth_steps rows kept.parents depths right e ∙ priority_step (depth_at depths) n e priority rows)

-- one depth is set

pub set_own : (n steps : ℕ) (depths : List Depth) → nat_lt 0 (depth_at depths n) ≡ true → depth_at (with_steps depths n steps) n ≡ steps
set_own n steps [] has = absurd (cc)
set_own n steps (x ∷ xs) has = elim (cases_Bool (x.entity.0 == n)) [
  | inl mine ↦ rw (mine, mine) refl
  | inr other ↦ rw (other, other) (set_own n steps xs (rw other at has))
]

pub set_other : (n e steps : ℕ) (depths : List Depth) → (n == e) ≡ false → depth_at (with_steps depths n steps) e ≡ depth_at depths e
set_other n e steps [] apart = refl
set_other n e steps (x ∷ xs) apart = elim (cases_Bool (x.entity.0 == n)) [
  | inl mine ↦ let no : (x.entity.0 == e) ≡ false = grind (arith, nat_tests, mine, apart) in rw (mine, no) (set_other n e steps xs apart)
  | inr other ↦ elim (cases_Bool (x.entity.0 == e)) [
    | inl is ↦ rw (other, is) refl
    | inr isnt ↦ rw (other, isnt) (set_other n e steps xs apart)
  ]
]
