-- The tree of an entity is the trees of its children, and then the entity.
use Rattle.std.proofs.Common.{◌≡◌, ℕ, zero, suc, ◌+◌, ◌<◌, ◌≤◌, ◌==◌, Bool, true, false, List, [], ◌∷◌, ◌++◌, Option, Some, None, map, length, reverse, refl, sym, ap, subst, ◌∙◌, arith, inl, inr}
use Rattle.std.specs.Prelude.{nat_lt, is_some, if◌then◌else◌, flat_map}
use Rattle.std.specs.List.{AllByRecursion, filter}
use Rattle.std.proofs.lemmas.Bool.{cases_Bool}
use Rattle.std.proofs.lemmas.List.{append-nil, append_assoc, map-append, reverse-append, length-append}
use Rattle.std.proofs.lemmas.Bool.Decides.{nat_tests}
use Rattle.std.proofs.lemmas.List.Concat.{flat_map-append}
use Rattle.slee_value.specs.declared.ids.EntityId.{EntityId}
use Rattle.router_state.specs.declared.rows.Entity.{Entity}
use Rattle.router_state.specs.Trees.{entity_at, parent_of, children, tree, tree_of}
use Rattle.rows_sorted.specs.Keys.{Rises}
use Rattle.router_state.specs.Keys.{entity_key}
use Rattle.rows_sorted.proofs.OrderLemmas.{in_order, all_filter, all_from_all}
use Rattle.entity_tree.specs.declared.branch.Branch.{Branch}
use Rattle.entity_tree.specs.Kept.{AreParents, branch_of, numbers_of}
use Rattle.entity_tree.proofs.ListLemmas.{all_back, all_front, all_two, all_joined, all_mapped}
use Rattle.entity_tree.proofs.RowLemmas.{each_found}

-- how many entities have a greater number
abbrev pub over : List Entity → ℕ → ℕ
over [] e = 0
over (row ∷ rows) e = (if nat_lt e row.number.0 then 1 else 0) + over rows e

over_falls : (rows : List Entity) (e f : ℕ) → e ≤ f → over rows f ≤ over rows e
over_falls [] e f le = omega arith
over_falls (x ∷ xs) e f le = let more = over_falls xs e f le in grind (arith, nat_tests, more)

over_all : (rows : List Entity) (e : ℕ) → over rows e ≤ length rows
over_all [] e = omega arith
over_all (x ∷ xs) e = let more = over_all xs e in grind (arith, nat_tests, more)

over_found : (rows : List Entity) (e f : ℕ) (row : Entity) → entity_at rows f ≡ Some row → e < f → over rows f < over rows e
over_found [] e f row is lt = absurd (cc)
over_found (x ∷ xs) e f row is lt = elim (cases_Bool (x.number.0 == f)) [
  | inl mine ↦ let more = over_falls xs e f (omega (arith, lt)) in grind (arith, nat_tests, more, mine)
  | inr other ↦ let more = over_found xs e f row (rw other at is) lt in grind (arith, nat_tests, more)
]

over_there : (rows : List Entity) (e : ℕ) (row : Entity) → entity_at rows e ≡ Some row → over rows e < length rows
over_there [] e row is = absurd (cc)
over_there (x ∷ xs) e row is = elim (cases_Bool (x.number.0 == e)) [
  | inl mine ↦ let more = over_all xs e in grind (arith, nat_tests, more, mine)
  | inr other ↦ let more = over_there xs e row (rw other at is) in grind (arith, nat_tests, more)
]

flat_map_agree : {X Y : Type 0} (f g : X → List Y) (xs : List X) → AllByRecursion (λ x. f x ≡ g x) xs → flat_map f xs ≡ flat_map g xs
flat_map_agree f g [] all = refl
flat_map_agree f g (x ∷ xs) all = rw all.0 (ap (λ rest. g x ++ rest) (flat_map_agree f g xs all.1))

flat_map_filtered : {X Y : Type 0} (q : X → Bool) (f : X → List Y) (xs : List X) → flat_map (λ x. if q x then f x else []) xs ≡ flat_map f (filter q xs)
flat_map_filtered q f [] = refl
flat_map_filtered q f (x ∷ xs) = elim (cases_Bool (q x)) [
  | inl goes ↦ rw goes (ap (λ rest. f x ++ rest) (flat_map_filtered q f xs))
  | inr stays ↦ rw stays (flat_map_filtered q f xs)
]

-- what an entity adds to the tree of its parent
abbrev part : List Entity → ℕ → ℕ → Entity → List ℕ
part rows n e row = if parent_of row == e then tree n rows row.number.0 else []

-- the trees of these entities one after another
abbrev pub trees : List Entity → List EntityId → List ℕ
trees rows ids = flat_map (λ (id : EntityId). tree_of rows id.0) ids

pub numbers_reversed : (ids : List EntityId) → numbers_of (reverse ids) ≡ reverse (numbers_of ids)
numbers_reversed [] = refl
numbers_reversed (x ∷ xs) =
    ap numbers_of (reverse-append (x ∷ []) xs)
    ∙ map-append (λ (id : EntityId). id.0) (reverse xs) (x ∷ [])
    ∙ ap (λ front. front ++ x.0 ∷ []) (numbers_reversed xs)
    ∙ sym (reverse-append (x.0 ∷ []) (numbers_of xs))

module _ (rows : List Entity) (rises : Rises entity_key rows) (parents : AreParents rows) where
  part_whole : (n e : ℕ) → over rows e < suc n → (row : Entity) → parent_of row < row.number.0 → entity_at rows row.number.0 ≡ Some row
      → (over rows row.number.0 < n → tree n rows row.number.0 ≡ tree (suc n) rows row.number.0) → part rows n e row ≡ part rows (suc n) e row
  part_whole n e few row below found whole = elim (cases_Bool (parent_of row == e)) [
    | inl mine ↦
        let same : parent_of row ≡ e = grind (arith, nat_tests, mine) in
        let less = over_found rows e row.number.0 row found (omega (arith, below, same)) in
        rw mine (whole (omega (arith, less, few)))
    | inr other ↦ rw other refl
  ]

  -- more generations change nothing where there are more than entities of greater numbers
  tree_whole : (n e : ℕ) → over rows e < n → tree n rows e ≡ tree (suc n) rows e
  tree_whole zero e few = absurd (omega (arith, few))
  tree_whole (suc n) e few =
      let each = all_two (λ (row : Entity). parent_of row < row.number.0) (λ row. entity_at rows row.number.0 ≡ Some row) (λ row. part rows n e row ≡ part rows (suc n) e row) (λ row below found. part_whole n e few row below found (tree_whole n row.number.0)) rows parents (each_found rows (in_order entity_key rows rises)) in
      ap (λ trees. trees ++ e ∷ []) (flat_map_agree (part rows n e) (part rows (suc n) e) rows each)

  tree_step_from : (n e : ℕ) → over rows e < n → tree n rows e ≡ flat_map (λ (row : Entity). tree n rows row.number.0) (children rows e) ++ e ∷ []
  tree_step_from zero e few = absurd (omega (arith, few))
  tree_step_from (suc n) e few =
      let each = all_two (λ (row : Entity). parent_of row < row.number.0) (λ row. entity_at rows row.number.0 ≡ Some row) (λ row. part rows n e row ≡ part rows (suc n) e row) (λ row below found. part_whole n e few row below found (tree_whole n row.number.0)) rows parents (each_found rows (in_order entity_key rows rises)) in
      ap (λ trees. trees ++ e ∷ []) (flat_map_agree (part rows n e) (part rows (suc n) e) rows each ∙ flat_map_filtered (λ row. parent_of row == e) (λ row. tree (suc n) rows row.number.0) rows)

  kids_trees : (kids : List Entity) → trees rows (map (λ (b : Branch). b.number) (map branch_of kids)) ≡ flat_map (λ (row : Entity). tree_of rows row.number.0) kids
  kids_trees [] = refl
  kids_trees (x ∷ xs) = ap (λ rest. tree_of rows x.number.0 ++ rest) (kids_trees xs)

  pub tree_step : (e : ℕ) → is_some (entity_at rows e) ≡ true → tree_of rows e ≡ trees rows (map (λ (b : Branch). b.number) (map branch_of (children rows e))) ++ e ∷ []
  tree_step e there = by (entity_at rows e) refl
    where
      by : (found : Option Entity) → entity_at rows e ≡ found → tree_of rows e ≡ trees rows (map (λ (b : Branch). b.number) (map branch_of (children rows e))) ++ e ∷ []
      by None is = let wrong : false ≡ true = rw is at there in absurd (cc)
      by (Some row) is = tree_step_from (length rows) e (over_there rows e row is) ∙ ap (λ all. all ++ e ∷ []) (sym (kids_trees (children rows e)))

  -- the children are there
  pub kids_there : (e : ℕ) → AllByRecursion (λ (id : EntityId). is_some (entity_at rows id.0) ≡ true) (map (λ (b : Branch). b.number) (map branch_of (children rows e)))
  kids_there e =
      let found = all_from_all (λ (row : Entity). entity_at rows row.number.0 ≡ Some row) (λ row. is_some (entity_at rows row.number.0) ≡ true) (λ row is. rw is refl) rows (each_found rows (in_order entity_key rows rises)) in
      all_mapped (λ (b : Branch). b.number) _ (map branch_of (children rows e)) (all_mapped branch_of _ (children rows e) (all_filter _ (λ row. parent_of row == e) rows found))

  -- one entity is taken, and its children are begun in its place
  pub taken : (begun kids all : List EntityId) (id : EntityId) → tree_of rows id.0 ≡ trees rows kids ++ id.0 ∷ []
      → trees rows (begun ++ id ∷ []) ++ reverse (numbers_of all) ≡ trees rows (begun ++ kids) ++ reverse (numbers_of (all ++ id ∷ []))
  taken begun kids all id step =
      let tree_last = flat_map-append (λ (id : EntityId). tree_of rows id.0) begun (id ∷ []) in
      let kids_last = flat_map-append (λ (id : EntityId). tree_of rows id.0) begun kids in
      let back = ap reverse (map-append (λ (id : EntityId). id.0) all (id ∷ [])) ∙ reverse-append (numbers_of all) (id.0 ∷ []) in
      let one = append-nil (tree_of rows id.0) in
      rw (tree_last, kids_last, back, one, step)
      (ap (λ front. front ++ reverse (numbers_of all)) (sym (append_assoc (trees rows begun) (trees rows kids) (id.0 ∷ []))) ∙ append_assoc (trees rows begun ++ trees rows kids) (id.0 ∷ []) (reverse (numbers_of all)))

  pub fewer : (begun kids : List EntityId) (id : EntityId) → tree_of rows id.0 ≡ trees rows kids ++ id.0 ∷ []
      → length (trees rows (begun ++ kids)) < length (trees rows (begun ++ id ∷ []))
  fewer begun kids id step =
      let tree_last = flat_map-append (λ (id : EntityId). tree_of rows id.0) begun (id ∷ []) in
      let kids_last = flat_map-append (λ (id : EntityId). tree_of rows id.0) begun kids in
      let one = append-nil (tree_of rows id.0) in
      rw (tree_last, kids_last, one, step)
      (omega (arith, length-append (trees rows begun) (trees rows kids), length-append (trees rows begun) (trees rows kids ++ id.0 ∷ []), length-append (trees rows kids) (id.0 ∷ [])))

  -- an entity is there
  abbrev pub IsThere : EntityId → Type 0
  IsThere id = is_some (entity_at rows id.0) ≡ true

  -- what one round leaves: the order, entities that are there, and fewer entities to come
  pub tree_more : (before after left all more : List EntityId) (e : EntityId) (run : List Branch) (top : ℕ)
      → before ≡ left ++ e ∷ [] → after ≡ left ++ map (λ (b : Branch). b.number) run → run ≡ map branch_of (children rows e.0) → more ≡ all ++ e ∷ []
      → trees rows before ++ reverse (numbers_of all) ≡ tree_of rows top → AllByRecursion IsThere before
      → (trees rows after ++ reverse (numbers_of more) ≡ tree_of rows top) × (AllByRecursion IsThere after) × (length (trees rows after) < length (trees rows before))
  tree_more before after left all more e run top before_is after_is run_is more_is order there =
      let whole = subst (AllByRecursion IsThere) before_is there in
      let last = all_back IsThere left (e ∷ []) whole in
      let step = tree_step e.0 last.0 in
      let kids = map (λ (b : Branch). b.number) (map branch_of (children rows e.0)) in
      let grown : after ≡ left ++ kids = after_is ∙ ap (λ (bs : List Branch). left ++ map (λ (b : Branch). b.number) bs) run_is in
      let was = ap (λ ids. trees rows ids ++ reverse (numbers_of all)) before_is in (
        ap (λ ids. trees rows ids ++ reverse (numbers_of more)) grown ∙ ap (λ ids. trees rows (left ++ kids) ++ reverse (numbers_of ids)) more_is ∙ sym (taken left kids all e step) ∙ sym was ∙ order,
        subst (AllByRecursion IsThere) (sym grown) (all_joined IsThere left kids (all_front IsThere left (e ∷ []) whole) (kids_there e.0)),
        rw (before_is, grown) (fewer left kids e step),
      )
