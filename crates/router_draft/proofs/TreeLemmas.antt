-- The tree of an entity is the trees of its children, and then the entity.
use Rattle.std.proofs.Common.{◌≡◌, ℕ, zero, suc, ◌+◌, ◌<◌, ◌≤◌, ◌==◌, Bool, true, false, List, [], ◌∷◌, ◌++◌, Option, Some, None, map, length, reverse, refl, sym, ap, subst, ◌∙◌, arith, inl, inr}
use Rattle.std.specs.Prelude.{nat_lt, is_some, if◌then◌else◌, flat_map}
use Rattle.std.specs.List.{AllByRecursion, filter}
use Rattle.std.proofs.lemmas.Bool.{cases_Bool, cond_both}
use Rattle.std.proofs.lemmas.List.{append-nil, append_assoc, reverse-append, length-append}
use Rattle.std.proofs.lemmas.Bool.Decides.{nat_tests}
use Rattle.std.proofs.lemmas.List.Concat.{flat_map-append}
use Rattle.router_state.specs.declared.rows.Entity.{Entity}
use Rattle.router_state.specs.Trees.{entity_at, number_of, parent_of, children, tree, tree_of}
use Rattle.router_laws.proofs.RisingLemmas.{InOrder, order_from_rises}
use Rattle.router_draft.specs.After.{kids}
use Rattle.router_state.specs.State.{State}
use Rattle.router_draft.specs.Drafts.{AreTrees}

all_two : {X : Type 0} (P Q R : X → Type 0) → ((x : X) → P x → Q x → R x) → (xs : List X) → AllByRecursion P xs → AllByRecursion Q xs → AllByRecursion R xs
all_two P Q R follows [] ps qs = tt
all_two P Q R follows (x ∷ xs) ps qs = (follows x ps.0 qs.0, all_two P Q R follows xs ps.1 qs.1)

all_joined : {X : Type 0} (P : X → Type 0) (xs ys : List X) → AllByRecursion P xs → AllByRecursion P ys → AllByRecursion P (xs ++ ys)
all_joined P [] ys all also = also
all_joined P (x ∷ xs) ys all also = (all.0, all_joined P xs ys all.1 also)

all_front : {X : Type 0} (P : X → Type 0) (xs ys : List X) → AllByRecursion P (xs ++ ys) → AllByRecursion P xs
all_front P [] ys all = tt
all_front P (x ∷ xs) ys all = (all.0, all_front P xs ys all.1)

all_back : {X : Type 0} (P : X → Type 0) (xs ys : List X) → AllByRecursion P (xs ++ ys) → AllByRecursion P ys
all_back P [] ys all = all
all_back P (x ∷ xs) ys all = all_back P xs ys all.1

all_mapped : {X Y : Type 0} (f : X → Y) (P : Y → Type 0) (xs : List X) → AllByRecursion (λ x. P (f x)) xs → AllByRecursion P (map f xs)
all_mapped f P [] all = tt
all_mapped f P (x ∷ xs) all = (all.0, all_mapped f P xs all.1)

all_left : {X : Type 0} (P : X → Type 0) (p : X → Bool) (xs : List X) → AllByRecursion P xs → AllByRecursion P (filter p xs)
all_left P p [] all = tt
all_left P p (x ∷ xs) all = cond_both (p x) (x ∷ filter p xs) (filter p xs) (AllByRecursion P) (λ _. (all.0, all_left P p xs all.1)) (λ _. all_left P p xs all.1)

-- by number
abbrev by_number : Entity → Entity → Bool
by_number x y = nat_lt (number_of x) (number_of y)

goes_on : (x y z : Entity) → by_number x y ≡ true → by_number y z ≡ true → by_number x z ≡ true
goes_on x y z one two = grind (arith, nat_tests)

itself : (n : ℕ) → (n == n) ≡ true
itself n = grind (arith, nat_tests)

passed : (n m : ℕ) → nat_lt n m ≡ true → (n == m) ≡ false
passed n m low = grind (arith, nat_tests)

-- each entity is found by its number
each_found : (rows : List Entity) → InOrder by_number rows → AllByRecursion (λ row. entity_at rows row.number.0 ≡ Some row) rows
each_found [] order = tt
each_found (x ∷ xs) order = (
  rw (itself x.number.0) refl,
  all_two (λ y. by_number x y ≡ true) (λ y. entity_at xs y.number.0 ≡ Some y) (λ y. entity_at (x ∷ xs) y.number.0 ≡ Some y)
      (λ y low found. let other = passed x.number.0 y.number.0 low in rw other found) xs order.0 (each_found xs order.1),
)

-- how many entities have a greater number
abbrev over : List Entity → ℕ → ℕ
over [] e = 0
over (row ∷ rows) e = (if nat_lt e row.number.0 then 1 else 0) + over rows e

over_falls : (rows : List Entity) (e f : ℕ) → e ≤ f → over rows f ≤ over rows e
over_falls [] e f le = omega arith
over_falls (x ∷ xs) e f le = let more = over_falls xs e f le in grind (arith, nat_tests, more)

over_all : (rows : List Entity) (e : ℕ) → over rows e ≤ length rows
over_all [] e = omega arith
over_all (x ∷ xs) e = let more = over_all xs e in grind (arith, nat_tests, more)

over_found : (rows : List Entity) (e f : ℕ) (row : Entity) → entity_at rows f ≡ Some row → e < f → over rows f < over rows e
over_found [] e f row is lt = absurd (cc)
over_found (x ∷ xs) e f row is lt = elim (cases_Bool (x.number.0 == f)) [
  | inl mine ↦ let more = over_falls xs e f (omega (arith, lt)) in grind (arith, nat_tests, more, mine)
  | inr other ↦ let more = over_found xs e f row (rw other at is) lt in grind (arith, nat_tests, more)
]

over_there : (rows : List Entity) (e : ℕ) (row : Entity) → entity_at rows e ≡ Some row → over rows e < length rows
over_there [] e row is = absurd (cc)
over_there (x ∷ xs) e row is = elim (cases_Bool (x.number.0 == e)) [
  | inl mine ↦ let more = over_all xs e in grind (arith, nat_tests, more, mine)
  | inr other ↦ let more = over_there xs e row (rw other at is) in grind (arith, nat_tests, more)
]

flat_map_agree : {X Y : Type 0} (f g : X → List Y) (xs : List X) → AllByRecursion (λ x. f x ≡ g x) xs → flat_map f xs ≡ flat_map g xs
flat_map_agree f g [] all = refl
flat_map_agree f g (x ∷ xs) all = rw all.0 (ap (λ rest. g x ++ rest) (flat_map_agree f g xs all.1))

flat_map_filtered : {X Y : Type 0} (q : X → Bool) (f : X → List Y) (xs : List X) → flat_map (λ x. if q x then f x else []) xs ≡ flat_map f (filter q xs)
flat_map_filtered q f [] = refl
flat_map_filtered q f (x ∷ xs) = elim (cases_Bool (q x)) [
  | inl goes ↦ rw goes (ap (λ rest. f x ++ rest) (flat_map_filtered q f xs))
  | inr stays ↦ rw stays (flat_map_filtered q f xs)
]

-- what an entity adds to the tree of its parent
abbrev part : List Entity → ℕ → ℕ → Entity → List ℕ
part rows n e row = if parent_of row == e then tree n rows row.number.0 else []

-- the trees of these entities one after another
abbrev pub trees : List Entity → List ℕ → List ℕ
trees rows es = flat_map (λ e. tree_of rows e) es

-- each of these entities is there
abbrev pub AreThere : List Entity → List ℕ → Type 0
AreThere rows es = AllByRecursion (λ e. is_some (entity_at rows e) ≡ true) es

module _ (s : State) (forest : AreTrees s) where
  abbrev rows : List Entity
  rows = s.entities

  found : AllByRecursion (λ row. entity_at rows row.number.0 ≡ Some row) rows
  found = each_found rows (order_from_rises by_number goes_on rows forest.rising)

  part_whole : (n e : ℕ) → over rows e < suc n → (row : Entity) → parent_of row < row.number.0 → entity_at rows row.number.0 ≡ Some row
      → (over rows row.number.0 < n → tree n rows row.number.0 ≡ tree (suc n) rows row.number.0) → part rows n e row ≡ part rows (suc n) e row
  part_whole n e few row below there whole = elim (cases_Bool (parent_of row == e)) [
    | inl mine ↦
        let same : parent_of row ≡ e = grind (arith, nat_tests, mine) in
        let less = over_found rows e row.number.0 row there (omega (arith, below, same)) in
        rw mine (whole (omega (arith, less, few)))
    | inr other ↦ rw other refl
  ]

  -- more generations change nothing where there are more than entities of greater numbers
  tree_whole : (n e : ℕ) → over rows e < n → tree n rows e ≡ tree (suc n) rows e
  tree_whole zero e few = absurd (omega (arith, few))
  tree_whole (suc n) e few =
      let each = all_two (λ (row : Entity). parent_of row < row.number.0) (λ row. entity_at rows row.number.0 ≡ Some row) (λ row. part rows n e row ≡ part rows (suc n) e row) (λ row below there. part_whole n e few row below there (tree_whole n row.number.0)) rows forest.below found in
      ap (λ all. all ++ e ∷ []) (flat_map_agree (part rows n e) (part rows (suc n) e) rows each)

  tree_step_from : (n e : ℕ) → over rows e < n → tree n rows e ≡ flat_map (λ (row : Entity). tree n rows row.number.0) (children rows e) ++ e ∷ []
  tree_step_from zero e few = absurd (omega (arith, few))
  tree_step_from (suc n) e few =
      let each = all_two (λ (row : Entity). parent_of row < row.number.0) (λ row. entity_at rows row.number.0 ≡ Some row) (λ row. part rows n e row ≡ part rows (suc n) e row) (λ row below there. part_whole n e few row below there (tree_whole n row.number.0)) rows forest.below found in
      ap (λ all. all ++ e ∷ []) (flat_map_agree (part rows n e) (part rows (suc n) e) rows each ∙ flat_map_filtered (λ row. parent_of row == e) (λ row. tree (suc n) rows row.number.0) rows)

  kids_trees : (some : List Entity) → trees rows (map number_of some) ≡ flat_map (λ (row : Entity). tree_of rows row.number.0) some
  kids_trees [] = refl
  kids_trees (x ∷ xs) = ap (λ rest. tree_of rows x.number.0 ++ rest) (kids_trees xs)

  tree_step : (e : ℕ) → is_some (entity_at rows e) ≡ true → tree_of rows e ≡ trees rows (kids rows e) ++ e ∷ []
  tree_step e there = by (entity_at rows e) refl
    where
      by : (o : Option Entity) → entity_at rows e ≡ o → tree_of rows e ≡ trees rows (kids rows e) ++ e ∷ []
      by None is = let wrong : false ≡ true = rw is at there in absurd (cc)
      by (Some row) is = tree_step_from (length rows) e (over_there rows e row is) ∙ ap (λ all. all ++ e ∷ []) (sym (kids_trees (children rows e)))

  kids_there : (e : ℕ) → AreThere rows (kids rows e)
  kids_there e =
      let all = all_two (λ (row : Entity). entity_at rows row.number.0 ≡ Some row) (λ row. entity_at rows row.number.0 ≡ Some row) (λ row. is_some (entity_at rows row.number.0) ≡ true) (λ row is _. rw is refl) rows found found in
      all_mapped number_of (λ n. is_some (entity_at rows n) ≡ true) (children rows e) (all_left (λ (row : Entity). is_some (entity_at rows row.number.0) ≡ true) (λ row. parent_of row == e) rows all)

  -- one entity is taken, and its children are begun in its place
  taken : (begun more all : List ℕ) (e : ℕ) → tree_of rows e ≡ trees rows more ++ e ∷ [] → trees rows (begun ++ e ∷ []) ++ reverse all ≡ trees rows (begun ++ more) ++ reverse (all ++ e ∷ [])
  taken begun more all e step =
      let tree_last = flat_map-append (λ (n : ℕ). tree_of rows n) begun (e ∷ []) in
      let kids_last = flat_map-append (λ (n : ℕ). tree_of rows n) begun more in
      let back = reverse-append all (e ∷ []) in
      let one = append-nil (tree_of rows e) in
      rw (tree_last, kids_last, back, one, step)
      (ap (λ front. front ++ reverse all) (sym (append_assoc (trees rows begun) (trees rows more) (e ∷ []))) ∙ append_assoc (trees rows begun ++ trees rows more) (e ∷ []) (reverse all))

  fewer : (begun more : List ℕ) (e : ℕ) → tree_of rows e ≡ trees rows more ++ e ∷ [] → length (trees rows (begun ++ more)) < length (trees rows (begun ++ e ∷ []))
  fewer begun more e step =
      let tree_last = flat_map-append (λ (n : ℕ). tree_of rows n) begun (e ∷ []) in
      let kids_last = flat_map-append (λ (n : ℕ). tree_of rows n) begun more in
      let one = append-nil (tree_of rows e) in
      rw (tree_last, kids_last, one, step)
      (omega (arith, length-append (trees rows begun) (trees rows more), length-append (trees rows begun) (trees rows more ++ e ∷ []), length-append (trees rows more) (e ∷ [])))

  -- what one round leaves: the order, entities that are there, and fewer entities to come
  pub tree_more : (before after left all more : List ℕ) (e top : ℕ)
      → before ≡ left ++ e ∷ [] → after ≡ left ++ kids rows e → more ≡ all ++ e ∷ []
      → trees rows before ++ reverse all ≡ tree_of rows top → AreThere rows before
      → (trees rows after ++ reverse more ≡ tree_of rows top) × AreThere rows after × (length (trees rows after) < length (trees rows before))
  tree_more before after left all more e top before_is after_is more_is order there =
      let whole = subst (AreThere rows) before_is there in
      let last = all_back (λ n. is_some (entity_at rows n) ≡ true) left (e ∷ []) whole in
      let step = tree_step e last.0 in
      let was = ap (λ es. trees rows es ++ reverse all) before_is in (
        ap (λ es. trees rows es ++ reverse more) after_is ∙ ap (λ es. trees rows (left ++ kids rows e) ++ reverse es) more_is ∙ sym (taken left (kids rows e) all e step) ∙ sym was ∙ order,
        subst (AreThere rows) (sym after_is) (all_joined (λ n. is_some (entity_at rows n) ≡ true) left (kids rows e) (all_front (λ n. is_some (entity_at rows n) ≡ true) left (e ∷ []) whole) (kids_there e)),
        rw (before_is, after_is) (fewer left (kids rows e) e step),
      )
