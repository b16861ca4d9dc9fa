-- Paths once an entity has another priority: they go through it only where they are those of its tree.
use Rattle.std.proofs.Common.{◌≡◌, ℕ, zero, suc, ℤ, ◌<◌, ◌==◌, Bool, true, false, List, [], ◌∷◌, ◌++◌, Option, Some, None, map, length, refl, sym, ap, subst, ◌∙◌, arith, inl, inr}
use Rattle.std.specs.Prelude.{◌||◌, option_map}
use Rattle.std.specs.List.{AllByRecursion, list_any}
use Rattle.std.proofs.lemmas.Bool.{cases_Bool, and_parts}
use Rattle.std.proofs.lemmas.Bool.Decides.{nat_tests}
use Rattle.router_state.specs.declared.rows.Entity.{Entity}
use Rattle.router_state.specs.declared.rows.Link.{Link}
use Rattle.rows_sorted.specs.Orders.{rises_by}
use Rattle.router_state.specs.Contexts.{is_linked}
use Rattle.router_state.specs.Trees.{children, entity_at, has_priority, parent_of, tree_of, with_priority}
use Rattle.router_state.specs.Paths.{path}
use Rattle.rows_sorted.specs.Keys.{Rises}
use Rattle.router_state.specs.Keys.{entity_key}
use Rattle.rows_sorted.proofs.OrderLemmas.{all_from_all}
use Rattle.entity_tree.specs.declared.branch.Branch.{Branch}
use Rattle.entity_tree.specs.Kept.{AreParents, branch_of, is_entity}
use Rattle.entity_tree.specs.Climbing.{path_at, step_of}
use Rattle.entity_tree.proofs.PathLemmas.{no_path, parent_lower, path_step}
use Rattle.entity_tree.proofs.RowLemmas.{found_number, same_number}
use Rattle.entity_tree.proofs.TreeLemmas.{tree_step, trees}
use Rattle.rows_index.proofs.RowLemmas.{any_fails}
use Rattle.router_order.specs.Listed.{IsListing, listed_before}
use Rattle.router_order.proofs.LinkLemmas.{any_joined}
use Rattle.router_order.proofs.ListingLemmas.{true_both}
use Rattle.router_order.proofs.MoveLemmas.{each_linked}

-- the path goes through the entity of this number
abbrev through : ℕ → List (ℤ × ℕ) → Bool
through e p = list_any (λ s. s.1 == e) p

-- the number is among these
abbrev pub among : ℕ → List ℕ → Bool
among f numbers = list_any (λ n. n == f) numbers

entity_still : (rows : List Entity) (e : ℕ) (priority : ℤ) (f : ℕ) → entity_at (with_priority rows e priority) f ≡ option_map (has_priority e priority) (entity_at rows f)
entity_still [] e priority f = refl
entity_still (x ∷ xs) e priority f = elim (cases_Bool (x.number.0 == f)) [
  | inl mine ↦ rw (same_number e priority x, mine) refl
  | inr other ↦ rw (same_number e priority x, other) (entity_still xs e priority f)
]

-- who is there doesn't depend on priorities
pub still_there : (rows : List Entity) (e : ℕ) (priority : ℤ) (f : ℕ) → is_entity (with_priority rows e priority) f ≡ is_entity rows f
still_there [] e priority f = refl
still_there (x ∷ xs) e priority f = elim (cases_Bool (x.number.0 == f)) [
  | inl mine ↦ rw (same_number e priority x, mine) refl
  | inr other ↦ rw (same_number e priority x, other) (still_there xs e priority f)
]

pub all_still_there : (es : List Entity) (e : ℕ) (priority : ℤ) (links : List Link) → AllByRecursion (λ row. is_entity es row.entity.0 ≡ true) links → AllByRecursion (λ row. is_entity (with_priority es e priority) row.entity.0 ≡ true) links
all_still_there es e priority links all =
    all_from_all (λ (row : Link). is_entity es row.entity.0 ≡ true) (λ row. is_entity (with_priority es e priority) row.entity.0 ≡ true) (λ row there. still_there es e priority row.entity.0 ∙ there) links all

pub still_all : (es fs : List Entity) (e : ℕ) (priority : ℤ) (links : List Link) → fs ≡ with_priority es e priority → AllByRecursion (λ row. is_entity es row.entity.0 ≡ true) links → AllByRecursion (λ row. is_entity fs row.entity.0 ≡ true) links
still_all es fs e priority links is all = subst (λ (rows : List Entity). AllByRecursion (λ (row : Link). is_entity rows row.entity.0 ≡ true) links) (sym is) (all_still_there es e priority links all)

length_still : (rows : List Entity) (e : ℕ) (priority : ℤ) → length (with_priority rows e priority) ≡ length rows
length_still [] e priority = refl
length_still (x ∷ xs) e priority = ap suc (length_still xs e priority)

-- neither of two passes where none of both does
neither : (a b : Bool) → (a || b) ≡ false → (a ≡ false) × (b ≡ false)
neither true b none = absurd (cc)
neither false b none = (refl, none)

-- a path that doesn't go through the entity stays
path_still : (n : ℕ) (rows : List Entity) (e : ℕ) (priority : ℤ) (f : ℕ) → through e (path n (with_priority rows e priority) f) ≡ false → path n (with_priority rows e priority) f ≡ path n rows f
path_still zero rows e priority f apart = refl
path_still (suc n) rows e priority f apart = by (λ p above. path_still n rows e priority p above) (entity_at rows f) refl
  where
    by : ((p : ℕ) → through e (path n (with_priority rows e priority) p) ≡ false → path n (with_priority rows e priority) p ≡ path n rows p) → (found : Option Entity) → entity_at rows f ≡ found
        → path (suc n) (with_priority rows e priority) f ≡ path (suc n) rows f
    by more_of None is = rw (entity_still rows e priority f, is) refl
    by more_of (Some row) is =
        let here = rw (entity_still rows e priority f, is) at apart in
        let parts = neither _ _ (sym (any_joined (λ (s : ℤ × ℕ). s.1 == e) (path n (with_priority rows e priority) (parent_of (has_priority e priority row))) (step_of (has_priority e priority row) ∷ [])) ∙ here) in
        let last = neither _ _ parts.1 in
        let number : (row.number.0 == e) ≡ false = sym (ap (λ (k : ℕ). k == e) (λ i. (same_number e priority row i).0)) ∙ last.0 in
        let same : has_priority e priority row ≡ row = rw number refl in
        let above = subst (λ (r : Entity). through e (path n (with_priority rows e priority) (parent_of r)) ≡ false) same parts.0 in
        let more = more_of (parent_of row) above in
        let grown : path (suc n) (with_priority rows e priority) f ≡ path n (with_priority rows e priority) (parent_of (has_priority e priority row)) ++ step_of (has_priority e priority row) ∷ [] = rw (entity_still rows e priority f, is) refl in
        let was : path (suc n) rows f ≡ path n rows (parent_of row) ++ step_of row ∷ [] = rw is refl in
        grown ∙ ap (λ (r : Entity). path n (with_priority rows e priority) (parent_of r) ++ step_of r ∷ []) same ∙ ap (λ p. p ++ step_of row ∷ []) more ∙ sym was

left_true : (a b : Bool) → a ≡ true → (a || b) ≡ true
left_true true b is = refl
left_true false b is = cc

right_true : (a b : Bool) → b ≡ true → (a || b) ≡ true
right_true true b is = refl
right_true false b is = is

either_true : (a b : Bool) → (a || b) ≡ true → b ≡ false → a ≡ true
either_true true b is none = refl
either_true false b is none = absurd (cc)

module _ (rows : List Entity) (rises : Rises entity_key rows) (parents : AreParents rows) where
  in_own_tree : (e : ℕ) → is_entity rows e ≡ true → among e (tree_of rows e) ≡ true
  in_own_tree e there =
      let kids = map (λ (b : Branch). b.number) (map branch_of (children rows e)) in
      let own : (e == e) ≡ true = grind (arith, nat_tests) in
      ap (among e) (tree_step rows rises parents e there)
      ∙ any_joined (λ n. n == e) (trees rows kids) (e ∷ [])
      ∙ right_true (among e (trees rows kids)) (among e (e ∷ [])) (rw own refl)

  -- the tree of a child is among those of the children
  in_trees : (f g p : ℕ) (row : Entity) (some : List Entity) → entity_at some f ≡ Some row → parent_of row ≡ p → among g (tree_of rows f) ≡ true
      → among g (trees rows (map (λ (b : Branch). b.number) (map branch_of (children some p)))) ≡ true
  in_trees f g p row [] is parent has = absurd (cc)
  in_trees f g p row (x ∷ xs) is parent has = elim (cases_Bool (x.number.0 == f)) [
    | inl mine ↦
        let first : Some x ≡ Some row = rw mine at is in
        let same : x ≡ row = cc in
        let number : x.number.0 ≡ f = grind (arith, nat_tests, mine) in
        let over : parent_of x ≡ p = ap parent_of same ∙ parent in
        let child : (parent_of x == p) ≡ true = grind (arith, nat_tests, over) in
        let own : among g (tree_of rows x.number.0) ≡ true = subst (λ n. among g (tree_of rows n) ≡ true) (sym number) has in
        let rest = map (λ (b : Branch). b.number) (map branch_of (children xs p)) in
        rw child (any_joined (λ n. n == g) (tree_of rows x.number.0) (trees rows rest) ∙ left_true (among g (tree_of rows x.number.0)) (among g (trees rows rest)) own)
    | inr other ↦
        let more = in_trees f g p row xs (rw other at is) parent has in
        let rest = map (λ (b : Branch). b.number) (map branch_of (children xs p)) in
        elim (cases_Bool (parent_of x == p)) [
          | inl child ↦ rw child (any_joined (λ n. n == g) (tree_of rows x.number.0) (trees rows rest) ∙ right_true (among g (tree_of rows x.number.0)) (among g (trees rows rest)) more)
          | inr not_child ↦ rw not_child more
        ]
  ]

  -- the tree of a child is a part of that of its parent
  in_parents_tree : (f g : ℕ) (row : Entity) → entity_at rows f ≡ Some row → is_entity rows (parent_of row) ≡ true → among g (tree_of rows f) ≡ true → among g (tree_of rows (parent_of row)) ≡ true
  in_parents_tree f g row is there has =
      let kids = map (λ (b : Branch). b.number) (map branch_of (children rows (parent_of row))) in
      ap (among g) (tree_step rows rises parents (parent_of row) there)
      ∙ any_joined (λ n. n == g) (trees rows kids) (parent_of row ∷ [])
      ∙ left_true (among g (trees rows kids)) (among g (parent_of row ∷ [])) (in_trees f g (parent_of row) row rows is refl has)

  there_through : (e f : ℕ) → through e (path_at rows f) ≡ true → is_entity rows f ≡ true
  there_through e f goes = by (entity_at rows f) refl
    where
      by : (found : Option Entity) → entity_at rows f ≡ found → is_entity rows f ≡ true
      by None is = absurd (let wrong = rw (no_path rows parents f is) at goes in cc)
      by (Some row) is = rw is refl

  -- what is in the tree of an entity whose path goes through another one is in the tree of that one
  in_tree_through : (n e f g : ℕ) → f < n → through e (path_at rows f) ≡ true → among g (tree_of rows f) ≡ true → among g (tree_of rows e) ≡ true
  in_tree_through zero e f g low goes has = absurd (omega (arith, low))
  in_tree_through (suc n) e f g low goes has = by (entity_at rows f) refl (λ row less. in_tree_through n e (parent_of row) g (omega (arith, low, less)))
    where
      by : (found : Option Entity) → entity_at rows f ≡ found → ((row : Entity) → parent_of row < f → through e (path_at rows (parent_of row)) ≡ true → among g (tree_of rows (parent_of row)) ≡ true → among g (tree_of rows e) ≡ true)
          → among g (tree_of rows e) ≡ true
      by None is above = absurd (let wrong = rw (no_path rows parents f is) at goes in cc)
      by (Some row) is above = elim (cases_Bool (row.number.0 == e)) [
        | inl mine ↦
            let number = found_number f row rows is in
            let same : f ≡ e = grind (arith, nat_tests, mine, number) in
            subst (λ n. among g (tree_of rows n) ≡ true) same has
        | inr other ↦
            let steps = sym (any_joined (λ (s : ℤ × ℕ). s.1 == e) (path_at rows (parent_of row)) (step_of row ∷ [])) ∙ ap (through e) (sym (path_step rows parents f row is)) ∙ goes in
            let over = either_true (through e (path_at rows (parent_of row))) (through e (step_of row ∷ [])) steps (rw other refl) in
            above row (parent_lower rows parents f row is) over (in_parents_tree f g row is (there_through e (parent_of row) over) has)
      ]

  -- the path of an entity that isn't in the tree of another one doesn't go through that one
  pub not_through : (e f : ℕ) → among f (tree_of rows e) ≡ false → through e (path_at rows f) ≡ false
  not_through e f apart = elim (cases_Bool (through e (path_at rows f))) [
    | inl goes ↦ absurd (let wrong = in_tree_through (suc f) e f f (omega arith) goes (in_own_tree f (there_through e f goes)) in cc)
    | inr stays ↦ stays
  ]

-- the paths of entities that aren't in the tree of the one that has another priority stay
path_at_still : (es fs : List Entity) (e : ℕ) (priority : ℤ) (f : ℕ) → fs ≡ with_priority es e priority → Rises entity_key fs → AreParents fs → among f (tree_of fs e) ≡ false → path_at fs f ≡ path_at es f
path_at_still es fs e priority f is rises parents apart =
    let stays = not_through fs rises parents e f apart in
    let here = subst (λ (rows : List Entity). through e (path (length rows) rows f) ≡ false) is stays in
    let long = length_still es e priority in
    let short = subst (λ n. through e (path n (with_priority es e priority) f) ≡ false) long here in
    ap (λ (rows : List Entity). path (length rows) rows f) is ∙ ap (λ n. path n (with_priority es e priority) f) long ∙ path_still (length es) es e priority f short

pub rises_alike : (es fs : List Entity) (links : List Link) → AllByRecursion (λ (l : Link). path_at fs l.entity.0 ≡ path_at es l.entity.0) links → rises_by (listed_before es) links ≡ true → rises_by (listed_before fs) links ≡ true
rises_alike es fs [] same rises = refl
rises_alike es fs (x ∷ []) same rises = refl
rises_alike es fs (x ∷ y ∷ links) same rises =
    let parts = and_parts (listed_before es x y) (rises_by (listed_before es) (y ∷ links)) rises in
    let first : listed_before fs x y ≡ true = rw (same.0, same.1.0) parts.0 in
    true_both (listed_before fs x y) (rises_by (listed_before fs) (y ∷ links)) first (rises_alike es fs (y ∷ links) same.1 parts.1)

-- attachments of such entities stay listed
pub listed_still : (es fs : List Entity) (e : ℕ) (priority : ℤ) (links : List Link) → fs ≡ with_priority es e priority → Rises entity_key fs → AreParents fs
    → list_any (λ (l : Link). among l.entity.0 (tree_of fs e)) links ≡ false → IsListing es links → IsListing fs links
listed_still es fs e priority links is rises parents none listing = record {
  rises = rises_alike es fs links (all_apart links none) listing.rises;
  there = subst (λ (rows : List Entity). AllByRecursion (λ (row : Link). is_entity rows row.entity.0 ≡ true) links) (sym is) (all_still_there es e priority links listing.there);
}
  where
    all_apart : (some : List Link) → list_any (λ (l : Link). among l.entity.0 (tree_of fs e)) some ≡ false → AllByRecursion (λ (l : Link). path_at fs l.entity.0 ≡ path_at es l.entity.0) some
    all_apart [] none = tt
    all_apart (x ∷ xs) none = let parts = neither _ _ none in (path_at_still es fs e priority x.entity.0 is rises parents parts.0, all_apart xs parts.1)

-- the priority of an entity that isn't there changes nothing
same_without : (rows : List Entity) (e : ℕ) (priority : ℤ) → entity_at rows e ≡ None → with_priority rows e priority ≡ rows
same_without [] e priority none = refl
same_without (x ∷ xs) e priority none = elim (cases_Bool (x.number.0 == e)) [
  | inl mine ↦ absurd (let wrong : Some x ≡ None = rw mine at none in cc)
  | inr other ↦ rw other (ap (λ rest. x ∷ rest) (same_without xs e priority (rw other at none)))
]

pub none_changed : (es fs : List Entity) (e : ℕ) (priority : ℤ) → fs ≡ with_priority es e priority → None ≡ entity_at fs e → fs ≡ es
none_changed es fs e priority is none = is ∙ same_without es e priority (by (entity_at es e) refl)
  where
    by : (found : Option Entity) → entity_at es e ≡ found → entity_at es e ≡ None
    by None at = at
    by (Some row) at = absurd (let wrong : None ≡ Some (has_priority e priority row) = none ∙ ap (λ (rows : List Entity). entity_at rows e) is ∙ entity_still es e priority e ∙ ap (option_map (has_priority e priority)) at in cc)

-- attachments that were listed stay so where none is left of an entity of the tree
pub left_listed : (es fs : List Entity) (e : ℕ) (priority : ℤ) (left : List Link) → fs ≡ with_priority es e priority → Rises entity_key fs → AreParents fs → IsListing es left
    → ((f a : ℕ) → among f (tree_of fs e) ≡ true → is_linked left f a ≡ false) → IsListing fs left
left_listed es fs e priority left is rises parents listing gone =
    listed_still es fs e priority left is rises parents (any_fails (λ (l : Link). among l.entity.0 (tree_of fs e)) left (all_from_all (λ (l : Link). is_linked left l.entity.0 l.activity.0 ≡ true) (λ (l : Link). among l.entity.0 (tree_of fs e) ≡ false) one left (each_linked left))) listing
  where
    one : (l : Link) → is_linked left l.entity.0 l.activity.0 ≡ true → among l.entity.0 (tree_of fs e) ≡ false
    one l there = elim (cases_Bool (among l.entity.0 (tree_of fs e))) [
      | inl below ↦ absurd (let wrong = sym there ∙ gone l.entity.0 l.activity.0 below in cc)
      | inr apart ↦ apart
    ]
