-- A root that is held stays held when the trees of other roots go; so after closing every root is held.
use Rattle.std.proofs.Common.{◌≡◌, ℕ, zero, suc, ◌+◌, ◌<◌, ◌==◌, Bool, true, false, not, List, [], ◌∷◌, length, filter, map, refl, sym, ◌∙◌, ap, subst, inl, inr, ◌⊎◌, arith, if◌then◌else◌, flat_map}
use Rattle.std.specs.Prelude.{sum}
use Rattle.std.specs.List.{AllByRecursion}
use Rattle.std.proofs.lemmas.Bool.{cases_Bool, eqb-true, eq-eqb, false≢true, false_from_ne_true}
use Rattle.std.proofs.lemmas.List.Sums.{sum_by-cons}
use Rattle.router_laws.specs.Forest.{IsIn}
use Rattle.router_laws.proofs.ForestLemmas.{in_left, in_right, in_either, in_branches, from_branches, tree_top, trees_whole}
use Rattle.router_laws.proofs.ListRules.{filter_all, filter_in, in_filter}
use Rattle.router_laws.proofs.Removal.{in_list, is_in_list, from_in_list, left_entities, left_links}
use Rattle.router_state.specs.State.{State}
use Rattle.router_state.specs.Closed.{is_loose}
use Rattle.router_state.specs.Trees.{parent_of, children, links_of, attachment_count, count_of, tree, tree_of}
use Rattle.router_state.specs.declared.rows.Entity.{Entity}
use Rattle.router_state.specs.declared.rows.Link.{Link}
use Rattle.router_steps.specs.Closing.{close_root, close_roots}
use Rattle.router_steps.specs.Going.{tree_removed}
use Rattle.router_laws_closing.specs.Loose.{IsForest, IsRoot}

-- no two of these are the same
abbrev pub AreApart : List ℕ → Type 0
AreApart [] = Unit {0}
AreApart (e ∷ es) = AllByRecursion (λ f. e ≡ f → ⊥) es × AreApart es

-- counts that are 0

sum_more : {X : Type 0} (g : X → ℕ) (y : X) (ys : List X) → sum (map g (y ∷ ys)) ≡ g y + sum (map g ys)
sum_more g y ys = sum_by-cons (λ n. n) (g y) (map g ys)

sum_zero : {X : Type 0} (g : X → ℕ) (x : X) (xs : List X) → sum (map g xs) ≡ 0 → IsIn x xs → g x ≡ 0
sum_zero g x [] none there = elim there [ ]
sum_zero g x (y ∷ ys) none (inl same) = let both = sum_more g y ys in subst (λ z. g z ≡ 0) (sym same) (omega (arith, none, both))
sum_zero g x (y ∷ ys) none (inr more) = let both = sum_more g y ys in sum_zero g x ys (omega (arith, none, both)) more

zero_sum : {X : Type 0} (g : X → ℕ) (xs : List X) → ((x : X) → IsIn x xs → g x ≡ 0) → sum (map g xs) ≡ 0
zero_sum g [] each = refl
zero_sum g (y ∷ ys) each =
    let one = each y (inl refl) in
    let more = zero_sum g ys (λ x there. each x (inr there)) in
    let both = sum_more g y ys in
    omega (arith, one, more, both)

-- where the count is 0, nothing in the tree is attached
free_in_tree : (n : ℕ) (rows : List Entity) (links : List Link) (e x : ℕ) → attachment_count n rows links e ≡ 0 → IsIn x (tree n rows e) → links_of links x ≡ 0
free_in_tree zero rows links e x none there = elim there [ ]
free_in_tree (suc n) rows links e x none there =
    elim (in_either x (flat_map (λ row. if parent_of row == e then tree n rows row.number.0 else []) rows) (e ∷ []) there) [
      | inl deep ↦
          let found = from_branches n rows rows e x deep in
          let child : IsIn found.0 (children rows e) = filter_in (λ row. parent_of row == e) found.0 rows found.1 (eq-eqb (parent_of found.0) e found.2) in
          let empty : attachment_count n rows links found.0.number.0 ≡ 0 = sum_zero (λ row. attachment_count n rows links row.number.0) found.0 (children rows e) (omega (arith, none)) child in
          free_in_tree n rows links found.0.number.0 x empty found.3
      | inr top ↦ elim top [
        | inl same ↦ subst (λ y. links_of links y ≡ 0) (sym same) (omega (arith, none))
        | inr nowhere ↦ absurd nowhere
      ]
    ]

-- and where nothing in the tree is attached, the count is 0
loose_from : (n : ℕ) (rows : List Entity) (links : List Link) (e : ℕ) → ((x : ℕ) → IsIn x (tree n rows e) → links_of links x ≡ 0) → attachment_count n rows links e ≡ 0
loose_from zero rows links e free = refl
loose_from (suc n) rows links e free =
    let branches = flat_map (λ row. if parent_of row == e then tree n rows row.number.0 else []) rows in
    let own : links_of links e ≡ 0 = free e (in_right e branches (e ∷ []) (inl refl)) in
    let below : sum (map (λ row. attachment_count n rows links row.number.0) (children rows e)) ≡ 0 =
    zero_sum (λ row. attachment_count n rows links row.number.0) (children rows e)
    (λ row there. let found = in_filter (λ r. parent_of r == e) row rows there in
    loose_from n rows links row.number.0
    (λ x deep. free x (in_left x branches (e ∷ []) (in_branches n rows rows e x row found.0 (eqb-true (parent_of row) e found.1) deep)))) in
    omega (arith, own, below)

-- forests

-- a member of a tree is its top, or below another member
member : (n : ℕ) (rows : List Entity) (e x : ℕ) → IsIn x (tree n rows e) → (x ≡ e) ⊎ ((row : Entity) × IsIn row rows × (row.number.0 ≡ x) × IsIn (parent_of row) (tree n rows e))
member zero rows e x there = elim there [ ]
member (suc n) rows e x there =
    let branches = flat_map (λ row. if parent_of row == e then tree n rows row.number.0 else []) rows in
    elim (in_either x branches (e ∷ []) there) [
      | inl deep ↦
          let found = from_branches n rows rows e x deep in
          elim (member n rows found.0.number.0 x found.3) [
            | inl top ↦ inr (found.0, found.1, sym top, in_right (parent_of found.0) branches (e ∷ []) (inl found.2))
            | inr inner ↦ inr (inner.0, inner.1, inner.2, in_left (parent_of inner.0) branches (e ∷ []) (in_branches n rows rows e (parent_of inner.0) found.0 found.1 found.2 inner.3))
          ]
      | inr top ↦ elim top [
        | inl same ↦ inl same
        | inr nowhere ↦ absurd nowhere
      ]
    ]

-- a root that is there
no_zero : (rows : List Entity) (e : ℕ) → IsForest rows → IsRoot rows e → IsIn 0 (tree_of rows e) → ⊥
no_zero rows e forest root there = elim (member (length rows) rows e 0 there) [
  | inl top ↦ omega (arith, top, root.2, forest.below root.0 root.1)
  | inr row ↦ omega (arith, row.2, forest.below row.0 row.1)
]

-- what is in the trees of two roots
disjoint : (k : ℕ) (rows : List Entity) (e f x : ℕ) → IsForest rows → IsRoot rows e → IsRoot rows f → (e ≡ f → ⊥) → x < k → IsIn x (tree_of rows e) → IsIn x (tree_of rows f) → ⊥
disjoint zero rows e f x forest one two other less here there = omega (arith, less)
disjoint (suc k) rows e f x forest one two other less here there = elim (member (length rows) rows e x here) [
  | inl top ↦ elim (member (length rows) rows f x there) [
    | inl also ↦ other (sym top ∙ also)
    | inr row ↦ no_zero rows f forest two (subst (λ p. IsIn p (tree_of rows f)) (parent row.0 e one row.1 (row.2 ∙ top)) row.3)
  ]
  | inr row ↦ elim (member (length rows) rows f x there) [
    | inl top ↦ no_zero rows e forest one (subst (λ p. IsIn p (tree_of rows e)) (parent row.0 f two row.1 (row.2 ∙ top)) row.3)
    | inr other_row ↦
        let same : row.0 ≡ other_row.0 = forest.once row.0 other_row.0 row.1 other_row.1 (row.2 ∙ sym other_row.2) in
        let less_parent : parent_of row.0 < k = omega (arith, forest.below row.0 row.1, row.2, less) in
        disjoint k rows e f (parent_of row.0) forest one two other less_parent row.3 (subst (λ (r : Entity). IsIn (parent_of r) (tree_of rows f)) (sym same) other_row.3)
  ]
]
  where
    parent : (r : Entity) (g : ℕ) (root : IsRoot rows g) → IsIn r rows → r.number.0 ≡ g → parent_of r ≡ 0
    parent r g root in_rows number = ap parent_of (forest.once r root.0 in_rows root.1 (number ∙ sym root.2)) ∙ root.3

-- without the tree of a root

abbrev left_of : List ℕ → List Entity → List Entity
left_of gone rows = filter (λ row. not (in_list row.number.0 gone)) rows

pub forest_left : (gone : List ℕ) (rows : List Entity) → IsForest rows → IsForest (left_of gone rows)
forest_left gone rows forest = record {
  once = λ r q r_in q_in same. forest.once r q (in_filter _ r rows r_in).0 (in_filter _ q rows q_in).0 same;
  below = λ r r_in. forest.below r (in_filter _ r rows r_in).0;
}

not_in : (x : ℕ) (gone : List ℕ) → (IsIn x gone → ⊥) → not (in_list x gone) ≡ true
not_in x gone out = elim (cases_Bool (in_list x gone)) [
  | inl is ↦ absurd (out (from_in_list x gone is))
  | inr isnt ↦ rw isnt refl
]

-- what was in the tree of another root still is
still_in : (k : ℕ) (rows : List Entity) (e f x : ℕ) → IsForest rows → IsRoot rows e → IsRoot rows f → (e ≡ f → ⊥) → x < k
    → IsIn x (tree_of rows f) → IsIn x (tree_of (left_of (tree_of rows e) rows) f)
still_in zero rows e f x forest one two other less there = absurd (omega (arith, less))
still_in (suc k) rows e f x forest one two other less there =
    let gone = tree_of rows e in
    let out = not_in x gone (λ here. disjoint (x + 1) rows e f x forest one two other (omega arith) here there) in
    elim (member (length rows) rows f x there) [
      | inl top ↦
          let row_in : IsIn two.0 (left_of gone rows) = filter_in (λ row. not (in_list row.number.0 gone)) two.0 rows two.1 (subst (λ y. not (in_list y gone) ≡ true) (top ∙ sym two.2) out) in
          subst (λ y. IsIn y (tree_of (left_of gone rows) f)) (sym top) (tree_top (length (left_of gone rows)) (left_of gone rows) f (some_length two.0 (left_of gone rows) row_in))
      | inr row ↦
          let less_parent : parent_of row.0 < k = omega (arith, forest.below row.0 row.1, row.2, less) in
          let above = still_in k rows e f (parent_of row.0) forest one two other less_parent row.3 in
          let row_in : IsIn row.0 (left_of gone rows) = filter_in (λ r. not (in_list r.number.0 gone)) row.0 rows row.1 (subst (λ y. not (in_list y gone) ≡ true) (sym row.2) out) in
          let root_out = not_in f gone (λ here. disjoint (f + 1) rows e f f forest one two other (omega arith) here (root_in rows f two)) in
          let root_left : IsIn two.0 (left_of gone rows) = filter_in (λ r. not (in_list r.number.0 gone)) two.0 rows two.1 (subst (λ y. not (in_list y gone) ≡ true) (sym two.2) root_out) in
          subst (λ y. IsIn y (tree_of (left_of gone rows) f)) row.2
          (subst (λ g. IsIn row.0.number.0 (tree_of (left_of gone rows) g)) two.2
          (trees_whole (left_of gone rows) (forest_left gone rows forest).below two.0 row.0 root_left row_in (subst (λ g. IsIn (parent_of row.0) (tree_of (left_of gone rows) g)) (sym two.2) above)))
    ]
  where
    some_length : (r : Entity) (rs : List Entity) → IsIn r rs → 0 < length rs
    some_length r [] there = elim there [ ]
    some_length r (q ∷ rs) there = omega arith

    root_in : (rows : List Entity) (f : ℕ) → IsRoot rows f → IsIn f (tree_of rows f)
    root_in rows f root = tree_top (length rows) rows f (some_length root.0 rows root.1)

-- and what is attached to it
links_left : (gone : List ℕ) (links : List Link) (x : ℕ) → not (in_list x gone) ≡ true → links_of (filter (λ l. not (in_list l.entity.0 gone)) links) x ≡ links_of links x
links_left gone links x out = ap length (filter_all (λ (l : Link). l.entity.0 == x) (λ l. not (in_list l.entity.0 gone)) links (each links))
  where
    each : (ls : List Link) → AllByRecursion (λ (l : Link). (l.entity.0 == x) ≡ true → not (in_list l.entity.0 gone) ≡ true) ls
    each [] = tt
    each (l ∷ ls) = ((λ is. subst (λ y. not (in_list y gone) ≡ true) (sym (eqb-true l.entity.0 x is)) out), each ls)

pub stays_held : (s : State) (e f : ℕ) → IsForest s.entities → IsRoot s.entities e → IsRoot s.entities f → (e ≡ f → ⊥)
    → is_loose s.entities s.links f ≡ false → is_loose (tree_removed s e).entities (tree_removed s e).links f ≡ false
stays_held s e f forest one two other held =
    let gone = tree_of s.entities e in
    rw (left_entities gone s, left_links gone s)
    (false_from_ne_true (is_loose (left_of gone s.entities) (filter (λ l. not (in_list l.entity.0 gone)) s.links) f)
    (λ loose. false≢true (sym held ∙ eq-eqb (count_of s.entities s.links f) 0 (loose_from (length s.entities) s.entities s.links f
    (λ x there.
    let kept = still_in (x + 1) s.entities e f x forest one two other (omega arith) there in
    let out = not_in x gone (λ here. disjoint (x + 1) s.entities e f x forest one two other (omega arith) here there) in
    sym (links_left gone s.links x out) ∙ free_in_tree (length (left_of gone s.entities)) (left_of gone s.entities) (filter (λ l. not (in_list l.entity.0 gone)) s.links) f x (eqb-true _ 0 loose) kept)))))

-- closing roots, one after another

abbrev pub IsHeld : State → ℕ → Type 0
IsHeld s f = is_loose s.entities s.links f ≡ false

apart_at : (e f : ℕ) (es : List ℕ) → AllByRecursion (λ g. e ≡ g → ⊥) es → IsIn f es → e ≡ f → ⊥
apart_at e f [] all there = elim there [ ]
apart_at e f (g ∷ es) all (inl same) = λ is. all.0 (is ∙ same)
apart_at e f (g ∷ es) all (inr more) = apart_at e f es all.1 more

nonempty : (r : Entity) (rows : List Entity) → IsIn r rows → 0 < length rows
nonempty r [] there = elim there [ ]
nonempty r (q ∷ rows) there = omega arith

root_stays : (s : State) (e f : ℕ) → IsForest s.entities → IsRoot s.entities e → IsRoot s.entities f → (e ≡ f → ⊥) → IsRoot (tree_removed s e).entities f
root_stays s e f forest one two other =
    let gone = tree_of s.entities e in
    let own = tree_top (length s.entities) s.entities f (nonempty two.0 s.entities two.1) in
    let out = not_in f gone (λ here. disjoint (f + 1) s.entities e f f forest one two other (omega arith) here own) in
    rw (left_entities gone s) (two.0, filter_in (λ row. not (in_list row.number.0 gone)) two.0 s.entities two.1 (subst (λ y. not (in_list y gone) ≡ true) (sym two.2) out), two.2, two.3)

root_was : (s : State) (e f : ℕ) → IsRoot (tree_removed s e).entities f → IsRoot s.entities f × (not (in_list f (tree_of s.entities e)) ≡ true)
root_was s e f root =
    let gone = tree_of s.entities e in
    let left : IsRoot (left_of gone s.entities) f = rw (left_entities gone s) at root in
    let found = in_filter (λ row. not (in_list row.number.0 gone)) left.0 s.entities left.1 in
    ((left.0, found.0, left.2, left.3), subst (λ y. not (in_list y gone) ≡ true) left.2 found.1)

out_is : (b : Bool) → not b ≡ true → b ≡ true → ⊥
out_is true one two = absurd (cc)
out_is false one two = absurd (cc)

forest_removed : (s : State) (e : ℕ) → IsForest s.entities → IsForest (tree_removed s e).entities
forest_removed s e forest = rw (left_entities (tree_of s.entities e) s) (forest_left (tree_of s.entities e) s.entities forest)

pub roots_held : (es : List ℕ) (s : State) → IsForest s.entities → ((f : ℕ) → IsIn f es → IsRoot s.entities f) → AreApart es
    → ((f : ℕ) → IsRoot s.entities f → IsIn f es ⊎ IsHeld s f) → (f : ℕ) → IsRoot (close_roots es s).entities f → IsHeld (close_roots es s) f
roots_held [] s forest tops apart all f root = elim (all f root) [
  | inl none ↦ absurd none
  | inr held ↦ held
]
roots_held (e ∷ es) s forest tops apart all f root = elim (cases_Bool (is_loose s.entities s.links e)) [
  | inl loose ↦
      let t = tree_removed s e in
      let closed : close_root e s ≡ t = rw loose refl in
      subst (λ (u : State). IsHeld (close_roots es u) f) (sym closed) (roots_held es t (forest_removed s e forest)
      (λ g there. root_stays s e g forest (tops e (inl refl)) (tops g (inr there)) (apart_at e g es apart.0 there)) apart.1
      (λ g was. later s e es g forest (tops e (inl refl)) all was) f (subst (λ (u : State). IsRoot (close_roots es u).entities f) closed root))
  | inr held ↦
      let closed : close_root e s ≡ s = rw held refl in
      subst (λ (u : State). IsHeld (close_roots es u) f) (sym closed) (roots_held es s forest (λ g there. tops g (inr there)) apart.1 (λ g was. still s e es g held all was) f (subst (λ (u : State). IsRoot (close_roots es u).entities f) closed root))
]
  where
    still : (s : State) (e : ℕ) (es : List ℕ) (g : ℕ) → IsHeld s e → ((f : ℕ) → IsRoot s.entities f → IsIn f (e ∷ es) ⊎ IsHeld s f) → IsRoot s.entities g → IsIn g es ⊎ IsHeld s g
    still s e es g held all was = elim (all g was) [
      | inl there ↦ elim there [
        | inl same ↦ inr (subst (IsHeld s) (sym same) held)
        | inr more ↦ inl more
      ]
      | inr already ↦ inr already
    ]

    later : (s : State) (e : ℕ) (es : List ℕ) (g : ℕ) → IsForest s.entities → IsRoot s.entities e → ((f : ℕ) → IsRoot s.entities f → IsIn f (e ∷ es) ⊎ IsHeld s f) → IsRoot (tree_removed s e).entities g
        → IsIn g es ⊎ IsHeld (tree_removed s e) g
    later s e es g forest one all was =
        let before = root_was s e g was in
        let other : e ≡ g → ⊥ = λ same. out_is (in_list g (tree_of s.entities e)) before.1 (is_in_list g (tree_of s.entities e) (subst (λ y. IsIn y (tree_of s.entities e)) same (tree_top (length s.entities) s.entities e (nonempty one.0 s.entities one.1)))) in
        elim (all g before.0) [
          | inl there ↦ elim there [
            | inl same ↦ absurd (other (sym same))
            | inr more ↦ inl more
          ]
          | inr held ↦ inr (stays_held s e g forest one before.0 other held)
        ]
