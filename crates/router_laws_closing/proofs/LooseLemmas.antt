-- Roots in whose trees nothing is attached, and what their going leaves of the others.
use Rattle.std.proofs.Common.{◌≡◌, ℕ, zero, suc, ◌+◌, ◌<◌, ◌==◌, inl, inr, true, false, Bool, List, [], ◌∷◌, length, filter, map, flat_map, refl, sym, ◌∙◌, ap, subst, arith, if◌then◌else◌}
use Rattle.std.specs.Prelude.{not, sum}
use Rattle.std.proofs.lemmas.Bool.{cases_Bool}
use Rattle.std.proofs.lemmas.Bool.Decides.{nat_tests}
use Rattle.std.proofs.lemmas.List.Sums.{sum_by-cons, sum-map}
use Rattle.router_state.specs.Trees.{attachment_count, children, count_of, links_of, parent_of, tree, tree_of}
use Rattle.router_state.specs.declared.rows.Entity.{Entity}
use Rattle.router_state.specs.declared.rows.Link.{Link}
use Rattle.router_laws.proofs.ForestLemmas.{from_branches, in_branches, in_either, in_left, tree_top, trees_whole}
use Rattle.router_laws.specs.Forest.{IsIn, AreBelowChildren, AreWhole}
use Rattle.router_laws_closing.specs.Loose.{is_member}

-- sums that are nothing

sum_next : (f : Entity → ℕ) (x : Entity) (xs : List Entity) → sum (map f (x ∷ xs)) ≡ f x + sum (map f xs)
sum_next f x xs = sum-map f (x ∷ xs) ∙ sum_by-cons f x xs ∙ ap (λ n. f x + n) (sym (sum-map f xs))

part_of_none : (f : Entity → ℕ) (p : Entity → Bool) (xs : List Entity) (x : Entity) → sum (map f (filter p xs)) ≡ 0 → IsIn x xs → p x ≡ true → f x ≡ 0
part_of_none f p [] x none is mine = elim is [ ]
part_of_none f p (y ∷ ys) x none (inl is) mine =
    let own : p y ≡ true = subst (λ (z : Entity). p z ≡ true) is mine in
    let whole : sum (map f (y ∷ filter p ys)) ≡ 0 = rw own at none in
    let split = sum_next f y (filter p ys) in
    let here : f y ≡ 0 = omega (arith, whole, split) in
    subst (λ (z : Entity). f z ≡ 0) (sym is) here
part_of_none f p (y ∷ ys) x none (inr more) mine = elim (cases_Bool (p y)) [
  | inl own ↦
      let whole : sum (map f (y ∷ filter p ys)) ≡ 0 = rw own at none in
      let split = sum_next f y (filter p ys) in
      let rest : sum (map f (filter p ys)) ≡ 0 = omega (arith, whole, split) in
      part_of_none f p ys x rest more mine
  | inr other ↦ part_of_none f p ys x (rw other at none) more mine
]

none_of_parts : (f : Entity → ℕ) (p : Entity → Bool) (xs : List Entity) → ((x : Entity) → IsIn x xs → p x ≡ true → f x ≡ 0) → sum (map f (filter p xs)) ≡ 0
none_of_parts f p [] each = refl
none_of_parts f p (y ∷ ys) each = elim (cases_Bool (p y)) [
  | inl own ↦
      let split = sum_next f y (filter p ys) in
      let here = each y (inl refl) own in
      let rest = none_of_parts f p ys (λ x is mine. each x (inr is) mine) in
      rw own (omega (arith, split, here, rest))
  | inr other ↦ rw other (none_of_parts f p ys (λ x is mine. each x (inr is) mine))
]

pub same_number : (a b : ℕ) → a ≡ b → (a == b) ≡ true
same_number a b is = grind (arith, nat_tests)

pub number_same : (a b : ℕ) → (a == b) ≡ true → a ≡ b
number_same a b is = grind (arith, nat_tests)

-- a count is nothing where no member of the tree is attached, and only there

pub none_attached : (n : ℕ) (rows : List Entity) (links : List Link) (e m : ℕ) → attachment_count n rows links e ≡ 0 → IsIn m (tree n rows e) → links_of links m ≡ 0
none_attached zero rows links e m none is = elim is [ ]
none_attached (suc n) rows links e m none is = elim (in_either m (flat_map (λ row. if parent_of row == e then tree n rows row.number.0 else []) rows) (e ∷ []) is) [
  | inl deep ↦
      let found = from_branches n rows rows e m deep in
      let kids : sum (map (λ (row : Entity). attachment_count n rows links row.number.0) (children rows e)) ≡ 0 = omega (arith, none) in
      let kid = part_of_none (λ row. attachment_count n rows links row.number.0) (λ row. parent_of row == e) rows found.0 kids found.1 (same_number _ _ found.2) in
      none_attached n rows links found.0.number.0 m kid found.3
  | inr top ↦ elim top [
    | inl same ↦ let own : links_of links e ≡ 0 = omega (arith, none) in rw same own
    | inr never ↦ absurd never
  ]
]

pub count_is_none : (n : ℕ) (rows : List Entity) (links : List Link) (e : ℕ) → ((m : ℕ) → IsIn m (tree n rows e) → links_of links m ≡ 0) → attachment_count n rows links e ≡ 0
count_is_none zero rows links e each = refl
count_is_none (suc n) rows links e each =
    let own : links_of links e ≡ 0 = each e (tree_top (suc n) rows e (omega arith)) in
    let kids : sum (map (λ (row : Entity). attachment_count n rows links row.number.0) (children rows e)) ≡ 0 =
    none_of_parts (λ row. attachment_count n rows links row.number.0) (λ row. parent_of row == e) rows
    (λ row is mine. count_is_none n rows links row.number.0
    (λ m deep. each m (in_left m (flat_map (λ row. if parent_of row == e then tree n rows row.number.0 else []) rows) (e ∷ []) (in_branches n rows rows e m row is (number_same _ _ mine) deep)))) in
    omega (arith, own, kids)

-- the rows that are left when others go

abbrev pub left_of : List ℕ → List Entity → List Entity
left_of es rows = filter (λ row. not (is_member es row.number.0)) rows

pub from_member : (es : List ℕ) (m : ℕ) → is_member es m ≡ true → IsIn m es
from_member [] m is = absurd (cc)
from_member (e ∷ es) m is = elim (cases_Bool (e == m)) [
  | inl own ↦ inl (sym (number_same e m own))
  | inr other ↦ inr (from_member es m (rw other at is))
]

pub to_member : (es : List ℕ) (m : ℕ) → IsIn m es → is_member es m ≡ true
to_member [] m is = elim is [ ]
to_member (e ∷ es) m (inl is) = rw (same_number e m (sym is)) refl
to_member (e ∷ es) m (inr more) = elim (cases_Bool (e == m)) [
  | inl own ↦ rw own refl
  | inr other ↦ rw other (to_member es m more)
]

pub still_in : (p : Entity → Bool) (rows : List Entity) (row : Entity) → IsIn row rows → p row ≡ true → IsIn row (filter p rows)
still_in p [] row is mine = elim is [ ]
still_in p (y ∷ ys) row (inl is) mine = let own : p y ≡ true = subst (λ (z : Entity). p z ≡ true) is mine in rw own (inl is)
still_in p (y ∷ ys) row (inr more) mine = elim (cases_Bool (p y)) [
  | inl own ↦ rw own (inr (still_in p ys row more mine))
  | inr other ↦ rw other (still_in p ys row more mine)
]

pub was_in : (p : Entity → Bool) (rows : List Entity) (row : Entity) → IsIn row (filter p rows) → IsIn row rows
was_in p [] row is = elim is [ ]
was_in p (y ∷ ys) row is = elim (cases_Bool (p y)) [
  | inl own ↦ elim (let kept : IsIn row (y ∷ filter p ys) = rw own at is in kept) [
    | inl here ↦ inl here
    | inr more ↦ inr (was_in p ys row more)
  ]
  | inr other ↦ inr (was_in p ys row (rw other at is))
]

pub below_left : (es : List ℕ) (rows : List Entity) → AreBelowChildren rows → AreBelowChildren (left_of es rows)
below_left es rows rises row is = rises row (was_in (λ row. not (is_member es row.number.0)) rows row is)

-- a tree has the trees of its members
deeper : (rows : List Entity) (top : Entity) → AreWhole rows → IsIn top rows → (k : ℕ) (x m : ℕ) → IsIn x (tree_of rows top.number.0) → IsIn m (tree k rows x) → IsIn m (tree_of rows top.number.0)
deeper rows top whole there zero x m is deep = elim deep [ ]
deeper rows top whole there (suc k) x m is deep = elim (in_either m (flat_map (λ row. if parent_of row == x then tree k rows row.number.0 else []) rows) (x ∷ []) deep) [
  | inl below ↦
      let found = from_branches k rows rows x m below in
      let parent : IsIn (parent_of found.0) (tree_of rows top.number.0) = subst (λ (y : ℕ). IsIn y (tree_of rows top.number.0)) (sym found.2) is in
      deeper rows top whole there k found.0.number.0 m (whole top found.0 there found.1 parent) found.3
  | inr own ↦ elim own [
    | inl same ↦ subst (λ (y : ℕ). IsIn y (tree_of rows top.number.0)) (sym same) is
    | inr never ↦ absurd never
  ]
]

-- what doesn't go of a tree is in the tree that is left
left_deeper : (rows : List Entity) (gone : Entity) (top : Entity) → AreBelowChildren rows → IsIn gone rows → IsIn top (left_of (tree_of rows gone.number.0) rows)
    → (k : ℕ) (x m : ℕ) → IsIn x (tree_of (left_of (tree_of rows gone.number.0) rows) top.number.0) → IsIn m (tree k rows x) → is_member (tree_of rows gone.number.0) m ≡ false
    → IsIn m (tree_of (left_of (tree_of rows gone.number.0) rows) top.number.0)
left_deeper rows gone top rises in_gone_rows there zero x m is deep stays = elim deep [ ]
left_deeper rows gone top rises in_gone_rows there (suc k) x m is deep stays =
    let es = tree_of rows gone.number.0 in
    let kept = left_of es rows in
    elim (in_either m (flat_map (λ row. if parent_of row == x then tree k rows row.number.0 else []) rows) (x ∷ []) deep) [
      | inl below ↦
          let found = from_branches k rows rows x m below in
          elim (cases_Bool (is_member es found.0.number.0)) [
            | inl goes ↦
                let inside = deeper rows gone (trees_whole rows rises) in_gone_rows k found.0.number.0 m (from_member es found.0.number.0 goes) found.3 in
                let wrong : true ≡ false = sym (to_member es m inside) ∙ stays in absurd (cc)
            | inr remains ↦
                let row_left : IsIn found.0 kept = still_in (λ row. not (is_member es row.number.0)) rows found.0 found.1 (rw remains refl) in
                let parent : IsIn (parent_of found.0) (tree_of kept top.number.0) = subst (λ (y : ℕ). IsIn y (tree_of kept top.number.0)) (sym found.2) is in
                left_deeper rows gone top rises in_gone_rows there k found.0.number.0 m (trees_whole kept (below_left es rows rises) top found.0 there row_left parent) found.3 stays
          ]
      | inr own ↦ elim own [
        | inl same ↦ subst (λ (y : ℕ). IsIn y (tree_of kept top.number.0)) (sym same) is
        | inr never ↦ absurd never
      ]
    ]

pub some_rows : (rows : List Entity) (row : Entity) → IsIn row rows → 0 < length rows
some_rows [] row is = elim is [ ]
some_rows (y ∷ ys) row is = omega arith

-- where a loose tree goes, another one is loose only if it was
pub stays_held : (rows : List Entity) (links : List Link) (gone top : Entity) → AreBelowChildren rows → IsIn gone rows → IsIn top rows → count_of rows links gone.number.0 ≡ 0
    → count_of (left_of (tree_of rows gone.number.0) rows) links top.number.0 ≡ 0 → count_of rows links top.number.0 ≡ 0
stays_held rows links gone top rises in_rows there loose after =
    let es = tree_of rows gone.number.0 in
    let kept = left_of es rows in
    count_is_none (length rows) rows links top.number.0 (λ m is.
    elim (cases_Bool (is_member es m)) [
      | inl goes ↦ none_attached (length rows) rows links gone.number.0 m loose (from_member es m goes)
      | inr remains ↦ (elim (cases_Bool (is_member es top.number.0)) [
        | inl top_goes ↦
            let inside = deeper rows gone (trees_whole rows rises) in_rows (length rows) top.number.0 m (from_member es top.number.0 top_goes) is in
            let wrong : true ≡ false = sym (to_member es m inside) ∙ remains in absurd (cc)
        | inr top_stays ↦
            let top_left : IsIn top kept = still_in (λ row. not (is_member es row.number.0)) rows top there (rw top_stays refl) in
            let start : IsIn top.number.0 (tree_of kept top.number.0) = tree_top (length kept) kept top.number.0 (some_rows kept top top_left) in
            let inside = left_deeper rows gone top rises in_rows top_left (length rows) top.number.0 m start is remains in
            none_attached (length kept) kept links top.number.0 m after inside
      ])
    ])
