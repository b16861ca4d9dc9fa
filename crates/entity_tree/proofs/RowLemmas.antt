-- Entities found by their numbers.
use Rattle.std.proofs.Common.{◌≡◌, ℕ, ℤ, ◌<◌, ◌==◌, Bool, true, false, List, [], ◌∷◌, ◌++◌, Some, None, map, cond, refl, sym, ap, subst, ◌∙◌, arith, inl, inr}
use Rattle.std.specs.Prelude.{not}
use Rattle.std.specs.List.{AllByRecursion, filter, find}
use Rattle.std.specs.Option.{option_map_or}
use Rattle.std.specs.Str.{bytes_eq}
use Rattle.std.proofs.lemmas.Bool.{cases_Bool, and_parts}
use Rattle.std.proofs.lemmas.Bool.Decides.{nat_tests}
use Rattle.router_state.specs.declared.rows.Entity.{Entity}
use Rattle.rows_sorted.specs.Orders.{put}
use Rattle.router_state.specs.declared.rows.Stem.{Stem}
use Rattle.router_state.specs.declared.rows.Stem.TheVariants as stems
use Rattle.router_state.specs.Trees.{entity_at, number_of, parent_in, parent_of, children, children_under, is_child_of, has_priority, without_entity}
use Rattle.rows_sorted.specs.Keys.{key_before, is_key, Rises}
use Rattle.router_state.specs.Keys.{entity_key}
use Rattle.rows_sorted.proofs.OrderLemmas.{AllInOrder, IsBefore, in_order, all_filter, all_from_all}
use Rattle.entity_tree.specs.declared.branch.Branch.{Branch}
use Rattle.entity_tree.specs.Kept.{entity_before, branch_of}
use Rattle.entity_tree.proofs.NumberLemmas.{cut_by_key, found_by_key, put_by_key}
use Rattle.entity_tree.proofs.ListLemmas.{all_two, all_joined, filter_all, filter_none, filter_agree, filter_of_map}

pub found_by_number : (e : ℕ) (rows : List Entity) → find (λ row. is_key (entity_key row) (record { first = e; second = 0; text = [] })) rows ≡ entity_at rows e
found_by_number e rows = found_by_key number_of e rows

pub cut_by_number : (e : ℕ) (rows : List Entity) → filter (λ row. not (is_key (entity_key row) (record { first = e; second = 0; text = [] }))) rows ≡ without_entity rows e
cut_by_number e rows = cut_by_key number_of e rows

pub put_by_number : (row : Entity) (rows : List Entity) → put (λ x y. key_before (entity_key x) (entity_key y)) row rows ≡ put entity_before row rows
put_by_number row rows = put_by_key number_of row rows

-- the entity that is found has the number, and what holds of all holds of it
pub found_number : (e : ℕ) (row : Entity) (rows : List Entity) → entity_at rows e ≡ Some row → row.number.0 ≡ e
found_number e row [] is = cc
found_number e row (x ∷ xs) is = elim (cases_Bool (x.number.0 == e)) [
  | inl mine ↦ let first : Some x ≡ Some row = rw mine at is in let same : x ≡ row = cc in let number : x.number.0 ≡ e = grind (arith, nat_tests, mine) in ap (λ (r : Entity). r.number.0) (sym same) ∙ number
  | inr other ↦ found_number e row xs (rw other at is)
]

pub found_holds : (P : Entity → Type 0) (e : ℕ) (row : Entity) (rows : List Entity) → AllByRecursion P rows → entity_at rows e ≡ Some row → P row
found_holds P e row [] all is = absurd (cc)
found_holds P e row (x ∷ xs) all is = elim (cases_Bool (x.number.0 == e)) [
  | inl mine ↦ let first : Some x ≡ Some row = rw mine at is in let same : x ≡ row = cc in subst P same all.0
  | inr other ↦ found_holds P e row xs all.1 (rw other at is)
]

pub none_found : (e : ℕ) (rows : List Entity) → entity_at rows e ≡ None → AllByRecursion (λ row. (row.number.0 == e) ≡ false) rows
none_found e [] is = tt
none_found e (x ∷ xs) is = elim (cases_Bool (x.number.0 == e)) [
  | inl mine ↦ let first : Some x ≡ None = rw mine at is in absurd (cc)
  | inr other ↦ (other, none_found e xs (rw other at is))
]

pub none_there : (e : ℕ) (rows : List Entity) → AllByRecursion (λ row. (row.number.0 == e) ≡ false) rows → entity_at rows e ≡ None
none_there e [] all = refl
none_there e (x ∷ xs) all = rw all.0 (none_there e xs all.1)

-- each entity is found by its number
pub each_found : (rows : List Entity) → AllInOrder (IsBefore entity_key) rows → AllByRecursion (λ row. entity_at rows row.number.0 ≡ Some row) rows
each_found [] order = tt
each_found (x ∷ xs) order =
    let mine : (x.number.0 == x.number.0) ≡ true = grind (arith, nat_tests) in
    (rw mine refl, all_two (IsBefore entity_key x) (λ row. entity_at xs row.number.0 ≡ Some row) (λ row. entity_at (x ∷ xs) row.number.0 ≡ Some row) step xs order.0 (each_found xs order.1))
  where
    step : (row : Entity) → IsBefore entity_key x row → entity_at xs row.number.0 ≡ Some row → entity_at (x ∷ xs) row.number.0 ≡ Some row
    step row before is = let other : (x.number.0 == row.number.0) ≡ false = grind (arith, nat_tests, before) in rw other is

pub all_put : (P : Entity → Type 0) (row : Entity) (rows : List Entity) → AllByRecursion P rows → P row → AllByRecursion P (put entity_before row rows)
all_put P row rows all also = all_joined P _ _ (all_filter P _ rows all) (also, all_filter P _ rows all)

-- the entity of the greatest number stands last
pub put_last : (row : Entity) (rows : List Entity) → AllByRecursion (λ other. other.number.0 < row.number.0) rows → put entity_before row rows ≡ rows ++ row ∷ []
put_last row rows below =
    let low = all_from_all (λ (other : Entity). other.number.0 < row.number.0) (λ other. entity_before other row ≡ true) (λ other less. grind (arith, nat_tests, less)) rows below in
    let high = all_from_all (λ (other : Entity). other.number.0 < row.number.0) (λ other. entity_before row other ≡ false) (λ other less. grind (arith, nat_tests, less)) rows below in
    rw (filter_all (λ other. entity_before other row) rows low, filter_none (λ other. entity_before row other) rows high) refl

-- two sides of a row that isn't there
pub two_sides : (row : Entity) (rows : List Entity) → AllInOrder (IsBefore entity_key) rows → AllByRecursion (λ other. (other.number.0 == row.number.0) ≡ false) rows
    → filter (λ other. entity_before other row) rows ++ filter (λ other. entity_before row other) rows ≡ rows
two_sides row [] order apart = refl
two_sides row (x ∷ xs) order apart = elim (cases_Bool (entity_before x row)) [
  | inl low ↦
      let not_high : entity_before row x ≡ false = grind (arith, nat_tests, low) in
      rw (low, not_high) (ap (λ rest. x ∷ rest) (two_sides row xs order.1 apart.1))
  | inr not_low ↦
      let high : entity_before row x ≡ true = grind (arith, nat_tests, not_low, apart.0) in
      let none = all_from_all (IsBefore entity_key x) (λ other. entity_before other row ≡ false) (λ other later. grind (arith, nat_tests, high, later)) xs order.0 in
      let all = all_from_all (IsBefore entity_key x) (λ other. entity_before row other ≡ true) (λ other later. grind (arith, nat_tests, high, later)) xs order.0 in
      rw (not_low, high, filter_none (λ other. entity_before other row) xs none, filter_all (λ other. entity_before row other) xs all) refl
]

-- a change of priority leaves number and parent

pub same_number : (e : ℕ) (priority : ℤ) (row : Entity) → (has_priority e priority row).number ≡ row.number
same_number e priority row = elim (cases_Bool (row.number.0 == e)) [ inl mine ↦ rw mine refl | inr other ↦ rw other refl ]

pub same_stem : (e : ℕ) (priority : ℤ) (row : Entity) → (has_priority e priority row).stem ≡ row.stem
same_stem e priority row = elim (cases_Bool (row.number.0 == e)) [ inl mine ↦ rw mine refl | inr other ↦ rw other refl ]

-- the numbers of those of a run whose entities are children under the relation
abbrev pub named : List Entity → ℕ → List ℕ → List Branch → List ℕ
named rows e relation run = map (λ b. b.number.0) (filter (λ b. option_map_or (λ row. is_child_of e relation row.stem) (entity_at rows b.number.0) false) run)

child_parent : (e : ℕ) (relation : List ℕ) (stem : Stem) → is_child_of e relation stem ≡ true → (parent_in stem == e) ≡ true
child_parent e relation (stems.Root service) is = cc
child_parent e relation (stems.Child parent own) is = (and_parts (parent.0 == e) (bytes_eq own relation) is).0

-- a filter that lets through only what another one does
filter_within : (p q : Entity → Bool) → ((row : Entity) → p row ≡ true → q row ≡ true) → (rows : List Entity) → filter p (filter q rows) ≡ filter p rows
filter_within p q within [] = refl
filter_within p q within (x ∷ xs) = elim (cases_Bool (q x)) [
  | inl goes ↦ rw goes (ap (λ rest. cond (p x) (x ∷ rest) rest) (filter_within p q within xs))
  | inr stays ↦
      let not_mine : p x ≡ false = elim (cases_Bool (p x)) [ inl mine ↦ let wrong = within x mine in cc | inr other ↦ other ] in
      rw (stays, not_mine) (filter_within p q within xs)
]

numbers_mapped : (rows : List Entity) → map (λ (b : Branch). b.number.0) (map branch_of rows) ≡ map number_of rows
numbers_mapped [] = refl
numbers_mapped (x ∷ xs) = ap (λ rest. x.number.0 ∷ rest) (numbers_mapped xs)

pub named_is : (e : ℕ) (relation : List ℕ) (rows : List Entity) (branches : List Branch) → Rises entity_key rows
    → filter (λ branch. branch.parent.0 == e) branches ≡ map branch_of (children rows e)
    → named rows e relation (filter (λ branch. branch.parent.0 == e) branches) ≡ children_under rows e relation
named_is e relation rows branches rises run =
    let test = λ (b : Branch). option_map_or (λ (row : Entity). is_child_of e relation row.stem) (entity_at rows b.number.0) false in
    let own = λ (row : Entity). is_child_of e relation row.stem in
    let each = all_filter (λ row. test (branch_of row) ≡ own row) (λ row. parent_of row == e) rows (all_from_all (λ row. entity_at rows row.number.0 ≡ Some row) (λ row. test (branch_of row) ≡ own row) (λ row is. rw is refl) rows (each_found rows (in_order entity_key rows rises))) in
    ap (λ run. named rows e relation run) run
    ∙ ap (map (λ (b : Branch). b.number.0)) (filter_of_map test branch_of (children rows e))
    ∙ numbers_mapped (filter (λ row. test (branch_of row)) (children rows e))
    ∙ ap (map number_of) (filter_agree (λ row. test (branch_of row)) own (children rows e) each ∙ filter_within own (λ row. parent_of row == e) (λ row is. child_parent e relation row.stem is) rows)
