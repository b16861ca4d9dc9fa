-- What changes of the entities leave of the roots under their services.
use Rattle.std.proofs.Common.{◌≡◌, ℕ, ℤ, ◌==◌, Bool, true, false, List, [], ◌∷◌, ◌++◌, Some, None, map, refl, sym, ap, subst, ◌∙◌, inl, inr}
use Rattle.std.specs.Prelude.{IsTrue, not}
use Rattle.std.specs.List.{AllByRecursion, filter, find, sum_by}
use Rattle.std.proofs.lemmas.Bool.{cases_Bool}
use Rattle.std.proofs.lemmas.List.{append-nil}
use Rattle.std.proofs.lemmas.List.Elements.{filter-append}
use Rattle.rows_sorted.specs.Keys.{is_key, pair_key, Rises}
use Rattle.rows_sorted.specs.Orders.{are_below, put, rises_in}
use Rattle.rows_sorted.proofs.OrderLemmas.{all_filter, all_from_all, filter_rises}
use Rattle.rows_index.specs.Index.{entry_before, entry_key, IsIndex}
use Rattle.rows_index.specs.declared.entry.Entry.{Entry}
use Rattle.rows_index.proofs.FoundLemmas.{none_at, only_found}
use Rattle.rows_index.proofs.IndexLemmas.{index_map, index_put}
use Rattle.rows_index.proofs.ItemLemmas.{filter_agree, map_filter}
use Rattle.rows_index.proofs.KeptLemmas.{others_below, sum_pushed}
use Rattle.rows_index.proofs.RowLemmas.{all_stay, indexed_cut, other_key}
use Rattle.router_state.specs.Keys.{entity_key}
use Rattle.router_state.specs.Trees.{entity_at, has_priority, is_root, number_of, with_entity, with_priority, without_entity}
use Rattle.router_state.specs.declared.rows.Stem.TheVariants as stems
use Rattle.router_state.specs.declared.rows.Entity.{Entity}
use Rattle.router_state.proofs.AgreeLemmas.{entity_order}
use Rattle.slee_value.specs.declared.ids.EntityId.{EntityId}
use Rattle.router_roots.specs.Roots.{roots_among, service_entry, service_in}

abbrev stands : Entity → Bool
stands row = is_root row.stem

abbrev service_part : Entity → ℕ
service_part row = service_in row.stem

pub entities_rise : (rows : List Entity) → IsTrue (rises_in (λ row. row.number.0) rows) → Rises entity_key rows
entities_rise rows rises = entity_order rows ∙ rises

-- filters in the one order or the other
filters_swap : {X : Type 0} (p q : X → Bool) (xs : List X) → filter p (filter q xs) ≡ filter q (filter p xs)
filters_swap p q [] = refl
filters_swap p q (x ∷ xs) = elim (cases_Bool (p x)) [
  | inl mine ↦ elim (cases_Bool (q x)) [
    | inl stays ↦ rw (stays, mine, stays) (ap (λ rest. x ∷ rest) (filters_swap p q xs))
    | inr goes ↦ rw (goes, mine, goes) (filters_swap p q xs)
  ]
  | inr other ↦ elim (cases_Bool (q x)) [
    | inl stays ↦ rw (stays, other) (filters_swap p q xs)
    | inr goes ↦ rw (goes, other) (filters_swap p q xs)
  ]
]

-- what is found and passes is found among those that pass
found_among : {X : Type 0} (p q : X → Bool) (found : X) (xs : List X) → find q xs ≡ Some found → p found ≡ true → find q (filter p xs) ≡ Some found
found_among p q found [] is passes = absurd cc
found_among p q found (x ∷ xs) is passes = elim (cases_Bool (q x)) [
  | inl mine ↦
      let first : Some x ≡ Some found = rw mine at is in
      let same : x ≡ found = cc in
      let stays : p x ≡ true = ap p same ∙ passes in
      rw (stays, mine) first
  | inr other ↦
      let later = found_among p q found xs (rw other at is) passes in
      elim (cases_Bool (p x)) [ inl stays ↦ rw (stays, other) later | inr goes ↦ rw goes later ]
]

-- a new root stands under its service
pub root_created : (rows : List Entity) (n service : ℕ) (entries : List Entry) → IsTrue (are_below (λ row. row.number.0) n rows) → IsIndex service_entry (roots_among rows) entries → (block : ℕ) (priority : ℤ)
    → IsIndex service_entry (roots_among (with_entity rows n block (stems.Root service) priority)) (put entry_before (record { key = service; number = n }) entries)
root_created rows n service entries below index block priority =
    let row : Entity = record { number = record { 0 = n }; block = block; stem = stems.Root service; priority = priority } in
    index_put service_entry row (roots_among rows) (roots_among (rows ++ row ∷ [])) entries index
    (all_filter (λ other. is_key (entry_key (service_entry other)) (entry_key (service_entry row)) ≡ false) stands rows (all_from_all (λ other. (other.number.0 == n) ≡ false) (λ other. is_key (entry_key (service_entry other)) (entry_key (service_entry row)) ≡ false) (λ other differs. other_key (service_part other) service other.number.0 n differs) rows (others_below number_of n rows below)))
    (λ f. ap (sum_by f) (filter-append stands rows (row ∷ [])) ∙ sum_pushed f row (roots_among rows))

-- a new child is no root
pub child_created : (rows : List Entity) (n block : ℕ) (parent : EntityId) (relation : List ℕ) (priority : ℤ) → roots_among (with_entity rows n block (stems.Child parent relation) priority) ≡ roots_among rows
child_created rows n block parent relation priority =
    filter-append stands rows (record { number = record { 0 = n }; block = block; stem = stems.Child parent relation; priority = priority } ∷ []) ∙ append-nil (roots_among rows)

-- an entity with another priority stands where it stood
same_stem : (e : ℕ) (priority : ℤ) (row : Entity) → stands (has_priority e priority row) ≡ stands row
same_stem e priority row = elim (cases_Bool (row.number.0 == e)) [ inl mine ↦ rw mine refl | inr other ↦ rw other refl ]

same_entry : (e : ℕ) (priority : ℤ) (row : Entity) → service_entry (has_priority e priority row) ≡ service_entry row
same_entry e priority row = elim (cases_Bool (row.number.0 == e)) [ inl mine ↦ rw mine refl | inr other ↦ rw other refl ]

each : {X : Type 0} (P : X → Type 0) → ((x : X) → P x) → (xs : List X) → AllByRecursion P xs
each P all [] = tt
each P all (x ∷ xs) = (all x, each P all xs)

pub priority_kept : (rows : List Entity) (e : ℕ) (priority : ℤ) (entries : List Entry) → IsIndex service_entry (roots_among rows) entries → IsIndex service_entry (roots_among (with_priority rows e priority)) entries
priority_kept rows e priority entries index =
    let f = has_priority e priority in
    let same : map f (roots_among rows) ≡ roots_among (map f rows) =
    ap (map f) (filter_agree stands (λ row. stands (f row)) rows (each (λ row. stands row ≡ stands (f row)) (λ row. sym (same_stem e priority row)) rows)) ∙ map_filter f stands rows in
    subst (λ (all : List Entity). IsIndex service_entry all entries) same
    (index_map service_entry f (roots_among rows) entries index (each (λ row. service_entry (f row) ≡ service_entry row) (same_entry e priority) (roots_among rows)))

-- a root that goes is listed no more
pub root_removed : (rows : List Entity) (e service : ℕ) (found : Entity) (entries : List Entry) → IsTrue (rises_in (λ row. row.number.0) rows) → IsIndex service_entry (roots_among rows) entries → entity_at rows e ≡ Some found → found.stem ≡ stems.Root service
    → IsIndex service_entry (roots_among (without_entity rows e)) (filter (λ x. not (is_key (entry_key x) (pair_key service e))) entries)
root_removed rows e service found entries rises index is stem =
    let passes : stands found ≡ true = ap is_root stem in
    let part : service_part found ≡ service = ap service_in stem in
    let cut = indexed_cut number_of service_part entity_key (λ x. refl) e found (roots_among rows) entries (filter_rises entity_key stands rows (entities_rise rows rises)) index (found_among stands (λ row. row.number.0 == e) found rows is passes) in
    let swapped = filters_swap (λ (row : Entity). not (row.number.0 == e)) stands rows in
    subst (λ (all : List Entity). IsIndex service_entry all (filter (λ x. not (is_key (entry_key x) (pair_key service e))) entries)) swapped
    (subst (λ (k : ℕ). IsIndex service_entry (filter (λ row. not (row.number.0 == e)) (roots_among rows)) (filter (λ x. not (is_key (entry_key x) (pair_key k e))) entries)) part cut)

-- a child that goes was never listed
pub child_removed : (rows : List Entity) (e : ℕ) (found : Entity) → IsTrue (rises_in (λ row. row.number.0) rows) → entity_at rows e ≡ Some found → is_root found.stem ≡ false → roots_among (without_entity rows e) ≡ roots_among rows
child_removed rows e found rises is fails =
    let only = only_found number_of entity_key (λ x. refl) e found rows (entities_rise rows rises) is in
    let is_number = λ (row : Entity). row.number.0 == e in
    let none = passed_not stands is_number rows (all_from_all (λ (row : Entity). is_number row ≡ true → row ≡ found) (λ row. stands row ≡ true → is_number row ≡ false) (λ row same root. other row same root) rows only) in
    filters_swap stands (λ row. not (is_number row)) rows ∙ all_stay is_number (roots_among rows) none
  where
    other : (row : Entity) → ((row.number.0 == e) ≡ true → row ≡ found) → stands row ≡ true → (row.number.0 == e) ≡ false
    other row same root = elim (cases_Bool (row.number.0 == e)) [
      | inl mine ↦ let wrong : true ≡ false = sym root ∙ ap stands (same mine) ∙ fails in cc
      | inr differs ↦ differs
    ]

    passed_not : (p q : Entity → Bool) (xs : List Entity) → AllByRecursion (λ x. p x ≡ true → q x ≡ false) xs → AllByRecursion (λ x. q x ≡ false) (filter p xs)
    passed_not p q [] all = tt
    passed_not p q (x ∷ xs) all = elim (cases_Bool (p x)) [ inl stays ↦ rw stays ((all.0 stays, passed_not p q xs all.1)) | inr goes ↦ rw goes (passed_not p q xs all.1) ]

-- where there is no such entity, all stay
pub none_removed : (rows : List Entity) (e : ℕ) → entity_at rows e ≡ None → without_entity rows e ≡ rows
none_removed rows e is = all_stay (λ (row : Entity). row.number.0 == e) rows (none_at (λ (row : Entity). row.number.0 == e) rows is)
