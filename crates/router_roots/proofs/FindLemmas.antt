-- What is found among entries is what is found among the rows that they stand for.
use Rattle.std.proofs.Common.{◌≡◌, ℕ, ◌<◌, ◌==◌, Bool, true, false, List, [], ◌∷◌, Option, Some, None, Ordering, length, get_or, nat_lt, refl, sym, ap, ◌∙◌, arith, inl, inr}
use Rattle.std.specs.Prelude.{◌&&◌, IsTrue, option_map}
use Rattle.std.specs.List.{HoldsAt, filter, find, list_any}
use Rattle.std.specs.Ordering.{nat_cmp}
use Rattle.std.specs.Option.{option_map_or}
use Rattle.std.proofs.lemmas.Bool.{cases_Bool, and_parts}
use Rattle.std.proofs.lemmas.Bool.Decides.{nat_tests}
use Rattle.std.proofs.lemmas.List.Folds.{list_any_at}
use Rattle.slee_value.specs.declared.convergence.ConvName.{ConvName}
use Rattle.script_meaning.specs.Same.{same_name}
use Rattle.rows_sorted.specs.Orders.{rises_by}
use Rattle.rows_index.specs.Found.{first_found}
use Rattle.rows_index.specs.Index.{IsIndex}
use Rattle.rows_index.specs.declared.entry.Entry.{Entry}
use Rattle.rows_index.proofs.IndexLemmas.{entries_fail, rows_fail}
use Rattle.rows_index.proofs.RowLemmas.{any_fails, each_fails, found_number}
use Rattle.rows_index.proofs.RunLemmas.{run_finds}
use Rattle.router_state.specs.Keys.{root_name_key}
use Rattle.router_state.specs.State.{State}
use Rattle.router_state.specs.Trees.{entity_at, is_root, is_root_of, root_name_at, root_name_before}
use Rattle.router_state.specs.declared.rows.Stem.{Stem}
use Rattle.router_state.specs.declared.rows.Stem.TheVariants as stems
use Rattle.router_state.specs.declared.rows.Entity.{Entity}
use Rattle.router_state.specs.declared.rows.RootName.{RootName}
use Rattle.router_steps.specs.Selection.{is_root_named, root_named}
use Rattle.router_roots.specs.Names.{name_number}
use Rattle.router_roots.specs.Roots.{name_entry, roots_among, service_entry, service_in}
use Rattle.router_roots.proofs.NameLemmas.{mapped, names_rise}
use Rattle.router_roots.proofs.SameLemmas.{name_same}

-- an entry passes where a row's does
any_row : {Row : Type 0} (entry : Row → Entry) (q : Entry → Bool) (rows : List Row) (entries : List Entry) → IsIndex entry rows entries → list_any q entries ≡ list_any (λ row. q (entry row)) rows
any_row entry q rows entries index = elim (cases_Bool (list_any q entries)) [
  | inr none ↦ none ∙ sym (any_fails (λ row. q (entry row)) rows (rows_fail entry q rows entries index (each_fails q entries none)))
  | inl some ↦ elim (cases_Bool (list_any (λ row. q (entry row)) rows)) [
    | inl one ↦ some ∙ sym one
    | inr none ↦ let fails = any_fails q entries (entries_fail entry q rows entries index (each_fails (λ row. q (entry row)) rows none)) in let wrong : true ≡ false = sym some ∙ fails in cc
  ]
]

any_among : {X : Type 0} (p q : X → Bool) (xs : List X) → list_any p (filter q xs) ≡ list_any (λ x. q x && p x) xs
any_among p q [] = refl
any_among p q (x ∷ xs) = elim (cases_Bool (q x)) [
  | inl stays ↦ elim (cases_Bool (p x)) [ inl mine ↦ rw (stays, mine) refl | inr other ↦ rw (stays, other) (any_among p q xs) ]
  | inr goes ↦ rw goes (any_among p q xs)
]

any_agree : {X : Type 0} (p q : X → Bool) → ((x : X) → p x ≡ q x) → (xs : List X) → list_any p xs ≡ list_any q xs
any_agree p q agree [] = refl
any_agree p q agree (x ∷ xs) = elim (cases_Bool (q x)) [
  | inl mine ↦ rw (agree x, mine) refl
  | inr other ↦ rw (agree x, other) (any_agree p q agree xs)
]

-- an entry under the service is that of one of its roots
of_service : (service : ℕ) (stem : Stem) (b : Bool) → (is_root stem && ((service_in stem == service) && b)) ≡ (is_root_of service stem && b)
of_service service (stems.Root own) b = refl
of_service service (stems.Child parent relation) b = refl

-- among the entries under a service one passes where one of its roots does
pub any_root : (q : ℕ → Bool) (service : ℕ) (rows : List Entity) (entries : List Entry) → IsIndex service_entry (roots_among rows) entries
    → list_any (λ e. q e.number) (filter (λ e. e.key == service) entries) ≡ list_any (λ row. is_root_of service row.stem && q row.number.0) rows
any_root q service rows entries index =
    any_among (λ (e : Entry). q e.number) (λ e. e.key == service) entries
    ∙ any_row service_entry (λ e. (e.key == service) && q e.number) (roots_among rows) entries index
    ∙ any_among (λ (row : Entity). (service_in row.stem == service) && q row.number.0) (λ row. is_root row.stem) rows
    ∙ any_agree (λ (row : Entity). is_root row.stem && ((service_in row.stem == service) && q row.number.0)) (λ row. is_root_of service row.stem && q row.number.0) (λ row. of_service service row.stem (q row.number.0)) rows

-- the first root that is found under the number of the name is the one that has it
pub first_named : (s : State) (service : ℕ) (name : ConvName) (entries : List Entry) → IsTrue (rises_by root_name_before s.root_names) → IsIndex name_entry s.root_names entries
    → first_found (λ n. find (λ row. row.entity.0 == n) s.root_names) (is_root_named s service name) (filter (λ e. e.key == name_number name) entries) ≡ root_named s service name
first_named s service name entries rises index =
    run_finds (λ (row : RootName). row.entity.0) (λ row. name_number row.name) root_name_key (λ x. refl) (is_root_named s service name) (name_number name) only s.root_names entries (names_rise s.root_names rises) index
  where
    only : (row : RootName) → is_root_named s service name row ≡ true → (name_number row.name == name_number name) ≡ true
    only row passes =
        let parts = and_parts (same_name row.name name) (option_map_or (λ (e : Entity). is_root_of service e.stem) (entity_at s.entities row.entity.0) false) passes in
        let same = ap name_number (name_same row.name name parts.0) in
        grind (arith, nat_tests, same)

-- what the name of an entity and its row say together
named_both : (s : State) (service : ℕ) (name own : ConvName) (e : ℕ) → Some own ≡ root_name_at s.root_names e
    → (same_name own name && option_map_or (λ row. is_root_of service row.stem) (entity_at s.entities e) false) ≡ option_map_or (is_root_named s service name) (find (λ row. row.entity.0 == e) s.root_names) false
named_both s service name own e is =
    let found = mapped (λ (row : RootName). row.name) (find (λ (row : RootName). row.entity.0 == e) s.root_names) own (sym is) in
    let number : found.0.entity.0 ≡ e = found_number (λ (row : RootName). row.entity.0) e found.0 s.root_names found.1 in
    rw (found.1, found.2, number) refl

pub named_then : (s : State) (service : ℕ) (name own : ConvName) (e : ℕ) (same at_root : Bool) → Some own ≡ root_name_at s.root_names e → same ≡ same_name own name → same ≡ true
    → at_root ≡ option_map_or (λ row. is_root_of service row.stem) (entity_at s.entities e) false
    → at_root ≡ option_map_or (is_root_named s service name) (find (λ row. row.entity.0 == e) s.root_names) false
named_then s service name own e same at_root is names passes so =
    let mine : same_name own name ≡ true = sym names ∙ passes in
    let both = named_both s service name own e is in
    so ∙ (rw mine at both)

pub named_else : (s : State) (service : ℕ) (name own : ConvName) (e : ℕ) (same : Bool) → Some own ≡ root_name_at s.root_names e → same ≡ same_name own name → same ≡ false
    → same ≡ option_map_or (is_root_named s service name) (find (λ row. row.entity.0 == e) s.root_names) false
named_else s service name own e same is names fails =
    let other : same_name own name ≡ false = sym names ∙ fails in
    let both = named_both s service name own e is in
    fails ∙ (rw other at both)

-- an entry whose row isn't there or fails is passed over
pub entry_skipped : {Row : Type 0} (at_number : ℕ → Option Row) (passes : Row → Bool) (e : Entry) (rest left : List Entry) (b : Bool) → left ≡ e ∷ rest → b ≡ option_map_or passes (at_number e.number) false → b ≡ false
    → first_found at_number passes rest ≡ first_found at_number passes left
entry_skipped {Row} at_number passes e rest left b cut is fails = by (at_number e.number) refl ∙ ap (first_found at_number passes) (sym cut)
  where
    by : (o : Option Row) → at_number e.number ≡ o → first_found at_number passes rest ≡ first_found at_number passes (e ∷ rest)
    by None none = rw none refl
    by (Some row) some =
        let other : passes row ≡ false = let tells = sym is ∙ fails in rw some at tells in
        rw (some, other) refl

-- an entry whose row passes leads to it
pub entry_passes : (rows : List RootName) (passes : RootName → Bool) (e : Entry) (rest left : List Entry) (b : Bool) → left ≡ e ∷ rest → b ≡ option_map_or passes (find (λ row. row.entity.0 == e.number) rows) false → b ≡ true
    → option_map (λ (row : RootName). row.entity.0) (first_found (λ n. find (λ row. row.entity.0 == n) rows) passes left) ≡ Some e.number
entry_passes rows passes e rest left b cut is mine = rw cut (by (find (λ (row : RootName). row.entity.0 == e.number) rows) refl)
  where
    by : (o : Option RootName) → find (λ (row : RootName). row.entity.0 == e.number) rows ≡ o → option_map (λ (row : RootName). row.entity.0) (first_found (λ n. find (λ (row : RootName). row.entity.0 == n) rows) passes (e ∷ rest)) ≡ Some e.number
    by None none = let tells = sym is ∙ mine in let wrong : false ≡ true = rw none at tells in cc
    by (Some row) some =
        let tells = sym is ∙ mine in
        let own : passes row ≡ true = rw some at tells in
        let number = found_number (λ (r : RootName). r.entity.0) e.number row rows some in
        rw (some, own) (ap (λ (n : ℕ). Some n) number)

-- a number that stands at a place is among the numbers

alike : (x y : ℕ) → nat_cmp x y ≡ Ordering.Equal → (x == y) ≡ true
alike x y is = elim (cases_Bool (nat_lt x y)) [
  | inl less ↦ absurd (let wrong : Ordering.Less ≡ Ordering.Equal = rw less at is in cc)
  | inr other ↦ elim (cases_Bool (x == y)) [
    | inl same ↦ same
    | inr apart ↦ absurd (let wrong : Ordering.Greater ≡ Ordering.Equal = rw (other, apart) at is in cc)
  ]
]

pub found_among : (numbers : List ℕ) (n i : ℕ) → i < length numbers → HoldsAt (λ (e : ℕ). nat_cmp e n ≡ Ordering.Equal) numbers i → true ≡ list_any (λ (e : ℕ). e == n) numbers
found_among numbers n i within holds = sym (list_any_at (λ (e : ℕ). e == n) numbers i 0 within (alike (get_or numbers i 0) n (holds 0)))
