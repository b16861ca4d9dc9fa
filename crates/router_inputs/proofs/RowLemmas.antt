-- What is asked of the rows of a table: whether one is there, and whether another one has a value that is to be unique.
use Rattle.std.proofs.Common.{◌≡◌, ℕ, zero, suc, ◌+◌, Bool, true, false, List, [], ◌∷◌, Option, Some, None, Result, Ok, Err, length, refl, sym, subst, ap, ◌∙◌, arith, inl, inr}
use Rattle.std.specs.Prelude.{◌==◌, not, nat_lt, ◌&&◌, ◌||◌, find, slice_get, is_some, is_none, option_map, option_and_then, if◌then◌else◌}
use Rattle.std.specs.List.{list_all, list_any, position_from}
use Rattle.std.specs.List.Sorted.{IsPermutation}
use Rattle.std.specs.Result.{is_err}
use Rattle.std.specs.Str.{bytes_eq}
use Rattle.std.proofs.lemmas.Bool.{cases_Bool}
use Rattle.std.proofs.lemmas.Bool.Decides.{nat_tests}
use Rattle.std.proofs.lemmas.List.Sorted.{list_any-IsPermutation}
use Rattle.std.proofs.lemmas.Option.{slice_get-map}
use Rattle.std.proofs.lemmas.Slice.Eq.{bytes_eq-Decides}
use Rattle.slee_value.specs.declared.value.Value.{Value}
use Rattle.deploy_model.specs.Deployed.{Deployed, DeployedTable, table_attributes, table_unique, table_at}
use Rattle.router_state.specs.State.{State}
use Rattle.router_state.specs.declared.rows.ProfileRow.{ProfileRow}
use Rattle.router_state.specs.Fitting.{has_row, has_table}
use Rattle.router_state.specs.Fits.{are_declared}
use Rattle.router_state.specs.Profiles.{is_row, are_unique}
use Rattle.profile_tables.specs.Faults.{alike_in, fault_of, fault_of_add, fault_of_asking, fault_of_update, fault_of_values, is_rival, place_of_rival}
use Rattle.profile_tables.specs.declared.fault.RowFault.{RowFault}
use Rattle.profile_tables.specs.declared.fault.RowFault.TheVariants as faults
use Rattle.profile_tables.specs.declared.table_spec.TableSpec.{TableSpec}
use Rattle.router_stores.specs.TableSpecs.{spec_of, specs_of}
use Rattle.router_steps.specs.Actions.{is_duplicate}

-- what is declared for a table that there is

past_end : {X : Type 0} (xs : List X) (n : ℕ) → slice_get xs n ≡ None → nat_lt n (length xs) ≡ false
past_end [] n none = grind (arith, nat_tests)
past_end (x ∷ xs) zero none = absurd (cc)
past_end (x ∷ xs) (suc n) none = let more = past_end xs n none in grind (arith, nat_tests, more)

table_there : (d : Deployed) (tables : List TableSpec) (n : ℕ) → tables ≡ specs_of d → has_table d n ≡ true → (t : DeployedTable) × (table_at d n ≡ Some t) × (slice_get tables n ≡ Some (spec_of d t))
table_there d tables n is there = by (slice_get d.tables n) refl
  where
    by : (o : Option DeployedTable) → slice_get d.tables n ≡ o → (t : DeployedTable) × (table_at d n ≡ Some t) × (slice_get tables n ≡ Some (spec_of d t))
    by None none = absurd (let wrong = sym there ∙ past_end d.tables n none in cc)
    by (Some t) found = (t, found, ap (λ (specs : List TableSpec). slice_get specs n) is ∙ slice_get-map (spec_of d) d.tables n ∙ ap (option_map (spec_of d)) found)

-- whether a row is there

pub asked : (d : Deployed) (tables : List TableSpec) (rows : List ProfileRow) (n : ℕ) (name : List ℕ) → tables ≡ specs_of d → has_table d n ≡ true → is_none (fault_of_asking tables rows n name) ≡ has_row rows n name
asked d tables rows n name is there =
    let found = table_there d tables n is there in
    rw found.2 (by (has_row rows n name))
  where
    by : (b : Bool) → is_none (if b then None else Some faults.NoRow) ≡ b
    by true = refl
    by false = refl

-- whether another row is a rival

any_alike : {X : Type 0} (p : X → Bool) (xs : List X) → not (list_all (λ x. not (p x)) xs) ≡ list_any p xs
any_alike p [] = refl
any_alike p (x ∷ xs) = by (p x) (any_alike p xs)
  where
    by : (b : Bool) → not (list_all (λ x. not (p x)) xs) ≡ list_any p xs → not (not b && list_all (λ x. not (p x)) xs) ≡ (b || list_any p xs)
    by true more = refl
    by false more = more

any_same : {X : Type 0} (p q : X → Bool) → ((x : X) → p x ≡ q x) → (xs : List X) → list_any p xs ≡ list_any q xs
any_same p q same [] = refl
any_same p q same (x ∷ xs) = rw (same x, any_same p q same xs) refl

rival_is : (d : Deployed) (row other : ProfileRow) (unique : List (List ℕ)) → unique ≡ table_unique d row.table
    → is_rival unique row other ≡ (if is_row row.table row.row other then false else not (are_unique d row other))
rival_is d row other unique is = elim (cases_Bool (other.table == row.table)) [
  | inl here ↦ elim (cases_Bool (bytes_eq other.row row.row)) [
    | inl own ↦ rw (here, own) refl
    | inr apart ↦
        let turned : (row.table == other.table) ≡ true = grind (arith, nat_tests, here) in
        rw (here, apart, turned, is) (sym (any_alike (alike_in row.attributes other.attributes) (table_unique d row.table)))
  ]
  | inr elsewhere ↦
      let turned : (row.table == other.table) ≡ false = grind (arith, nat_tests, elsewhere) in
      rw (elsewhere, turned) refl
]

-- a row that is found has a place
own_row : (q : ProfileRow → Bool) (x : ProfileRow) (rows : List ProfileRow) → find q rows ≡ Some x → list_any (is_row x.table x.row) rows ≡ true
own_row q x [] none = absurd (cc)
own_row q x (y ∷ rows) found = elim (cases_Bool (q y)) [
  | inl here ↦
      let first : Some y ≡ Some x = rw here at found in
      let own : y ≡ x = cc in
      let table : (y.table == x.table) ≡ true = rw own (grind (arith, nat_tests)) in
      let name : bytes_eq y.row x.row ≡ true = rw own ((bytes_eq-Decides x.row x.row).1 refl) in
      rw (table, name) refl
  | inr apart ↦
      let later : find q rows ≡ Some x = rw apart at found in
      let more = own_row q x rows later in
      any_behind (is_row x.table x.row y) (list_any (is_row x.table x.row) rows) more
]
  where
    any_behind : (a b : Bool) → b ≡ true → (a || b) ≡ true
    any_behind true b is = refl
    any_behind false b is = is

placed : (q : ProfileRow → Bool) (n : ℕ) (rows : List ProfileRow) → list_any q rows ≡ true → is_some (position_from q n rows) ≡ true
placed q n [] none = absurd (cc)
placed q n (y ∷ rows) some = elim (cases_Bool (q y)) [
  | inl here ↦ rw here refl
  | inr apart ↦ rw apart (placed q (n + 1) rows (rw apart at some))
]

found_any : (q : ProfileRow → Bool) (rows : List ProfileRow) → is_some (find q rows) ≡ list_any q rows
found_any q [] = refl
found_any q (y ∷ rows) = elim (cases_Bool (q y)) [
  | inl here ↦ rw here refl
  | inr apart ↦ rw apart (found_any q rows)
]

rival_placed : (unique : List (List ℕ)) (rows kept : List ProfileRow) (row : ProfileRow) → IsPermutation rows kept → is_some (place_of_rival unique rows kept row) ≡ list_any (is_rival unique row) rows
rival_placed unique rows kept row same = by (find (is_rival unique row) rows) refl
  where
    by : (o : Option ProfileRow) → find (is_rival unique row) rows ≡ o → is_some (option_and_then (λ other. position_from (is_row other.table other.row) 0 kept) o) ≡ list_any (is_rival unique row) rows
    by None none = sym (ap is_some none) ∙ found_any (is_rival unique row) rows
    by (Some other) found =
        let there = own_row (is_rival unique row) other rows found in
        let kept_there = sym (list_any-IsPermutation (is_row other.table other.row) rows kept same) ∙ there in
        placed (is_row other.table other.row) 0 kept kept_there ∙ sym (ap is_some found) ∙ found_any (is_rival unique row) rows

-- the values have a fault exactly where they are those of another row
values_fault : (s : State) (t : DeployedTable) (kept : List ProfileRow) (n : ℕ) (name : List ℕ) (values : List (List ℕ × Value)) → table_at s.deployment n ≡ Some t
    → are_declared (table_attributes s.deployment n) values ≡ true → IsPermutation s.rows kept
    → is_some (fault_of_values (spec_of s.deployment t) s.rows kept (record { table = n; row = name; attributes = values })) ≡ is_duplicate s n name values
values_fault s t kept n name values there declared same =
    let row : ProfileRow = record { table = n; row = name; attributes = values } in
    let d : Deployed = s.deployment in
    let attributes : (spec_of d t).attributes ≡ table_attributes d n = rw there refl in
    let unique : (spec_of d t).unique ≡ table_unique d n = rw there refl in
    let own : are_declared (spec_of d t).attributes values ≡ true = rw attributes declared in
    let told : is_some (option_map faults.Duplicate (place_of_rival (spec_of d t).unique s.rows kept row)) ≡ is_some (place_of_rival (spec_of d t).unique s.rows kept row) = mapped (place_of_rival (spec_of d t).unique s.rows kept row) in
    rw own (told ∙ rival_placed (spec_of d t).unique s.rows kept row same ∙ any_same _ _ (λ other. rival_is d row other (spec_of d t).unique unique) s.rows)
  where
    mapped : (o : Option ℕ) → is_some (option_map faults.Duplicate o) ≡ is_some o
    mapped None = refl
    mapped (Some place) = refl

duplicate_of_add : (s : State) (tables : List TableSpec) (kept : List ProfileRow) (n : ℕ) (name : List ℕ) (values : List (List ℕ × Value)) → tables ≡ specs_of s.deployment → has_table s.deployment n ≡ true
    → has_row s.rows n name ≡ false → are_declared (table_attributes s.deployment n) values ≡ true → IsPermutation s.rows kept
    → is_some (fault_of_add tables s.rows kept (record { table = n; row = name; attributes = values })) ≡ is_duplicate s n name values
duplicate_of_add s tables kept n name values is there new declared same =
    let found = table_there s.deployment tables n is there in
    rw (found.2, new) (values_fault s found.0 kept n name values found.1 declared same)

duplicate_of_update : (s : State) (tables : List TableSpec) (kept : List ProfileRow) (n : ℕ) (name : List ℕ) (values : List (List ℕ × Value)) → tables ≡ specs_of s.deployment → has_table s.deployment n ≡ true
    → has_row s.rows n name ≡ true → are_declared (table_attributes s.deployment n) values ≡ true → IsPermutation s.rows kept
    → is_some (fault_of_update tables s.rows kept (record { table = n; row = name; attributes = values })) ≡ is_duplicate s n name values
duplicate_of_update s tables kept n name values is there own declared same =
    let found = table_there s.deployment tables n is there in
    rw (found.2, own) (values_fault s found.0 kept n name values found.1 declared same)

-- the same in the words of calls

err_is_fault : {X : Type 0} (r : Result X RowFault) → is_err r ≡ is_some (fault_of r)
err_is_fault (Ok x) = refl
err_is_fault (Err fault) = refl

pub new_duplicate : {X : Type 0} (s : State) (tables : List TableSpec) (rows kept : List ProfileRow) (n : ℕ) (name : List ℕ) (values : List (List ℕ × Value)) (r : Result X RowFault) → rows ≡ s.rows → tables ≡ specs_of s.deployment
    → has_table s.deployment n ≡ true → has_row s.rows n name ≡ false → are_declared (table_attributes s.deployment n) values ≡ true → IsPermutation rows kept
    → fault_of r ≡ fault_of_add tables rows kept (record { table = n; row = name; attributes = values }) → is_err r ≡ is_duplicate s n name values
new_duplicate s tables rows kept n name values r own is there new declared same fault =
    let row : ProfileRow = record { table = n; row = name; attributes = values } in
    err_is_fault r ∙ ap is_some (fault ∙ ap (λ (all : List ProfileRow). fault_of_add tables all kept row) own)
    ∙ duplicate_of_add s tables kept n name values is there new declared (subst (λ (all : List ProfileRow). IsPermutation all kept) own same)

pub other_duplicate : {X : Type 0} (s : State) (tables : List TableSpec) (rows kept : List ProfileRow) (n : ℕ) (name : List ℕ) (values : List (List ℕ × Value)) (r : Result X RowFault) → rows ≡ s.rows → tables ≡ specs_of s.deployment
    → has_table s.deployment n ≡ true → has_row s.rows n name ≡ true → are_declared (table_attributes s.deployment n) values ≡ true → IsPermutation rows kept
    → fault_of r ≡ fault_of_update tables rows kept (record { table = n; row = name; attributes = values }) → is_err r ≡ is_duplicate s n name values
other_duplicate s tables rows kept n name values r own is there old declared same fault =
    let row : ProfileRow = record { table = n; row = name; attributes = values } in
    err_is_fault r ∙ ap is_some (fault ∙ ap (λ (all : List ProfileRow). fault_of_update tables all kept row) own)
    ∙ duplicate_of_update s tables kept n name values is there old declared (subst (λ (all : List ProfileRow). IsPermutation all kept) own same)
