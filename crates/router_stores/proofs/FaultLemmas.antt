-- A change of profile rows that can be made gives no fault.
use Rattle.std.proofs.Common.{◌≡◌, ℕ, zero, suc, ◌==◌, Bool, true, false, List, [], ◌∷◌, Option, Some, None, length, refl, sym, ap, ◌∙◌, arith, inl, inr}
use Rattle.std.specs.Prelude.{not, nat_lt, ◌&&◌, ◌||◌, find, slice_get, option_map, if◌then◌else◌}
use Rattle.std.specs.List.{list_all, list_any}
use Rattle.std.specs.Option.{option_map_or}
use Rattle.std.specs.Str.{bytes_eq}
use Rattle.std.proofs.lemmas.Bool.{cases_Bool, and_parts}
use Rattle.std.proofs.lemmas.Bool.Decides.{nat_tests}
use Rattle.std.proofs.lemmas.Option.{slice_get-map}
use Rattle.deploy_model.specs.Deployed.{Deployed, DeployedTable, table_attributes, table_unique, table_at}
use Rattle.router_state.specs.declared.rows.ProfileRow.{ProfileRow}
use Rattle.router_state.specs.Fitting.{is_fit_row, has_row, has_table}
use Rattle.router_state.specs.Fits.{are_declared}
use Rattle.router_state.specs.Profiles.{is_row, are_unique, differ_in}
use Rattle.profile_tables.specs.Faults.{alike_in, fault_in, fault_of_add, fault_of_asking, fault_of_update, fault_of_values, is_rival}
use Rattle.profile_tables.specs.declared.fault.RowFault.{RowFault}
use Rattle.profile_tables.specs.declared.fault.RowFault.TheVariants as faults
use Rattle.profile_tables.specs.declared.table_spec.TableSpec.{TableSpec}
use Rattle.router_stores.specs.TableSpecs.{spec_of, specs_of}

isnt_true : (b : Bool) → not b ≡ true → b ≡ false
isnt_true true is = absurd (cc)
isnt_true false is = refl

-- rows of profile tables

none_alike : {X : Type 0} (p : X → Bool) (xs : List X) → list_all (λ x. not (p x)) xs ≡ true → list_any p xs ≡ false
none_alike p [] all = refl
none_alike p (x ∷ xs) all =
    let parts = and_parts (not (p x)) (list_all (λ x. not (p x)) xs) all in
    rw (isnt_true (p x) parts.0) (none_alike p xs parts.1)

no_rival_one : (d : Deployed) (row other : ProfileRow) (unique : List (List ℕ)) → unique ≡ table_unique d row.table → (is_row row.table row.row other || are_unique d row other) ≡ true → is_rival unique row other ≡ false
no_rival_one d row other unique is fits = elim (cases_Bool (other.table == row.table)) [
  | inl here ↦ elim (cases_Bool (bytes_eq other.row row.row)) [
    | inl own ↦ rw (here, own) refl
    | inr apart ↦
        let turned : (row.table == other.table) ≡ true = grind (arith, nat_tests, here) in
        let differ : list_all (differ_in row.attributes other.attributes) (table_unique d row.table) ≡ true = rw (here, apart, turned) at fits in
        let none = none_alike (alike_in row.attributes other.attributes) unique (rw is differ) in
        rw (here, apart) none
  ]
  | inr elsewhere ↦ rw elsewhere refl
]

no_rival : (d : Deployed) (row : ProfileRow) (unique : List (List ℕ)) → unique ≡ table_unique d row.table → (rows : List ProfileRow) → list_all (λ other. is_row row.table row.row other || are_unique d row other) rows ≡ true → find (is_rival unique row) rows ≡ None
no_rival d row unique is [] all = refl
no_rival d row unique is (x ∷ xs) all =
    let parts = and_parts (is_row row.table row.row x || are_unique d row x) (list_all (λ other. is_row row.table row.row other || are_unique d row other) xs) all in
    rw (no_rival_one d row x unique is parts.0) (no_rival d row unique is xs parts.1)

-- what is looked up among what is declared for tables
in_specs : (d : Deployed) (tables : List TableSpec) (n : ℕ) (f : TableSpec → Option RowFault) → tables ≡ specs_of d → fault_in tables n f ≡ option_map_or (λ t. f (spec_of d t)) (slice_get d.tables n) (Some faults.NoTable)
in_specs d tables n f is =
    ap (λ (specs : List TableSpec). fault_in specs n f) is
    ∙ ap (λ (found : Option TableSpec). option_map_or f found (Some faults.NoTable)) (slice_get-map (spec_of d) d.tables n)
    ∙ by (slice_get d.tables n)
  where
    by : (found : Option DeployedTable) → option_map_or f (option_map (spec_of d) found) (Some faults.NoTable) ≡ option_map_or (λ t. f (spec_of d t)) found (Some faults.NoTable)
    by None = refl
    by (Some t) = refl

past_end : {X : Type 0} (xs : List X) (n : ℕ) → slice_get xs n ≡ None → nat_lt n (length xs) ≡ false
past_end [] n none = grind (arith, nat_tests)
past_end (x ∷ xs) zero none = absurd (cc)
past_end (x ∷ xs) (suc n) none = let more = past_end xs n none in grind (arith, nat_tests, more)

-- there is a table, and what is asked of it has no fault
table_fits : (d : Deployed) (tables : List TableSpec) (n : ℕ) (f : TableSpec → Option RowFault) → tables ≡ specs_of d → nat_lt n (length d.tables) ≡ true → ((t : DeployedTable) → table_at d n ≡ Some t → f (spec_of d t) ≡ None) → fault_in tables n f ≡ None
table_fits d tables n f is there fits = in_specs d tables n f is ∙ by (slice_get d.tables n) refl
  where
    by : (found : Option DeployedTable) → slice_get d.tables n ≡ found → option_map_or (λ t. f (spec_of d t)) found (Some faults.NoTable) ≡ None
    by None is_at = absurd (let wrong = sym there ∙ past_end d.tables n is_at in cc)
    by (Some t) is_at = fits t is_at

values_fit : (d : Deployed) (rows kept : List ProfileRow) (row : ProfileRow) (t : DeployedTable) → table_at d row.table ≡ Some t → are_declared (table_attributes d row.table) row.attributes ≡ true
    → list_all (λ other. is_row row.table row.row other || are_unique d row other) rows ≡ true → fault_of_values (spec_of d t) rows kept row ≡ None
values_fit d rows kept row t there declared apart =
    let attributes : (spec_of d t).attributes ≡ table_attributes d row.table = rw there refl in
    let unique : (spec_of d t).unique ≡ table_unique d row.table = rw there refl in
    let own : are_declared (spec_of d t).attributes row.attributes ≡ true = rw attributes declared in
    let none = no_rival d row (spec_of d t).unique unique rows apart in
    rw (own, none) refl

-- the parts of the test of a row
fit_parts : (d : Deployed) (rows : List ProfileRow) (row : ProfileRow) → is_fit_row d rows row ≡ true
    → (nat_lt row.table (length d.tables) ≡ true) × (are_declared (table_attributes d row.table) row.attributes ≡ true) × (list_all (λ other. is_row row.table row.row other || are_unique d row other) rows ≡ true)
fit_parts d rows row fits =
    let parts = and_parts (has_table d row.table) (are_declared (table_attributes d row.table) row.attributes && list_all (λ other. is_row row.table row.row other || are_unique d row other) rows) fits in
    let more = and_parts (are_declared (table_attributes d row.table) row.attributes) (list_all (λ other. is_row row.table row.row other || are_unique d row other) rows) parts.1 in
    (parts.0, more.0, more.1)

pub add_fits : (d : Deployed) (tables : List TableSpec) (rows kept : List ProfileRow) (row : ProfileRow) → tables ≡ specs_of d → (is_fit_row d rows row && not (has_row rows row.table row.row)) ≡ true → fault_of_add tables rows kept row ≡ None
add_fits d tables rows kept row is fits =
    let parts = and_parts (is_fit_row d rows row) (not (has_row rows row.table row.row)) fits in
    let each = fit_parts d rows row parts.0 in
    let new = isnt_true (has_row rows row.table row.row) parts.1 in
    table_fits d tables row.table (λ spec. if has_row rows row.table row.row then Some faults.RowExists else fault_of_values spec rows kept row) is each.0
    (λ t there. rw new (values_fit d rows kept row t there each.1 each.2))

pub update_fits : (d : Deployed) (tables : List TableSpec) (rows kept : List ProfileRow) (row : ProfileRow) → tables ≡ specs_of d → (is_fit_row d rows row && has_row rows row.table row.row) ≡ true → fault_of_update tables rows kept row ≡ None
update_fits d tables rows kept row is fits =
    let parts = and_parts (is_fit_row d rows row) (has_row rows row.table row.row) fits in
    let each = fit_parts d rows row parts.0 in
    table_fits d tables row.table (λ spec. if has_row rows row.table row.row then fault_of_values spec rows kept row else Some faults.NoRow) is each.0
    (λ t there. rw parts.1 (values_fit d rows kept row t there each.1 each.2))

pub asking_fits : (d : Deployed) (tables : List TableSpec) (rows : List ProfileRow) (n : ℕ) (name : List ℕ) → tables ≡ specs_of d → (has_table d n && has_row rows n name) ≡ true → fault_of_asking tables rows n name ≡ None
asking_fits d tables rows n name is fits =
    let parts = and_parts (has_table d n) (has_row rows n name) fits in
    table_fits d tables n (λ spec. if has_row rows n name then None else Some faults.NoRow) is parts.0 (λ t found. rw parts.1 refl)
