-- A row that is there.
use Rattle.std.proofs.Common.{◌≡◌, Bool, true, false, List, [], ◌∷◌, Option, Some, None, refl, inl, inr}
use Rattle.std.specs.Prelude.{if◌then◌else◌, is_some, option_map, slice_get}
use Rattle.std.specs.Option.{option_map_or}
use Rattle.std.specs.List.{find, list_any}
use Rattle.std.proofs.lemmas.Bool.{cases_Bool}
use Rattle.router_state.specs.Fitting.{has_row}
use Rattle.router_state.specs.declared.rows.ProfileRow.{ProfileRow}
use Rattle.profile_tables.specs.Faults.{fault_of_update, fault_of_values}
use Rattle.profile_tables.specs.declared.fault.RowFault.{RowFault}
use Rattle.profile_tables.specs.declared.fault.RowFault.TheVariants as faults
use Rattle.profile_tables.specs.declared.table_spec.TableSpec.{TableSpec}

-- a row is found where one passes
pub found_any : {X Y : Type 0} (f : X → Y) (q : X → Bool) (xs : List X) → is_some (option_map f (find q xs)) ≡ list_any q xs
found_any f q [] = refl
found_any f q (x ∷ xs) = elim (cases_Bool (q x)) [ inl mine ↦ rw mine refl | inr other ↦ rw other (found_any f q xs) ]

asked : (o : Option TableSpec) (there : Bool) (f : TableSpec → Option RowFault) → option_map_or (λ spec. if there then f spec else Some faults.NoRow) o (Some faults.NoTable) ≡ None → there ≡ true
asked None there f is = cc
asked (Some spec) true f is = refl
asked (Some spec) false f is = cc

-- a row that gets other values is there
pub there_to_update : (tables : List TableSpec) (rows kept : List ProfileRow) (row : ProfileRow) → fault_of_update tables rows kept row ≡ None → has_row rows row.table row.row ≡ true
there_to_update tables rows kept row is = asked (slice_get tables row.table) (has_row rows row.table row.row) (λ spec. fault_of_values spec rows kept row) is
