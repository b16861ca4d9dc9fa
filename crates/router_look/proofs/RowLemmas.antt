-- A row that isn't found in a table that is there isn't there.
use Rattle.std.proofs.Common.{◌≡◌, ℕ, Bool, true, false, List, Option, Some, None, length, refl, sym, ◌∙◌, inl, inr}
use Rattle.std.specs.Prelude.{◌&&◌, is_some, nat_lt, if◌then◌else◌}
use Rattle.std.specs.List.{position_or_len}
use Rattle.std.specs.Str.{bytes_eq}
use Rattle.std.proofs.lemmas.Bool.{cases_Bool}
use Rattle.slee_value.specs.declared.value.Value.{Value}
use Rattle.deploy_model.specs.Deployed.{Deployed, table_named}
use Rattle.profile_tables.specs.Faults.{fault_of_asking}
use Rattle.profile_tables.specs.declared.fault.RowFault.{RowFault}
use Rattle.profile_tables.specs.declared.table_spec.TableSpec.{TableSpec}
use Rattle.router_state.specs.Fitting.{has_row, has_table}
use Rattle.router_state.specs.Profiles.{row_at}
use Rattle.router_state.specs.declared.rows.ProfileRow.{ProfileRow}
use Rattle.router_stores.specs.TableSpecs.{specs_of}
use Rattle.router_stores.proofs.FaultLemmas.{asking_fits}

both_true : (x y : Bool) → x ≡ true → y ≡ true → (x && y) ≡ true
both_true x y is also = rw (is, also) refl

placed_within : (i n m : ℕ) → (if nat_lt i m then Some i else None) ≡ Some n → nat_lt n m ≡ true
placed_within i n m is = elim (cases_Bool (nat_lt i m)) [
  | inl low ↦
      let found : Some i ≡ Some n = rw low at is in
      let same : i ≡ n = cc in
      rw (← same) low
  | inr high ↦ absurd (let wrong : None ≡ Some n = rw high at is in cc)
]

-- a table that is named is there
pub named_there : (d : Deployed) (name : List ℕ) (n : ℕ) → Some n ≡ table_named d name → has_table d n ≡ true
named_there d name n is = placed_within (position_or_len (λ t. bytes_eq t.name name) d.tables) n (length d.tables) (sym is)

no_row : (found : Option (List (List ℕ × Value))) → is_some found ≡ false → found ≡ None
no_row None isnt = refl
no_row (Some x) isnt = absurd (cc)

-- a row that is asked for in vain isn't there
pub absent : (d : Deployed) (tables : List TableSpec) (rows : List ProfileRow) (n : ℕ) (name : List ℕ) (fault : RowFault) → tables ≡ specs_of d → has_table d n ≡ true → Some fault ≡ fault_of_asking tables rows n name → row_at rows n name ≡ None
absent d tables rows n name fault is there refused = elim (cases_Bool (has_row rows n name)) [
  | inl has ↦ absurd (let none = asking_fits d tables rows n name is (both_true (has_table d n) (has_row rows n name) there has) in let wrong = refused ∙ none in cc)
  | inr hasnt ↦ no_row (row_at rows n name) hasnt
]
