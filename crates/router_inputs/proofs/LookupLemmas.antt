-- An activity that is found by its name is found by its number.
use Rattle.std.proofs.Common.{◌≡◌, ℕ, Bool, true, false, List, [], ◌∷◌, Option, Some, None, refl, arith, inl, inr}
use Rattle.std.specs.Prelude.{◌==◌, find, nat_lt, option_map}
use Rattle.std.proofs.lemmas.Bool.{cases_Bool, and_parts}
use Rattle.std.proofs.lemmas.Bool.Decides.{nat_tests}
use Rattle.slee_value.specs.declared.ids.ActivityId.{ActivityId}
use Rattle.rows_sorted.specs.Orders.{rises_in}
use Rattle.router_state.specs.Contexts.{activity_at, external, has_name}
use Rattle.router_state.specs.declared.rows.Activity.{Activity}

-- the rest of a list that rises does
rest_rises : (y : Activity) (rows : List Activity) → rises_in (λ row. row.number.0) (y ∷ rows) ≡ true → rises_in (λ row. row.number.0) rows ≡ true
rest_rises y [] up = refl
rest_rises y (z ∷ rows) up = (and_parts (nat_lt y.number.0 z.number.0) (rises_in (λ row. row.number.0) (z ∷ rows)) up).1

-- what is found behind the first row has a greater number
behind : (p : Activity → Bool) (y x : Activity) (rows : List Activity) → rises_in (λ row. row.number.0) (y ∷ rows) ≡ true → find p rows ≡ Some x → nat_lt y.number.0 x.number.0 ≡ true
behind p y x [] up none = absurd (cc)
behind p y x (z ∷ rows) up found = elim (cases_Bool (p z)) [
  | inl here ↦
      let first : Some z ≡ Some x = rw here at found in
      let own : z ≡ x = cc in
      let low = (and_parts (nat_lt y.number.0 z.number.0) (rises_in (λ row. row.number.0) (z ∷ rows)) up).0 in
      rw (← own) low
  | inr apart ↦
      let later : find p rows ≡ Some x = rw apart at found in
      let low = (and_parts (nat_lt y.number.0 z.number.0) (rises_in (λ row. row.number.0) (z ∷ rows)) up).0 in
      let high = behind p z x rows (rest_rises y (z ∷ rows) up) later in
      grind (arith, nat_tests, low, high)
]

pub found_by_number : (p : Activity → Bool) (x : Activity) (rows : List Activity) → rises_in (λ row. row.number.0) rows ≡ true → find p rows ≡ Some x → activity_at rows x.number.0 ≡ Some x
found_by_number p x [] up none = absurd (cc)
found_by_number p x (y ∷ rows) up found = elim (cases_Bool (p y)) [
  | inl here ↦
      let first : Some y ≡ Some x = rw here at found in
      let own : y ≡ x = cc in
      let same : (y.number.0 == x.number.0) ≡ true = rw own (grind (arith, nat_tests)) in
      rw same first
  | inr apart ↦
      let later : find p rows ≡ Some x = rw apart at found in
      let low = behind p y x rows up later in
      let other : (y.number.0 == x.number.0) ≡ false = grind (arith, nat_tests, low) in
      rw other (found_by_number p x rows (rest_rises y rows up) later)
]

-- the external activity of a name, found again by its number
pub external_found : (rows : List Activity) (name : List ℕ) (id : ActivityId) → rises_in (λ row. row.number.0) rows ≡ true → Some id ≡ option_map (λ (row : Activity). row.number) (external rows name) → activity_at rows id.0 ≡ external rows name
external_found rows name id up is = by (external rows name) refl is
  where
    by : (o : Option Activity) → external rows name ≡ o → Some id ≡ option_map (λ (row : Activity). row.number) o → activity_at rows id.0 ≡ o
    by None found none = absurd (cc)
    by (Some row) found some =
        let own : id ≡ row.number = cc in
        rw own (found_by_number (λ row. has_name row.kind name) row rows up found)

-- and none, where none is found
pub no_external : (rows : List Activity) (name : List ℕ) → None ≡ option_map (λ (row : Activity). row.number) (external rows name) → None ≡ external rows name
no_external rows name is = by (external rows name) is
  where
    by : (o : Option Activity) → None ≡ option_map (λ (row : Activity). row.number) o → None ≡ o
    by None none = refl
    by (Some row) some = absurd (cc)
