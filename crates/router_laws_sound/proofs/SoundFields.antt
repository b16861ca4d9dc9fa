-- An entity that has its declared fields has them when one of them gets another value of its kind.
use Rattle.std.proofs.Common.{◌≡◌, ℕ, ◌==◌, Bool, true, false, ◌&&◌, ◌||◌, List, [], ◌∷◌, ◌++◌, filter, map, refl, sym, ◌∙◌, ap, subst, inl, inr, arith, nat_lt}
use Rattle.std.specs.List.{AllByRecursion}
use Rattle.std.specs.Option.{option_map_or}
use Rattle.std.specs.Str.{bytes_eq}
use Rattle.std.proofs.lemmas.Bool.{cases_Bool, cond_both, and_parts, and_from, false≢true, false_from_ne_true}
use Rattle.std.proofs.lemmas.Bool.Decides.{nat_tests}
use Rattle.std.proofs.lemmas.List.{map-append}
use Rattle.std.proofs.lemmas.List.Elements.{filter-append}
use Rattle.std.proofs.lemmas.Slice.Eq.{bytes_eq-Decides}
use Rattle.slee_value.specs.Order.{is_below}
use Rattle.slee_value.specs.declared.value.Value.{Value}
use Rattle.script_types.specs.Codes.{named}
use Rattle.script_types.specs.declared.codes.FieldCode.{FieldCode}
use Rattle.deploy_model.specs.Deployed.{Deployed, block_fields}
use Rattle.router_laws.proofs.OrderLemmas.{below_joins, text_joins}
use Rattle.router_laws.proofs.RisingLemmas.{Joins, InOrder, order_from_rises}
use Rattle.router_state.specs.Fields.{fields_of, field_before, with_field}
use Rattle.router_state.specs.Fits.{is_of_kind, are_declared}
use Rattle.rows_sorted.specs.Orders.{rises_by}
use Rattle.router_state.specs.WellEntities.{has_its_fields}
use Rattle.router_state.specs.declared.rows.Entity.{Entity}
use Rattle.router_state.specs.declared.rows.Field.{Field}

-- texts

pub not_below_itself : (x : List ℕ) → is_below x x ≡ false
not_below_itself [] = refl
not_below_itself (b ∷ x) = same (b == b) (itself b) ∙ not_below_itself x
  where
    itself : (b : ℕ) → ((b == b) ≡ true) × (nat_lt b b ≡ false)
    itself b = (grind (arith, nat_tests), grind (arith, nat_tests))

    same : (c : Bool) → ((b == b) ≡ true) × (nat_lt b b ≡ false) → is_below (b ∷ x) (b ∷ x) ≡ is_below x x
    same c both = rw (both.1, both.0) refl

pub not_above : (x y : List ℕ) → is_below x y ≡ true → is_below y x ≡ false
not_above x y less = false_from_ne_true (is_below y x) (λ more. false≢true (sym (not_below_itself x) ∙ below_joins x y x less more))

same_text : (x y : List ℕ) → bytes_eq x y ≡ true → x ≡ y
same_text x y is = (bytes_eq-Decides x y).0 is

-- named values that rise

abbrev Pair : Type 0
Pair = List ℕ × Value

abbrev Rise : List Pair → Type 0
Rise [] = Unit {0}
Rise (x ∷ xs) = AllByRecursion (λ (y : Pair). is_below x.0 y.0 ≡ true) xs × Rise xs

-- a value is put in its place
abbrev pub set_in : List ℕ → Value → List Pair → List Pair
set_in name value fields = filter (λ (f : Pair). is_below f.0 name) fields ++ (name, value) ∷ filter (λ (f : Pair). is_below name f.0) fields

all_behind : (name : List ℕ) (fields : List Pair) → AllByRecursion (λ (y : Pair). is_below name y.0 ≡ true) fields → filter (λ (f : Pair). is_below name f.0) fields ≡ fields
all_behind name [] all = refl
all_behind name (f ∷ fs) all = rw all.0 (ap (λ xs. f ∷ xs) (all_behind name fs all.1))

none_ahead : (name : List ℕ) (fields : List Pair) → AllByRecursion (λ (y : Pair). is_below name y.0 ≡ true) fields → filter (λ (f : Pair). is_below f.0 name) fields ≡ []
none_ahead name [] all = refl
none_ahead name (f ∷ fs) all = rw (not_above name f.0 all.0) (none_ahead name fs all.1)

-- a declared name is among those that rise behind another name
named_below : (x name : List ℕ) (value : Value) (ds : List FieldCode) (fs : List Pair) → are_declared ds fs ≡ true → AllByRecursion (λ (y : Pair). is_below x y.0 ≡ true) fs
    → option_map_or (λ (d : FieldCode). is_of_kind d.kind value) (named (λ (d : FieldCode). d.name) name ds) false ≡ true → is_below x name ≡ true
named_below x name value [] fs declared all some = absurd (cc)
named_below x name value (d ∷ ds) [] declared all some = absurd (cc)
named_below x name value (d ∷ ds) (f ∷ fs) declared all some =
    let parts = and_parts (bytes_eq d.name f.0) _ declared in
    let rest = and_parts (is_of_kind d.kind f.1) (are_declared ds fs) parts.1 in
    elim (cases_Bool (bytes_eq d.name name)) [
      | inl own ↦ subst (λ n. is_below x n ≡ true) (sym (same_text d.name f.0 parts.0) ∙ same_text d.name name own) all.0
      | inr other ↦ named_below x name value ds fs rest.1 all.1 (rw other at some)
    ]

declared_set : (name : List ℕ) (value : Value) (ds : List FieldCode) (fs : List Pair) → are_declared ds fs ≡ true → Rise fs
    → option_map_or (λ (d : FieldCode). is_of_kind d.kind value) (named (λ (d : FieldCode). d.name) name ds) false ≡ true → are_declared ds (set_in name value fs) ≡ true
declared_set name value [] fs declared rise some = absurd (cc)
declared_set name value (d ∷ ds) [] declared rise some = absurd (cc)
declared_set name value (d ∷ ds) (f ∷ fs) declared rise some =
    let parts = and_parts (bytes_eq d.name f.0) _ declared in
    let rest = and_parts (is_of_kind d.kind f.1) (are_declared ds fs) parts.1 in
    elim (cases_Bool (bytes_eq d.name name)) [
      | inl own ↦
          let here : f.0 ≡ name = sym (same_text d.name f.0 parts.0) ∙ same_text d.name name own in
          let later : AllByRecursion (λ (y : Pair). is_below name y.0 ≡ true) fs = subst (λ n. AllByRecursion (λ (y : Pair). is_below n y.0 ≡ true) fs) here rise.0 in
          let itself : is_below f.0 name ≡ false = subst (λ n. is_below n name ≡ false) (sym here) (not_below_itself name) in
          let itself_too : is_below name f.0 ≡ false = subst (λ n. is_below name n ≡ false) (sym here) (not_below_itself name) in
          rw (itself, itself_too, none_ahead name fs later, all_behind name fs later) (and_from _ _ own (and_from _ _ (rw own at some) rest.1))
      | inr other ↦
          let below : is_below f.0 name ≡ true = named_below f.0 name value ds fs rest.1 rise.0 (rw other at some) in
          rw (below, not_above f.0 name below) (and_from _ _ parts.0 (and_from _ _ rest.0 (declared_set name value ds fs rest.1 rise.1 (rw other at some))))
    ]

-- the fields of an entity when one of them is set

abbrev is_own : ℕ → Field → Bool
is_own e row = row.entity.0 == e

abbrev pair_of : Field → Pair
pair_of row = (row.name, row.value)

abbrev row_of : ℕ → List ℕ → Value → Field
row_of e name value = record { entity = record { 0 = e }; name = name; value = value }

own_front : (e : ℕ) (name : List ℕ) (value : Value) (rows : List Field)
    → map pair_of (filter (is_own e) (filter (λ r. field_before r (row_of e name value)) rows)) ≡ filter (λ (f : Pair). is_below f.0 name) (map pair_of (filter (is_own e) rows))
own_front e name value [] = refl
own_front e name value (r ∷ rows) = elim (cases_Bool (r.entity.0 == e)) [
  | inl own ↦
      let test : field_before r (row_of e name value) ≡ is_below r.name name = same r.entity.0 e (is_below r.name name) own in
      rw (test, own) (elim (cases_Bool (is_below r.name name)) [
        | inl is ↦ rw (is, own) (ap (λ xs. pair_of r ∷ xs) (own_front e name value rows))
        | inr isnt ↦ rw isnt (own_front e name value rows)
      ])
  | inr other ↦ elim (cases_Bool (field_before r (row_of e name value))) [
    | inl is ↦ rw (is, other) (own_front e name value rows)
    | inr isnt ↦ rw (isnt, other) (own_front e name value rows)
  ]
]
  where
    same : (x e : ℕ) (b : Bool) → (x == e) ≡ true → (nat_lt x e || ((x == e) && b)) ≡ b
    same x e b own = grind (arith, nat_tests)

own_behind : (e : ℕ) (name : List ℕ) (value : Value) (rows : List Field)
    → map pair_of (filter (is_own e) (filter (λ r. field_before (row_of e name value) r) rows)) ≡ filter (λ (f : Pair). is_below name f.0) (map pair_of (filter (is_own e) rows))
own_behind e name value [] = refl
own_behind e name value (r ∷ rows) = elim (cases_Bool (r.entity.0 == e)) [
  | inl own ↦
      let test : field_before (row_of e name value) r ≡ is_below name r.name = same e r.entity.0 (is_below name r.name) own in
      rw (own, test) (elim (cases_Bool (is_below name r.name)) [
        | inl is ↦ rw (is, own) (ap (λ xs. pair_of r ∷ xs) (own_behind e name value rows))
        | inr isnt ↦ rw isnt (own_behind e name value rows)
      ])
  | inr other ↦ rw other (cond_both (field_before (row_of e name value) r) (r ∷ filter (λ q. field_before (row_of e name value) q) rows) (filter (λ q. field_before (row_of e name value) q) rows)
      (λ xs. map pair_of (filter (is_own e) xs) ≡ filter (λ (f : Pair). is_below name f.0) (map pair_of (filter (is_own e) rows))) (λ _. rw other (own_behind e name value rows)) (λ _. own_behind e name value rows))
]
  where
    same : (e x : ℕ) (b : Bool) → (x == e) ≡ true → (nat_lt e x || ((e == x) && b)) ≡ b
    same e x b own = grind (arith, nat_tests)

pub fields_set : (rows : List Field) (e : ℕ) (name : List ℕ) (value : Value) → fields_of (with_field rows e name value) e ≡ set_in name value (fields_of rows e)
fields_set rows e name value =
    let row = row_of e name value in
    let front = filter (λ r. field_before r row) rows in
    let behind = filter (λ r. field_before row r) rows in
    ap (map pair_of) (filter-append (is_own e) front (row ∷ behind)) ∙ map-append pair_of (filter (is_own e) front) (filter (is_own e) (row ∷ behind))
    ∙ rw (own_front e name value rows, itself e) (ap (λ xs. filter (λ (f : Pair). is_below f.0 name) (fields_of rows e) ++ (name, value) ∷ xs) (own_behind e name value rows))
  where
    itself : (e : ℕ) → (e == e) ≡ true
    itself e = grind (arith, nat_tests)

abbrev mine_before : ℕ → Field → Field → Bool
mine_before e x y = field_before x y

-- fields that rise have names that rise for one entity
names_rise : (e : ℕ) (rows : List Field) → InOrder field_before rows → Rise (fields_of rows e)
names_rise e [] order = tt
names_rise e (r ∷ rows) order =
    cond_both (r.entity.0 == e) (r ∷ filter (is_own e) rows) (filter (is_own e) rows) (λ xs. Rise (map pair_of xs))
    (λ own. (later r rows own order.0, names_rise e rows order.1)) (λ _. names_rise e rows order.1)
  where
    below : (x y e : ℕ) (b : Bool) → (x == e) ≡ true → (y == e) ≡ true → (nat_lt x y || ((x == y) && b)) ≡ true → b ≡ true
    below x y e b one two is = grind (arith, nat_tests)

    later : (r : Field) (rows : List Field) → (r.entity.0 == e) ≡ true → AllByRecursion (λ y. field_before r y ≡ true) rows → AllByRecursion (λ (y : Pair). is_below r.name y.0 ≡ true) (map pair_of (filter (is_own e) rows))
    later r [] own all = tt
    later r (q ∷ rows) own all =
        cond_both (q.entity.0 == e) (q ∷ filter (is_own e) rows) (filter (is_own e) rows) (λ xs. AllByRecursion (λ (y : Pair). is_below r.name y.0 ≡ true) (map pair_of xs))
        (λ mine. (below r.entity.0 q.entity.0 e (is_below r.name q.name) own mine all.0, later r rows own all.1)) (λ _. later r rows own all.1)

pub field_joins : Joins field_before
field_joins x y z one two = text_joins x.entity.0 x.name y.entity.0 y.name z.entity.0 z.name one two

-- an entity has its fields when one of them is set
pub has_them : (d : Deployed) (rows : List Field) (row : Entity) (name : List ℕ) (value : Value) → rises_by field_before rows ≡ true → has_its_fields d rows row ≡ true
    → option_map_or (λ (f : FieldCode). is_of_kind f.kind value) (named (λ (f : FieldCode). f.name) name (block_fields d row.block)) false ≡ true
    → has_its_fields d (with_field rows row.number.0 name value) row ≡ true
has_them d rows row name value rises has kind =
    rw (fields_set rows row.number.0 name value)
    (declared_set name value (block_fields d row.block) (fields_of rows row.number.0) has (names_rise row.number.0 rows (order_from_rises field_before field_joins rows rises)) kind)
