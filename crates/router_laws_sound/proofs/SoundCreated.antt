-- A new entity has its block's fields, and keeps every part sound, a child as well as a root.
use Rattle.deploy_model.specs.Deployed.{Deployed, block_fields}
use Rattle.router_laws.proofs.ListRules.{all_append, append_joins, append_nil}
use Rattle.router_laws.proofs.OrderLemmas.{below_joins}
use Rattle.router_laws.proofs.RisingLemmas.{InOrder, order_from_rises, put_rises}
use Rattle.router_laws.proofs.Tests.{tests_append, tests_put}
use Rattle.router_laws_sound.proofs.SoundBase.{everywhere, found_more, none_there, there_below}
use Rattle.router_laws_sound.proofs.SoundEntities.{StandStill, field_rows_still, still_there}
use Rattle.router_laws_sound.proofs.SoundFields.{field_joins, fields_set, not_above, set_in}
use Rattle.router_laws_sound.proofs.SoundSmall.{fields_elsewhere}
use Rattle.router_state.specs.Changes.{after_change, after_changes}
use Rattle.router_state.specs.Fields.{field_before, fields_of, with_field}
use Rattle.router_state.specs.Fits.{are_declared, is_of_kind, is_value}
use Rattle.router_state.specs.State.{State}
use Rattle.router_state.specs.Trees.{entity_at}
use Rattle.router_state.specs.WellEntities.{are_fields, has_its_fields, is_field_row}
use Rattle.router_state.specs.declared.change.Change.{Change}
use Rattle.router_state.specs.declared.rows.Activity.{Activity}
use Rattle.router_state.specs.declared.rows.Entity.{Entity}
use Rattle.router_state.specs.declared.rows.Field.{Field}
use Rattle.router_state.specs.declared.rows.Stem.{Stem}
use Rattle.router_state.specs.declared.rows.Timer.{Timer}
use Rattle.router_steps.specs.Values.{unset}
use Rattle.rows_sorted.specs.Orders.{are_below, rises_by}
use Rattle.script_meaning.specs.Values.{number}
use Rattle.script_types.specs.declared.codes.FieldCode.{FieldCode}
use Rattle.slee_value.specs.Order.{is_below}
use Rattle.slee_value.specs.declared.kind.Kind.{Kind}
use Rattle.slee_value.specs.declared.value.Value.{Value}
use Rattle.std.proofs.Common.{Bool, List, Some, [], ap, arith, false, filter, map, refl, subst, sym, true, ℕ, ◌++◌, ◌==◌, ◌∙◌, ◌∷◌, ◌≡◌}
use Rattle.std.proofs.lemmas.Bool.{and_from, and_parts, eq-eqb}
use Rattle.std.proofs.lemmas.Bool.Decides.{nat_tests}
use Rattle.std.proofs.lemmas.List.Folds.{find-append}
use Rattle.std.proofs.lemmas.Slice.Eq.{bytes_eq-Decides}
use Rattle.std.proofs.lemmas.Str.{IsUtf8-nil, is_utf8-from_IsUtf8}
use Rattle.std.specs.List.{AllByRecursion, list_all}
use Rattle.std.specs.Prelude.{bytes_eq, is_some, nat_lt, ℤ}
use Rattle.std.specs.Str.{is_utf8}
use Rattle.router_state.specs.declared.change.Change.TheVariants as changes
use Rattle.slee_value.specs.declared.kind.Kind.TheVariants as kind

-- fields that are set one after another

abbrev pub with_fields : List Field → ℕ → List FieldCode → List Field
with_fields rows e [] = rows
with_fields rows e (f ∷ fields) = with_fields (with_field rows e f.name (unset f.kind)) e fields

abbrev pub setting : ℕ → List FieldCode → List Change
setting e fields = map (λ (field : FieldCode). changes.SetField (record { 0 = e }) field.name (unset field.kind)) fields

pub fields_set_alone : (e : ℕ) (fields : List FieldCode) (s : State) → after_changes (setting e fields) s ≡ record s { fields = with_fields s.fields e fields }
fields_set_alone e [] s = refl
fields_set_alone e (f ∷ fields) s = fields_set_alone e fields (after_change (changes.SetField (record { 0 = e }) f.name (unset f.kind)) s)

-- the named values with which fields start
abbrev first_values : List FieldCode → List (List ℕ × Value)
first_values fields = map (λ (f : FieldCode). (f.name, unset f.kind)) fields

unset_is_of_kind : (k : Kind) → is_of_kind k (unset k) ≡ true
unset_is_of_kind kind.Int = refl
unset_is_of_kind kind.Text = refl
unset_is_of_kind kind.Bool = refl
unset_is_of_kind kind.Activity = refl
unset_is_of_kind kind.Timer = refl

unset_fits : (n m : ℕ) (k : Kind) → nat_lt 0 n ≡ true → nat_lt 0 m ≡ true → is_value n m (unset k) ≡ true
unset_fits n m kind.Int one two = refl
unset_fits n m kind.Text one two = and_from (is_utf8 []) _ (is_utf8-from_IsUtf8 [] IsUtf8-nil) refl
unset_fits n m kind.Bool one two = refl
unset_fits n m kind.Activity one two = one
unset_fits n m kind.Timer one two = two

values_are_declared : (fields : List FieldCode) → are_declared fields (first_values fields) ≡ true
values_are_declared [] = refl
values_are_declared (f ∷ fields) = and_from (bytes_eq f.name f.name) _ (same_itself f.name) (and_from (is_of_kind f.kind (unset f.kind)) _ (unset_is_of_kind f.kind) (values_are_declared fields))
  where
    same_itself : (x : List ℕ) → bytes_eq x x ≡ true
    same_itself x = (bytes_eq-Decides x x).1 refl

-- each of these names is below this one
abbrev AreNamesBelow : List ℕ → List (List ℕ × Value) → Type 0
AreNamesBelow name fields = AllByRecursion (λ (f : List ℕ × Value). is_below f.0 name ≡ true) fields

last_set : (name : List ℕ) (value : Value) (fields : List (List ℕ × Value)) → AreNamesBelow name fields → set_in name value fields ≡ fields ++ (name, value) ∷ []
last_set name value fields below = rw (ahead fields below, none fields below) refl
  where
    ahead : (fields : List (List ℕ × Value)) → AreNamesBelow name fields → filter (λ (f : List ℕ × Value). is_below f.0 name) fields ≡ fields
    ahead [] below = refl
    ahead (f ∷ fields) below = rw below.0 (ap (λ xs. f ∷ xs) (ahead fields below.1))

    none : (fields : List (List ℕ × Value)) → AreNamesBelow name fields → filter (λ (f : List ℕ × Value). is_below name f.0) fields ≡ []
    none [] below = refl
    none (f ∷ fields) below = rw (not_above f.0 name below.0) (none fields below.1)

own_set : (fields : List FieldCode) (rows : List Field) (e : ℕ) → InOrder (λ (x y : FieldCode). is_below x.name y.name) fields → AllByRecursion (λ (f : FieldCode). AreNamesBelow f.name (fields_of rows e)) fields
    → fields_of (with_fields rows e fields) e ≡ fields_of rows e ++ first_values fields
own_set [] rows e order below = sym (append_nil (fields_of rows e))
own_set (f ∷ fields) rows e order below =
    let next = with_field rows e f.name (unset f.kind) in
    let one : fields_of next e ≡ fields_of rows e ++ (f.name, unset f.kind) ∷ [] = fields_set rows e f.name (unset f.kind) ∙ last_set f.name (unset f.kind) (fields_of rows e) below.0 in
    own_set fields next e order.1 (subst (λ had. AllByRecursion (λ (g : FieldCode). AreNamesBelow g.name had) fields) (sym one) (each fields order.0 below.1))
    ∙ rw one (append_joins (fields_of rows e) ((f.name, unset f.kind) ∷ []) (first_values fields))
  where
    each : (more : List FieldCode) → AllByRecursion (λ (g : FieldCode). is_below f.name g.name ≡ true) more → AllByRecursion (λ (g : FieldCode). AreNamesBelow g.name (fields_of rows e)) more
        → AllByRecursion (λ (g : FieldCode). AreNamesBelow g.name (fields_of rows e ++ (f.name, unset f.kind) ∷ [])) more
    each [] later below = tt
    each (g ∷ more) later below = (all_append (λ (x : List ℕ × Value). is_below x.0 g.name ≡ true) (fields_of rows e) ((f.name, unset f.kind) ∷ []) below.0 (later.0, tt), each more later.1 below.1)

others_set : (fields : List FieldCode) (rows : List Field) (e b : ℕ) → (b == e) ≡ false → fields_of (with_fields rows e fields) b ≡ fields_of rows b
others_set [] rows e b other = refl
others_set (f ∷ fields) rows e b other = others_set fields (with_field rows e f.name (unset f.kind)) e b other ∙ fields_elsewhere rows e b f.name (unset f.kind) other

set_rises : (fields : List FieldCode) (rows : List Field) (e : ℕ) → rises_by field_before rows ≡ true → rises_by field_before (with_fields rows e fields) ≡ true
set_rises [] rows e rises = rises
set_rises (f ∷ fields) rows e rises = set_rises fields (with_field rows e f.name (unset f.kind)) e (put_rises field_before field_joins (record { entity = record { 0 = e }; name = f.name; value = unset f.kind }) rows rises)

set_passes : (entities : List Entity) (n m : ℕ) (fields : List FieldCode) (rows : List Field) (e : ℕ) → is_some (entity_at entities e) ≡ true → nat_lt 0 n ≡ true → nat_lt 0 m ≡ true
    → list_all (is_field_row entities n m) rows ≡ true → list_all (is_field_row entities n m) (with_fields rows e fields) ≡ true
set_passes entities n m [] rows e there one two all = all
set_passes entities n m (f ∷ fields) rows e there one two all =
    set_passes entities n m fields (with_field rows e f.name (unset f.kind)) e there one two
    (tests_put field_before (is_field_row entities n m) (record { entity = record { 0 = e }; name = f.name; value = unset f.kind }) rows (and_from (is_some (entity_at entities e)) _ there (unset_fits n m f.kind one two)) all)

-- no field is one of an entity that isn't there yet
no_fields : (entities : List Entity) (n m e : ℕ) (rows : List Field) → are_below (λ (r : Entity). r.number.0) e entities ≡ true → list_all (is_field_row entities n m) rows ≡ true → fields_of rows e ≡ []
no_fields entities n m e [] below all = refl
no_fields entities n m e (f ∷ rows) below all =
    let parts = and_parts (is_field_row entities n m f) (list_all (is_field_row entities n m) rows) all in
    let there = (and_parts (is_some (entity_at entities f.entity.0)) _ parts.0).0 in
    let other : (f.entity.0 == e) ≡ false = apart f.entity.0 e (there_below (λ (r : Entity). r.number.0) e f.entity.0 entities there below) in
    rw other (no_fields entities n m e rows below parts.1)
  where
    apart : (x n : ℕ) → nat_lt x n ≡ true → (x == n) ≡ false
    apart x n less = grind (arith, nat_tests)

-- a new entity stands behind the others
abbrev pub new_entity : ℕ → ℕ → Stem → ℤ → Entity
new_entity e block stem priority = record { number = record { 0 = e }; block = block; stem = stem; priority = priority }

pub still_created : (rows : List Entity) (row : Entity) → StandStill rows (rows ++ row ∷ [])
still_created rows row e old found = (old, found_more (λ (r : Entity). r.number.0 == e) rows (row ∷ []) old found, refl)

pub new_found : (rows : List Entity) (e block : ℕ) (stem : Stem) (priority : ℤ) → are_below (λ (r : Entity). r.number.0) e rows ≡ true → entity_at (rows ++ new_entity e block stem priority ∷ []) e ≡ Some (new_entity e block stem priority)
new_found rows e block stem priority below =
    find-append (λ (r : Entity). r.number.0 == e) rows (new_entity e block stem priority ∷ []) ∙ rw (none_there (λ (r : Entity). r.number.0) e rows below, eq-eqb e e refl) refl

-- the fields of all entities, where there is one more
pub fields_created : (d : Deployed) (rows : List Entity) (fields : List Field) (n m e block : ℕ) (stem : Stem) (priority : ℤ) → are_below (λ (r : Entity). r.number.0) e rows ≡ true → nat_lt 0 n ≡ true → nat_lt 0 m ≡ true
    → rises_by (λ (x y : FieldCode). is_below x.name y.name) (block_fields d block) ≡ true → are_fields d rows fields n m ≡ true
    → are_fields d (rows ++ new_entity e block stem priority ∷ []) (with_fields fields e (block_fields d block)) n m ≡ true
fields_created d rows fields n m e block stem priority below one two order sound =
    let row = new_entity e block stem priority in
    let more = rows ++ row ∷ [] in
    let codes = block_fields d block in
    let first = and_parts (rises_by field_before fields) _ sound in
    let tests = and_parts (list_all (is_field_row rows n m) fields) (list_all (has_its_fields d fields) rows) first.1 in
    let there = still_there rows more (still_created rows row) in
    let here : is_some (entity_at more e) ≡ true = rw (new_found rows e block stem priority below) refl in
    let nothing = no_fields rows n m e fields below tests.0 in
    let own : fields_of (with_fields fields e codes) e ≡ first_values codes =
    own_set codes fields e (order_from_rises (λ (x y : FieldCode). is_below x.name y.name) (λ x y z. below_joins x.name y.name z.name) codes order) (subst (λ had. AllByRecursion (λ (f : FieldCode). AreNamesBelow f.name had) codes) (sym nothing) (everywhere (λ (f : FieldCode). AreNamesBelow f.name []) (λ f. tt) codes))
    ∙ rw nothing refl in
    and_from (rises_by field_before (with_fields fields e codes)) _ (set_rises codes fields e first.0)
    (and_from (list_all (is_field_row more n m) (with_fields fields e codes)) _ (set_passes more n m codes fields e here one two (field_rows_still rows more n m fields there tests.0))
    (tests_append (has_its_fields d (with_fields fields e codes)) rows (row ∷ []) (olds codes rows below tests.1) (and_from (has_its_fields d (with_fields fields e codes) row) _ (rw own (values_are_declared codes)) refl)))
  where
    apart : (x n : ℕ) → nat_lt x n ≡ true → (x == n) ≡ false
    apart x n less = grind (arith, nat_tests)

    olds : (codes : List FieldCode) (some : List Entity) → are_below (λ (r : Entity). r.number.0) e some ≡ true → list_all (has_its_fields d fields) some ≡ true → list_all (has_its_fields d (with_fields fields e codes)) some ≡ true
    olds codes [] below all = refl
    olds codes (r ∷ some) below all =
        let lows = and_parts (nat_lt r.number.0 e) (are_below (λ (x : Entity). x.number.0) e some) below in
        let parts = and_parts (has_its_fields d fields r) (list_all (has_its_fields d fields) some) all in
        and_from (has_its_fields d (with_fields fields e codes) r) _ (rw (others_set codes fields e r.number.0 (apart r.number.0 e lows.0)) parts.0) (olds codes some lows.1 parts.1)
