-- Where no rows are read nothing is restored, in a deployment whose states can be held: names in a sound state are names.
use Rattle.std.proofs.Common.{◌≡◌, ℕ, zero, suc, ◌<◌, ◌==◌, Bool, true, false, ◌&&◌, not, List, [], ◌∷◌, ◌++◌, filter, length, map, refl, sym, ap, ◌∙◌, subst, get_or, inl, inr, nat_lt}
use Rattle.std.specs.Prelude.{Option, Some, None, Result, Ok, Err, bytes_eq, flat_map, if◌then◌else◌, is_some, option_and_then, option_map, slice_get}
use Rattle.std.specs.Option.{option_map_or}
use Rattle.std.specs.List.{AllByRecursion, list_all}
use Rattle.std.proofs.lemmas.Bool.{and_from, and_parts, cases_Bool, false≢true}
use Rattle.std.proofs.lemmas.Option.{same_Some}
use Rattle.std.proofs.lemmas.Slice.Eq.{bytes_eq-Decides}
use Rattle.slee_value.specs.Fields.{are_fields}
use Rattle.slee_value.specs.Name.{is_name}
use Rattle.slee_value.specs.Order.{names_of, rises}
use Rattle.slee_value.specs.Reading.{Fault, Part, ◌>>=◌}
use Rattle.slee_value.specs.declared.value.Value.{Value}
use Rattle.slee_value.proofs.ReadLemmas.{bytes_from}
use Rattle.script_types.specs.Program.{Program}
use Rattle.script_types.specs.Codes.{built_in}
use Rattle.script_types.specs.declared.codes.EventCode.{EventCode}
use Rattle.script_types.specs.declared.codes.FieldCode.{FieldCode}
use Rattle.script_types.specs.declared.codes.RelationCode.{RelationCode}
use Rattle.deploy_model.specs.Deployed.{Deployed, DeployedProfile, DeployedTable, block_fields, event_fields, event_type, profile_of, relation_of, table_at, table_attributes}
use Rattle.router_state.specs.State.{State}
use Rattle.router_state.specs.Contexts.{activity_at}
use Rattle.router_state.specs.Fields.{fields_of}
use Rattle.router_state.specs.Fits.{are_declared, is_drawn, is_of_kind, is_priority, is_text, is_value, none_or}
use Rattle.router_state.specs.Restoring.{parsed, restored, tested}
use Rattle.router_state.specs.Snapshot.{spelled_state}
use Rattle.router_state.specs.Trees.{entity_at}
use Rattle.router_state.specs.Well.{IsSound, IsWell, is_well}
use Rattle.router_state.specs.WellContexts.{is_activity_row, is_kind}
use Rattle.router_state.specs.WellEntities.{has_its_fields, is_entity_row, is_field_row, is_stem, leads_to}
use Rattle.router_state.specs.WellQueues.{has_event_fields, is_event_row}
use Rattle.router_state.specs.WellRows.{is_profile_row}
use Rattle.router_state.specs.declared.rows.AcKind.{AcKind}
use Rattle.router_state.specs.declared.rows.AcKind.TheVariants as kinds
use Rattle.router_state.specs.declared.rows.Activity.{Activity}
use Rattle.router_state.specs.declared.rows.Entity.{Entity}
use Rattle.router_state.specs.declared.rows.Event.{Event}
use Rattle.router_state.specs.declared.rows.Field.{Field}
use Rattle.router_state.specs.declared.rows.ProfileRow.{ProfileRow}
use Rattle.router_state.specs.declared.rows.Queued.{Queued}
use Rattle.router_state.specs.declared.rows.Stem.{Stem}
use Rattle.router_state.specs.declared.rows.Stem.TheVariants as stems
use Rattle.router_laws_snapshots.proofs.Fitting.{all_tests, found_holds, option_test}
use Rattle.router_laws_snapshots.proofs.Gathered.{sound_gathered}
use Rattle.router_laws_snapshots.proofs.Restored.{passes_well}
use Rattle.router_laws_snapshots.proofs.Parsed.{rows_of}
use Rattle.router_laws_reading.specs.Holding.{CanHold, all_rise, do_rise, has_name}
use Rattle.router_laws_reading.proofs.TakenStates.{parsed_took}
use Rattle.router_laws_reading.proofs.WholeStates.{ill_restored, nothing_left, well_spelled}
use Rattle.snapshot_read.specs.Names.{are_named, is_all, is_held, is_kind_named, is_stem_named}

-- a test that follows from another
all_follow : {A : Type 0} (p q : A → Bool) → ((x : A) → p x ≡ true → q x ≡ true) → (xs : List A) → list_all p xs ≡ true → list_all q xs ≡ true
all_follow p q follows [] is = refl
all_follow p q follows (x ∷ xs) is = (let parts = and_parts (p x) (list_all p xs) is in and_from (q x) (list_all q xs) (follows x parts.0) (all_follow p q follows xs parts.1))

joined_all : {A : Type 0} (p : A → Bool) (xs ys : List A) → list_all p xs ≡ true → list_all p ys ≡ true → list_all p (xs ++ ys) ≡ true
joined_all p [] ys one two = two
joined_all p (x ∷ xs) ys one two = (let parts = and_parts (p x) (list_all p xs) one in and_from (p x) (list_all p (xs ++ ys)) parts.0 (joined_all p xs ys parts.1 two))

-- ---- what a deployment declares

-- the fields of an event rise by their names, be it declared or built in
fields_rise : (d : Deployed) (name : List ℕ) (declared : List FieldCode) → all_rise d ≡ true → event_fields d name ≡ Some declared → do_rise declared ≡ true
fields_rise d name declared rise is = by (event_type d name) refl is
  where
    all : list_all (λ (e : EventCode). do_rise e.fields) (built_in ++ d.events) ≡ true
    all = joined_all (λ (e : EventCode). do_rise e.fields) built_in d.events refl (and_parts (list_all (λ (e : EventCode). do_rise e.fields) d.events) _ rise).0

    by : (o : Option EventCode) → event_type d name ≡ o → option_map (λ (e : EventCode). e.fields) o ≡ Some declared → do_rise declared ≡ true
    by None found is = absurd (cc)
    by (Some e) found is =
        subst (λ fields. do_rise fields ≡ true) (same_Some e.fields declared is)
        (found_holds (λ (e : EventCode). do_rise e.fields ≡ true) (λ (e : EventCode). bytes_eq e.name name) (built_in ++ d.events) e found (all_tests (λ (e : EventCode). do_rise e.fields) (λ e. do_rise e.fields ≡ true) (λ e is. is) (built_in ++ d.events) all)).0

-- so do the attributes of a table
place_all : {A : Type 0} (p : A → Bool) (xs : List A) (n : ℕ) (x : A) → slice_get xs n ≡ Some x → list_all p xs ≡ true → p x ≡ true
place_all p [] n x is all = absurd (cc)
place_all p (y ∷ xs) zero x is all = subst (λ z. p z ≡ true) (same_Some y x is) (and_parts (p y) (list_all p xs) all).0
place_all p (y ∷ xs) (suc n) x is all = place_all p xs n x is (and_parts (p y) (list_all p xs) all).1

attributes_rise : (d : Deployed) (n : ℕ) → all_rise d ≡ true → do_rise (table_attributes d n) ≡ true
attributes_rise d n rise = by (table_at d n)
  where
    all : list_all (λ (p : DeployedProfile). do_rise p.attributes) d.profiles ≡ true
    all = (and_parts (list_all (λ (e : EventCode). do_rise e.fields) d.events) (list_all (λ (p : DeployedProfile). do_rise p.attributes) d.profiles) rise).1

    of : (o : Option DeployedProfile) → ((p : DeployedProfile) → o ≡ Some p → do_rise p.attributes ≡ true) → do_rise (option_map_or (λ (p : DeployedProfile). p.attributes) o []) ≡ true
    of None each = refl
    of (Some p) each = each p refl

    by : (o : Option DeployedTable) → do_rise (option_map_or (λ (p : DeployedProfile). p.attributes) (option_and_then (λ (t : DeployedTable). slice_get d.profiles t.profile) o) []) ≡ true
    by None = refl
    by (Some t) = of (slice_get d.profiles t.profile) (λ p is. place_all (λ (p : DeployedProfile). do_rise p.attributes) d.profiles t.profile p is all)

-- ---- named values

-- the names are the declared ones
names_declared : (declared : List FieldCode) (fields : List (List ℕ × Value)) → are_declared declared fields ≡ true → names_of fields ≡ map (λ (f : FieldCode). f.name) declared
names_declared [] [] are = refl
names_declared [] (f ∷ fields) are = absurd (cc)
names_declared (d ∷ declared) [] are = absurd (cc)
names_declared (d ∷ declared) (f ∷ fields) are =
    let parts = and_parts (bytes_eq d.name f.0) _ are in
    let more = and_parts (is_of_kind d.kind f.1) (are_declared declared fields) parts.1 in
    both d.name f.0 ((bytes_eq-Decides d.name f.0).0 parts.0) (names_declared declared fields more.1)
  where
    both : {xs ys : List (List ℕ)} (a b : List ℕ) → a ≡ b → xs ≡ ys → b ∷ xs ≡ a ∷ ys
    both a b one two = rw (one, two) refl

code_names : (declared : List FieldCode) → list_all has_name declared ≡ true → list_all is_name (map (λ (f : FieldCode). f.name) declared) ≡ true
code_names [] have = refl
code_names (d ∷ declared) have = (let parts = and_parts (has_name d) (list_all has_name declared) have in and_from (is_name d.name) (list_all is_name (map (λ (f : FieldCode). f.name) declared)) parts.0 (code_names declared parts.1))

fields_declared : (declared : List FieldCode) (fields : List (List ℕ × Value)) → are_declared declared fields ≡ true → list_all has_name declared ≡ true → do_rise declared ≡ true → are_fields fields ≡ true
fields_declared declared fields are have rise =
    subst (λ names. (list_all is_name names && rises names) ≡ true) (sym (names_declared declared fields are))
    (and_from (list_all is_name (map (λ (f : FieldCode). f.name) declared)) (do_rise declared) (code_names declared have) rise)

-- ---- the lists of a sound state

stem_named : (d : Deployed) (rows : List Entity) (number block : ℕ) (stem : Stem) → CanHold d → is_stem d rows number block stem ≡ true → is_stem_named stem ≡ true
stem_named d rows number block (stems.Root service) can is = refl
stem_named d rows number block (stems.Child parent relation) can is =
    let parts = and_parts (nat_lt parent.0 number) _ is in
    let above = option_test (λ (row : Entity). leads_to d row.block relation block) (entity_at rows parent.0) parts.1 in
    let found = option_test (λ (r : RelationCode). r.block == block) (relation_of d above.0.block relation) above.2 in
    can.names.relations above.0.block relation found.0 found.1

entities_named : (s : State) → CanHold s.deployment → IsSound s → list_all (λ (row : Entity). is_stem_named row.stem) s.entities ≡ true
entities_named s can sound =
    let d = s.deployment in
    all_follow (is_entity_row d s.entities s.next_entity) (λ (row : Entity). is_stem_named row.stem)
    (λ row is.
    let one = and_parts (is_drawn s.next_entity row.number.0) _ is in
    let two = and_parts (is_priority row.priority) (is_stem d s.entities row.number.0 row.block row.stem) one.1 in
    stem_named d s.entities row.number.0 row.block row.stem can two.1)
    s.entities (and_parts _ (list_all (is_entity_row d s.entities s.next_entity) s.entities) sound.entities).1

kind_named : (d : Deployed) (row : Activity) (kind : AcKind) → is_kind d row kind ≡ true → is_kind_named kind ≡ true
kind_named d row (kinds.External name) is = is
kind_named d row kinds.Null is = refl
kind_named d row (kinds.Service service) is = refl
kind_named d row (kinds.Table table) is = refl

activities_named : (s : State) → IsSound s → list_all (λ (row : Activity). is_kind_named row.kind) s.activities ≡ true
activities_named s sound =
    let d = s.deployment in
    let more = (and_parts _ _ sound.activities).1 in
    all_follow (is_activity_row d s.next_activity) (λ (row : Activity). is_kind_named row.kind)
    (λ row is. kind_named d row row.kind (and_parts (is_drawn s.next_activity row.number.0) (is_kind d row row.kind) is).1)
    s.activities (and_parts (list_all (is_activity_row d s.next_activity) s.activities) _ more).0

events_named : (s : State) → CanHold s.deployment → IsSound s → list_all (λ (row : Queued). are_fields row.event.fields) s.events ≡ true
events_named s can sound =
    let d = s.deployment in
    all_follow (is_event_row d s.activities s.next_activity s.next_timer s.next_event) (λ (row : Queued). are_fields row.event.fields)
    (λ q is.
    let one = and_parts (is_drawn s.next_event q.event.id.0) _ is in
    let two = and_parts (is_some (activity_at s.activities q.activity.0)) _ one.1 in
    let three = and_parts (none_or (λ service. nat_lt service (length d.services)) q.event.target) (has_event_fields d s.next_activity s.next_timer q.event) two.1 in
    let four = and_parts (option_map_or (λ declared. are_declared declared q.event.fields) (event_fields d q.event.name) false) _ three.1 in
    let found = option_test (λ declared. are_declared declared q.event.fields) (event_fields d q.event.name) four.0 in
    fields_declared found.0 q.event.fields found.2 (can.names.events q.event.name found.0 found.1) (fields_rise d q.event.name found.0 can.rise found.1))
    s.events (and_parts (list_all (is_event_row d s.activities s.next_activity s.next_timer s.next_event) s.events) _ (and_parts _ _ (and_parts _ _ sound.events).1).1).0

rows_named : (s : State) → CanHold s.deployment → IsSound s → list_all (λ (row : ProfileRow). are_fields row.attributes) s.rows ≡ true
rows_named s can sound =
    let d = s.deployment in
    let more = (and_parts _ _ sound.rows).1 in
    all_follow (is_profile_row d s.next_activity s.next_timer) (λ (row : ProfileRow). are_fields row.attributes)
    (λ row is.
    let one = and_parts (nat_lt row.table (length d.tables)) _ is in
    let two = and_parts (is_text row.row) _ one.1 in
    let three = and_parts (are_declared (table_attributes d row.table) row.attributes) _ two.1 in
    fields_declared (table_attributes d row.table) row.attributes three.0 (can.names.attributes row.table) (attributes_rise d row.table can.rise))
    s.rows (and_parts (list_all (is_profile_row d s.next_activity s.next_timer) s.rows) _ more).0

-- ---- fields, entity by entity

-- the names of an entity's fields
entity_fields_named : (s : State) (row : Entity) → CanHold s.deployment → has_its_fields s.deployment s.fields row ≡ true → list_all (λ (f : Field). is_name f.name) (rows_of (λ (f : Field). f.entity.0) s.fields row.number.0) ≡ true
entity_fields_named s row can is =
    let d = s.deployment in
    let names : list_all is_name (names_of (fields_of s.fields row.number.0)) ≡ true = subst (λ names. list_all is_name names ≡ true) (sym (names_declared (block_fields d row.block) (fields_of s.fields row.number.0) is)) (code_names (block_fields d row.block) (can.names.fields row.block)) in
    pairs_all (rows_of (λ (f : Field). f.entity.0) s.fields row.number.0) names
  where
    pairs_all : (rows : List Field) → list_all is_name (names_of (map (λ (f : Field). (f.name, f.value)) rows)) ≡ true → list_all (λ (f : Field). is_name f.name) rows ≡ true
    pairs_all [] is = refl
    pairs_all (f ∷ rows) is = (let parts = and_parts (is_name f.name) _ is in and_from (is_name f.name) (list_all (λ (f : Field). is_name f.name) rows) parts.0 (pairs_all rows parts.1))

fields_named : (s : State) → CanHold s.deployment → IsSound s → list_all (λ (f : Field). is_name f.name) s.fields ≡ true
fields_named s can sound =
    let d = s.deployment in
    let more = (and_parts _ _ sound.fields).1 in
    let have = (and_parts (list_all (is_field_row s.entities s.next_activity s.next_timer) s.fields) (list_all (has_its_fields d s.fields) s.entities) more).1 in
    subst (λ rows. list_all (λ (f : Field). is_name f.name) rows ≡ true) (sound_gathered s sound).fields (each s.entities have)
  where
    each : (rows : List Entity) → list_all (has_its_fields s.deployment s.fields) rows ≡ true → list_all (λ (f : Field). is_name f.name) (flat_map (rows_of (λ (f : Field). f.entity.0) s.fields) (map (λ (row : Entity). row.number.0) rows)) ≡ true
    each [] have = refl
    each (row ∷ rows) have =
        let parts = and_parts (has_its_fields s.deployment s.fields row) (list_all (has_its_fields s.deployment s.fields) rows) have in
        joined_all (λ (f : Field). is_name f.name) (rows_of (λ (f : Field). f.entity.0) s.fields row.number.0) (flat_map (rows_of (λ (f : Field). f.entity.0) s.fields) (map (λ (row : Entity). row.number.0) rows))
        (entity_fields_named s row can parts.0) (each rows parts.1)

-- ---- what no rows are read of

pub sound_named : (s : State) → CanHold s.deployment → IsSound s → are_named s ≡ true
sound_named s can sound =
    and_from (list_all (λ (row : Entity). is_stem_named row.stem) s.entities) _ (entities_named s can sound)
    (and_from (list_all (λ (row : Field). is_name row.name) s.fields) _ (fields_named s can sound)
    (and_from (list_all (λ (row : Activity). is_kind_named row.kind) s.activities) _ (activities_named s sound)
    (and_from (list_all (λ (row : Queued). are_fields row.event.fields) s.events) (list_all (λ (row : ProfileRow). are_fields row.attributes) s.rows) (events_named s can sound) (rows_named s can sound))))

pub well_named : (s : State) → CanHold s.deployment → is_well s ≡ true → are_named s ≡ true
well_named s can well = sound_named s can (passes_well s well).sound

-- bytes that end behind the state aren't its bytes
more_restored : (format : ℕ) (d : Deployed) (p : Program) (bytes : List ℕ) (s : State) (b : ℕ) (rest : List ℕ) → ((i : ℕ) → get_or bytes i 0 < 256) → parsed format d p bytes ≡ Ok (s, b ∷ rest) → is_well s ≡ true → restored format d p bytes ≡ None
more_restored format d p bytes s b rest are is well = by (bytes_eq (spelled_state format s) bytes) refl
  where
    by : (same : Bool) → bytes_eq (spelled_state format s) bytes ≡ same → restored format d p bytes ≡ None
    by true same =
        let text = (bytes_eq-Decides (spelled_state format s) bytes).0 same in
        absurd (some_left (nothing_left (spelled_state format s) (b ∷ rest) (well_spelled format d p bytes s (b ∷ rest) are is well ∙ sym text)))
      where
        some_left : b ∷ rest ≡ [] → ⊥
        some_left none = absurd (cc)
    by false other = rw (is, other) refl

pub unread : (format : ℕ) (d : Deployed) (p : Program) (bytes : List ℕ) → ((i : ℕ) → get_or bytes i 0 < 256) → CanHold d → is_held (parsed format d p bytes) ≡ false → restored format d p bytes ≡ None
unread format d p bytes are can isnt = by (parsed format d p bytes) refl isnt
  where
    no_rest : (s : State) (rest : List ℕ) → parsed format d p bytes ≡ Ok (s, rest) → is_well s ≡ true → (is_all rest && are_named s) ≡ false → restored format d p bytes ≡ None
    no_rest s [] own well isnt = absurd (false≢true (sym isnt ∙ well_named s (subst CanHold (ap (λ (t : State). t.deployment) (parsed_took format d p bytes (s, []) (bytes_from bytes are) own).state) can) well))
    no_rest s (b ∷ rest) own well isnt = more_restored format d p bytes s b rest are own well

    read : (x : State × List ℕ) → parsed format d p bytes ≡ Ok x → (is_all x.1 && are_named x.0) ≡ false → restored format d p bytes ≡ None
    read x own isnt = elim (cases_Bool (is_well x.0)) [
      | inl well ↦ no_rest x.0 x.1 own well isnt
      | inr ill ↦ ill_restored format d p bytes x.0 x.1 own ill
    ]

    by : (r : Part State) → parsed format d p bytes ≡ r → is_held r ≡ false → restored format d p bytes ≡ None
    by (Err fault) own isnt = rw own refl
    by (Ok x) own isnt = read x own isnt
