-- A state that was made of parts is spelled as they are, where the numbers of its entities and activities and the keys of its attachments rise.
use Rattle.std.proofs.Common.{◌≡◌, ℕ, ◌<◌, ◌==◌, Bool, true, false, ◌&&◌, List, [], ◌∷◌, ◌++◌, filter, length, map, refl, sym, ap, ◌∙◌, subst, inl, inr, arith, nat_lt}
use Rattle.std.specs.Prelude.{Option, Some, None, filter_map, find, flat_map, if◌then◌else◌, option_map}
use Rattle.std.specs.Option.{option_map_or}
use Rattle.std.specs.List.{AllByRecursion}
use Rattle.std.proofs.lemmas.Bool.{and_from, cases_Bool}
use Rattle.std.proofs.lemmas.Bool.Decides.{nat_tests}
use Rattle.std.proofs.lemmas.List.{append-nil, length-map}
use Rattle.slee_value.specs.Bytes.{spelled_u32, spelled_u64, spelled_i8, spelled_flag, spelled_option, spelled_text}
use Rattle.slee_value.specs.declared.convergence.ConvName.{ConvName}
use Rattle.slee_value.specs.declared.value.Value.{Value}
use Rattle.script_types.specs.Program.{Program}
use Rattle.rows_sorted.specs.Orders.{pair_before, same_pair}
use Rattle.deploy_model.specs.Deployed.{Deployed, block_key}
use Rattle.router_state.specs.State.{State}
use Rattle.router_state.specs.Contexts.{attributes_of as attributes_on}
use Rattle.router_state.specs.Fields.{fields_of as fields_on}
use Rattle.router_state.specs.Masks.{is_mask_of, masks_of as masks_on}
use Rattle.router_state.specs.Queues.{delivered_on, done_on, queue, suspended_until}
use Rattle.router_state.specs.Trees.{root_name_at}
use Rattle.router_state.specs.Parsing.{ActivityPart, EntityPart, LinkPart}
use Rattle.router_state.specs.Restoring.{activity_of, attributes_of, delivered_of, entity_of, events_of, fields_of, link_of, masks_of, root_name_of, services_done_of, suspension_of}
use Rattle.router_state.specs.Snapshot.{listed, spelled_activity, spelled_activity_2, spelled_conv, spelled_entity, spelled_event, spelled_kind, spelled_link, spelled_name_of, spelled_pair, spelled_state, spelled_stem}
use Rattle.router_state.specs.declared.rows.Activity.{Activity}
use Rattle.router_state.specs.declared.rows.Attribute.{Attribute}
use Rattle.router_state.specs.declared.rows.Entity.{Entity}
use Rattle.router_state.specs.declared.rows.EntityMark.{EntityMark}
use Rattle.router_state.specs.declared.rows.Event.{Event}
use Rattle.router_state.specs.declared.rows.Field.{Field}
use Rattle.router_state.specs.declared.rows.Link.{Link}
use Rattle.router_state.specs.declared.rows.Mask.{Mask}
use Rattle.router_state.specs.declared.rows.Queued.{Queued}
use Rattle.router_state.specs.declared.rows.RootName.{RootName}
use Rattle.router_state.specs.declared.rows.ServiceMark.{ServiceMark}
use Rattle.router_state.specs.declared.rows.Stem.{Stem}
use Rattle.router_state.specs.declared.rows.Stem.TheVariants as stems
use Rattle.router_state.specs.declared.rows.Suspension.{Suspension}
use Rattle.router_laws_snapshots.proofs.Gathering.{InPairs, views_made}
use Rattle.router_laws_snapshots.proofs.Fitting.{all_both}
use Rattle.router_laws_reading.proofs.OwnRows.{kept_made, left_made, own_numbered, own_option, own_rows, same_number}
use Rattle.router_laws_reading.proofs.TakenEntities.{spelled_entity_part, spelled_name_part}
use Rattle.router_laws_reading.proofs.TakenActivities.{spelled_activity_part, spelled_activity_row, spelled_until}
use Rattle.router_laws_reading.proofs.TakenOthers.{spelled_end, spelled_link_part}
use Rattle.router_laws_reading.proofs.TakenStates.{StateParts, counts_spelled, parts_spelled, state_made}

-- so the parts of a state stand to each other
pub record ArePartsApart (x : StateParts) : Type 0 where
  pub entities : InPairs (λ (a b : EntityPart). a.number < b.number) x.entities
  pub activities : InPairs (λ (a b : ActivityPart). a.number < b.number) x.activities
  pub links : InPairs (λ (a b : LinkPart). pair_before a.activity a.entity b.activity b.entity ≡ true) x.links

-- a list whose items are spelled as the parts of which they were made
list_same : {X Y : Type 0} (f : X → Y) (spell : Y → List ℕ) (part : X → List ℕ) (xs : List X) → AllByRecursion (λ x. spell (f x) ≡ part x) xs → listed spell (map f xs) ≡ listed part xs
list_same {X} f spell part xs all = ap (λ n. spelled_u64 n ++ flat_map spell (map f xs)) (length-map xs f) ∙ ap (λ bytes. spelled_u64 (length xs) ++ bytes) (each xs all)
  where
    each : (ys : List X) → AllByRecursion (λ x. spell (f x) ≡ part x) ys → flat_map spell (map f ys) ≡ flat_map part ys
    each [] all = refl
    each (y ∷ ys) all = rw (all.0, each ys all.1) refl

-- ---- entities

name_same : (s : State) (row : Entity) (stem : Stem) (name : Option ConvName) → root_name_at s.root_names row.number.0 ≡ name → spelled_name_of s row stem ≡ spelled_name_part stem name
name_same s row (stems.Root service) name is = ap (λ o. option_map_or spelled_conv o []) is
name_same s row (stems.Child parent relation) name is = refl

entity_same : (s : State) (x : EntityPart) → root_name_at s.root_names x.number ≡ x.name → fields_on s.fields x.number ≡ x.fields → spelled_entity s (entity_of x) ≡ spelled_entity_part s.deployment x
entity_same s x name fields =
    let whole : List ℕ → List ℕ → List ℕ = λ a b. spelled_u64 x.number ++ (spelled_text (block_key s.deployment x.block) ++ (spelled_stem s.deployment x.stem ++ (spelled_i8 x.priority ++ (a ++ b)))) in
    ap (λ a. whole a (listed spelled_pair (fields_on s.fields x.number))) (name_same s (entity_of x) x.stem x.name name)
    ∙ ap (λ fs. whole (spelled_name_part x.stem x.name) (listed spelled_pair fs)) fields

own_fields : (xs : List EntityPart) → InPairs (λ (a b : EntityPart). a.number < b.number) xs → AllByRecursion (λ (x : EntityPart). fields_on (flat_map fields_of xs) x.number ≡ x.fields) xs
own_fields xs order =
    let make : ℕ → List ℕ × Value → Field = λ k f. record { entity = record { 0 = k }; name = f.0; value = f.1 } in
    each xs xs (own_numbered (λ (x : EntityPart). x.number) (λ x. x.fields) (λ (row : Field). row.entity.0) make (λ k f. refl) xs order)
  where
    each : (xs ys : List EntityPart) → AllByRecursion (λ (x : EntityPart). filter (λ (row : Field). row.entity.0 == x.number) (flat_map fields_of xs) ≡ fields_of x) ys → AllByRecursion (λ (x : EntityPart). fields_on (flat_map fields_of xs) x.number ≡ x.fields) ys
    each xs [] all = tt
    each xs (y ∷ ys) all = (
      ap (map (λ (row : Field). (row.name, row.value))) all.0 ∙ views_made (λ (f : List ℕ × Value). let row : Field = record { entity = record { 0 = y.number }; name = f.0; value = f.1 } in row) (λ (row : Field). (row.name, row.value)) y.fields (λ f. refl),
      each xs ys all.1,
    )

own_names : (xs : List EntityPart) → InPairs (λ (a b : EntityPart). a.number < b.number) xs → AllByRecursion (λ (x : EntityPart). root_name_at (filter_map root_name_of xs) x.number ≡ x.name) xs
own_names xs order =
    let make : ℕ → ConvName → RootName = λ k name. record { entity = record { 0 = k }; name = name } in
    each xs xs (own_option (λ (x : EntityPart). x.number) (λ x. x.name) (λ (row : RootName). row.entity.0) make (λ k name. refl) xs order)
  where
    back : (k : ℕ) (o : Option ConvName) → option_map (λ (row : RootName). row.name) (option_map (λ name. let row : RootName = record { entity = record { 0 = k }; name = name } in row) o) ≡ o
    back k None = refl
    back k (Some name) = refl

    each : (xs ys : List EntityPart) → AllByRecursion (λ (x : EntityPart). find (λ (row : RootName). row.entity.0 == x.number) (filter_map root_name_of xs) ≡ root_name_of x) ys → AllByRecursion (λ (x : EntityPart). root_name_at (filter_map root_name_of xs) x.number ≡ x.name) ys
    each xs [] all = tt
    each xs (y ∷ ys) all = (ap (option_map (λ (row : RootName). row.name)) all.0 ∙ back y.number y.name, each xs ys all.1)

pub entities_same : (format : ℕ) (d : Deployed) (p : Program) (x : StateParts) → ArePartsApart x → listed (spelled_entity (state_made format d p x)) (map entity_of x.entities) ≡ listed (spelled_entity_part d) x.entities
entities_same format d p x apart =
    let s = state_made format d p x in
    list_same entity_of (spelled_entity s) (spelled_entity_part d) x.entities
    (all_both (λ (y : EntityPart). root_name_at s.root_names y.number ≡ y.name) (λ y. fields_on s.fields y.number ≡ y.fields) (λ y. spelled_entity s (entity_of y) ≡ spelled_entity_part d y)
    (λ y name fields. entity_same s y name fields) x.entities (own_names x.entities apart.entities) (own_fields x.entities apart.entities))

-- ---- activities

-- what belongs to an activity is what was read with it
record OwnsAll (s : State) (x : ActivityPart) : Type 0 where
  attributes : attributes_on s.attributes x.number ≡ x.attributes
  events : queue s.events x.number ≡ x.events
  services_done : done_on s.services_done x.number ≡ x.services_done
  delivered : delivered_on s.delivered x.number ≡ x.delivered

row_same : (s : State) (x : ActivityPart) → OwnsAll s x → spelled_activity s (activity_of x) ≡ spelled_activity_row s.deployment x
row_same s x own = rw (own.attributes, own.events, own.services_done, own.delivered) refl

-- rows of a kind that are made of items of their activities, seen as the items again
own_items : {V Row : Type 0} (items : ActivityPart → List V) (owner : Row → ℕ) (make : ℕ → V → Row) (item : Row → V) → ((k : ℕ) (v : V) → owner (make k v) ≡ k) → ((k : ℕ) (v : V) → item (make k v) ≡ v) → (xs : List ActivityPart) → InPairs (λ (a b : ActivityPart). a.number < b.number) xs
    → AllByRecursion (λ (x : ActivityPart). map item (filter (λ row. owner row == x.number) (flat_map (λ x. map (make x.number) (items x)) xs)) ≡ items x) xs
own_items {V} {Row} items owner make item owns back xs order = each xs (own_numbered (λ (x : ActivityPart). x.number) items owner make owns xs order)
  where
    each : (ys : List ActivityPart) → AllByRecursion (λ (x : ActivityPart). filter (λ row. owner row == x.number) (flat_map (λ x. map (make x.number) (items x)) xs) ≡ map (make x.number) (items x)) ys
        → AllByRecursion (λ (x : ActivityPart). map item (filter (λ row. owner row == x.number) (flat_map (λ x. map (make x.number) (items x)) xs)) ≡ items x) ys
    each [] all = tt
    each (y ∷ ys) all = (ap (map item) all.0 ∙ views_made (make y.number) item (items y) (λ v. back y.number v), each ys all.1)

all_owned : (format : ℕ) (d : Deployed) (p : Program) (x : StateParts) → ArePartsApart x → AllByRecursion (OwnsAll (state_made format d p x)) x.activities
all_owned format d p x apart =
    let s = state_made format d p x in
    let xs = x.activities in
    let attribute : ℕ → List ℕ × Value → Attribute = λ k f. record { activity = record { 0 = k }; key = f.0; value = f.1 } in
    let queued : ℕ → Event → Queued = λ k event. record { activity = record { 0 = k }; event = event } in
    let done : ℕ → ℕ → ServiceMark = λ k n. record { activity = record { 0 = k }; service = n } in
    let marked : ℕ → ℕ → EntityMark = λ k n. record { activity = record { 0 = k }; entity = record { 0 = n } } in
    let attributes = own_items (λ (x : ActivityPart). x.attributes) (λ (row : Attribute). row.activity.0) attribute (λ row. (row.key, row.value)) (λ k f. refl) (λ k f. refl) xs apart.activities in
    let events = own_items (λ (x : ActivityPart). x.events) (λ (row : Queued). row.activity.0) queued (λ row. row.event) (λ k f. refl) (λ k f. refl) xs apart.activities in
    let services = own_items (λ (x : ActivityPart). x.services_done) (λ (row : ServiceMark). row.activity.0) done (λ row. row.service) (λ k f. refl) (λ k f. refl) xs apart.activities in
    let entities = own_items (λ (x : ActivityPart). x.delivered) (λ (row : EntityMark). row.activity.0) marked (λ row. row.entity.0) (λ k f. refl) (λ k f. refl) xs apart.activities in
    joined s xs attributes events services entities
  where
    joined : (s : State) (xs : List ActivityPart) → AllByRecursion (λ (x : ActivityPart). attributes_on s.attributes x.number ≡ x.attributes) xs → AllByRecursion (λ (x : ActivityPart). queue s.events x.number ≡ x.events) xs
        → AllByRecursion (λ (x : ActivityPart). done_on s.services_done x.number ≡ x.services_done) xs → AllByRecursion (λ (x : ActivityPart). delivered_on s.delivered x.number ≡ x.delivered) xs → AllByRecursion (OwnsAll s) xs
    joined s [] a b c e = tt
    joined s (y ∷ ys) a b c e = (record { attributes = a.0; events = b.0; services_done = c.0; delivered = e.0 }, joined s ys a.1 b.1 c.1 e.1)

-- in format 1 without suspensions
pub activities_1 : (format : ℕ) (d : Deployed) (p : Program) (x : StateParts) → (format == 2) ≡ false → ArePartsApart x → listed (spelled_activity (state_made format d p x)) (map activity_of x.activities) ≡ listed (spelled_activity_part format d) x.activities
activities_1 format d p x one apart =
    let s = state_made format d p x in
    list_same activity_of (spelled_activity s) (spelled_activity_part format d) x.activities (each s x.activities (all_owned format d p x apart))
  where
    each : (s : State) (ys : List ActivityPart) → AllByRecursion (OwnsAll s) ys → AllByRecursion (λ (y : ActivityPart). spelled_activity s (activity_of y) ≡ spelled_activity_part format s.deployment y) ys
    each s [] all = tt
    each s (y ∷ ys) all = (
      row_same s y all.0 ∙ sym (append-nil (spelled_activity_row s.deployment y)) ∙ ap (λ (two : Bool). spelled_activity_row s.deployment y ++ (if two then spelled_option spelled_u64 y.until else [])) (sym one),
      each s ys all.1,
    )

own_suspensions : (xs : List ActivityPart) → InPairs (λ (a b : ActivityPart). a.number < b.number) xs → AllByRecursion (λ (x : ActivityPart). suspended_until (filter_map suspension_of xs) x.number ≡ x.until) xs
own_suspensions xs order =
    let make : ℕ → ℕ → Suspension = λ k moment. record { activity = record { 0 = k }; until = moment } in
    each xs xs (own_option (λ (x : ActivityPart). x.number) (λ x. x.until) (λ (row : Suspension). row.activity.0) make (λ k moment. refl) xs order)
  where
    back : (k : ℕ) (o : Option ℕ) → option_map (λ (row : Suspension). row.until) (option_map (λ moment. let row : Suspension = record { activity = record { 0 = k }; until = moment } in row) o) ≡ o
    back k None = refl
    back k (Some moment) = refl

    each : (xs ys : List ActivityPart) → AllByRecursion (λ (x : ActivityPart). find (λ (row : Suspension). row.activity.0 == x.number) (filter_map suspension_of xs) ≡ suspension_of x) ys → AllByRecursion (λ (x : ActivityPart). suspended_until (filter_map suspension_of xs) x.number ≡ x.until) ys
    each xs [] all = tt
    each xs (y ∷ ys) all = (ap (option_map (λ (row : Suspension). row.until)) all.0 ∙ back y.number y.until, each xs ys all.1)

-- in format 2 with them
pub activities_2 : (format : ℕ) (d : Deployed) (p : Program) (x : StateParts) → (format == 2) ≡ true → ArePartsApart x → listed (spelled_activity_2 (state_made format d p x)) (map activity_of x.activities) ≡ listed (spelled_activity_part format d) x.activities
activities_2 format d p x two apart =
    let s = state_made format d p x in
    let until : AllByRecursion (λ (y : ActivityPart). suspended_until s.suspensions y.number ≡ y.until) x.activities =
    subst (λ rows. AllByRecursion (λ (y : ActivityPart). suspended_until rows y.number ≡ y.until) x.activities) (ap (λ (two : Bool). if two then filter_map suspension_of x.activities else x.suspensions) (sym two)) (own_suspensions x.activities apart.activities) in
    list_same activity_of (spelled_activity_2 s) (spelled_activity_part format d) x.activities (each s x.activities (all_owned format d p x apart) until)
  where
    each : (s : State) (ys : List ActivityPart) → AllByRecursion (OwnsAll s) ys → AllByRecursion (λ (y : ActivityPart). suspended_until s.suspensions y.number ≡ y.until) ys → AllByRecursion (λ (y : ActivityPart). spelled_activity_2 s (activity_of y) ≡ spelled_activity_part format s.deployment y) ys
    each s [] all until = tt
    each s (y ∷ ys) all until = (
      ap (λ row. row ++ spelled_option spelled_u64 (suspended_until s.suspensions y.number)) (row_same s y all.0)
          ∙ ap (λ o. spelled_activity_row s.deployment y ++ spelled_option spelled_u64 o) until.0
          ∙ ap (λ (two : Bool). spelled_activity_row s.deployment y ++ (if two then spelled_option spelled_u64 y.until else [])) (sym two),
      each s ys all.1 until.1,
    )

-- ---- attachments

own_masks : (xs : List LinkPart) → InPairs (λ (a b : LinkPart). pair_before a.activity a.entity b.activity b.entity ≡ true) xs → AllByRecursion (λ (x : LinkPart). masks_on (flat_map masks_of xs) x.entity x.activity ≡ x.masks) xs
own_masks xs order =
    each xs xs (own_rows masks_of (λ (l : LinkPart). is_mask_of l.entity l.activity) (λ (a b : LinkPart). pair_before a.activity a.entity b.activity b.entity ≡ true)
    (λ l. kept_made (is_mask_of l.entity l.activity) (mask l) l.masks (λ event. and_from (l.entity == l.entity) (l.activity == l.activity) (same_number l.entity) (same_number l.activity)))
    (λ a b less. left_made (is_mask_of a.entity a.activity) (mask b) b.masks (λ event. later a.activity a.entity b.activity b.entity less))
    (λ a b less. left_made (is_mask_of b.entity b.activity) (mask a) a.masks (λ event. earlier a.activity a.entity b.activity b.entity less))
    xs order)
  where
    mask : LinkPart → List ℕ → Mask
    mask l event = record { entity = record { 0 = l.entity }; activity = record { 0 = l.activity }; event = event }

    later : (a b c e : ℕ) → pair_before a b c e ≡ true → same_pair e c b a ≡ false
    later a b c e less = grind (arith, nat_tests)

    earlier : (a b c e : ℕ) → pair_before a b c e ≡ true → same_pair b a e c ≡ false
    earlier a b c e less = grind (arith, nat_tests)

    each : (xs ys : List LinkPart) → AllByRecursion (λ (x : LinkPart). filter (is_mask_of x.entity x.activity) (flat_map masks_of xs) ≡ masks_of x) ys → AllByRecursion (λ (x : LinkPart). masks_on (flat_map masks_of xs) x.entity x.activity ≡ x.masks) ys
    each xs [] all = tt
    each xs (y ∷ ys) all = (ap (map (λ (m : Mask). m.event)) all.0 ∙ views_made (mask y) (λ (m : Mask). m.event) y.masks (λ event. refl), each xs ys all.1)

pub links_same : (format : ℕ) (d : Deployed) (p : Program) (x : StateParts) → ArePartsApart x → listed (spelled_link (state_made format d p x)) (map link_of x.links) ≡ listed spelled_link_part x.links
links_same format d p x apart =
    let s = state_made format d p x in
    list_same link_of (spelled_link s) spelled_link_part x.links (each s x.links (own_masks x.links apart.links))
  where
    each : (s : State) (ys : List LinkPart) → AllByRecursion (λ (l : LinkPart). masks_on s.masks l.entity l.activity ≡ l.masks) ys → AllByRecursion (λ (l : LinkPart). spelled_link s (link_of l) ≡ spelled_link_part l) ys
    each s [] all = tt
    each s (y ∷ ys) all = (ap (λ masks. spelled_u64 y.activity ++ (spelled_u64 y.entity ++ listed spelled_text masks)) all.0, each s ys all.1)
