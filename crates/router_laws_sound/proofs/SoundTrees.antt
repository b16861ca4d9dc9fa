-- A tree that goes keeps every part sound.
use Rattle.deploy_model.specs.Deployed.{Deployed}
use Rattle.router_laws.proofs.ForestLemmas.{trees_whole}
use Rattle.router_laws.proofs.ListRules.{filter_all, in_filter}
use Rattle.router_laws.proofs.Removal.{filter_same, filter_true, in_list, left_entities, left_links, out_twice}
use Rattle.router_laws.proofs.Tests.{differ_all, tests_kept}
use Rattle.router_laws.specs.Forest.{AreBelowChildren, IsIn}
use Rattle.router_laws_sound.proofs.SoundBase.{everywhere, found_in, found_passes, ordered_changes, some_there, sound_ordered}
use Rattle.router_laws_sound.proofs.SoundEntities.{differ_agree, named_is_root, passes_in}
use Rattle.router_laws_sound.proofs.SoundRemoval.{IsWhole, entities_left, entity_left, found_left, left_of, links_removed, masks_removed}
use Rattle.router_state.specs.Changes.{after_changes}
use Rattle.router_state.specs.Fields.{field_before, fields_of, without_fields}
use Rattle.router_state.specs.Fits.{is_drawn, is_priority}
use Rattle.router_state.specs.Ordered.{IsOrdered}
use Rattle.router_state.specs.State.{State}
use Rattle.router_state.specs.Trees.{entity_at, is_root, parent_in, parent_of, root_name_before, service_of, tree_of, without_root_name}
use Rattle.router_state.specs.Well.{IsSound}
use Rattle.router_state.specs.WellContexts.{are_links, are_masks}
use Rattle.router_state.specs.WellEntities.{are_entities, are_fields, are_root_names, are_root_names_apart, differ_in_name, has_its_fields, is_entity_row, is_field_row, is_named, is_root_name, is_stem, root_service}
use Rattle.router_state.specs.declared.rows.Entity.{Entity}
use Rattle.router_state.specs.declared.rows.Field.{Field}
use Rattle.router_state.specs.declared.rows.Link.{Link}
use Rattle.router_state.specs.declared.rows.RootName.{RootName}
use Rattle.router_state.specs.declared.rows.Stem.{Stem}
use Rattle.router_steps.specs.Going.{all_removed, changes_of_removal, removed, tree_removed}
use Rattle.router_steps.specs.Moves.{changes_of_detaching}
use Rattle.router_steps.specs.Steps.{Root}
use Rattle.rows_sorted.specs.Orders.{rises_by, rises_in}
use Rattle.script_meaning.specs.Observing.{value}
use Rattle.script_meaning.specs.Running.{Child}
use Rattle.std.proofs.Common.{Bool, IsTrue, List, Some, [], ap, arith, false, filter, flat_map, map, refl, subst, sym, true, ℕ, ◌++◌, ◌<◌, ◌==◌, ◌∙◌, ◌∷◌, ◌≡◌}
use Rattle.std.proofs.lemmas.Bool.{and_from, and_parts, eqb-true, ltb-true, not-true}
use Rattle.std.proofs.lemmas.Bool.Decides.{nat_tests}
use Rattle.std.specs.List.{list_all}
use Rattle.std.specs.Prelude.{is_some, nat_lt, not, ◌||◌}
use Rattle.router_state.specs.declared.change.Change.TheVariants as changes
use Rattle.router_state.specs.declared.rows.Stem.TheVariants as stems

-- nothing but entities, names, fields, attachments and masks changes
abbrev WithParts : State → State → State
WithParts s t = record s { entities = t.entities; root_names = t.root_names; fields = t.fields; links = t.links; masks = t.masks }

detaching_alone : (links : List Link) (e : ℕ) (s : State)
    → after_changes (flat_map changes_of_detaching links ++ changes.ForgetFields (record { 0 = e }) ∷ changes.Remove (record { 0 = e }) ∷ []) s
    ≡ WithParts s (after_changes (flat_map changes_of_detaching links ++ changes.ForgetFields (record { 0 = e }) ∷ changes.Remove (record { 0 = e }) ∷ []) s)
detaching_alone [] e s = refl
detaching_alone (l ∷ links) e s = detaching_alone links e (after_changes (changes_of_detaching l) s)

pub removed_alone : (es : List ℕ) (s : State) → all_removed es s ≡ WithParts s (all_removed es s)
removed_alone [] s = refl
removed_alone (e ∷ es) s =
    removed_alone es (removed s e) ∙ ap (λ t. WithParts t (all_removed es (removed s e))) (detaching_alone (filter (λ (l : Link). l.entity.0 == e) s.links) e s)

-- names and fields that are left

removed_names : (links : List Link) (e : ℕ) (s : State)
    → (after_changes (flat_map changes_of_detaching links ++ changes.ForgetFields (record { 0 = e }) ∷ changes.Remove (record { 0 = e }) ∷ []) s).root_names ≡ without_root_name s.root_names e
removed_names [] e s = refl
removed_names (l ∷ links) e s = removed_names links e (after_changes (changes_of_detaching l) s)

removed_fields : (links : List Link) (e : ℕ) (s : State)
    → (after_changes (flat_map changes_of_detaching links ++ changes.ForgetFields (record { 0 = e }) ∷ changes.Remove (record { 0 = e }) ∷ []) s).fields ≡ without_fields s.fields e
removed_fields [] e s = refl
removed_fields (l ∷ links) e s = removed_fields links e (after_changes (changes_of_detaching l) s)

turned : (x e : ℕ) (b : Bool) → not ((x == e) || b) ≡ not ((e == x) || b)
turned x e b = grind (arith, nat_tests)

left_names : (es : List ℕ) (s : State) → (all_removed es s).root_names ≡ filter (λ (x : RootName). not (in_list x.entity.0 es)) s.root_names
left_names [] s = sym (filter_true s.root_names)
left_names (e ∷ es) s =
    left_names es (removed s e)
    ∙ rw (removed_names (filter (λ (l : Link). l.entity.0 == e) s.links) e s)
    (out_twice (λ (x : RootName). x.entity.0 == e) (λ x. in_list x.entity.0 es) s.root_names ∙ filter_same _ _ s.root_names (λ x there. turned x.entity.0 e (in_list x.entity.0 es)))

left_fields : (es : List ℕ) (s : State) → (all_removed es s).fields ≡ filter (λ (x : Field). not (in_list x.entity.0 es)) s.fields
left_fields [] s = sym (filter_true s.fields)
left_fields (e ∷ es) s =
    left_fields es (removed s e)
    ∙ rw (removed_fields (filter (λ (l : Link). l.entity.0 == e) s.links) e s)
    (out_twice (λ (x : Field). x.entity.0 == e) (λ x. in_list x.entity.0 es) s.fields ∙ filter_same _ _ s.fields (λ x there. turned x.entity.0 e (in_list x.entity.0 es)))

-- the lists stay sound

names_left : (d : Deployed) (gone : List ℕ) (rows : List Entity) (names : List RootName) (n m : ℕ) → rises_by root_name_before (filter (λ (x : RootName). not (in_list x.entity.0 gone)) names) ≡ true → are_root_names d rows names n m ≡ true
    → are_root_names d (left_of gone rows) (filter (λ (x : RootName). not (in_list x.entity.0 gone)) names) n m ≡ true
names_left d gone rows names n m rises sound =
    let tests = and_parts (list_all (is_root_name d rows n m) names) (list_all (is_named names) rows) (and_parts (rises_by root_name_before names) _ sound).1 in
    let left = filter (λ (x : RootName). not (in_list x.entity.0 gone)) names in
    and_from (rises_by root_name_before left) _ rises
    (and_from (list_all (is_root_name d (left_of gone rows) n m) left) _
    (tests_kept (is_root_name d rows n m) (is_root_name d (left_of gone rows) n m) (λ (x : RootName). not (in_list x.entity.0 gone)) kept names tests.0)
    (tests_kept (is_named names) (is_named left) (λ (r : Entity). not (in_list r.number.0 gone)) named_still rows tests.1))
  where
    kept : (x : RootName) → not (in_list x.entity.0 gone) ≡ true → is_root_name d rows n m x ≡ true → is_root_name d (left_of gone rows) n m x ≡ true
    kept x keep is =
        let both = and_parts (is_some (entity_at rows x.entity.0)) _ is in
        and_from (is_some (entity_at (left_of gone rows) x.entity.0)) _ (rw (entity_left gone rows x.entity.0 (not-true (in_list x.entity.0 gone) keep)) both.0) both.1

    named_still : (r : Entity) → not (in_list r.number.0 gone) ≡ true → is_named names r ≡ true → is_named (filter (λ (x : RootName). not (in_list x.entity.0 gone)) names) r ≡ true
    named_still r keep is =
        rw (found_left (λ (x : RootName). x.entity.0) gone names r.number.0 (not-true (in_list r.number.0 gone) keep)) is

-- entities that are left stand where they stood
still_left : (gone : List ℕ) (rows : List Entity) (e : ℕ) → in_list e gone ≡ false → (row : Entity) → entity_at rows e ≡ Some row → entity_at (left_of gone rows) e ≡ Some row
still_left gone rows e out row found = entity_left gone rows e out ∙ found

fields_left : (d : Deployed) (gone : List ℕ) (rows : List Entity) (fields : List Field) (n m : ℕ) → rises_by field_before (filter (λ (x : Field). not (in_list x.entity.0 gone)) fields) ≡ true → are_fields d rows fields n m ≡ true
    → are_fields d (left_of gone rows) (filter (λ (x : Field). not (in_list x.entity.0 gone)) fields) n m ≡ true
fields_left d gone rows fields n m rises sound =
    let tests = and_parts (list_all (is_field_row rows n m) fields) (list_all (has_its_fields d fields) rows) (and_parts (rises_by field_before fields) _ sound).1 in
    let left = filter (λ (x : Field). not (in_list x.entity.0 gone)) fields in
    and_from (rises_by field_before left) _ rises
    (and_from (list_all (is_field_row (left_of gone rows) n m) left) _
    (tests_kept (is_field_row rows n m) (is_field_row (left_of gone rows) n m) (λ (x : Field). not (in_list x.entity.0 gone)) kept fields tests.0)
    (tests_kept (has_its_fields d fields) (has_its_fields d left) (λ (r : Entity). not (in_list r.number.0 gone)) had rows tests.1))
  where
    kept : (x : Field) → not (in_list x.entity.0 gone) ≡ true → is_field_row rows n m x ≡ true → is_field_row (left_of gone rows) n m x ≡ true
    kept x keep is =
        let both = and_parts (is_some (entity_at rows x.entity.0)) _ is in
        and_from (is_some (entity_at (left_of gone rows) x.entity.0)) _ (rw (entity_left gone rows x.entity.0 (not-true (in_list x.entity.0 gone) keep)) both.0) both.1

    own : (e : ℕ) → in_list e gone ≡ false → fields_of (filter (λ (x : Field). not (in_list x.entity.0 gone)) fields) e ≡ fields_of fields e
    own e out =
        ap (map (λ (x : Field). (x.name, x.value)))
        (filter_all (λ (x : Field). x.entity.0 == e) (λ (x : Field). not (in_list x.entity.0 gone)) fields
        (everywhere (λ (x : Field). (x.entity.0 == e) ≡ true → not (in_list x.entity.0 gone) ≡ true) (λ x is. subst (λ k. not (in_list k gone) ≡ true) (sym (eqb-true x.entity.0 e is)) (rw out refl)) fields))

    had : (r : Entity) → not (in_list r.number.0 gone) ≡ true → has_its_fields d fields r ≡ true → has_its_fields d (filter (λ (x : Field). not (in_list x.entity.0 gone)) fields) r ≡ true
    had r keep is = rw (own r.number.0 (not-true (in_list r.number.0 gone) keep)) is

-- parents' numbers are below those of their children

pub parents_below : (d : Deployed) (rows : List Entity) (next : ℕ) → are_entities d rows next ≡ true → AreBelowChildren rows
parents_below d rows next sound row there = below row (passes_in (is_entity_row d rows next) rows row there (and_parts (rises_in (λ (r : Entity). r.number.0) rows) _ sound).1)
  where
    by_stem : (number block : ℕ) (stem : Stem) → nat_lt 0 number ≡ true → is_stem d rows number block stem ≡ true → parent_in stem < number
    by_stem number block (stems.Root service) some is = ltb-true 0 number some
    by_stem number block (stems.Child parent relation) some is = ltb-true parent.0 number (and_parts (nat_lt parent.0 number) _ is).0

    below : (r : Entity) → is_entity_row d rows next r ≡ true → parent_of r < r.number.0
    below r is =
        let drawn = and_parts (is_drawn next r.number.0) _ is in
        by_stem r.number.0 r.block r.stem (and_parts (nat_lt 0 r.number.0) _ drawn.0).0 (and_parts (is_priority r.priority) _ drawn.1).1

-- the tree of an entity that is there has with each member its children
pub tree_whole : (d : Deployed) (rows : List Entity) (next e : ℕ) → are_entities d rows next ≡ true → is_some (entity_at rows e) ≡ true → IsWhole (tree_of rows e) rows
tree_whole d rows next e sound there =
    let top = some_there (entity_at rows e) there in
    let number = (found_passes (λ (r : Entity). true) (λ (r : Entity). r.number.0 == e) rows top.0 top.1 (all_true rows)).1 in
    subst (λ k. IsWhole (tree_of rows k) rows) (eqb-true top.0.number.0 e number)
    (λ row here above. trees_whole rows (parents_below d rows next sound) top.0 row (found_in (λ (r : Entity). r.number.0 == e) rows top.0 top.1) here above)
  where
    all_true : (rows : List Entity) → list_all (λ (r : Entity). true) rows ≡ true
    all_true [] = refl
    all_true (r ∷ rows) = all_true rows

-- names of roots that are left stay apart
names_left_apart : (d : Deployed) (gone : List ℕ) (rows : List Entity) (names : List RootName) (n m : ℕ) → are_root_names d rows names n m ≡ true → are_root_names_apart rows names ≡ true
    → are_root_names_apart (left_of gone rows) (filter (λ (x : RootName). not (in_list x.entity.0 gone)) names) ≡ true
names_left_apart d gone rows names n m sound apart =
    differ_agree (differ_in_name rows) (differ_in_name (left_of gone rows)) (filter (λ (x : RootName). not (in_list x.entity.0 gone)) names)
    (λ x y one two. rw (same x one, same y two) refl) (differ_all (differ_in_name rows) (λ (x : RootName). not (in_list x.entity.0 gone)) names apart)
  where
    same : (x : RootName) → IsIn x (filter (λ (x : RootName). not (in_list x.entity.0 gone)) names) → root_service rows x.entity.0 ≡ root_service (left_of gone rows) x.entity.0
    same x there =
        let was = in_filter (λ (y : RootName). not (in_list y.entity.0 gone)) x names there in
        let out = not-true (in_list x.entity.0 gone) was.1 in
        let found = some_there (entity_at rows x.entity.0) (and_parts (is_some (entity_at rows x.entity.0)) _ (passes_in (is_root_name d rows n m) names x was.0 (and_parts (list_all (is_root_name d rows n m) names) _ (and_parts (rises_by root_name_before names) _ sound).1).0)).0 in
        let root = named_is_root d rows names n m sound x was.0 found.0 found.1 in
        rw (found.1, still_left gone rows x.entity.0 out found.0 found.1) (by_stem found.0 found.0.stem refl root)
      where
        by_stem : (row : Entity) (stem : Stem) → row.stem ≡ stem → is_root stem ≡ true → service_of rows row ≡ service_of (left_of gone rows) row
        by_stem row (stems.Root service) is root = rw is refl
        by_stem row (stems.Child parent relation) is root = absurd (cc)

-- entities go that have with each of them its children
pub sound_gone : (gone : List ℕ) (s : State) → IsSound s → IsWhole gone s.entities → IsSound (all_removed gone s)
sound_gone gone s sound whole =
    let order = ordered_removed gone s (sound_ordered s sound) in
    let names : rises_by root_name_before (filter (λ (x : RootName). not (in_list x.entity.0 gone)) s.root_names) ≡ true = subst (λ xs. rises_by root_name_before xs ≡ true) (left_names gone s) order.root_names in
    let fields : rises_by field_before (filter (λ (x : Field). not (in_list x.entity.0 gone)) s.fields) ≡ true = subst (λ xs. rises_by field_before xs ≡ true) (left_fields gone s) order.fields in
    subst IsSound (sym (removed_alone gone s))
    (made gone
    (rw (left_entities gone s) (entities_left s.deployment gone s.entities s.next_entity whole sound.entities))
    (rw (left_entities gone s, left_names gone s) (names_left s.deployment gone s.entities s.root_names s.next_activity s.next_event names sound.root_names))
    (rw (left_entities gone s, left_names gone s) (names_left_apart s.deployment gone s.entities s.root_names s.next_activity s.next_event sound.root_names sound.apart))
    (rw (left_entities gone s, left_fields gone s) (fields_left s.deployment gone s.entities s.fields s.next_activity s.next_timer fields sound.fields))
    (rw (left_entities gone s, left_links gone s) (links_removed gone s.entities s.activities s.links sound.links))
    (masks_removed s.deployment gone s sound.masks))
  where
    ordered_removed : (es : List ℕ) (s : State) → IsOrdered s → IsOrdered (all_removed es s)
    ordered_removed [] s order = order
    ordered_removed (e ∷ es) s order = ordered_removed es (removed s e) (ordered_changes (changes_of_removal s e) s order)

    made : (gone : List ℕ) → IsTrue (are_entities s.deployment (all_removed gone s).entities s.next_entity) → IsTrue (are_root_names s.deployment (all_removed gone s).entities (all_removed gone s).root_names s.next_activity s.next_event)
        → IsTrue (are_root_names_apart (all_removed gone s).entities (all_removed gone s).root_names) → IsTrue (are_fields s.deployment (all_removed gone s).entities (all_removed gone s).fields s.next_activity s.next_timer)
        → IsTrue (are_links (all_removed gone s).entities s.activities (all_removed gone s).links) → IsTrue (are_masks s.deployment (all_removed gone s).links (all_removed gone s).masks) → IsSound (WithParts s (all_removed gone s))
    made gone a b c f l m =
        record {
          clock = sound.clock;
          inputs = sound.inputs;
          next_entity = sound.next_entity;
          next_activity = sound.next_activity;
          next_timer = sound.next_timer;
          next_event = sound.next_event;
          services = sound.services;
          entities = a;
          root_names = b;
          apart = c;
          fields = f;
          activities = sound.activities;
          attributes = sound.attributes;
          links = l;
          masks = m;
          names = sound.names;
          events = sound.events;
          services_done = sound.services_done;
          delivered = sound.delivered;
          suspensions = sound.suspensions;
          timers = sound.timers;
          rows = sound.rows;
        }

-- a tree goes
pub sound_removed : (s : State) (e : ℕ) → IsSound s → is_some (entity_at s.entities e) ≡ true → IsSound (tree_removed s e)
sound_removed s e sound there = sound_gone (tree_of s.entities e) s sound (tree_whole s.deployment s.entities s.next_entity e sound.entities there)
