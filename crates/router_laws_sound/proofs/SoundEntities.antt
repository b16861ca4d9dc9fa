-- Entities are made, and get other priorities: each keeps every part sound.
use Rattle.deploy_model.specs.Deployed.{Deployed}
use Rattle.router_laws.proofs.Tests.{tests_map, tests_weaker}
use Rattle.router_laws.specs.Forest.{IsIn}
use Rattle.router_laws_sound.proofs.SoundBase.{found_passes, some_there, still_ordered}
use Rattle.router_state.specs.Changes.{after_change}
use Rattle.router_state.specs.Contexts.{activity_at, link_before}
use Rattle.router_state.specs.Fields.{field_before}
use Rattle.router_state.specs.Fits.{is_drawn, is_priority}
use Rattle.router_state.specs.Next.{first}
use Rattle.router_state.specs.State.{State}
use Rattle.router_state.specs.Trees.{entity_at, has_priority, is_root, root_name_at, root_name_before, service_of, with_priority}
use Rattle.router_state.specs.Well.{IsSound}
use Rattle.router_state.specs.WellContexts.{are_links, is_link_row}
use Rattle.router_state.specs.WellEntities.{all_differ, are_root_names, are_root_names_apart, differ_in_name, has_its_fields, is_entity_row, is_field_row, is_named, is_root_name, is_stem, leads_to, root_service}
use Rattle.router_state.specs.declared.rows.Activity.{Activity}
use Rattle.router_state.specs.declared.rows.Entity.{Entity}
use Rattle.router_state.specs.declared.rows.Field.{Field}
use Rattle.router_state.specs.declared.rows.Link.{Link}
use Rattle.router_state.specs.declared.rows.RootName.{RootName}
use Rattle.router_state.specs.declared.rows.Stem.{Stem}
use Rattle.router_steps.specs.Steps.{Root}
use Rattle.rows_sorted.specs.Orders.{rises_by, rises_in}
use Rattle.script_meaning.specs.Running.{Child}
use Rattle.slee_value.specs.declared.convergence.ConvName.{ConvName}
use Rattle.std.proofs.Common.{Bool, List, None, Option, Some, [], ap, false, inl, inr, refl, subst, sym, true, ℕ, ◌==◌, ◌∙◌, ◌∷◌, ◌≡◌}
use Rattle.std.proofs.lemmas.Bool.{and_from, and_parts, cases_Bool, cond_both, eq-eqb, eqb-true}
use Rattle.std.specs.List.{list_all}
use Rattle.std.specs.Option.{option_map_or}
use Rattle.std.specs.Prelude.{if◌then◌else◌, is_none, is_some, nat_lt, option_map, ℤ}
use Rattle.router_state.specs.declared.change.Change.TheVariants as changes
use Rattle.router_state.specs.declared.rows.Stem.TheVariants as stems

-- each entity that was there is there still, and stands where it stood
abbrev pub StandStill : List Entity → List Entity → Type 0
StandStill rows more = (e : ℕ) (row : Entity) → entity_at rows e ≡ Some row → (new : Entity) × (entity_at more e ≡ Some new) × (new.stem ≡ row.stem)

pub still_there : (rows more : List Entity) → StandStill rows more → (e : ℕ) → is_some (entity_at rows e) ≡ true → is_some (entity_at more e) ≡ true
still_there rows more still e is =
    let x = some_there (entity_at rows e) is in
    rw (still e x.0 x.1).1 refl

-- convergence names stay apart

pub differ_agree : {Row : Type 0} (p q : Row → Row → Bool) (rows : List Row) → ((x y : Row) → IsIn x rows → IsIn y rows → p x y ≡ q x y) → all_differ p rows ≡ true → all_differ q rows ≡ true
differ_agree p q [] same all = refl
differ_agree p q (x ∷ rows) same all =
    let parts = and_parts (list_all (p x) rows) (all_differ p rows) all in
    and_from (list_all (q x) rows) (all_differ q rows) (firsts p q x rows (λ y there. same x y (inl refl) (inr there)) parts.0) (differ_agree p q rows (λ y z one two. same y z (inr one) (inr two)) parts.1)
  where
    firsts : {Row : Type 0} (p q : Row → Row → Bool) (x : Row) (rows : List Row) → ((y : Row) → IsIn y rows → p x y ≡ q x y) → list_all (p x) rows ≡ true → list_all (q x) rows ≡ true
    firsts p q x [] same all = refl
    firsts p q x (y ∷ rows) same all =
        let parts = and_parts (p x y) (list_all (p x) rows) all in
        and_from (q x y) (list_all (q x) rows) (sym (same y (inl refl)) ∙ parts.0) (firsts p q x rows (λ z there. same z (inr there)) parts.1)

-- a name that is there is found
pub name_found : (names : List RootName) (x : RootName) → IsIn x names → is_some (root_name_at names x.entity.0) ≡ true
name_found [] x there = elim there [ ]
name_found (y ∷ names) x (inl same) = subst (λ (z : RootName). is_some (root_name_at (y ∷ names) z.entity.0) ≡ true) (sym same) (rw (itself y.entity.0) refl)
  where
    itself : (n : ℕ) → (n == n) ≡ true
    itself n = eq-eqb n n refl
name_found (y ∷ names) x (inr more) = elim (cases_Bool (y.entity.0 == x.entity.0)) [
  | inl is ↦ rw is refl
  | inr isnt ↦ rw isnt (name_found names x more)
]

-- all of a list pass
pub passes_in : {X : Type 0} (p : X → Bool) (xs : List X) (x : X) → IsIn x xs → list_all p xs ≡ true → p x ≡ true
passes_in p [] x there all = elim there [ ]
passes_in p (y ∷ ys) x (inl same) all = subst (λ z. p z ≡ true) (sym same) (and_parts (p y) (list_all p ys) all).0
passes_in p (y ∷ ys) x (inr more) all = passes_in p ys x more (and_parts (p y) (list_all p ys) all).1

-- what has a name is a root
pub named_is_root : (d : Deployed) (rows : List Entity) (names : List RootName) (n m : ℕ) → are_root_names d rows names n m ≡ true → (x : RootName) → IsIn x names → (row : Entity) → entity_at rows x.entity.0 ≡ Some row → is_root row.stem ≡ true
named_is_root d rows names n m sound x there row found =
    let tests = and_parts (list_all (is_root_name d rows n m) names) (list_all (is_named names) rows) (and_parts (rises_by root_name_before names) _ sound).1 in
    let both = found_passes (is_named names) (λ (r : Entity). r.number.0 == x.entity.0) rows row found tests.1 in
    root row.stem (root_name_at names row.number.0) both.0 (subst (λ k. is_some (root_name_at names k) ≡ true) (sym (eqb-true row.number.0 x.entity.0 both.1)) (name_found names x there))
  where
    root : (stem : Stem) (o : Option ConvName) → (if is_root stem then is_some o else is_none o) ≡ true → is_some o ≡ true → is_root stem ≡ true
    root (stems.Root service) o is there = refl
    root (stems.Child parent relation) None is there = absurd (cc)
    root (stems.Child parent relation) (Some y) is there = absurd (cc)

-- the service of what has a name is the same where it stands still
service_still : (d : Deployed) (rows more : List Entity) (names : List RootName) (n m : ℕ) → StandStill rows more → are_root_names d rows names n m ≡ true → (x : RootName) → IsIn x names → root_service rows x.entity.0 ≡ root_service more x.entity.0
service_still d rows more names n m still sound x there =
    let tests = and_parts (list_all (is_root_name d rows n m) names) (list_all (is_named names) rows) (and_parts (rises_by root_name_before names) _ sound).1 in
    let row = some_there (entity_at rows x.entity.0) (and_parts (is_some (entity_at rows x.entity.0)) _ (passes_in (is_root_name d rows n m) names x there tests.0)).0 in
    let new = still x.entity.0 row.0 row.1 in
    rw (row.1, new.1) (by_stem row.0.stem new.0.stem new.2 (named_is_root d rows names n m sound x there row.0 row.1) row.0 new.0 refl refl)
  where
    by_stem : (one two : Stem) → two ≡ one → is_root one ≡ true → (a b : Entity) → a.stem ≡ one → b.stem ≡ two → service_of rows a ≡ service_of more b
    by_stem (stems.Root service) two same is a b first second = rw (first, second, same) refl
    by_stem (stems.Child parent relation) two same is a b first second = absurd (cc)

pub names_stay_apart : (d : Deployed) (rows more : List Entity) (names : List RootName) (n m : ℕ) → StandStill rows more → are_root_names d rows names n m ≡ true → are_root_names_apart rows names ≡ true → are_root_names_apart more names ≡ true
names_stay_apart d rows more names n m still sound apart =
    differ_agree (differ_in_name rows) (differ_in_name more) names
    (λ x y one two. rw (service_still d rows more names n m still sound x one, service_still d rows more names n m still sound y two) refl) apart

-- priorities

prioritised : (e : ℕ) (priority : ℤ) (row : Entity) → ((has_priority e priority row).number ≡ row.number) × ((has_priority e priority row).block ≡ row.block) × ((has_priority e priority row).stem ≡ row.stem)
prioritised e priority row =
    cond_both (row.number.0 == e) (record row { priority = priority }) row (λ (r : Entity). (r.number ≡ row.number) × (r.block ≡ row.block) × (r.stem ≡ row.stem)) (λ _. (refl, refl, refl)) (λ _. (refl, refl, refl))

entity_prioritised : (rows : List Entity) (e : ℕ) (priority : ℤ) (a : ℕ) → entity_at (with_priority rows e priority) a ≡ option_map (has_priority e priority) (entity_at rows a)
entity_prioritised [] e priority a = refl
entity_prioritised (row ∷ rows) e priority a = rw (prioritised e priority row).0 (elim (cases_Bool (row.number.0 == a)) [
  | inl is ↦ rw is refl
  | inr isnt ↦ rw isnt (entity_prioritised rows e priority a)
])

still_prioritised : (rows : List Entity) (e : ℕ) (priority : ℤ) → StandStill rows (with_priority rows e priority)
still_prioritised rows e priority a row found =
    (has_priority e priority row, entity_prioritised rows e priority a ∙ ap (option_map (has_priority e priority)) found, (prioritised e priority row).2)

stem_prioritised : (d : Deployed) (rows : List Entity) (e : ℕ) (priority : ℤ) (number block : ℕ) (stem : Stem) → is_stem d rows number block stem ≡ true → is_stem d (with_priority rows e priority) number block stem ≡ true
stem_prioritised d rows e priority number block (stems.Root service) is = is
stem_prioritised d rows e priority number block (stems.Child parent relation) is =
    let both = and_parts (nat_lt parent.0 number) _ is in
    and_from (nat_lt parent.0 number) _ both.0 (rw (entity_prioritised rows e priority parent.0) (by (entity_at rows parent.0) both.1))
  where
    by : (o : Option Entity) → option_map_or (λ (row : Entity). leads_to d row.block relation block) o false ≡ true → option_map_or (λ (row : Entity). leads_to d row.block relation block) (option_map (has_priority e priority) o) false ≡ true
    by None is = is
    by (Some row) is = rw (prioritised e priority row).1 is

row_prioritised : (d : Deployed) (rows : List Entity) (next e : ℕ) (priority : ℤ) → is_priority priority ≡ true → (row : Entity) → is_entity_row d rows next row ≡ true → is_entity_row d (with_priority rows e priority) next (has_priority e priority row) ≡ true
row_prioritised d rows next e priority fits row is =
    let drawn = and_parts (is_drawn next row.number.0) _ is in
    let rank = and_parts (is_priority row.priority) (is_stem d rows row.number.0 row.block row.stem) drawn.1 in
    let stem = stem_prioritised d rows e priority row.number.0 row.block row.stem rank.1 in
    cond_both (row.number.0 == e) (record row { priority = priority }) row (λ (r : Entity). is_entity_row d (with_priority rows e priority) next r ≡ true)
    (λ _. and_from (is_drawn next row.number.0) _ drawn.0 (and_from (is_priority priority) _ fits stem)) (λ _. and_from (is_drawn next row.number.0) _ drawn.0 (and_from (is_priority row.priority) _ rank.0 stem))

pub links_still : (rows more : List Entity) (activities : List Activity) (links : List Link) → ((e : ℕ) → is_some (entity_at rows e) ≡ true → is_some (entity_at more e) ≡ true) → are_links rows activities links ≡ true → are_links more activities links ≡ true
links_still rows more activities links there sound =
    let parts = and_parts (rises_by link_before links) (list_all (is_link_row rows activities) links) sound in
    and_from (rises_by link_before links) _ parts.0 (tests_weaker (is_link_row rows activities) (is_link_row more activities)
    (λ l is. let both = and_parts (is_some (entity_at rows l.entity.0)) (is_some (activity_at activities l.activity.0)) is in and_from (is_some (entity_at more l.entity.0)) _ (there l.entity.0 both.0) both.1) links parts.1)

pub field_rows_still : (rows more : List Entity) (n m : ℕ) (fields : List Field) → ((e : ℕ) → is_some (entity_at rows e) ≡ true → is_some (entity_at more e) ≡ true) → list_all (is_field_row rows n m) fields ≡ true → list_all (is_field_row more n m) fields ≡ true
field_rows_still rows more n m fields there all =
    tests_weaker (is_field_row rows n m) (is_field_row more n m)
    (λ f is. let both = and_parts (is_some (entity_at rows f.entity.0)) _ is in and_from (is_some (entity_at more f.entity.0)) _ (there f.entity.0 both.0) both.1) fields all

pub name_rows_still : (d : Deployed) (rows more : List Entity) (n m : ℕ) (names : List RootName) → ((e : ℕ) → is_some (entity_at rows e) ≡ true → is_some (entity_at more e) ≡ true) → list_all (is_root_name d rows n m) names ≡ true → list_all (is_root_name d more n m) names ≡ true
name_rows_still d rows more n m names there all =
    tests_weaker (is_root_name d rows n m) (is_root_name d more n m)
    (λ x is. let both = and_parts (is_some (entity_at rows x.entity.0)) _ is in and_from (is_some (entity_at more x.entity.0)) _ (there x.entity.0 both.0) both.1) names all

pub sound_prioritised : (s : State) (e : ℕ) (priority : ℤ) → IsSound s → is_priority priority ≡ true → IsSound (after_change (changes.SetPriority (record { 0 = e }) priority) s)
sound_prioritised s e priority sound fits =
    let more = with_priority s.entities e priority in
    let still = still_prioritised s.entities e priority in
    let there = still_there s.entities more still in
    let order = still_ordered (changes.SetPriority (record { 0 = e }) priority) s sound in
    let old = and_parts (rises_in (λ (r : Entity). r.number.0) s.entities) (list_all (is_entity_row s.deployment s.entities s.next_entity) s.entities) sound.entities in
    let names = and_parts (rises_by root_name_before s.root_names) _ sound.root_names in
    let name_tests = and_parts (list_all (is_root_name s.deployment s.entities s.next_activity s.next_event) s.root_names) (list_all (is_named s.root_names) s.entities) names.1 in
    let fields = and_parts (rises_by field_before s.fields) _ sound.fields in
    let field_tests = and_parts (list_all (is_field_row s.entities s.next_activity s.next_timer) s.fields) (list_all (has_its_fields s.deployment s.fields) s.entities) fields.1 in
    record {
      clock = sound.clock;
      inputs = sound.inputs;
      next_entity = sound.next_entity;
      next_activity = sound.next_activity;
      next_timer = sound.next_timer;
      next_event = sound.next_event;
      services = sound.services;
      entities = and_from (rises_in (λ (r : Entity). r.number.0) more) _ order.entities (tests_map (is_entity_row s.deployment s.entities s.next_entity) (is_entity_row s.deployment more s.next_entity) (has_priority e priority) (row_prioritised s.deployment s.entities s.next_entity e priority fits) s.entities old.1);
      root_names = and_from (rises_by root_name_before s.root_names) _ names.0 (and_from (list_all (is_root_name s.deployment more s.next_activity s.next_event) s.root_names) _ (name_rows_still s.deployment s.entities more s.next_activity s.next_event s.root_names there name_tests.0) (tests_map (is_named s.root_names) (is_named s.root_names) (has_priority e priority) (λ r is. rw ((prioritised e priority r).2, (prioritised e priority r).0) is) s.entities name_tests.1));
      apart = names_stay_apart s.deployment s.entities more s.root_names s.next_activity s.next_event still sound.root_names sound.apart;
      fields = and_from (rises_by field_before s.fields) _ fields.0 (and_from (list_all (is_field_row more s.next_activity s.next_timer) s.fields) _ (field_rows_still s.entities more s.next_activity s.next_timer s.fields there field_tests.0) (tests_map (has_its_fields s.deployment s.fields) (has_its_fields s.deployment s.fields) (has_priority e priority) (λ r is. rw ((prioritised e priority r).1, (prioritised e priority r).0) is) s.entities field_tests.1));
      activities = sound.activities;
      attributes = sound.attributes;
      links = links_still s.entities more s.activities s.links there sound.links;
      masks = sound.masks;
      names = sound.names;
      events = sound.events;
      services_done = sound.services_done;
      delivered = sound.delivered;
      suspensions = sound.suspensions;
      timers = sound.timers;
      rows = sound.rows;
    }
