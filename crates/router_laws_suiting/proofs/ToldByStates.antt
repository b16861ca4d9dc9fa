-- What a sound state tells a script: all that it refers to was drawn, and all has a spelling.
use Rattle.std.proofs.Common.{◌≡◌, ℕ, suc, ◌+◌, ◌<◌, ◌≤◌, ◌^◌, ◌==◌, Bool, true, false, List, [], ◌∷◌, map, filter, length, Option, Some, None, refl, ap, subst, inl, inr, arith, ℤ}
use Rattle.std.specs.Prelude.{cond, ◌++◌, find, int_lt, is_some, nat_le, nat_lt, option_and_then, option_map, pos, unsigned_abs}
use Rattle.std.specs.List.{AllByRecursion, list_all}
use Rattle.std.specs.Option.{option_map_or}
use Rattle.std.proofs.lemmas.Bool.{and_parts, eqb-true, ltb-true}
use Rattle.std.proofs.lemmas.Bool.Decides.{nat_tests}
use Rattle.slee_value.specs.declared.ids.ActivityId.{ActivityId}
use Rattle.slee_value.specs.declared.value.Value.{Value}
use Rattle.slee_value.specs.declared.value.Value.TheVariants as values
use Rattle.slee_effect.specs.declared.reference.Ref.TheVariants.{Known}
use Rattle.slee_effect.specs.declared.value.Val.TheVariants.{Plain}
use Rattle.script_meaning.specs.declared.key.Key.{Key}
use Rattle.script_meaning.specs.declared.key.Key.TheVariants as keys
use Rattle.script_meaning.specs.declared.seen.Seen.TheVariants as seen
use Rattle.script_laws.specs.References.{Reference, ToActivity, ToEntity, in_value}
use Rattle.script_laws.specs.Told.{in_answer, in_values}
use Rattle.deploy_model.specs.Deployed.{table_attributes, table_named}
use Rattle.router_laws.proofs.ListRules.{in_filter}
use Rattle.router_laws.proofs.RisingLemmas.{filter_rises, order_from_rises}
use Rattle.router_laws.specs.Forest.{IsIn}
use Rattle.router_laws_sound.proofs.SoundBase.{found_passes}
use Rattle.router_laws_sound.proofs.SoundEntities.{passes_in}
use Rattle.router_laws_sound.proofs.SoundLinks.{link_joins}
use Rattle.router_laws_sound.proofs.SoundRemoval.{entity_joins}
use Rattle.router_laws_suiting.proofs.Counting.{all_from_in, fewer_than, rise_of_one}
use Rattle.router_laws_suiting.specs.Known.{IsDrawn, IsSmall}
use Rattle.router_laws_values.specs.Spelled.{AnswerSpelled, IsSpelled}
use Rattle.router_state.specs.Contexts.{activities_of, activity_at, attribute_at, attribute_before, link_before, name_before, named_at}
use Rattle.router_state.specs.Fields.{field_at, field_before}
use Rattle.router_state.specs.Fits.{are_declared, is_drawn, is_i64, is_priority, is_text, is_value}
use Rattle.router_state.specs.Profiles.{is_row, row_at, row_before}
use Rattle.router_state.specs.State.{State}
use Rattle.router_state.specs.Timers.{last_moment}
use Rattle.router_state.specs.Trees.{children_under, entity_at, is_child_of, number_of}
use Rattle.router_state.specs.Well.{IsSound}
use Rattle.router_state.specs.WellContexts.{is_activity_row, is_attribute_row, is_link_row, is_name_row}
use Rattle.router_state.specs.WellEntities.{is_entity_row, is_field_row}
use Rattle.router_state.specs.WellRows.{is_profile_row}
use Rattle.router_state.specs.declared.rows.Activity.{Activity}
use Rattle.router_state.specs.declared.rows.Attribute.{Attribute}
use Rattle.router_state.specs.declared.rows.Entity.{Entity}
use Rattle.router_state.specs.declared.rows.Field.{Field}
use Rattle.router_state.specs.declared.rows.Link.{Link}
use Rattle.router_state.specs.declared.rows.Named.{Named}
use Rattle.router_state.specs.declared.rows.ProfileRow.{ProfileRow}
use Rattle.router_steps.specs.Scripts.{answers_in}
use Rattle.rows_sorted.specs.Orders.{rises_by, rises_in}

some_same : {X : Type 0} {x y : X} → Some x ≡ Some y → x ≡ y
some_same same = cc

-- what is read of a row that was found
from_row : {X Row : Type 0} (part : Row → X) (o : Option Row) (x : X) → option_map part o ≡ Some x → (row : Row) × (o ≡ Some row) × (part row ≡ x)
from_row part None x is = absurd (cc)
from_row part (Some row) x is = (row, refl, some_same is)

some_there : {X : Type 0} (o : Option X) → is_some o ≡ true → (x : X) × (o ≡ Some x)
some_there None is = absurd (cc)
some_there (Some x) is = (x, refl)

all_kept : {X : Type 0} (P : X → Type 0) (test : X → Bool) (xs : List X) → ((x : X) → IsIn x xs → P x) → AllByRecursion P (filter test xs)
all_kept P test [] each = tt
all_kept P test (x ∷ xs) each = by (test x) (all_kept P test xs (λ y here. each y (inr here)))
  where
    by : (b : Bool) → AllByRecursion P (filter test xs) → AllByRecursion P (cond b (x ∷ filter test xs) (filter test xs))
    by true more = (each x (inl refl), more)
    by false more = more

all_mapped : {X Y : Type 0} (P : Y → Type 0) (f : X → Y) (xs : List X) → AllByRecursion (λ x. P (f x)) xs → AllByRecursion P (map f xs)
all_mapped P f [] all = tt
all_mapped P f (x ∷ xs) all = (all.0, all_mapped P f xs all.1)

same_length : {X Y : Type 0} (f : X → Y) (xs : List X) → length (map f xs) ≡ length xs
same_length f [] = refl
same_length f (x ∷ xs) = ap suc (same_length f xs)

-- values

value_spelled : (n m : ℕ) (v : Value) → is_value n m v ≡ true → IsSpelled (Plain v)
value_spelled n m (values.Int z) is = is
value_spelled n m (values.Text text) is = is
value_spelled n m (values.Bool b) is = tt
value_spelled n m (values.Activity a) is = tt
value_spelled n m (values.Timer t) is = tt

pub values_spelled : (n m : ℕ) (fields : List (List ℕ × Value)) → list_all (λ (f : List ℕ × Value). is_value n m f.1) fields ≡ true → AllByRecursion (λ (f : List ℕ × Value). IsSpelled (Plain f.1)) fields
values_spelled n m [] is = tt
values_spelled n m (f ∷ fields) is = let parts = and_parts (is_value n m f.1) (list_all (λ (f : List ℕ × Value). is_value n m f.1) fields) is in (value_spelled n m f.1 parts.0, values_spelled n m fields parts.1)

rank_spelled : (z : ℤ) → is_priority z ≡ true → is_i64 z ≡ true
rank_spelled z is = by (int_lt z (pos 0)) is
  where
    lower : (n : ℕ) → nat_le n 128 ≡ true → nat_le n (2 ^ 63) ≡ true
    lower n is = grind (arith, nat_tests, is)

    less : (n : ℕ) → nat_lt n 128 ≡ true → nat_lt n (2 ^ 63) ≡ true
    less n is = grind (arith, nat_tests, is)

    by : (b : Bool) → cond b (nat_le (unsigned_abs z) 128) (nat_lt (unsigned_abs z) 128) ≡ true → cond b (nat_le (unsigned_abs z) (2 ^ 63)) (nat_lt (unsigned_abs z) (2 ^ 63)) ≡ true
    by true is = lower (unsigned_abs z) is
    by false is = less (unsigned_abs z) is

clock_spelled : (n : ℕ) → nat_le n last_moment ≡ true → is_i64 (pos n) ≡ true
clock_spelled n is = grind (arith, nat_tests, is)

module _ (s : State) (sound : IsSound s) where
  value_drawn : (v : Value) → is_value s.next_activity s.next_timer v ≡ true → AllByRecursion (IsDrawn s) (in_value (Plain v))
  value_drawn (values.Int z) is = tt
  value_drawn (values.Text text) is = tt
  value_drawn (values.Bool b) is = tt
  value_drawn (values.Activity a) is = (ltb-true a.0 s.next_activity is, tt)
  value_drawn (values.Timer t) is = (ltb-true t.0 s.next_timer is, tt)

  all_joined : (xs ys : List Reference) → AllByRecursion (IsDrawn s) xs → AllByRecursion (IsDrawn s) ys → AllByRecursion (IsDrawn s) (xs ++ ys)
  all_joined [] ys one two = two
  all_joined (x ∷ xs) ys one two = (one.0, all_joined xs ys one.1 two)

  pub values_drawn : (fields : List (List ℕ × Value)) → list_all (λ (f : List ℕ × Value). is_value s.next_activity s.next_timer f.1) fields ≡ true → AllByRecursion (IsDrawn s) (in_values fields)
  values_drawn [] is = tt
  values_drawn (f ∷ fields) is =
      let parts = and_parts (is_value s.next_activity s.next_timer f.1) (list_all (λ (f : List ℕ × Value). is_value s.next_activity s.next_timer f.1) fields) is in
      all_joined (in_value (Plain f.1)) (in_values fields) (value_drawn f.1 parts.0) (values_drawn fields parts.1)

  -- an activity that is there was drawn
  pub activity_drawn : (a : ℕ) → is_some (activity_at s.activities a) ≡ true → a < s.next_activity
  activity_drawn a there =
      let row = some_there (activity_at s.activities a) there in
      let rows = (and_parts (list_all (is_activity_row s.deployment s.next_activity) s.activities) _ (and_parts (rises_in (λ (r : Activity). r.number.0) s.activities) _ sound.activities).1).0 in
      let both = found_passes (is_activity_row s.deployment s.next_activity) (λ (r : Activity). r.number.0 == a) s.activities row.0 row.1 rows in
      subst (λ k. k < s.next_activity) (eqb-true row.0.number.0 a both.1) (below row.0 both.0)
    where
      below : (row : Activity) → is_activity_row s.deployment s.next_activity row ≡ true → row.number.0 < s.next_activity
      below row is = ltb-true row.number.0 s.next_activity (and_parts (nat_lt 0 row.number.0) _ (and_parts (is_drawn s.next_activity row.number.0) _ is).0).1

  pub entity_drawn : (row : Entity) → IsIn row s.entities → row.number.0 < s.next_entity
  entity_drawn row there =
      let passes = passes_in (is_entity_row s.deployment s.entities s.next_entity) s.entities row there (and_parts (rises_in (λ (r : Entity). r.number.0) s.entities) _ sound.entities).1 in
      ltb-true row.number.0 s.next_entity (and_parts (nat_lt 0 row.number.0) _ (and_parts (is_drawn s.next_entity row.number.0) _ passes).0).1

  -- the values that are read

  field_value : (e : ℕ) (name : List ℕ) (v : Value) → field_at s.fields e name ≡ Some v → is_value s.next_activity s.next_timer v ≡ true
  field_value e name v is =
      let row = from_row (λ (r : Field). r.value) _ v is in
      let rows = (and_parts (list_all (is_field_row s.entities s.next_activity s.next_timer) s.fields) _ (and_parts (rises_by field_before s.fields) _ sound.fields).1).0 in
      let both = found_passes (is_field_row s.entities s.next_activity s.next_timer) _ s.fields row.0 row.1 rows in
      subst (λ z. is_value s.next_activity s.next_timer z ≡ true) row.2 (and_parts (is_some (entity_at s.entities row.0.entity.0)) _ both.0).1

  attribute_value : (a : ℕ) (key : List ℕ) (v : Value) → attribute_at s.attributes a key ≡ Some v → is_value s.next_activity s.next_timer v ≡ true
  attribute_value a key v is =
      let row = from_row (λ (r : Attribute). r.value) _ v is in
      let rows = (and_parts (rises_by attribute_before s.attributes) _ sound.attributes).1 in
      let both = found_passes (is_attribute_row s.deployment s.activities s.next_activity s.next_timer) _ s.attributes row.0 row.1 rows in
      subst (λ z. is_value s.next_activity s.next_timer z ≡ true) row.2 (and_parts (is_value s.next_activity s.next_timer row.0.value) _ (and_parts (is_some (activity_at s.activities row.0.activity.0)) _ both.0).1).0

  row_values : (o : Option ℕ) (name : List ℕ) (fields : List (List ℕ × Value)) → option_and_then (λ n. row_at s.rows n name) o ≡ Some fields → list_all (λ (f : List ℕ × Value). is_value s.next_activity s.next_timer f.1) fields ≡ true
  row_values None name fields is = absurd (cc)
  row_values (Some table) name fields is =
      let row = from_row (λ (r : ProfileRow). r.attributes) (find (is_row table name) s.rows) fields is in
      let rows = (and_parts (list_all (is_profile_row s.deployment s.next_activity s.next_timer) s.rows) _ (and_parts (rises_by row_before s.rows) _ sound.rows).1).0 in
      let both = found_passes (is_profile_row s.deployment s.next_activity s.next_timer) (is_row table name) s.rows row.0 row.1 rows in
      subst (λ fs. list_all (λ (f : List ℕ × Value). is_value s.next_activity s.next_timer f.1) fs ≡ true) row.2 (last row.0 both.0)
    where
      last : (row : ProfileRow) → is_profile_row s.deployment s.next_activity s.next_timer row ≡ true → list_all (λ (f : List ℕ × Value). is_value s.next_activity s.next_timer f.1) row.attributes ≡ true
      last row is = (and_parts (are_declared (table_attributes s.deployment row.table) row.attributes) _ (and_parts (is_text row.row) _ (and_parts (nat_lt row.table (length s.deployment.tables)) _ is).1).1).1

  named_drawn : (name : List ℕ) (a : ActivityId) → named_at s.names name ≡ Some a → a.0 < s.next_activity
  named_drawn name a is =
      let row = from_row (λ (r : Named). r.activity) _ a is in
      let rows = (and_parts (rises_by name_before s.names) _ sound.names).1 in
      let both = found_passes (is_name_row s.activities) _ s.names row.0 row.1 rows in
      subst (λ (k : ActivityId). k.0 < s.next_activity) row.2 (activity_drawn row.0.activity.0 (and_parts (is_text row.0.name) _ both.0).1)

  -- all that an answer tells of was drawn
  pub told_drawn : (key : Key) → AllByRecursion (IsDrawn s) (in_answer key (answers_in s key))
  told_drawn (keys.Next a) = tt
  told_drawn (keys.Field e name) = by (field_at s.fields e.0 name) refl
    where
      by : (o : Option Value) → field_at s.fields e.0 name ≡ o → AllByRecursion (IsDrawn s) (in_answer (keys.Field e name) (Some (seen.Held o)))
      by None is = tt
      by (Some v) is = value_drawn v (field_value e.0 name v is)
  told_drawn (keys.Children e relation) =
      all_mapped (IsDrawn s) (λ n. ToEntity (Known n)) (children_under s.entities e.0 relation)
      (all_mapped (λ n. IsDrawn s (ToEntity (Known n))) number_of (filter (λ (row : Entity). is_child_of e.0 relation row.stem) s.entities)
      (all_kept (λ (row : Entity). row.number.0 < s.next_entity) (λ (row : Entity). is_child_of e.0 relation row.stem) s.entities entity_drawn))
  told_drawn (keys.Priority e) = tt
  told_drawn (keys.AcState a) = tt
  told_drawn (keys.Attr a key) = by (attribute_at s.attributes a.0 key) refl
    where
      by : (o : Option Value) → attribute_at s.attributes a.0 key ≡ o → AllByRecursion (IsDrawn s) (in_answer (keys.Attr a key) (Some (seen.Held o)))
      by None is = tt
      by (Some v) is = value_drawn v (attribute_value a.0 key v is)
  told_drawn (keys.Attached e a) = tt
  told_drawn (keys.Mask e a) = tt
  told_drawn (keys.Named name) = by (named_at s.names name) refl
    where
      by : (o : Option ActivityId) → named_at s.names name ≡ o → AllByRecursion (IsDrawn s) (in_answer (keys.Named name) (Some (seen.Refers o)))
      by None is = tt
      by (Some a) is = (named_drawn name a is, tt)
  told_drawn (keys.Timer t) = tt
  told_drawn (keys.Profile table row) = by (option_and_then (λ n. row_at s.rows n row) (table_named s.deployment table)) refl
    where
      by : (o : Option (List (List ℕ × Value))) → option_and_then (λ n. row_at s.rows n row) (table_named s.deployment table) ≡ o → AllByRecursion (IsDrawn s) (in_answer (keys.Profile table row) (Some (seen.Row o)))
      by None is = tt
      by (Some fields) is = values_drawn fields (row_values (table_named s.deployment table) row fields is)
  told_drawn keys.Now = tt
  told_drawn (keys.Activities e) =
      all_mapped (IsDrawn s) (λ n. ToActivity (Known n)) (activities_of s.links e.0)
      (all_mapped (λ n. IsDrawn s (ToActivity (Known n))) (λ (l : Link). l.activity.0) (filter (λ (l : Link). l.entity.0 == e.0) s.links)
      (all_kept (λ (l : Link). l.activity.0 < s.next_activity) (λ (l : Link). l.entity.0 == e.0) s.links linked_drawn))
    where
      linked_drawn : (l : Link) → IsIn l s.links → l.activity.0 < s.next_activity
      linked_drawn l there =
          let passes = passes_in (is_link_row s.entities s.activities) s.links l there (and_parts (rises_by link_before s.links) _ sound.links).1 in
          activity_drawn l.activity.0 (and_parts (is_some (entity_at s.entities l.entity.0)) _ passes).1

  -- rows that are fewer than the numbers that were drawn

  entity_between : (row : Entity) → IsIn row s.entities → (1 ≤ row.number.0) × (row.number.0 < s.next_entity)
  entity_between row there =
      let passes = passes_in (is_entity_row s.deployment s.entities s.next_entity) s.entities row there (and_parts (rises_in (λ (r : Entity). r.number.0) s.entities) _ sound.entities).1 in
      let drawn = and_parts (nat_lt 0 row.number.0) (nat_lt row.number.0 s.next_entity) (and_parts (is_drawn s.next_entity row.number.0) _ passes).0 in
      (ltb-true 0 row.number.0 drawn.0, ltb-true row.number.0 s.next_entity drawn.1)

  few_children : (test : Entity → Bool) → length (filter test s.entities) + 1 ≤ s.next_entity
  few_children test =
      let rows = filter test s.entities in
      let rises = and_parts (rises_in (λ (r : Entity). r.number.0) s.entities) _ sound.entities in
      fewer_than (λ (r : Entity). r.number.0) 1 s.next_entity rows (ltb-true 0 s.next_entity (and_parts (nat_lt 0 s.next_entity) _ sound.next_entity).0)
      (order_from_rises (λ (x y : Entity). nat_lt x.number.0 y.number.0) entity_joins rows (filter_rises (λ (x y : Entity). nat_lt x.number.0 y.number.0) entity_joins test s.entities rises.0))
      (all_from_in (λ (r : Entity). 1 ≤ r.number.0) rows (λ r there. (entity_between r (in_filter test r s.entities there).0).0))
      (all_from_in (λ (r : Entity). r.number.0 < s.next_entity) rows (λ r there. (entity_between r (in_filter test r s.entities there).0).1))

  activity_between : (a : ℕ) → is_some (activity_at s.activities a) ≡ true → (1 ≤ a) × (a < s.next_activity)
  activity_between a there =
      let row = some_there (activity_at s.activities a) there in
      let rows = (and_parts (list_all (is_activity_row s.deployment s.next_activity) s.activities) _ (and_parts (rises_in (λ (r : Activity). r.number.0) s.activities) _ sound.activities).1).0 in
      let both = found_passes (is_activity_row s.deployment s.next_activity) (λ (r : Activity). r.number.0 == a) s.activities row.0 row.1 rows in
      subst (λ k. (1 ≤ k) × (k < s.next_activity)) (eqb-true row.0.number.0 a both.1) (between row.0 both.0)
    where
      between : (row : Activity) → is_activity_row s.deployment s.next_activity row ≡ true → (1 ≤ row.number.0) × (row.number.0 < s.next_activity)
      between row is =
          let drawn = and_parts (nat_lt 0 row.number.0) (nat_lt row.number.0 s.next_activity) (and_parts (is_drawn s.next_activity row.number.0) _ is).0 in
          (ltb-true 0 row.number.0 drawn.0, ltb-true row.number.0 s.next_activity drawn.1)

  link_between : (l : Link) → IsIn l s.links → (1 ≤ l.activity.0) × (l.activity.0 < s.next_activity)
  link_between l there =
      let passes = passes_in (is_link_row s.entities s.activities) s.links l there (and_parts (rises_by link_before s.links) _ sound.links).1 in
      activity_between l.activity.0 (and_parts (is_some (entity_at s.entities l.entity.0)) _ passes).1

  few_links : (e : ℕ) → length (filter (λ (l : Link). l.entity.0 == e) s.links) + 1 ≤ s.next_activity
  few_links e =
      let test : Link → Bool = λ l. l.entity.0 == e in
      let rows = filter test s.links in
      let rises = and_parts (rises_by link_before s.links) _ sound.links in
      fewer_than (λ (l : Link). l.activity.0) 1 s.next_activity rows (ltb-true 0 s.next_activity (and_parts (nat_lt 0 s.next_activity) _ sound.next_activity).0)
      (rise_of_one e rows (all_from_in (λ (l : Link). (l.entity.0 == e) ≡ true) rows (λ l there. (in_filter test l s.links there).1))
      (order_from_rises link_before link_joins rows (filter_rises link_before link_joins test s.links rises.0)))
      (all_from_in (λ (l : Link). 1 ≤ l.activity.0) rows (λ l there. (link_between l (in_filter test l s.links there).0).0))
      (all_from_in (λ (l : Link). l.activity.0 < s.next_activity) rows (λ l there. (link_between l (in_filter test l s.links there).0).1))

  -- and has a spelling
  pub told_spelled : IsSmall s → (key : Key) → AnswerSpelled (answers_in s key)
  told_spelled small (keys.Next a) = tt
  told_spelled small (keys.Field e name) = by (field_at s.fields e.0 name) refl
    where
      by : (o : Option Value) → field_at s.fields e.0 name ≡ o → AnswerSpelled (Some (seen.Held o))
      by None is = tt
      by (Some v) is = value_spelled s.next_activity s.next_timer v (field_value e.0 name v is)
  told_spelled small (keys.Children e relation) = under (filter (λ (row : Entity). is_child_of e.0 relation row.stem) s.entities) (few_children (λ (row : Entity). is_child_of e.0 relation row.stem))
    where
      under : (rows : List Entity) → length rows + 1 ≤ s.next_entity → length (map number_of rows) < 2 ^ 62
      under rows le = let same = same_length number_of rows in let most = small.entities in omega (arith, same, le, most)
  told_spelled small (keys.Priority e) = by (entity_at s.entities e.0) refl
    where
      by : (o : Option Entity) → entity_at s.entities e.0 ≡ o → is_i64 (option_map_or (λ (row : Entity). row.priority) o (pos 0)) ≡ true
      by None is = refl
      by (Some row) is =
          let both = found_passes (is_entity_row s.deployment s.entities s.next_entity) (λ (r : Entity). r.number.0 == e.0) s.entities row is (and_parts (rises_in (λ (r : Entity). r.number.0) s.entities) _ sound.entities).1 in
          rank_spelled row.priority (and_parts (is_priority row.priority) _ (and_parts (is_drawn s.next_entity row.number.0) _ both.0).1).0
  told_spelled small (keys.AcState a) = tt
  told_spelled small (keys.Attr a key) = by (attribute_at s.attributes a.0 key) refl
    where
      by : (o : Option Value) → attribute_at s.attributes a.0 key ≡ o → AnswerSpelled (Some (seen.Held o))
      by None is = tt
      by (Some v) is = value_spelled s.next_activity s.next_timer v (attribute_value a.0 key v is)
  told_spelled small (keys.Attached e a) = tt
  told_spelled small (keys.Mask e a) = tt
  told_spelled small (keys.Named name) = tt
  told_spelled small (keys.Timer t) = tt
  told_spelled small (keys.Profile table row) = by (option_and_then (λ n. row_at s.rows n row) (table_named s.deployment table)) refl
    where
      by : (o : Option (List (List ℕ × Value))) → option_and_then (λ n. row_at s.rows n row) (table_named s.deployment table) ≡ o → AnswerSpelled (Some (seen.Row o))
      by None is = tt
      by (Some fields) is = values_spelled s.next_activity s.next_timer fields (row_values (table_named s.deployment table) row fields is)
  told_spelled small keys.Now = clock_spelled s.clock sound.clock
  told_spelled small (keys.Activities e) = under (filter (λ (l : Link). l.entity.0 == e.0) s.links) (few_links e.0)
    where
      under : (links : List Link) → length links + 1 ≤ s.next_activity → length (map (λ (l : Link). l.activity.0) links) < 2 ^ 62
      under links le = let same = same_length (λ (l : Link). l.activity.0) links in let most = small.activities in omega (arith, same, le, most)
