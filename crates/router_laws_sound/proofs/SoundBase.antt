-- What all moves share: lists that rise, numbers that come next, and look-ups in lists that get longer.
use Rattle.deploy_model.specs.Deployed.{Deployed}
use Rattle.router_laws.proofs.ListRules.{append_nil, filter_all, filter_none}
use Rattle.router_laws.proofs.OrderedLemmas.{ordered_after}
use Rattle.router_laws.proofs.RisingLemmas.{InOrder}
use Rattle.router_laws.proofs.Tests.{tests_filter, tests_put, tests_weaker}
use Rattle.router_laws.specs.Forest.{IsIn}
use Rattle.router_state.specs.Changes.{after_change, after_changes}
use Rattle.router_state.specs.Contexts.{attribute_before, link_before, name_before}
use Rattle.router_state.specs.Fields.{field_before}
use Rattle.router_state.specs.Fits.{is_drawn, is_u64}
use Rattle.router_state.specs.Masks.{mask_before}
use Rattle.router_state.specs.Ordered.{IsOrdered}
use Rattle.router_state.specs.Profiles.{row_before}
use Rattle.router_state.specs.Queues.{entity_mark_before, queued_before, service_mark_before, suspension_before}
use Rattle.router_state.specs.State.{State}
use Rattle.router_state.specs.Trees.{root_name_before}
use Rattle.router_state.specs.Well.{IsSound}
use Rattle.router_state.specs.WellContexts.{are_activities, is_activity_row}
use Rattle.router_state.specs.WellEntities.{are_entities, is_entity_row}
use Rattle.router_state.specs.WellRows.{are_timers, is_next_number, is_timer_row}
use Rattle.router_state.specs.declared.change.Change.{Change}
use Rattle.router_state.specs.declared.rows.Activity.{Activity}
use Rattle.router_state.specs.declared.rows.Entity.{Entity}
use Rattle.router_state.specs.declared.rows.Timer.{Timer}
use Rattle.rows_sorted.specs.Orders.{are_below, put, rises_by, rises_in}
use Rattle.std.proofs.Common.{Bool, List, None, Option, Some, [], arith, false, filter, inl, inr, refl, subst, sym, true, ℕ, ◌++◌, ◌==◌, ◌∙◌, ◌∷◌, ◌≡◌, ◌≤◌}
use Rattle.std.proofs.lemmas.Bool.{and_from, and_parts, cases_Bool, eqb-true, or_left, or_right}
use Rattle.std.proofs.lemmas.Bool.Decides.{nat_tests}
use Rattle.std.proofs.lemmas.List.Elements.{filter-append}
use Rattle.std.proofs.lemmas.List.Folds.{find-append}
use Rattle.std.specs.List.{AllByRecursion, list_all}
use Rattle.std.specs.Option.{option_map_or, option_or}
use Rattle.std.specs.Prelude.{find, is_some, nat_lt, not, ◌&&◌, ◌||◌}

-- lists that rise

below_from : {Row : Type 0} (number : Row → ℕ) (n : ℕ) (p : Row → Bool) → ((x : Row) → p x ≡ true → nat_lt (number x) n ≡ true) → (rows : List Row) → list_all p rows ≡ true → are_below number n rows ≡ true
below_from number n p follows rows all = tests_weaker p (λ x. nat_lt (number x) n) follows rows all

pub drawn_below : (n k : ℕ) → is_drawn n k ≡ true → nat_lt k n ≡ true
drawn_below n k is = (and_parts (nat_lt 0 k) (nat_lt k n) is).1

pub entities_drawn : (d : Deployed) (rows : List Entity) (next : ℕ) → are_entities d rows next ≡ true → are_below (λ (row : Entity). row.number.0) next rows ≡ true
entities_drawn d rows next sound =
    below_from (λ (row : Entity). row.number.0) next (is_entity_row d rows next) (λ row is. drawn_below next row.number.0 (and_parts (is_drawn next row.number.0) _ is).0) rows (and_parts _ (list_all (is_entity_row d rows next) rows) sound).1

pub activities_drawn : (d : Deployed) (rows : List Activity) (next : ℕ) → are_activities d rows next ≡ true → are_below (λ (row : Activity). row.number.0) next rows ≡ true
activities_drawn d rows next sound =
    below_from (λ (row : Activity). row.number.0) next (is_activity_row d next) (λ row is. drawn_below next row.number.0 (and_parts (is_drawn next row.number.0) _ is).0) rows
    (and_parts (list_all (is_activity_row d next) rows) _ (and_parts _ _ sound).1).0

timers_drawn : (activities : List Activity) (timers : List Timer) (next : ℕ) → are_timers activities timers next ≡ true → are_below (λ (row : Timer). row.number.0) next timers ≡ true
timers_drawn activities timers next sound =
    below_from (λ (row : Timer). row.number.0) next (is_timer_row activities next) (λ row is. drawn_below next row.number.0 (and_parts (is_drawn next row.number.0) _ is).0) timers (and_parts _ (list_all (is_timer_row activities next) timers) sound).1

-- the lists of a sound state rise
pub sound_ordered : (s : State) → IsSound s → IsOrdered s
sound_ordered s sound = record {
  entities = (and_parts (rises_in (λ (row : Entity). row.number.0) s.entities) _ sound.entities).0;
  entities_below = entities_drawn s.deployment s.entities s.next_entity sound.entities;
  root_names = (and_parts (rises_by root_name_before s.root_names) _ sound.root_names).0;
  fields = (and_parts (rises_by field_before s.fields) _ sound.fields).0;
  activities = (and_parts (rises_in (λ (row : Activity). row.number.0) s.activities) _ sound.activities).0;
  activities_below = activities_drawn s.deployment s.activities s.next_activity sound.activities;
  attributes = (and_parts (rises_by attribute_before s.attributes) _ sound.attributes).0;
  links = (and_parts (rises_by link_before s.links) _ sound.links).0;
  masks = (and_parts (rises_by mask_before s.masks) _ sound.masks).0;
  names = (and_parts (rises_by name_before s.names) _ sound.names).0;
  events = (and_parts (rises_by queued_before s.events) _ sound.events).0;
  services_done = (and_parts (rises_by service_mark_before s.services_done) _ sound.services_done).0;
  delivered = (and_parts (rises_by entity_mark_before s.delivered) _ sound.delivered).0;
  suspensions = (and_parts (rises_by suspension_before s.suspensions) _ sound.suspensions).0;
  timers = (and_parts (rises_in (λ (row : Timer). row.number.0) s.timers) _ sound.timers).0;
  timers_below = timers_drawn s.activities s.timers s.next_timer sound.timers;
  rows = (and_parts (rises_by row_before s.rows) _ sound.rows).0;
}

pub ordered_changes : (cs : List Change) (s : State) → IsOrdered s → IsOrdered (after_changes cs s)
ordered_changes [] s order = order
ordered_changes (c ∷ cs) s order = ordered_changes cs (after_change c s) (ordered_after c s order)

-- the lists of a sound state rise behind a change
pub still_ordered : (c : Change) (s : State) → IsSound s → IsOrdered (after_change c s)
still_ordered c s sound = ordered_after c s (sound_ordered s sound)

-- a list of which each row passes, with a row put into its place, or with rows taken out

pub put_sound : {Row : Type 0} (before : Row → Row → Bool) (p : Row → Bool) (row : Row) (rows : List Row) → rises_by before (put before row rows) ≡ true → p row ≡ true
    → (rises_by before rows && list_all p rows) ≡ true → (rises_by before (put before row rows) && list_all p (put before row rows)) ≡ true
put_sound before p row rows rises one sound =
    and_from (rises_by before (put before row rows)) (list_all p (put before row rows)) rises (tests_put before p row rows one (and_parts (rises_by before rows) (list_all p rows) sound).1)

pub filter_sound : {Row : Type 0} (before : Row → Row → Bool) (p keep : Row → Bool) (rows : List Row) → rises_by before (filter keep rows) ≡ true
    → (rises_by before rows && list_all p rows) ≡ true → (rises_by before (filter keep rows) && list_all p (filter keep rows)) ≡ true
filter_sound before p keep rows rises sound =
    and_from (rises_by before (filter keep rows)) (list_all p (filter keep rows)) rises (tests_filter p keep rows (and_parts (rises_by before rows) (list_all p rows) sound).1)

-- numbers that come next

pub next_grown : (n m : ℕ) → is_next_number n ≡ true → n ≤ m → is_u64 m ≡ true → is_next_number m ≡ true
next_grown n m is le fits = and_from (nat_lt 0 m) (is_u64 m) (positive n m (and_parts (nat_lt 0 n) (is_u64 n) is).0 le) fits
  where
    positive : (n m : ℕ) → nat_lt 0 n ≡ true → n ≤ m → nat_lt 0 m ≡ true
    positive n m is le = grind (arith, nat_tests)

-- what is found

pub found_passes : {Row : Type 0} (p q : Row → Bool) (rows : List Row) (x : Row) → find q rows ≡ Some x → list_all p rows ≡ true → (p x ≡ true) × (q x ≡ true)
found_passes p q [] x found all = absurd (cc)
found_passes p q (y ∷ rows) x found all =
    let parts = and_parts (p y) (list_all p rows) all in
    elim (cases_Bool (q y)) [
      | inl is ↦ (let same : y ≡ x = some_same (rw is at found) in (subst (λ z. p z ≡ true) same parts.0, subst (λ z. q z ≡ true) same is))
      | inr isnt ↦ found_passes p q rows x (rw isnt at found) parts.1
    ]
  where
    some_same : {X : Type 0} {y z : X} → Some y ≡ Some z → y ≡ z
    some_same same = cc

pub found_in : {Row : Type 0} (q : Row → Bool) (rows : List Row) (x : Row) → find q rows ≡ Some x → IsIn x rows
found_in q [] x found = absurd (cc)
found_in q (y ∷ rows) x found = elim (cases_Bool (q y)) [
  | inl is ↦ inl (sym (some_same (rw is at found)))
  | inr isnt ↦ inr (found_in q rows x (rw isnt at found))
]
  where
    some_same : {X : Type 0} {y z : X} → Some y ≡ Some z → y ≡ z
    some_same same = cc

pub some_there : {X : Type 0} (o : Option X) → is_some o ≡ true → (x : X) × (o ≡ Some x)
some_there None is = absurd (cc)
some_there (Some x) is = (x, refl)

pub passes_there : {X : Type 0} (f : X → Bool) (o : Option X) → option_map_or f o false ≡ true → is_some o ≡ true
passes_there f None is = absurd (cc)
passes_there f (Some x) is = refl

-- what is found is found where more rows stand behind
pub found_more : {Row : Type 0} (q : Row → Bool) (rows more : List Row) (x : Row) → find q rows ≡ Some x → find q (rows ++ more) ≡ Some x
found_more q rows more x found = find-append q rows more ∙ rw found refl

pub passes_more : {Row : Type 0} (q f : Row → Bool) (rows more : List Row) → option_map_or f (find q rows) false ≡ true → option_map_or f (find q (rows ++ more)) false ≡ true
passes_more {Row = Row} q f rows more is = rw (find-append q rows more) (by (find q rows) is)
  where
    by : (o : Option Row) → option_map_or f o false ≡ true → option_map_or f (option_or o (find q more)) false ≡ true
    by None is = absurd (cc)
    by (Some x) is = is

pub there_more : {Row : Type 0} (q : Row → Bool) (rows more : List Row) → is_some (find q rows) ≡ true → is_some (find q (rows ++ more)) ≡ true
there_more {Row = Row} q rows more is = rw (find-append q rows more) (by (find q rows) is)
  where
    by : (o : Option Row) → is_some o ≡ true → is_some (option_or o (find q more)) ≡ true
    by None is = absurd (cc)
    by (Some x) is = refl

-- a number that is found among rows below a number is below it
pub there_below : {Row : Type 0} (number : Row → ℕ) (n a : ℕ) (rows : List Row) → is_some (find (λ row. number row == a) rows) ≡ true → are_below number n rows ≡ true → nat_lt a n ≡ true
there_below number n a rows there below =
    let x = some_there (find (λ row. number row == a) rows) there in
    let both = found_passes (λ row. nat_lt (number row) n) (λ row. number row == a) rows x.0 x.1 below in
    subst (λ k. nat_lt k n ≡ true) (eqb-true (number x.0) a both.1) both.0

-- none of the rows below a number has it
pub none_there : {Row : Type 0} (number : Row → ℕ) (n : ℕ) (rows : List Row) → are_below number n rows ≡ true → find (λ row. number row == n) rows ≡ None
none_there number n [] below = refl
none_there number n (x ∷ rows) below =
    let parts = and_parts (nat_lt (number x) n) (are_below number n rows) below in
    let other : (number x == n) ≡ false = apart (number x) n parts.0 in
    rw other (none_there number n rows parts.1)
  where
    apart : (x n : ℕ) → nat_lt x n ≡ true → (x == n) ≡ false
    apart x n less = grind (arith, nat_tests)

-- of rows that rise one alone has the number
pub only_one : {Row : Type 0} (number : Row → ℕ) (p : Row → Bool) (rows : List Row) (a : ℕ) (row : Row) → InOrder (λ x y. nat_lt (number x) (number y)) rows → find (λ r. number r == a) rows ≡ Some row → p row ≡ true
    → list_all (λ r. not (number r == a) || p r) rows ≡ true
only_one number p [] a row order found is = refl
only_one number p (x ∷ xs) a row order found is = elim (cases_Bool (number x == a)) [
  | inl here ↦
      let same : x ≡ row = some_same (rw here at found) in
      and_from (not (number x == a) || p x) _ (or_right (not (number x == a)) (p x) (subst (λ y. p y ≡ true) (sym same) is)) (others number p x a xs order.0 here)
  | inr isnt ↦ and_from (not (number x == a) || p x) _ (or_left (not (number x == a)) (p x) (no (number x == a) isnt)) (only_one number p xs a row order.1 (rw isnt at found) is)
]
  where
    some_same : {X : Type 0} {y z : X} → Some y ≡ Some z → y ≡ z
    some_same same = cc

    no : (b : Bool) → b ≡ false → not b ≡ true
    no b is = rw is refl

    apart : (x y a : ℕ) → (x == a) ≡ true → nat_lt x y ≡ true → not (y == a) ≡ true
    apart x y a one two = grind (arith, nat_tests)

    others : {Row : Type 0} (number : Row → ℕ) (p : Row → Bool) (x : Row) (a : ℕ) (ys : List Row) → AllByRecursion (λ y. nat_lt (number x) (number y) ≡ true) ys → (number x == a) ≡ true → list_all (λ r. not (number r == a) || p r) ys ≡ true
    others number p x a [] later here = refl
    others number p x a (y ∷ ys) later here = and_from (not (number y == a) || p y) _ (or_left (not (number y == a)) (p y) (apart (number x) (number y) a here later.0)) (others number p x a ys later.1 here)

-- filters

pub everywhere : {X : Type 0} (P : X → Type 0) → ((x : X) → P x) → (xs : List X) → AllByRecursion P xs
everywhere P each [] = tt
everywhere P each (x ∷ xs) = (each x, everywhere P each xs)

-- a row that a filter leaves out is put among rows of which it keeps those on one side alone
pub filter_put : {Row : Type 0} (before : Row → Row → Bool) (p : Row → Bool) (row : Row) (rows : List Row) (first : Bool) → p row ≡ false
    → ((x : Row) → p x ≡ true → before x row ≡ first) → ((x : Row) → p x ≡ true → before row x ≡ not first) → filter p (put before row rows) ≡ filter p rows
filter_put before p row rows true out ahead behind =
    filter-append p (filter (λ x. before x row) rows) (row ∷ filter (λ x. before row x) rows)
    ∙ rw (out, filter_all p (λ x. before x row) rows (everywhere (λ x. p x ≡ true → before x row ≡ true) ahead rows), filter_none p (λ x. before row x) rows (everywhere (λ x. p x ≡ true → before row x ≡ false) behind rows)) (append_nil (filter p rows))
filter_put before p row rows false out ahead behind =
    filter-append p (filter (λ x. before x row) rows) (row ∷ filter (λ x. before row x) rows)
    ∙ rw (out, filter_none p (λ x. before x row) rows (everywhere (λ x. p x ≡ true → before x row ≡ false) ahead rows), filter_all p (λ x. before row x) rows (everywhere (λ x. p x ≡ true → before row x ≡ true) behind rows)) refl
