-- Rows of profile tables that come, change and go keep every part sound.
use Rattle.deploy_model.specs.Deployed.{Deployed, table_unique}
use Rattle.router_laws.proofs.ListRules.{filter_all}
use Rattle.router_laws.proofs.OrderLemmas.{text_joins}
use Rattle.router_laws.proofs.RisingLemmas.{Joins, filter_rises, order_from_rises}
use Rattle.router_laws.proofs.Tests.{differ_all, differ_put, tests_filter, tests_kept, tests_put, tests_weaker}
use Rattle.router_laws_sound.proofs.SoundBase.{everywhere, still_ordered}
use Rattle.router_laws_sound.proofs.SoundFields.{not_below_itself}
use Rattle.router_state.specs.Changes.{after_change}
use Rattle.router_state.specs.Profiles.{are_unique, differ_in, is_row, row_before, value_of, with_row, without_row}
use Rattle.router_state.specs.State.{State}
use Rattle.router_state.specs.Well.{IsSound}
use Rattle.router_state.specs.WellEntities.{all_differ}
use Rattle.router_state.specs.WellRows.{are_rows, is_profile_row}
use Rattle.router_state.specs.declared.rows.Activity.{Activity}
use Rattle.router_state.specs.declared.rows.ProfileRow.{ProfileRow}
use Rattle.router_state.specs.declared.rows.Timer.{Timer}
use Rattle.rows_sorted.specs.Orders.{put, rises_by}
use Rattle.script_meaning.specs.Same.{same_bool, same_option, same_value}
use Rattle.slee_value.specs.Order.{is_below}
use Rattle.slee_value.specs.declared.value.Value.{Value}
use Rattle.std.proofs.Common.{Bool, List, None, Option, Some, ap, arith, false, filter, inl, inr, refl, subst, sym, true, ℕ, ◌++◌, ◌==◌, ◌∙◌, ◌∷◌, ◌≡◌}
use Rattle.std.proofs.lemmas.Bool.{and_from, and_parts, cases_Bool, eqb-true, false_from_ne_true, false≢true, or_left, or_right}
use Rattle.std.proofs.lemmas.Bool.Decides.{nat_tests}
use Rattle.std.proofs.lemmas.Slice.Eq.{bytes_eq-Decides}
use Rattle.std.specs.List.{list_all}
use Rattle.std.specs.Prelude.{bytes_eq, int_lt, nat_lt, not, ◌&&◌, ◌||◌}
use Rattle.router_state.specs.declared.change.Change.TheVariants as changes
use Rattle.slee_value.specs.declared.value.Value.TheVariants as values

-- two values are the same either way

and_turned : (p q : Bool) → (p && q) ≡ (q && p)
and_turned true true = refl
and_turned true false = refl
and_turned false true = refl
and_turned false false = refl

number_turned : (n m : ℕ) → (n == m) ≡ (m == n)
number_turned n m = grind (arith, nat_tests)

bool_turned : (x y : Bool) → same_bool x y ≡ same_bool y x
bool_turned true true = refl
bool_turned true false = refl
bool_turned false true = refl
bool_turned false false = refl

text_turned : (x y : List ℕ) → bytes_eq x y ≡ bytes_eq y x
text_turned x y = by (bytes_eq x y) (bytes_eq y x) refl refl
  where
    by : (p q : Bool) → bytes_eq x y ≡ p → bytes_eq y x ≡ q → bytes_eq x y ≡ bytes_eq y x
    by true true one two = one ∙ sym two
    by false false one two = one ∙ sym two
    by true false one two = absurd (false≢true (sym two ∙ (bytes_eq-Decides y x).1 (sym ((bytes_eq-Decides x y).0 one))))
    by false true one two = absurd (false≢true (sym one ∙ (bytes_eq-Decides x y).1 (sym ((bytes_eq-Decides y x).0 two))))

value_turned : (x y : Value) → same_value x y ≡ same_value y x
value_turned (values.Int n) (values.Int m) = and_turned (not (int_lt n m)) (not (int_lt m n))
value_turned (values.Text n) (values.Text m) = text_turned n m
value_turned (values.Bool n) (values.Bool m) = bool_turned n m
value_turned (values.Activity n) (values.Activity m) = number_turned n.0 m.0
value_turned (values.Timer n) (values.Timer m) = number_turned n.0 m.0
value_turned (values.Int n) (values.Text m) = refl
value_turned (values.Int n) (values.Bool m) = refl
value_turned (values.Int n) (values.Activity m) = refl
value_turned (values.Int n) (values.Timer m) = refl
value_turned (values.Text n) (values.Int m) = refl
value_turned (values.Text n) (values.Bool m) = refl
value_turned (values.Text n) (values.Activity m) = refl
value_turned (values.Text n) (values.Timer m) = refl
value_turned (values.Bool n) (values.Int m) = refl
value_turned (values.Bool n) (values.Text m) = refl
value_turned (values.Bool n) (values.Activity m) = refl
value_turned (values.Bool n) (values.Timer m) = refl
value_turned (values.Activity n) (values.Int m) = refl
value_turned (values.Activity n) (values.Text m) = refl
value_turned (values.Activity n) (values.Bool m) = refl
value_turned (values.Activity n) (values.Timer m) = refl
value_turned (values.Timer n) (values.Int m) = refl
value_turned (values.Timer n) (values.Text m) = refl
value_turned (values.Timer n) (values.Bool m) = refl
value_turned (values.Timer n) (values.Activity m) = refl

option_turned : (x y : Option Value) → same_option same_value x y ≡ same_option same_value y x
option_turned None None = refl
option_turned None (Some y) = refl
option_turned (Some x) None = refl
option_turned (Some x) (Some y) = value_turned x y

differ_turned : (x y : List (List ℕ × Value)) (names : List (List ℕ)) → list_all (differ_in x y) names ≡ true → list_all (differ_in y x) names ≡ true
differ_turned x y names all = tests_weaker (differ_in x y) (differ_in y x) (λ name is. rw (option_turned (value_of y name) (value_of x name)) is) names all

unique_turned : (d : Deployed) (x y : ProfileRow) → are_unique d x y ≡ true → are_unique d y x ≡ true
unique_turned d x y is = elim (cases_Bool (x.table == y.table)) [
  | inl same ↦
      let table : x.table ≡ y.table = eqb-true x.table y.table same in
      let all : list_all (differ_in x.attributes y.attributes) (table_unique d x.table) ≡ true = rw same at is in
      or_right (not (y.table == x.table)) _ (differ_turned x.attributes y.attributes (table_unique d y.table) (subst (λ k. list_all (differ_in x.attributes y.attributes) (table_unique d k) ≡ true) table all))
  | inr other ↦ or_left (not (y.table == x.table)) _ (turned x.table y.table other)
]
  where
    turned : (n m : ℕ) → (n == m) ≡ false → not (m == n) ≡ true
    turned n m isnt = grind (arith, nat_tests)

-- a row gives way to one of its name
put_without : (rows : List ProfileRow) (row : ProfileRow) → put row_before row rows ≡ put row_before row (without_row rows row.table row.row)
put_without rows row =
    ap (λ xs. xs ++ row ∷ filter (λ x. row_before row x) rows) (sym (kept (λ x. row_before x row) (λ x is. ahead x is) rows))
    ∙ ap (λ xs. filter (λ x. row_before x row) (without_row rows row.table row.row) ++ row ∷ xs) (sym (kept (λ x. row_before row x) (λ x is. further x is) rows))
  where
    kept : (p : ProfileRow → Bool) → ((x : ProfileRow) → p x ≡ true → not (is_row row.table row.row x) ≡ true) → (rows : List ProfileRow) → filter p (without_row rows row.table row.row) ≡ filter p rows
    kept p follows rows = filter_all p (λ (x : ProfileRow). not (is_row row.table row.row x)) rows (everywhere (λ x. p x ≡ true → not (is_row row.table row.row x) ≡ true) follows rows)

    lesser : (x t : ℕ) (c : Bool) → c ≡ false → (nat_lt x t || ((x == t) && c)) ≡ true → (x == t) ≡ false
    lesser x t c none is = grind (arith, nat_tests)

    numbers : (x t : ℕ) (c e : Bool) → (nat_lt x t || ((x == t) && c)) ≡ true → (e ≡ true → c ≡ false) → not ((x == t) && e) ≡ true
    numbers x t c true is none = rw (lesser x t c (none refl) is) refl
    numbers x t c false is none = rw (and_turned (x == t) false) refl

    ahead : (x : ProfileRow) → row_before x row ≡ true → not (is_row row.table row.row x) ≡ true
    ahead x is = numbers x.table row.table (is_below x.row row.row) (bytes_eq x.row row.row) is (λ same. subst (λ n. is_below x.row n ≡ false) ((bytes_eq-Decides x.row row.row).0 same) (not_below_itself x.row))

    further : (x : ProfileRow) → row_before row x ≡ true → not (is_row row.table row.row x) ≡ true
    further x is =
        rw (number_turned x.table row.table)
        (numbers row.table x.table (is_below row.row x.row) (bytes_eq x.row row.row) is (λ same. subst (λ n. is_below row.row n ≡ false) (sym ((bytes_eq-Decides x.row row.row).0 same)) (not_below_itself row.row)))

-- a row of the table, of which the attributes are the table's and no other row has one that is to be unique
pub record CanHaveRow (s : State) (table : ℕ) (row : List ℕ) (attributes : List (List ℕ × Value)) : Type 0 where
  pub fits : is_profile_row s.deployment s.next_activity s.next_timer (record { table = table; row = row; attributes = attributes }) ≡ true
  pub alone : list_all (λ (other : ProfileRow). is_row table row other || are_unique s.deployment (record { table = table; row = row; attributes = attributes }) other) s.rows ≡ true

row_strict : (row x : ProfileRow) → row_before x row ≡ true → row_before row x ≡ false
row_strict row x is = false_from_ne_true (row_before row x) (λ back. false≢true (sym (itself x.table (is_below x.row x.row) (not_below_itself x.row)) ∙ text_joins x.table x.row row.table row.row x.table x.row is back))
  where
    itself : (n : ℕ) (b : Bool) → b ≡ false → (nat_lt n n || ((n == n) && b)) ≡ false
    itself n b is = grind (arith, nat_tests, is)

row_joins : Joins row_before
row_joins x y z one two = text_joins x.table x.row y.table y.row z.table z.row one two

rows_put : (s : State) (table : ℕ) (row : List ℕ) (attributes : List (List ℕ × Value)) → IsSound s → CanHaveRow s table row attributes → rises_by row_before (with_row s.rows table row attributes) ≡ true
    → are_rows s.deployment (with_row s.rows table row attributes) s.next_activity s.next_timer ≡ true
rows_put s table row attributes sound can rises =
    let new : ProfileRow = record { table = table; row = row; attributes = attributes } in
    let first = and_parts (rises_by row_before s.rows) _ sound.rows in
    let tests = and_parts (list_all (is_profile_row s.deployment s.next_activity s.next_timer) s.rows) (all_differ (are_unique s.deployment) s.rows) first.1 in
    let others = without_row s.rows table row in
    let apart : list_all (are_unique s.deployment new) others ≡ true =
    tests_kept (λ (x : ProfileRow). is_row table row x || are_unique s.deployment new x) (are_unique s.deployment new) (λ (x : ProfileRow). not (is_row table row x)) (λ x keep is. other (is_row table row x) (are_unique s.deployment new x) keep is) s.rows can.alone in
    and_from (rises_by row_before (with_row s.rows table row attributes)) _ rises
    (and_from (list_all (is_profile_row s.deployment s.next_activity s.next_timer) (with_row s.rows table row attributes)) _ (tests_put row_before (is_profile_row s.deployment s.next_activity s.next_timer) new s.rows can.fits tests.0)
    (subst (λ xs. all_differ (are_unique s.deployment) xs ≡ true) (sym (put_without s.rows new))
    (differ_put row_before (are_unique s.deployment) row_joins new (row_strict new) others (order_from_rises row_before row_joins others (filter_rises row_before row_joins (λ (x : ProfileRow). not (is_row table row x)) s.rows first.0))
    (differ_all (are_unique s.deployment) (λ (x : ProfileRow). not (is_row table row x)) s.rows tests.1)
    (tests_weaker (are_unique s.deployment new) (λ x. are_unique s.deployment x new) (λ x is. unique_turned s.deployment new x is) others apart) apart)))
  where
    other : (p q : Bool) → not p ≡ true → (p || q) ≡ true → q ≡ true
    other true q keep is = absurd (cc)
    other false q keep is = is

pub sound_row_added : (s : State) (table : ℕ) (row : List ℕ) (attributes : List (List ℕ × Value)) → IsSound s → CanHaveRow s table row attributes → IsSound (after_change (changes.AddRow table row attributes) s)
sound_row_added s table row attributes sound can =
    let order = still_ordered (changes.AddRow table row attributes) s sound in
    record {
      clock = sound.clock;
      inputs = sound.inputs;
      next_entity = sound.next_entity;
      next_activity = sound.next_activity;
      next_timer = sound.next_timer;
      next_event = sound.next_event;
      services = sound.services;
      entities = sound.entities;
      root_names = sound.root_names;
      apart = sound.apart;
      fields = sound.fields;
      activities = sound.activities;
      attributes = sound.attributes;
      links = sound.links;
      masks = sound.masks;
      names = sound.names;
      events = sound.events;
      services_done = sound.services_done;
      delivered = sound.delivered;
      suspensions = sound.suspensions;
      timers = sound.timers;
      rows = rows_put s table row attributes sound can order.rows;
    }

pub sound_row_updated : (s : State) (table : ℕ) (row : List ℕ) (attributes : List (List ℕ × Value)) → IsSound s → CanHaveRow s table row attributes → IsSound (after_change (changes.UpdateRow table row attributes) s)
sound_row_updated s table row attributes sound can =
    let order = still_ordered (changes.UpdateRow table row attributes) s sound in
    record {
      clock = sound.clock;
      inputs = sound.inputs;
      next_entity = sound.next_entity;
      next_activity = sound.next_activity;
      next_timer = sound.next_timer;
      next_event = sound.next_event;
      services = sound.services;
      entities = sound.entities;
      root_names = sound.root_names;
      apart = sound.apart;
      fields = sound.fields;
      activities = sound.activities;
      attributes = sound.attributes;
      links = sound.links;
      masks = sound.masks;
      names = sound.names;
      events = sound.events;
      services_done = sound.services_done;
      delivered = sound.delivered;
      suspensions = sound.suspensions;
      timers = sound.timers;
      rows = rows_put s table row attributes sound can order.rows;
    }

pub sound_row_removed : (s : State) (table : ℕ) (row : List ℕ) → IsSound s → IsSound (after_change (changes.RemoveRow table row) s)
sound_row_removed s table row sound =
    let order = still_ordered (changes.RemoveRow table row) s sound in
    let first = and_parts (rises_by row_before s.rows) _ sound.rows in
    let tests = and_parts (list_all (is_profile_row s.deployment s.next_activity s.next_timer) s.rows) (all_differ (are_unique s.deployment) s.rows) first.1 in
    record {
      clock = sound.clock;
      inputs = sound.inputs;
      next_entity = sound.next_entity;
      next_activity = sound.next_activity;
      next_timer = sound.next_timer;
      next_event = sound.next_event;
      services = sound.services;
      entities = sound.entities;
      root_names = sound.root_names;
      apart = sound.apart;
      fields = sound.fields;
      activities = sound.activities;
      attributes = sound.attributes;
      links = sound.links;
      masks = sound.masks;
      names = sound.names;
      events = sound.events;
      services_done = sound.services_done;
      delivered = sound.delivered;
      suspensions = sound.suspensions;
      timers = sound.timers;
      rows = and_from (rises_by row_before (without_row s.rows table row)) _ order.rows (and_from (list_all (is_profile_row s.deployment s.next_activity s.next_timer) (without_row s.rows table row)) _ (tests_filter (is_profile_row s.deployment s.next_activity s.next_timer) (λ (x : ProfileRow). not (is_row table row x)) s.rows tests.0) (differ_all (are_unique s.deployment) (λ (x : ProfileRow). not (is_row table row x)) s.rows tests.1));
    }
