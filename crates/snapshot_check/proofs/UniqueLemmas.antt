-- Rows of profile tables differ where they should just where the rows of each table differ in each unique attribute.
use Rattle.std.proofs.Common.{◌≡◌, ℕ, ◌+◌, ◌<◌, ◌≤◌, ◌==◌, Bool, true, false, List, [], ◌∷◌, Option, length, refl, sym, ap, ◌∙◌, subst, arith, inl, inr}
use Rattle.std.specs.Prelude.{◌&&◌, ◌||◌, not, nat_lt, slice_get, option_and_then}
use Rattle.std.specs.List.{list_all}
use Rattle.std.specs.Option.{option_map_or}
use Rattle.std.proofs.lemmas.Bool.{cases_Bool}
use Rattle.std.proofs.lemmas.Bool.Decides.{nat_tests}
use Rattle.std.proofs.lemmas.Option.{slice_get_past}
use Rattle.deploy_model.specs.Deployed.{Deployed, DeployedProfile, DeployedTable, table_unique}
use Rattle.router_state.specs.Profiles.{are_unique, differ_in}
use Rattle.router_state.specs.WellEntities.{all_differ}
use Rattle.router_state.specs.declared.rows.ProfileRow.{ProfileRow}
use Rattle.snapshot_check.specs.Tables.{differ_in_names, rows_in}
use Rattle.snapshot_check.proofs.TopLemmas.{alike}

both_true : (a b : Bool) → (a && b) ≡ true → (a ≡ true) × (b ≡ true)
both_true true true passes = (refl, refl)
both_true true false passes = cc
both_true false b passes = cc

true_both : (a b : Bool) → a ≡ true → b ≡ true → (a && b) ≡ true
true_both true true passes also = refl
true_both true false passes also = cc
true_both false b passes also = cc

or_true : (b : Bool) → (b || true) ≡ true
or_true true = refl
or_true false = refl

all_weaker : {X : Type 0} (p q : X → Bool) → ((x : X) → p x ≡ true → q x ≡ true) → (xs : List X) → list_all p xs ≡ true → list_all q xs ≡ true
all_weaker p q follows [] all = refl
all_weaker p q follows (x ∷ xs) all = let parts = both_true (p x) (list_all p xs) all in true_both (q x) (list_all q xs) (follows x parts.0) (all_weaker p q follows xs parts.1)

all_both : {X : Type 0} (p q : X → Bool) (xs : List X) → list_all (λ x. p x && q x) xs ≡ true → (list_all p xs ≡ true) × (list_all q xs ≡ true)
all_both p q [] all = (refl, refl)
all_both p q (x ∷ xs) all =
    let parts = both_true (p x && q x) (list_all (λ x. p x && q x) xs) all in
    let here = both_true (p x) (q x) parts.0 in
    let rest = all_both p q xs parts.1 in
    (true_both (p x) (list_all p xs) here.0 rest.0, true_both (q x) (list_all q xs) here.1 rest.1)

differ_weaker : {X : Type 0} (p q : X → X → Bool) → ((x y : X) → p x y ≡ true → q x y ≡ true) → (xs : List X) → all_differ p xs ≡ true → all_differ q xs ≡ true
differ_weaker p q follows [] all = refl
differ_weaker p q follows (x ∷ xs) all =
    let parts = both_true (list_all (p x) xs) (all_differ p xs) all in
    true_both (list_all (q x) xs) (all_differ q xs) (all_weaker (p x) (q x) (follows x) xs parts.0) (differ_weaker p q follows xs parts.1)

-- two rows differ in this attribute
abbrev differ_by : List ℕ → ProfileRow → ProfileRow → Bool
differ_by name x y = differ_in x.attributes y.attributes name

-- a row of the table comes first, and another one is passed over
row_kept : (t : ℕ) (y : ProfileRow) (ys : List ProfileRow) → (y.table == t) ≡ true → rows_in t (y ∷ ys) ≡ y ∷ rows_in t ys
row_kept t y ys own = rw own refl

row_passed : (t : ℕ) (y : ProfileRow) (ys : List ProfileRow) → (y.table == t) ≡ false → rows_in t (y ∷ ys) ≡ rows_in t ys
row_passed t y ys other = rw other refl

-- from the tables to all rows

-- a row differs from the others of its table
first_apart : (x : ProfileRow) (names : List (List ℕ)) (rest : List ProfileRow) → list_all (λ name. list_all (differ_by name x) (rows_in x.table rest)) names ≡ true
    → list_all (λ y. not (x.table == y.table) || list_all (λ name. differ_by name x y) names) rest ≡ true
first_apart x names [] all = refl
first_apart x names (y ∷ ys) all = elim (cases_Bool (y.table == x.table)) [
  | inl same ↦
      let here : list_all (λ name. differ_by name x y && list_all (differ_by name x) (rows_in x.table ys)) names ≡ true = sym (ap (λ (rows : List ProfileRow). list_all (λ name. list_all (differ_by name x) rows) names) (row_kept x.table y ys same)) ∙ all in
      let parts = all_both (λ name. differ_by name x y) (λ name. list_all (differ_by name x) (rows_in x.table ys)) names here in
      true_both (not (x.table == y.table) || list_all (λ name. differ_by name x y) names) (list_all (λ z. not (x.table == z.table) || list_all (λ name. differ_by name x z) names) ys)
      (ap (λ b. not (x.table == y.table) || b) parts.0 ∙ or_true (not (x.table == y.table))) (first_apart x names ys parts.1)
  | inr other ↦
      let turned : (x.table == y.table) ≡ false = turned_apart y.table x.table other in
      true_both (not (x.table == y.table) || list_all (λ name. differ_by name x y) names) (list_all (λ z. not (x.table == z.table) || list_all (λ name. differ_by name x z) names) ys)
      (ap (λ b. not b || list_all (λ name. differ_by name x y) names) turned)
      (first_apart x names ys (sym (ap (λ (rows : List ProfileRow). list_all (λ name. list_all (differ_by name x) rows) names) (row_passed x.table y ys other)) ∙ all))
]
  where
    turned_apart : (m n : ℕ) → (m == n) ≡ false → (n == m) ≡ false
    turned_apart m n other = grind (arith, nat_tests, other)

own_first : (x : ProfileRow) (rest : List ProfileRow) → rows_in x.table (x ∷ rest) ≡ x ∷ rows_in x.table rest
own_first x rest = row_kept x.table x rest (alike x.table)

names_of_first : (x : ProfileRow) (rest : List ProfileRow) (names : List (List ℕ)) → differ_in_names (rows_in x.table (x ∷ rest)) names ≡ true → list_all (λ name. list_all (differ_by name x) (rows_in x.table rest)) names ≡ true
names_of_first x rest names all =
    let split : list_all (λ name. list_all (differ_by name x) (rows_in x.table rest) && all_differ (differ_by name) (rows_in x.table rest)) names ≡ true = sym (ap (λ (rows : List ProfileRow). differ_in_names rows names) (own_first x rest)) ∙ all in
    (all_both (λ name. list_all (differ_by name x) (rows_in x.table rest)) (λ name. all_differ (differ_by name) (rows_in x.table rest)) names split).0

names_of_rest : (t : ℕ) (x : ProfileRow) (rest : List ProfileRow) (names : List (List ℕ)) → differ_in_names (rows_in t (x ∷ rest)) names ≡ true → differ_in_names (rows_in t rest) names ≡ true
names_of_rest t x rest names all = elim (cases_Bool (x.table == t)) [
  | inl own ↦
      let split : list_all (λ name. list_all (differ_by name x) (rows_in t rest) && all_differ (differ_by name) (rows_in t rest)) names ≡ true = sym (ap (λ (rows : List ProfileRow). differ_in_names rows names) (row_kept t x rest own)) ∙ all in
      (all_both (λ name. list_all (differ_by name x) (rows_in t rest)) (λ name. all_differ (differ_by name) (rows_in t rest)) names split).1
  | inr other ↦ sym (ap (λ (rows : List ProfileRow). differ_in_names rows names) (row_passed t x rest other)) ∙ all
]

all_tables : (d : Deployed) (rows : List ProfileRow) → ((t : ℕ) → differ_in_names (rows_in t rows) (table_unique d t) ≡ true) → all_differ (are_unique d) rows ≡ true
all_tables d [] all = refl
all_tables d (x ∷ rest) all =
    true_both (list_all (are_unique d x) rest) (all_differ (are_unique d) rest)
    (first_apart x (table_unique d x.table) rest (names_of_first x rest (table_unique d x.table) (all x.table)))
    (all_tables d rest (λ t. names_of_rest t x rest (table_unique d t) (all t)))

none_beyond : (d : Deployed) (t : ℕ) → length d.tables ≤ t → table_unique d t ≡ []
none_beyond d t past = ap (λ (o : Option DeployedTable). option_map_or (λ (p : DeployedProfile). p.unique) (option_and_then (λ (x : DeployedTable). slice_get d.profiles x.profile) o) []) (slice_get_past d.tables t past)

no_less : (k i : ℕ) → nat_lt k i ≡ false → i ≤ k
no_less k i high = grind (arith, nat_tests, high)

less : (k i : ℕ) → nat_lt k i ≡ true → k < i
less k i low = grind (arith, nat_tests, low)

pub tables_unique : (d : Deployed) (rows : List ProfileRow) (count : ℕ) → length d.tables ≤ count → ((t : ℕ) → t < count → differ_in_names (rows_in t rows) (table_unique d t) ≡ true) → all_differ (are_unique d) rows ≡ true
tables_unique d rows count whole all = all_tables d rows each
  where
    each : (t : ℕ) → differ_in_names (rows_in t rows) (table_unique d t) ≡ true
    each t = elim (cases_Bool (nat_lt t count)) [
      | inl low ↦ all t (less t count low)
      | inr high ↦ let past = no_less t count high in let none = none_beyond d t (omega (arith, past, whole)) in ap (differ_in_names (rows_in t rows)) none
    ]

-- from all rows to a table

same_table : (m n t : ℕ) → (m == t) ≡ true → (n == t) ≡ true → (m == n) ≡ true
same_table m n t one other = grind (arith, nat_tests, one, other)

is_table : (m t : ℕ) → (m == t) ≡ true → m ≡ t
is_table m t is = grind (arith, nat_tests, is)

others_of_table : (d : Deployed) (t : ℕ) (x : ProfileRow) (rest : List ProfileRow) → (x.table == t) ≡ true → list_all (are_unique d x) rest ≡ true → list_all (λ y. list_all (λ name. differ_by name x y) (table_unique d t)) (rows_in t rest) ≡ true
others_of_table d t x [] own all = refl
others_of_table d t x (y ∷ ys) own all =
    let parts = both_true (are_unique d x y) (list_all (are_unique d x) ys) all in
    elim (cases_Bool (y.table == t)) [
      | inl also ↦ rw also (true_both (list_all (λ name. differ_by name x y) (table_unique d t)) (list_all (λ z. list_all (λ name. differ_by name x z) (table_unique d t)) (rows_in t ys))
          (ap (λ n. list_all (λ name. differ_by name x y) (table_unique d n)) (sym (is_table x.table t own)) ∙ apart (same_table x.table y.table t own also) parts.0)
          (others_of_table d t x ys own parts.1))
      | inr other ↦ rw other (others_of_table d t x ys own parts.1)
    ]
  where
    apart : (x.table == y.table) ≡ true → are_unique d x y ≡ true → list_all (λ name. differ_by name x y) (table_unique d x.table) ≡ true
    apart same unique = rw same at unique

of_table : (d : Deployed) (t : ℕ) (rows : List ProfileRow) → all_differ (are_unique d) rows ≡ true → all_differ (λ x y. list_all (λ name. differ_by name x y) (table_unique d t)) (rows_in t rows) ≡ true
of_table d t [] all = refl
of_table d t (x ∷ rest) all =
    let parts = both_true (list_all (are_unique d x) rest) (all_differ (are_unique d) rest) all in
    elim (cases_Bool (x.table == t)) [
      | inl own ↦ rw own (true_both (list_all (λ y. list_all (λ name. differ_by name x y) (table_unique d t)) (rows_in t rest)) (all_differ (λ a b. list_all (λ name. differ_by name a b) (table_unique d t)) (rows_in t rest))
          (others_of_table d t x rest own parts.0) (of_table d t rest parts.1))
      | inr other ↦ rw other (of_table d t rest parts.1)
    ]

name_by_name : (names : List (List ℕ)) (rows : List ProfileRow) → all_differ (λ x y. list_all (λ name. differ_by name x y) names) rows ≡ true → differ_in_names rows names ≡ true
name_by_name [] rows all = refl
name_by_name (name ∷ names) rows all =
    true_both (all_differ (differ_by name) rows) (differ_in_names rows names)
    (differ_weaker (λ x y. differ_by name x y && list_all (λ n. differ_by n x y) names) (differ_by name) (λ x y both. (both_true (differ_by name x y) (list_all (λ n. differ_by n x y) names) both).0) rows all)
    (name_by_name names rows (differ_weaker (λ x y. differ_by name x y && list_all (λ n. differ_by n x y) names) (λ x y. list_all (λ n. differ_by n x y) names) (λ x y both. (both_true (differ_by name x y) (list_all (λ n. differ_by n x y) names) both).1) rows all))

pub table_broken : (d : Deployed) (rows : List ProfileRow) (t : ℕ) → differ_in_names (rows_in t rows) (table_unique d t) ≡ false → all_differ (are_unique d) rows ≡ false
table_broken d rows t broken = elim (cases_Bool (all_differ (are_unique d) rows)) [
  | inl all ↦ absurd (let fine = name_by_name (table_unique d t) (rows_in t rows) (of_table d t rows all) in let wrong : true ≡ false = sym fine ∙ broken in cc)
  | inr none ↦ none
]

-- one more table
pub table_more : (P : ℕ → Type 0) (n : ℕ) → ((t : ℕ) → t < n → P t) → P n → (t : ℕ) → t < n + 1 → P t
table_more P n all own t low = elim (cases_Bool (nat_lt t n)) [
  | inl is ↦ all t (less t n is)
  | inr other ↦ let high = no_less t n other in let same : n ≡ t = omega (arith, high, low) in subst P same own
]
