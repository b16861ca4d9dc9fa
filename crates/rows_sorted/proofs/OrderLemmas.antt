-- Rows that rise by their keys: each one stands before every later one.
use Rattle.std.proofs.Common.{Greater, ◌≡◌, ℕ, Bool, true, false, List, [], ◌∷◌, ◌++◌, refl, sym, ap, ◌∙◌, arith}
use Rattle.std.specs.Prelude.{◌&&◌, ◌==◌, ◌||◌, nat_lt, nat_le}
use Rattle.std.specs.List.{AllByRecursion, filter}
use Rattle.std.specs.Ordering.{is_lt}
use Rattle.std.proofs.lemmas.Bool.{cond_both}
use Rattle.std.proofs.lemmas.Bool.Decides.{nat_tests}
use Rattle.rows_sorted.specs.Orders.{rises_by, put}
use Rattle.rows_sorted.specs.Keys.{Key, key_before, Rises}
use Rattle.rows_sorted.proofs.KeyLemmas.{key_order, key_total, before_is, lower_is, greater_after}

-- R holds of each row and each later one
abbrev pub AllInOrder : {Row : Type 0} → (Row → Row → Type 0) → List Row → Type 0
AllInOrder R [] = Unit {0}
AllInOrder R (row ∷ rows) = AllByRecursion (R row) rows × AllInOrder R rows

pub all_from_all : {Row : Type 0} (P Q : Row → Type 0) → ((x : Row) → P x → Q x) → (rows : List Row) → AllByRecursion P rows → AllByRecursion Q rows
all_from_all P Q follows [] all = tt
all_from_all P Q follows (x ∷ xs) all = (follows x all.0, all_from_all P Q follows xs all.1)

both_true : (a b : Bool) → (a && b) ≡ true → (a ≡ true) × (b ≡ true)
both_true true true passes = (refl, refl)
both_true true false passes = cc
both_true false b passes = cc

true_both : (a b : Bool) → a ≡ true → b ≡ true → (a && b) ≡ true
true_both true true passes also = refl
true_both true false passes also = cc
true_both false b passes also = cc

pub before_joins : (x y z : Key) → key_before x y ≡ true → key_before y z ≡ true → key_before x z ≡ true
before_joins x y z one two = before_is x z ∙ ap is_lt (key_total.trans x y z (lower_is x y one) (lower_is y z two))

module _ {Row : Type 0} (key : Row → Key) where
  -- one row stands before the other
  abbrev pub IsBefore : Row → Row → Type 0
  IsBefore x y = key_before (key x) (key y) ≡ true

  pub in_order : (rows : List Row) → Rises key rows → AllInOrder IsBefore rows
  in_order [] rises = tt
  in_order (x ∷ []) rises = (tt, tt)
  in_order (x ∷ y ∷ rows) rises =
      let parts = both_true (key_before (key x) (key y)) (rises_by (λ x y. key_before (key x) (key y)) (y ∷ rows)) rises in
      let later = in_order (y ∷ rows) parts.1 in
      ((parts.0, all_from_all (IsBefore y) (IsBefore x) (λ z behind. before_joins (key x) (key y) (key z) parts.0 behind) rows later.0), later)

  pub rises_again : (rows : List Row) → AllInOrder IsBefore rows → Rises key rows
  rises_again [] order = refl
  rises_again (x ∷ []) order = refl
  rises_again (x ∷ y ∷ rows) order = true_both _ _ order.0.0 (rises_again (y ∷ rows) order.1)

  -- what stands before a key, has it, and stands behind it
  pub before_earlier : (k : Key) (x y : Row) → IsBefore x y → key_before (key y) k ≡ true → key_before (key x) k ≡ true
  before_earlier k x y rises low = before_joins (key x) (key y) k rises low

  -- from a row on that doesn't stand before the key, the later ones stand behind it
  pub behind_later : (k : Key) (x y : Row) → IsBefore x y → key_before (key x) k ≡ false → key_order (key y) k ≡ Greater
  behind_later k x y rises high = greater_after (key x) (key y) k (lower_is (key x) (key y) rises) (sym (before_is (key x) k) ∙ high)

  pub first_earlier : (a : ℕ) (x y : Row) → IsBefore x y → nat_lt (key y).first a ≡ true → nat_lt (key x).first a ≡ true
  first_earlier a x y rises low = grind (arith, nat_tests)

  pub first_up_to_earlier : (a : ℕ) (x y : Row) → IsBefore x y → nat_le (key y).first a ≡ true → nat_le (key x).first a ≡ true
  first_up_to_earlier a x y rises low = grind (arith, nat_tests)

  pub pair_earlier : (a b : ℕ) (x y : Row) → IsBefore x y → (nat_lt (key y).first a || (((key y).first == a) && nat_lt (key y).second b)) ≡ true → (nat_lt (key x).first a || (((key x).first == a) && nat_lt (key x).second b)) ≡ true
  pair_earlier a b x y rises low = grind (arith, nat_tests)

  pub pair_up_to_earlier : (a b : ℕ) (x y : Row) → IsBefore x y → (nat_lt (key y).first a || (((key y).first == a) && nat_le (key y).second b)) ≡ true → (nat_lt (key x).first a || (((key x).first == a) && nat_le (key x).second b)) ≡ true
  pair_up_to_earlier a b x y rises low = grind (arith, nat_tests)

pub all_filter : {Row : Type 0} (P : Row → Type 0) (p : Row → Bool) (rows : List Row) → AllByRecursion P rows → AllByRecursion P (filter p rows)
all_filter P p [] all = tt
all_filter P p (x ∷ xs) all =
    cond_both (p x) (x ∷ filter p xs) (filter p xs) (AllByRecursion P) (λ _. (all.0, all_filter P p xs all.1)) (λ _. all_filter P p xs all.1)

pub order_filter : {Row : Type 0} (R : Row → Row → Type 0) (p : Row → Bool) (rows : List Row) → AllInOrder R rows → AllInOrder R (filter p rows)
order_filter R p [] order = tt
order_filter R p (x ∷ xs) order =
    cond_both (p x) (x ∷ filter p xs) (filter p xs) (AllInOrder R) (λ _. (all_filter (R x) p xs order.0, order_filter R p xs order.1)) (λ _. order_filter R p xs order.1)

-- those that pass pass
all_pass : {Row : Type 0} (p : Row → Bool) (rows : List Row) → AllByRecursion (λ x. p x ≡ true) (filter p rows)
all_pass p [] = tt
all_pass p (x ∷ xs) = cond_both (p x) (x ∷ filter p xs) (filter p xs) (AllByRecursion (λ x. p x ≡ true)) (λ passes. (passes, all_pass p xs)) (λ _. all_pass p xs)

all_joined : {Row : Type 0} (P : Row → Type 0) (xs zs : List Row) → AllByRecursion P xs → AllByRecursion P zs → AllByRecursion P (xs ++ zs)
all_joined P [] zs all also = also
all_joined P (x ∷ xs) zs all also = (all.0, all_joined P xs zs all.1 also)

order_joined : {Row : Type 0} (R : Row → Row → Type 0) → ((x y z : Row) → R x y → R y z → R x z) → (xs : List Row) (y : Row) (zs : List Row)
    → AllInOrder R xs → AllByRecursion (λ x. R x y) xs → AllByRecursion (R y) zs → AllInOrder R zs → AllInOrder R (xs ++ y ∷ zs)
order_joined R joins [] y zs order low high later = (high, later)
order_joined R joins (x ∷ xs) y zs order low high later =
    (all_joined (R x) xs (y ∷ zs) order.0 (low.0, all_from_all (R y) (R x) (λ z above. joins x y z low.0 above) zs high), order_joined R joins xs y zs order.1 low.1 high later)

module _ {Row : Type 0} (key : Row → Key) where
  pub filter_rises : (p : Row → Bool) (rows : List Row) → Rises key rows → Rises key (filter p rows)
  filter_rises p rows rises = rises_again key (filter p rows) (order_filter (IsBefore key) p rows (in_order key rows rises))

  pub put_rises : (row : Row) (rows : List Row) → Rises key rows → Rises key (put (λ x y. key_before (key x) (key y)) row rows)
  put_rises row rows rises =
      let order = in_order key rows rises in
      rises_again key _ (order_joined (IsBefore key) (λ x y z. before_joins (key x) (key y) (key z)) (filter (λ x. key_before (key x) (key row)) rows) row (filter (λ x. key_before (key row) (key x)) rows)
      (order_filter (IsBefore key) _ rows order) (all_pass (λ x. key_before (key x) (key row)) rows) (all_pass (λ x. key_before (key row) (key x)) rows) (order_filter (IsBefore key) _ rows order))
