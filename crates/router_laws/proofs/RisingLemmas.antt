-- Putting a row into its place keeps a list rising, and so does taking rows out.
use Rattle.std.proofs.Common.{◌≡◌, ℕ, ◌<◌, ◌≤◌, ◌==◌, Bool, true, false, ◌&&◌, ◌||◌, List, [], ◌∷◌, ◌++◌, filter, refl, sym, ◌∙◌, arith, inl, inr, ◌⊎◌, nat_lt}
use Rattle.std.specs.List.{AllByRecursion}
use Rattle.std.proofs.lemmas.Bool.{cond_both, and_parts, cases_Bool}
use Rattle.rows_sorted.specs.Orders.{rises_by, put}

-- the order goes on from row to row
abbrev pub Joins : {Row : Type 0} → (Row → Row → Bool) → Type 0
Joins {Row} before = (x y z : Row) → before x y ≡ true → before y z ≡ true → before x z ≡ true

-- each row stands before each later one
abbrev pub InOrder : {Row : Type 0} → (Row → Row → Bool) → List Row → Type 0
InOrder before [] = Unit {0}
InOrder before (x ∷ rows) = AllByRecursion (λ y. before x y ≡ true) rows × InOrder before rows

all_from_all : {Row : Type 0} (P Q : Row → Type 0) → ((x : Row) → P x → Q x) → (rows : List Row) → AllByRecursion P rows → AllByRecursion Q rows
all_from_all P Q follows [] all = tt
all_from_all P Q follows (x ∷ xs) all = (follows x all.0, all_from_all P Q follows xs all.1)

all_filter : {Row : Type 0} (P : Row → Type 0) (p : Row → Bool) (rows : List Row) → AllByRecursion P rows → AllByRecursion P (filter p rows)
all_filter P p [] all = tt
all_filter P p (x ∷ xs) all =
    cond_both (p x) (x ∷ filter p xs) (filter p xs) (AllByRecursion P) (λ _. (all.0, all_filter P p xs all.1)) (λ _. all_filter P p xs all.1)

all_passed : {Row : Type 0} (p : Row → Bool) (rows : List Row) → AllByRecursion (λ x. p x ≡ true) (filter p rows)
all_passed p [] = tt
all_passed p (x ∷ xs) =
    cond_both (p x) (x ∷ filter p xs) (filter p xs) (AllByRecursion (λ x. p x ≡ true)) (λ passes. (passes, all_passed p xs)) (λ _. all_passed p xs)

all_append : {Row : Type 0} (P : Row → Type 0) (xs ys : List Row) → AllByRecursion P xs → AllByRecursion P ys → AllByRecursion P (xs ++ ys)
all_append P [] ys a b = b
all_append P (x ∷ xs) ys a b = (a.0, all_append P xs ys a.1 b)

order_filter : {Row : Type 0} (before : Row → Row → Bool) (p : Row → Bool) (rows : List Row) → InOrder before rows → InOrder before (filter p rows)
order_filter before p [] order = tt
order_filter before p (x ∷ xs) order =
    cond_both (p x) (x ∷ filter p xs) (filter p xs) (InOrder before)
    (λ _. (all_filter (λ y. before x y ≡ true) p xs order.0, order_filter before p xs order.1))
    (λ _. order_filter before p xs order.1)

pub order_append : {Row : Type 0} (before : Row → Row → Bool) (xs ys : List Row) → InOrder before xs → InOrder before ys
    → AllByRecursion (λ x. AllByRecursion (λ y. before x y ≡ true) ys) xs → InOrder before (xs ++ ys)
order_append before [] ys a b between = b
order_append before (x ∷ xs) ys a b between =
    (all_append (λ y. before x y ≡ true) xs ys a.0 between.0, order_append before xs ys a.1 b between.1)

-- rows that rise from one to the next stand before all later ones
pub order_from_rises : {Row : Type 0} (before : Row → Row → Bool) → Joins before → (rows : List Row) → rises_by before rows ≡ true → InOrder before rows
order_from_rises before joins [] rises = tt
order_from_rises before joins (x ∷ []) rises = (tt, tt)
order_from_rises before joins (x ∷ y ∷ rows) rises =
    let parts = and_parts _ _ rises in
    let more = order_from_rises before joins (y ∷ rows) parts.1 in
    ((parts.0, all_from_all (λ z. before y z ≡ true) (λ z. before x z ≡ true) (λ z later. joins x y z parts.0 later) rows more.0), more)

pub rises_from_order : {Row : Type 0} (before : Row → Row → Bool) (rows : List Row) → InOrder before rows → rises_by before rows ≡ true
rises_from_order before [] order = refl
rises_from_order before (x ∷ []) order = refl
rises_from_order before (x ∷ y ∷ rows) order = rw order.0.0 (rises_from_order before (y ∷ rows) order.1)

pub put_in_order : {Row : Type 0} (before : Row → Row → Bool) → Joins before → (row : Row) (rows : List Row) → InOrder before rows → InOrder before (put before row rows)
put_in_order before joins row rows order =
    let behind = filter (λ other. before row other) rows in
    let later : AllByRecursion (λ y. before row y ≡ true) behind = all_passed (λ other. before row other) rows in
    let earlier = all_passed (λ other. before other row) rows in
    order_append before (filter (λ other. before other row) rows) (row ∷ behind)
    (order_filter before (λ other. before other row) rows order)
    (later, order_filter before (λ other. before row other) rows order)
    (all_from_all (λ x. before x row ≡ true) (λ x. AllByRecursion (λ y. before x y ≡ true) (row ∷ behind))
    (λ x first. (first, all_from_all (λ y. before row y ≡ true) (λ y. before x y ≡ true) (λ y next. joins x row y first next) behind later))
    (filter (λ other. before other row) rows) earlier)

pub put_rises : {Row : Type 0} (before : Row → Row → Bool) → Joins before → (row : Row) (rows : List Row) → rises_by before rows ≡ true → rises_by before (put before row rows) ≡ true
put_rises before joins row rows rises = rises_from_order before _ (put_in_order before joins row rows (order_from_rises before joins rows rises))

pub filter_rises : {Row : Type 0} (before : Row → Row → Bool) → Joins before → (p : Row → Bool) (rows : List Row) → rises_by before rows ≡ true → rises_by before (filter p rows) ≡ true
filter_rises before joins p rows rises = rises_from_order before _ (order_filter before p rows (order_from_rises before joins rows rises))
