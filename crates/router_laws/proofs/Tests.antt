-- Tests of whole lists under the ways in which lists change.
use Rattle.std.proofs.Common.{◌≡◌, Bool, true, false, not, List, [], ◌∷◌, ◌++◌, filter, map, refl, sym, ◌∙◌, inl, inr, ◌⊎◌}
use Rattle.std.specs.List.{AllByRecursion, list_all, list_any}
use Rattle.std.proofs.lemmas.Bool.{cases_Bool, cond_both, and_parts, and_from, or_left, or_right, or_cases, false≢true}
use Rattle.router_laws.proofs.RisingLemmas.{Joins, InOrder}
use Rattle.rows_sorted.specs.Orders.{put}
use Rattle.router_state.specs.WellEntities.{all_differ}

pub tests_append : {Row : Type 0} (p : Row → Bool) (xs ys : List Row) → list_all p xs ≡ true → list_all p ys ≡ true → list_all p (xs ++ ys) ≡ true
tests_append p [] ys one two = two
tests_append p (x ∷ xs) ys one two = let parts = and_parts (p x) (list_all p xs) one in and_from (p x) (list_all p (xs ++ ys)) parts.0 (tests_append p xs ys parts.1 two)

pub tests_filter : {Row : Type 0} (p q : Row → Bool) (xs : List Row) → list_all p xs ≡ true → list_all p (filter q xs) ≡ true
tests_filter p q [] all = refl
tests_filter p q (x ∷ xs) all =
    let parts = and_parts (p x) (list_all p xs) all in
    cond_both (q x) (x ∷ filter q xs) (filter q xs) (λ rows. list_all p rows ≡ true) (λ _. and_from (p x) (list_all p (filter q xs)) parts.0 (tests_filter p q xs parts.1)) (λ _. tests_filter p q xs parts.1)

pub tests_put : {Row : Type 0} (before : Row → Row → Bool) (p : Row → Bool) (row : Row) (xs : List Row) → p row ≡ true → list_all p xs ≡ true → list_all p (put before row xs) ≡ true
tests_put before p row xs one all =
    tests_append p (filter (λ x. before x row) xs) (row ∷ filter (λ x. before row x) xs) (tests_filter p (λ x. before x row) xs all)
    (and_from (p row) _ one (tests_filter p (λ x. before row x) xs all))

pub tests_weaker : {Row : Type 0} (p q : Row → Bool) → ((x : Row) → p x ≡ true → q x ≡ true) → (xs : List Row) → list_all p xs ≡ true → list_all q xs ≡ true
tests_weaker p q follows [] all = refl
tests_weaker p q follows (x ∷ xs) all = let parts = and_parts (p x) (list_all p xs) all in and_from (q x) (list_all q xs) (follows x parts.0) (tests_weaker p q follows xs parts.1)

-- of the rows that are kept more may be known
pub tests_kept : {Row : Type 0} (p q keep : Row → Bool) → ((x : Row) → keep x ≡ true → p x ≡ true → q x ≡ true) → (xs : List Row) → list_all p xs ≡ true → list_all q (filter keep xs) ≡ true
tests_kept p q keep follows [] all = refl
tests_kept p q keep follows (x ∷ xs) all =
    let parts = and_parts (p x) (list_all p xs) all in
    cond_both (keep x) (x ∷ filter keep xs) (filter keep xs) (λ rows. list_all q rows ≡ true)
    (λ is. and_from (q x) (list_all q (filter keep xs)) (follows x is parts.0) (tests_kept p q keep follows xs parts.1)) (λ _. tests_kept p q keep follows xs parts.1)

pub tests_map : {Row : Type 0} (p q : Row → Bool) (f : Row → Row) → ((x : Row) → p x ≡ true → q (f x) ≡ true) → (xs : List Row) → list_all p xs ≡ true → list_all q (map f xs) ≡ true
tests_map p q f follows [] all = refl
tests_map p q f follows (x ∷ xs) all = let parts = and_parts (p x) (list_all p xs) all in and_from (q (f x)) (list_all q (map f xs)) (follows x parts.0) (tests_map p q f follows xs parts.1)

-- what one row has that passes

pub any_filter : {Row : Type 0} (p keep : Row → Bool) (xs : List Row) → ((x : Row) → p x ≡ true → keep x ≡ true) → list_any p xs ≡ true → list_any p (filter keep xs) ≡ true
any_filter p keep [] kept some = absurd (cc)
any_filter p keep (x ∷ xs) kept some = elim (or_cases (p x) (list_any p xs) some) [
  | inl here ↦ rw (kept x here, here) refl
  | inr there ↦ cond_both (keep x) (x ∷ filter keep xs) (filter keep xs) (λ rows. list_any p rows ≡ true) (λ _. or_right (p x) (list_any p (filter keep xs)) (any_filter p keep xs kept there)) (λ _. any_filter p keep xs kept there)
]

pub any_left : {Row : Type 0} (p : Row → Bool) (xs ys : List Row) → list_any p xs ≡ true → list_any p (xs ++ ys) ≡ true
any_left p [] ys some = absurd (cc)
any_left p (x ∷ xs) ys some = elim (or_cases (p x) (list_any p xs) some) [
  | inl here ↦ or_left (p x) _ here
  | inr there ↦ or_right (p x) _ (any_left p xs ys there)
]

pub any_right : {Row : Type 0} (p : Row → Bool) (xs ys : List Row) → list_any p ys ≡ true → list_any p (xs ++ ys) ≡ true
any_right p [] ys some = some
any_right p (x ∷ xs) ys some = or_right (p x) (list_any p (xs ++ ys)) (any_right p xs ys some)

pub any_parts : {Row : Type 0} (p : Row → Bool) (xs ys : List Row) → list_any p (xs ++ ys) ≡ true → (list_any p xs ≡ true) ⊎ (list_any p ys ≡ true)
any_parts p [] ys some = inr some
any_parts p (x ∷ xs) ys some = elim (or_cases (p x) (list_any p (xs ++ ys)) some) [
  | inl here ↦ inl (or_left (p x) (list_any p xs) here)
  | inr there ↦ elim (any_parts p xs ys there) [
    | inl one ↦ inl (or_right (p x) (list_any p xs) one)
    | inr two ↦ inr two
  ]
]

-- rows that differ

pub differ_all : {Row : Type 0} (differ : Row → Row → Bool) (keep : Row → Bool) (xs : List Row) → all_differ differ xs ≡ true → all_differ differ (filter keep xs) ≡ true
differ_all differ keep [] all = refl
differ_all differ keep (x ∷ xs) all =
    let parts = and_parts (list_all (differ x) xs) (all_differ differ xs) all in
    cond_both (keep x) (x ∷ filter keep xs) (filter keep xs) (λ rows. all_differ differ rows ≡ true)
    (λ _. and_from (list_all (differ x) (filter keep xs)) _ (tests_filter (differ x) keep xs parts.0) (differ_all differ keep xs parts.1)) (λ _. differ_all differ keep xs parts.1)

-- where a row doesn't stand before another, none of those behind it does
none_before : {Row : Type 0} (before : Row → Row → Bool) → Joins before → (row x : Row) (xs : List Row) → AllByRecursion (λ y. before x y ≡ true) xs → before x row ≡ false → filter (λ y. before y row) xs ≡ []
none_before before joins row x [] later isnt = refl
none_before before joins row x (y ∷ ys) later isnt = elim (cases_Bool (before y row)) [
  | inl is ↦ absurd (false≢true (sym isnt ∙ joins x y row later.0 is))
  | inr not ↦ rw not (none_before before joins row x ys later.1 isnt)
]

-- a row is put among rows that rise and differ, and differs from those on both sides
pub differ_put : {Row : Type 0} (before differ : Row → Row → Bool) → Joins before → (row : Row) → ((x : Row) → before x row ≡ true → before row x ≡ false)
    → (xs : List Row) → InOrder before xs → all_differ differ xs ≡ true → list_all (λ x. differ x row) xs ≡ true → list_all (differ row) xs ≡ true → all_differ differ (put before row xs) ≡ true
differ_put before differ joins row strict [] order all front behind = refl
differ_put before differ joins row strict (x ∷ xs) order all front behind =
    let parts = and_parts (list_all (differ x) xs) (all_differ differ xs) all in
    let fronts = and_parts (differ x row) (list_all (λ x. differ x row) xs) front in
    let behinds = and_parts (differ row x) (list_all (differ row) xs) behind in
    let more = differ_put before differ joins row strict xs order.1 parts.1 fronts.1 behinds.1 in
    elim (cases_Bool (before x row)) [
      | inl is ↦ rw (is, strict x is)
          (and_from (list_all (differ x) (put before row xs)) (all_differ differ (put before row xs)) (tests_put before (differ x) row xs fronts.0 parts.0) more)
      | inr isnt ↦ rw (isnt, none_before before joins row x xs order.0 isnt)
          (and_from (list_all (differ row) (filter (λ y. before row y) (x ∷ xs))) _ (tests_filter (differ row) (λ y. before row y) (x ∷ xs) behind) (differ_all differ (λ y. before row y) (x ∷ xs) all))
    ]

-- what one row has is had when another is put in its place: each row stands before the new one or behind it, or the new one passes too
pub any_put : {Row : Type 0} (before : Row → Row → Bool) (p : Row → Bool) (row : Row) → ((x : Row) → p x ≡ true → (before x row ≡ true) ⊎ ((before row x ≡ true) ⊎ (p row ≡ true)))
    → (xs : List Row) → list_any p xs ≡ true → list_any p (put before row xs) ≡ true
any_put {Row = Row} before p row where_it_stands xs some = elim (cases_Bool (p row)) [
  | inl is ↦ any_right p (filter (λ x. before x row) xs) _ (or_left (p row) _ is)
  | inr isnt ↦ parts xs some isnt
]
  where
    front : (xs : List Row) (x : Row) → before x row ≡ true → p x ≡ true → list_any p (x ∷ filter (λ y. before y row) xs) ≡ true
    front xs x ahead passes = or_left (p x) _ passes

    widen : (x : Row) (xs : List Row) → list_any p (filter (λ y. before y row) xs ++ row ∷ filter (λ y. before row y) xs) ≡ true
        → list_any p (filter (λ y. before y row) (x ∷ xs) ++ row ∷ filter (λ y. before row y) (x ∷ xs)) ≡ true
    widen x xs some = elim (any_parts p (filter (λ y. before y row) xs) (row ∷ filter (λ y. before row y) xs) some) [
      | inl one ↦ any_left p (filter (λ y. before y row) (x ∷ xs)) _ (cond_both (before x row) (x ∷ filter (λ y. before y row) xs) (filter (λ y. before y row) xs) (λ rows. list_any p rows ≡ true) (λ _. or_right (p x) _ one) (λ _. one))
      | inr two ↦ any_right p (filter (λ y. before y row) (x ∷ xs)) (row ∷ filter (λ y. before row y) (x ∷ xs)) (elim (or_cases (p row) _ two) [
        | inl own ↦ or_left (p row) _ own
        | inr later ↦ or_right (p row) _ (cond_both (before row x) (x ∷ filter (λ y. before row y) xs) (filter (λ y. before row y) xs) (λ rows. list_any p rows ≡ true) (λ _. or_right (p x) _ later) (λ _. later))
      ])
    ]

    parts : (xs : List Row) → list_any p xs ≡ true → p row ≡ false → list_any p (filter (λ y. before y row) xs ++ row ∷ filter (λ y. before row y) xs) ≡ true
    parts [] some isnt = absurd (cc)
    parts (x ∷ xs) some isnt = elim (or_cases (p x) (list_any p xs) some) [
      | inl here ↦ elim (where_it_stands x here) [
        | inl ahead ↦ any_left p (filter (λ y. before y row) (x ∷ xs)) _ (rw ahead (or_left (p x) _ here))
        | inr rest ↦ elim rest [
          | inl behind ↦ any_right p (filter (λ y. before y row) (x ∷ xs)) _ (or_right (p row) _ (rw behind (or_left (p x) _ here)))
          | inr own ↦ absurd (false≢true (sym isnt ∙ own))
        ]
      ]
      | inr there ↦ widen x xs (parts xs there isnt)
    ]
