-- Rows that were made part by part: those of one part are found again among those of all.
use Rattle.std.proofs.Common.{◌≡◌, ℕ, ◌<◌, ◌==◌, Bool, true, false, List, [], ◌∷◌, ◌++◌, filter, map, refl, sym, ap, ◌∙◌, subst, append_assoc, inl, inr, arith, nat_lt}
use Rattle.std.specs.Prelude.{Option, Some, None, filter_map, find, flat_map, option_map}
use Rattle.std.specs.List.{AllByRecursion, cons_option}
use Rattle.std.proofs.lemmas.Bool.{cases_Bool, eq-eqb}
use Rattle.std.proofs.lemmas.Bool.Decides.{nat_tests}
use Rattle.std.proofs.lemmas.List.{append-nil}
use Rattle.std.proofs.lemmas.List.Elements.{filter-append}
use Rattle.router_laws_snapshots.proofs.Gathering.{InPairs, option_list}

-- ---- rows of one part

pub kept_made : {V Row : Type 0} (p : Row → Bool) (make : V → Row) (vs : List V) → ((v : V) → p (make v) ≡ true) → filter p (map make vs) ≡ map make vs
kept_made p make [] each = refl
kept_made p make (v ∷ vs) each = rw (each v) (ap (λ rows. make v ∷ rows) (kept_made p make vs each))

pub left_made : {V Row : Type 0} (p : Row → Bool) (make : V → Row) (vs : List V) → ((v : V) → p (make v) ≡ false) → filter p (map make vs) ≡ []
left_made p make [] each = refl
left_made p make (v ∷ vs) each = rw (each v) (left_made p make vs each)

pub kept_option : {V Row : Type 0} (p : Row → Bool) (make : V → Row) (o : Option V) → ((v : V) → p (make v) ≡ true) → filter p (option_list (option_map make o)) ≡ option_list (option_map make o)
kept_option p make None each = refl
kept_option p make (Some v) each = rw (each v) refl

pub left_option : {V Row : Type 0} (p : Row → Bool) (make : V → Row) (o : Option V) → ((v : V) → p (make v) ≡ false) → filter p (option_list (option_map make o)) ≡ []
left_option p make None each = refl
left_option p make (Some v) each = rw (each v) refl

-- an option of each part, and those that there are
option_before : {A : Type 0} (o : Option A) (ys : List A) → cons_option o ys ≡ option_list o ++ ys
option_before None ys = refl
option_before (Some y) ys = refl

pub filter_flat : {X A : Type 0} (f : X → Option A) (xs : List X) → filter_map f xs ≡ flat_map (λ x. option_list (f x)) xs
filter_flat f [] = refl
filter_flat f (x ∷ xs) = option_before (f x) (filter_map f xs) ∙ ap (λ ys. option_list (f x) ++ ys) (filter_flat f xs)

-- where this is all that passes, it is what is found
pub found_kept : {Row : Type 0} (p : Row → Bool) (rows : List Row) (o : Option Row) → filter p rows ≡ option_list o → find p rows ≡ o
found_kept p [] None same = refl
found_kept p [] (Some r) same = absurd (cc)
found_kept {Row} p (row ∷ rows) o same = elim (cases_Bool (p row)) [
  | inl is ↦ rw is (first row (filter p rows) o (rw is at same))
  | inr isnt ↦ rw isnt (found_kept p rows o (rw isnt at same))
]
  where
    first : (row : Row) (more : List Row) (o : Option Row) → row ∷ more ≡ option_list o → Some row ≡ o
    first row more None same = absurd (cc)
    first row more (Some r) same = cc

-- ---- numbers

pub same_number : (n : ℕ) → (n == n) ≡ true
same_number n = eq-eqb n n refl

pub less_apart : (a b : ℕ) → a < b → (a == b) ≡ false
less_apart a b less = grind (arith, nat_tests)

pub more_apart : (a b : ℕ) → a < b → (b == a) ≡ false
more_apart a b less = grind (arith, nat_tests)

-- ---- rows of all parts

module _ {X Row : Type 0} (give : X → List Row) (passes : X → Row → Bool) (R : X → X → Type 0)
    (own : (x : X) → filter (passes x) (give x) ≡ give x)
    (later : (x y : X) → R x y → filter (passes x) (give y) ≡ [])
    (earlier : (x y : X) → R x y → filter (passes y) (give x) ≡ []) where
  none_later : (x : X) (xs : List X) → AllByRecursion (R x) xs → filter (passes x) (flat_map give xs) ≡ []
  none_later x [] all = refl
  none_later x (y ∷ ys) all = filter-append (passes x) (give y) (flat_map give ys) ∙ rw (later x y all.0, none_later x ys all.1) refl

  none_earlier : (before : List Row) (x : X) (xs : List X) → AllByRecursion (R x) xs → AllByRecursion (λ y. filter (passes y) before ≡ []) xs → AllByRecursion (λ y. filter (passes y) (before ++ give x) ≡ []) xs
  none_earlier before x [] all none = tt
  none_earlier before x (y ∷ ys) all none = (filter-append (passes y) before (give x) ∙ rw (none.0, earlier x y all.0) refl, none_earlier before x ys all.1 none.1)

  owned : (before : List Row) (xs : List X) → InPairs R xs → AllByRecursion (λ x. filter (passes x) before ≡ []) xs → AllByRecursion (λ x. filter (passes x) (before ++ flat_map give xs) ≡ give x) xs
  owned before [] order none = tt
  owned before (x ∷ xs) order none = (
    filter-append (passes x) before (give x ++ flat_map give xs) ∙ rw none.0 (filter-append (passes x) (give x) (flat_map give xs) ∙ rw (own x, none_later x xs order.0) (append-nil (give x))),
    subst (λ rows. AllByRecursion (λ y. filter (passes y) rows ≡ give y) xs) (append_assoc before (give x) (flat_map give xs)) (owned (before ++ give x) xs order.1 (none_earlier before x xs order.0 none.1)),
  )

  none_yet : (xs : List X) → AllByRecursion (λ x. filter (passes x) [] ≡ []) xs
  none_yet [] = tt
  none_yet (x ∷ xs) = (refl, none_yet xs)

  pub own_rows : (xs : List X) → InPairs R xs → AllByRecursion (λ x. filter (passes x) (flat_map give xs) ≡ give x) xs
  own_rows xs order = owned [] xs order (none_yet xs)

-- rows that have the number of their part
pub own_numbered : {X V Row : Type 0} (number : X → ℕ) (items : X → List V) (owner : Row → ℕ) (make : ℕ → V → Row) → ((k : ℕ) (v : V) → owner (make k v) ≡ k) → (xs : List X) → InPairs (λ x y. number x < number y) xs
    → AllByRecursion (λ x. filter (λ row. owner row == number x) (flat_map (λ x. map (make (number x)) (items x)) xs) ≡ map (make (number x)) (items x)) xs
own_numbered number items owner make owns xs order =
    own_rows (λ x. map (make (number x)) (items x)) (λ x row. owner row == number x) (λ x y. number x < number y)
    (λ x. kept_made (λ row. owner row == number x) (make (number x)) (items x) (λ v. rw (owns (number x) v) (same_number (number x))))
    (λ x y less. left_made (λ row. owner row == number x) (make (number y)) (items y) (λ v. rw (owns (number y) v) (more_apart (number x) (number y) less)))
    (λ x y less. left_made (λ row. owner row == number y) (make (number x)) (items x) (λ v. rw (owns (number x) v) (less_apart (number x) (number y) less)))
    xs order

-- a row at most of each part
pub own_option : {X V Row : Type 0} (number : X → ℕ) (item : X → Option V) (owner : Row → ℕ) (make : ℕ → V → Row) → ((k : ℕ) (v : V) → owner (make k v) ≡ k) → (xs : List X) → InPairs (λ x y. number x < number y) xs
    → AllByRecursion (λ x. find (λ row. owner row == number x) (filter_map (λ x. option_map (make (number x)) (item x)) xs) ≡ option_map (make (number x)) (item x)) xs
own_option {X} number item owner make owns xs order =
    found_each xs
    (own_rows (λ x. option_list (option_map (make (number x)) (item x))) (λ x row. owner row == number x) (λ x y. number x < number y)
    (λ x. kept_option (λ row. owner row == number x) (make (number x)) (item x) (λ v. rw (owns (number x) v) (same_number (number x))))
    (λ x y less. left_option (λ row. owner row == number x) (make (number y)) (item y) (λ v. rw (owns (number y) v) (more_apart (number x) (number y) less)))
    (λ x y less. left_option (λ row. owner row == number y) (make (number x)) (item x) (λ v. rw (owns (number x) v) (less_apart (number x) (number y) less)))
    xs order)
  where
    found_each : (ys : List X) → AllByRecursion (λ x. filter (λ row. owner row == number x) (flat_map (λ x. option_list (option_map (make (number x)) (item x))) xs) ≡ option_list (option_map (make (number x)) (item x))) ys
        → AllByRecursion (λ x. find (λ row. owner row == number x) (filter_map (λ x. option_map (make (number x)) (item x)) xs) ≡ option_map (make (number x)) (item x)) ys
    found_each [] all = tt
    found_each (y ∷ ys) all = (
      found_kept (λ row. owner row == number y) (filter_map (λ x. option_map (make (number x)) (item x)) xs) (option_map (make (number y)) (item y))
          (ap (λ rows. filter (λ row. owner row == number y) rows) (filter_flat (λ x. option_map (make (number x)) (item x)) xs) ∙ all.0),
      found_each ys all.1,
    )

-- ---- parts that stand in order

-- so to each other stand the parts of which rows were made that do
pub pairs_of_parts : {X Y : Type 0} (f : X → Y) (R : Y → Y → Type 0) (xs : List X) → InPairs R (map f xs) → InPairs (λ x y. R (f x) (f y)) xs
pairs_of_parts f R [] order = tt
pairs_of_parts {X} f R (x ∷ xs) order = (all_of xs order.0, pairs_of_parts f R xs order.1)
  where
    all_of : (ys : List X) → AllByRecursion (R (f x)) (map f ys) → AllByRecursion (λ y. R (f x) (f y)) ys
    all_of [] all = tt
    all_of (y ∷ ys) all = (all.0, all_of ys all.1)
