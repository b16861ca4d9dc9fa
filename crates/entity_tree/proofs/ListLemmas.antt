-- What filters leave of a list.
use Rattle.std.proofs.Common.{◌≡◌, Bool, true, false, List, [], ◌∷◌, ◌++◌, map, cond, refl, ap, ◌∙◌, arith, inl, inr}
use Rattle.std.specs.Prelude.{◌&&◌, ◌||◌, nat_lt, length}
use Rattle.std.specs.List.{AllByRecursion, filter, list_all, list_any}
use Rattle.std.proofs.lemmas.Bool.{cases_Bool, cond_both, and_parts}
use Rattle.std.proofs.lemmas.Bool.Decides.{nat_tests}
use Rattle.std.proofs.lemmas.List.Elements.{filter-append}
use Rattle.rows_sorted.specs.Orders.{put}

pub and_true : (b : Bool) → (b && true) ≡ b
and_true true = refl
and_true false = refl

pub or_right : (a b : Bool) → b ≡ true → (a || b) ≡ true
or_right true b is = refl
or_right false b is = is

pub all_two : {X : Type 0} (P Q R : X → Type 0) → ((x : X) → P x → Q x → R x) → (xs : List X) → AllByRecursion P xs → AllByRecursion Q xs → AllByRecursion R xs
all_two P Q R follows [] ps qs = tt
all_two P Q R follows (x ∷ xs) ps qs = (follows x ps.0 qs.0, all_two P Q R follows xs ps.1 qs.1)

pub all_joined : {X : Type 0} (P : X → Type 0) (xs ys : List X) → AllByRecursion P xs → AllByRecursion P ys → AllByRecursion P (xs ++ ys)
all_joined P [] ys all also = also
all_joined P (x ∷ xs) ys all also = (all.0, all_joined P xs ys all.1 also)

pub all_front : {X : Type 0} (P : X → Type 0) (xs ys : List X) → AllByRecursion P (xs ++ ys) → AllByRecursion P xs
all_front P [] ys all = tt
all_front P (x ∷ xs) ys all = (all.0, all_front P xs ys all.1)

pub all_back : {X : Type 0} (P : X → Type 0) (xs ys : List X) → AllByRecursion P (xs ++ ys) → AllByRecursion P ys
all_back P [] ys all = all
all_back P (x ∷ xs) ys all = all_back P xs ys all.1

-- what follows of those that pass holds of all that a filter leaves
pub all_filtered : {X : Type 0} (q : X → Bool) (P : X → Type 0) (xs : List X) → AllByRecursion (λ x. q x ≡ true → P x) xs → AllByRecursion P (filter q xs)
all_filtered q P [] all = tt
all_filtered q P (x ∷ xs) all =
    cond_both (q x) (x ∷ filter q xs) (filter q xs) (AllByRecursion P) (λ passes. (all.0 passes, all_filtered q P xs all.1)) (λ _. all_filtered q P xs all.1)

pub all_mapped : {X Y : Type 0} (f : X → Y) (P : Y → Type 0) (xs : List X) → AllByRecursion (λ x. P (f x)) xs → AllByRecursion P (map f xs)
all_mapped f P [] all = tt
all_mapped f P (x ∷ xs) all = (all.0, all_mapped f P xs all.1)

pub all_of_any : {X : Type 0} (P : X → Type 0) → ((x : X) → P x) → (xs : List X) → AllByRecursion P xs
all_of_any P any [] = tt
all_of_any P any (x ∷ xs) = (any x, all_of_any P any xs)

pub all_tested : {X : Type 0} (p : X → Bool) (xs : List X) → list_all p xs ≡ true → AllByRecursion (λ x. p x ≡ true) xs
all_tested p [] all = tt
all_tested p (x ∷ xs) all = let parts = and_parts (p x) (list_all p xs) all in (parts.0, all_tested p xs parts.1)

-- one passes where something is left
pub some_left : {X : Type 0} (p : X → Bool) (xs : List X) → list_any p xs ≡ nat_lt 0 (length (filter p xs))
some_left p [] = refl
some_left p (x ∷ xs) = elim (cases_Bool (p x)) [
  | inl goes ↦ rw goes (grind (arith, nat_tests))
  | inr stays ↦ rw stays (some_left p xs)
]

pub filter_all : {X : Type 0} (p : X → Bool) (xs : List X) → AllByRecursion (λ x. p x ≡ true) xs → filter p xs ≡ xs
filter_all p [] all = refl
filter_all p (x ∷ xs) all = rw all.0 (ap (λ rest. x ∷ rest) (filter_all p xs all.1))

pub filter_none : {X : Type 0} (p : X → Bool) (xs : List X) → AllByRecursion (λ x. p x ≡ false) xs → filter p xs ≡ []
filter_none p [] all = refl
filter_none p (x ∷ xs) all = rw all.0 (filter_none p xs all.1)

pub none_left : {X : Type 0} (p : X → Bool) (xs : List X) → filter p xs ≡ [] → AllByRecursion (λ x. p x ≡ false) xs
none_left p [] none = tt
none_left p (x ∷ xs) none = elim (cases_Bool (p x)) [
  | inl goes ↦ let wrong : x ∷ filter p xs ≡ [] = rw goes at none in absurd (cc)
  | inr stays ↦ (stays, none_left p xs (rw stays at none))
]

pub filter_agree : {X : Type 0} (p q : X → Bool) (xs : List X) → AllByRecursion (λ x. p x ≡ q x) xs → filter p xs ≡ filter q xs
filter_agree p q [] all = refl
filter_agree p q (x ∷ xs) all = rw all.0 (ap (λ rest. cond (q x) (x ∷ rest) rest) (filter_agree p q xs all.1))

pub filter_swap : {X : Type 0} (p q : X → Bool) (xs : List X) → filter p (filter q xs) ≡ filter q (filter p xs)
filter_swap p q [] = refl
filter_swap p q (x ∷ xs) = elim (cases_Bool (p x)) [
  | inl goes ↦ elim (cases_Bool (q x)) [
    | inl also ↦ rw (also, goes, also) (ap (λ rest. x ∷ rest) (filter_swap p q xs))
    | inr other ↦ rw (other, goes, other) (filter_swap p q xs)
  ]
  | inr stays ↦ elim (cases_Bool (q x)) [
    | inl also ↦ rw (also, stays) (filter_swap p q xs)
    | inr other ↦ rw (other, stays) (filter_swap p q xs)
  ]
]

pub filter_of_map : {X Y : Type 0} (p : Y → Bool) (f : X → Y) (xs : List X) → filter p (map f xs) ≡ map f (filter (λ x. p (f x)) xs)
filter_of_map p f [] = refl
filter_of_map p f (x ∷ xs) = elim (cases_Bool (p (f x))) [
  | inl goes ↦ rw goes (ap (λ rest. f x ∷ rest) (filter_of_map p f xs))
  | inr stays ↦ rw stays (filter_of_map p f xs)
]

-- a filter of a list into which a row was put
pub put_filtered : {X : Type 0} (before : X → X → Bool) (p : X → Bool) (x : X) (xs : List X)
    → filter p (put before x xs) ≡ filter (λ y. before y x) (filter p xs) ++ (cond (p x) (x ∷ []) [] ++ filter (λ y. before x y) (filter p xs))
put_filtered before p x xs = elim (cases_Bool (p x)) [
  | inl goes ↦ filter-append p (filter (λ y. before y x) xs) (x ∷ filter (λ y. before x y) xs) ∙ (rw (goes, filter_swap p (λ y. before y x) xs, filter_swap p (λ y. before x y) xs) refl)
  | inr stays ↦ filter-append p (filter (λ y. before y x) xs) (x ∷ filter (λ y. before x y) xs) ∙ (rw (stays, filter_swap p (λ y. before y x) xs, filter_swap p (λ y. before x y) xs) refl)
]
