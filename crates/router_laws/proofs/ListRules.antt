-- Appended and filtered lists.
use Rattle.std.proofs.Common.{◌≡◌, Bool, true, false, List, [], ◌∷◌, ◌++◌, filter, refl, sym, ◌∙◌, ap, subst, inl, inr}
use Rattle.std.specs.List.{AllByRecursion}
use Rattle.std.proofs.lemmas.Bool.{cases_Bool, cond_both, false≢true}
use Rattle.router_laws.specs.Forest.{IsIn}

pub append_nil : {X : Type 0} (xs : List X) → xs ++ [] ≡ xs
append_nil [] = refl
append_nil (x ∷ xs) = ap (λ ys. x ∷ ys) (append_nil xs)

pub append_joins : {X : Type 0} (xs ys zs : List X) → (xs ++ ys) ++ zs ≡ xs ++ (ys ++ zs)
append_joins [] ys zs = refl
append_joins (x ∷ xs) ys zs = ap (λ more. x ∷ more) (append_joins xs ys zs)

pub all_weaker : {X : Type 0} (P Q : X → Type 0) (xs : List X) → ((x : X) → P x → Q x) → AllByRecursion P xs → AllByRecursion Q xs
all_weaker P Q [] follows all = tt
all_weaker P Q (x ∷ xs) follows all = (follows x all.0, all_weaker P Q xs follows all.1)

pub all_append : {X : Type 0} (P : X → Type 0) (xs ys : List X) → AllByRecursion P xs → AllByRecursion P ys → AllByRecursion P (xs ++ ys)
all_append P [] ys one two = two
all_append P (x ∷ xs) ys one two = (one.0, all_append P xs ys one.1 two)

pub all_left : {X : Type 0} (P : X → Type 0) (xs ys : List X) → AllByRecursion P (xs ++ ys) → AllByRecursion P xs
all_left P [] ys all = tt
all_left P (x ∷ xs) ys all = (all.0, all_left P xs ys all.1)

pub all_right : {X : Type 0} (P : X → Type 0) (xs ys : List X) → AllByRecursion P (xs ++ ys) → AllByRecursion P ys
all_right P [] ys all = all
all_right P (x ∷ xs) ys all = all_right P xs ys all.1

pub all_filter : {X : Type 0} (P : X → Type 0) (p : X → Bool) (xs : List X) → AllByRecursion P xs → AllByRecursion P (filter p xs)
all_filter P p [] all = tt
all_filter P p (x ∷ xs) all =
    cond_both (p x) (x ∷ filter p xs) (filter p xs) (AllByRecursion P) (λ _. (all.0, all_filter P p xs all.1)) (λ _. all_filter P p xs all.1)

-- those that pass the first test all pass the second
pub filter_all : {X : Type 0} (p q : X → Bool) (xs : List X) → AllByRecursion (λ x. p x ≡ true → q x ≡ true) xs → filter p (filter q xs) ≡ filter p xs
filter_all p q [] all = refl
filter_all p q (x ∷ xs) all =
    let more = filter_all p q xs all.1 in
    elim (cases_Bool (q x)) [
      | inl passes ↦ rw passes (rw more refl)
      | inr fails ↦ elim (cases_Bool (p x)) [
        | inl is ↦ absurd (false≢true (sym fails ∙ all.0 is))
        | inr isnt ↦ rw (fails, isnt) more
      ]
    ]

-- those that pass the first test all fail the second
pub filter_none : {X : Type 0} (p q : X → Bool) (xs : List X) → AllByRecursion (λ x. p x ≡ true → q x ≡ false) xs → filter p (filter q xs) ≡ []
filter_none p q [] all = refl
filter_none p q (x ∷ xs) all =
    let more = filter_none p q xs all.1 in
    elim (cases_Bool (q x)) [
      | inl passes ↦ elim (cases_Bool (p x)) [
        | inl is ↦ absurd (false≢true (sym (all.0 is) ∙ passes))
        | inr isnt ↦ rw (passes, isnt) more
      ]
      | inr fails ↦ rw fails more
    ]

-- what a filter leaves was there and passes, and what was there and passes is left

in_cons : {X : Type 0} (p : X → Bool) (x y : X) (ys : List X) → (IsIn x (filter p ys) → IsIn x ys × (p x ≡ true)) → p y ≡ true → IsIn x (y ∷ filter p ys) → IsIn x (y ∷ ys) × (p x ≡ true)
in_cons p x y ys later is (inl same) = (inl same, subst (λ z. p z ≡ true) (sym same) is)
in_cons p x y ys later is (inr more) = let found = later more in (inr found.0, found.1)

pub in_filter : {X : Type 0} (p : X → Bool) (x : X) (xs : List X) → IsIn x (filter p xs) → IsIn x xs × (p x ≡ true)
in_filter p x [] there = elim there [ ]
in_filter p x (y ∷ ys) there = elim (cases_Bool (p y)) [
  | inl is ↦ in_cons p x y ys (in_filter p x ys) is (rw is at there)
  | inr isnt ↦ (let more = in_filter p x ys (rw isnt at there) in (inr more.0, more.1))
]

pub filter_in : {X : Type 0} (p : X → Bool) (x : X) (xs : List X) → IsIn x xs → p x ≡ true → IsIn x (filter p xs)
filter_in p x [] there is = elim there [ ]
filter_in p x (y ∷ ys) (inl same) is = let passes : p y ≡ true = subst (λ z. p z ≡ true) same is in rw passes (inl same)
filter_in p x (y ∷ ys) (inr more) is = elim (cases_Bool (p y)) [
  | inl passes ↦ rw passes (inr (filter_in p x ys more is))
  | inr fails ↦ rw fails (filter_in p x ys more is)
]
