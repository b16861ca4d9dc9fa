-- What is found in a list after a row was put in its place, or after rows were taken out.
use Rattle.std.proofs.Common.{◌≡◌, Bool, true, false, List, [], ◌∷◌, ◌++◌, refl, ap, sym, ◌∙◌, inl, inr}
use Rattle.std.specs.Prelude.{not, ◌||◌, Option, Some, None}
use Rattle.std.specs.List.{filter, find, list_any}
use Rattle.std.specs.Option.{option_or}
use Rattle.std.proofs.lemmas.Bool.{cases_Bool}
use Rattle.std.proofs.lemmas.List.Folds.{find-append}
use Rattle.std.proofs.lemmas.List.Elements.{filter-append}
use Rattle.rows_sorted.specs.Orders.{put}

or_true : (b : Bool) → (b || true) ≡ true
or_true true = refl
or_true false = refl

or_false : (b : Bool) → (b || false) ≡ b
or_false true = refl
or_false false = refl

pub any_joined : {X : Type 0} (q : X → Bool) (xs ys : List X) → list_any q (xs ++ ys) ≡ (list_any q xs || list_any q ys)
any_joined q [] ys = refl
any_joined q (x ∷ xs) ys = elim (cases_Bool (q x)) [
  | inl mine ↦ rw mine refl
  | inr other ↦ rw other (any_joined q xs ys)
]

-- all that are looked for are left
pub any_kept : {X : Type 0} (q p : X → Bool) → ((x : X) → q x ≡ true → p x ≡ true) → (xs : List X) → list_any q (filter p xs) ≡ list_any q xs
any_kept q p keeps [] = refl
any_kept q p keeps (x ∷ xs) = elim (cases_Bool (q x)) [
  | inl mine ↦ rw (keeps x mine, mine) refl
  | inr other ↦ elim (cases_Bool (p x)) [
    | inl goes ↦ rw (goes, other) (any_kept q p keeps xs)
    | inr stays ↦ rw (stays, other) (any_kept q p keeps xs)
  ]
]

-- none that are looked for are left
pub any_lost : {X : Type 0} (q p : X → Bool) → ((x : X) → q x ≡ true → p x ≡ false) → (xs : List X) → list_any q (filter p xs) ≡ false
any_lost q p loses [] = refl
any_lost q p loses (x ∷ xs) = elim (cases_Bool (p x)) [
  | inl goes ↦ elim (cases_Bool (q x)) [
    | inl mine ↦ absurd (let wrong : true ≡ false = sym goes ∙ loses x mine in cc)
    | inr other ↦ rw (goes, other) (any_lost q p loses xs)
  ]
  | inr stays ↦ rw stays (any_lost q p loses xs)
]

any_parted : {X : Type 0} (q a b : X → Bool) → ((x : X) → q x ≡ true → (a x || b x) ≡ true) → (xs : List X) → (list_any q (filter a xs) || list_any q (filter b xs)) ≡ list_any q xs
any_parted q a b covers [] = refl
any_parted q a b covers (x ∷ xs) = elim (cases_Bool (q x)) [
  | inl mine ↦ elim (cases_Bool (a x)) [
    | inl goes ↦ rw (goes, mine) refl
    | inr stays ↦ let second : b x ≡ true = (rw stays at (covers x mine)) in rw (stays, second, mine) (or_true (list_any q (filter a xs)))
  ]
  | inr other ↦ elim (cases_Bool (a x)) [
    | inl goes ↦ elim (cases_Bool (b x)) [
      | inl also ↦ rw (goes, also, other) (any_parted q a b covers xs)
      | inr not_so ↦ rw (goes, not_so, other) (any_parted q a b covers xs)
    ]
    | inr stays ↦ elim (cases_Bool (b x)) [
      | inl also ↦ rw (stays, also, other) (any_parted q a b covers xs)
      | inr not_so ↦ rw (stays, not_so, other) (any_parted q a b covers xs)
    ]
  ]
]

-- the row that was put is looked for
pub any_put_own : {X : Type 0} (before : X → X → Bool) (q : X → Bool) (row : X) (xs : List X) → q row ≡ true → list_any q (put before row xs) ≡ true
any_put_own before q row xs mine =
    any_joined q (filter (λ other. before other row) xs) (row ∷ filter (λ other. before row other) xs)
    ∙ (rw mine (or_true (list_any q (filter (λ other. before other row) xs))))

-- another one is, and those that are looked for stand elsewhere
pub any_put_other : {X : Type 0} (before : X → X → Bool) (q : X → Bool) (row : X) (xs : List X) → q row ≡ false → ((x : X) → q x ≡ true → (before x row || before row x) ≡ true)
    → list_any q (put before row xs) ≡ list_any q xs
any_put_other before q row xs other apart =
    any_joined q (filter (λ x. before x row) xs) (row ∷ filter (λ x. before row x) xs)
    ∙ (rw other (any_parted q (λ x. before x row) (λ x. before row x) apart xs))

-- what is looked for passes the filter
pub find_kept : {X : Type 0} (q p : X → Bool) → ((x : X) → q x ≡ true → p x ≡ true) → (xs : List X) → find q (filter p xs) ≡ find q xs
find_kept q p keeps [] = refl
find_kept q p keeps (x ∷ xs) = elim (cases_Bool (q x)) [
  | inl mine ↦ rw (keeps x mine, mine) refl
  | inr other ↦ elim (cases_Bool (p x)) [
    | inl goes ↦ rw (goes, other) (find_kept q p keeps xs)
    | inr stays ↦ rw (stays, other) (find_kept q p keeps xs)
  ]
]

-- what is looked for doesn't pass the filter
pub find_lost : {X : Type 0} (q p : X → Bool) → ((x : X) → q x ≡ true → p x ≡ false) → (xs : List X) → find q (filter p xs) ≡ None
find_lost q p loses [] = refl
find_lost q p loses (x ∷ xs) = elim (cases_Bool (p x)) [
  | inl goes ↦ elim (cases_Bool (q x)) [
    | inl mine ↦ absurd (let wrong : true ≡ false = sym goes ∙ loses x mine in cc)
    | inr other ↦ rw (goes, other) (find_lost q p loses xs)
  ]
  | inr stays ↦ rw stays (find_lost q p loses xs)
]

or_none : {X : Type 0} (o : Option X) → option_or o None ≡ o
or_none None = refl
or_none (Some x) = refl

-- the row that was put is looked for, and no other one is before it
pub find_put_own : {X : Type 0} (before : X → X → Bool) (q : X → Bool) (row : X) (xs : List X) → q row ≡ true → ((x : X) → q x ≡ true → before x row ≡ false) → find q (put before row xs) ≡ Some row
find_put_own before q row xs mine none =
    find-append q (filter (λ x. before x row) xs) (row ∷ filter (λ x. before row x) xs)
    ∙ (rw (find_lost q (λ x. before x row) none xs, mine) refl)

-- another one was put, behind those that are looked for
pub find_put_behind : {X : Type 0} (before : X → X → Bool) (q : X → Bool) (row : X) (xs : List X) → q row ≡ false → ((x : X) → q x ≡ true → before x row ≡ true) → ((x : X) → q x ≡ true → before row x ≡ false)
    → find q (put before row xs) ≡ find q xs
find_put_behind before q row xs other all none =
    find-append q (filter (λ x. before x row) xs) (row ∷ filter (λ x. before row x) xs)
    ∙ (rw (find_kept q (λ x. before x row) all xs, other, find_lost q (λ x. before row x) none xs) (or_none (find q xs)))

-- another one was put, before those that are looked for
pub find_put_before : {X : Type 0} (before : X → X → Bool) (q : X → Bool) (row : X) (xs : List X) → q row ≡ false → ((x : X) → q x ≡ true → before x row ≡ false) → ((x : X) → q x ≡ true → before row x ≡ true)
    → find q (put before row xs) ≡ find q xs
find_put_before before q row xs other none all =
    find-append q (filter (λ x. before x row) xs) (row ∷ filter (λ x. before row x) xs)
    ∙ (rw (find_lost q (λ x. before x row) none xs, other, find_kept q (λ x. before row x) all xs) refl)

-- another one was put, and those that are looked for all stand on one side of it
pub find_put_other : {X : Type 0} (before : X → X → Bool) (q : X → Bool) (row : X) (xs : List X) (first second : Bool) → q row ≡ false → first ≡ not second
    → ((x : X) → q x ≡ true → before x row ≡ first) → ((x : X) → q x ≡ true → before row x ≡ second) → find q (put before row xs) ≡ find q xs
find_put_other before q row xs first true other one ahead behind = find_put_before before q row xs other (λ x mine. ahead x mine ∙ one) behind
find_put_other before q row xs first false other one ahead behind = find_put_behind before q row xs other (λ x mine. ahead x mine ∙ one) behind
