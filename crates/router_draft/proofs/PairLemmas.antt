-- Lists of rows that stand by two numbers: what is read under the first of them.
use Rattle.std.proofs.Common.{◌≡◌, ℕ, ◌<◌, ◌==◌, Bool, true, false, List, [], ◌∷◌, ◌++◌, refl, sym, ap, ◌∙◌, arith, inl, inr, nat_lt}
use Rattle.std.specs.Prelude.{filter, map}
use Rattle.std.proofs.lemmas.Bool.{cases_Bool}
use Rattle.std.proofs.lemmas.Bool.Decides.{nat_tests}
use Rattle.std.proofs.lemmas.List.{map-append}
use Rattle.std.proofs.lemmas.List.Elements.{filter-append}
use Rattle.rows_sorted.specs.Orders.{put, pair_before}

-- all that are looked for pass
pub kept_all : {X : Type 0} (q p : X → Bool) → ((x : X) → q x ≡ true → p x ≡ true) → (xs : List X) → filter q (filter p xs) ≡ filter q xs
kept_all q p keeps [] = refl
kept_all q p keeps (x ∷ xs) = elim (cases_Bool (q x)) [
  | inl mine ↦ rw (keeps x mine, mine) (ap (λ more. x ∷ more) (kept_all q p keeps xs))
  | inr other ↦ elim (cases_Bool (p x)) [
    | inl goes ↦ rw (goes, other) (kept_all q p keeps xs)
    | inr stays ↦ rw (stays, other) (kept_all q p keeps xs)
  ]
]

-- none that are looked for pass
pub kept_none : {X : Type 0} (q p : X → Bool) → ((x : X) → q x ≡ true → p x ≡ false) → (xs : List X) → filter q (filter p xs) ≡ []
kept_none q p loses [] = refl
kept_none q p loses (x ∷ xs) = elim (cases_Bool (p x)) [
  | inl goes ↦ elim (cases_Bool (q x)) [
    | inl mine ↦ absurd (let wrong : true ≡ false = sym goes ∙ loses x mine in cc)
    | inr other ↦ rw (goes, other) (kept_none q p loses xs)
  ]
  | inr stays ↦ rw stays (kept_none q p loses xs)
]

number_same : (a b : ℕ) → (a == b) ≡ true → a ≡ b
number_same a b is = grind (arith, nat_tests)

low_itself : (a b d : ℕ) → pair_before a b a d ≡ nat_lt b d
low_itself a b d = grind (arith, nat_tests)

low_first : (a b c d : ℕ) → a < c → pair_before a b c d ≡ true
low_first a b c d low = grind (arith, nat_tests, low)

high_first : (a b c d : ℕ) → c < a → pair_before a b c d ≡ false
high_first a b c d high = grind (arith, nat_tests, high)

module _ {Row : Type 0} (f g : Row → ℕ) where
  -- by the first number, then by the second
  abbrev pub before : Row → Row → Bool
  before x y = pair_before (f x) (g x) (f y) (g y)

  -- the second numbers of the rows with this first one
  abbrev pub seconds : ℕ → List Row → List ℕ
  seconds a rows = map g (filter (λ x. f x == a) rows)

  ahead : (a : ℕ) (row : Row) → (f row == a) ≡ true → (xs : List Row) → map g (filter (λ x. f x == a) (filter (λ x. before x row) xs)) ≡ filter (λ b. nat_lt b (g row)) (seconds a xs)
  ahead a row own [] = refl
  ahead a row own (x ∷ xs) = elim (cases_Bool (f x == a)) [
    | inl mine ↦
        let same : f x ≡ f row = number_same (f x) a mine ∙ sym (number_same (f row) a own) in
        let is : before x row ≡ nat_lt (g x) (g row) = ap (λ n. pair_before n (g x) (f row) (g row)) same ∙ low_itself (f row) (g x) (g row) in
        elim (cases_Bool (nat_lt (g x) (g row))) [
          | inl low ↦ let first = is ∙ low in rw (mine, first, mine, low) (ap (λ more. g x ∷ more) (ahead a row own xs))
          | inr high ↦ let last = is ∙ high in rw (mine, last, high) (ahead a row own xs)
        ]
    | inr other ↦ elim (cases_Bool (before x row)) [
      | inl first ↦ rw (first, other) (ahead a row own xs)
      | inr last ↦ rw (last, other) (ahead a row own xs)
    ]
  ]

  behind : (a : ℕ) (row : Row) → (f row == a) ≡ true → (xs : List Row) → map g (filter (λ x. f x == a) (filter (λ x. before row x) xs)) ≡ filter (λ b. nat_lt (g row) b) (seconds a xs)
  behind a row own [] = refl
  behind a row own (x ∷ xs) = elim (cases_Bool (f x == a)) [
    | inl mine ↦
        let same : f x ≡ f row = number_same (f x) a mine ∙ sym (number_same (f row) a own) in
        let is : before row x ≡ nat_lt (g row) (g x) = ap (λ n. pair_before (f row) (g row) n (g x)) same ∙ low_itself (f row) (g row) (g x) in
        elim (cases_Bool (nat_lt (g row) (g x))) [
          | inl low ↦ let first = is ∙ low in rw (mine, first, mine, low) (ap (λ more. g x ∷ more) (behind a row own xs))
          | inr high ↦ let last = is ∙ high in rw (mine, last, high) (behind a row own xs)
        ]
    | inr other ↦ elim (cases_Bool (before row x)) [
      | inl first ↦ rw (first, other) (behind a row own xs)
      | inr last ↦ rw (last, other) (behind a row own xs)
    ]
  ]

  -- a row with this first number was put
  pub put_own : (a : ℕ) (row : Row) (xs : List Row) → (f row == a) ≡ true → seconds a (put before row xs) ≡ put nat_lt (g row) (seconds a xs)
  put_own a row xs own =
      let mine : Row → Bool = λ x. f x == a in
      let first = filter (λ x. before x row) xs in
      let last = filter (λ x. before row x) xs in
      let split : filter mine (first ++ row ∷ last) ≡ filter mine first ++ row ∷ filter mine last = filter-append mine first (row ∷ last) ∙ (rw own refl) in
      ap (map g) split ∙ map-append g (filter mine first) (row ∷ filter mine last) ∙ (rw (ahead a row own xs, behind a row own xs) refl)

  one_side : (a : ℕ) (row : Row) (xs : List Row) → (f row == a) ≡ false → filter (λ x. f x == a) (filter (λ x. before x row) xs) ++ filter (λ x. f x == a) (filter (λ x. before row x) xs) ≡ filter (λ x. f x == a) xs
  one_side a row xs apart = elim (cases_Bool (nat_lt a (f row))) [
    | inl low ↦
        let less : a < f row = grind (arith, nat_tests, low) in
        rw (
          kept_all (λ x. f x == a) (λ x. before x row) (λ x mine. low_first (f x) (g x) (f row) (g row) (omega (arith, less, number_same (f x) a mine))) xs,
          kept_none (λ x. f x == a) (λ x. before row x) (λ x mine. high_first (f row) (g row) (f x) (g x) (omega (arith, less, number_same (f x) a mine))) xs,
        ) (nothing_behind (filter (λ x. f x == a) xs))
    | inr high ↦
        let more : f row < a = grind (arith, nat_tests, high, apart) in
        rw (
          kept_none (λ x. f x == a) (λ x. before x row) (λ x mine. high_first (f x) (g x) (f row) (g row) (omega (arith, more, number_same (f x) a mine))) xs,
          kept_all (λ x. f x == a) (λ x. before row x) (λ x mine. low_first (f row) (g row) (f x) (g x) (omega (arith, more, number_same (f x) a mine))) xs,
        ) refl
  ]
    where
      nothing_behind : (ys : List Row) → ys ++ [] ≡ ys
      nothing_behind [] = refl
      nothing_behind (y ∷ ys) = ap (λ more. y ∷ more) (nothing_behind ys)

  -- another one was
  pub put_other : (a : ℕ) (row : Row) (xs : List Row) → (f row == a) ≡ false → seconds a (put before row xs) ≡ seconds a xs
  put_other a row xs apart =
      let mine : Row → Bool = λ x. f x == a in
      let first = filter (λ x. before x row) xs in
      let last = filter (λ x. before row x) xs in
      let split : filter mine (first ++ row ∷ last) ≡ filter mine first ++ filter mine last = filter-append mine first (row ∷ last) ∙ (rw apart refl) in
      ap (map g) (split ∙ one_side a row xs apart)
