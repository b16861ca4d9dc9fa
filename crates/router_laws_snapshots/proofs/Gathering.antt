-- Rows that rise by key come back where those of each key are gathered, key by key.
use Rattle.std.proofs.Common.{◌≡◌, Bool, true, false, not, List, [], ◌∷◌, ◌++◌, filter, map, refl, sym, ap, ◌∙◌, subst, ◌⊎◌, inl, inr}
use Rattle.std.specs.Prelude.{flat_map, filter_map, find, Option, Some, None}
use Rattle.std.specs.List.{AllByRecursion, cons_option}
use Rattle.std.proofs.lemmas.Option.{same_Some}
use Rattle.std.proofs.lemmas.Bool.{cases_Bool, cond_both, false≢true, false_from_ne_true, and_parts}
use Rattle.rows_sorted.specs.Orders.{rises_by}

-- the key stands in the list
abbrev pub IsAmong : {K : Type 0} → K → List K → Type 0
IsAmong k [] = ⊥
IsAmong k (j ∷ ks) = (k ≡ j) ⊎ IsAmong k ks

-- each stands so to each later one
abbrev pub InPairs : {A : Type 0} → (A → A → Type 0) → List A → Type 0
InPairs R [] = Unit {0}
InPairs R (x ∷ xs) = AllByRecursion (R x) xs × InPairs R xs

pub all_weaker : {A : Type 0} (P Q : A → Type 0) (xs : List A) → ((x : A) → P x → Q x) → AllByRecursion P xs → AllByRecursion Q xs
all_weaker P Q [] follows all = tt
all_weaker P Q (x ∷ xs) follows all = (follows x all.0, all_weaker P Q xs follows all.1)

all_filter : {A : Type 0} (P : A → Type 0) (p : A → Bool) (xs : List A) → AllByRecursion P xs → AllByRecursion P (filter p xs)
all_filter P p [] all = tt
all_filter P p (x ∷ xs) all =
    cond_both (p x) (x ∷ filter p xs) (filter p xs) (AllByRecursion P) (λ _. (all.0, all_filter P p xs all.1)) (λ _. all_filter P p xs all.1)

pairs_filter : {A : Type 0} (R : A → A → Type 0) (p : A → Bool) (xs : List A) → InPairs R xs → InPairs R (filter p xs)
pairs_filter R p [] all = tt
pairs_filter R p (x ∷ xs) all =
    cond_both (p x) (x ∷ filter p xs) (filter p xs) (InPairs R) (λ _. (all_filter (R x) p xs all.0, pairs_filter R p xs all.1)) (λ _. pairs_filter R p xs all.1)

pub among_all : {K : Type 0} (P : K → Type 0) (k : K) (ks : List K) → IsAmong k ks → AllByRecursion P ks → P k
among_all P k [] among all = absurd among
among_all P k (j ∷ ks) among all = elim among [
  | inl same ↦ subst P (sym same) all.0
  | inr more ↦ among_all P k ks more all.1
]

-- what all fail
filter_out : {A : Type 0} (p : A → Bool) (xs : List A) → AllByRecursion (λ x. p x ≡ false) xs → filter p xs ≡ []
filter_out p [] all = refl
filter_out p (x ∷ xs) all = rw all.0 (filter_out p xs all.1)

keep_all : {A : Type 0} (p : A → Bool) (xs : List A) → AllByRecursion (λ x. p x ≡ false) xs → filter (λ x. not (p x)) xs ≡ xs
keep_all p [] all = refl
keep_all p (x ∷ xs) all = rw all.0 (ap (λ ys. x ∷ ys) (keep_all p xs all.1))

-- of what passes the first test none passes the second
filter_kept : {A : Type 0} (p q : A → Bool) (xs : List A) → AllByRecursion (λ x. p x ≡ true → q x ≡ false) xs → filter p (filter (λ x. not (q x)) xs) ≡ filter p xs
filter_kept p q [] all = refl
filter_kept p q (x ∷ xs) all =
    let more = filter_kept p q xs all.1 in
    elim (cases_Bool (q x)) [
      | inl passes ↦ elim (cases_Bool (p x)) [
        | inl is ↦ absurd (false≢true (sym (all.0 is) ∙ passes))
        | inr isnt ↦ rw (passes, isnt) more
      ]
      | inr fails ↦ rw fails (elim (cases_Bool (p x)) [
        | inl is ↦ rw is (ap (λ ys. x ∷ ys) more)
        | inr isnt ↦ rw isnt more
      ])
    ]

-- keys of rows: which rows have a key, and how keys stand to each other
pub record IsKeyed {K Row : Type 0} (key : Row → K) (same : K → Row → Bool) (below : K → K → Type 0) : Type 0 where
  pub found : (k : K) (row : Row) → same k row ≡ true → key row ≡ k
  pub own : (row : Row) → same (key row) row ≡ true
  pub apart : (k : K) → below k k → ⊥

-- the second row's key isn't below that of the first
abbrev pub IsUpTo : {K Row : Type 0} → (Row → K) → (K → K → Type 0) → Row → Row → Type 0
IsUpTo key below x y = below (key y) (key x) → ⊥

module _ {K Row : Type 0} (key : Row → K) (same : K → Row → Bool) (below : K → K → Type 0) (keyed : IsKeyed key same below) where
  other_key : (k : K) (row : Row) → (key row ≡ k → ⊥) → same k row ≡ false
  other_key k row other = false_from_ne_true (same k row) (λ is. other (keyed.found k row is))

  -- rows of the least key stand first
  split : (k : K) (ks : List K) (rows : List Row) → AllByRecursion (below k) ks → InPairs (IsUpTo key below) rows → AllByRecursion (λ row. IsAmong (key row) (k ∷ ks)) rows
      → rows ≡ filter (same k) rows ++ filter (λ row. not (same k row)) rows
  split k ks [] least order among = refl
  split k ks (row ∷ rows) least order among = elim among.0 [
    | inl is ↦ (let one : same k row ≡ true = subst (λ j. same j row ≡ true) is (keyed.own row) in rw one (ap (λ ys. row ∷ ys) (split k ks rows least order.1 among.1)))
    | inr later ↦ (
        let above : below k (key row) = among_all (below k) (key row) ks later least in
        let none : same k row ≡ false = other_key k row (λ is. keyed.apart k (subst (below k) is above)) in
        let nones : AllByRecursion (λ y. same k y ≡ false) rows = all_weaker (IsUpTo key below row) (λ y. same k y ≡ false) rows (λ y upto. other_key k y (λ is. upto (subst (λ j. below j (key row)) (sym is) above))) order.0 in
        rw (none, filter_out (same k) rows nones, keep_all (same k) rows nones) refl)
  ]

  others : (k : K) (ks : List K) (rows : List Row) → AllByRecursion (λ row. IsAmong (key row) (k ∷ ks)) rows → AllByRecursion (λ row. IsAmong (key row) ks) (filter (λ row. not (same k row)) rows)
  others k ks [] among = tt
  others k ks (row ∷ rows) among = elim (cases_Bool (same k row)) [
    | inl is ↦ rw is (others k ks rows among.1)
    | inr isnt ↦ rw isnt (elim among.0 [
      | inl here ↦ absurd (false≢true (sym isnt ∙ subst (λ j. same j row ≡ true) here (keyed.own row)))
      | inr later ↦ (later, others k ks rows among.1)
    ])
  ]

  kept : (k : K) (ks : List K) (rows : List Row) → AllByRecursion (below k) ks → flat_map (λ j. filter (same j) (filter (λ row. not (same k row)) rows)) ks ≡ flat_map (λ j. filter (same j) rows) ks
  kept k [] rows least = refl
  kept k (j ∷ ks) rows least =
      rw (filter_kept (same j) (same k) rows (each (λ row. same j row ≡ true → same k row ≡ false) rows (λ row is. other_key k row (λ here. keyed.apart k (subst (below k) (sym (keyed.found j row is) ∙ here) least.0)))), kept k ks rows least.1) refl
    where
      each : (P : Row → Type 0) (xs : List Row) → ((x : Row) → P x) → AllByRecursion P xs
      each P [] all = tt
      each P (x ∷ xs) all = (all x, each P xs all)

  -- the rows of all keys, key by key, are the rows
  pub gathered : (ks : List K) (rows : List Row) → InPairs below ks → InPairs (IsUpTo key below) rows → AllByRecursion (λ row. IsAmong (key row) ks) rows → flat_map (λ k. filter (same k) rows) ks ≡ rows
  gathered [] [] order rise among = refl
  gathered [] (row ∷ rows) order rise among = absurd among.0
  gathered (k ∷ ks) rows order rise among =
      let left = filter (λ row. not (same k row)) rows in
      ap (λ ys. filter (same k) rows ++ ys) (sym (kept k ks rows order.0) ∙ gathered ks left order.1 (pairs_filter (IsUpTo key below) (λ row. not (same k row)) rows rise) (others k ks rows among))
      ∙ sym (split k ks rows order.0 rise among)

-- rows that rise from one to the next stand so in pairs
pub pairs_from_rises : {Row : Type 0} (before : Row → Row → Bool) (R : Row → Row → Type 0) → ((x y : Row) → before x y ≡ true → R x y) → ((x y z : Row) → before x y ≡ true → R y z → R x z)
    → (rows : List Row) → rises_by before rows ≡ true → InPairs R rows
pairs_from_rises before R next on [] rises = tt
pairs_from_rises before R next on (x ∷ []) rises = (tt, tt)
pairs_from_rises before R next on (x ∷ y ∷ rows) rises =
    let parts = and_parts _ _ rises in
    let more = pairs_from_rises before R next on (y ∷ rows) parts.1 in
    ((next x y parts.0, all_weaker (R y) (R x) rows (λ z. on x y z parts.0) more.0), more)

-- what the items of a list give, made of their views, is what their keys give
pub flat_views : {X V K A : Type 0} (f : V → List A) (view : X → V) (key : X → K) (g : K → List A) (xs : List X) → ((x : X) → f (view x) ≡ g (key x)) → flat_map f (map view xs) ≡ flat_map g (map key xs)
flat_views f view key g [] each = refl
flat_views f view key g (x ∷ xs) each = rw (each x, flat_views f view key g xs each) refl

-- an option as a list of one item, or of none
abbrev pub option_list : {A : Type 0} → Option A → List A
option_list None = []
option_list (Some x) = x ∷ []

option_first : {A : Type 0} (o : Option A) (ys : List A) → cons_option o ys ≡ option_list o ++ ys
option_first None ys = refl
option_first (Some y) ys = refl

pub filter_views : {X V K A : Type 0} (f : V → Option A) (view : X → V) (key : X → K) (g : K → List A) (xs : List X) → ((x : X) → option_list (f (view x)) ≡ g (key x)) → filter_map f (map view xs) ≡ flat_map g (map key xs)
filter_views f view key g [] each = refl
filter_views f view key g (x ∷ xs) each = rw (← each x, filter_views f view key g xs each) (option_first (f (view x)) (flat_map g (map key xs)))

-- rows that are taken apart and made again, where that makes the same
pub made_again : {Row P : Type 0} (passes : Row → Bool) (part : Row → P) (make : P → Row) (rows : List Row) → ((row : Row) → passes row ≡ true → make (part row) ≡ row) → map make (map part (filter passes rows)) ≡ filter passes rows
made_again passes part make [] same = refl
made_again passes part make (row ∷ rows) same = elim (cases_Bool (passes row)) [
  | inl is ↦ rw is (rw (same row is, made_again passes part make rows same) refl)
  | inr isnt ↦ rw isnt (made_again passes part make rows same)
]

pub views_made : {X V : Type 0} (view : X → V) (make : V → X) (xs : List X) → ((x : X) → make (view x) ≡ x) → map make (map view xs) ≡ xs
views_made view make [] same = refl
views_made view make (x ∷ xs) same = rw (same x, views_made view make xs same) refl

-- the first row that passes is the only one, where each that passes has none behind it that does
pub only_one : {Row : Type 0} (passes : Row → Bool) (R : Row → Row → Type 0) → ((x y : Row) → passes x ≡ true → R x y → passes y ≡ false) → (rows : List Row) → InPairs R rows → option_list (find passes rows) ≡ filter passes rows
only_one passes R apart [] order = refl
only_one passes R apart (row ∷ rows) order = elim (cases_Bool (passes row)) [
  | inl is ↦ rw (is, filter_out passes rows (all_weaker (R row) (λ y. passes y ≡ false) rows (λ y. apart row y is) order.0)) refl
  | inr isnt ↦ rw isnt (only_one passes R apart rows order.1)
]

-- what is found passes
pub found_passes : {Row : Type 0} (passes : Row → Bool) (rows : List Row) (row : Row) → find passes rows ≡ Some row → passes row ≡ true
found_passes passes [] row found = absurd (cc)
found_passes passes (x ∷ rows) row found = elim (cases_Bool (passes x)) [
  | inl is ↦ subst (λ y. passes y ≡ true) (same_Some x row (rw is at found)) is
  | inr isnt ↦ found_passes passes rows row (rw isnt at found)
]
