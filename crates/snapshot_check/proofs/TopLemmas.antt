-- The root of the tree in which an entity stands, and that it is found by those that are noted.
use Rattle.std.proofs.Common.{◌≡◌, ℕ, zero, suc, ◌+◌, ◌<◌, ◌≤◌, ◌==◌, Bool, true, false, List, [], ◌∷◌, ◌++◌, Option, Some, None, drop, take, length, map, get_or, refl, sym, ap, ◌∙◌, subst, arith, inl, inr}
use Rattle.std.specs.Prelude.{◌&&◌, ◌||◌, nat_lt, option_map}
use Rattle.std.specs.List.{AllByRecursion, find, list_all}
use Rattle.std.specs.Option.{option_map_or}
use Rattle.std.proofs.lemmas.Bool.{cases_Bool}
use Rattle.std.proofs.lemmas.Bool.Decides.{nat_tests}
use Rattle.rows_sorted.specs.Orders.{rises_by}
use Rattle.rows_sorted.specs.Keys.{key_before, Rises}
use Rattle.rows_sorted.proofs.KeyLemmas.{number_agrees}
use Rattle.rows_sorted.proofs.OrderLemmas.{AllInOrder, IsBefore, in_order, rises_again, all_from_all}
use Rattle.router_state.specs.Keys.{entity_key}
use Rattle.router_state.specs.Trees.{entity_at, parent_of}
use Rattle.router_state.specs.declared.rows.Entity.{Entity}
use Rattle.snapshot_check.specs.Tops.{above, is_lower, next_row, noted, parent_at, top_key, top_of, top_row}
use Rattle.snapshot_check.specs.declared.tops.Top.{Top}

both_true : (a b : Bool) → (a && b) ≡ true → (a ≡ true) × (b ≡ true)
both_true true true passes = (refl, refl)
both_true true false passes = cc
both_true false b passes = cc

-- what is found has the number
pub found_number : (e : ℕ) (row : Entity) (rows : List Entity) → entity_at rows e ≡ Some row → row.number.0 ≡ e
found_number e row [] is = cc
found_number e row (x ∷ xs) is = elim (cases_Bool (x.number.0 == e)) [
  | inl mine ↦ let first : Some x ≡ Some row = rw mine at is in let same : x ≡ row = cc in let number : x.number.0 ≡ e = grind (arith, nat_tests, mine) in ap (λ (r : Entity). r.number.0) (sym same) ∙ number
  | inr other ↦ found_number e row xs (rw other at is)
]

-- what holds of all holds of what is found
pub found_holds : (P : Entity → Type 0) (e : ℕ) (row : Entity) (rows : List Entity) → AllByRecursion P rows → entity_at rows e ≡ Some row → P row
found_holds P e row [] all is = absurd (cc)
found_holds P e row (x ∷ xs) all is = elim (cases_Bool (x.number.0 == e)) [
  | inl mine ↦ let first : Some x ≡ Some row = rw mine at is in let same : x ≡ row = cc in subst P same all.0
  | inr other ↦ found_holds P e row xs all.1 (rw other at is)
]

number_before : (x y : Entity) → IsBefore entity_key x y → x.number.0 < y.number.0
number_before x y is = let low : nat_lt x.number.0 y.number.0 ≡ true = sym (number_agrees x.number.0 y.number.0) ∙ is in grind (arith, nat_tests, low)

apart : (m n : ℕ) → m < n → (n == m) ≡ false
apart m n low = grind (arith, nat_tests, low)

apart_back : (m n : ℕ) → m < n → (m == n) ≡ false
apart_back m n low = grind (arith, nat_tests, low)

pub alike : (n : ℕ) → (n == n) ≡ true
alike n = grind (arith, nat_tests)

all_both : (P Q : Entity → Type 0) (rows : List Entity) → AllByRecursion P rows → AllByRecursion Q rows → AllByRecursion (λ row. P row × Q row) rows
all_both P Q [] all also = tt
all_both P Q (x ∷ xs) all also = ((all.0, also.0), all_both P Q xs all.1 also.1)

-- each entity is found by its number
pub each_found : (rows : List Entity) → AllInOrder (IsBefore entity_key) rows → AllByRecursion (λ row. entity_at rows row.number.0 ≡ Some row) rows
each_found [] order = tt
each_found (x ∷ xs) order =
    let mine : entity_at (x ∷ xs) x.number.0 ≡ Some x = (let same = alike x.number.0 in rw same refl) in
    (mine, all_from_all (λ row. IsBefore entity_key x row × (entity_at xs row.number.0 ≡ Some row)) (λ row. entity_at (x ∷ xs) row.number.0 ≡ Some row) later xs (all_both (IsBefore entity_key x) (λ row. entity_at xs row.number.0 ≡ Some row) xs order.0 (each_found xs order.1)))
  where
    later : (row : Entity) → IsBefore entity_key x row × (entity_at xs row.number.0 ≡ Some row) → entity_at (x ∷ xs) row.number.0 ≡ Some row
    later row both = let other : (x.number.0 == row.number.0) ≡ false = apart_back x.number.0 row.number.0 (number_before x row both.0) in rw other both.1

-- the parent of an entity that is there
pub parent_there : (rows : List Entity) (e : ℕ) (row : Entity) → entity_at rows e ≡ Some row → parent_at rows e ≡ parent_of row
parent_there rows e row is = rw is refl

-- a parent has a lower number
lower_by : (row : Entity) → is_lower row ≡ true → (parent_of row == 0) ≡ false → parent_of row < row.number.0
lower_by row low some =
    let parts = both_true (nat_lt 0 row.number.0) ((parent_of row == 0) || nat_lt (parent_of row) row.number.0) low in
    let either = parts.1 in
    let less : nat_lt (parent_of row) row.number.0 ≡ true = rw some at either in
    grind (arith, nat_tests, less)

all_by : (p : Entity → Bool) (rows : List Entity) → list_all p rows ≡ true → AllByRecursion (λ row. p row ≡ true) rows
all_by p [] all = tt
all_by p (x ∷ xs) all = let parts = both_true (p x) (list_all p xs) all in (parts.0, all_by p xs parts.1)

module _ (rows : List Entity) (lower : list_all is_lower rows ≡ true) where
  pub parent_lower : (e : ℕ) → (parent_at rows e == 0) ≡ false → parent_at rows e < e
  parent_lower e some = by (entity_at rows e) refl
    where
      by : (o : Option Entity) → entity_at rows e ≡ o → parent_at rows e < e
      by None is = absurd (let none : (parent_at rows e == 0) ≡ true = rw is refl in cc)
      by (Some row) is =
          let own = parent_there rows e row is in
          let some_too : (parent_of row == 0) ≡ false = sym (ap (λ n. n == 0) own) ∙ some in
          let low = lower_by row (found_holds (λ row. is_lower row ≡ true) e row rows (all_by is_lower rows lower) is) some_too in
          let number = found_number e row rows is in
          omega (arith, own, low, number)

  -- more steps than the number lead no farther
  pub enough : (m n e : ℕ) → e ≤ m → e ≤ n → above m rows e ≡ above n rows e
  enough zero zero e high also = refl
  enough zero (suc n) e high also = elim (cases_Bool (parent_at rows e == 0)) [
    | inl root ↦ rw root refl
    | inr some ↦ absurd (let low = parent_lower e some in omega (arith, low, high))
  ]
  enough (suc m) zero e high also = elim (cases_Bool (parent_at rows e == 0)) [
    | inl root ↦ rw root refl
    | inr some ↦ absurd (let low = parent_lower e some in omega (arith, low, also))
  ]
  enough (suc m) (suc n) e high also = elim (cases_Bool (parent_at rows e == 0)) [
    | inl root ↦ rw root refl
    | inr some ↦ rw some (let low = parent_lower e some in enough m n (parent_at rows e) (omega (arith, low, high)) (omega (arith, low, also)))
  ]

  root_above : (n e : ℕ) → (parent_at rows e == 0) ≡ true → above n rows e ≡ e
  root_above zero e root = refl
  root_above (suc n) e root = rw root refl

  pub top_root : (e : ℕ) → (parent_at rows e == 0) ≡ true → top_of rows e ≡ e
  top_root e root = root_above e e root

  step_above : (n e : ℕ) → (parent_at rows e == 0) ≡ false → above (suc n) rows e ≡ above n rows (parent_at rows e)
  step_above n e some = rw some refl

  -- below a parent stands what has the same root
  pub top_step : (e : ℕ) → (parent_at rows e == 0) ≡ false → top_of rows e ≡ top_of rows (parent_at rows e)
  top_step e some =
      let low = parent_lower e some in
      enough e (suc e) e (omega arith) (omega arith) ∙ step_above e e some ∙ enough e (parent_at rows e) (parent_at rows e) (omega (arith, low)) (omega arith)

  pub top_nowhere : (e : ℕ) → entity_at rows e ≡ None → top_of rows e ≡ e
  top_nowhere e none = top_root e (rw none refl)

-- what is noted of an entity that is among those of which the root is known

noted_found : (rows done : List Entity) (e : ℕ) (o : Option Entity) → entity_at done e ≡ o → find (λ (t : Top). t.number == e) (map (top_row rows) done) ≡ option_map (top_row rows) o
noted_found rows [] e o is = ap (option_map (top_row rows)) is
noted_found rows (x ∷ xs) e o is = elim (cases_Bool (x.number.0 == e)) [
  | inl mine ↦ rw mine (let first : Some x ≡ o = rw mine at is in ap (option_map (top_row rows)) first)
  | inr other ↦ rw other (noted_found rows xs e o (rw other at is))
]

found_among : (e : ℕ) (done rest : List Entity) → entity_at rest e ≡ None → entity_at (done ++ rest) e ≡ entity_at done e
found_among e [] rest none = none
found_among e (x ∷ xs) rest none = elim (cases_Bool (x.number.0 == e)) [
  | inl mine ↦ rw mine refl
  | inr other ↦ rw other (found_among e xs rest none)
]

pub noted_is : (rows done rest : List Entity) (e : ℕ) → list_all is_lower rows ≡ true → rows ≡ done ++ rest → entity_at rest e ≡ None → noted (map (top_row rows) done) e ≡ top_of rows e
noted_is rows done rest e lower parts none = by (entity_at done e) refl
  where
    by : (o : Option Entity) → entity_at done e ≡ o → noted (map (top_row rows) done) e ≡ top_of rows e
    by None is =
        let nowhere : entity_at rows e ≡ None = ap (λ (all : List Entity). entity_at all e) parts ∙ found_among e done rest none ∙ is in
        ap (λ (o : Option Top). option_map_or (λ (t : Top). t.top) o e) (noted_found rows done e None is) ∙ sym (top_nowhere rows lower e nowhere)
    by (Some row) is =
        ap (λ (o : Option Top). option_map_or (λ (t : Top). t.top) o e) (noted_found rows done e (Some row) is) ∙ ap (top_of rows) (found_number e row done is)

-- the roots of the entities so far make up a list that rises
pub tops_rise : (all rows : List Entity) → Rises entity_key rows → Rises top_key (map (top_row all) rows)
tops_rise all [] rises = refl
tops_rise all (x ∷ []) rises = refl
tops_rise all (x ∷ y ∷ rows) rises =
    let parts = both_true (key_before (entity_key x) (entity_key y)) (rises_by (λ a b. key_before (entity_key a) (entity_key b)) (y ∷ rows)) rises in
    both (key_before (entity_key x) (entity_key y)) (rises_by (λ a b. key_before (top_key a) (top_key b)) (map (top_row all) (y ∷ rows))) parts.0 (tops_rise all (y ∷ rows) parts.1)
  where
    both : (a b : Bool) → a ≡ true → b ≡ true → (a && b) ≡ true
    both true true one other = refl
    both true false one other = cc
    both false b one other = cc

front_rises : (done rest : List Entity) → AllInOrder (IsBefore entity_key) (done ++ rest) → AllInOrder (IsBefore entity_key) done
front_rises [] rest order = tt
front_rises (x ∷ xs) rest order = (all_front xs order.0, front_rises xs rest order.1)
  where
    all_front : (ys : List Entity) → AllByRecursion (IsBefore entity_key x) (ys ++ rest) → AllByRecursion (IsBefore entity_key x) ys
    all_front [] all = tt
    all_front (y ∷ ys) all = (all.0, all_front ys all.1)

back_rises : (done rest : List Entity) → AllInOrder (IsBefore entity_key) (done ++ rest) → AllInOrder (IsBefore entity_key) rest
back_rises [] rest order = order
back_rises (x ∷ xs) rest order = back_rises xs rest order.1

-- a parent doesn't stand behind its child
none_later : (row : Entity) (more : List Entity) (p : ℕ) → AllInOrder (IsBefore entity_key) (row ∷ more) → p < row.number.0 → entity_at (row ∷ more) p ≡ None
none_later row more p order low = let other = apart p row.number.0 low in rw other (each more order.0)
  where
    each : (xs : List Entity) → AllByRecursion (IsBefore entity_key row) xs → entity_at xs p ≡ None
    each [] all = refl
    each (x ∷ xs) all =
        let high = number_before row x all.0 in
        let other = apart p x.number.0 (omega (arith, high, low)) in
        rw other (each xs all.1)

-- the next entity with its root
pub next_is : (rows done more : List Entity) (row : Entity) → Rises entity_key rows → list_all is_lower rows ≡ true → rows ≡ done ++ row ∷ more → next_row (map (top_row rows) done) row ≡ top_row rows row
next_is rows done more row rises lower parts =
    let order : AllInOrder (IsBefore entity_key) (done ++ row ∷ more) = subst (AllInOrder (IsBefore entity_key)) parts (in_order entity_key rows rises) in
    let own : entity_at rows row.number.0 ≡ Some row = placed order in
    let parent = parent_there rows row.number.0 row own in
    elim (cases_Bool (parent_of row == 0)) [
      | inl root ↦ rw root (λ i. record { number = row.number.0; top = sym (top_root rows lower row.number.0 (ap (λ n. n == 0) parent ∙ root)) i })
      | inr some ↦
          let low : parent_of row < row.number.0 = lower_by row (found_holds (λ r. is_lower r ≡ true) row.number.0 row rows (all_by is_lower rows lower) own) some in
          let none = none_later row more (parent_of row) (back_rises done (row ∷ more) order) low in
          let known : noted (map (top_row rows) done) (parent_of row) ≡ top_of rows row.number.0 = (
          noted_is rows done (row ∷ more) (parent_of row) lower parts none
          ∙ ap (top_of rows) (sym parent)
          ∙ sym (top_step rows lower row.number.0 (ap (λ n. n == 0) parent ∙ some))) in
          rw some (λ i. record { number = row.number.0; top = known i })
    ]
  where
    later_row : (xs : List Entity) → AllByRecursion (λ r. entity_at rows r.number.0 ≡ Some r) (xs ++ row ∷ more) → entity_at rows row.number.0 ≡ Some row
    later_row [] all = all.0
    later_row (x ∷ xs) all = later_row xs all.1

    placed : AllInOrder (IsBefore entity_key) (done ++ row ∷ more) → entity_at rows row.number.0 ≡ Some row
    placed order = later_row done (subst (λ (all : List Entity). AllByRecursion (λ r. entity_at rows r.number.0 ≡ Some r) all) parts (each_found rows (subst (AllInOrder (IsBefore entity_key)) (sym parts) order)))

-- the entities up to a place, the one there, and those behind it
parted : (rows : List Entity) (i : ℕ) (row : Entity) → i < length rows → row ≡ get_or rows i row → rows ≡ take i rows ++ row ∷ drop (i + 1) rows
parted [] i row within is = absurd (omega (arith, within))
parted (x ∷ xs) zero row within is = ap (λ (first : Entity). first ∷ xs) (sym is)
parted (x ∷ xs) (suc i) row within is =
    let next : suc i + 1 ≡ suc (i + 1) = omega arith in
    rw next (ap (λ (rest : List Entity). x ∷ rest) (parted xs i row (omega (arith, within)) is))

one_more : (rows : List Entity) (i : ℕ) (row : Entity) → i < length rows → row ≡ get_or rows i row → take (i + 1) rows ≡ take i rows ++ row ∷ []
one_more [] i row within is = absurd (omega (arith, within))
one_more (x ∷ xs) zero row within is = ap (λ (first : Entity). first ∷ []) (sym is)
one_more (x ∷ xs) (suc i) row within is =
    let next : suc i + 1 ≡ suc (i + 1) = omega arith in
    rw next (ap (λ (rest : List Entity). x ∷ rest) (one_more xs i row (omega (arith, within)) is))

map_joined : (f : Entity → Top) (xs : List Entity) (y : Entity) → map f (xs ++ y ∷ []) ≡ map f xs ++ f y ∷ []
map_joined f [] y = refl
map_joined f (x ∷ xs) y = ap (λ (rest : List Top). f x ∷ rest) (map_joined f xs y)

pub front_order : (rows : List Entity) (i : ℕ) → Rises entity_key rows → Rises entity_key (take i rows)
front_order rows i rises = rises_again entity_key (take i rows) (front_rises (take i rows) (drop i rows) (subst (AllInOrder (IsBefore entity_key)) (sym (joined rows i)) (in_order entity_key rows rises)))
  where
    joined : (xs : List Entity) (n : ℕ) → take n xs ++ drop n xs ≡ xs
    joined [] zero = refl
    joined [] (suc n) = refl
    joined (x ∷ xs) zero = refl
    joined (x ∷ xs) (suc n) = ap (λ (rest : List Entity). x ∷ rest) (joined xs n)

-- the roots so far, and the next one
pub tops_on : (rows : List Entity) (tops more : List Top) (next : Top) (i : ℕ) (row : Entity) → Rises entity_key rows → list_all is_lower rows ≡ true → i < length rows → row ≡ get_or rows i row
    → tops ≡ map (top_row rows) (take i rows) → next ≡ next_row tops row → more ≡ tops ++ next ∷ [] → more ≡ map (top_row rows) (take (i + 1) rows)
tops_on rows tops more next i row rises lower within is so made pushed =
    let own : next ≡ top_row rows row = made ∙ ap (λ (ts : List Top). next_row ts row) so ∙ next_is rows (take i rows) (drop (i + 1) rows) row rises lower (parted rows i row within is) in
    pushed ∙ (λ j. so j ++ own j ∷ []) ∙ sym (map_joined (top_row rows) (take i rows) row) ∙ ap (map (top_row rows)) (sym (one_more rows i row within is))

pub tops_rise_on : (rows : List Entity) (tops : List Top) (i : ℕ) → Rises entity_key rows → tops ≡ map (top_row rows) (take i rows) → Rises top_key tops
tops_rise_on rows tops i rises so = subst (Rises top_key) (sym so) (tops_rise rows (take i rows) (front_order rows i rises))

pub tops_all : (rows : List Entity) (tops : List Top) (i : ℕ) → length rows ≤ i → tops ≡ map (top_row rows) (take i rows) → tops ≡ map (top_row rows) rows
tops_all rows tops i past so = so ∙ ap (map (top_row rows)) (whole rows i past)
  where
    whole : (xs : List Entity) (n : ℕ) → length xs ≤ n → take n xs ≡ xs
    whole [] zero past = refl
    whole [] (suc n) past = refl
    whole (x ∷ xs) zero past = absurd (omega (arith, past))
    whole (x ∷ xs) (suc n) past = ap (λ (rest : List Entity). x ∷ rest) (whole xs n (omega (arith, past)))
