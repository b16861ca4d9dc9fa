-- The attachments to one activity among those of all, where one is put in or all to one activity go.
use Rattle.std.proofs.Common.{◌≡◌, ℕ, suc, ◌+◌, ◌≤◌, ◌==◌, Bool, true, false, List, [], ◌∷◌, ◌⊎◌, ◌++◌, length, refl, sym, ap, subst, ◌∙◌, arith, inl, inr}
use Rattle.std.specs.Prelude.{not, nat_lt}
use Rattle.std.specs.List.{AllByRecursion, filter}
use Rattle.std.proofs.lemmas.Bool.{cases_Bool, and_parts}
use Rattle.std.proofs.lemmas.Bool.Decides.{nat_tests}
use Rattle.std.proofs.lemmas.List.{append-nil}
use Rattle.router_state.specs.declared.rows.Link.{Link}
use Rattle.rows_sorted.specs.Orders.{put, rises_by}
use Rattle.router_state.specs.Contexts.{links_on}
use Rattle.rows_sorted.specs.Keys.{key_before, Rises}
use Rattle.rows_sorted.proofs.KeyLemmas.{pair_agrees}
use Rattle.rows_sorted.proofs.OrderLemmas.{AllInOrder, all_from_all}
use Rattle.entity_tree.proofs.ListLemmas.{all_of_any, filter_all, filter_none, filter_of_map, put_filtered}
use Rattle.rows_index.proofs.RowLemmas.{filter_behind}
use Rattle.rows_index.proofs.SumLemmas.{all_passed}
use Rattle.router_order.specs.declared.placed.Placed.{Placed}
use Rattle.router_order.specs.Listed.{IsByActivity}
use Rattle.router_order.specs.Placed.{attachment, attachments, placed_key}
use Rattle.router_order.proofs.ListingLemmas.{IsNotAbove, activity_order, true_both}

-- how many a filter leaves and takes
pub both_lengths : {X : Type 0} (p : X → Bool) (xs : List X) → length (filter p xs) + length (filter (λ x. not (p x)) xs) ≡ length xs
both_lengths p [] = refl
both_lengths p (x ∷ xs) = let more = both_lengths p xs in elim (cases_Bool (p x)) [ inl goes ↦ rw goes (omega (arith, more)) | inr stays ↦ rw stays (omega (arith, more)) ]

pub none_of_others : {X : Type 0} (p : X → Bool) (xs : List X) → filter p (filter (λ x. not (p x)) xs) ≡ []
none_of_others p [] = refl
none_of_others p (x ∷ xs) = elim (cases_Bool (p x)) [ inl goes ↦ rw goes (none_of_others p xs) | inr stays ↦ rw (stays, stays) (none_of_others p xs) ]

-- a row that goes behind all
pub put_last : {X : Type 0} (before : X → X → Bool) (x : X) (xs : List X) → AllByRecursion (λ y. before y x ≡ true) xs → AllByRecursion (λ y. before x y ≡ false) xs → put before x xs ≡ xs ++ x ∷ []
put_last before x xs low high = rw (filter_all (λ y. before y x) xs low, filter_none (λ y. before x y) xs high) refl

-- rows are compared by their activities first
pub record FirstBy {X : Type 0} (activity : X → ℕ) (before : X → X → Bool) : Type 0 where
  pub low : (x y : X) → nat_lt (activity x) (activity y) ≡ true → before x y ≡ true
  pub high : (x y : X) → nat_lt (activity y) (activity x) ≡ true → before x y ≡ false

module _ {X : Type 0} (activity : X → ℕ) (before : X → X → Bool) (by : FirstBy activity before) where
  -- the run of another activity stays
  pub other_run : (b : ℕ) (x : X) (xs : List X) → (activity x == b) ≡ false → filter (λ y. activity y == b) (put before x xs) ≡ filter (λ y. activity y == b) xs
  other_run b x xs apart = put_filtered before (λ y. activity y == b) x xs ∙ (rw apart (sides (cases_Bool (nat_lt b (activity x)))))
    where
      sides : (nat_lt b (activity x) ≡ true) ⊎ (nat_lt b (activity x) ≡ false)
          → filter (λ y. before y x) (filter (λ y. activity y == b) xs) ++ ([] ++ filter (λ y. before x y) (filter (λ y. activity y == b) xs)) ≡ filter (λ y. activity y == b) xs
      sides side = elim side [
        | inl less ↦
            let all = all_passed (λ y. activity y == b) xs in
            let low = all_from_all (λ y. (activity y == b) ≡ true) (λ y. before y x ≡ true) (λ y own. by.low y x (grind (arith, nat_tests, own, less))) _ all in
            let high = all_from_all (λ y. (activity y == b) ≡ true) (λ y. before x y ≡ false) (λ y own. by.high x y (grind (arith, nat_tests, own, less))) _ all in
            rw (filter_all (λ y. before y x) (filter (λ y. activity y == b) xs) low, filter_none (λ y. before x y) (filter (λ y. activity y == b) xs) high) (append-nil (filter (λ y. activity y == b) xs))
        | inr other ↦
            let all = all_passed (λ y. activity y == b) xs in
            let low = all_from_all (λ y. (activity y == b) ≡ true) (λ y. before y x ≡ false) (λ y own. by.high y x (grind (arith, nat_tests, own, other, apart))) _ all in
            let high = all_from_all (λ y. (activity y == b) ≡ true) (λ y. before x y ≡ true) (λ y own. by.low x y (grind (arith, nat_tests, own, other, apart))) _ all in
            rw (filter_none (λ y. before y x) (filter (λ y. activity y == b) xs) low, filter_all (λ y. before x y) (filter (λ y. activity y == b) xs) high) refl
      ]

  -- in the run of its own activity a row stands as among all
  pub own_run : (b : ℕ) (x : X) (xs : List X) → (activity x == b) ≡ true → filter (λ y. activity y == b) (put before x xs) ≡ put before x (filter (λ y. activity y == b) xs)
  own_run b x xs own = put_filtered before (λ y. activity y == b) x xs ∙ (rw own refl)

-- the rows of one activity
abbrev pub run : List Placed → ℕ → List Placed
run rows b = filter (λ (row : Placed). row.activity.0 == b) rows

pub run_is : (rows : List Placed) (b : ℕ) → links_on (attachments rows) b ≡ attachments (run rows b)
run_is rows b = filter_of_map (λ (l : Link). l.activity.0 == b) attachment rows

-- rows by their keys
abbrev pub placed_before : Placed → Placed → Bool
placed_before x y = key_before (placed_key x) (placed_key y)

pub placed_first : FirstBy (λ (row : Placed). row.activity.0) placed_before
placed_first = record {
  low = λ x y less. pair_agrees x.activity.0 x.rank y.activity.0 y.rank ∙ (rw less refl);
  high = λ x y less.
      let not_less : nat_lt x.activity.0 y.activity.0 ≡ false = grind (arith, nat_tests, less) in
      let apart : (x.activity.0 == y.activity.0) ≡ false = grind (arith, nat_tests, less) in
      pair_agrees x.activity.0 x.rank y.activity.0 y.rank ∙ (rw (not_less, apart) refl);
}

-- rows that rise by their keys stand by activity
pub placed_by_activity : (rows : List Placed) → Rises placed_key rows → IsByActivity (attachments rows)
placed_by_activity [] rises = refl
placed_by_activity (x ∷ []) rises = refl
placed_by_activity (x ∷ y ∷ rows) rises =
    let parts = and_parts (placed_before x y) (rises_by placed_before (y ∷ rows)) rises in
    let pairs = sym (pair_agrees x.activity.0 x.rank y.activity.0 y.rank) ∙ parts.0 in
    true_both _ _ (grind (arith, nat_tests, pairs)) (placed_by_activity (y ∷ rows) parts.1)

-- a row is put in
module _ (row : Placed) (rows more : List Placed) (is : more ≡ put placed_before row rows) where
  pub put_other : (b : ℕ) → (row.activity.0 == b) ≡ false → links_on (attachments more) b ≡ links_on (attachments rows) b
  put_other b apart =
      run_is more b
      ∙ ap (λ all. attachments (run all b)) is
      ∙ ap attachments (other_run (λ (row : Placed). row.activity.0) placed_before placed_first b row rows apart)
      ∙ sym (run_is rows b)

  pub put_own : run more row.activity.0 ≡ put placed_before row (run rows row.activity.0)
  put_own =
      let own : (row.activity.0 == row.activity.0) ≡ true = grind (arith, nat_tests) in
      ap (λ all. run all row.activity.0) is ∙ own_run (λ (row : Placed). row.activity.0) placed_before placed_first row.activity.0 row rows own

-- the rows of one activity go
module _ (a : ℕ) (rows fewer : List Placed) (is : fewer ≡ filter (λ row. not (row.activity.0 == a)) rows) where
  pub cut_own : links_on (attachments fewer) a ≡ []
  cut_own = run_is fewer a ∙ ap (λ all. attachments (run all a)) is ∙ ap attachments (none_of_others (λ (row : Placed). row.activity.0 == a) rows)

  pub cut_other : (b : ℕ) → (b == a) ≡ false → links_on (attachments fewer) b ≡ links_on (attachments rows) b
  cut_other b apart =
      run_is fewer b
      ∙ ap (λ all. attachments (run all b)) is
      ∙ ap attachments (filter_behind (λ (row : Placed). row.activity.0 == b) (λ row. not (row.activity.0 == a)) rows (all_of_any (λ row. not (row.activity.0 == a) ≡ false → (row.activity.0 == b) ≡ false) (λ row. one row (cases_Bool (row.activity.0 == a))) rows))
      ∙ sym (run_is rows b)
    where
      one : (row : Placed) → ((row.activity.0 == a) ≡ true) ⊎ ((row.activity.0 == a) ≡ false) → not (row.activity.0 == a) ≡ false → (row.activity.0 == b) ≡ false
      one row case goes = elim case [
        | inl mine ↦ grind (arith, nat_tests, mine, apart)
        | inr other ↦ absurd (let wrong : true ≡ false = rw other at goes in cc)
      ]

  pub cut_length : length (links_on (attachments rows) a) + length fewer ≡ length rows
  cut_length =
      let whole = both_lengths (λ (row : Placed). row.activity.0 == a) rows in
      let one = ap length (run_is rows a) ∙ mapped (run rows a) in
      let two = ap length is in
      omega (arith, whole, one, two)
    where
      mapped : (rows : List Placed) → length (attachments rows) ≡ length rows
      mapped [] = refl
      mapped (x ∷ xs) = ap suc (mapped xs)

mapped_length : (rows : List Placed) → length (attachments rows) ≡ length rows
mapped_length [] = refl
mapped_length (x ∷ xs) = ap suc (mapped_length xs)

-- a run is no longer than all
pub run_short : (rows : List Placed) (a : ℕ) → length (links_on (attachments rows) a) ≤ length rows
run_short rows a = let whole = both_lengths (λ (row : Placed). row.activity.0 == a) rows in let one = ap length (run_is rows a) ∙ mapped_length (run rows a) in omega (arith, whole, one)

pub run_length : (rows : List Placed) (a : ℕ) → length (run rows a) ≡ length (links_on (attachments rows) a)
run_length rows a = sym (ap length (run_is rows a) ∙ mapped_length (run rows a))

-- Two lists by activity that have the same attachments to each activity are the same.

none_on : (a : ℕ) (y : Link) (ys : List Link) → nat_lt a y.activity.0 ≡ true → AllByRecursion (IsNotAbove y) ys → links_on (y ∷ ys) a ≡ []
none_on a y ys less all =
    let apart : (y.activity.0 == a) ≡ false = grind (arith, nat_tests, less) in
    rw apart (filter_none (λ (l : Link). l.activity.0 == a) ys (all_from_all (IsNotAbove y) (λ l. (l.activity.0 == a) ≡ false) (λ l above. grind (arith, nat_tests, less, above)) ys all))

mine_on : (x : Link) (xs : List Link) → links_on (x ∷ xs) x.activity.0 ≡ x ∷ links_on xs x.activity.0
mine_on x xs = let mine : (x.activity.0 == x.activity.0) ≡ true = grind (arith, nat_tests) in rw mine refl

same_in_order : (xs ys : List Link) → AllInOrder IsNotAbove xs → AllInOrder IsNotAbove ys → ((b : ℕ) → links_on xs b ≡ links_on ys b) → xs ≡ ys
same_in_order [] [] order also same = refl
same_in_order [] (y ∷ ys) order also same = absurd (let wrong = same y.activity.0 ∙ mine_on y ys in cc)
same_in_order (x ∷ xs) [] order also same = absurd (let wrong = sym (mine_on x xs) ∙ same x.activity.0 in cc)
same_in_order (x ∷ xs) (y ∷ ys) order also same = elim (cases_Bool (nat_lt x.activity.0 y.activity.0)) [
  | inl less ↦ absurd (let wrong = sym (mine_on x xs) ∙ same x.activity.0 ∙ none_on x.activity.0 y ys less also.0 in cc)
  | inr not_less ↦ elim (cases_Bool (nat_lt y.activity.0 x.activity.0)) [
    | inl more ↦ absurd (let wrong = sym (mine_on y ys) ∙ sym (same y.activity.0) ∙ none_on y.activity.0 x xs more order.0 in cc)
    | inr not_more ↦
        let activities : y.activity.0 ≡ x.activity.0 = grind (arith, nat_tests, not_less, not_more) in
        let heads : x ∷ links_on xs x.activity.0 ≡ y ∷ links_on ys x.activity.0 = sym (mine_on x xs) ∙ same x.activity.0 ∙ subst (λ a. links_on (y ∷ ys) a ≡ y ∷ links_on ys a) activities (mine_on y ys) in
        let first : x ≡ y = cc in
        let later : links_on xs x.activity.0 ≡ links_on ys x.activity.0 = cc in
        let tails = same_in_order xs ys order.1 also.1 (rest later activities) in
        (λ i. first i ∷ tails i)
  ]
]
  where
    rest : links_on xs x.activity.0 ≡ links_on ys x.activity.0 → y.activity.0 ≡ x.activity.0 → (b : ℕ) → links_on xs b ≡ links_on ys b
    rest later activities b = elim (cases_Bool (x.activity.0 == b)) [
      | inl mine ↦ let at : x.activity.0 ≡ b = grind (arith, nat_tests, mine) in subst (λ a. links_on xs a ≡ links_on ys a) at later
      | inr other ↦
          let too : (y.activity.0 == b) ≡ false = rw activities other in
          let both = same b in
          rw (other, too) at both
    ]

pub same_rows : (xs ys : List Link) → IsByActivity xs → IsByActivity ys → ((b : ℕ) → links_on xs b ≡ links_on ys b) → xs ≡ ys
same_rows xs ys rises also same = same_in_order xs ys (activity_order xs rises) (activity_order ys also) same
