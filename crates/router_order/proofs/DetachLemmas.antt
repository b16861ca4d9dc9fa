-- An attachment that is found by its entity is cut by its rank.
use Rattle.std.proofs.Common.{◌≡◌, ℕ, ◌==◌, Bool, true, false, List, [], ◌∷◌, Option, Some, None, refl, sym, ap, subst, ◌∙◌, arith, inl, inr}
use Rattle.std.specs.Prelude.{◌&&◌, is_some, not, option_map}
use Rattle.std.specs.List.{AllByRecursion, filter, find, list_any}
use Rattle.std.proofs.lemmas.Bool.{cases_Bool}
use Rattle.std.proofs.lemmas.Bool.Decides.{nat_tests}
use Rattle.router_state.specs.declared.rows.Entity.{Entity}
use Rattle.router_state.specs.declared.rows.Link.{Link}
use Rattle.router_state.specs.Contexts.{is_link, is_linked, without_link}
use Rattle.rows_sorted.specs.Keys.{Rises, is_key, pair_key}
use Rattle.rows_sorted.proofs.KeyLemmas.{pair_agrees}
use Rattle.rows_sorted.proofs.OrderLemmas.{AllInOrder, IsBefore, all_from_all, in_order}
use Rattle.entity_tree.proofs.ListLemmas.{and_true, or_right}
use Rattle.rows_index.proofs.FoundLemmas.{none_at}
use Rattle.rows_index.proofs.RowLemmas.{all_stay}
use Rattle.router_order.specs.declared.placed.Placed.{Placed}
use Rattle.router_order.specs.Listed.{IsListing, listed_before}
use Rattle.router_order.specs.Placed.{attachment, attachments, placed_key}
use Rattle.router_order.proofs.LinkLemmas.{same_numbers}
use Rattle.router_order.proofs.ListingLemmas.{listing_order, same_link}
use Rattle.router_order.proofs.PathOrder.{listed_is, listed_order, listed_total, not_back}
use Rattle.router_order.proofs.RunLemmas.{run}

-- the row is the attachment of the entity to the activity
abbrev is_row : ℕ → ℕ → Placed → Bool
is_row e a row = is_link e a (attachment row)

find_in_run : (e a : ℕ) (rows : List Placed) → find (λ (row : Placed). row.entity.0 == e) (run rows a) ≡ find (is_row e a) rows
find_in_run e a [] = refl
find_in_run e a (x ∷ xs) = elim (cases_Bool (x.activity.0 == a)) [
  | inl mine ↦ elim (cases_Bool (x.entity.0 == e)) [
    | inl own ↦ rw (mine, own) refl
    | inr other ↦ rw (mine, other) (find_in_run e a xs)
  ]
  | inr apart ↦ elim (cases_Bool (x.entity.0 == e)) [
    | inl own ↦ rw (apart, own) (find_in_run e a xs)
    | inr other ↦ rw (apart, other) (find_in_run e a xs)
  ]
]

-- what is found passes, and what holds of all holds of it
found_row : (q : Placed → Bool) (P : Placed → Type 0) (row : Placed) (rows : List Placed) → AllByRecursion P rows → find q rows ≡ Some row → P row × (q row ≡ true)
found_row q P row [] all is = absurd (cc)
found_row q P row (x ∷ xs) all is = elim (cases_Bool (q x)) [
  | inl passes ↦ let first : Some x ≡ Some row = rw passes at is in let same : x ≡ row = cc in (subst P same all.0, subst (λ (r : Placed). q r ≡ true) same passes)
  | inr fails ↦ found_row q P row xs all.1 (rw fails at is)
]

-- the row has the rank on the activity
abbrev has_rank : ℕ → ℕ → Placed → Bool
has_rank a rank row = is_key (placed_key row) (pair_key a rank)

rank_is : (a rank : ℕ) (row : Placed) → has_rank a rank row ≡ ((row.activity.0 == a) && (row.rank == rank))
rank_is a rank row = ap (λ b. (row.activity.0 == a) && b) (and_true (row.rank == rank))

all_unmapped : (P : Link → Type 0) (rows : List Placed) → AllByRecursion P (attachments rows) → AllByRecursion (λ row. P (attachment row)) rows
all_unmapped P [] all = tt
all_unmapped P (x ∷ xs) all = (all.0, all_unmapped P xs all.1)

stay_mapped : (e a : ℕ) (rows : List Placed) → AllByRecursion (λ row. is_row e a row ≡ false) rows → without_link (attachments rows) e a ≡ attachments rows
stay_mapped e a [] none = refl
stay_mapped e a (x ∷ xs) none = rw none.0 (ap (λ rest. attachment x ∷ rest) (stay_mapped e a xs none.1))

module _ (es : List Entity) (e a : ℕ) where
  not_itself : (l : Link) → listed_before es l l ≡ true → ⊥
  not_itself l low = let wrong = not_back (listed_before es) (listed_order es) (listed_total es) (listed_is es) l l low in cc

  cut_one : (row : Placed) (rows : List Placed) → AllInOrder (IsBefore placed_key) rows → AllInOrder (λ x y. listed_before es x y ≡ true) (attachments rows) → find (is_row e a) rows ≡ Some row
      → attachments (filter (λ x. not (has_rank a row.rank x)) rows) ≡ without_link (attachments rows) e a
  cut_one row [] order listed is = absurd (cc)
  cut_one row (x ∷ xs) order listed is = elim (cases_Bool (is_row e a x)) [
    | inl mine ↦
        let first : Some x ≡ Some row = rw mine at is in
        let same : x ≡ row = cc in
        let numbers = same_numbers (attachment x) e a mine in
        let ranks : row.rank ≡ x.rank = ap (λ (r : Placed). r.rank) (sym same) in
        let own : has_rank a row.rank x ≡ true = rank_is a row.rank x ∙ both x numbers.1 (sym ranks) in
        let keys = all_from_all (IsBefore placed_key x) (λ y. has_rank a row.rank y ≡ false) (λ y before. rank_is a row.rank y ∙ later x y numbers.1 ranks before) xs order.0 in
        let links = all_from_all (λ y. listed_before es (attachment x) (attachment y) ≡ true) (λ y. is_row e a y ≡ false) (λ y before. apart x y mine before) xs (all_unmapped (λ y. listed_before es (attachment x) y ≡ true) xs listed.0) in
        rw (own, mine, all_stay (has_rank a row.rank) xs keys) (sym (stay_mapped e a xs links))
    | inr other ↦
        let here = rw other at is in
        let found = found_row (is_row e a) (IsBefore placed_key x) row xs order.0 here in
        let numbers = same_numbers (attachment row) e a found.1 in
        let stays : has_rank a row.rank x ≡ false = rank_is a row.rank x ∙ earlier x row numbers.1 found.0 in
        rw (stays, other) (ap (λ rest. attachment x ∷ rest) (cut_one row xs order.1 listed.1 here))
  ]
    where
      both : (x : Placed) → x.activity.0 ≡ a → x.rank ≡ row.rank → ((x.activity.0 == a) && (x.rank == row.rank)) ≡ true
      both x one two =
          let first : (x.activity.0 == a) ≡ true = grind (arith, nat_tests, one) in
          let second : (x.rank == row.rank) ≡ true = grind (arith, nat_tests, two) in
          rw (first, second) refl

      later : (x y : Placed) → x.activity.0 ≡ a → row.rank ≡ x.rank → IsBefore placed_key x y → ((y.activity.0 == a) && (y.rank == row.rank)) ≡ false
      later x y one two before =
          let pairs = sym (pair_agrees x.activity.0 x.rank y.activity.0 y.rank) ∙ before in
          grind (arith, nat_tests, one, two, pairs)

      earlier : (x y : Placed) → y.activity.0 ≡ a → IsBefore placed_key x y → ((x.activity.0 == a) && (x.rank == y.rank)) ≡ false
      earlier x y one before =
          let pairs = sym (pair_agrees x.activity.0 x.rank y.activity.0 y.rank) ∙ before in
          grind (arith, nat_tests, one, pairs)

      apart : (x y : Placed) → is_row e a x ≡ true → listed_before es (attachment x) (attachment y) ≡ true → is_row e a y ≡ false
      apart x y mine before = elim (cases_Bool (is_row e a y)) [
        | inl too ↦
            let one = same_numbers (attachment x) e a mine in
            let two = same_numbers (attachment y) e a too in
            let same = same_link (attachment y) (attachment x) (two.0 ∙ sym one.0) (two.1 ∙ sym one.1) in
            absurd (not_itself (attachment x) (subst (λ l. listed_before es (attachment x) l ≡ true) same before))
        | inr not_mine ↦ not_mine
      ]

  -- the attachment that was found goes
  pub cut_found : (rank : ℕ) (rows fewer : List Placed) → Rises placed_key rows → IsListing es (attachments rows) → Some rank ≡ option_map (λ (row : Placed). row.rank) (find (λ row. row.entity.0 == e) (run rows a))
      → fewer ≡ filter (λ x. not (has_rank a rank x)) rows → attachments fewer ≡ without_link (attachments rows) e a
  cut_found rank rows fewer rises listing found is = by (find (is_row e a) rows) refl
    where
      by : (some : Option Placed) → find (is_row e a) rows ≡ some → attachments fewer ≡ without_link (attachments rows) e a
      by None at = absurd (let wrong : Some rank ≡ None = found ∙ ap (option_map (λ (row : Placed). row.rank)) (find_in_run e a rows ∙ at) in cc)
      by (Some row) at =
          let ranks : Some rank ≡ Some row.rank = found ∙ ap (option_map (λ (row : Placed). row.rank)) (find_in_run e a rows ∙ at) in
          let same : rank ≡ row.rank = cc in
          ap attachments is ∙ ap (λ n. attachments (filter (λ x. not (has_rank a n x)) rows)) same ∙ cut_one row rows (in_order placed_key rows rises) (listing_order es (attachments rows) listing) at

-- where none is found, none goes
pub none_cut : (e a : ℕ) (rows : List Placed) → None ≡ option_map (λ (row : Placed). row.rank) (find (λ row. row.entity.0 == e) (run rows a)) → attachments rows ≡ without_link (attachments rows) e a
none_cut e a rows found = by (find (is_row e a) rows) refl
  where
    by : (some : Option Placed) → find (is_row e a) rows ≡ some → attachments rows ≡ without_link (attachments rows) e a
    by None at = sym (stay_mapped e a rows (none_at (is_row e a) rows at))
    by (Some row) at = absurd (let wrong : None ≡ Some row.rank = found ∙ ap (option_map (λ (row : Placed). row.rank)) (find_in_run e a rows ∙ at) in cc)

linked_found : (e a : ℕ) (rows : List Placed) → is_linked (attachments rows) e a ≡ is_some (find (is_row e a) rows)
linked_found e a [] = refl
linked_found e a (x ∷ xs) = elim (cases_Bool (is_row e a x)) [ inl mine ↦ rw mine refl | inr other ↦ rw other (linked_found e a xs) ]

any_found : (e a : ℕ) (row : Placed) (rows : List Placed) → find (is_row e a) rows ≡ Some row → list_any (has_rank a row.rank) rows ≡ true
any_found e a row [] is = absurd (cc)
any_found e a row (x ∷ xs) is = elim (cases_Bool (is_row e a x)) [
  | inl mine ↦
      let first : Some x ≡ Some row = rw mine at is in
      let same : x ≡ row = cc in
      let numbers = same_numbers (attachment x) e a mine in
      let activity = numbers.1 in
      let one : (x.activity.0 == a) ≡ true = grind (arith, nat_tests, activity) in
      let two : (x.rank == x.rank) ≡ true = grind (arith, nat_tests) in
      let own : has_rank a x.rank x ≡ true = rank_is a x.rank x ∙ (rw (one, two) refl) in
      let here : has_rank a row.rank x ≡ true = subst (λ (r : Placed). has_rank a r.rank x ≡ true) same own in
      rw here refl
  | inr other ↦ or_right (has_rank a row.rank x) (list_any (has_rank a row.rank) xs) (any_found e a row xs (rw other at is))
]

-- an attachment that was found is there, and so is its rank
pub found_linked : (e a rank : ℕ) (rows : List Placed) → Some rank ≡ option_map (λ (row : Placed). row.rank) (find (λ row. row.entity.0 == e) (run rows a)) → (is_linked (attachments rows) e a ≡ true) × (list_any (has_rank a rank) rows ≡ true)
found_linked e a rank rows found = by (find (is_row e a) rows) refl
  where
    by : (some : Option Placed) → find (is_row e a) rows ≡ some → (is_linked (attachments rows) e a ≡ true) × (list_any (has_rank a rank) rows ≡ true)
    by None at = absurd (let wrong : Some rank ≡ None = found ∙ ap (option_map (λ (row : Placed). row.rank)) (find_in_run e a rows ∙ at) in cc)
    by (Some row) at =
        let ranks : Some rank ≡ Some row.rank = found ∙ ap (option_map (λ (row : Placed). row.rank)) (find_in_run e a rows ∙ at) in
        let same : rank ≡ row.rank = cc in
        (linked_found e a rows ∙ ap is_some at, subst (λ n. list_any (has_rank a n) rows ≡ true) (sym same) (any_found e a row rows at))

-- one that wasn't found isn't there
pub none_linked : (e a : ℕ) (rows : List Placed) → None ≡ option_map (λ (row : Placed). row.rank) (find (λ row. row.entity.0 == e) (run rows a)) → is_linked (attachments rows) e a ≡ false
none_linked e a rows found = by (find (is_row e a) rows) refl
  where
    by : (some : Option Placed) → find (is_row e a) rows ≡ some → is_linked (attachments rows) e a ≡ false
    by None at = linked_found e a rows ∙ ap is_some at
    by (Some row) at = absurd (let wrong : None ≡ Some row.rank = found ∙ ap (option_map (λ (row : Placed). row.rank)) (find_in_run e a rows ∙ at) in cc)
