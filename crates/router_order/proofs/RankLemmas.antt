-- A rank between those of its neighbours puts an attachment in its place.
use Rattle.std.proofs.Common.{◌≡◌, ℕ, zero, suc, ◌+◌, ◌-◌, ◌<◌, ◌≤◌, ◌==◌, Bool, true, false, List, [], ◌∷◌, ◌++◌, Option, Some, None, map, length, refl, sym, ap, subst, ◌∙◌, arith, inl, inr, slice_get}
use Rattle.std.specs.Prelude.{IfSome, nat_lt}
use Rattle.std.specs.List.{AllByRecursion, filter, list_any, position_from, prefix_len}
use Rattle.std.proofs.lemmas.Bool.{cases_Bool}
use Rattle.std.proofs.lemmas.List.{map-append}
use Rattle.std.proofs.lemmas.Bool.Decides.{nat_tests}
use Rattle.router_state.specs.declared.rows.Entity.{Entity}
use Rattle.router_state.specs.declared.rows.Link.{Link}
use Rattle.rows_sorted.specs.Orders.{pair_before, put}
use Rattle.router_state.specs.Contexts.{is_link, is_linked, links_on}
use Rattle.rows_sorted.specs.Keys.{Rises}
use Rattle.rows_sorted.proofs.KeyLemmas.{pair_agrees}
use Rattle.rows_sorted.proofs.OrderLemmas.{AllInOrder, IsBefore, all_filter, all_from_all, in_order, order_filter}
use Rattle.entity_tree.specs.Kept.{AreParents, is_entity}
use Rattle.entity_tree.proofs.ListLemmas.{all_two, filter_agree, filter_of_map}
use Rattle.rows_index.proofs.RowLemmas.{each_fails}
use Rattle.rows_index.proofs.SumLemmas.{all_passed}
use Rattle.router_order.specs.declared.placed.Placed.{Placed}
use Rattle.router_order.specs.Listed.{IsListing, listed_before}
use Rattle.router_order.specs.Placed.{attachment, attachments, placed_key}
use Rattle.router_order.proofs.ListingLemmas.{listing_order, put_listing, put_there, same_place, steps}
use Rattle.router_order.proofs.PathOrder.{listed_is, listed_order, listed_total, not_back}
use Rattle.router_order.proofs.LayLemmas.{inserted}
use Rattle.router_order.proofs.MoveLemmas.{run_listed}
use Rattle.router_order.proofs.RunLemmas.{placed_before, placed_by_activity, put_other, put_own, run, run_is}

pub at_holds : {X : Type 0} (P : X → Type 0) (i : ℕ) (y : X) (xs : List X) → AllByRecursion P xs → slice_get xs i ≡ Some y → P y
at_holds P i y [] all at = absurd (cc)
at_holds P zero y (x ∷ xs) all at = let same : x ≡ y = cc in subst P same all.0
at_holds P (suc i) y (x ∷ xs) all at = at_holds P i y xs all.1 at

-- What passes a test stands at the front.

module _ {X : Type 0} (test : X → Bool) where
  -- where a later row passes, an earlier one does
  abbrev pub IsDown : X → X → Type 0
  IsDown x y = test y ≡ true → test x ≡ true

  pub stops : (i : ℕ) (y : X) (xs : List X) → slice_get xs i ≡ Some y → test y ≡ false → prefix_len test xs ≤ i
  stops i y [] at fails = omega arith
  stops zero y (x ∷ xs) at fails = let same : x ≡ y = cc in let first : test x ≡ false = ap test same ∙ fails in rw first (omega arith)
  stops (suc i) y (x ∷ xs) at fails = elim (cases_Bool (test x)) [
    | inl passes ↦ let more = stops i y xs at fails in rw passes (omega (arith, more))
    | inr also ↦ rw also (omega arith)
  ]

  pub goes_on : (i : ℕ) (y : X) (xs : List X) → AllInOrder IsDown xs → slice_get xs i ≡ Some y → test y ≡ true → i < prefix_len test xs
  goes_on i y [] down at passes = absurd (cc)
  goes_on zero y (x ∷ xs) down at passes = let same : x ≡ y = cc in let first : test x ≡ true = ap test same ∙ passes in rw first (omega arith)
  goes_on (suc i) y (x ∷ xs) down at passes =
      let first = at_holds (IsDown x) i y xs down.0 at passes in
      let more = goes_on i y xs down.1 at passes in
      rw first (omega (arith, more))

  pub front_within : (xs : List X) → prefix_len test xs ≤ length xs
  front_within [] = omega arith
  front_within (x ∷ xs) = elim (cases_Bool (test x)) [
    | inl passes ↦ let more = front_within xs in rw passes (omega (arith, more))
    | inr fails ↦ rw fails (omega arith)
  ]

all_from_at : {X : Type 0} (P : X → Type 0) (xs : List X) → ((i : ℕ) (x : X) → slice_get xs i ≡ Some x → P x) → AllByRecursion P xs
all_from_at P [] each = tt
all_from_at P (x ∷ xs) each = (each 0 x refl, all_from_at P xs (λ i y at. each (suc i) y at))

order_at : {X : Type 0} (R : X → X → Type 0) (xs : List X) (i j : ℕ) (x y : X) → AllInOrder R xs → i < j → slice_get xs i ≡ Some x → slice_get xs j ≡ Some y → R x y
order_at R [] i j x y order less at also = absurd (cc)
order_at R (z ∷ zs) zero zero x y order less at also = absurd (omega (arith, less))
order_at R (z ∷ zs) zero (suc j) x y order less at also = let same : z ≡ x = cc in subst (λ w. R w y) same (at_holds (R z) j y zs order.0 also)
order_at R (z ∷ zs) (suc i) zero x y order less at also = absurd (omega (arith, less))
order_at R (z ∷ zs) (suc i) (suc j) x y order less at also = order_at R zs i j x y order.1 (omega (arith, less)) at also

pub get_at : {X : Type 0} (i : ℕ) (xs : List X) → i < length xs → (y : X) × (slice_get xs i ≡ Some y)
get_at i [] within = absurd (omega (arith, within))
get_at zero (x ∷ xs) within = (x, refl)
get_at (suc i) (x ∷ xs) within = get_at i xs (omega (arith, within))

pub at_within : {X : Type 0} (i : ℕ) (x : X) (xs : List X) → slice_get xs i ≡ Some x → i < length xs
at_within i x [] at = absurd (cc)
at_within zero x (y ∷ ys) at = omega arith
at_within (suc i) x (y ∷ ys) at = let more = at_within i x ys at in omega (arith, more)

one_at : {X : Type 0} (i j : ℕ) (x y : X) (xs : List X) → i ≡ j → slice_get xs i ≡ Some x → slice_get xs j ≡ Some y → x ≡ y
one_at i j x y xs same at also = let both : Some x ≡ Some y = sym at ∙ ap (slice_get xs) same ∙ also in cc

-- the one rank is below the other
abbrev pub IsLower : Placed → Placed → Type 0
IsLower x y = x.rank < y.rank

module _ (test : Placed → Bool) (rank : ℕ) (xs : List Placed) (lower : AllInOrder IsLower xs) where
  -- a rank above that of the last one that passes is above those of all that do
  pub above_front : AllInOrder (IsDown test) xs → ((y : Placed) → 0 < prefix_len test xs → slice_get xs (prefix_len test xs - 1) ≡ Some y → y.rank < rank) → AllByRecursion (λ x. test x ≡ true → x.rank < rank) xs
  above_front down above = all_from_at (λ x. test x ≡ true → x.rank < rank) xs one
    where
      one : (i : ℕ) (x : Placed) → slice_get xs i ≡ Some x → test x ≡ true → x.rank < rank
      one i x at passes =
          let low = goes_on test i x xs down at passes in
          let within = front_within test xs in
          let last = get_at (prefix_len test xs - 1) xs (omega (arith, low, within)) in
          let less = above last.0 (omega (arith, low)) last.1 in
          elim (cases_Bool (nat_lt i (prefix_len test xs - 1))) [
            | inl before ↦
                let first : i < prefix_len test xs - 1 = grind (arith, nat_tests, before) in
                let step = order_at IsLower xs i (prefix_len test xs - 1) x last.0 lower first at last.1 in
                omega (arith, step, less)
            | inr not_before ↦
                let here : i ≡ prefix_len test xs - 1 = grind (arith, nat_tests, not_before, low) in
                let same = one_at i (prefix_len test xs - 1) x last.0 xs here at last.1 in
                subst (λ (y : Placed). y.rank < rank) (sym same) less
          ]

  -- a rank below that of the first one that doesn't pass is below those of all that don't
  pub below_back : ((y : Placed) → slice_get xs (prefix_len test xs) ≡ Some y → rank < y.rank) → AllByRecursion (λ x. test x ≡ false → rank < x.rank) xs
  below_back below = all_from_at (λ x. test x ≡ false → rank < x.rank) xs one
    where
      one : (i : ℕ) (x : Placed) → slice_get xs i ≡ Some x → test x ≡ false → rank < x.rank
      one i x at fails =
          let high = stops test i x xs at fails in
          let within = at_within i x xs at in
          let next = get_at (prefix_len test xs) xs (omega (arith, high, within)) in
          let less = below next.0 next.1 in
          elim (cases_Bool (nat_lt (prefix_len test xs) i)) [
            | inl before ↦
                let first : prefix_len test xs < i = grind (arith, nat_tests, before) in
                let step = order_at IsLower xs (prefix_len test xs) i next.0 x lower first next.1 at in
                omega (arith, step, less)
            | inr not_before ↦
                let here : i ≡ prefix_len test xs = grind (arith, nat_tests, not_before, high) in
                let same = one_at i (prefix_len test xs) x next.0 xs here at next.1 in
                subst (λ (y : Placed). rank < y.rank) (sym same) less
          ]

-- a row that is put stands in one place by either of two comparisons that agree on it
put_mapped : {X Y : Type 0} (f : X → Y) (one : X → X → Bool) (two : Y → Y → Bool) (x : X) (xs : List X)
    → AllByRecursion (λ y. one y x ≡ two (f y) (f x)) xs → AllByRecursion (λ y. one x y ≡ two (f x) (f y)) xs → map f (put one x xs) ≡ put two (f x) (map f xs)
put_mapped f one two x xs low high =
    map-append f (filter (λ y. one y x) xs) (x ∷ filter (λ y. one x y) xs)
    ∙ (λ i. map f (filter_agree (λ y. one y x) (λ y. two (f y) (f x)) xs low i) ++ f x ∷ map f (filter_agree (λ y. one x y) (λ y. two (f x) (f y)) xs high i))
    ∙ (λ i. sym (filter_of_map (λ y. two y (f x)) f xs) i ++ f x ∷ sym (filter_of_map (λ y. two (f x) y) f xs) i)

order_mapped : (R : Link → Link → Type 0) (rows : List Placed) → AllInOrder R (attachments rows) → AllInOrder (λ x y. R (attachment x) (attachment y)) rows
order_mapped R [] order = tt
order_mapped R (x ∷ xs) order = (unmapped (R (attachment x)) xs order.0, order_mapped R xs order.1)
  where
    unmapped : (P : Link → Type 0) (rows : List Placed) → AllByRecursion P (attachments rows) → AllByRecursion (λ y. P (attachment y)) rows
    unmapped P [] all = tt
    unmapped P (y ∷ ys) all = (all.0, unmapped P ys all.1)

order_follows : {X : Type 0} (R S : X → X → Type 0) → ((x y : X) → R x y → S x y) → (xs : List X) → AllInOrder R xs → AllInOrder S xs
order_follows R S follows [] order = tt
order_follows R S follows (x ∷ xs) order = (all_from_all (R x) (S x) (follows x) xs order.0, order_follows R S follows xs order.1)

-- ranks rise in a run
lower_in_run : (a : ℕ) (xs : List Placed) → AllByRecursion (λ (x : Placed). (x.activity.0 == a) ≡ true) xs → AllInOrder (IsBefore placed_key) xs → AllInOrder IsLower xs
lower_in_run a [] own order = tt
lower_in_run a (x ∷ xs) own order = (all_two (λ (y : Placed). (y.activity.0 == a) ≡ true) (IsBefore placed_key x) (IsLower x) (λ y too before. one y own.0 too before) xs own.1 order.0, lower_in_run a xs own.1 order.1)
  where
    one : (y : Placed) → (x.activity.0 == a) ≡ true → (y.activity.0 == a) ≡ true → IsBefore placed_key x y → x.rank < y.rank
    one y mine too before =
        let pairs = sym (pair_agrees x.activity.0 x.rank y.activity.0 y.rank) ∙ before in
        grind (arith, nat_tests, mine, too, pairs)

pub run_ranks : (a : ℕ) (rows : List Placed) → Rises placed_key rows → AllInOrder IsLower (run rows a)
run_ranks a rows rises = lower_in_run a (run rows a) (all_passed (λ (x : Placed). x.activity.0 == a) rows) (order_filter (IsBefore placed_key) (λ x. x.activity.0 == a) rows (in_order placed_key rows rises))

module _ (es : List Entity) (link : Link) where
  -- the attachment is listed before this one
  abbrev pub is_earlier : Placed → Bool
  is_earlier row = listed_before es (attachment row) link

  pub earlier_down : (rows : List Placed) → IsListing es (attachments rows) → AllInOrder (IsDown is_earlier) rows
  earlier_down rows listing =
      order_follows (λ x y. listed_before es (attachment x) (attachment y) ≡ true) (IsDown is_earlier) (λ x y before low. steps es (attachment x) (attachment y) link before low) rows
      (order_mapped (λ x y. listed_before es x y ≡ true) rows (listing_order es (attachments rows) listing))

  module _ (parents : AreParents es) (there : is_entity es link.entity.0 ≡ true) (rank : ℕ) where
    abbrev row : Placed
    row = record { activity = link.activity; rank = rank; entity = link.entity }

    not_both : (x y : Link) → listed_before es x y ≡ true → listed_before es y x ≡ false
    not_both x y low = not_back (listed_before es) (listed_order es) (listed_total es) (listed_is es) x y low

    own : is_link link.entity.0 link.activity.0 link ≡ true
    own = grind (arith, nat_tests)

    one_later : (x : Placed) → is_entity es x.entity.0 ≡ true → is_link link.entity.0 link.activity.0 (attachment x) ≡ false → is_earlier x ≡ false → listed_before es link (attachment x) ≡ true
    one_later x here apart high = elim (cases_Bool (listed_before es link (attachment x))) [
      | inl low ↦ low
      | inr too ↦ absurd (let wrong = sym own ∙ sym (same_place es parents link.entity.0 link.activity.0 (attachment x) link here there high too) ∙ apart in cc)
    ]

    abbrev IsFit : Placed → Type 0
    IsFit x = (is_earlier x ≡ true → x.rank < rank) × (is_earlier x ≡ false → rank < x.rank)

    agree_low : (x : Placed) → (x.activity.0 == link.activity.0) ≡ true → IsFit x → placed_before x row ≡ listed_before es (attachment x) link
    agree_low x mine fit = elim (cases_Bool (is_earlier x)) [
      | inl low ↦
          let less = fit.0 low in
          let step : pair_before x.activity.0 x.rank link.activity.0 rank ≡ true = grind (arith, nat_tests, mine, less) in
          pair_agrees x.activity.0 x.rank link.activity.0 rank ∙ step ∙ sym low
      | inr high ↦
          let less = fit.1 high in
          let step : pair_before x.activity.0 x.rank link.activity.0 rank ≡ false = grind (arith, nat_tests, mine, less) in
          pair_agrees x.activity.0 x.rank link.activity.0 rank ∙ step ∙ sym high
    ]

    agree_high : (x : Placed) → (x.activity.0 == link.activity.0) ≡ true → is_entity es x.entity.0 ≡ true → is_link link.entity.0 link.activity.0 (attachment x) ≡ false → IsFit x → placed_before row x ≡ listed_before es link (attachment x)
    agree_high x mine here apart fit = elim (cases_Bool (is_earlier x)) [
      | inl low ↦
          let less = fit.0 low in
          let step : pair_before link.activity.0 rank x.activity.0 x.rank ≡ false = grind (arith, nat_tests, mine, less) in
          pair_agrees link.activity.0 rank x.activity.0 x.rank ∙ step ∙ sym (not_both (attachment x) link low)
      | inr high ↦
          let less = fit.1 high in
          let step : pair_before link.activity.0 rank x.activity.0 x.rank ≡ true = grind (arith, nat_tests, mine, less) in
          pair_agrees link.activity.0 rank x.activity.0 x.rank ∙ step ∙ sym (one_later x here apart high)
    ]

    -- among the attachments to its activity it stands in its place
    pub put_in_run : (xs : List Placed) → AllByRecursion (λ (x : Placed). (x.activity.0 == link.activity.0) ≡ true) xs → AllByRecursion (λ x. is_entity es x.entity.0 ≡ true) (attachments xs)
        → AllByRecursion (λ x. is_link link.entity.0 link.activity.0 x ≡ false) (attachments xs) → AllByRecursion (λ x. is_earlier x ≡ true → x.rank < rank) xs → AllByRecursion (λ x. is_earlier x ≡ false → rank < x.rank) xs
        → attachments (put placed_before row xs) ≡ put (listed_before es) link (attachments xs)
    put_in_run xs mine here apart low high =
        put_mapped attachment placed_before (listed_before es) row xs (first xs mine low high) (second xs mine here apart low high)
      where
        first : (xs : List Placed) → AllByRecursion (λ (x : Placed). (x.activity.0 == link.activity.0) ≡ true) xs → AllByRecursion (λ x. is_earlier x ≡ true → x.rank < rank) xs → AllByRecursion (λ x. is_earlier x ≡ false → rank < x.rank) xs
            → AllByRecursion (λ x. placed_before x row ≡ listed_before es (attachment x) link) xs
        first [] mine low high = tt
        first (x ∷ xs) mine low high = (agree_low x mine.0 (low.0, high.0), first xs mine.1 low.1 high.1)

        second : (xs : List Placed) → AllByRecursion (λ (x : Placed). (x.activity.0 == link.activity.0) ≡ true) xs → AllByRecursion (λ x. is_entity es x.entity.0 ≡ true) (attachments xs)
            → AllByRecursion (λ x. is_link link.entity.0 link.activity.0 x ≡ false) (attachments xs) → AllByRecursion (λ x. is_earlier x ≡ true → x.rank < rank) xs → AllByRecursion (λ x. is_earlier x ≡ false → rank < x.rank) xs
            → AllByRecursion (λ x. placed_before row x ≡ listed_before es link (attachment x)) xs
        second [] mine here apart low high = tt
        second (x ∷ xs) mine here apart low high = (agree_high x mine.0 here.0 apart.0 (low.0, high.0), second xs mine.1 here.1 apart.1 low.1 high.1)

-- an attachment that is listed stands in its place
any_position : {X : Type 0} (p : X → Bool) (i : ℕ) (xs : List X) → list_any p xs ≡ true → (n : ℕ) × (position_from p i xs ≡ Some n)
any_position p i [] some = absurd (cc)
any_position p i (x ∷ xs) some = elim (cases_Bool (p x)) [
  | inl passes ↦ (i, rw passes refl)
  | inr fails ↦ let rest = any_position p (i + 1) xs (rw fails at some) in (rest.0, rw fails rest.1)
]

pub listed_already : (es : List Entity) (link : Link) (rows : List Link) → AreParents es → is_entity es link.entity.0 ≡ true → IsListing es rows → is_linked rows link.entity.0 link.activity.0 ≡ true → rows ≡ put (listed_before es) link rows
listed_already es link rows parents there listing linked =
    let at = any_position (is_link link.entity.0 link.activity.0) 0 rows linked in
    put_there es link parents there at.0 rows listing at.1

-- what follows of the one there may be
pub some_follows : {X : Type 0} (P Q : X → Type 0) (r : Option X) → ((x : X) → P x → Q x) → IfSome r P → IfSome r Q
some_follows P Q None follows holds = tt
some_follows P Q (Some x) follows holds = follows x holds

-- an attachment that has such a rank stands in its place among all
module _ (es : List Entity) (link : Link) (parents : AreParents es) (there : is_entity es link.entity.0 ≡ true) (rank : ℕ) (rows more : List Placed) (is : more ≡ put placed_before (record { activity = link.activity; rank = rank; entity = link.entity }) rows) where
  pub put_ranked : Rises placed_key more → IsListing es (attachments rows) → is_linked (attachments rows) link.entity.0 link.activity.0 ≡ false
      → AllByRecursion (λ x. is_earlier es link x ≡ true → x.rank < rank) (run rows link.activity.0) → AllByRecursion (λ x. is_earlier es link x ≡ false → rank < x.rank) (run rows link.activity.0)
      → attachments more ≡ put (listed_before es) link (attachments rows)
  put_ranked rises listing absent low high =
      inserted es link (attachments rows) (attachments more) listing (placed_by_activity more rises) (put_listing es link (attachments rows) there listing) own others
    where
      own : links_on (attachments more) link.activity.0 ≡ put (listed_before es) link (links_on (attachments rows) link.activity.0)
      own =
          let here = subst (λ links. AllByRecursion (λ (x : Link). is_entity es x.entity.0 ≡ true) links) (run_is rows link.activity.0) (run_listed es (attachments rows) link.activity.0 listing).there in
          let apart = subst (λ links. AllByRecursion (λ (x : Link). is_link link.entity.0 link.activity.0 x ≡ false) links) (run_is rows link.activity.0)
          (all_filter (λ (x : Link). is_link link.entity.0 link.activity.0 x ≡ false) (λ l. l.activity.0 == link.activity.0) (attachments rows) (each_fails (is_link link.entity.0 link.activity.0) (attachments rows) absent)) in
          run_is more link.activity.0
          ∙ ap attachments (put_own (record { activity = link.activity; rank = rank; entity = link.entity }) rows more is)
          ∙ put_in_run es link parents there rank (run rows link.activity.0) (all_passed (λ (x : Placed). x.activity.0 == link.activity.0) rows) here apart low high
          ∙ ap (put (listed_before es) link) (sym (run_is rows link.activity.0))

      others : (b : ℕ) → (b == link.activity.0) ≡ false → links_on (attachments more) b ≡ links_on (attachments rows) b
      others b apart = let turned : (link.activity.0 == b) ≡ false = grind (arith, nat_tests, apart) in put_other (record { activity = link.activity; rank = rank; entity = link.entity }) rows more is b turned
