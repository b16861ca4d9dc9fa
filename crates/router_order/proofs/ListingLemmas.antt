-- A list of attachments that rises by path, put in order, changed, and read from a place on.
use Rattle.std.proofs.Common.{◌≡◌, ℕ, zero, suc, ◌+◌, ◌==◌, Bool, true, false, cond, List, [], ◌∷◌, ◌++◌, Some, None, refl, sym, ap, subst, ◌∙◌, arith, inl, inr, slice_get}
use Rattle.std.specs.Prelude.{◌&&◌, ◌||◌, not, nat_lt, nat_le, set}
use Rattle.std.specs.List.{AllByRecursion, filter, insert, position_from, prefix_len}
use Rattle.std.specs.Ordering.{is_eq}
use Rattle.std.proofs.lemmas.Cmp.{tied_itself}
use Rattle.std.proofs.lemmas.Bool.{cases_Bool, cond_both, and_parts}
use Rattle.std.proofs.lemmas.Bool.Decides.{nat_tests}
use Rattle.router_state.specs.declared.rows.Entity.{Entity}
use Rattle.router_state.specs.declared.rows.Link.{Link}
use Rattle.rows_sorted.specs.Orders.{put, rises_by, same_pair}
use Rattle.router_state.specs.Contexts.{is_link, is_linked, with_link, without_link, without_links_on}
use Rattle.rows_sorted.proofs.OrderLemmas.{AllInOrder, all_filter, all_from_all, order_filter}
use Rattle.rows_sorted.proofs.HalvingLemmas.{PlacesBy, absent_from, found, position_at}
use Rattle.rows_sorted.proofs.RowLemmas.{PartedBy, inserted_is, replaced_is}
use Rattle.entity_tree.specs.Kept.{AreParents, is_entity}
use Rattle.entity_tree.proofs.ListLemmas.{all_joined}
use Rattle.router_order.specs.Listed.{Agrees, IsByActivity, IsListing, listed_before}
use Rattle.router_order.proofs.LinkLemmas.{put_any, same_numbers, with_link_linked, without_link_linked, without_links_on_linked}
use Rattle.router_order.proofs.PathOrder.{joins, listed_is, listed_order, listed_total, one_link, parted}

pub true_both : (a b : Bool) → a ≡ true → b ≡ true → (a && b) ≡ true
true_both true true passes also = refl
true_both true false passes also = cc
true_both false b passes also = cc

module _ {Row : Type 0} (before : Row → Row → Bool) (steps : (x y z : Row) → before x y ≡ true → before y z ≡ true → before x z ≡ true) where
  pub in_order : (rows : List Row) → rises_by before rows ≡ true → AllInOrder (λ x y. before x y ≡ true) rows
  in_order [] rises = tt
  in_order (x ∷ []) rises = (tt, tt)
  in_order (x ∷ y ∷ rows) rises =
      let parts = and_parts (before x y) (rises_by before (y ∷ rows)) rises in
      let later = in_order (y ∷ rows) parts.1 in
      ((parts.0, all_from_all (λ z. before y z ≡ true) (λ z. before x z ≡ true) (λ z behind. steps x y z parts.0 behind) rows later.0), later)

  pub rises_again : (rows : List Row) → AllInOrder (λ x y. before x y ≡ true) rows → rises_by before rows ≡ true
  rises_again [] order = refl
  rises_again (x ∷ []) order = refl
  rises_again (x ∷ y ∷ rows) order = true_both _ _ order.0.0 (rises_again (y ∷ rows) order.1)

  all_pass : (p : Row → Bool) (rows : List Row) → AllByRecursion (λ x. p x ≡ true) (filter p rows)
  all_pass p [] = tt
  all_pass p (x ∷ xs) = cond_both (p x) (x ∷ filter p xs) (filter p xs) (AllByRecursion (λ x. p x ≡ true)) (λ passes. (passes, all_pass p xs)) (λ _. all_pass p xs)

  order_joined : (xs : List Row) (y : Row) (zs : List Row) → AllInOrder (λ x y. before x y ≡ true) xs → AllByRecursion (λ x. before x y ≡ true) xs → AllByRecursion (λ z. before y z ≡ true) zs
      → AllInOrder (λ x y. before x y ≡ true) zs → AllInOrder (λ x y. before x y ≡ true) (xs ++ y ∷ zs)
  order_joined [] y zs order low high later = (high, later)
  order_joined (x ∷ xs) y zs order low high later =
      (all_joined (λ z. before x z ≡ true) xs (y ∷ zs) order.0 (low.0, all_from_all (λ z. before y z ≡ true) (λ z. before x z ≡ true) (λ z above. steps x y z low.0 above) zs high), order_joined xs y zs order.1 low.1 high later)

  -- a row that is put in its place
  pub put_in_order : (row : Row) (rows : List Row) → AllInOrder (λ x y. before x y ≡ true) rows → AllInOrder (λ x y. before x y ≡ true) (put before row rows)
  put_in_order row rows order =
      order_joined (filter (λ x. before x row) rows) row (filter (λ x. before row x) rows)
      (order_filter (λ x y. before x y ≡ true) (λ x. before x row) rows order) (all_pass (λ x. before x row) rows) (all_pass (λ x. before row x) rows) (order_filter (λ x y. before x y ≡ true) (λ x. before row x) rows order)

-- activities that don't fall
abbrev pub IsNotAbove : Link → Link → Type 0
IsNotAbove x y = nat_le x.activity.0 y.activity.0 ≡ true

pub activity_order : (rows : List Link) → IsByActivity rows → AllInOrder IsNotAbove rows
activity_order rows rises = in_order (λ x y. nat_le x.activity.0 y.activity.0) (λ x y z one two. grind (arith, nat_tests, one, two)) rows rises

module _ (es : List Entity) where
  pub steps : (x y z : Link) → listed_before es x y ≡ true → listed_before es y z ≡ true → listed_before es x z ≡ true
  steps x y z one two = joins (listed_before es) (listed_order es) (listed_total es) (listed_is es) x y z one two

  pub parted_at : (k : Link) → PartedBy (λ x y. listed_before es x y ≡ true) (λ x. listed_before es x k) (λ x. is_eq (listed_order es x k)) (λ x. listed_before es k x)
  parted_at k = parted (listed_before es) (listed_order es) (listed_total es) (listed_is es) k

  pub listing_order : (rows : List Link) → IsListing es rows → AllInOrder (λ x y. listed_before es x y ≡ true) rows
  listing_order rows listing = in_order (listed_before es) steps rows listing.rises

  -- a list that rises by path on each activity has the activities side by side
  pub by_activity : (rows : List Link) → IsListing es rows → IsByActivity rows
  by_activity rows listing = only_activity rows listing.rises
    where
      not_above : (x y : Link) → listed_before es x y ≡ true → nat_le x.activity.0 y.activity.0 ≡ true
      not_above x y low = elim (cases_Bool (nat_lt x.activity.0 y.activity.0)) [
        | inl lower ↦ grind (arith, nat_tests, lower)
        | inr other ↦ elim (cases_Bool (x.activity.0 == y.activity.0)) [
          | inl same ↦ grind (arith, nat_tests, same)
          | inr apart ↦ absurd (let wrong : false ≡ true = rw (other, apart) at low in cc)
        ]
      ]

      only_activity : (rows : List Link) → rises_by (listed_before es) rows ≡ true → rises_by (λ x y. nat_le x.activity.0 y.activity.0) rows ≡ true
      only_activity [] rises = refl
      only_activity (x ∷ []) rises = refl
      only_activity (x ∷ y ∷ rows) rises =
          let parts = and_parts (listed_before es x y) (rises_by (listed_before es) (y ∷ rows)) rises in
          true_both _ _ (not_above x y parts.0) (only_activity (y ∷ rows) parts.1)

  pub filter_listing : (p : Link → Bool) (rows : List Link) → IsListing es rows → IsListing es (filter p rows)
  filter_listing p rows listing = record {
    rises = rises_again (listed_before es) steps (filter p rows) (order_filter (λ x y. listed_before es x y ≡ true) p rows (listing_order rows listing));
    there = all_filter (λ row. is_entity es row.entity.0 ≡ true) p rows listing.there;
  }

  pub put_listing : (row : Link) (rows : List Link) → is_entity es row.entity.0 ≡ true → IsListing es rows → IsListing es (put (listed_before es) row rows)
  put_listing row rows there listing = record {
    rises = rises_again (listed_before es) steps (put (listed_before es) row rows) (put_in_order (listed_before es) steps row rows (listing_order rows listing));
    there = all_joined (λ row. is_entity es row.entity.0 ≡ true) _ _ (all_filter (λ row. is_entity es row.entity.0 ≡ true) _ rows listing.there) (there, all_filter (λ row. is_entity es row.entity.0 ≡ true) _ rows listing.there);
  }

  module _ (parents : AreParents es) where
    -- two attachments of entities that are there and of which neither is listed before the other are the same
    pub same_place : (f b : ℕ) (x y : Link) → is_entity es x.entity.0 ≡ true → is_entity es y.entity.0 ≡ true → listed_before es x y ≡ false → listed_before es y x ≡ false → is_link f b x ≡ is_link f b y
    same_place f b x y there also one two =
        let laws = parted_at y in
        let tied : is_eq (listed_order es x y) ≡ true = elim (cases_Bool (is_eq (listed_order es x y))) [
          | inl does ↦ does
          | inr doesnt ↦ absurd (let wrong = laws.neither x one doesnt in cc)
        ] in
        let same = one_link es parents x y there also tied in
        rw (same.0, same.1) refl

    -- who is listed once an attachment is
    pub put_linked : (row : Link) (rows : List Link) (f b : ℕ) → is_entity es row.entity.0 ≡ true → AllByRecursion (λ x. is_entity es x.entity.0 ≡ true) rows
        → is_linked (put (listed_before es) row rows) f b ≡ (is_link f b row || is_linked rows f b)
    put_linked row rows f b there all =
        put_any (is_link f b) (listed_before es) row rows
        (all_from_all (λ x. is_entity es x.entity.0 ≡ true) (λ x. listed_before es x row ≡ false → listed_before es row x ≡ false → is_link f b x ≡ is_link f b row) (λ x here one two. same_place f b x row here there one two) rows all)

    -- an attachment more
    pub attach_agrees : (row : Link) (rows links : List Link) → is_entity es row.entity.0 ≡ true → Agrees es links rows → Agrees es (with_link links row.entity.0 row.activity.0) (put (listed_before es) row rows)
    attach_agrees row rows links there agrees = record {
      listing = put_listing row rows there agrees.listing;
      members = λ f b. put_linked row rows f b there agrees.listing.there ∙ ap (λ c. is_link f b row || c) (agrees.members f b) ∙ sym (with_link_linked links row.entity.0 row.activity.0 f b);
    }

  -- an attachment less
  pub detach_agrees : (e a : ℕ) (rows links : List Link) → Agrees es links rows → Agrees es (without_link links e a) (without_link rows e a)
  detach_agrees e a rows links agrees = record {
    listing = filter_listing _ rows agrees.listing;
    members = λ f b. without_link_linked rows e a f b ∙ ap (λ c. not (same_pair f b e a) && c) (agrees.members f b) ∙ sym (without_link_linked links e a f b);
  }

  -- no attachment to an activity
  pub forget_agrees : (a : ℕ) (rows links : List Link) → Agrees es links rows → Agrees es (without_links_on links a) (without_links_on rows a)
  forget_agrees a rows links agrees = record {
    listing = filter_listing _ rows agrees.listing;
    members = λ f b. without_links_on_linked rows a f b ∙ ap (λ c. not (b == a) && c) (agrees.members f b) ∙ sym (without_links_on_linked links a f b);
  }

-- what each change leaves of a list that rises
module _ (es : List Entity) where
  pub put_keeps : (row : Link) (rows more : List Link) → more ≡ put (listed_before es) row rows → is_entity es row.entity.0 ≡ true → IsListing es rows → IsListing es more
  put_keeps row rows more is there listing = subst (λ (all : List Link). IsListing es all) (sym is) (put_listing es row rows there listing)

  pub filter_keeps : (p : Link → Bool) (rows fewer : List Link) → fewer ≡ filter p rows → IsListing es rows → IsListing es fewer
  filter_keeps p rows fewer is listing = subst (λ (all : List Link). IsListing es all) (sym is) (filter_listing es p rows listing)

  pub attached : (row : Link) (rows more links : List Link) → more ≡ put (listed_before es) row rows → AreParents es → is_entity es row.entity.0 ≡ true → Agrees es links rows → Agrees es (with_link links row.entity.0 row.activity.0) more
  attached row rows more links is parents there agrees = subst (λ (all : List Link). Agrees es (with_link links row.entity.0 row.activity.0) all) (sym is) (attach_agrees es parents row rows links there agrees)

  pub detached : (e a : ℕ) (rows fewer links : List Link) → fewer ≡ without_link rows e a → Agrees es links rows → Agrees es (without_link links e a) fewer
  detached e a rows fewer links is agrees = subst (λ (all : List Link). Agrees es (without_link links e a) all) (sym is) (detach_agrees es e a rows links agrees)

  pub forgotten : (a : ℕ) (rows fewer links : List Link) → fewer ≡ without_links_on rows a → Agrees es links rows → Agrees es (without_links_on links a) fewer
  forgotten a rows fewer links is agrees = subst (λ (all : List Link). Agrees es (without_links_on links a) all) (sym is) (forget_agrees es a rows links agrees)

-- two attachments of the same numbers are one
pub same_link : (x y : Link) → x.entity.0 ≡ y.entity.0 → x.activity.0 ≡ y.activity.0 → x ≡ y
same_link x y entities activities = λ i. record { entity = record { 0 = entities i }; activity = record { 0 = activities i } }

agree_from : (p q : Link → Bool) (i : ℕ) (rows : List Link) → AllByRecursion (λ x. p x ≡ q x) rows → position_from p i rows ≡ position_from q i rows
agree_from p q i [] all = refl
agree_from p q i (x ∷ xs) all = rw all.0 (ap (λ rest. cond (q x) (Some i) rest) (agree_from p q (i + 1) xs all.1))

set_there : (k : Link) (n : ℕ) (rows : List Link) → slice_get rows n ≡ Some k → set rows n k ≡ rows
set_there k n [] is = cc
set_there k zero (x ∷ xs) is = let same : x ≡ k = cc in ap (λ y. y ∷ xs) (sym same)
set_there k (suc n) (x ∷ xs) is = ap (λ rest. x ∷ rest) (set_there k n xs is)

module _ (es : List Entity) (k : Link) where
  -- an attachment of the same numbers stands in the same place
  mine_tied : (x : Link) → is_link k.entity.0 k.activity.0 x ≡ true → is_eq (listed_order es x k) ≡ true
  mine_tied x is =
      let same = same_numbers x k.entity.0 k.activity.0 is in
      let one : x ≡ k = same_link x k same.0 same.1 in
      ap (λ y. is_eq (listed_order es y k)) one ∙ ap is_eq (tied_itself (listed_total es) k)

  other_place : (x : Link) → is_eq (listed_order es x k) ≡ false → is_link k.entity.0 k.activity.0 x ≡ false
  other_place x apart = elim (cases_Bool (is_link k.entity.0 k.activity.0 x)) [
    | inl mine ↦ absurd (let wrong = mine_tied x mine in cc)
    | inr other ↦ other
  ]

  pub link_places : PlacesBy (λ x y. listed_before es x y ≡ true) (λ x. listed_before es x k) (is_link k.entity.0 k.activity.0)
  link_places = record {
    before = λ x low. other_place x ((parted_at es k).low_apart x low);
    later = λ x y rises high. other_place y ((parted_at es k).later_apart x y rises high);
    once = λ x y rises mine. other_place y ((parted_at es k).later_apart x y rises ((parted_at es k).mine_not_low x (mine_tied x mine)));
  }

  -- the place of the attachment, from how many rows are listed before it
  pub link_place : (n : ℕ) (rows : List Link) → AllInOrder (λ x y. listed_before es x y ≡ true) rows → n ≡ prefix_len (λ x. listed_before es x k) rows
      → position_from (is_link k.entity.0 k.activity.0) 0 rows ≡ found (is_link k.entity.0 k.activity.0) (slice_get rows n) n
  link_place n rows order is =
      let none : 0 + n ≡ n = omega arith in
      let at = position_at (λ x y. listed_before es x y ≡ true) (λ x. listed_before es x k) (is_link k.entity.0 k.activity.0) link_places 0 rows order in
      let moved = rw (← is, none) at at in
      moved

  module _ (parents : AreParents es) (there : is_entity es k.entity.0 ≡ true) where
    tests_agree : (x : Link) → is_entity es x.entity.0 ≡ true → is_link k.entity.0 k.activity.0 x ≡ is_eq (listed_order es x k)
    tests_agree x here = elim (cases_Bool (is_eq (listed_order es x k))) [
      | inl tied ↦
          let same = one_link es parents x k here there tied in
          let itself : is_link k.entity.0 k.activity.0 k ≡ true = grind (arith, nat_tests) in
          ap (is_link k.entity.0 k.activity.0) (same_link x k same.0 same.1) ∙ itself ∙ sym tied
      | inr apart ↦ other_place x apart ∙ sym apart
    ]

    all_agree : (rows : List Link) → AllByRecursion (λ x. is_entity es x.entity.0 ≡ true) rows → AllByRecursion (λ x. is_link k.entity.0 k.activity.0 x ≡ is_eq (listed_order es x k)) rows
    all_agree rows all = all_from_all (λ (x : Link). is_entity es x.entity.0 ≡ true) (λ x. is_link k.entity.0 k.activity.0 x ≡ is_eq (listed_order es x k)) tests_agree rows all

    -- an attachment that is listed stands in its place
    pub put_there : (n : ℕ) (rows : List Link) → IsListing es rows → position_from (is_link k.entity.0 k.activity.0) 0 rows ≡ Some n → rows ≡ put (listed_before es) k rows
    put_there n rows listing is =
        let tied = sym (agree_from (is_link k.entity.0 k.activity.0) (λ x. is_eq (listed_order es x k)) 0 rows (all_agree rows listing.there)) ∙ is in
        let place = replaced_is _ _ _ _ (parted_at es k) k n rows (listing_order es rows listing) tied in
        sym (set_there k n rows (found_at n rows is)) ∙ place
      where
        found_from : (i n : ℕ) (rows : List Link) → position_from (is_link k.entity.0 k.activity.0) i rows ≡ Some n → (j : ℕ) × (n ≡ i + j) × (slice_get rows j ≡ Some k)
        found_from i n [] is = cc
        found_from i n (x ∷ xs) is = elim (cases_Bool (is_link k.entity.0 k.activity.0 x)) [
          | inl mine ↦
              let first : Some i ≡ Some n = rw mine at is in
              let same : i ≡ n = cc in
              let numbers = same_numbers x k.entity.0 k.activity.0 mine in
              (0, omega (arith, same), ap Some (same_link x k numbers.0 numbers.1))
          | inr other ↦
              let rest = found_from (i + 1) n xs (rw other at is) in
              (suc rest.0, omega (arith, rest.1), rest.2)
        ]

        found_at : (n : ℕ) (rows : List Link) → position_from (is_link k.entity.0 k.activity.0) 0 rows ≡ Some n → slice_get rows n ≡ Some k
        found_at n rows is =
            let rest = found_from 0 n rows is in
            let same : n ≡ rest.0 = omega (arith, rest.1) in
            rw same rest.2

    -- an attachment that isn't listed goes behind those before it
    pub put_new : (rows : List Link) → IsListing es rows → position_from (is_link k.entity.0 k.activity.0) 0 rows ≡ None → insert rows (prefix_len (λ x. listed_before es x k) rows) k ≡ put (listed_before es) k rows
    put_new rows listing is =
        let none = sym (agree_from (is_link k.entity.0 k.activity.0) (λ x. is_eq (listed_order es x k)) 0 rows (all_agree rows listing.there)) ∙ is in
        inserted_is _ _ _ _ (parted_at es k) k rows (listing_order es rows listing) (absent_from (λ x. is_eq (listed_order es x k)) 0 rows none)
