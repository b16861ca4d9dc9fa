-- Which entities are attached to an activity, and what is left of this where an attachment is put in or taken out.
use Rattle.std.proofs.Common.{◌≡◌, ℕ, ◌==◌, Bool, true, false, List, [], ◌∷◌, ◌++◌, refl, sym, ap, ◌∙◌, arith, inl, inr}
use Rattle.std.specs.Prelude.{◌&&◌, ◌||◌, not}
use Rattle.std.specs.List.{AllByRecursion, filter, list_any}
use Rattle.std.proofs.lemmas.Bool.{cases_Bool}
use Rattle.std.proofs.lemmas.Bool.Decides.{nat_tests}
use Rattle.router_state.specs.declared.rows.Link.{Link}
use Rattle.rows_sorted.specs.Orders.{put, same_pair}
use Rattle.router_state.specs.Contexts.{is_link, is_linked, link_before, links_on, with_link, without_link, without_links_on}
use Rattle.entity_tree.proofs.ListLemmas.{all_of_any, and_true}

-- the entity of this number is one of those of the attachments
abbrev pub has : List Link → ℕ → Bool
has links e = list_any (λ l. l.entity.0 == e) links

and_false : (b : Bool) → (b && false) ≡ false
and_false true = refl
and_false false = refl

pub linked_is : (links : List Link) (e a : ℕ) → is_linked links e a ≡ has (links_on links a) e
linked_is [] e a = refl
linked_is (l ∷ ls) e a = elim (cases_Bool (l.activity.0 == a)) [
  | inl mine ↦ rw (mine, and_true (l.entity.0 == e)) (ap (λ b. (l.entity.0 == e) || b) (linked_is ls e a))
  | inr other ↦ rw (other, and_false (l.entity.0 == e)) (linked_is ls e a)
]

pub all_on : (a : ℕ) (links : List Link) → AllByRecursion (λ l. (l.activity.0 == a) ≡ true) (links_on links a)
all_on a [] = tt
all_on a (l ∷ ls) = elim (cases_Bool (l.activity.0 == a)) [
  | inl mine ↦ rw mine (mine, all_on a ls)
  | inr other ↦ rw other (all_on a ls)
]

or_true : (b : Bool) → (b || true) ≡ true
or_true true = refl
or_true false = refl

pub any_joined : {X : Type 0} (t : X → Bool) (xs ys : List X) → list_any t (xs ++ ys) ≡ (list_any t xs || list_any t ys)
any_joined t [] ys = refl
any_joined t (x ∷ xs) ys = elim (cases_Bool (t x)) [ inl does ↦ rw does refl | inr doesnt ↦ rw doesnt (any_joined t xs ys) ]

module _ {X : Type 0} (t : X → Bool) where
  kept_if : (p : X → Bool) (x : X) (xs : List X) → t x ≡ false → list_any t (filter p (x ∷ xs)) ≡ list_any t (filter p xs)
  kept_if p x xs doesnt = elim (cases_Bool (p x)) [ inl goes ↦ rw (goes, doesnt) refl | inr stays ↦ rw stays refl ]

  -- what two filters let through, where one of them lets through each that passes
  covered : (p q : X → Bool) (xs : List X) → AllByRecursion (λ y. p y ≡ false → q y ≡ false → t y ≡ false) xs → (list_any t (filter p xs) || list_any t (filter q xs)) ≡ list_any t xs
  covered p q [] all = refl
  covered p q (x ∷ xs) all = elim (cases_Bool (t x)) [
    | inl does ↦ elim (cases_Bool (p x)) [
      | inl goes ↦ rw (goes, does) refl
      | inr stays ↦ elim (cases_Bool (q x)) [
        | inl goes ↦ rw (stays, goes, does) (or_true (list_any t (filter p xs)))
        | inr also ↦ absurd (let wrong = all.0 stays also in cc)
      ]
    ]
    | inr doesnt ↦ rw (kept_if p x xs doesnt, kept_if q x xs doesnt, doesnt) (covered p q xs all.1)
  ]

  -- what passes of a list into which one was put
  pub put_any : (before : X → X → Bool) (x : X) (xs : List X) → AllByRecursion (λ y. before y x ≡ false → before x y ≡ false → t y ≡ t x) xs
      → list_any t (put before x xs) ≡ (t x || list_any t xs)
  put_any before x xs all =
      any_joined t (filter (λ y. before y x) xs) (x ∷ filter (λ y. before x y) xs) ∙ by (t x) refl
    where
      by : (b : Bool) → t x ≡ b → (list_any t (filter (λ y. before y x) xs) || (t x || list_any t (filter (λ y. before x y) xs))) ≡ (t x || list_any t xs)
      by true is = rw is (or_true (list_any t (filter (λ y. before y x) xs)))
      by false is = rw is (covered (λ y. before y x) (λ y. before x y) xs (none is xs all))
        where
          none : t x ≡ false → (ys : List X) → AllByRecursion (λ y. before y x ≡ false → before x y ≡ false → t y ≡ t x) ys → AllByRecursion (λ y. before y x ≡ false → before x y ≡ false → t y ≡ false) ys
          none is [] all = tt
          none is (y ∷ ys) all = ((λ one two. all.0 one two ∙ is), none is ys all.1)

  filtered_any : (p : X → Bool) (xs : List X) → list_any t (filter p xs) ≡ list_any (λ x. p x && t x) xs
  filtered_any p [] = refl
  filtered_any p (x ∷ xs) = elim (cases_Bool (p x)) [
    | inl goes ↦ rw goes (ap (λ b. t x || b) (filtered_any p xs))
    | inr stays ↦ rw stays (filtered_any p xs)
  ]

  both_any : (c : Bool) (xs : List X) → list_any (λ x. c && t x) xs ≡ (c && list_any t xs)
  both_any true xs = refl
  both_any false [] = refl
  both_any false (x ∷ xs) = both_any false xs

  -- what passes of a filtered list, where the filter answers alike for all that pass
  pub left_any : (p : X → Bool) (c : Bool) (xs : List X) → ((x : X) → t x ≡ true → p x ≡ c) → list_any t (filter p xs) ≡ (c && list_any t xs)
  left_any p c xs alike = filtered_any p xs ∙ (λ i. list_any (λ x. each x i) xs) ∙ both_any c xs
    where
      each : (x : X) → (p x && t x) ≡ (c && t x)
      each x = elim (cases_Bool (t x)) [
        | inl does ↦ rw (alike x does) refl
        | inr doesnt ↦ rw doesnt (and_false (p x) ∙ sym (and_false c))
      ]

pub same_numbers : (l : Link) (e a : ℕ) → is_link e a l ≡ true → (l.entity.0 ≡ e) × (l.activity.0 ≡ a)
same_numbers l e a is = by (l.entity.0 == e) (l.activity.0 == a) refl refl
  where
    by : (b c : Bool) → (l.entity.0 == e) ≡ b → (l.activity.0 == a) ≡ c → (l.entity.0 ≡ e) × (l.activity.0 ≡ a)
    by true true one two = (grind (arith, nat_tests, one), grind (arith, nat_tests, two))
    by true false one two = absurd (let wrong : false ≡ true = rw (one, two) at is in cc)
    by false c one two = absurd (let wrong : false ≡ true = rw one at is in cc)

-- attachments that stand in one place by their numbers are the same
one_place : (l m : Link) → link_before l m ≡ false → link_before m l ≡ false → (l.entity.0 ≡ m.entity.0) × (l.activity.0 ≡ m.activity.0)
one_place l m one two =
    let activities : l.activity.0 ≡ m.activity.0 = grind (arith, nat_tests, one, two) in
    let entities : l.entity.0 ≡ m.entity.0 = grind (arith, nat_tests, one, two) in
    (entities, activities)

-- who is attached once an entity is
pub with_link_linked : (links : List Link) (e a f b : ℕ) → is_linked (with_link links e a) f b ≡ (same_pair e a f b || is_linked links f b)
with_link_linked links e a f b =
    put_any (is_link f b) link_before (record { entity = record { 0 = e }; activity = record { 0 = a } }) links
    (all_of_any (λ y. link_before y (record { entity = record { 0 = e }; activity = record { 0 = a } }) ≡ false → link_before (record { entity = record { 0 = e }; activity = record { 0 = a } }) y ≡ false → is_link f b y ≡ same_pair e a f b)
    (λ y one two. let same = one_place y (record { entity = record { 0 = e }; activity = record { 0 = a } }) one two in rw (same.0, same.1) refl) links)

-- who is attached once an attachment is gone
pub without_link_linked : (links : List Link) (e a f b : ℕ) → is_linked (without_link links e a) f b ≡ (not (same_pair f b e a) && is_linked links f b)
without_link_linked links e a f b =
    left_any (is_link f b) (λ l. not (is_link e a l)) (not (same_pair f b e a)) links
    (λ l is. let same = same_numbers l f b is in rw (same.0, same.1) refl)

-- who is attached once none is to an activity
pub without_links_on_linked : (links : List Link) (a f b : ℕ) → is_linked (without_links_on links a) f b ≡ (not (b == a) && is_linked links f b)
without_links_on_linked links a f b =
    left_any (is_link f b) (λ l. not (l.activity.0 == a)) (not (b == a)) links
    (λ l is. let same = same_numbers l f b is in rw same.1 refl)

or_turned : (a b : Bool) → (b || (a || false)) ≡ (a || b)
or_turned true true = refl
or_turned true false = refl
or_turned false true = refl
or_turned false false = refl

-- who is attached by these and one more
pub linked_more : (rows : List Link) (l : Link) (e a : ℕ) → is_linked (rows ++ l ∷ []) e a ≡ (is_link e a l || is_linked rows e a)
linked_more rows l e a = any_joined (is_link e a) rows (l ∷ []) ∙ or_turned (is_link e a l) (is_linked rows e a)
