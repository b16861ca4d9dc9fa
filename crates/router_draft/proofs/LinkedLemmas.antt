-- The activities to which an entity is attached after changes.
use Rattle.std.proofs.Common.{◌≡◌, ℕ, ◌==◌, Bool, true, false, List, [], ◌∷◌, ◌++◌, refl, arith, inl, inr, ap, ◌∙◌, nat_lt}
use Rattle.std.specs.Prelude.{not, filter, map}
use Rattle.std.specs.List.{fold, AllByRecursion}
use Rattle.std.proofs.lemmas.Bool.{cases_Bool, and_parts}
use Rattle.std.proofs.lemmas.Bool.Decides.{nat_tests}
use Rattle.std.proofs.lemmas.List.{map-append}
use Rattle.std.proofs.lemmas.List.Elements.{filter-append}
use Rattle.router_state.specs.State.{State}
use Rattle.rows_sorted.specs.Orders.{put, pair_before, rises_by}
use Rattle.router_state.specs.Ordered.{IsOrdered}
use Rattle.router_state.specs.Contexts.{activities_of, is_link, link_before, with_link, without_link, without_links_on}
use Rattle.router_state.specs.Changes.{after_change, after_changes}
use Rattle.router_state.specs.declared.change.Change.{Change}
use Rattle.router_state.specs.declared.change.Change.TheVariants as changes
use Rattle.router_state.specs.declared.rows.Link.{Link}
use Rattle.router_laws.proofs.RisingLemmas.{put_rises, filter_rises}
use Rattle.router_draft.specs.After.{activities_after}

number_same : (a b : ℕ) → (a == b) ≡ true → a ≡ b
number_same a b is = grind (arith, nat_tests)

-- filters of the activities

cut_one : (e a : ℕ) (links : List Link) → activities_of (without_link links e a) e ≡ filter (λ b. not (b == a)) (activities_of links e)
cut_one e a [] = refl
cut_one e a (l ∷ ls) = elim (cases_Bool (l.entity.0 == e)) [
  | inl own ↦ elim (cases_Bool (l.activity.0 == a)) [
    | inl here ↦ rw (own, here) (cut_one e a ls)
    | inr there ↦ rw (own, there, own) (ap (λ more. l.activity.0 ∷ more) (cut_one e a ls))
  ]
  | inr other ↦ rw (other, other) (cut_one e a ls)
]

apart_link : (e e' a : ℕ) (l : Link) → (l.entity.0 == e) ≡ true → (e' == e) ≡ false → is_link e' a l ≡ false
apart_link e e' a l own apart = grind (arith, nat_tests)

cut_other : (e e' a : ℕ) (links : List Link) → (e' == e) ≡ false → activities_of (without_link links e' a) e ≡ activities_of links e
cut_other e e' a [] apart = refl
cut_other e e' a (l ∷ ls) apart = elim (cases_Bool (l.entity.0 == e)) [
  | inl own ↦
      let stays : is_link e' a l ≡ false = apart_link e e' a l own apart in
      rw (stays, own) (ap (λ more. l.activity.0 ∷ more) (cut_other e e' a ls apart))
  | inr other ↦ elim (cases_Bool (is_link e' a l)) [
    | inl goes ↦ rw (goes, other) (cut_other e e' a ls apart)
    | inr stays ↦ rw (stays, other) (cut_other e e' a ls apart)
  ]
]

cut_all : (e a : ℕ) (links : List Link) → activities_of (without_links_on links a) e ≡ filter (λ b. not (b == a)) (activities_of links e)
cut_all e a [] = refl
cut_all e a (l ∷ ls) = elim (cases_Bool (l.activity.0 == a)) [
  | inl here ↦ elim (cases_Bool (l.entity.0 == e)) [
    | inl own ↦ rw (here, own, here) (cut_all e a ls)
    | inr other ↦ rw (here, other) (cut_all e a ls)
  ]
  | inr there ↦ elim (cases_Bool (l.entity.0 == e)) [
    | inl own ↦ rw (there, own, there) (ap (λ more. l.activity.0 ∷ more) (cut_all e a ls))
    | inr other ↦ rw (there, other) (cut_all e a ls)
  ]
]

-- an attachment of the entity itself

low_itself : (e : ℕ) (b a : ℕ) → pair_before b e a e ≡ nat_lt b a
low_itself e b a = grind (arith, nat_tests)

own_ahead : (e a : ℕ) (links : List Link)
    → map (λ (l : Link). l.activity.0) (filter (λ (l : Link). l.entity.0 == e) (filter (λ l. link_before l (record { entity = record { 0 = e }; activity = record { 0 = a } })) links))
    ≡ filter (λ b. nat_lt b a) (activities_of links e)
own_ahead e a [] = refl
own_ahead e a (l ∷ ls) = elim (cases_Bool (l.entity.0 == e)) [
  | inl own ↦
      let is : link_before l (record { entity = record { 0 = e }; activity = record { 0 = a } }) ≡ nat_lt l.activity.0 a = ap (λ b. pair_before l.activity.0 b a e) (number_same l.entity.0 e own) ∙ low_itself e l.activity.0 a in
      elim (cases_Bool (nat_lt l.activity.0 a)) [
        | inl low ↦ let ahead = is ∙ low in rw (own, ahead, own, low) (ap (λ more. l.activity.0 ∷ more) (own_ahead e a ls))
        | inr high ↦ let behind = is ∙ high in rw (own, behind, high) (own_ahead e a ls)
      ]
  | inr other ↦ elim (cases_Bool (link_before l (record { entity = record { 0 = e }; activity = record { 0 = a } }))) [
    | inl ahead ↦ rw (ahead, other) (own_ahead e a ls)
    | inr behind ↦ rw (behind, other) (own_ahead e a ls)
  ]
]

own_behind : (e a : ℕ) (links : List Link)
    → map (λ (l : Link). l.activity.0) (filter (λ (l : Link). l.entity.0 == e) (filter (λ l. link_before (record { entity = record { 0 = e }; activity = record { 0 = a } }) l) links))
    ≡ filter (λ b. nat_lt a b) (activities_of links e)
own_behind e a [] = refl
own_behind e a (l ∷ ls) = elim (cases_Bool (l.entity.0 == e)) [
  | inl own ↦
      let is : link_before (record { entity = record { 0 = e }; activity = record { 0 = a } }) l ≡ nat_lt a l.activity.0 = ap (λ b. pair_before a e l.activity.0 b) (number_same l.entity.0 e own) ∙ low_itself e a l.activity.0 in
      elim (cases_Bool (nat_lt a l.activity.0)) [
        | inl low ↦ let ahead = is ∙ low in rw (own, ahead, own, low) (ap (λ more. l.activity.0 ∷ more) (own_behind e a ls))
        | inr high ↦ let behind = is ∙ high in rw (own, behind, high) (own_behind e a ls)
      ]
  | inr other ↦ elim (cases_Bool (link_before (record { entity = record { 0 = e }; activity = record { 0 = a } }) l)) [
    | inl ahead ↦ rw (ahead, other) (own_behind e a ls)
    | inr behind ↦ rw (behind, other) (own_behind e a ls)
  ]
]

number_itself : (e : ℕ) → (e == e) ≡ true
number_itself e = grind (arith, nat_tests)

put_own : (e a : ℕ) (links : List Link) → activities_of (with_link links e a) e ≡ put nat_lt a (activities_of links e)
put_own e a links =
    let row : Link = record { entity = record { 0 = e }; activity = record { 0 = a } } in
    let mine : Link → Bool = λ l. l.entity.0 == e in
    let first = filter (λ l. link_before l row) links in
    let last = filter (λ l. link_before row l) links in
    let split : filter mine (first ++ row ∷ last) ≡ filter mine first ++ row ∷ filter mine last = filter-append mine first (row ∷ last) ∙ (rw (number_itself e) refl) in
    ap (map (λ (l : Link). l.activity.0)) split
    ∙ map-append (λ (l : Link). l.activity.0) (filter mine first) (row ∷ filter mine last)
    ∙ (rw (own_ahead e a links, own_behind e a links) refl)

-- an attachment of another entity

chain : (x y z : Link) → link_before x y ≡ true → link_before y z ≡ true → link_before x z ≡ true
chain x y z one two = grind (arith, nat_tests)

one_way : (x y : Link) → link_before x y ≡ true → link_before y x ≡ false
one_way x y is = grind (arith, nat_tests)

all_behind : (row x : Link) (xs : List Link) → rises_by link_before (x ∷ xs) ≡ true → link_before row x ≡ true → AllByRecursion (λ y. link_before row y ≡ true) (x ∷ xs)
all_behind row x [] rises is = (is, tt)
all_behind row x (y ∷ ys) rises is =
    let parts = and_parts (link_before x y) (rises_by link_before (y ∷ ys)) rises in
    (is, all_behind row y ys parts.1 (chain row x y is parts.0))

none_ahead : (row : Link) (xs : List Link) → AllByRecursion (λ y. link_before row y ≡ true) xs → filter (λ y. link_before y row) xs ≡ []
none_ahead row [] all = refl
none_ahead row (x ∷ xs) all = let ahead = one_way row x all.0 in rw ahead (none_ahead row xs all.1)

rest_behind : (row : Link) (xs : List Link) → AllByRecursion (λ y. link_before row y ≡ true) xs → filter (λ y. link_before row y) xs ≡ xs
rest_behind row [] all = refl
rest_behind row (x ∷ xs) all = rw all.0 (ap (λ more. x ∷ more) (rest_behind row xs all.1))

rises_on : (x : Link) (xs : List Link) → rises_by link_before (x ∷ xs) ≡ true → rises_by link_before xs ≡ true
rises_on x [] rises = refl
rises_on x (y ∷ ys) rises = (and_parts (link_before x y) (rises_by link_before (y ∷ ys)) rises).1

sides : (mine : Link → Bool) (row : Link) (xs : List Link) → rises_by link_before xs ≡ true → ((x : Link) → mine x ≡ true → link_before row x ≡ false → link_before x row ≡ true)
    → filter mine (filter (λ y. link_before y row) xs) ++ filter mine (filter (λ y. link_before row y) xs) ≡ filter mine xs
sides mine row [] rises ahead = refl
sides mine row (x ∷ xs) rises ahead = elim (cases_Bool (link_before row x)) [
  | inl behind ↦
      let all = all_behind row x xs rises behind in
      rw (none_ahead row (x ∷ xs) all, rest_behind row (x ∷ xs) all) refl
  | inr not_behind ↦ elim (cases_Bool (mine x)) [
    | inl own ↦
        let first = ahead x own not_behind in
        rw (not_behind, first, own) (ap (λ more. x ∷ more) (sides mine row xs (rises_on x xs rises) ahead))
    | inr other ↦ elim (cases_Bool (link_before x row)) [
      | inl first ↦ rw (not_behind, first, other) (sides mine row xs (rises_on x xs rises) ahead)
      | inr level ↦ rw (not_behind, level, other) (sides mine row xs (rises_on x xs rises) ahead)
    ]
  ]
]

ahead_of : (e e' a : ℕ) (x : Link) → (e' == e) ≡ false → (x.entity.0 == e) ≡ true → link_before (record { entity = record { 0 = e' }; activity = record { 0 = a } }) x ≡ false → link_before x (record { entity = record { 0 = e' }; activity = record { 0 = a } }) ≡ true
ahead_of e e' a x apart own behind = grind (arith, nat_tests)

put_other : (e e' a : ℕ) (links : List Link) → rises_by link_before links ≡ true → (e' == e) ≡ false → activities_of (with_link links e' a) e ≡ activities_of links e
put_other e e' a links rises apart =
    let row : Link = record { entity = record { 0 = e' }; activity = record { 0 = a } } in
    let mine : Link → Bool = λ l. l.entity.0 == e in
    let first = filter (λ l. link_before l row) links in
    let last = filter (λ l. link_before row l) links in
    let split : filter mine (first ++ row ∷ last) ≡ filter mine first ++ filter mine last = filter-append mine first (row ∷ last) ∙ (rw apart refl) in
    ap (map (λ (l : Link). l.activity.0)) (split ∙ sides mine row links rises (λ x own behind. ahead_of e e' a x apart own behind))

-- behind one change, and behind several

activities_is : (e : ℕ) (c : Change) (s : State) → rises_by link_before s.links ≡ true → activities_of (after_change c s).links e ≡ activities_after c e (activities_of s.links e)
activities_is e (changes.Attach e' a) s rises = elim (cases_Bool (e'.0 == e)) [
  | inl own ↦ let is = number_same e'.0 e own in rw (own, is) (put_own e a.0 s.links)
  | inr other ↦ rw other (put_other e e'.0 a.0 s.links rises other)
]
activities_is e (changes.Detach e' a) s rises = elim (cases_Bool (e'.0 == e)) [
  | inl own ↦ let is = number_same e'.0 e own in rw (own, is) (cut_one e a.0 s.links)
  | inr other ↦ rw other (cut_other e e'.0 a.0 s.links other)
]
activities_is e (changes.DropContext a) s rises = cut_all e a.0 s.links
activities_is e _ s rises = refl

links_rise : (c : Change) (s : State) → rises_by link_before s.links ≡ true → rises_by link_before (after_change c s).links ≡ true
links_rise (changes.Attach e a) s rises = put_rises link_before chain (record { entity = record { 0 = e.0 }; activity = record { 0 = a.0 } }) s.links rises
links_rise (changes.Detach e a) s rises = filter_rises link_before chain (λ l. not (is_link e.0 a.0 l)) s.links rises
links_rise (changes.DropContext a) s rises = filter_rises link_before chain (λ (l : Link). not (l.activity.0 == a.0)) s.links rises
links_rise _ s rises = rises

all_through : (e : ℕ) (cs : List Change) (s : State) → rises_by link_before s.links ≡ true → activities_of (after_changes cs s).links e ≡ fold (λ was c. activities_after c e was) (activities_of s.links e) cs
all_through e [] s rises = refl
all_through e (c ∷ cs) s rises = all_through e cs (after_change c s) (links_rise c s rises) ∙ ap (λ was. fold (λ was c. activities_after c e was) was cs) (activities_is e c s rises)

pub activities_laid : (cs : List Change) (s : State) (e : ℕ) → IsOrdered s → activities_of (after_changes cs s).links e ≡ fold (λ was c. activities_after c e was) (activities_of s.links e) cs
activities_laid cs s e order = all_through e cs s order.links
