-- The activities of an entity are those that the index has under it.
use Rattle.std.proofs.Common.{◌≡◌, ℕ, ◌<◌, ◌≤◌, ◌==◌, Bool, true, false, List, [], ◌∷◌, map, length, refl, sym, ap, subst, ◌∙◌, arith, inl, inr, ◌⊎◌}
use Rattle.std.specs.Prelude.{◌&&◌, ◌||◌, nat_lt, filter}
use Rattle.std.specs.List.{AllByRecursion, list_any}
use Rattle.std.proofs.lemmas.Bool.{cases_Bool}
use Rattle.std.proofs.lemmas.Bool.Decides.{nat_tests}
use Rattle.std.proofs.lemmas.List.{length-map}
use Rattle.router_state.specs.declared.rows.Entity.{Entity}
use Rattle.router_state.specs.declared.rows.Link.{Link}
use Rattle.rows_sorted.specs.Orders.{rises_by}
use Rattle.router_state.specs.Contexts.{activities_of, is_linked, link_before}
use Rattle.rows_sorted.specs.Keys.{Rises}
use Rattle.router_state.specs.Keys.{link_key}
use Rattle.rows_sorted.proofs.OrderLemmas.{AllInOrder, IsBefore, all_from_all, in_order}
use Rattle.router_state.proofs.AgreeLemmas.{link_order}
use Rattle.entity_tree.proofs.ListLemmas.{some_left}
use Rattle.rows_index.specs.declared.entry.Entry.{Entry}
use Rattle.rows_index.specs.Index.{entry_key}
use Rattle.router_order.specs.Listed.{Agrees}
use Rattle.router_order.specs.Placed.{IsIndexed}

-- the number is one of these
abbrev is_in : ℕ → List ℕ → Bool
is_in n xs = list_any (λ x. x == n) xs

none_low : (n : ℕ) (xs : List ℕ) → AllByRecursion (λ x. n < x) xs → is_in n xs ≡ false
none_low n [] all = refl
none_low n (x ∷ xs) all =
    let above = all.0 in
    let apart : (x == n) ≡ false = grind (arith, nat_tests, above) in
    rw apart (none_low n xs all.1)

none_lower : (n m : ℕ) (xs : List ℕ) → n ≤ m → AllByRecursion (λ x. m < x) xs → is_in n xs ≡ false
none_lower n m xs le all = none_low n xs (all_from_all (λ x. m < x) (λ x. n < x) (λ x less. omega (arith, le, less)) xs all)

-- two lists that rise and have the same members are the same
same_members : (xs ys : List ℕ) → AllInOrder (λ x y. x < y) xs → AllInOrder (λ x y. x < y) ys → ((n : ℕ) → is_in n xs ≡ is_in n ys) → xs ≡ ys
same_members [] [] rises also same = refl
same_members [] (y ∷ ys) rises also same = absurd (let own : (y == y) ≡ true = grind (arith, nat_tests) in let wrong : false ≡ true = rw own at (same y) in cc)
same_members (x ∷ xs) [] rises also same = absurd (let own : (x == x) ≡ true = grind (arith, nat_tests) in let wrong : true ≡ false = rw own at (same x) in cc)
same_members (x ∷ xs) (y ∷ ys) rises also same = elim (cases_Bool (x == y)) [
  | inl heads ↦
      let head : x ≡ y = grind (arith, nat_tests, heads) in
      let tails = same_members xs ys rises.1 also.1 (λ n. tail n head (cases_Bool (x == n))) in
      (λ i. head i ∷ tails i)
  | inr apart ↦ elim (cases_Bool (nat_lt x y)) [
    | inl low ↦
        let less : x < y = grind (arith, nat_tests, low) in
        let own : (x == x) ≡ true = grind (arith, nat_tests) in
        let other : (y == x) ≡ false = grind (arith, nat_tests, less) in
        let none = none_lower x y ys (omega (arith, less)) also.0 in
        absurd (let wrong : true ≡ false = rw (own, other, none) at (same x) in cc)
    | inr high ↦
        let less : y < x = grind (arith, nat_tests, high, apart) in
        let own : (y == y) ≡ true = grind (arith, nat_tests) in
        let other : (x == y) ≡ false = grind (arith, nat_tests, less) in
        let none = none_lower y x xs (omega (arith, less)) rises.0 in
        absurd (let wrong : false ≡ true = rw (own, other, none) at (same y) in cc)
  ]
]
  where
    tail : (n : ℕ) → x ≡ y → ((x == n) ≡ true) ⊎ ((x == n) ≡ false) → is_in n xs ≡ is_in n ys
    tail n head (inl mine) =
        let here : n ≤ x = grind (arith, nat_tests, mine) in
        none_lower n x xs here rises.0 ∙ sym (none_lower n y ys (omega (arith, here, head)) also.0)
    tail n head (inr other) =
        let same_other : (y == n) ≡ false = rw (← head) other in
        rw (other, same_other) at (same n)

module _ {X : Type 0} (first second : X → ℕ) (e : ℕ) where
  members : (a : ℕ) (xs : List X) → is_in a (map second (filter (λ x. first x == e) xs)) ≡ list_any (λ x. (first x == e) && (second x == a)) xs
  members a [] = refl
  members a (x ∷ xs) = elim (cases_Bool (first x == e)) [
    | inl mine ↦ rw mine (ap (λ more. (second x == a) || more) (members a xs))
    | inr other ↦ rw other (members a xs)
  ]

  module _ (R : X → X → Type 0) (lower : (x y : X) → R x y → (first x == e) ≡ true → (first y == e) ≡ true → second x < second y) where
    later : (x : X) (xs : List X) → (first x == e) ≡ true → AllByRecursion (R x) xs → AllByRecursion (λ n. second x < n) (map second (filter (λ x. first x == e) xs))
    later x [] mine all = tt
    later x (y ∷ ys) mine all = elim (cases_Bool (first y == e)) [
      | inl also ↦ rw also (lower x y all.0 mine also, later x ys mine all.1)
      | inr other ↦ rw other (later x ys mine all.1)
    ]

    rising : (xs : List X) → AllInOrder R xs → AllInOrder (λ n m. n < m) (map second (filter (λ x. first x == e) xs))
    rising [] order = tt
    rising (x ∷ xs) order = elim (cases_Bool (first x == e)) [
      | inl mine ↦ rw mine (later x xs mine order.0, rising xs order.1)
      | inr other ↦ rw other (rising xs order.1)
    ]

abbrev key_of : Entry → ℕ
key_of entry = entry.key

abbrev number_of : Entry → ℕ
number_of entry = entry.number

abbrev entity_of : Link → ℕ
entity_of l = l.entity.0

abbrev activity_of : Link → ℕ
activity_of l = l.activity.0

-- the activities of an entity, where the attachments rise
pub found_under : (e : ℕ) (entities : List Entity) (links listed : List Link) (entries : List Entry) → IsIndexed listed entries → Rises entry_key entries → rises_by link_before links ≡ true → Agrees entities links listed
    → map (λ entry. entry.number) (filter (λ entry. entry.key == e) entries) ≡ activities_of links e
found_under e entities links listed entries indexed rises also agrees =
    same_members (map number_of (filter (λ entry. key_of entry == e) entries)) (map activity_of (filter (λ l. entity_of l == e) links))
    (rising key_of number_of e (IsBefore entry_key) (λ x y before mine own. grind (arith, nat_tests, before, mine, own)) entries (in_order entry_key entries rises))
    (rising entity_of activity_of e (IsBefore link_key) (λ x y before mine own. grind (arith, nat_tests, before, mine, own)) links (in_order link_key links (link_order links ∙ also)))
    (λ a. members key_of number_of e a entries ∙ indexed e a ∙ agrees.members e a ∙ sym (members entity_of activity_of e a links))

-- whether it has any
pub any_under : (e : ℕ) (entities : List Entity) (links listed : List Link) (entries : List Entry) → IsIndexed listed entries → Rises entry_key entries → rises_by link_before links ≡ true → Agrees entities links listed
    → list_any (λ entry. entry.key == e) entries ≡ list_any (λ l. l.entity.0 == e) links
any_under e entities links listed entries indexed rises also agrees =
    let same = ap length (found_under e entities links listed entries indexed rises also agrees) in
    let one = length-map (filter (λ (entry : Entry). entry.key == e) entries) number_of in
    let two = length-map (filter (λ (l : Link). l.entity.0 == e) links) activity_of in
    some_left (λ entry. entry.key == e) entries ∙ ap (nat_lt 0) (sym one ∙ same ∙ two) ∙ sym (some_left (λ l. l.entity.0 == e) links)
