-- The first activity that is ready and has a free choice is the least one that has.
use Rattle.std.proofs.Common.{◌≡◌, ℕ, ◌<◌, ◌==◌, Bool, true, false, List, [], ◌∷◌, Option, Some, None, map, refl, sym, ap, subst, ◌∙◌, arith, inl, inr}
use Rattle.std.specs.Prelude.{nat_lt, is_some, ◌||◌, find, if◌then◌else◌}
use Rattle.std.specs.List.{AllByRecursion, list_any}
use Rattle.std.specs.Option.{option_map_or}
use Rattle.std.proofs.lemmas.Bool.{cases_Bool, and_parts}
use Rattle.std.proofs.lemmas.Bool.Decides.{nat_tests}
use Rattle.slee_value.specs.declared.ids.ActivityId.{ActivityId}
use Rattle.rows_sorted.specs.Orders.{rises_in}
use Rattle.rows_sorted.proofs.OrderLemmas.{AllInOrder, all_from_all}
use Rattle.router_state.specs.State.{State}
use Rattle.router_state.specs.declared.rows.Activity.{Activity}
use Rattle.router_state.specs.declared.rows.Queued.{Queued}
use Rattle.router_state.specs.declared.kindred.Kindred.{Kindred}
use Rattle.router_state.specs.Contexts.{activity_at}
use Rattle.router_state.specs.Queues.{is_suspended, is_waiting}
use Rattle.router_state.specs.Next.{first_choice, is_claimed, least, next}
use Rattle.router_stores.specs.Ready.{AreAllReady, is_listed, is_ready, number_of}
use Rattle.router_stores.specs.declared.ready.Ready.{Ready}
use Rattle.router_choice.specs.Choosing.{first_of, free_choice}

abbrev Rising : List ℕ → Type 0
Rising ns = AllInOrder (λ a b. a < b) ns

abbrev is_in : List ℕ → ℕ → Bool
is_in ns a = list_any (λ b. b == a) ns

-- numbers of rows that rise
rising : {Row : Type 0} (n : Row → ℕ) (rows : List Row) → rises_in n rows ≡ true → Rising (map n rows)
rising n [] rises = tt
rising n (x ∷ []) rises = (tt, tt)
rising n (x ∷ y ∷ rows) rises =
    let parts = and_parts (nat_lt (n x) (n y)) (rises_in n (y ∷ rows)) rises in
    let more = rising n (y ∷ rows) parts.1 in
    let test = parts.0 in
    let low : n x < n y = grind (arith, nat_tests, test) in
    ((low, all_from_all (λ b. n y < b) (λ b. n x < b) (λ b le. omega (arith, le, low)) (map n rows) more.0), more)

-- a choice for the least number that has one, or for none
abbrev IsLeast : (ℕ → Option Kindred) → Option (ℕ × Kindred) → Type 0
IsLeast choice None = (a : ℕ) → choice a ≡ None
IsLeast choice (Some x) = (choice x.0 ≡ Some x.1) × ((a : ℕ) → a < x.0 → choice a ≡ None)

-- there is only one least
one_least : (choice : ℕ → Option Kindred) (r q : Option (ℕ × Kindred)) → IsLeast choice r → IsLeast choice q → r ≡ q
one_least choice None None r q = refl
one_least choice None (Some y) r q = absurd (let wrong = sym (r y.0) ∙ q.0 in cc)
one_least choice (Some x) None r q = absurd (let wrong = sym (q x.0) ∙ r.0 in cc)
one_least choice (Some x) (Some y) r q = elim (cases_Bool (nat_lt x.0 y.0)) [
  | inl low ↦ absurd (let below : x.0 < y.0 = grind (arith, nat_tests, low) in let wrong = sym (q.1 x.0 below) ∙ r.0 in cc)
  | inr high ↦ elim (cases_Bool (nat_lt y.0 x.0)) [
    | inl low ↦ absurd (let below : y.0 < x.0 = grind (arith, nat_tests, low) in let wrong = sym (r.1 y.0 below) ∙ q.0 in cc)
    | inr also ↦
        let same : x.0 ≡ y.0 = grind (arith, nat_tests, high, also) in
        let kinds : Some x.1 ≡ Some y.1 = sym r.0 ∙ ap choice same ∙ q.0 in
        let kind : x.1 ≡ y.1 = cc in
        λ i. Some (same i, kind i)
  ]
]

none_below : (a : ℕ) (ns : List ℕ) → AllByRecursion (λ b. a < b) ns → is_in ns a ≡ false
none_below a [] all = refl
none_below a (x ∷ xs) all =
    let above = all.0 in
    let apart : (x == a) ≡ false = grind (arith, nat_tests, above) in
    rw apart (none_below a xs all.1)

-- the first of numbers that rise is the least, where no other number has a choice
least_of : (choice : ℕ → Option Kindred) (ns : List ℕ) → Rising ns → ((a : ℕ) → is_in ns a ≡ false → choice a ≡ None) → IsLeast choice (first_of choice ns)
least_of choice [] order out = λ a. out a refl
least_of choice (x ∷ xs) order out = by (choice x) refl (least_of choice xs order.1)
  where
    by : (found : Option Kindred) → choice x ≡ found → (((a : ℕ) → is_in xs a ≡ false → choice a ≡ None) → IsLeast choice (first_of choice xs)) → IsLeast choice (option_map_or (λ kind. Some (x, kind)) found (first_of choice xs))
    by None is later = later (λ a none. elim (cases_Bool (x == a)) [
      | inl own ↦ let same : x ≡ a = grind (arith, nat_tests, own) in subst (λ n. choice n ≡ None) same is
      | inr other ↦ out a (rw other none)
    ])
    by (Some kind) is later = (is, λ a low. out a (none_below a (x ∷ xs) (low, all_from_all (λ b. x < b) (λ b. a < b) (λ b le. omega (arith, le, low)) xs order.0)))

same_first : (one other : ℕ → Option Kindred) (ns : List ℕ) → AllByRecursion (λ a. one a ≡ other a) ns → first_of one ns ≡ first_of other ns
same_first one other [] same = refl
same_first one other (x ∷ xs) same = λ i. option_map_or (λ kind. Some (x, kind)) (same.0 i) (same_first one other xs same.1 i)

-- each activity is found by its number
each_there : (rows : List Activity) → AllByRecursion (λ row. is_some (activity_at rows row.number.0) ≡ true) rows
each_there [] = tt
each_there (x ∷ xs) = (own, all_from_all (λ (row : Activity). is_some (activity_at xs row.number.0) ≡ true) (λ row. is_some (activity_at (x ∷ xs) row.number.0) ≡ true) later xs (each_there xs))
  where
    own : is_some (activity_at (x ∷ xs) x.number.0) ≡ true
    own = let same : (x.number.0 == x.number.0) ≡ true = grind (arith, nat_tests) in rw same refl

    later : (row : Activity) → is_some (activity_at xs row.number.0) ≡ true → is_some (activity_at (x ∷ xs) row.number.0) ≡ true
    later row there = elim (cases_Bool (x.number.0 == row.number.0)) [
      | inl mine ↦ rw mine refl
      | inr other ↦ rw other there
    ]

all_mapped : {X Y : Type 0} (f : X → Y) (P : Y → Type 0) (xs : List X) → AllByRecursion (λ x. P (f x)) xs → AllByRecursion P (map f xs)
all_mapped f P [] all = tt
all_mapped f P (x ∷ xs) all = (all.0, all_mapped f P xs all.1)

not_there : (a : ℕ) (rows : List Activity) → is_in (map (λ row. row.number.0) rows) a ≡ false → activity_at rows a ≡ None
not_there a [] none = refl
not_there a (x ∷ xs) none = elim (cases_Bool (x.number.0 == a)) [
  | inl mine ↦ absurd (let wrong : true ≡ false = rw mine at none in cc)
  | inr other ↦ rw other (not_there a xs (rw other at none))
]

not_listed : (a : ℕ) (rows : List Ready) → is_in (map number_of rows) a ≡ false → is_listed rows a ≡ false
not_listed a [] none = refl
not_listed a (x ∷ xs) none = elim (cases_Bool (x.activity.0 == a)) [
  | inl mine ↦ absurd (let wrong : true ≡ false = rw mine at none in cc)
  | inr other ↦ rw other (not_listed a xs (rw other at none))
]

no_head : (p : Queued → Bool) (events : List Queued) → list_any p events ≡ false → find p events ≡ None
no_head p [] none = refl
no_head p (x ∷ xs) none = elim (cases_Bool (p x)) [
  | inl is ↦ absurd (let wrong : true ≡ false = rw is at none in cc)
  | inr isnt ↦ rw isnt (no_head p xs (rw isnt at none))
]

module _ (s : State) (claimed : List ℕ) where
  -- the choice that is next, unless it is claimed
  abbrev unclaimed : ℕ → Option Kindred
  unclaimed a = if is_in claimed a then None else next s a

  -- an activity that isn't ready has no choice
  idle : (a : ℕ) → is_ready s.events s.suspensions a ≡ false → next s a ≡ None
  idle a sleeps = elim (cases_Bool (is_suspended s.suspensions a)) [
    | inl held ↦ rw held refl
    | inr free ↦ elim (cases_Bool (is_waiting s.events a)) [
      | inl waits ↦ absurd (let wrong : true ≡ false = rw (free, waits) at sleeps in cc)
      | inr nothing ↦ rw (free, no_head (λ q. q.activity.0 == a) s.events nothing) refl
    ]
  ]

  if_none : (b : Bool) (found : Option Kindred) → found ≡ None → (if b then None else found) ≡ None
  if_none true found none = refl
  if_none false found none = none

  out_of_ready : (rows : List Ready) → AreAllReady rows s → (a : ℕ) → is_in (map number_of rows) a ≡ false → free_choice s claimed a ≡ None
  out_of_ready rows ready a none =
      if_none (is_in claimed a) (if is_some (activity_at s.activities a) then next s a else None) (by (is_some (activity_at s.activities a)))
    where
      by : (there : Bool) → (if there then next s a else None) ≡ None
      by true = idle a (sym (ready.listed a) ∙ not_listed a rows none)
      by false = refl

  out_of_activities : (a : ℕ) → is_in (map (λ row. row.number.0) s.activities) a ≡ false → free_choice s claimed a ≡ None
  out_of_activities a none =
      let absent = not_there a s.activities none in
      if_none (is_in claimed a) (if is_some (activity_at s.activities a) then next s a else None) (rw absent refl)

  -- the definition goes through the numbers of the activities
  by_numbers : (rows : List Activity) → first_of unclaimed (map (λ row. row.number.0) rows) ≡ first_choice s claimed rows
  by_numbers [] = refl
  by_numbers (x ∷ xs) = elim (cases_Bool (is_claimed claimed x)) [
    | inl taken ↦ rw taken (by_numbers xs)
    | inr free ↦ rw free (ap (λ more. option_map_or (λ kind. Some (x.number.0, kind)) (next s x.number.0) more) (by_numbers xs))
  ]

  there_free : (row : Activity) → is_some (activity_at s.activities row.number.0) ≡ true → free_choice s claimed row.number.0 ≡ unclaimed row.number.0
  there_free row there = rw there refl

  free_is : first_of (free_choice s claimed) (map (λ row. row.number.0) s.activities) ≡ least s claimed
  free_is =
      same_first (free_choice s claimed) unclaimed (map (λ row. row.number.0) s.activities)
      (all_mapped (λ (row : Activity). row.number.0) (λ a. free_choice s claimed a ≡ unclaimed a) s.activities
      (all_from_all (λ (row : Activity). is_some (activity_at s.activities row.number.0) ≡ true) (λ row. free_choice s claimed row.number.0 ≡ unclaimed row.number.0) there_free s.activities (each_there s.activities)))
      ∙ by_numbers s.activities

  pub least_is : (rows : List Ready) → AreAllReady rows s → rises_in (λ row. row.number.0) s.activities ≡ true → first_of (free_choice s claimed) (map number_of rows) ≡ least s claimed
  least_is rows ready rises =
      one_least (free_choice s claimed) _ _
      (least_of (free_choice s claimed) (map number_of rows) (rising number_of rows ready.rises) (out_of_ready rows ready))
      (least_of (free_choice s claimed) (map (λ row. row.number.0) s.activities) (rising (λ row. row.number.0) s.activities rises) out_of_activities)
      ∙ free_is

-- numbers and what has them
pub claimed_by_number : (n : ℕ) (ids : List ActivityId) → list_any (λ a. a.0 == n) ids ≡ list_any (λ a. a == n) (map (λ a. a.0) ids)
claimed_by_number n [] = refl
claimed_by_number n (x ∷ xs) = ap (λ more. (x.0 == n) || more) (claimed_by_number n xs)
