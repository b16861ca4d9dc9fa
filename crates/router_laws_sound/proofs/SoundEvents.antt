-- Events stay sound where one is put on an activity, and where an activity ends.
use Rattle.std.proofs.Common.{◌≡◌, ℕ, ◌+◌, ◌<◌, ◌≤◌, ◌==◌, true, false, not, List, [], ◌∷◌, ◌++◌, refl, sym, ◌∙◌, subst, inl, inr, arith, nat_lt}
use Rattle.std.specs.Prelude.{is_some, length}
use Rattle.std.specs.List.{AllByRecursion, list_all}
use Rattle.std.proofs.lemmas.Bool.{cases_Bool, cond_both, and_parts, and_from, not-true, ltb-true, eqb-true, false≢true}
use Rattle.std.proofs.lemmas.Bool.Decides.{nat_tests}
use Rattle.slee_value.specs.declared.value.Value.{Value}
use Rattle.slee_value.specs.declared.value.Value.TheVariants as values
use Rattle.deploy_model.specs.Deployed.{Deployed}
use Rattle.router_laws_sound.specs.Moves.{CanFire}
use Rattle.router_laws.proofs.Queues.{events_below, queued_joins, AreEventsBelow, row_of, pushed_here, pushed_elsewhere}
use Rattle.router_laws.proofs.RisingLemmas.{Joins, InOrder, order_from_rises, put_rises}
use Rattle.router_laws.proofs.OrderLemmas.{pair_joins}
use Rattle.router_laws.proofs.Tests.{tests_put, tests_weaker, differ_put}
use Rattle.rows_sorted.specs.Orders.{pair_before, rises_by}
use Rattle.rows_sorted.specs.Orders.{rises_in}
use Rattle.router_state.specs.Contexts.{activity_at, is_active, ends, with_end}
use Rattle.router_state.specs.Fits.{is_drawn, is_value, none_or}
use Rattle.router_state.specs.Queues.{queue, with_event, queued_before}
use Rattle.router_state.specs.WellEntities.{all_differ}
use Rattle.router_state.specs.WellQueues.{is_event_row, has_event_fields, differ_in_number, is_end, has_no_end, has_end_last, ends_right, are_events}
use Rattle.router_state.specs.declared.rows.Activity.{Activity}
use Rattle.router_state.specs.declared.rows.Event.{Event}
use Rattle.router_state.specs.declared.rows.Queued.{Queued}

-- what fits goes on fitting where the next numbers grow

pub drawn_more : (n m k : ℕ) → n ≤ m → is_drawn n k ≡ true → is_drawn m k ≡ true
drawn_more n m k le is = grind (arith, nat_tests)

pub value_more : (n m k l : ℕ) → n ≤ m → k ≤ l → (v : Value) → is_value n k v ≡ true → is_value m l v ≡ true
value_more n m k l one two (values.Int z) is = is
value_more n m k l one two (values.Text text) is = is
value_more n m k l one two (values.Bool b) is = is
value_more n m k l one two (values.Activity a) is = grind (arith, nat_tests)
value_more n m k l one two (values.Timer t) is = grind (arith, nat_tests)

pub fields_more : (d : Deployed) (n m k l : ℕ) → n ≤ m → k ≤ l → (v : Event) → has_event_fields d n k v ≡ true → has_event_fields d m l v ≡ true
fields_more d n m k l one two v is =
    let parts = and_parts _ _ is in
    and_from _ _ parts.0 (tests_weaker (λ (field : List ℕ × Value). is_value n k field.1) (λ field. is_value m l field.1) (λ field. value_more n m k l one two field.1) v.fields parts.1)

-- an event row, where activities that were there still are
pub event_row_more : (d : Deployed) (rows more : List Activity) (n m k l i j : ℕ) → n ≤ m → k ≤ l → i ≤ j
    → ((a : ℕ) → is_some (activity_at rows a) ≡ true → is_some (activity_at more a) ≡ true)
    → (q : Queued) → is_event_row d rows n k i q ≡ true → is_event_row d more m l j q ≡ true
event_row_more d rows more n m k l i j one two three there q is =
    let drawn = and_parts _ _ is in
    let stands = and_parts _ _ drawn.1 in
    let target = and_parts _ _ stands.1 in
    and_from _ _ (drawn_more i j q.event.id.0 three drawn.0)
    (and_from _ _ (there q.activity.0 stands.0) (and_from _ _ target.0 (fields_more d n m k l one two q.event target.1)))

-- ends

no_end_push : (events : List Event) (event : Event) → has_no_end events ≡ true → is_end event ≡ false → has_no_end (events ++ event ∷ []) ≡ true
no_end_push [] event none isnt = rw isnt refl
no_end_push (e ∷ es) event none isnt = let parts = and_parts _ _ none in and_from _ _ parts.0 (no_end_push es event parts.1 isnt)

end_push : (events : List Event) (event : Event) → has_no_end events ≡ true → is_end event ≡ true → has_end_last (events ++ event ∷ []) ≡ true
end_push [] event none is = is
end_push (e ∷ []) event none is = let parts = and_parts _ _ none in and_from _ _ parts.0 is
end_push (e ∷ f ∷ es) event none is = let parts = and_parts _ _ none in and_from _ _ parts.0 (end_push (f ∷ es) event parts.1 is)

-- the row of an activity of this number is Active
abbrev pub IsActiveIn : List Activity → ℕ → Type 0
IsActiveIn rows a = AllByRecursion (λ row. (row.number.0 == a) ≡ true → row.ending ≡ false) rows

-- an event that is no end, on an Active activity
pub right_fired : (events : List Queued) (a : ℕ) (event : Event) (row : Activity) → AreEventsBelow event.id.0 events → is_end event ≡ false
    → ((row.number.0 == a) ≡ true → row.ending ≡ false) → ends_right events row ≡ true → ends_right (with_event events a event) row ≡ true
right_fired events a event row below isnt active right = elim (cases_Bool (a == row.number.0)) [
  | inl here ↦
      let same : a ≡ row.number.0 = number a row.number.0 here in
      let awake : row.ending ≡ false = active (turned a row.number.0 here) in
      let none : has_no_end (queue events row.number.0) ≡ true = rw awake at right in
      rw (awake, ← same, pushed_here events a event below) (no_end_push (queue events a) event (rw (← same) at none) isnt)
  | inr elsewhere ↦ rw (pushed_elsewhere events a row.number.0 event elsewhere) right
]
  where
    number : (b c : ℕ) → (b == c) ≡ true → b ≡ c
    number b c is = grind (arith, is)

    turned : (b c : ℕ) → (b == c) ≡ true → (c == b) ≡ true
    turned b c is = grind (arith, nat_tests)

-- the end of an activity that was Active and is Ending
pub right_ended : (events : List Queued) (a : ℕ) (event : Event) (row : Activity) → AreEventsBelow event.id.0 events → is_end event ≡ true
    → ((row.number.0 == a) ≡ true → row.ending ≡ false) → ends_right events row ≡ true → ends_right (with_event events a event) (ends a row) ≡ true
right_ended events a event row below is active right = elim (cases_Bool (row.number.0 == a)) [
  | inl here ↦
      let same : row.number.0 ≡ a = number row.number.0 a here in
      let none : has_no_end (queue events row.number.0) ≡ true = rw (active here) at right in
      rw (here, same, pushed_here events a event below) (end_push (queue events a) event (rw same at none) is)
  | inr elsewhere ↦ rw (elsewhere, pushed_elsewhere events a row.number.0 event (turned row.number.0 a elsewhere)) right
]
  where
    number : (b c : ℕ) → (b == c) ≡ true → b ≡ c
    number b c is = grind (arith, is)

    turned : (b c : ℕ) → (b == c) ≡ false → (c == b) ≡ false
    turned b c is = grind (arith, nat_tests)

-- look-ups among activities that rise

abbrev pub number_of : Activity → ℕ
number_of row = row.number.0

pub number_joins : Joins (λ (x y : Activity). nat_lt x.number.0 y.number.0)
number_joins x y z one two = lt x.number.0 y.number.0 z.number.0 one two
  where
    lt : (a b c : ℕ) → nat_lt a b ≡ true → nat_lt b c ≡ true → nat_lt a c ≡ true
    lt a b c one two = grind (arith, nat_tests)

pub active_in : (rows : List Activity) (a : ℕ) → rises_in number_of rows ≡ true → is_active rows a ≡ true → IsActiveIn rows a
active_in rows a rises active = each rows a (order_from_rises (λ x y. nat_lt x.number.0 y.number.0) number_joins rows rises) active
  where
    apart : (a b c : ℕ) → (b == a) ≡ true → nat_lt b c ≡ true → (c == a) ≡ true → ⊥
    apart a b c is less same = omega (arith, eqb-true b a is, eqb-true c a same, ltb-true b c less)

    behind : (row : Activity) (rows : List Activity) (a : ℕ) → (row.number.0 == a) ≡ true → AllByRecursion (λ y. nat_lt row.number.0 y.number.0 ≡ true) rows → IsActiveIn rows a
    behind row [] a is later = tt
    behind row (y ∷ ys) a is later = ((λ same. absurd (apart a row.number.0 y.number.0 is later.0 same)), behind row ys a is later.1)

    each : (rows : List Activity) (a : ℕ) → InOrder (λ (x y : Activity). nat_lt x.number.0 y.number.0) rows → is_active rows a ≡ true → IsActiveIn rows a
    each [] a order active = tt
    each (row ∷ rows) a order active = elim (cases_Bool (row.number.0 == a)) [
      | inl is ↦ ((λ _. not-true row.ending (rw is at active)), behind row rows a is order.0)
      | inr isnt ↦ ((λ is. absurd (false≢true (sym isnt ∙ is))), each rows a order.1 (rw isnt at active))
    ]

-- an activity that ends stays where it is
pub end_there : (rows : List Activity) (b a : ℕ) → is_some (activity_at rows a) ≡ true → is_some (activity_at (with_end rows b) a) ≡ true
end_there [] b a there = absurd (cc)
end_there (row ∷ rows) b a there = rw (same_number b row) (elim (cases_Bool (row.number.0 == a)) [
  | inl is ↦ rw is refl
  | inr isnt ↦ rw isnt (end_there rows b a (rw isnt at there))
])
  where
    same_number : (b : ℕ) (row : Activity) → (ends b row).number ≡ row.number
    same_number b row = cond_both (row.number.0 == b) (record row { ending = true }) row (λ r. r.number ≡ row.number) (λ _. refl) (λ _. refl)

differs : (next : ℕ) (row : Queued) (events : List Queued) → row.event.id.0 ≡ next → AreEventsBelow next events → (list_all (λ q. differ_in_number q row) events ≡ true) × (list_all (differ_in_number row) events ≡ true)
differs next row [] is below = (refl, refl)
differs next row (q ∷ qs) is below =
    let more = differs next row qs is below.1 in
    (and_from _ _ (apart q.event.id.0 row.event.id.0 next is below.0) more.0, and_from _ _ (turned q.event.id.0 row.event.id.0 next is below.0) more.1)
  where
    apart : (x y n : ℕ) → y ≡ n → x < n → not (x == y) ≡ true
    apart x y n is less = grind (arith, nat_tests)

    turned : (x y n : ℕ) → y ≡ n → x < n → not (y == x) ≡ true
    turned x y n is less = grind (arith, nat_tests)

strict : (row x : Queued) → queued_before x row ≡ true → queued_before row x ≡ false
strict row x is = by_numbers x.activity.0 x.event.id.0 row.activity.0 row.event.id.0 is
  where
    by_numbers : (a b c d : ℕ) → pair_before a b c d ≡ true → pair_before c d a b ≡ false
    by_numbers a b c d is = grind (arith, nat_tests)

pub event_row : (d : Deployed) (activities : List Activity) (n m next a : ℕ) (event : Event) → CanFire d activities n m next a event → is_event_row d activities n m (next + 1) (row_of a event) ≡ true
event_row d activities n m next a event can =
    and_from _ _ (drawn event.id.0 next can.number can.some) (and_from _ _ can.there (and_from _ _ can.target can.fields))
  where
    drawn : (v n : ℕ) → v ≡ n → nat_lt 0 n ≡ true → is_drawn (n + 1) v ≡ true
    drawn v n is some = grind (arith, nat_tests)

events_put : (d : Deployed) (activities later : List Activity) (events : List Queued) (n m next a : ℕ) (event : Event)
    → are_events d activities events n m next ≡ true → CanFire d later n m next a event
    → ((b : ℕ) → is_some (activity_at activities b) ≡ true → is_some (activity_at later b) ≡ true)
    → list_all (ends_right (with_event events a event)) later ≡ true
    → are_events d later (with_event events a event) n m (next + 1) ≡ true
events_put d activities later events n m next a event sound can there right =
    let row = row_of a event in
    let rises = and_parts (rises_by queued_before events) _ sound in
    let apart = and_parts (all_differ differ_in_number events) _ rises.1 in
    let rows = and_parts (list_all (is_event_row d activities n m next) events) _ apart.1 in
    let below = events_below d activities events n m next rows.0 in
    let differ = differs next row events can.number below in
    and_from _ _ (put_rises queued_before queued_joins row events rises.0)
    (and_from _ _ (differ_put queued_before differ_in_number queued_joins row (strict row) events (order_from_rises queued_before queued_joins events rises.0) apart.0 differ.0 differ.1)
    (and_from _ _ (tests_put queued_before (is_event_row d later n m (next + 1)) row events (event_row d later n m next a event can)
    (tests_weaker (is_event_row d activities n m next) (is_event_row d later n m (next + 1)) (event_row_more d activities later n n m m next (next + 1) (omega arith) (omega arith) (omega arith) there) events rows.0)) right))

-- an event is fired on an Active activity
pub events_fired : (d : Deployed) (activities : List Activity) (events : List Queued) (n m next a : ℕ) (event : Event)
    → rises_in number_of activities ≡ true → are_events d activities events n m next ≡ true → CanFire d activities n m next a event → is_active activities a ≡ true → is_end event ≡ false
    → are_events d activities (with_event events a event) n m (next + 1) ≡ true
events_fired d activities events n m next a event order sound can active isnt =
    let rows = and_parts _ _ (and_parts _ _ (and_parts _ _ sound).1).1 in
    let below : AreEventsBelow event.id.0 events = subst (λ k. AreEventsBelow k events) (sym can.number) (events_below d activities events n m next rows.0) in
    events_put d activities activities events n m next a event sound can (λ b there. there)
    (each activities (active_in activities a order active) rows.1 below)
  where
    each : (rows : List Activity) → IsActiveIn rows a → list_all (ends_right events) rows ≡ true → AreEventsBelow event.id.0 events → list_all (ends_right (with_event events a event)) rows ≡ true
    each [] awake right below = refl
    each (row ∷ rows) awake right below =
        let parts = and_parts _ _ right in and_from _ _ (right_fired events a event row below isnt awake.0 parts.0) (each rows awake.1 parts.1 below)

-- an Active activity ends, and its end is put on its queue
pub events_ended : (d : Deployed) (activities : List Activity) (events : List Queued) (n m next a : ℕ) (event : Event)
    → rises_in number_of activities ≡ true → are_events d activities events n m next ≡ true → CanFire d activities n m next a event → is_active activities a ≡ true → is_end event ≡ true
    → are_events d (with_end activities a) (with_event events a event) n m (next + 1) ≡ true
events_ended d activities events n m next a event order sound can active is =
    let rows = and_parts _ _ (and_parts _ _ (and_parts _ _ sound).1).1 in
    let below : AreEventsBelow event.id.0 events = subst (λ k. AreEventsBelow k events) (sym can.number) (events_below d activities events n m next rows.0) in
    events_put d activities (with_end activities a) events n m next a event sound
    (record { number = can.number; some = can.some; there = end_there activities a a can.there; target = can.target; fields = can.fields }) (end_there activities a)
    (each activities (active_in activities a order active) rows.1 below)
  where
    each : (rows : List Activity) → IsActiveIn rows a → list_all (ends_right events) rows ≡ true → AreEventsBelow event.id.0 events → list_all (ends_right (with_event events a event)) (with_end rows a) ≡ true
    each [] awake right below = refl
    each (row ∷ rows) awake right below =
        let parts = and_parts _ _ right in and_from _ _ (right_ended events a event row below is awake.0 parts.0) (each rows awake.1 parts.1 below)
