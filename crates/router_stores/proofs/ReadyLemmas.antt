-- What changes of events and suspensions leave of which activities are listed.
use Rattle.std.proofs.Common.{◌≡◌, ℕ, ◌==◌, Bool, true, false, List, [], ◌∷◌, ◌++◌, Option, refl, sym, ap, subst, ◌∙◌, arith, inl, inr}
use Rattle.std.specs.Prelude.{◌&&◌, ◌||◌, not, nat_lt, is_some, filter, option_map}
use Rattle.std.specs.List.{list_any}
use Rattle.std.proofs.lemmas.Bool.{cases_Bool}
use Rattle.std.proofs.lemmas.Bool.Decides.{nat_tests}
use Rattle.rows_sorted.specs.Orders.{put, rises_by, rises_in}
use Rattle.router_state.specs.Queues.{is_suspended, is_waiting, queued_before, with_event, with_suspension, without_head, without_suspension}
use Rattle.router_state.specs.declared.rows.Event.{Event}
use Rattle.router_state.specs.declared.rows.Queued.{Queued}
use Rattle.router_state.specs.declared.rows.Suspension.{Suspension}
use Rattle.rows_sorted.specs.Keys.{Rises, is_key, key_before}
use Rattle.rows_sorted.proofs.KeyLemmas.{number_agrees}
use Rattle.entity_tree.proofs.NumberLemmas.{cut_by_key, cut_other, cut_own, put_by_key, put_other, put_own}
use Rattle.event_queue.specs.Views.{QueuesView}
use Rattle.router_stores.specs.Ready.{AreReady, is_ready, is_listed, number_of, ready_key}
use Rattle.router_stores.specs.declared.ready.Ready.{Ready}

module _ (w : Ready) (rows more : List Ready) (is : more ≡ put (λ x y. key_before (ready_key x) (ready_key y)) w rows) where
  put_is : more ≡ put (λ x y. nat_lt (number_of x) (number_of y)) w rows
  put_is = is ∙ put_by_key number_of w rows

  pub put_lists : is_listed more w.activity.0 ≡ true
  put_lists = ap (λ (list : List Ready). is_listed list w.activity.0) put_is ∙ ap is_some (put_own number_of w rows)

  pub put_leaves : (b : ℕ) → (w.activity.0 == b) ≡ false → is_listed more b ≡ is_listed rows b
  put_leaves b apart = ap (λ (list : List Ready). is_listed list b) put_is ∙ ap is_some (put_other number_of b w rows apart)

module _ (a : ℕ) (rows fewer : List Ready) (is : fewer ≡ filter (λ row. not (is_key (ready_key row) (record { first = a; second = 0; text = [] }))) rows) where
  cut_is : fewer ≡ filter (λ row. not (number_of row == a)) rows
  cut_is = is ∙ cut_by_key number_of a rows

  pub cut_unlists : is_listed fewer a ≡ false
  cut_unlists = ap (λ (list : List Ready). is_listed list a) cut_is ∙ ap is_some (cut_own number_of a rows)

  pub cut_leaves : (b : ℕ) → (a == b) ≡ false → is_listed fewer b ≡ is_listed rows b
  cut_leaves b apart = ap (λ (list : List Ready). is_listed list b) cut_is ∙ ap is_some (cut_other number_of b a rows apart)

-- one activity is listed anew, and nothing changed for the others
pub still_ready : (a : ℕ) (rows more : List Ready) (events later : List Queued) (suspensions now : List Suspension) → AreReady rows events suspensions → is_listed more a ≡ is_ready later now a
    → ((b : ℕ) → (a == b) ≡ false → is_listed more b ≡ is_listed rows b) → ((b : ℕ) → (a == b) ≡ false → is_ready later now b ≡ is_ready events suspensions b) → AreReady more later now
still_ready a rows more events later suspensions now awake own others same b = elim (cases_Bool (a == b)) [
  | inl mine ↦ let here : a ≡ b = grind (arith, nat_tests, mine) in subst (λ n. is_listed more n ≡ is_ready later now n) here own
  | inr other ↦ others b other ∙ awake b ∙ sym (same b other)
]

any_joined : {X : Type 0} (p : X → Bool) (xs ys : List X) → list_any p (xs ++ ys) ≡ (list_any p xs || list_any p ys)
any_joined p [] ys = refl
any_joined p (x ∷ xs) ys = elim (cases_Bool (p x)) [
  | inl is ↦ rw is refl
  | inr isnt ↦ rw isnt (any_joined p xs ys)
]

or_true : (c : Bool) → (c || true) ≡ true
or_true true = refl
or_true false = refl

dropped : (b : ℕ) (p : Queued → Bool) (x : Queued) (xs : List Queued) → (x.activity.0 == b) ≡ false → list_any (λ y. y.activity.0 == b) (filter p (x ∷ xs)) ≡ list_any (λ y. y.activity.0 == b) (filter p xs)
dropped b p x xs other = elim (cases_Bool (p x)) [
  | inl stays ↦ rw (stays, other) refl
  | inr goes ↦ rw goes refl
]

-- rows of another activity stand on one side or on the other of the one that is put in
both_sides : (b : ℕ) (q : Queued) → (q.activity.0 == b) ≡ false → (rows : List Queued)
    → (list_any (λ x. x.activity.0 == b) (filter (λ x. queued_before x q) rows) || list_any (λ x. x.activity.0 == b) (filter (λ x. queued_before q x) rows)) ≡ list_any (λ x. x.activity.0 == b) rows
both_sides b q apart [] = refl
both_sides b q apart (x ∷ xs) = elim (cases_Bool (x.activity.0 == b)) [
  | inl mine ↦ elim (cases_Bool (nat_lt x.activity.0 q.activity.0)) [
    | inl low ↦ let before : queued_before x q ≡ true = grind (arith, nat_tests, low) in rw (before, mine) refl
    | inr high ↦
        let before : queued_before x q ≡ false = grind (arith, nat_tests, high, mine, apart) in
        let behind : queued_before q x ≡ true = grind (arith, nat_tests, high, mine, apart) in
        rw (before, behind, mine) (or_true (list_any (λ x. x.activity.0 == b) (filter (λ x. queued_before x q) xs)))
  ]
  | inr other ↦
      let one = dropped b (λ y. queued_before y q) x xs other in
      let two = dropped b (λ y. queued_before q y) x xs other in
      (λ i. one i || two i) ∙ both_sides b q apart xs ∙ (rw other refl)
]

-- the rows that aren't put in stay
waiting_put : (events : List Queued) (q : Queued) (b : ℕ) → (q.activity.0 == b) ≡ false → list_any (λ x. x.activity.0 == b) (put queued_before q events) ≡ list_any (λ x. x.activity.0 == b) events
waiting_put events q b apart =
    any_joined (λ x. x.activity.0 == b) (filter (λ x. queued_before x q) events) (q ∷ filter (λ x. queued_before q x) events) ∙ (rw apart (both_sides b q apart events))

pub push_leaves : (events later : List Queued) (suspensions : List Suspension) (a : ℕ) (event : Event) (b : ℕ) → later ≡ with_event events a event → (a == b) ≡ false → is_ready later suspensions b ≡ is_ready events suspensions b
push_leaves events later suspensions a event b is apart =
    ap (λ (list : List Queued). is_ready list suspensions b) is ∙ ap (λ waits. waits && not (is_suspended suspensions b)) (waiting_put events (record { activity = record { 0 = a }; event = event }) b apart)

head_leaves : (events : List Queued) (a b : ℕ) → (a == b) ≡ false → is_waiting (without_head events a) b ≡ is_waiting events b
head_leaves [] a b apart = refl
head_leaves (x ∷ xs) a b apart = elim (cases_Bool (x.activity.0 == a)) [
  | inl mine ↦ let other : (x.activity.0 == b) ≡ false = grind (arith, nat_tests, mine, apart) in rw (mine, other) refl
  | inr isnt ↦ rw isnt (ap (λ waits. (x.activity.0 == b) || waits) (head_leaves xs a b apart))
]

pub pop_leaves : (events later : List Queued) (suspensions : List Suspension) (a b : ℕ) → later ≡ without_head events a → (a == b) ≡ false → is_ready later suspensions b ≡ is_ready events suspensions b
pop_leaves events later suspensions a b is apart =
    ap (λ (list : List Queued). is_ready list suspensions b) is ∙ ap (λ waits. waits && not (is_suspended suspensions b)) (head_leaves events a b apart)

abbrev whose : Suspension → ℕ
whose row = row.activity.0

abbrev is_held : Option Suspension → Bool
is_held found = is_some (option_map (λ row. row.until) found)

pub hold_leaves : (events : List Queued) (suspensions now : List Suspension) (a until b : ℕ) → now ≡ with_suspension suspensions a until → (a == b) ≡ false → is_ready events now b ≡ is_ready events suspensions b
hold_leaves events suspensions now a until b is apart =
    ap (λ (list : List Suspension). is_ready events list b) is
    ∙ ap (λ held. is_waiting events b && not held) (ap is_held (put_other whose b (record { activity = record { 0 = a }; until = until }) suspensions apart))

pub release_leaves : (events : List Queued) (suspensions now : List Suspension) (a b : ℕ) → now ≡ without_suspension suspensions a → (a == b) ≡ false → is_ready events now b ≡ is_ready events suspensions b
release_leaves events suspensions now a b is apart =
    ap (λ (list : List Suspension). is_ready events list b) is
    ∙ ap (λ held. is_waiting events b && not held) (ap is_held (cut_other whose b a suspensions apart))

module _ (a : ℕ) (rows more : List Ready) (old new : QueuesView) (awake : AreReady rows old.events old.suspensions) (own : is_listed more a ≡ is_ready new.events new.suspensions a)
    (others : (b : ℕ) → (a == b) ≡ false → is_listed more b ≡ is_listed rows b) where
  same_held : new.suspensions ≡ old.suspensions → (b : ℕ) → is_ready new.events new.suspensions b ≡ is_ready new.events old.suspensions b
  same_held is b = ap (λ (list : List Suspension). is_ready new.events list b) is

  same_events : new.events ≡ old.events → (b : ℕ) → is_ready new.events new.suspensions b ≡ is_ready old.events new.suspensions b
  same_events is b = ap (λ (list : List Queued). is_ready list new.suspensions b) is

  pub pushed : (event : Event) → new.events ≡ with_event old.events a event → new.suspensions ≡ old.suspensions → AreReady more new.events new.suspensions
  pushed event is held = still_ready a rows more old.events new.events old.suspensions new.suspensions awake own others (λ b apart. same_held held b ∙ push_leaves old.events new.events old.suspensions a event b is apart)

  pub popped : new.events ≡ without_head old.events a → new.suspensions ≡ old.suspensions → AreReady more new.events new.suspensions
  popped is held = still_ready a rows more old.events new.events old.suspensions new.suspensions awake own others (λ b apart. same_held held b ∙ pop_leaves old.events new.events old.suspensions a b is apart)

  pub held_on : (until : ℕ) → new.suspensions ≡ with_suspension old.suspensions a until → new.events ≡ old.events → AreReady more new.events new.suspensions
  held_on until is events = still_ready a rows more old.events new.events old.suspensions new.suspensions awake own others (λ b apart. same_events events b ∙ hold_leaves old.events old.suspensions new.suspensions a until b is apart)

  pub released : new.suspensions ≡ without_suspension old.suspensions a → new.events ≡ old.events → AreReady more new.events new.suspensions
  released is events = still_ready a rows more old.events new.events old.suspensions new.suspensions awake own others (λ b apart. same_events events b ∙ release_leaves old.events old.suspensions new.suspensions a b is apart)

-- listed activities rise by their numbers
pub ready_rise : (rows : List Ready) → Rises ready_key rows → rises_in number_of rows ≡ true
ready_rise rows rises = sym (λ i. rises_by (λ x y. number_agrees x.activity.0 y.activity.0 i) rows) ∙ rises
