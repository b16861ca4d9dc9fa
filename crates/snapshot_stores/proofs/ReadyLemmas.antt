-- The activities that are ready, listed in their order.
use Rattle.std.proofs.Common.{◌≡◌, ℕ, ◌+◌, ◌<◌, length, get_or, drop, Bool, true, false, List, [], ◌∷◌, ◌++◌, refl, sym, ap, subst, ◌∙◌, arith, inl, inr}
use Rattle.std.specs.Prelude.{◌==◌, ◌&&◌, if◌then◌else◌, IsTrue, is_some}
use Rattle.std.specs.List.{AllByRecursion, list_all, list_any}
use Rattle.std.proofs.lemmas.Bool.{and_parts, cases_Bool, cond_both}
use Rattle.std.proofs.lemmas.Bool.Decides.{nat_tests}
use Rattle.std.proofs.lemmas.List.{drop_more}
use Rattle.rows_sorted.specs.Orders.{put, rises_by}
use Rattle.rows_sorted.specs.Keys.{key_before, Rises}
use Rattle.rows_sorted.proofs.OrderLemmas.{AllInOrder, IsBefore, in_order, rises_again}
use Rattle.router_state.specs.Contexts.{activity_at}
use Rattle.router_state.specs.Keys.{activity_key}
use Rattle.router_state.specs.Queues.{is_waiting}
use Rattle.router_state.specs.declared.rows.Activity.{Activity}
use Rattle.router_state.specs.declared.rows.Queued.{Queued}
use Rattle.router_state.specs.declared.rows.Suspension.{Suspension}
use Rattle.activity_context.specs.Views.{activity_before}
use Rattle.router_stores.specs.Ready.{AreReady, is_listed, is_ready, ready_key}
use Rattle.router_stores.specs.declared.ready.Ready.{Ready}
use Rattle.snapshot_stores.specs.Ready.{ready_among}
use Rattle.snapshot_stores.proofs.FillLemmas.{turn}
use Rattle.snapshot_stores.proofs.OrderedLemmas as orders

module _ (events : List Queued) (suspensions : List Suspension) where
  among_later : (x : Activity) (rows : List Activity) → AllByRecursion (IsBefore activity_key x) rows → AllByRecursion (λ (y : Ready). key_before (activity_key x) (ready_key y) ≡ true) (ready_among events suspensions rows)
  among_later x [] later = tt
  among_later x (row ∷ rows) later =
      let more = among_later x rows later.1 in
      cond_both (is_ready events suspensions row.number.0) (record { activity = row.number } ∷ ready_among events suspensions rows) (ready_among events suspensions rows)
      (AllByRecursion (λ (y : Ready). key_before (activity_key x) (ready_key y) ≡ true)) (λ _. (later.0, more)) (λ _. more)

  among_order : (rows : List Activity) → AllInOrder (IsBefore activity_key) rows → AllInOrder (IsBefore ready_key) (ready_among events suspensions rows)
  among_order [] order = tt
  among_order (row ∷ rows) order =
      let more = among_order rows order.1 in
      cond_both (is_ready events suspensions row.number.0) (record { activity = row.number } ∷ ready_among events suspensions rows) (ready_among events suspensions rows)
      (AllInOrder (IsBefore ready_key)) (λ _. (among_later row rows order.0, more)) (λ _. more)

  -- those that are ready rise as the activities do
  among_rises : (rows : List Activity) → IsTrue (rises_by activity_before rows) → Rises ready_key (ready_among events suspensions rows)
  among_rises rows rises =
      let by_key : Rises activity_key rows = subst (λ (b : Activity → Activity → Bool). IsTrue (rises_by b rows)) (sym orders.activities) rises in
      rises_again ready_key _ (among_order rows (in_order activity_key rows by_key))

  -- one that is ready comes to the end
  pub ready_more : (all left more : List Activity) (front after : List Ready) (row : Activity) → IsTrue (rises_by activity_before all) → left ≡ row ∷ more → is_ready events suspensions row.number.0 ≡ true
      → after ≡ put (λ x y. key_before (ready_key x) (ready_key y)) (record { activity = row.number }) front → front ++ ready_among events suspensions left ≡ ready_among events suspensions all → after ++ ready_among events suspensions more ≡ ready_among events suspensions all
  ready_more all left more front after row rises cut is put_so so_far =
      let first : ready_among events suspensions left ≡ record { activity = row.number } ∷ ready_among events suspensions more = rw (cut, is) refl in
      turn ready_key (λ x y. key_before (ready_key x) (ready_key y)) refl (ready_among events suspensions all) front after (ready_among events suspensions left) (ready_among events suspensions more) (record { activity = row.number })
      (among_rises all rises) first put_so so_far

  -- one that isn't is passed over
  pub ready_same : (all left more : List Activity) (front : List Ready) (row : Activity) → left ≡ row ∷ more → is_ready events suspensions row.number.0 ≡ false
      → front ++ ready_among events suspensions left ≡ ready_among events suspensions all → front ++ ready_among events suspensions more ≡ ready_among events suspensions all
  ready_same all left more front row cut is so_far =
      let first : ready_among events suspensions left ≡ ready_among events suspensions more = rw (cut, is) refl in
      rw first at so_far

  -- one more activity was looked at
  pub ready_step : (all left more : List Activity) (front after : List Ready) (row : Activity) → IsTrue (rises_by activity_before all) → left ≡ row ∷ more
      → after ≡ (if is_ready events suspensions row.number.0 then put (λ x y. key_before (ready_key x) (ready_key y)) (record { activity = row.number }) front else front)
      → front ++ ready_among events suspensions left ≡ ready_among events suspensions all → after ++ ready_among events suspensions more ≡ ready_among events suspensions all
  ready_step all left more front after row rises cut step so_far = elim (cases_Bool (is_ready events suspensions row.number.0)) [
    | inl is ↦ ready_more all left more front after row rises cut is (rw is at step) so_far
    | inr isnt ↦ (let same : after ≡ front = rw isnt at step in rw same (ready_same all left more front row cut isnt so_far))
  ]

  -- which activities are listed
  listed_among : (rows : List Activity) (a : ℕ) → is_listed (ready_among events suspensions rows) a ≡ (is_ready events suspensions a && list_any (λ (row : Activity). row.number.0 == a) rows)
  listed_among [] a = elim (cases_Bool (is_ready events suspensions a)) [ inl is ↦ rw is refl | inr isnt ↦ rw isnt refl ]
  listed_among (row ∷ rows) a = elim (cases_Bool (row.number.0 == a)) [
    | inl same ↦ (
        let number : row.number.0 ≡ a = grind (arith, nat_tests, same) in
        elim (cases_Bool (is_ready events suspensions a)) [
          | inl is ↦ (
              let own : is_ready events suspensions row.number.0 ≡ true = subst (λ (n : ℕ). is_ready events suspensions n ≡ true) (sym number) is in
              rw (own, is, same) refl)
          | inr isnt ↦ (
              let own : is_ready events suspensions row.number.0 ≡ false = subst (λ (n : ℕ). is_ready events suspensions n ≡ false) (sym number) isnt in
              let more : is_listed (ready_among events suspensions rows) a ≡ false = rw isnt at (listed_among rows a) in
              rw (own, isnt) more)
        ])
    | inr other ↦ (
        let more = listed_among rows a in
        elim (cases_Bool (is_ready events suspensions row.number.0)) [
          | inl own ↦ rw (own, other) more
          | inr own ↦ rw (own, other) more
        ])
  ]

found_any : (rows : List Activity) (a : ℕ) → is_some (activity_at rows a) ≡ true → list_any (λ (row : Activity). row.number.0 == a) rows ≡ true
found_any [] a found = found
found_any (row ∷ rows) a found = elim (cases_Bool (row.number.0 == a)) [ inl same ↦ rw same refl | inr other ↦ rw other (found_any rows a (rw other at found)) ]

-- an activity on which an event waits is there
waiting_there : (activities : List Activity) (events : List Queued) (a : ℕ) → list_all (λ (q : Queued). is_some (activity_at activities q.activity.0)) events ≡ true → is_waiting events a ≡ true → list_any (λ (row : Activity). row.number.0 == a) activities ≡ true
waiting_there activities [] a there waits = cc
waiting_there activities (q ∷ events) a there waits =
    let parts = and_parts (is_some (activity_at activities q.activity.0)) (list_all (λ (q : Queued). is_some (activity_at activities q.activity.0)) events) there in
    elim (cases_Bool (q.activity.0 == a)) [
      | inl same ↦ (let number : q.activity.0 ≡ a = grind (arith, nat_tests, same) in found_any activities a (subst (λ (n : ℕ). is_some (activity_at activities n) ≡ true) number parts.0))
      | inr other ↦ waiting_there activities events a parts.1 (rw other at waits)
    ]

both : (x y : Bool) → (x ≡ true → y ≡ true) → (x && y) ≡ x
both true y follows = follows refl
both false y follows = refl

-- all that are ready are listed, and no others
pub are_ready : (events : List Queued) (suspensions : List Suspension) (activities : List Activity) → list_all (λ (q : Queued). is_some (activity_at activities q.activity.0)) events ≡ true → AreReady (ready_among events suspensions activities) events suspensions
are_ready events suspensions activities there = λ a.
    listed_among events suspensions activities a ∙ both (is_ready events suspensions a) (list_any (λ (row : Activity). row.number.0 == a) activities) (λ is. waiting_there activities events a there (and_parts (is_waiting events a) _ is).0)

-- what is left begins with the activity that is looked at
pub cut_at : (xs : List Activity) (i : ℕ) (x : Activity) → i < length xs → x ≡ get_or xs i x → drop i xs ≡ x ∷ drop (i + 1) xs
cut_at xs i x within is = drop_more xs i x within ∙ ap (λ (y : Activity). y ∷ drop (i + 1) xs) (sym is)
