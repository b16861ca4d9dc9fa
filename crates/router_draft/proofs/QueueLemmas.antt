-- Events that wait on an activity, and the suspension of its head event, after changes.
use Rattle.std.proofs.Common.{◌≡◌, ℕ, ◌<◌, ◌≤◌, ◌==◌, length, get_or, Bool, true, false, List, [], ◌∷◌, refl, sym, ap, ◌∙◌, arith, inl, inr, nat_lt, drop, take, Option, Some, None}
use Rattle.std.specs.Prelude.{not, ◌||◌, ◌&&◌, option_map, is_some, if◌then◌else◌}
use Rattle.std.specs.List.{fold, list_any}
use Rattle.std.proofs.lemmas.Bool.{cases_Bool}
use Rattle.std.proofs.lemmas.Bool.Decides.{nat_tests}
use Rattle.slee_value.specs.declared.ids.EventId.{EventId}
use Rattle.router_state.specs.State.{State}
use Rattle.rows_sorted.specs.Orders.{put}
use Rattle.router_state.specs.Queues.{head_event, is_suspended, suspension_before, with_event, with_suspension, without_head, without_suspension}
use Rattle.router_state.specs.Changes.{after_change, after_changes}
use Rattle.router_state.specs.declared.change.Change.{Change}
use Rattle.router_state.specs.declared.change.Change.TheVariants as changes
use Rattle.router_state.specs.declared.rows.Event.{Event}
use Rattle.router_state.specs.declared.rows.Queued.{Queued}
use Rattle.router_state.specs.declared.rows.Suspension.{Suspension}
use Rattle.router_laws.proofs.ListLemmas.{find_kept, find_lost, find_put_own, find_put_other}
use Rattle.router_draft.proofs.PairLemmas.{put_own, put_other}
use Rattle.router_draft.proofs.ChangeLemmas.{through}
use Rattle.router_draft.specs.After.{moves_queue, suspended_after, waiting_after, waiting_on}

pushed : (a a' : ℕ) (event : Event) (events : List Queued) → waiting_on (with_event events a' event) a ≡ (if a' == a then put nat_lt event.id.0 (waiting_on events a) else waiting_on events a)
pushed a a' event events =
    let row : Queued = record { activity = record { 0 = a' }; event = event } in
    elim (cases_Bool (a' == a)) [
      | inl own ↦ put_own (λ (q : Queued). q.activity.0) (λ (q : Queued). q.event.id.0) a row events own ∙ (rw own refl)
      | inr other ↦ put_other (λ (q : Queued). q.activity.0) (λ (q : Queued). q.event.id.0) a row events other ∙ (rw other refl)
    ]

apart_number : (n a a' : ℕ) → (n == a') ≡ true → (a' == a) ≡ false → (n == a) ≡ false
apart_number n a a' is apart = grind (arith, nat_tests)

own_number : (n a a' : ℕ) → (n == a') ≡ false → (a' == a) ≡ true → (n == a) ≡ false
own_number n a a' is own = grind (arith, nat_tests)

own_too : (n a a' : ℕ) → (n == a') ≡ true → (a' == a) ≡ true → (n == a) ≡ true
own_too n a a' is own = grind (arith, nat_tests)

popped_own : (a a' : ℕ) (events : List Queued) → (a' == a) ≡ true → waiting_on (without_head events a') a ≡ drop 1 (waiting_on events a)
popped_own a a' [] own = refl
popped_own a a' (q ∷ qs) own = elim (cases_Bool (q.activity.0 == a')) [
  | inl here ↦ let mine = own_too q.activity.0 a a' here own in rw (here, mine) refl
  | inr there ↦ let other = own_number q.activity.0 a a' there own in rw (there, other) (popped_own a a' qs own)
]

popped_other : (a a' : ℕ) (events : List Queued) → (a' == a) ≡ false → waiting_on (without_head events a') a ≡ waiting_on events a
popped_other a a' [] apart = refl
popped_other a a' (q ∷ qs) apart = elim (cases_Bool (q.activity.0 == a')) [
  | inl here ↦ let other = apart_number q.activity.0 a a' here apart in rw (here, other) refl
  | inr there ↦ elim (cases_Bool (q.activity.0 == a)) [
    | inl mine ↦ rw (there, mine) (ap (λ more. q.event.id.0 ∷ more) (popped_other a a' qs apart))
    | inr other ↦ rw (there, other) (popped_other a a' qs apart)
  ]
]

waiting_is : (a : ℕ) (c : Change) (s : State) → waiting_on (after_change c s).events a ≡ waiting_after c a (waiting_on s.events a)
waiting_is a (changes.Push a' event) s = pushed a a'.0 event s.events
waiting_is a (changes.Pop a') s = elim (cases_Bool (a'.0 == a)) [
  | inl own ↦ popped_own a a'.0 s.events own ∙ (rw own refl)
  | inr other ↦ popped_other a a'.0 s.events other ∙ (rw other refl)
]
waiting_is a _ s = refl

pub waiting_laid : (cs : List Change) (s : State) (a : ℕ) → waiting_on (after_changes cs s).events a ≡ fold (λ was c. waiting_after c a was) (waiting_on s.events a) cs
waiting_laid cs s a = through (λ (t : State). waiting_on t.events a) (λ was c. waiting_after c a was) (waiting_is a) cs s

-- the first of them is the head event's number
abbrev pub first_of : List ℕ → Option EventId
first_of [] = None
first_of (n ∷ ns) = Some (record { 0 = n })

head_is : (events : List Queued) (a : ℕ) → option_map (λ (v : Event). v.id) (head_event events a) ≡ first_of (waiting_on events a)
head_is [] a = refl
head_is (q ∷ qs) a = elim (cases_Bool (q.activity.0 == a)) [
  | inl mine ↦ rw mine refl
  | inr other ↦ rw other (head_is qs a)
]

first_same : (ms ns : List ℕ) → take 1 ms ≡ take 1 ns → first_of ms ≡ first_of ns
first_same [] [] same = refl
first_same [] (n ∷ ns) same = cc
first_same (m ∷ ms) [] same = cc
first_same (m ∷ ms) (n ∷ ns) same = let both : m ∷ [] ≡ n ∷ [] = same in let head : m ≡ n = cc in ap (λ k. Some (record { 0 = k })) head

-- as the code has it
pub head_nothing : (events : List Queued) (a : ℕ) (ns : List ℕ) → take 1 ns ≡ take 1 (waiting_on events a) → length ns < 1 → None ≡ option_map (λ (v : Event). v.id) (head_event events a)
head_nothing events a [] same few = first_same [] (waiting_on events a) same ∙ sym (head_is events a)
head_nothing events a (n ∷ ns) same few = absurd (omega (arith, few))

pub head_first : (events : List Queued) (a : ℕ) (ns : List ℕ) → take 1 ns ≡ take 1 (waiting_on events a) → 1 ≤ length ns → Some (record { 0 = get_or ns 0 0 }) ≡ option_map (λ (v : Event). v.id) (head_event events a)
head_first events a [] same some = absurd (omega (arith, some))
head_first events a (n ∷ ns) same some = first_same (n ∷ ns) (waiting_on events a) same ∙ sym (head_is events a)

-- changes that move nothing on the activity

still : (a : ℕ) (c : Change) (was : List ℕ) → moves_queue a c ≡ false → waiting_after c a was ≡ was
still a (changes.Push a' event) was is = rw is refl
still a (changes.Pop a') was is = rw is refl
still a _ was is = refl

all_still : (a : ℕ) (cs : List Change) (was : List ℕ) → list_any (moves_queue a) cs ≡ false → fold (λ was c. waiting_after c a was) was cs ≡ was
all_still a [] was is = refl
all_still a (c ∷ cs) was is = elim (cases_Bool (moves_queue a c)) [
  | inl moves ↦ absurd (let wrong : true ≡ false = rw moves at is in cc)
  | inr stays ↦
      let more : list_any (moves_queue a) cs ≡ false = rw stays at is in
      ap (λ now. fold (λ was c. waiting_after c a was) now cs) (still a c was stays) ∙ all_still a cs was more
]

pub head_still : (cs : List Change) (s : State) (a : ℕ) → list_any (moves_queue a) cs ≡ false → option_map (λ (v : Event). v.id) (head_event (after_changes cs s).events a) ≡ option_map (λ (v : Event). v.id) (head_event s.events a)
head_still cs s a is =
    head_is (after_changes cs s).events a ∙ ap first_of (waiting_laid cs s a ∙ all_still a cs (waiting_on s.events a) is) ∙ sym (head_is s.events a)

-- suspensions

held_seen : (a a' until : ℕ) (rows : List Suspension) → is_suspended (with_suspension rows a' until) a ≡ ((a' == a) || is_suspended rows a)
held_seen a a' until rows =
    let row : Suspension = record { activity = record { 0 = a' }; until = until } in
    let mine : Suspension → Bool = λ r. r.activity.0 == a in
    elim (cases_Bool (a' == a)) [
      | inl same ↦ ap (λ (o : Option Suspension). is_some (option_map (λ (r : Suspension). r.until) o)) (find_put_own suspension_before mine row rows same (λ x own. level x.activity.0 own same)) ∙ (rw same refl)
      | inr other ↦ ap (λ (o : Option Suspension). is_some (option_map (λ (r : Suspension). r.until) o)) (find_put_other suspension_before mine row rows (nat_lt a a') (nat_lt a' a) other (turned other) (λ x own. at_front x.activity.0 own) (λ x own. at_back x.activity.0 own)) ∙ (rw other refl)
    ]
  where
    level : (n : ℕ) → (n == a) ≡ true → (a' == a) ≡ true → nat_lt n a' ≡ false
    level n own same = grind (arith, nat_tests)

    turned : (a' == a) ≡ false → nat_lt a a' ≡ not (nat_lt a' a)
    turned other = grind (arith, nat_tests)

    at_front : (n : ℕ) → (n == a) ≡ true → nat_lt n a' ≡ nat_lt a a'
    at_front n own = grind (arith, nat_tests)

    at_back : (n : ℕ) → (n == a) ≡ true → nat_lt a' n ≡ nat_lt a' a
    at_back n own = grind (arith, nat_tests)

released_seen : (a a' : ℕ) (rows : List Suspension) → is_suspended (without_suspension rows a') a ≡ (not (a' == a) && is_suspended rows a)
released_seen a a' rows = elim (cases_Bool (a' == a)) [
  | inl same ↦ ap (λ (o : Option Suspension). is_some (option_map (λ (r : Suspension). r.until) o)) (find_lost (λ (r : Suspension). r.activity.0 == a) (λ r. not (r.activity.0 == a')) (λ (r : Suspension) mine. lost r.activity.0 mine same) rows) ∙ (rw same refl)
  | inr other ↦ ap (λ (o : Option Suspension). is_some (option_map (λ (r : Suspension). r.until) o)) (find_kept (λ (r : Suspension). r.activity.0 == a) (λ r. not (r.activity.0 == a')) (λ (r : Suspension) mine. kept r.activity.0 mine other) rows) ∙ (rw other refl)
]
  where
    lost : (n : ℕ) → (n == a) ≡ true → (a' == a) ≡ true → not (n == a') ≡ false
    lost n mine same = grind (arith, nat_tests)

    kept : (n : ℕ) → (n == a) ≡ true → (a' == a) ≡ false → not (n == a') ≡ true
    kept n mine other = grind (arith, nat_tests)

suspended_is : (a : ℕ) (c : Change) (s : State) → is_suspended (after_change c s).suspensions a ≡ suspended_after c a (is_suspended s.suspensions a)
suspended_is a (changes.Hold a' until) s = held_seen a a'.0 until s.suspensions
suspended_is a (changes.Release a') s = released_seen a a'.0 s.suspensions
suspended_is a _ s = refl

pub suspended_laid : (cs : List Change) (s : State) (a : ℕ) → is_suspended (after_changes cs s).suspensions a ≡ fold (λ was c. suspended_after c a was) (is_suspended s.suspensions a) cs
suspended_laid cs s a = through (λ (t : State). is_suspended t.suspensions a) (λ was c. suspended_after c a was) (suspended_is a) cs s
