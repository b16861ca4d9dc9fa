-- What the laws over histories ask of the state where they begin holds of every well-formed one.
use Rattle.std.proofs.Common.{◌≡◌, ℕ, ◌<◌, ◌^◌, ◌==◌, true, false, not, List, [], ◌∷◌, ◌++◌, filter, map, refl, sym, ◌∙◌, ap, subst, inl, inr, arith, if◌then◌else◌, Option, Some, None, flat_map}
use Rattle.std.specs.Prelude.{option_map}
use Rattle.std.specs.List.{AllByRecursion, list_all}
use Rattle.std.specs.Option.{option_map_or}
use Rattle.std.proofs.lemmas.Bool.{cases_Bool, cond_both, and_parts, eqb-true, or_left, or_right}
use Rattle.std.proofs.lemmas.Bool.Decides.{nat_tests}
use Rattle.router_laws_histories.proofs.AtMostOnce.{AreQueued, Rising, at, pending_below}
use Rattle.router_laws.specs.Forest.{IsIn}
use Rattle.router_laws.proofs.ForestLemmas.{in_either}
use Rattle.router_laws_histories.proofs.Growing.{number_of}
use Rattle.router_laws.proofs.Queues.{first_of, head_is_first}
use Rattle.router_laws_histories.proofs.Receiving.{AreMarked, at_most_once, first_is_in}
use Rattle.router_laws.proofs.RisingLemmas.{InOrder, order_from_rises}
use Rattle.router_laws.proofs.Queues.{events_below, queued_joins}
use Rattle.router_state.specs.State.{State}
use Rattle.rows_sorted.specs.Orders.{pair_before, same_pair}
use Rattle.router_state.specs.Queues.{queue, head_event, queued_before, is_delivered, delivered_on}
use Rattle.router_state.specs.Show.{is_head}
use Rattle.router_state.specs.Well.{IsSound}
use Rattle.router_state.specs.WellEntities.{all_differ}
use Rattle.router_state.specs.WellQueues.{differ_in_number}
use Rattle.router_state.specs.declared.rows.Activity.{Activity}
use Rattle.router_state.specs.declared.rows.EntityMark.{EntityMark}
use Rattle.router_state.specs.declared.rows.Event.{Event}
use Rattle.router_state.specs.declared.rows.Queued.{Queued}
use Rattle.router_steps.specs.Histories.{Legal, pending_at, marked_at, replay}
use Rattle.router_steps.specs.Steps.{Subject, after, subject_of}
use Rattle.router_laws_histories.proofs.FiringOrder.{firing_order}
use Rattle.router_laws_histories.proofs.HeadLemmas.{head_stays}
use Rattle.router_laws_histories.specs.Words.{AreNew, AreTold, LeavesHead}
use Rattle.trace_history.specs.Reading.{finished_in, queued_in, reached_in}
use Rattle.trace_history.specs.declared.choice.Choice.{Choice}
use Rattle.trace_history.specs.declared.entry.Entry.{Entry}

-- what waits on an activity is a row of the list of events
row_of_pending : (events : List Queued) (v a : ℕ) → IsIn v (map number_of (queue events a)) → (q : Queued) × IsIn q events × (q.activity.0 ≡ a) × (q.event.id.0 ≡ v)
row_of_pending [] v a there = elim there [ ]
row_of_pending (q ∷ qs) v a there = elim (cases_Bool (q.activity.0 == a)) [
  | inl is ↦ split q qs v a (eqb-true q.activity.0 a is) (row_of_pending qs v a) (rw is at there)
  | inr isnt ↦ (let found = row_of_pending qs v a (rw isnt at there) in (found.0, inr found.1, found.2, found.3))
]
  where
    split : (q : Queued) (qs : List Queued) (v a : ℕ) → q.activity.0 ≡ a → (IsIn v (map number_of (queue qs a)) → (r : Queued) × IsIn r qs × (r.activity.0 ≡ a) × (r.event.id.0 ≡ v))
        → IsIn v (q.event.id.0 ∷ map number_of (queue qs a)) → (r : Queued) × IsIn r (q ∷ qs) × (r.activity.0 ≡ a) × (r.event.id.0 ≡ v)
    split q qs v a on later (inl same) = (q, inl refl, on, sym same)
    split q qs v a on later (inr more) = let found = later more in (found.0, inr found.1, found.2, found.3)

later_numbers : (q : Queued) (qs : List Queued) (a : ℕ) → q.activity.0 ≡ a → AllByRecursion (λ r. queued_before q r ≡ true) qs → AllByRecursion (λ w. q.event.id.0 < w) (map number_of (queue qs a))
later_numbers q [] a on all = tt
later_numbers q (r ∷ rs) a on all =
    cond_both (r.activity.0 == a) (r ∷ filter (λ x. x.activity.0 == a) rs) (filter (λ x. x.activity.0 == a) rs) (λ xs. AllByRecursion (λ w. q.event.id.0 < w) (map number_of (map (λ x. x.event) xs)))
    (λ is. (less q.activity.0 q.event.id.0 r.activity.0 r.event.id.0 a on is all.0, later_numbers q rs a on all.1)) (λ _. later_numbers q rs a on all.1)
  where
    less : (x i y j a : ℕ) → x ≡ a → (y == a) ≡ true → pair_before x i y j ≡ true → i < j
    less x i y j a on is before = grind (arith, nat_tests)

rising_queue : (events : List Queued) (a : ℕ) → InOrder queued_before events → Rising (map number_of (queue events a))
rising_queue [] a order = tt
rising_queue (q ∷ qs) a order =
    cond_both (q.activity.0 == a) (q ∷ filter (λ x. x.activity.0 == a) qs) (filter (λ x. x.activity.0 == a) qs) (λ xs. Rising (map number_of (map (λ x. x.event) xs)))
    (λ is. (later_numbers q qs a (eqb-true q.activity.0 a is) order.0, rising_queue qs a order.1)) (λ _. rising_queue qs a order.1)

differs_at : (q r : Queued) (qs : List Queued) → list_all (differ_in_number q) qs ≡ true → IsIn r qs → q.event.id.0 ≡ r.event.id.0 → ⊥
differs_at q r [] all there same = elim there [ ]
differs_at q r (x ∷ xs) all (inl is) same =
    let parts = and_parts (differ_in_number q x) _ all in
    clash q.event.id.0 x.event.id.0 parts.0 (same ∙ ap (λ (y : Queued). y.event.id.0) is)
  where
    clash : (i j : ℕ) → not (i == j) ≡ true → i ≡ j → ⊥
    clash i j isnt is = grind (arith, nat_tests)
differs_at q r (x ∷ xs) all (inr more) same = differs_at q r xs (and_parts (differ_in_number q x) _ all).1 more same

one_activity : (events : List Queued) (q r : Queued) → all_differ differ_in_number events ≡ true → IsIn q events → IsIn r events → q.event.id.0 ≡ r.event.id.0 → q.activity.0 ≡ r.activity.0
one_activity [] q r all one two same = elim one [ ]
one_activity (x ∷ xs) q r all (inl here) (inl also) same = ap (λ (y : Queued). y.activity.0) (here ∙ sym also)
one_activity (x ∷ xs) q r all (inl here) (inr more) same =
    absurd (differs_at x r xs (and_parts (list_all (differ_in_number x) xs) _ all).0 more (ap (λ (y : Queued). y.event.id.0) (sym here) ∙ same))
one_activity (x ∷ xs) q r all (inr more) (inl here) same =
    absurd (differs_at x q xs (and_parts (list_all (differ_in_number x) xs) _ all).0 more (ap (λ (y : Queued). y.event.id.0) (sym here) ∙ sym same))
one_activity (x ∷ xs) q r all (inr more) (inr also) same = one_activity xs q r (and_parts (list_all (differ_in_number x) xs) _ all).1 more also same

pub queued_base : (s : State) → IsSound s → AreQueued s
queued_base s sound =
    let rises = and_parts _ _ sound.events in
    let differ = and_parts (all_differ differ_in_number s.events) _ rises.1 in
    let rows = and_parts _ _ differ.1 in
    record {
      below = events_below s.deployment s.activities s.events s.next_activity s.next_timer s.next_event rows.0;
      rises = λ a. rising_queue s.events a (order_from_rises queued_before queued_joins s.events rises.0);
      one = λ v a b one two.
          let q = row_of_pending s.events v a one in
          let r = row_of_pending s.events v b two in
          sym q.2 ∙ one_activity s.events q.0 r.0 differ.0 q.1 r.1 (q.3 ∙ sym r.3) ∙ r.2;
    }

-- marks of the base

in_branch : (v : ℕ) (s : State) (rows : List Activity) (e : ℕ)
    → IsIn e (flat_map (λ (row : Activity). if is_head s.events row.number.0 v then delivered_on s.delivered row.number.0 else []) rows)
    → (a : ℕ) × (is_head s.events a v ≡ true) × IsIn e (delivered_on s.delivered a)
in_branch v s [] e there = elim there [ ]
in_branch v s (row ∷ rows) e there =
    elim (in_either e (if is_head s.events row.number.0 v then delivered_on s.delivered row.number.0 else []) _ there) [
      | inl here ↦ elim (cases_Bool (is_head s.events row.number.0 v)) [
        | inl head ↦ (row.number.0, head, rw head at here)
        | inr isnt ↦ absurd (rw isnt at here)
      ]
      | inr more ↦ in_branch v s rows e more
    ]

marked_is : (marks : List EntityMark) (a e : ℕ) → IsIn e (delivered_on marks a) → is_delivered marks a e ≡ true
marked_is [] a e there = elim there [ ]
marked_is (m ∷ ms) a e there = elim (cases_Bool (m.activity.0 == a)) [
  | inl is ↦ split m ms a e is (marked_is ms a e) (rw is at there)
  | inr isnt ↦ or_right (same_pair m.activity.0 m.entity.0 a e) _ (marked_is ms a e (rw isnt at there))
]
  where
    own : (x y a e : ℕ) → (x == a) ≡ true → e ≡ y → same_pair x y a e ≡ true
    own x y a e is same = grind (arith, nat_tests)

    split : (m : EntityMark) (ms : List EntityMark) (a e : ℕ) → (m.activity.0 == a) ≡ true → (IsIn e (delivered_on ms a) → is_delivered ms a e ≡ true) → IsIn e (m.entity.0 ∷ delivered_on ms a) → is_delivered (m ∷ ms) a e ≡ true
    split m ms a e is later (inl same) = or_left (same_pair m.activity.0 m.entity.0 a e) _ (own m.activity.0 m.entity.0 a e is same)
    split m ms a e is later (inr more) = or_right (same_pair m.activity.0 m.entity.0 a e) _ (later more)

head_number : (v : ℕ) (o : Option Event) → option_map_or (λ (event : Event). event.id.0 == v) o false ≡ true → option_map number_of o ≡ Some v
head_number v None is = absurd (cc)
head_number v (Some event) is = ap Some (eqb-true event.id.0 v is)

first_mapped : (events : List Event) → first_of (map number_of events) ≡ option_map number_of (first_of events)
first_mapped [] = refl
first_mapped (x ∷ xs) = refl

pub marked_base : (s : State) → IsSound s → (v : ℕ) → AreMarked s v (marked_at s v)
marked_base s sound v e there =
    let queued = queued_base s sound in
    let found = in_branch v s s.activities e there in
    let first : first_of (pending_at s found.0) ≡ Some v =
    first_mapped (queue s.events found.0) ∙ ap (option_map number_of) (sym (head_is_first s.events found.0)) ∙ head_number v (head_event s.events found.0) found.1 in
    let waits = first_is_in (pending_at s found.0) v first in (
      at (λ w. w < s.next_event) v (pending_at s found.0) (pending_below s.events s.next_event found.0 queued.below) waits,
      λ a also.
          let same : found.0 ≡ a = queued.one v found.0 a waits also in
          (subst (λ b. first_of (pending_at s b) ≡ Some v) same first, subst (λ b. is_delivered s.delivered b e ≡ true) same (marked_is s.delivered found.0 e found.2)),
    )

-- the laws, of well-formed bases

pub finished_in_order : (s : State) (h : List Entry) → IsSound s → Legal s h → AreTold s h → (a : ℕ) → a < 2 ^ 64 → pending_at s a ++ queued_in h a ≡ finished_in h a ++ pending_at (replay s h) a
finished_in_order s h sound = firing_order s h (queued_base s sound).below

pub reached_once : (s : State) (h : List Entry) → IsSound s → Legal s h → AreTold s h → (v : ℕ) → v < 2 ^ 64 → AreNew (marked_at s v) (reached_in h v)
reached_once s h sound legal told v fits = at_most_once s h (queued_base s sound) legal told v fits (marked_at s v) (marked_base s sound v)

pub head_kept : (s : State) (c : Choice) (x : Subject) (a : ℕ) (v : Event) → IsSound s → subject_of s c ≡ Some x → LeavesHead a x
    → head_event s.events a ≡ Some v → head_event (after s c).events a ≡ Some v
head_kept s c x a v sound is leaves head = head_stays s c x a v (queued_base s sound).below is leaves head
