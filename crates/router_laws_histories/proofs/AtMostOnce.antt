-- No event reaches an entity twice.
use Rattle.std.proofs.Common.{◌≡◌, ℕ, ◌+◌, ◌<◌, ◌≤◌, ◌==◌, List, [], ◌∷◌, ◌++◌, filter, map, refl, sym, ◌∙◌, ap, subst, inl, inr, ◌⊎◌, arith}
use Rattle.std.specs.List.{AllByRecursion}
use Rattle.std.proofs.lemmas.Bool.{cases_Bool, cond_both, eqb-true}
use Rattle.std.proofs.lemmas.List.{map-append}
use Rattle.router_laws.specs.Forest.{IsIn}
use Rattle.router_laws.proofs.ForestLemmas.{in_right, in_either}
use Rattle.router_laws_histories.specs.Fires.{Firing, fired_on}
use Rattle.router_laws_histories.specs.Words.{fires_of_step}
use Rattle.router_laws_histories.proofs.Growing.{number_of, RisesFrom}
use Rattle.router_laws.proofs.ListRules.{all_right, all_append, all_weaker}
use Rattle.router_laws.proofs.Queues.{AreEventsBelow}
use Rattle.router_laws_histories.proofs.Stepped.{begun, gone_on, IsLookedUp, begun_queues, step_grows, dropped_same}
use Rattle.router_state.specs.State.{State}
use Rattle.router_state.specs.Queues.{queue}
use Rattle.router_state.specs.declared.rows.Queued.{Queued}
use Rattle.router_steps.specs.Closing.{closing}
use Rattle.router_steps.specs.Histories.{pending_at}
use Rattle.router_steps.specs.Steps.{Subject, Taking, Selecting, Delivering, Finishing, after_subject}

-- numbers

abbrev pub Rising : List ℕ → Type 0
Rising [] = Unit {0}
Rising (x ∷ xs) = AllByRecursion (λ y. x < y) xs × Rising xs

pub at : (P : ℕ → Type 0) (x : ℕ) (xs : List ℕ) → AllByRecursion P xs → IsIn x xs → P x
at P x [] all there = elim there [ ]
at P x (y ∷ ys) all (inl same) = subst P (sym same) all.0
at P x (y ∷ ys) all (inr more) = at P x ys all.1 more

rising_append : (n : ℕ) (xs ys : List ℕ) → Rising xs → AllByRecursion (λ x. x < n) xs → Rising ys → AllByRecursion (λ y. n ≤ y) ys → Rising (xs ++ ys)
rising_append n [] ys one below two from = two
rising_append n (x ∷ xs) ys one below two from =
    (all_append (λ y. x < y) xs ys one.0 (all_weaker (λ y. n ≤ y) (λ y. x < y) ys (λ y le. omega (arith, le, below.0)) from), rising_append n xs ys one.1 below.1 two from)

rising_right : (xs ys : List ℕ) → Rising (xs ++ ys) → Rising ys
rising_right [] ys rises = rises
rising_right (x ∷ xs) ys rises = rising_right xs ys rises.1

-- what is fired has numbers that rise

pub fired_from : (a n m : ℕ) (fires : List Firing) → RisesFrom n fires m → AllByRecursion (λ v. n ≤ v) (map number_of (fired_on a fires))
fired_from a n m [] rises = tt
fired_from a n m (x ∷ xs) rises =
    let more = all_weaker (λ v. x.1.id.0 + 1 ≤ v) (λ v. n ≤ v) (map number_of (fired_on a xs)) (λ v le. omega (arith, le, rises.0)) (fired_from a (x.1.id.0 + 1) m xs rises.1) in
    cond_both (x.0 == a) (x ∷ filter (λ f. f.0 == a) xs) (filter (λ f. f.0 == a) xs) (λ fs. AllByRecursion (λ v. n ≤ v) (map number_of (map (λ f. f.1) fs))) (λ _. (rises.0, more)) (λ _. more)

fired_rises : (a n m : ℕ) (fires : List Firing) → RisesFrom n fires m → Rising (map number_of (fired_on a fires))
fired_rises a n m [] rises = tt
fired_rises a n m (x ∷ xs) rises =
    let above = fired_from a (x.1.id.0 + 1) m xs rises.1 in
    let more = fired_rises a (x.1.id.0 + 1) m xs rises.1 in
    cond_both (x.0 == a) (x ∷ filter (λ f. f.0 == a) xs) (filter (λ f. f.0 == a) xs) (λ fs. Rising (map number_of (map (λ f. f.1) fs)))
    (λ _. (all_weaker (λ v. x.1.id.0 + 1 ≤ v) (λ v. x.1.id.0 < v) (map number_of (fired_on a xs)) (λ v le. le_lt x.1.id.0 v le) above, more)) (λ _. more)
  where
    le_lt : (k v : ℕ) → k + 1 ≤ v → k < v
    le_lt k v le = omega (arith, le)

pub fired_below : (n m : ℕ) (fires : List Firing) → RisesFrom n fires m → n ≤ m
fired_below n m [] rises = rises
fired_below n m (x ∷ xs) rises = let more = fired_below (x.1.id.0 + 1) m xs rises.1 in omega (arith, more, rises.0)

split_first : (v a : ℕ) (x : Firing) (rest : List ℕ) → x.0 ≡ a → IsIn v (x.1.id.0 ∷ rest) → ((x.0 ≡ a) × (v ≡ x.1.id.0)) ⊎ IsIn v rest
split_first v a x rest mine (inl same) = inl (mine, same)
split_first v a x rest mine (inr more) = inr more

in_fired : (v a : ℕ) (x : Firing) (xs : List Firing) → IsIn v (map number_of (fired_on a (x ∷ xs))) → ((x.0 ≡ a) × (v ≡ x.1.id.0)) ⊎ IsIn v (map number_of (fired_on a xs))
in_fired v a x xs there = elim (cases_Bool (x.0 == a)) [
  | inl is ↦ split_first v a x (map number_of (fired_on a xs)) (eqb-true x.0 a is) (rw is at there)
  | inr isnt ↦ inr (rw isnt at there)
]

fired_one : (v a b n m : ℕ) (fires : List Firing) → RisesFrom n fires m → IsIn v (map number_of (fired_on a fires)) → IsIn v (map number_of (fired_on b fires)) → a ≡ b
fired_one v a b n m [] rises one two = elim one [ ]
fired_one v a b n m (x ∷ xs) rises one two = elim (in_fired v a x xs one) [
  | inl here ↦ elim (in_fired v b x xs two) [
    | inl also ↦ sym here.0 ∙ also.0
    | inr later ↦ absurd (above v x.1.id.0 here.1 (at (λ w. x.1.id.0 + 1 ≤ w) v (map number_of (fired_on b xs)) (fired_from b (x.1.id.0 + 1) m xs rises.1) later))
  ]
  | inr there ↦ elim (in_fired v b x xs two) [
    | inl here ↦ absurd (above v x.1.id.0 here.1 (at (λ w. x.1.id.0 + 1 ≤ w) v (map number_of (fired_on a xs)) (fired_from a (x.1.id.0 + 1) m xs rises.1) there))
    | inr later ↦ fired_one v a b (x.1.id.0 + 1) m xs rises.1 there later
  ]
]
  where
    above : (v k : ℕ) → v ≡ k → k + 1 ≤ v → ⊥
    above v k is le = omega (arith, is, le)

-- queues: each number waits once, and on one activity

pub record AreQueued (s : State) : Type 0 where
  pub below : AreEventsBelow s.next_event s.events
  pub rises : (a : ℕ) → Rising (pending_at s a)
  pub one : (v a b : ℕ) → IsIn v (pending_at s a) → IsIn v (pending_at s b) → a ≡ b

pub pending_below : (events : List Queued) (n a : ℕ) → AreEventsBelow n events → AllByRecursion (λ v. v < n) (map number_of (queue events a))
pending_below [] n a below = tt
pending_below (q ∷ qs) n a below =
    cond_both (q.activity.0 == a) (q ∷ filter (λ r. r.activity.0 == a) qs) (filter (λ r. r.activity.0 == a) qs) (λ rs. AllByRecursion (λ v. v < n) (map number_of (map (λ r. r.event) rs)))
    (λ _. (below.0, pending_below qs n a below.1)) (λ _. pending_below qs n a below.1)

-- what waits behind a step: what waited and didn't go, and what is new
pub pending_after : (x : Subject) (s : State) → IsLookedUp x s → AreQueued s → (a : ℕ)
    → (pending_at s a ≡ map number_of (gone_on a x) ++ map number_of (queue (begun x s).events a))
    × (pending_at (closing (after_subject x s)) a ≡ map number_of (queue (begun x s).events a) ++ map number_of (fired_on a (fires_of_step s x)))
pending_after x s up queued a =
    let grows = step_grows x s up queued.below in (
      ap (map number_of) (begun_queues x s up a) ∙ map-append number_of (gone_on a x) (queue (begun x s).events a),
      ap (map number_of) (grows.queues a) ∙ map-append number_of (queue (begun x s).events a) (fired_on a (fires_of_step s x)),
    )

pub next_begun : (x : Subject) (s : State) → (begun x s).next_event ≡ s.next_event
next_begun (Taking signal action) s = refl
next_begun (Selecting x) s = refl
next_begun (Delivering x) s = refl
next_begun (Finishing x) s = (dropped_same x s).1

pub queued_after : (x : Subject) (s : State) → IsLookedUp x s → AreQueued s → AreQueued (closing (after_subject x s))
queued_after x s up queued =
    let grows = step_grows x s up queued.below in
    let numbers : RisesFrom s.next_event (fires_of_step s x) (closing (after_subject x s)).next_event = subst (λ n. RisesFrom n (fires_of_step s x) (closing (after_subject x s)).next_event) (next_begun x s) grows.numbers in
    let stays : (v a : ℕ) → IsIn v (map number_of (queue (begun x s).events a)) → IsIn v (pending_at s a) =
    λ v a there. rw (pending_after x s up queued a).0 (in_right v (map number_of (gone_on a x)) (map number_of (queue (begun x s).events a)) there) in
    record {
      below = grows.below;
      rises = λ a. rw (pending_after x s up queued a).1
          (rising_append s.next_event (map number_of (queue (begun x s).events a)) (map number_of (fired_on a (fires_of_step s x)))
          (rising_right (map number_of (gone_on a x)) (map number_of (queue (begun x s).events a)) (rw (pending_after x s up queued a).0 at (queued.rises a)))
          (all_right (λ v. v < s.next_event) (map number_of (gone_on a x)) (map number_of (queue (begun x s).events a)) (rw (pending_after x s up queued a).0 at (pending_below s.events s.next_event a queued.below)))
          (fired_rises a s.next_event _ (fires_of_step s x) numbers) (fired_from a s.next_event _ (fires_of_step s x) numbers));
      one = λ v a b one two.
          elim (in_either v (map number_of (queue (begun x s).events a)) (map number_of (fired_on a (fires_of_step s x))) (rw (pending_after x s up queued a).1 at one)) [
            | inl old ↦ elim (in_either v (map number_of (queue (begun x s).events b)) (map number_of (fired_on b (fires_of_step s x))) (rw (pending_after x s up queued b).1 at two)) [
              | inl too ↦ queued.one v a b (stays v a old) (stays v b too)
              | inr new ↦ absurd (both v s.next_event (at (λ w. w < s.next_event) v (pending_at s a) (pending_below s.events s.next_event a queued.below) (stays v a old))
                  (at (λ w. s.next_event ≤ w) v (map number_of (fired_on b (fires_of_step s x))) (fired_from b s.next_event _ (fires_of_step s x) numbers) new))
            ]
            | inr new ↦ elim (in_either v (map number_of (queue (begun x s).events b)) (map number_of (fired_on b (fires_of_step s x))) (rw (pending_after x s up queued b).1 at two)) [
              | inl old ↦ absurd (both v s.next_event (at (λ w. w < s.next_event) v (pending_at s b) (pending_below s.events s.next_event b queued.below) (stays v b old))
                  (at (λ w. s.next_event ≤ w) v (map number_of (fired_on a (fires_of_step s x))) (fired_from a s.next_event _ (fires_of_step s x) numbers) new))
              | inr too ↦ fired_one v a b s.next_event _ (fires_of_step s x) numbers new too
            ]
          ];
    }
  where
    both : (v n : ℕ) → v < n → n ≤ v → ⊥
    both v n less le = omega (arith, less, le)
