-- The front of an activity's queue after changes is known by its front before them, further by as many events as they take from it.
use Rattle.std.proofs.Common.{◌≡◌, ℕ, zero, suc, ◌+◌, ◌==◌, true, false, List, [], ◌∷◌, ◌++◌, take, drop, filter, Some, slice_get, refl, sym, ap, ◌∙◌, subst, arith, inl, inr, nat_lt}
use Rattle.std.specs.Prelude.{if◌then◌else◌, count_by}
use Rattle.std.specs.List.{AllByRecursion, fold}
use Rattle.std.proofs.lemmas.Bool.{cases_Bool}
use Rattle.std.proofs.lemmas.Bool.Decides.{nat_tests}
use Rattle.router_state.specs.State.{State}
use Rattle.router_state.specs.Changes.{after_changes}
use Rattle.router_state.specs.Ordered.{IsOrdered}
use Rattle.router_state.specs.Queues.{queued_before}
use Rattle.router_state.specs.declared.change.Change.{Change}
use Rattle.router_state.specs.declared.change.Change.TheVariants as changes
use Rattle.router_state.specs.declared.rows.Queued.{Queued}
use Rattle.rows_sorted.specs.Orders.{put}
use Rattle.router_laws.proofs.RisingLemmas.{InOrder, Joins, order_from_rises, put_in_order}
use Rattle.router_draft.proofs.NextLemmas.{counted, one_if}
use Rattle.router_draft.proofs.QueueLemmas.{waiting_laid}
use Rattle.router_draft.specs.After.{pops, waiting_after, waiting_on}

-- numbers that rise
abbrev Rising : List ℕ → Type 0
Rising ns = InOrder nat_lt ns

joins : Joins nat_lt
joins x y z one two = grind (arith, nat_tests)

-- a number in its place among numbers that rise

not_back : (a x : ℕ) → nat_lt a x ≡ true → nat_lt x a ≡ false
not_back a x low = grind (arith, nat_tests, low)

not_low : (a b x : ℕ) → nat_lt a x ≡ false → nat_lt a b ≡ true → nat_lt b x ≡ false
not_low a b x high above = grind (arith, nat_tests, high, above)

over : (a b x : ℕ) → nat_lt a x ≡ false → nat_lt a b ≡ true → nat_lt x b ≡ true
over a b x high above = grind (arith, nat_tests, high, above)

none_low : (a x : ℕ) (ns : List ℕ) → nat_lt a x ≡ false → AllByRecursion (λ b. nat_lt a b ≡ true) ns → filter (λ b. nat_lt b x) ns ≡ []
none_low a x [] high all = refl
none_low a x (b ∷ ms) high all = let not = not_low a b x high all.0 in rw not (none_low a x ms high all.1)

all_high : (a x : ℕ) (ns : List ℕ) → nat_lt a x ≡ false → AllByRecursion (λ b. nat_lt a b ≡ true) ns → filter (λ b. nat_lt x b) ns ≡ ns
all_high a x [] high all = refl
all_high a x (b ∷ ms) high all = let is = over a b x high all.0 in rw is (ap (λ rest. b ∷ rest) (all_high a x ms high all.1))

put_behind : (a x : ℕ) (ns : List ℕ) → nat_lt a x ≡ true → put nat_lt x (a ∷ ns) ≡ a ∷ put nat_lt x ns
put_behind a x ns low = let back = not_back a x low in rw (low, back) refl

put_first : (a x : ℕ) (ns : List ℕ) → Rising (a ∷ ns) → nat_lt a x ≡ false → put nat_lt x (a ∷ ns) ≡ x ∷ (if nat_lt x a then a ∷ ns else ns)
put_first a x ns order high = let none = none_low a x ns high order.0 in let all = all_high a x ns high order.0 in rw (high, none, all) refl

-- the front of a list

fewer : (n : ℕ) (xs ys : List ℕ) → take (suc n) xs ≡ take (suc n) ys → take n xs ≡ take n ys
fewer zero xs ys same = refl
fewer (suc n) [] [] same = refl
fewer (suc n) [] (y ∷ ys) same = cc
fewer (suc n) (x ∷ xs) [] same = cc
fewer (suc n) (x ∷ xs) (y ∷ ys) same =
    let both : x ∷ take (suc n) xs ≡ y ∷ take (suc n) ys = same in
    let head : x ≡ y = cc in
    let tail : take (suc n) xs ≡ take (suc n) ys = cc in
    ap (λ z. z ∷ take n xs) head ∙ ap (λ zs. y ∷ zs) (fewer n xs ys tail)

front_put : (n x : ℕ) (xs ys : List ℕ) → Rising xs → Rising ys → take n xs ≡ take n ys → take n (put nat_lt x xs) ≡ take n (put nat_lt x ys)
front_put zero x xs ys up also same = refl
front_put (suc n) x [] [] up also same = refl
front_put (suc n) x [] (y ∷ ys) up also same = cc
front_put (suc n) x (a ∷ ns) [] up also same = cc
front_put (suc n) x (a ∷ ns) (b ∷ ms) up also same =
    let both : a ∷ take n ns ≡ b ∷ take n ms = same in
    let head : a ≡ b = cc in
    let tail : take n ns ≡ take n ms = cc in
    elim (cases_Bool (nat_lt a x)) [
      | inl low ↦
          let other = ap (λ m. nat_lt m x) (sym head) ∙ low in
          let rest = front_put n x ns ms up.1 also.1 tail in
          ap (take (suc n)) (put_behind a x ns low) ∙ ap (λ z. z ∷ take n (put nat_lt x ns)) head ∙ ap (λ zs. b ∷ zs) rest ∙ ap (take (suc n)) (sym (put_behind b x ms other))
      | inr high ↦
          let other = ap (λ m. nat_lt m x) (sym head) ∙ high in
          ap (take (suc n)) (put_first a x ns up high) ∙ ap (λ zs. x ∷ zs) (behind_it head tail) ∙ ap (take (suc n)) (sym (put_first b x ms also other))
    ]
  where
    behind_it : a ≡ b → take n ns ≡ take n ms → take n (if nat_lt x a then a ∷ ns else ns) ≡ take n (if nat_lt x b then b ∷ ms else ms)
    behind_it head tail = elim (cases_Bool (nat_lt x a)) [
      | inl first ↦ let other = ap (nat_lt x) (sym head) ∙ first in rw (first, other) (fewer n (a ∷ ns) (b ∷ ms) same)
      | inr level ↦ let other = ap (nat_lt x) (sym head) ∙ level in rw (level, other) tail
    ]

front_drop : (n : ℕ) (xs ys : List ℕ) → take (suc n) xs ≡ take (suc n) ys → take n (drop 1 xs) ≡ take n (drop 1 ys)
front_drop n [] [] same = refl
front_drop n [] (y ∷ ys) same = cc
front_drop n (x ∷ xs) [] same = cc
front_drop n (x ∷ xs) (y ∷ ys) same = let both : x ∷ take n xs ≡ y ∷ take n ys = same in cc

-- of equal fronts of one length those of an equal length are equal
as_far : (m n : ℕ) (xs ys : List ℕ) → m ≡ n → take m xs ≡ take m ys → take n xs ≡ take n ys
as_far m n xs ys is same = subst (λ k. take k xs ≡ take k ys) is same

-- a change, and changes

rising_rest : (ns : List ℕ) → Rising ns → Rising (drop 1 ns)
rising_rest [] up = tt
rising_rest (n ∷ ns) up = up.1

rising_after : (a : ℕ) (c : Change) (ns : List ℕ) → Rising ns → Rising (waiting_after c a ns)
rising_after a (changes.Push a' event) ns up = elim (cases_Bool (a'.0 == a)) [
  | inl own ↦ rw own (put_in_order nat_lt joins event.id.0 ns up)
  | inr other ↦ rw other up
]
rising_after a (changes.Pop a') ns up = elim (cases_Bool (a'.0 == a)) [
  | inl own ↦ rw own (rising_rest ns up)
  | inr other ↦ rw other up
]
rising_after a _ ns up = up

front_after : (a n : ℕ) (c : Change) (xs ys : List ℕ) → Rising xs → Rising ys → take (one_if (pops a c) + n) xs ≡ take (one_if (pops a c) + n) ys → take n (waiting_after c a xs) ≡ take n (waiting_after c a ys)
front_after a n (changes.Push a' event) xs ys up also same =
    let front = as_far (0 + n) n xs ys (omega arith) same in
    elim (cases_Bool (a'.0 == a)) [
      | inl own ↦ rw own (front_put n event.id.0 xs ys up also front)
      | inr other ↦ rw other front
    ]
front_after a n (changes.Pop a') xs ys up also same = elim (cases_Bool (a'.0 == a)) [
  | inl own ↦ rw own (front_drop n xs ys (as_far (1 + n) (suc n) xs ys (omega arith) (rw own at same)))
  | inr other ↦ rw other (as_far (0 + n) n xs ys (omega arith) (rw other at same))
]
front_after a n _ xs ys up also same = as_far (0 + n) n xs ys (omega arith) same

front_through : (a n : ℕ) (cs : List Change) (xs ys : List ℕ) → Rising xs → Rising ys → take (count_by (pops a) cs + n) xs ≡ take (count_by (pops a) cs + n) ys
    → take n (fold (λ was c. waiting_after c a was) xs cs) ≡ take n (fold (λ was c. waiting_after c a was) ys cs)
front_through a n [] xs ys up also same = as_far (0 + n) n xs ys (omega arith) same
front_through a n (c ∷ cs) xs ys up also same =
    let is = counted (pops a) c cs in
    let count : count_by (pops a) (c ∷ cs) + n ≡ one_if (pops a c) + (count_by (pops a) cs + n) = omega (arith, is) in
    front_through a n cs (waiting_after c a xs) (waiting_after c a ys) (rising_after a c xs up) (rising_after a c ys also)
    (front_after a (count_by (pops a) cs + n) c xs ys up also (as_far (count_by (pops a) (c ∷ cs) + n) (one_if (pops a c) + (count_by (pops a) cs + n)) xs ys count same))

-- the queue of a state

lower_event : (a : ℕ) (q r : Queued) → (q.activity.0 == a) ≡ true → (r.activity.0 == a) ≡ true → queued_before q r ≡ true → nat_lt q.event.id.0 r.event.id.0 ≡ true
lower_event a q r one other before = grind (arith, nat_tests, one, other, before)

all_later : (a : ℕ) (q : Queued) (events : List Queued) → (q.activity.0 == a) ≡ true → AllByRecursion (λ r. queued_before q r ≡ true) events → AllByRecursion (λ n. nat_lt q.event.id.0 n ≡ true) (waiting_on events a)
all_later a q [] own all = tt
all_later a q (r ∷ rs) own all = elim (cases_Bool (r.activity.0 == a)) [
  | inl mine ↦ rw mine (lower_event a q r own mine all.0, all_later a q rs own all.1)
  | inr other ↦ rw other (all_later a q rs own all.1)
]

waiting_rises : (a : ℕ) (events : List Queued) → InOrder queued_before events → Rising (waiting_on events a)
waiting_rises a [] order = tt
waiting_rises a (q ∷ qs) order = elim (cases_Bool (q.activity.0 == a)) [
  | inl own ↦ rw own (all_later a q qs own order.0, waiting_rises a qs order.1)
  | inr other ↦ rw other (waiting_rises a qs order.1)
]

events_join : Joins queued_before
events_join x y z one two = grind (arith, nat_tests)

all_front : (P : ℕ → Type 0) (n : ℕ) (ns : List ℕ) → AllByRecursion P ns → AllByRecursion P (take n ns)
all_front P zero ns all = tt
all_front P (suc n) [] all = tt
all_front P (suc n) (x ∷ xs) all = (all.0, all_front P n xs all.1)

rising_front : (n : ℕ) (ns : List ℕ) → Rising ns → Rising (take n ns)
rising_front zero ns up = tt
rising_front (suc n) [] up = tt
rising_front (suc n) (x ∷ xs) up = (all_front (λ y. nat_lt x y ≡ true) n xs up.0, rising_front n xs up.1)

front_again : (n : ℕ) (ns : List ℕ) → take n (take n ns) ≡ take n ns
front_again zero ns = refl
front_again (suc n) [] = refl
front_again (suc n) (x ∷ xs) = ap (λ rest. x ∷ rest) (front_again n xs)

-- The changes over the front of the queue, with one event more than they take from it, give the head of the queue.
front_laid : (cs : List Change) (s : State) (a count : ℕ) → IsOrdered s → count ≡ count_by (pops a) cs + 1
    → take 1 (fold (λ was c. waiting_after c a was) (take count (waiting_on s.events a)) cs) ≡ take 1 (waiting_on (after_changes cs s).events a)
front_laid cs s a count order is =
    let all = waiting_on s.events a in
    let up = waiting_rises a s.events (order_from_rises queued_before events_join s.events order.events) in
    let same = ap (λ n. take n (take count all)) (sym is) ∙ front_again count all ∙ ap (λ n. take n all) is in
    front_through a 1 cs (take count all) all (rising_front count all up) up same ∙ ap (take 1) (sym (waiting_laid cs s a))

-- as the code has it: what was read of the queue, with the changes over it
pub read_laid : (cs changes : List Change) (s : State) (a popped : ℕ) (read : List ℕ) → IsOrdered s → changes ≡ cs → popped ≡ count_by (pops a) changes → read ≡ take (popped + 1) (waiting_on s.events a)
    → take 1 (fold (λ was c. waiting_after c a was) read changes) ≡ take 1 (waiting_on (after_changes cs s).events a)
read_laid cs changes s a popped read order same count is =
    let number : popped + 1 ≡ count_by (pops a) cs + 1 = ap (λ n. n + 1) (count ∙ ap (count_by (pops a)) same) in
    ap (λ ns. take 1 (fold (λ was c. waiting_after c a was) ns changes)) is
    ∙ ap (λ cs. take 1 (fold (λ was c. waiting_after c a was) (take (popped + 1) (waiting_on s.events a)) cs)) same
    ∙ front_laid cs s a (popped + 1) order number

-- and an event more that is read

pub one_more : (ns : List ℕ) (place n : ℕ) → slice_get ns place ≡ Some n → take place ns ++ n ∷ [] ≡ take (place + 1) ns
one_more [] place n is = cc
one_more (x ∷ xs) zero n is = let first : Some x ≡ Some n = is in let same : x ≡ n = cc in ap (λ z. z ∷ []) (sym same)
one_more (x ∷ xs) (suc place) n is =
    let further : suc place + 1 ≡ suc (place + 1) = omega arith in
    ap (λ rest. x ∷ rest) (one_more xs place n is) ∙ ap (λ k. take k (x ∷ xs)) (sym further)
