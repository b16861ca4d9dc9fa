-- What is to be done next may be done.
use Rattle.std.proofs.Common.{◌≡◌, ℕ, ◌==◌, nat_le, Bool, true, false, ◌||◌, ◌&&◌, if◌then◌else◌, List, [], ◌∷◌, length, map, inl, inr, refl, sym, ◌∙◌, ap, subst, Option, Some, None}
use Rattle.std.specs.Option.{option_map_or}
use Rattle.std.proofs.lemmas.Bool.{cases_Bool, leb-false}
use Rattle.slee_value.specs.declared.ids.ActivityId.{ActivityId}
use Rattle.router_state.specs.State.{State, is_used_up}
use Rattle.router_state.specs.Next.{first_choice, is_claimed as is_one_of, least, next}
use Rattle.router_state.specs.declared.kindred.Kindred.{Kindred}
use Rattle.router_state.specs.declared.rows.Activity.{Activity}
use Rattle.router_durable.specs.declared.fault.Stop.{Stop}
use Rattle.tx_attempt.specs.declared.ticket.Ticket.{Ticket}
use Rattle.slee_container.specs.Claims.{activities_of, claimed_in, is_claimed}
use Rattle.slee_container.specs.Container.{View, state_of}
use Rattle.slee_container.specs.Work.{Offers, is_left, line_or, next_work, work_left}
use Rattle.slee_container.specs.declared.fault.Work.{Work}
use Rattle.slee_container.specs.declared.fault.Work.TheVariants as works

-- the least activity that has a choice isn't claimed

record IsFreeChoice (s : State) (claims : List Ticket) (a : ℕ) (k : Kindred) : Type 0 where
  pub next : next s a ≡ Some k
  pub free : is_claimed claims a ≡ false

one_of : (claims : List Ticket) (row : Activity) → is_one_of (claimed_in claims) row ≡ is_claimed claims row.number.0
one_of [] row = refl
one_of (t ∷ ts) row = ap (λ (more : Bool). (t.activity.0 == row.number.0) || more) (one_of ts row)

same_choice : (x y : ℕ × Kindred) → Some x ≡ Some y → x ≡ y
same_choice x y is = cc

by_next : (s : State) (claims : List Ticket) (b a : ℕ) (k : Kindred) (more : Option (ℕ × Kindred)) (found : Option Kindred) → next s b ≡ found → is_claimed claims b ≡ false
    → option_map_or (λ kind. Some (b, kind)) found more ≡ Some (a, k) → (more ≡ Some (a, k) → IsFreeChoice s claims a k) → IsFreeChoice s claims a k
by_next s claims b a k more None none free is go = go is
by_next s claims b a k more (Some kind) some free is go =
    let same : (b, kind) ≡ (a, k) = same_choice (b, kind) (a, k) is in
    let number : b ≡ a = ap (λ x. x.0) same in
    let kinds : kind ≡ k = ap (λ x. x.1) same in
    record {
      next = subst (λ (n : ℕ). next s n ≡ Some k) number (some ∙ ap (λ (x : Kindred). Some x) kinds);
      free = subst (λ (n : ℕ). is_claimed claims n ≡ false) number free;
    }

first_free : (s : State) (claims : List Ticket) (rows : List Activity) (a : ℕ) (k : Kindred) → first_choice s (claimed_in claims) rows ≡ Some (a, k) → IsFreeChoice s claims a k
first_free s claims [] a k is = absurd cc
first_free s claims (row ∷ rows) a k is = elim (cases_Bool (is_one_of (claimed_in claims) row)) [
  | inl mine ↦ first_free s claims rows a k (rw mine at is)
  | inr other ↦ by_next s claims row.number.0 a k (first_choice s (claimed_in claims) rows) (next s row.number.0) refl (sym (one_of claims row) ∙ other) (rw other at is) (first_free s claims rows a k)
]

module _ {D : Type 0} (v : View D) where
  line_offered : v.stop ≡ None → Offers v (line_or v)
  line_offered live = elim (cases_Bool (nat_le (length v.setup.lines) v.taken)) [
    | inl all ↦ elim (cases_Bool (length v.claims == 0)) [
      | inl none ↦ rw (all, none) tt
      | inr some ↦ rw (all, some) tt
    ]
    | inr some ↦ rw some (live, leb-false (length v.setup.lines) v.taken some)
  ]

  left_offered : v.stop ≡ None → (found : Option (ℕ × Kindred)) → least (state_of v) (claimed_in v.claims) ≡ found
      → Offers v (option_map_or (λ x. works.Step (record { 0 = x.0 }) x.1) found (line_or v))
  left_offered live None is = line_offered live
  left_offered live (Some x) is =
      let free = first_free (state_of v) v.claims (state_of v).activities x.0 x.1 is in
      (live, free.next, free.free)

  by_stop : (stop : Option Stop) → v.stop ≡ stop → (spent : Bool) → Offers v (option_map_or works.Stopped stop (if spent then works.Spent else work_left v))
  by_stop (Some stop) is spent = tt
  by_stop None is true = tt
  by_stop None is false = left_offered is (least (state_of v) (claimed_in v.claims)) refl

  pub offered : (work : Work) → work ≡ next_work v → Offers v work
  offered work is = subst (Offers v) (sym is) (by_stop v.stop refl (is_used_up (state_of v) || (nat_le v.setup.steps (length v.history) && is_left v)))

  pub left_offers : v.stop ≡ None → (work : Work) → work ≡ work_left v → Offers v work
  left_offers live work is = subst (Offers v) (sym is) (left_offered live (least (state_of v) (claimed_in v.claims)) refl)

-- the activities that are claimed, as numbers
numbers_are : (claimed : List ActivityId) (claims : List Ticket) → claimed ≡ activities_of claims → map (λ (a : ActivityId). a.0) claimed ≡ claimed_in claims
numbers_are claimed claims same = ap (map (λ (a : ActivityId). a.0)) same ∙ by claims
  where
    by : (us : List Ticket) → map (λ (a : ActivityId). a.0) (activities_of us) ≡ claimed_in us
    by [] = refl
    by (u ∷ us) = ap (λ (l : List ℕ). u.activity.0 ∷ l) (by us)

-- what is left, by the least choice that was found
pub work_found : {D : Type 0} (v : View D) (claimed : List ActivityId) (a : ActivityId) (k : Kindred) → claimed ≡ activities_of v.claims
    → Some (a.0, k) ≡ least (state_of v) (map (λ (b : ActivityId). b.0) claimed) → works.Step a k ≡ work_left v
work_found v claimed a k same found =
    let is : least (state_of v) (claimed_in v.claims) ≡ Some (a.0, k) = ap (least (state_of v)) (sym (numbers_are claimed v.claims same)) ∙ sym found in
    sym (ap (λ (o : Option (ℕ × Kindred)). option_map_or (λ x. works.Step (record { 0 = x.0 }) x.1) o (line_or v)) is)

pub work_missing : {D : Type 0} (v : View D) (claimed : List ActivityId) (w : Work) → claimed ≡ activities_of v.claims → None ≡ least (state_of v) (map (λ (b : ActivityId). b.0) claimed) → w ≡ line_or v
    → w ≡ work_left v
work_missing v claimed w same none is =
    let nothing : least (state_of v) (claimed_in v.claims) ≡ None = ap (least (state_of v)) (sym (numbers_are claimed v.claims same)) ∙ sym none in
    is ∙ sym (ap (λ (o : Option (ℕ × Kindred)). option_map_or (λ x. works.Step (record { 0 = x.0 }) x.1) o (line_or v)) nothing)
