-- No event reaches an entity twice: the marks of its head event tell whom it reached.
use Rattle.router_laws_histories.specs.Words.{AreNew}
use Rattle.std.proofs.Common.{◌≡◌, ℕ, ◌^◌, ◌<◌, ◌≤◌, ◌==◌, Bool, true, false, ◌&&◌, ◌||◌, not, List, [], ◌∷◌, ◌++◌, filter, map, refl, sym, ◌∙◌, ap, subst, inl, inr, ◌⊎◌, arith, if◌then◌else◌, Option, Some, None}
use Rattle.std.specs.Prelude.{option_map, option_and_then, codes}
use Rattle.std.proofs.lemmas.Bool.{cases_Bool, and_parts, not-true, eqb-true, false≢true}
use Rattle.std.proofs.lemmas.Bool.Decides.{nat_tests}
use Rattle.signal_script.specs.Signals.{spelled}
use Rattle.router_laws_histories.proofs.AtMostOnce.{AreQueued, queued_after, pending_after, Rising, at, pending_below, fired_from, next_begun, fired_below}
use Rattle.router_laws.specs.Forest.{IsIn}
use Rattle.router_laws.proofs.ForestLemmas.{in_right, in_either}
use Rattle.router_laws_histories.specs.Fires.{fired_on}
use Rattle.router_laws_histories.proofs.FiringOrder.{after_is, lines_are}
use Rattle.router_laws_histories.specs.Words.{fires_of_step, IsReadableSubject, AreTold}
use Rattle.router_laws_histories.proofs.Growing.{number_of, RisesFrom}
use Rattle.router_laws.proofs.ListRules.{append_nil}
use Rattle.router_laws.proofs.ListRules.{in_filter}
use Rattle.router_laws.proofs.Queues.{first_of, head_is_first}
use Rattle.router_laws_histories.proofs.Reading.{deliver_is_read, other_reach}
use Rattle.router_laws_histories.proofs.Stepped.{begun, gone_on, IsLookedUp, looked_up, step_grows, dropped_same}
use Rattle.router_laws.proofs.Tests.{any_filter, any_left, any_right}
use Rattle.router_state.specs.State.{State}
use Rattle.router_state.specs.Next.{first, eligible, is_eligible, is_for_tree, receives_at}
use Rattle.router_state.specs.Contexts.{is_linked}
use Rattle.router_state.specs.Masks.{is_masked}
use Rattle.deploy_model.specs.Deployed.{handles}
use Rattle.rows_sorted.specs.Orders.{same_pair, pair_before}
use Rattle.router_state.specs.Paths.{least_path, path_before, path_of}
use Rattle.router_state.specs.Queues.{queue, head_event, is_delivered, with_entity_mark, without_entity_marks, entity_mark_before}
use Rattle.router_state.specs.declared.rows.Entity.{Entity}
use Rattle.router_state.specs.declared.rows.EntityMark.{EntityMark}
use Rattle.router_state.specs.declared.rows.Event.{Event}
use Rattle.router_steps.specs.Closing.{closing, lines_of_closing}
use Rattle.router_steps.specs.Histories.{pending_at, Legal}
use Rattle.router_steps.specs.Scripts.{delivered_in}
use Rattle.router_steps.specs.Steps.{Due, Root, NoRoot, OldRoot, NewRoot, lines_of_root, Receipt, Subject, Taking, Selecting, Delivering, Finishing, after, after_subject, subject_of, delivery_at, delivery_to, due_at, finish_at, lines_of_subject}
use Rattle.trace_history.specs.Reading.{reached_by, reached_in, heading_of}
use Rattle.trace_history.specs.Words.{words_in}
use Rattle.trace_history.specs.declared.choice.Choice.{Choice}
use Rattle.trace_history.specs.declared.choice.Choice.TheVariants as choices
use Rattle.trace_history.specs.declared.entry.Entry.{Entry}

-- marks

is_mark : ℕ → ℕ → EntityMark → Bool
is_mark a e m = same_pair m.activity.0 m.entity.0 a e

mark_kept : (marks : List EntityMark) (a e b f : ℕ) → is_delivered marks b f ≡ true → is_delivered (with_entity_mark marks a e) b f ≡ true
mark_kept marks a e b f is =
    let row : EntityMark = record { activity = record { 0 = a }; entity = record { 0 = e } } in
    let front = filter (λ m. entity_mark_before m row) marks in
    let test : EntityMark → Bool = λ m. same_pair m.activity.0 m.entity.0 b f in
    elim (cases_Bool (pair_before b f a e)) [
      | inl before ↦ any_left test front _ (any_filter test (λ m. entity_mark_before m row) marks (λ m same. ahead m.activity.0 m.entity.0 b f a e same before) is)
      | inr isnt ↦ any_right test front _ (elim (cases_Bool (pair_before a e b f)) [
        | inl behind ↦ put_behind (test row) _ (any_filter test (λ m. entity_mark_before row m) marks (λ m same. after m.activity.0 m.entity.0 b f a e same behind) is)
        | inr neither ↦ put_here (test row) _ (equal a e b f isnt neither)
      ])
    ]
  where
    ahead : (x y b f a e : ℕ) → same_pair x y b f ≡ true → pair_before b f a e ≡ true → pair_before x y a e ≡ true
    ahead x y b f a e same before = grind (arith, nat_tests)

    after : (x y b f a e : ℕ) → same_pair x y b f ≡ true → pair_before a e b f ≡ true → pair_before a e x y ≡ true
    after x y b f a e same behind = grind (arith, nat_tests)

    equal : (a e b f : ℕ) → pair_before b f a e ≡ false → pair_before a e b f ≡ false → same_pair a e b f ≡ true
    equal a e b f one two = grind (arith, nat_tests)

    put_behind : (p q : Bool) → q ≡ true → (p || q) ≡ true
    put_behind true q is = refl
    put_behind false q is = is

    put_here : (p q : Bool) → p ≡ true → (p || q) ≡ true
    put_here p q is = rw is refl

mark_made : (marks : List EntityMark) (a e : ℕ) → is_delivered (with_entity_mark marks a e) a e ≡ true
mark_made marks a e =
    let row : EntityMark = record { activity = record { 0 = a }; entity = record { 0 = e } } in
    any_right (λ (m : EntityMark). same_pair m.activity.0 m.entity.0 a e) (filter (λ m. entity_mark_before m row) marks) _ (here _ _ (itself a e))
  where
    itself : (a b : ℕ) → same_pair a b a b ≡ true
    itself a b = grind (arith, nat_tests)

    here : (p q : Bool) → p ≡ true → (p || q) ≡ true
    here p q is = rw is refl

mark_elsewhere : (marks : List EntityMark) (a b f : ℕ) → (a == b) ≡ false → is_delivered marks b f ≡ true → is_delivered (without_entity_marks marks a) b f ≡ true
mark_elsewhere marks a b f other is =
    any_filter (λ (m : EntityMark). same_pair m.activity.0 m.entity.0 b f) (λ m. not (m.activity.0 == a)) marks (λ m same. apart m.activity.0 m.entity.0 a b f other same) is
  where
    apart : (x y a b f : ℕ) → (a == b) ≡ false → same_pair x y b f ≡ true → not (x == a) ≡ true
    apart x y a b f other same = grind (arith, nat_tests)

-- who receives: an entity that hasn't yet

some_same : {X : Type 0} {x y : X} → Some x ≡ Some y → x ≡ y
some_same same = cc

mapped : {X Y : Type 0} (P : Y → Type 0) (f : X → Y) (o : Option X) (y : Y) → option_map f o ≡ Some y → ((x : X) → o ≡ Some x → P (f x)) → P y
mapped P f None y is each = absurd (cc)
mapped P f (Some x) y is each = subst P (some_same is) (each x refl)

pub chained : {X Y : Type 0} (P : Y → Type 0) (f : X → Option Y) (o : Option X) (y : Y) → option_and_then f o ≡ Some y → ((x : X) → o ≡ Some x → f x ≡ Some y → P y) → P y
chained P f None y is each = absurd (cc)
chained P f (Some x) y is each = each x refl is

least_in : (rows : List Entity) (best : Entity) (ys : List Entity) (r : Entity) → least_path rows (Some best) ys ≡ Some r → (r ≡ best) ⊎ IsIn r ys
least_in rows best [] r is = inl (sym (some_same is))
least_in rows best (y ∷ ys) r is = elim (cases_Bool (path_before (path_of rows y) (path_of rows best))) [
  | inl before ↦ elim (least_in rows y ys r (rw before at is)) [
    | inl same ↦ inr (inl same)
    | inr more ↦ inr (inr more)
  ]
  | inr isnt ↦ elim (least_in rows best ys r (rw isnt at is)) [
    | inl same ↦ inl same
    | inr more ↦ inr (inr more)
  ]
]

pub first_in : (rows ys : List Entity) (r : Entity) → least_path rows None ys ≡ Some r → IsIn r ys
first_in rows [] r is = absurd (cc)
first_in rows (y ∷ ys) r is = elim (least_in rows y ys r is) [
  | inl same ↦ inl same
  | inr more ↦ inr more
]

-- what a delivery is about: the head event, and an entity that hasn't received it
abbrev pub IsReceiving : State → Receipt → Type 0
IsReceiving s x = (head_event s.events x.activity ≡ Some x.event) × (is_delivered s.delivered x.activity x.entity.number.0 ≡ false)

fourth : (p q r t u : Bool) → (p && (q && (r && (t && u)))) ≡ true → t ≡ true
fourth p q r t u is = (and_parts t u (and_parts r (t && u) (and_parts q (r && (t && u)) (and_parts p (q && (r && (t && u))) is).1).1).1).0

not_yet : (s : State) (a : ℕ) (v : Event) (row : Entity) → first s a v ≡ Some row → is_delivered s.delivered a row.number.0 ≡ false
not_yet s a v row is =
    let passes = (in_filter (is_eligible s a v) row s.entities (first_in s.entities (eligible s a v) row is)).1 in
    not-true (is_delivered s.delivered a row.number.0)
    (fourth (is_linked s.links row.number.0 a) (handles s.deployment row.block v.name) (not (is_masked s.masks row.number.0 a v.name)) (not (is_delivered s.delivered a row.number.0)) (is_for_tree s.entities v.target row) passes)

pub receiving : (s : State) (a : ℕ) (x : Receipt) → delivery_at s a ≡ Some x → IsReceiving s x
receiving s a x is =
    chained (IsReceiving s) (delivery_to s a) (receives_at s a) x is
    (λ pair found told. mapped (IsReceiving s) (λ found. record { activity = a; event = pair.0; entity = pair.1; delivered = found }) (delivered_in s a pair.0 pair.1) x told
    (λ outcome _. chained (λ (y : Event × Entity). (head_event s.events a ≡ Some y.0) × (is_delivered s.delivered a y.1.number.0 ≡ false))
    (λ v. option_map (λ row. (v, row)) (first s a v)) (head_event s.events a) pair found
    (λ v head picked. mapped (λ (y : Event × Entity). (head_event s.events a ≡ Some y.0) × (is_delivered s.delivered a y.1.number.0 ≡ false)) (λ row. (v, row)) (first s a v) pair picked
    (λ row least. (head, not_yet s a v row least)))))

-- for whom a step's event was, if it is this one
abbrev pub reached_now : ℕ → Subject → List ℕ
reached_now v (Taking signal action) = []
reached_now v (Selecting x) = []
reached_now v (Delivering x) = if x.event.id.0 == v then x.entity.number.0 ∷ [] else []
reached_now v (Finishing x) = []

-- those that an event has reached are marked for it, while it is there; then it is the head event
abbrev pub AreMarked : State → ℕ → List ℕ → Type 0
AreMarked s v es = (e : ℕ) → IsIn e es → (v < s.next_event) × ((a : ℕ) → IsIn v (pending_at s a) → (first_of (pending_at s a) ≡ Some v) × (is_delivered s.delivered a e ≡ true))

-- what a delivery is about, and nothing of the others
abbrev pub IsAbout : State → Subject → Type 0
IsAbout s (Delivering x) = IsReceiving s x
IsAbout s _ = Unit {0}

pub about : (s : State) (c : Choice) (x : Subject) → subject_of s c ≡ Some x → IsAbout s x
about s (choices.Input signal) x is = subst (IsAbout s) (some_same is) tt
about s (choices.Initial a) x is = mapped (IsAbout s) Selecting (due_at s a.0) x is (λ due found. tt)
about s (choices.Deliver a) x is = mapped (IsAbout s) Delivering (delivery_at s a.0) x is (λ receipt found. receiving s a.0 receipt found)
about s (choices.Finish a) x is = mapped (IsAbout s) Finishing (finish_at s a.0) x is (λ y found. tt)

-- marks behind a step

first_of_append : (xs ys : List ℕ) (v : ℕ) → first_of xs ≡ Some v → first_of (xs ++ ys) ≡ Some v
first_of_append [] ys v is = absurd (cc)
first_of_append (x ∷ xs) ys v is = is

not_both : (v n : ℕ) → v < n → n ≤ v → ⊥
not_both v n less le = omega (arith, less, le)

-- what waited and still does
waited : (x : Subject) (s : State) → IsLookedUp x s → AreQueued s → (v a : ℕ) → v < s.next_event → IsIn v (pending_at (closing (after_subject x s)) a) → IsIn v (map number_of (queue (begun x s).events a))
waited x s up queued v a less there =
    let grows = step_grows x s up queued.below in
    let numbers : RisesFrom s.next_event (fires_of_step s x) (closing (after_subject x s)).next_event = subst (λ n. RisesFrom n (fires_of_step s x) (closing (after_subject x s)).next_event) (next_begun x s) grows.numbers in
    elim (in_either v (map number_of (queue (begun x s).events a)) (map number_of (fired_on a (fires_of_step s x))) (rw (pending_after x s up queued a).1 at there)) [
      | inl old ↦ old
      | inr new ↦ absurd (not_both v s.next_event less (at (λ w. s.next_event ≤ w) v (map number_of (fired_on a (fires_of_step s x))) (fired_from a s.next_event _ (fires_of_step s x) numbers) new))
    ]

-- where nothing went, what is first stays first
stays_first : (x : Subject) (s : State) → IsLookedUp x s → AreQueued s → (v a : ℕ) → gone_on a x ≡ [] → first_of (pending_at s a) ≡ Some v → first_of (pending_at (closing (after_subject x s)) a) ≡ Some v
stays_first x s up queued v a none is =
    let same : pending_at s a ≡ map number_of (queue (begun x s).events a) = rw none at (pending_after x s up queued a).0 in
    rw (pending_after x s up queued a).1 (first_of_append (map number_of (queue (begun x s).events a)) (map number_of (fired_on a (fires_of_step s x))) v (rw same at is))

-- an event that went isn't among those behind it
gone_for_good : (v : ℕ) (event : Event) (rest : List ℕ) → Rising (event.id.0 ∷ rest) → first_of (event.id.0 ∷ rest) ≡ Some v → IsIn v rest → ⊥
gone_for_good v event rest rises first there = not_itself event.id.0 v (some_same first) (at (λ y. event.id.0 < y) v rest rises.0 there)
  where
    not_itself : (x v : ℕ) → x ≡ v → x < v → ⊥
    not_itself x v is less = omega (arith, is, less)

abbrev pub IsOther : ℕ → Subject → Type 0
IsOther a (Finishing x) = (x.activity == a) ≡ false
IsOther a _ = Unit {0}

delivered_begun : (x : Subject) (s : State) (a e : ℕ) → IsOther a x → is_delivered s.delivered a e ≡ true → is_delivered (begun x s).delivered a e ≡ true
delivered_begun (Taking signal action) s a e other is = is
delivered_begun (Selecting x) s a e other is = is
delivered_begun (Delivering x) s a e other is = mark_kept s.delivered x.activity x.entity.number.0 a e is
delivered_begun (Finishing x) s a e other is = rw (dropped_same x s).2 (mark_elsewhere s.delivered x.activity a e other is)

none_gone : (a : ℕ) (x : Subject) → IsOther a x → gone_on a x ≡ []
none_gone a (Taking signal action) other = refl
none_gone a (Selecting x) other = refl
none_gone a (Delivering x) other = refl
none_gone a (Finishing x) other = rw other refl

-- a step moves the head event of the activity, or doesn't
moves : (a : ℕ) (x : Subject) → IsOther a x ⊎ ((event : Event) × (gone_on a x ≡ event ∷ []))
moves a (Taking signal action) = inl tt
moves a (Selecting x) = inl tt
moves a (Delivering x) = inl tt
moves a (Finishing x) = elim (cases_Bool (x.activity == a)) [
  | inl is ↦ inr (x.event, rw is refl)
  | inr isnt ↦ inl isnt
]

still_marked : (x : Subject) (s : State) → IsLookedUp x s → AreQueued s → (v : ℕ) (es : List ℕ) → AreMarked s v es → AreMarked (closing (after_subject x s)) v es
still_marked x s up queued v es marked e there =
    let was = marked e there in
    let grows = step_grows x s up queued.below in (
      omega (arith, was.0, later x s up queued),
      λ a waits.
          let old = waited x s up queued v a was.0 waits in
          let before : IsIn v (pending_at s a) = rw (pending_after x s up queued a).0 (in_right v (map number_of (gone_on a x)) (map number_of (queue (begun x s).events a)) old) in
          let mark = was.1 a before in
          elim (moves a x) [
            | inl other ↦ (stays_first x s up queued v a (none_gone a x other) mark.0, rw grows.delivered (delivered_begun x s a e other mark.1))
            | inr gone ↦
                let is : pending_at s a ≡ gone.0.id.0 ∷ map number_of (queue (begun x s).events a) = rw gone.1 at (pending_after x s up queued a).0 in
                absurd (gone_for_good v gone.0 (map number_of (queue (begun x s).events a)) (rw is at (queued.rises a)) (rw is at mark.0) old)
          ],
    )
  where
    later : (x : Subject) (s : State) → IsLookedUp x s → AreQueued s → s.next_event ≤ (closing (after_subject x s)).next_event
    later x s up queued =
        let grows = step_grows x s up queued.below in
        fired_below s.next_event (closing (after_subject x s)).next_event (fires_of_step s x) (subst (λ n. RisesFrom n (fires_of_step s x) (closing (after_subject x s)).next_event) (next_begun x s) grows.numbers)

-- whom a step's event reaches hadn't been reached, and is marked

pub first_is_in : (xs : List ℕ) (v : ℕ) → first_of xs ≡ Some v → IsIn v xs
first_is_in [] v is = absurd (cc)
first_is_in (x ∷ xs) v is = inl (sym (some_same is))

pub first_number : (events : List Event) (event : Event) → first_of events ≡ Some event → first_of (map number_of events) ≡ Some event.id.0
first_number [] event is = absurd (cc)
first_number (x ∷ xs) event is = ap (option_map number_of) is

pub reaches : (x : Receipt) (s : State) → IsReceiving s x → AreQueued s → (v : ℕ) (es : List ℕ) → x.event.id.0 ≡ v → AreMarked s v es
    → (IsIn x.entity.number.0 es → ⊥) × AreMarked (closing (after_subject (Delivering x) s)) v (es ++ x.entity.number.0 ∷ [])
reaches x s is queued v es same marked =
    let y = Delivering x in
    let grows = step_grows y s tt queued.below in
    let head : first_of (pending_at s x.activity) ≡ Some v = subst (λ n. first_of (pending_at s x.activity) ≡ Some n) same (first_number (queue s.events x.activity) x.event (sym (head_is_first s.events x.activity) ∙ is.0)) in
    let here : IsIn v (pending_at s x.activity) = first_is_in (pending_at s x.activity) v head in
    let still = still_marked y s tt queued v es marked in (
      (λ there. absurd (false≢true (sym is.1 ∙ ((marked x.entity.number.0 there).1 x.activity here).1))),
      λ e there. elim (in_either e es (x.entity.number.0 ∷ []) there) [
        | inl before ↦ still e before
        | inr now ↦ (
          later x s queued v here,
          λ a waits.
              let old = waited y s tt queued v a (at (λ w. w < s.next_event) v (pending_at s x.activity) (pending_below s.events s.next_event x.activity queued.below) here) waits in
              let before : IsIn v (pending_at s a) = rw (pending_after y s tt queued a).0 old in
              let own : a ≡ x.activity = queued.one v a x.activity before here in (
                stays_first y s tt queued v a refl (subst (λ b. first_of (pending_at s b) ≡ Some v) (sym own) head),
                rw grows.delivered (rw own (rw (only e x.entity.number.0 now) (mark_made s.delivered x.activity x.entity.number.0))),
              ),
        )
      ],
    )
  where
    only : (e f : ℕ) → IsIn e (f ∷ []) → e ≡ f
    only e f (inl is) = is
    only e f (inr none) = elim none [ ]

    later : (x : Receipt) (s : State) → AreQueued s → (v : ℕ) → IsIn v (pending_at s x.activity) → v < (closing (after_subject (Delivering x) s)).next_event
    later x s queued v here =
        let grows = step_grows (Delivering x) s tt queued.below in
        let less = at (λ w. w < s.next_event) v (pending_at s x.activity) (pending_below s.events s.next_event x.activity queued.below) here in
        let le = fired_below s.next_event (closing (after_subject (Delivering x) s)).next_event (fires_of_step s (Delivering x)) grows.numbers in
        omega (arith, less, le)

root_reach : (x : Due) (root : Root) (s : State) (more : List (List ℕ)) (v : ℕ) → reached_by v (words_in (heading_of (lines_of_root x root s ++ more))) ≡ []
root_reach x NoRoot s more v = other_reach v (codes "initial") _ refl
root_reach x (OldRoot e) s more v = other_reach v (codes "initial") _ refl
root_reach x (NewRoot name) s more v = other_reach v (codes "initial") _ refl

reach_read : (x : Subject) (s : State) (more : List (List ℕ)) (v : ℕ) → v < 2 ^ 64 → IsReadableSubject x → reached_by v (words_in (heading_of (lines_of_subject x s ++ more))) ≡ reached_now v x
reach_read (Taking signal action) s more v fits readable = other_reach v (codes "input") (words_in (spelled signal)) refl
reach_read (Selecting x) s more v fits readable = root_reach x x.root s more v
reach_read (Delivering x) s more v fits readable = deliver_is_read x.activity x.event.id.0 x.entity.number.0 v x.delivered.outcome readable.0 readable.1 readable.2 fits
reach_read (Finishing x) s more v fits readable = other_reach v (codes "finish") _ refl

nothing_new : (es more : List ℕ) → AreNew (es ++ []) more → AreNew es more
nothing_new es more new = subst (λ xs. AreNew xs more) (append_nil es) new

-- one step and what comes behind it
new_now : (x : Subject) (s : State) → IsLookedUp x s → IsAbout s x → AreQueued s → (v : ℕ) (es more : List ℕ) → AreMarked s v es
    → (AreMarked (closing (after_subject x s)) v (es ++ reached_now v x) → AreNew (es ++ reached_now v x) more) → AreNew es (reached_now v x ++ more)
new_now (Taking signal action) s up is queued v es more marked goes_on = nothing_new es more (goes_on (rw (append_nil es) (still_marked (Taking signal action) s up queued v es marked)))
new_now (Selecting x) s up is queued v es more marked goes_on = nothing_new es more (goes_on (rw (append_nil es) (still_marked (Selecting x) s up queued v es marked)))
new_now (Finishing x) s up is queued v es more marked goes_on = nothing_new es more (goes_on (rw (append_nil es) (still_marked (Finishing x) s up queued v es marked)))
new_now (Delivering x) s up is queued v es more marked goes_on = elim (cases_Bool (x.event.id.0 == v)) [
  | inl mine ↦ (let both = reaches x s is queued v es (eqb-true x.event.id.0 v mine) marked in rw mine (both.0, (rw mine at goes_on) both.1))
  | inr other ↦ rw other (nothing_new es more ((rw other at goes_on) (rw (append_nil es) (still_marked (Delivering x) s up queued v es marked))))
]

pub at_most_once : (s : State) (h : List Entry) → AreQueued s → Legal s h → AreTold s h → (v : ℕ) → v < 2 ^ 64 → (es : List ℕ) → AreMarked s v es → AreNew es (reached_in h v)
at_most_once s [] queued legal told v fits es marked = tt
at_most_once s (e ∷ more) queued legal told v fits es marked =
    let x = told.0.0 in
    let up = looked_up s e.choice x told.0.1 in
    let read : reached_by v (words_in (heading_of e.lines)) ≡ reached_now v x =
    rw (legal.2, lines_are s e.choice x told.0.1) (reach_read x s (lines_of_closing (after_subject x s)) v fits told.0.3) in
    rw read (new_now x s up (about s e.choice x told.0.1) queued v es (reached_in more v) marked
    (λ now. at_most_once (after s e.choice) more (rw (after_is s e.choice x told.0.1) (queued_after x s up queued)) legal.3 told.1 v fits (es ++ reached_now v x) (rw (after_is s e.choice x told.0.1) now)))
