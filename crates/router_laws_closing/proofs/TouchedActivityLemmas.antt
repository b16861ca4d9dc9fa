-- Closing looks at touched null activities alone.
use Rattle.std.proofs.Common.{Less, Equal, Greater, option_map, ◌≡◌, ℕ, ◌+◌, ◌*◌, ◌≤◌, ◌==◌, ◌⊎◌, inl, inr, Bool, true, false, List, [], ◌∷◌, filter, find, flat_map, map, refl, sym, ◌∙◌, ap, subst, arith, nat_lt, nat_le, Some}
use Rattle.std.specs.Prelude.{not, ◌&&◌}
use Rattle.std.specs.List.{AllByRecursion, list_any}
use Rattle.std.specs.Option.{option_map_or}
use Rattle.std.specs.Str.{bytes_eq}
use Rattle.std.proofs.lemmas.Bool.{cases_Bool, and_parts}
use Rattle.std.proofs.lemmas.Bool.Decides.{nat_tests}
use Rattle.rows_sorted.specs.Orders.{rises_by, rises_in}
use Rattle.router_state.specs.State.{State}
use Rattle.router_state.specs.Changes.{after_change, after_changes}
use Rattle.router_state.specs.Contexts.{name_before, named_at}
use Rattle.router_state.specs.Ordered.{IsOrdered}
use Rattle.router_state.specs.Timers.{behind, due_count, goes_on, timer_at}
use Rattle.router_state.specs.Well.{IsClosed}
use Rattle.router_state.specs.declared.change.Change.{Change}
use Rattle.router_state.specs.declared.change.Change.TheVariants as changes
use Rattle.router_state.specs.declared.rows.Activity.{Activity}
use Rattle.router_state.specs.declared.rows.Named.{Named}
use Rattle.router_state.specs.declared.rows.Timer.{Timer}
use Rattle.router_steps.specs.Closing.{activity_numbers, close_nulls, is_idle, lines_of_nulls}
use Rattle.slee_value.specs.Order.{byte_order, is_below}
use Rattle.std.specs.Ordering.{is_lt, is_eq}
use Rattle.std.specs.declared.cmp.Ordering.{Ordering}
use Rattle.std.proofs.lemmas.Map.Text.{is_eq-slice_cmp}
use Rattle.std.proofs.lemmas.Slice.Eq.{bytes_eq-Decides}
use Rattle.router_laws.specs.Forest.{IsIn}
use Rattle.router_laws.proofs.OrderLemmas.{below_joins}
use Rattle.router_laws.proofs.RisingLemmas.{InOrder, order_from_rises}
use Rattle.router_laws.proofs.ForestLemmas.{in_either, in_left, in_right}
use Rattle.router_laws.proofs.ListRules.{in_filter, filter_in}
use Rattle.router_laws_closing.specs.Idle.{AreIdleAmong, releases, released_by}
use Rattle.router_laws_closing.specs.Loose.{is_member}
use Rattle.router_laws_closing.specs.TouchedActivities.{due_on, let_go_by, this_one, timed_on, touched_activities}
use Rattle.router_laws_closing.specs.TouchedRoots.{numbers_between}
use Rattle.router_laws_closing.proofs.ClosedLemmas.{found_among}
use Rattle.router_laws_closing.proofs.IdleLemmas.{nulls_silent, nulls_skipped, only_released}
use Rattle.router_laws_closing.proofs.LooseLemmas.{number_same, same_number, to_member}
use Rattle.router_laws_closing.proofs.MeetingLemmas.{rising_meet}
use Rattle.router_laws_closing.proofs.MemberLemmas.{in_between, in_flat, in_map, in_put, some_passes}
use Rattle.router_laws_closing.proofs.TouchedRootLemmas.{ordered_through}

-- each name that stands was there before the step, or a change gives it to one of these activities
abbrev AreNamesOf : (ℕ → Type 0) → State → List Named → Type 0
AreNamesOf given s rows = (row : Named) → IsIn row rows → IsIn row s.names ⊎ given row.activity.0

-- each timer was there before the step, then due no later, or a change sets it on one of these activities
abbrev AreTimersOf : (ℕ → Type 0) → State → List Timer → Type 0
AreTimersOf given s rows = (row : Timer) → IsIn row rows → ((old : Timer) × IsIn old s.timers × (old.number.0 ≡ row.number.0) × (old.activity.0 ≡ row.activity.0) × (old.next ≤ row.next)) ⊎ given row.activity.0

names_after : (given : ℕ → Type 0) (s : State) (c : Change) (t : State) → ((a : ℕ) → IsIn a (let_go_by s c) → given a) → AreNamesOf given s t.names → AreNamesOf given s (after_change c t).names
names_after given s (changes.Bind name a) t gives all = λ row is.
    elim (in_put name_before (record { name = name; activity = record { 0 = a.0 } }) row t.names is) [
      | inl same ↦ inr (subst (λ (x : Named). given x.activity.0) (sym same) (gives a.0 (inl refl)))
      | inr old ↦ all row old
    ]
names_after given s (changes.Unbind name) t gives all = λ row is. all row (in_filter (λ (x : Named). not (bytes_eq x.name name)) row t.names is).0
names_after given s (changes.DropContext a) t gives all = λ row is. all row (in_filter (λ (x : Named). not (x.activity.0 == a.0)) row t.names is).0
names_after given s _ t gives all = all

-- timers that go on at a moment
in_advanced : (to : ℕ) (row : Timer) (rows : List Timer) → IsIn row (map (λ (t : Timer). behind t (due_count t to)) rows) → (old : Timer) × IsIn old rows × (row ≡ behind old (due_count old to))
in_advanced to row [] is = elim is [ ]
in_advanced to row (x ∷ xs) (inl same) = (x, inl refl, same)
in_advanced to row (x ∷ xs) (inr more) = let found = in_advanced to row xs more in (found.0, inr found.1, found.2)

timers_after : (given : ℕ → Type 0) (s : State) (c : Change) (t : State) → ((a : ℕ) → IsIn a (let_go_by s c) → given a) → AreTimersOf given s t.timers → AreTimersOf given s (after_change c t).timers
timers_after given s (changes.SetTimer spec) t gives all = λ row is.
    elim (in_either row t.timers (record { number = record { 0 = t.next_timer }; activity = spec.activity; next = spec.start; period = spec.period; left = spec.times; keep = spec.keep } ∷ []) is) [
      | inl old ↦ all row old
      | inr fresh ↦ elim fresh [
        | inl same ↦ inr (subst (λ (x : Timer). given x.activity.0) (sym same) (gives spec.activity.0 (inl refl)))
        | inr never ↦ absurd never
      ]
    ]
timers_after given s (changes.Cancel n) t gives all = λ row is. all row (in_filter (λ (x : Timer). not (x.number.0 == n.0)) row t.timers is).0
timers_after given s (changes.CancelAll a) t gives all = λ row is. all row (in_filter (λ (x : Timer). not (x.activity.0 == a.0)) row t.timers is).0
timers_after given s (changes.Advance to) t gives all = λ row is.
    let moved = in_advanced to row (filter (λ (x : Timer). goes_on x (due_count x to)) t.timers) is in
    let kept = in_filter (λ (x : Timer). goes_on x (due_count x to)) moved.0 t.timers moved.1 in
    let number : row.number.0 ≡ moved.0.number.0 = ap (λ (x : Timer). x.number.0) moved.2 in
    let activity : row.activity.0 ≡ moved.0.activity.0 = ap (λ (x : Timer). x.activity.0) moved.2 in
    let next : row.next ≡ moved.0.next + due_count moved.0 to * moved.0.period = ap (λ (x : Timer). x.next) moved.2 in
    elim (all moved.0 kept.0) [
      | inl old ↦ inl (old.0, old.1, old.2 ∙ sym number, old.3 ∙ sym activity, later old.0.next moved.0.next (due_count moved.0 to * moved.0.period) row.next old.4 next)
      | inr own ↦ inr (subst given (sym activity) own)
    ]
  where
    later : (a b c d : ℕ) → a ≤ b → d ≡ b + c → a ≤ d
    later a b c d low same = omega (arith, low, same)
timers_after given s _ t gives all = all

-- a row that is looked for is found, where none before it passes

find_row : {Row : Type 0} (before : Row → Row → Bool) (q : Row → Bool) (rows : List Row) (row : Row) → InOrder before rows → IsIn row rows → q row ≡ true → ((x : Row) → q x ≡ true → before x row ≡ false) → find q rows ≡ Some row
find_row before q [] row order is mine alone = elim is [ ]
find_row before q (x ∷ xs) row order (inl same) mine alone = let own : q x ≡ true = subst (λ z. q z ≡ true) same mine in rw own (ap (λ z. Some z) (sym same))
find_row before q (x ∷ xs) row order (inr more) mine alone = elim (cases_Bool (q x)) [
  | inl own ↦ let wrong : true ≡ false = sym (each xs order.0 more) ∙ alone x own in absurd (cc)
  | inr other ↦ rw other (find_row before q xs row order.1 more mine alone)
]
  where
    each : (ys : List _) → AllByRecursion (λ y. before x y ≡ true) ys → IsIn row ys → before x row ≡ true
    each [] all is = elim is [ ]
    each (y ∷ ys) all (inl same) = subst (λ z. before x z ≡ true) (sym same) all.0
    each (y ∷ ys) all (inr later) = each ys all.1 later

not_below_itself : (x y : List ℕ) → bytes_eq x y ≡ true → is_below x y ≡ false
not_below_itself x y same = by (byte_order x y) (is_eq-slice_cmp x y ∙ same)
  where
    by : (o : Ordering) → is_eq o ≡ true → is_lt o ≡ false
    by Less is = cc
    by Equal is = refl
    by Greater is = refl

pub name_found : (rows : List Named) (row : Named) (name : List ℕ) → rises_by name_before rows ≡ true → IsIn row rows → bytes_eq row.name name ≡ true → named_at rows name ≡ Some row.activity
name_found rows row name rises is mine =
    ap (λ o. option_map (λ (x : Named). x.activity) o)
    (find_row name_before (λ (x : Named). bytes_eq x.name name) rows row (order_from_rises name_before (λ x y z one two. below_joins x.name y.name z.name one two) rows rises) is mine
    (λ x own. not_below_itself x.name row.name ((bytes_eq-Decides x.name row.name).1 ((bytes_eq-Decides x.name name).0 own ∙ sym ((bytes_eq-Decides row.name name).0 mine)))))

timer_found : (rows : List Timer) (row : Timer) → rises_in (λ (x : Timer). x.number.0) rows ≡ true → IsIn row rows → timer_at rows row.number.0 ≡ Some row
timer_found rows row rises is =
    find_row (λ (x y : Timer). nat_lt x.number.0 y.number.0) (λ (x : Timer). x.number.0 == row.number.0) rows row
    (order_from_rises (λ (x y : Timer). nat_lt x.number.0 y.number.0) (λ x y z one two. joins x.number.0 y.number.0 z.number.0 one two) rows rises) is (same_number row.number.0 row.number.0 refl)
    (λ x own. by x.number.0 row.number.0 own)
  where
    joins : (a b c : ℕ) → nat_lt a b ≡ true → nat_lt b c ≡ true → nat_lt a c ≡ true
    joins a b c one two = grind (arith, nat_tests)

    by : (a b : ℕ) → (a == b) ≡ true → nat_lt a b ≡ false
    by a b own = grind (arith, nat_tests)

-- an activity that a change releases was touched

abbrev IsGiven : State → List Change → ℕ → Type 0
IsGiven s all a = IsIn a (flat_map (let_go_by s) all)

abbrev IsTouched : State → List Change → ℕ → Type 0
IsTouched s all a = IsIn a (touched_activities s all)

given_touched : (s : State) (all : List Change) (a : ℕ) → IsGiven s all a → IsTouched s all a
given_touched s all a is = in_right a (numbers_between s.next_activity (after_changes all s).next_activity) (flat_map (let_go_by s) all) is

-- of a name that stood for it
by_name : (s : State) (all : List Change) (rows : List Named) (name : List ℕ) (a : ℕ) → IsOrdered s → AreNamesOf (IsGiven s all) s rows → ((x : ℕ) → IsIn x (this_one (named_at s.names name)) → IsGiven s all x)
    → list_any (λ (row : Named). bytes_eq row.name name && (row.activity.0 == a)) rows ≡ true → IsGiven s all a
by_name s all rows name a order names gives is =
    let found = some_passes (λ (row : Named). bytes_eq row.name name && (row.activity.0 == a)) rows is in
    let parts = and_parts (bytes_eq found.0.name name) (found.0.activity.0 == a) found.2 in
    let same = number_same found.0.activity.0 a parts.1 in
    elim (names found.0 found.1) [
      | inl old ↦
          let stood = name_found s.names found.0 name order.names old parts.0 in
          gives a (subst (λ o. IsIn a (this_one o)) (sym stood) (inl (sym same)))
      | inr own ↦ subst (IsGiven s all) same own
    ]

-- of a timer that was set on it
by_timer : (s : State) (all : List Change) (rows : List Timer) (n a : ℕ) → IsOrdered s → AreTimersOf (IsGiven s all) s rows → ((x : ℕ) → IsIn x (timed_on s.timers n) → IsGiven s all x)
    → list_any (λ (row : Timer). (row.number.0 == n) && (row.activity.0 == a)) rows ≡ true → IsGiven s all a
by_timer s all rows n a order timers gives is =
    let found = some_passes (λ (row : Timer). (row.number.0 == n) && (row.activity.0 == a)) rows is in
    let parts = and_parts (found.0.number.0 == n) (found.0.activity.0 == a) found.2 in
    let same = number_same found.0.activity.0 a parts.1 in
    elim (timers found.0 found.1) [
      | inl old ↦
          let there : timer_at s.timers n ≡ Some old.0 = ap (timer_at s.timers) (sym (old.2 ∙ number_same found.0.number.0 n parts.0)) ∙ timer_found s.timers old.0 order.timers old.1 in
          gives a (subst (λ o. IsIn a (option_map_or (λ (row : Timer). row.activity.0 ∷ []) o [])) (sym there) (inl (sym (old.3 ∙ same))))
      | inr own ↦ subst (IsGiven s all) same own
    ]

-- what doesn't go on was due
was_due : (row : Timer) (to : ℕ) → not (goes_on row (due_count row to)) ≡ true → row.next ≤ to
was_due row to is = elim (cases_Bool (nat_lt to row.next)) [
  | inl early ↦
      let none : due_count row to ≡ 0 = rw early refl in
      let goes : goes_on row (due_count row to) ≡ true = rw none refl in
      let wrong : false ≡ true = ap not (sym goes) ∙ is in absurd (cc)
  | inr late ↦ by to row.next late
]
  where
    by : (a b : ℕ) → nat_lt a b ≡ false → b ≤ a
    by a b late = grind (arith, nat_tests)

by_moment : (s : State) (all : List Change) (rows : List Timer) (to a : ℕ) → AreTimersOf (IsGiven s all) s rows → ((x : ℕ) → IsIn x (due_on s.timers to) → IsGiven s all x)
    → list_any (λ (row : Timer). not (goes_on row (due_count row to)) && (row.activity.0 == a)) rows ≡ true → IsGiven s all a
by_moment s all rows to a timers gives is =
    let found = some_passes (λ (row : Timer). not (goes_on row (due_count row to)) && (row.activity.0 == a)) rows is in
    let parts = and_parts (not (goes_on found.0 (due_count found.0 to))) (found.0.activity.0 == a) found.2 in
    let same = number_same found.0.activity.0 a parts.1 in
    let due = was_due found.0 to parts.0 in
    elim (timers found.0 found.1) [
      | inl old ↦
          let low : nat_le old.0.next to ≡ true = by old.0.next to (omega (arith, old.4, due)) in
          let there : IsIn old.0.activity.0 (due_on s.timers to) =
          in_map (λ (row : Timer). row.activity.0) old.0 (filter (λ (row : Timer). nat_le row.next to) s.timers) (filter_in (λ (row : Timer). nat_le row.next to) old.0 s.timers old.1 low) in
          gives a (subst (λ x. IsIn x (due_on s.timers to)) (old.3 ∙ same) there)
      | inr own ↦ subst (IsGiven s all) same own
    ]
  where
    by : (a b : ℕ) → a ≤ b → nat_le a b ≡ true
    by a b low = grind (arith, nat_tests)

-- what is known in the state where a change's turn comes
record IsSeen (s : State) (all : List Change) (t : State) : Type 0 where
  names : AreNamesOf (IsGiven s all) s t.names
  timers : AreTimersOf (IsGiven s all) s t.timers
  next : s.next_activity ≤ t.next_activity

released_one : (s : State) (all : List Change) (c : Change) (t : State) (a : ℕ) → IsOrdered s → ((x : ℕ) → IsIn x (let_go_by s c) → IsGiven s all x) → IsSeen s all t
    → (after_change c t).next_activity ≤ (after_changes all s).next_activity → releases c t a ≡ true → IsTouched s all a
released_one s all (changes.Start kind) t a order gives seen high is =
    let same = number_same t.next_activity a is in
    in_left a (numbers_between s.next_activity (after_changes all s).next_activity) (flat_map (let_go_by s) all)
    (in_between s.next_activity (after_changes all s).next_activity a (omega (arith, seen.next, same)) (omega (arith, high, same)))
released_one s all (changes.DropContext b) t a order gives seen high is = given_touched s all a (gives a (inl (sym (number_same b.0 a is))))
released_one s all (changes.Detach e b) t a order gives seen high is = given_touched s all a (gives a (inl (sym (number_same b.0 a is))))
released_one s all (changes.Pop b) t a order gives seen high is = given_touched s all a (gives a (inl (sym (number_same b.0 a is))))
released_one s all (changes.CancelAll b) t a order gives seen high is = given_touched s all a (gives a (inl (sym (number_same b.0 a is))))
released_one s all (changes.Bind name b) t a order gives seen high is = given_touched s all a (by_name s all t.names name a order seen.names (λ x own. gives x (inr own)) is)
released_one s all (changes.Unbind name) t a order gives seen high is = given_touched s all a (by_name s all t.names name a order seen.names gives is)
released_one s all (changes.Cancel n) t a order gives seen high is = given_touched s all a (by_timer s all t.timers n.0 a order seen.timers gives is)
released_one s all (changes.Advance to) t a order gives seen high is = given_touched s all a (by_moment s all t.timers to a seen.timers gives is)
released_one s all _ t a order gives seen high is = absurd (cc)

next_after : (c : Change) (t : State) → t.next_activity ≤ (after_change c t).next_activity
next_after (changes.Start kind) t = omega arith
next_after _ t = omega arith

next_grows : (cs : List Change) (t : State) → t.next_activity ≤ (after_changes cs t).next_activity
next_grows [] t = omega arith
next_grows (c ∷ cs) t = omega (arith, next_after c t, next_grows cs (after_change c t))

touched_in : (s : State) (all cs : List Change) (t : State) (a : ℕ) → ((c : Change) → IsIn c cs → IsIn c all) → after_changes cs t ≡ after_changes all s → IsOrdered s → IsSeen s all t → released_by cs t a ≡ true → IsTouched s all a
touched_in s all [] t a part same order seen is = absurd (cc)
touched_in s all (c ∷ cs) t a part same order seen is =
    let end : (after_changes cs (after_change c t)).next_activity ≡ (after_changes all s).next_activity = ap (λ (u : State). u.next_activity) same in
    let gives : (x : ℕ) → IsIn x (let_go_by s c) → IsGiven s all x = λ x own. in_flat (let_go_by s) c x all (part c (inl refl)) own in
    elim (cases_Bool (releases c t a)) [
      | inl goes ↦ released_one s all c t a order gives seen (omega (arith, next_grows cs (after_change c t), end)) goes
      | inr stays ↦
          touched_in s all cs (after_change c t) a (λ d there. part d (inr there)) same order (record {
            names = names_after (IsGiven s all) s c t gives seen.names;
            timers = timers_after (IsGiven s all) s c t gives seen.timers;
            next = omega (arith, seen.next, next_after c t);
          }) (rw stays at is)
    ]

pub released_touched : (cs : List Change) (s : State) (a : ℕ) → IsOrdered s → released_by cs s a ≡ true → IsTouched s cs a
released_touched cs s a order is =
    touched_in s cs cs s a (λ c there. there) refl order (record {
      names = λ row there. inl there;
      timers = λ row there. inl (row, there, refl, refl, omega arith);
      next = omega arith;
    }) is

-- closing looks at these alone

numbers_rise : (rows : List Activity) → rises_in (λ (row : Activity). row.number.0) rows ≡ true → rises_by (λ (x y : ℕ). nat_lt x y) (map (λ (row : Activity). row.number.0) rows) ≡ true
numbers_rise [] rises = refl
numbers_rise (x ∷ []) rises = refl
numbers_rise (x ∷ y ∷ rows) rises =
    let parts = and_parts (nat_lt x.number.0 y.number.0) (rises_in (λ (row : Activity). row.number.0) (y ∷ rows)) rises in
    let more = numbers_rise (y ∷ rows) parts.1 in
    rw (parts.0, more) refl

known_touched : (cs : List Change) (s : State) (ys : List ℕ) → IsClosed s → IsOrdered s → ((n : ℕ) → is_member ys n ≡ is_member (touched_activities s cs) n) → AreIdleAmong (is_member ys) (after_changes cs s)
known_touched cs s ys closed order have a idle = have a ∙ to_member (touched_activities s cs) a (released_touched cs s a order (only_released cs s closed a idle))

known_there : (t : State) → AreIdleAmong (is_member (activity_numbers t)) t
known_there t a idle = to_member (activity_numbers t) a (found_among (is_idle t) t.activities a idle)

pub touched_activities_close : (cs : List Change) (s : State) (ys : List ℕ) → IsClosed s → IsOrdered s → rises_by (λ (x y : ℕ). nat_lt x y) ys ≡ true → ((n : ℕ) → is_member ys n ≡ is_member (touched_activities s cs) n)
    → close_nulls ys (after_changes cs s) ≡ close_nulls (activity_numbers (after_changes cs s)) (after_changes cs s)
touched_activities_close cs s ys closed order rises have =
    let t = after_changes cs s in
    let meet = rising_meet (activity_numbers t) ys (numbers_rise t.activities (ordered_through cs s order).activities) rises in
    nulls_skipped (is_member (activity_numbers t)) ys t (known_there t)
    ∙ ap (λ all. close_nulls all t) (sym meet)
    ∙ sym (nulls_skipped (is_member ys) (activity_numbers t) t (known_touched cs s ys closed order have))

pub touched_activities_tell : (cs : List Change) (s : State) (ys : List ℕ) → IsClosed s → IsOrdered s → rises_by (λ (x y : ℕ). nat_lt x y) ys ≡ true → ((n : ℕ) → is_member ys n ≡ is_member (touched_activities s cs) n)
    → lines_of_nulls ys (after_changes cs s) ≡ lines_of_nulls (activity_numbers (after_changes cs s)) (after_changes cs s)
touched_activities_tell cs s ys closed order rises have =
    let t = after_changes cs s in
    let meet = rising_meet (activity_numbers t) ys (numbers_rise t.activities (ordered_through cs s order).activities) rises in
    nulls_silent (is_member (activity_numbers t)) ys t (known_there t)
    ∙ ap (λ all. lines_of_nulls all t) (sym meet)
    ∙ sym (nulls_silent (is_member ys) (activity_numbers t) t (known_touched cs s ys closed order have))
