-- A walk over due timers by their entries: what is behind the last entry is yet to be done.
use Rattle.std.proofs.Common.{◌≡◌, ℕ, ◌+◌, ◌*◌, ◌<◌, ◌==◌, Bool, true, false, List, [], ◌∷◌, Option, Some, None, map, refl, sym, ap, subst, ◌∙◌, arith, inl, inr}
use Rattle.std.specs.Prelude.{not, if◌then◌else◌, nat_le, ◌&&◌, ◌||◌}
use Rattle.std.specs.List.{AllByRecursion, filter, find, count_by, list_any, sum_by}
use Rattle.std.specs.Option.{option_map_or}
use Rattle.std.proofs.lemmas.Bool.{cases_Bool}
use Rattle.std.proofs.lemmas.Bool.Decides.{nat_tests}
use Rattle.router_state.specs.Timers.{advanced, behind, due_count, timer_at, without_timer}
use Rattle.router_state.specs.declared.rows.Timer.{Timer}
use Rattle.router_state.specs.Keys.{timer_key}
use Rattle.rows_sorted.specs.Keys.{Rises}
use Rattle.rows_sorted.proofs.OrderLemmas.{AllInOrder, IsBefore, all_filter, all_from_all, in_order}
use Rattle.rows_index.specs.declared.entry.Entry.{Entry}
use Rattle.rows_index.specs.Index.{entry_before, entry_key, IsIndex}
use Rattle.rows_index.proofs.FoundLemmas.{all_two, none_at}
use Rattle.rows_index.proofs.IndexLemmas.{rows_fail}
use Rattle.rows_index.proofs.RowLemmas.{any_fails, each_fails, found_number, some_first}
use Rattle.rows_index.proofs.SumLemmas.{all_passed, if_passes, one_if, sum_agree, sum_filter, sum_mapped}
use Rattle.timer_facility.specs.Indexed.{is_behind, is_due, is_left, moment_entry, moved_on, stays_on, used_up, IsNext}
use Rattle.timer_facility.proofs.AdvanceLemmas.{goes, move, moved_later, still_goes, still_same, sum_found}
use Rattle.timer_facility.proofs.RowLemmas.{found_there, only_timer}

-- the timer goes on, or its entry isn't behind the last one
abbrev pub stays_behind : Option Entry → ℕ → Timer → Bool
stays_behind last to t = not (is_behind last (moment_entry t)) || goes to t

-- the timer behind its due occurrences, if its entry is behind the last one
abbrev pub move_behind : Option Entry → ℕ → Timer → Timer
move_behind last to t = if is_behind last (moment_entry t) then move to t else t

-- the timers where what is behind the last entry is done
abbrev pub done_behind : Option Entry → ℕ → List Timer → List Timer
done_behind last to rows = map (move_behind last to) (filter (stays_behind last to) rows)

-- at the start all is behind
pub at_start : (to : ℕ) (rows : List Timer) → done_behind None to rows ≡ advanced rows to
at_start to rows = refl

-- where none that is due is left, nothing is to be done
pub none_left : (last : Option Entry) (to : ℕ) (rows : List Timer) → list_any (is_left last to) rows ≡ false → done_behind last to rows ≡ rows
none_left last to rows none = by rows (each_fails (is_left last to) rows none)
  where
    one : (x : Timer) → is_left last to x ≡ false → (stays_behind last to x ≡ true) × (move_behind last to x ≡ x)
    one x fails = elim (cases_Bool (is_behind last (moment_entry x))) [
      | inl behind ↦
          let late : is_due to x ≡ false = elim (cases_Bool (is_due to x)) [ inl due ↦ (let wrong : true ≡ false = rw (due, behind) at fails in cc) | inr late ↦ late ] in
          (rw (behind, still_goes x to late) refl, rw behind (still_same x to late))
      | inr before ↦ (rw before refl, rw before refl)
    ]

    by : (rows : List Timer) → AllByRecursion (λ x. is_left last to x ≡ false) rows → done_behind last to rows ≡ rows
    by [] all = refl
    by (x ∷ xs) all = let step = one x all.0 in rw (step.0, step.1) (ap (λ rest. x ∷ rest) (by xs all.1))

-- changed rows, of which the same is left to be done
same_done : (p p' q : Timer → Bool) (f f' m : Timer → Timer) (rows : List Timer)
    → AllByRecursion (λ x. (q x ≡ false → p x ≡ false) × (q x ≡ true → (p' (m x) ≡ p x) × (p x ≡ true → f' (m x) ≡ f x))) rows
    → map f' (filter p' (map m (filter q rows))) ≡ map f (filter p rows)
same_done p p' q f f' m [] all = refl
same_done p p' q f f' m (x ∷ xs) all = elim (cases_Bool (q x)) [
  | inr goes ↦ rw (goes, all.0.0 goes) (same_done p p' q f f' m xs all.1)
  | inl stays ↦
      let here = all.0.1 stays in
      elim (cases_Bool (p x)) [
        | inl on ↦ rw (stays, here.0 ∙ on, on, here.1 on) (ap (λ rest. f x ∷ rest) (same_done p p' q f f' m xs all.1))
        | inr off ↦ rw (stays, here.0 ∙ off, off) (same_done p p' q f f' m xs all.1)
      ]
]

not_itself : (e : Entry) → entry_before e e ≡ false
not_itself e = grind (arith, nat_tests)

-- of two entries of different numbers one is before the other
one_before : (x e : Entry) → (x.number == e.number) ≡ false → entry_before e x ≡ false → entry_before x e ≡ true
one_before x e other not_behind = grind (arith, nat_tests)

chained : (x y z : Entry) → entry_before x y ≡ true → entry_before y z ≡ true → entry_before x z ≡ true
chained x y z one two = grind (arith, nat_tests)

behind_chained : (last : Option Entry) (e x : Entry) → is_behind last e ≡ true → entry_before e x ≡ true → is_behind last x ≡ true
behind_chained None e x one two = refl
behind_chained (Some y) e x one two = chained y e x one two

not_both : (a b : Bool) → (a && b) ≡ false → b ≡ true → a ≡ false
not_both true b fails passes = cc
not_both false b fails passes = refl

-- a timer of another number is behind the next entry where it is behind the last one
behind_too : (last : Option Entry) (e x : Entry) → is_behind last e ≡ true → (is_behind last x && entry_before x e) ≡ false → (x.number == e.number) ≡ false → is_behind (Some e) x ≡ is_behind last x
behind_too last e x behind first other = elim (cases_Bool (entry_before e x)) [
  | inl above ↦ above ∙ sym (behind_chained last e x behind above)
  | inr below ↦ below ∙ sym (not_both (is_behind last x) (entry_before x e) first (one_before x e other below))
]

-- a timer behind its due occurrences is behind the entry that it had only where it is not due
moved_where : (to : ℕ) (t : Timer) → goes to t ≡ true → is_due to t ≡ true → (entry_before (moment_entry t) (moment_entry (move to t)) ≡ true → is_due to (move to t) ≡ false)
moved_where to t on due above = elim (cases_Bool (t.period == 0)) [
  | inl once ↦
      let none : t.period ≡ 0 = grind (arith, nat_tests, once) in
      let next : t.next + due_count t to * t.period ≡ t.next = ap (λ n. t.next + due_count t to * n) none ∙ omega arith in
      let same = ap (λ n. entry_before (moment_entry t) (record { key = n; number = t.number.0 })) next ∙ not_itself (moment_entry t) in
      let wrong : true ≡ false = sym above ∙ same in
      absurd (cc)
  | inr many ↦ moved_later t to on many due
]

module _ (last : Option Entry) (to : ℕ) (rows : List Timer) (e : Entry) (rises : Rises timer_key rows) (next : IsNext last to rows e) where
  found : (t : Timer) × (timer_at rows e.number ≡ Some t) × ((t.next == e.key) ≡ true)
  found = found_there (λ t. t.next == e.key) rows e.number next.own

  -- the timer of the entry
  abbrev own : Timer
  own = found.0

  own_entry : moment_entry own ≡ e
  own_entry =
      let key : own.next ≡ e.key = let same = found.2 in grind (arith, nat_tests, same) in
      let number = found_number (λ (t : Timer). t.number.0) e.number own rows found.1 in
      λ i. record { key = key i; number = number i }

  own_due : is_due to own ≡ true
  own_due = ap (λ (e : Entry). nat_le e.key to) own_entry ∙ next.due

  own_behind : is_behind last (moment_entry own) ≡ true
  own_behind = ap (is_behind last) own_entry ∙ next.behind

  abbrev IsFirst : Timer → Type 0
  IsFirst x = (is_behind last (moment_entry x) && entry_before (moment_entry x) e) ≡ false

  all_first : AllByRecursion IsFirst rows
  all_first = each_fails (λ x. is_behind last (moment_entry x) && entry_before (moment_entry x) e) rows next.first

  other_same : (x : Timer) → IsFirst x → (x.number.0 == e.number) ≡ false → is_behind (Some e) (moment_entry x) ≡ is_behind last (moment_entry x)
  other_same x first other = behind_too last e (moment_entry x) next.behind first other

  abbrev IsSame : Timer → Type 0
  IsSame x = (stays_on e.number to x ≡ false → stays_behind last to x ≡ false)
      × (stays_on e.number to x ≡ true → (stays_behind (Some e) to (moved_on e.number to x) ≡ stays_behind last to x) × (stays_behind last to x ≡ true → move_behind (Some e) to (moved_on e.number to x) ≡ move_behind last to x))

  own_same : (own.number.0 == e.number) ≡ true → IsSame own
  own_same mine = elim (cases_Bool (goes to own)) [
    | inr ends ↦ ((λ _. rw (own_behind, ends) refl), λ stays. (let wrong : false ≡ true = rw (mine, ends) at stays in absurd (cc)))
    | inl on ↦ (
      (λ gone. (let wrong : true ≡ false = rw (mine, on) at gone in absurd (cc))),
      λ _. elim (cases_Bool (entry_before e (moment_entry (move to own)))) [
        | inr here ↦ (rw (mine, here, own_behind, on) refl, λ _. rw (mine, here, own_behind) refl)
        | inl above ↦
            let late = moved_where to own on own_due (ap (λ (x : Entry). entry_before x (moment_entry (move to own))) own_entry ∙ above) in
            (rw (mine, above, own_behind, on, still_goes (move to own) to late) refl, λ _. rw (mine, above, own_behind) (still_same (move to own) to late))
      ],
    )
  ]

  one_same : (x : Timer) → IsFirst x → ((x.number.0 == e.number) ≡ true → x ≡ own) → IsSame x
  one_same x first only = elim (cases_Bool (x.number.0 == e.number)) [
    | inl mine ↦ let is = only mine in subst IsSame (sym is) (own_same (ap (λ (t : Timer). t.number.0 == e.number) (sym is) ∙ mine))
    | inr other ↦
        let same = other_same x first other in
        let here : moved_on e.number to x ≡ x = rw other refl in (
          (λ gone. (let wrong : true ≡ false = rw other at gone in absurd (cc))),
          λ _. (
            ap (stays_behind (Some e) to) here ∙ ap (λ b. not b || goes to x) same,
            λ _. ap (move_behind (Some e) to) here ∙ ap (λ b. if b then move to x else x) same,
          ),
        )
  ]

  -- the timer of the next entry is done, and what is behind it is left
  pub step_same : done_behind (Some e) to (used_up e.number to rows) ≡ done_behind last to rows
  step_same =
      same_done (stays_behind last to) (stays_behind (Some e) to) (stays_on e.number to) (move_behind last to) (move_behind (Some e) to) (moved_on e.number to) rows
      (all_two IsFirst (λ x. (x.number.0 == e.number) ≡ true → x ≡ own) IsSame one_same rows all_first (only_timer e.number own rows rises found.1))

  own_counted : one_if (is_left last to) own ≡ 1
  own_counted = rw (own_due, own_behind) refl

  own_number : (own.number.0 == e.number) ≡ true
  own_number = let same = found_number (λ (t : Timer). t.number.0) e.number own rows found.1 in grind (arith, nat_tests, same)

  -- how often a timer is counted behind the step
  abbrev counted : Timer → ℕ
  counted = if_passes (stays_on e.number to) (λ x. one_if (is_left (Some e) to) (moved_on e.number to x))

  not_left : goes to own ≡ true → is_left (Some e) to (move to own) ≡ false
  not_left on = elim (cases_Bool (entry_before e (moment_entry (move to own)))) [
    | inr here ↦ rw here (none_and (is_due to (move to own)))
    | inl above ↦ rw (moved_where to own on own_due (ap (λ (x : Entry). entry_before x (moment_entry (move to own))) own_entry ∙ above)) refl
  ]
    where
      none_and : (b : Bool) → (b && false) ≡ false
      none_and true = refl
      none_and false = refl

  own_uncounted : counted own ≡ 0
  own_uncounted = elim (cases_Bool (goes to own)) [
    | inr ends ↦ rw (own_number, ends) refl
    | inl on ↦ rw (own_number, on, not_left on) refl
  ]

  other_counted : (x : Timer) → IsFirst x → not (x.number.0 == e.number) ≡ true → counted x ≡ one_if (is_left last to) x
  other_counted x first stays = elim (cases_Bool (x.number.0 == e.number)) [
    | inl mine ↦ let wrong : false ≡ true = rw mine at stays in absurd (cc)
    | inr other ↦ rw (other, other_same x first other) refl
  ]

  -- fewer due timers are left behind the next entry
  pub step_fewer : count_by (is_left (Some e) to) (used_up e.number to rows) < count_by (is_left last to) rows
  step_fewer =
      let others = without_timer rows e.number in
      let same = sum_agree counted (one_if (is_left last to)) others
      (all_two IsFirst (λ x. not (x.number.0 == e.number) ≡ true) (λ x. counted x ≡ one_if (is_left last to) x) other_counted others (all_filter IsFirst (λ x. not (x.number.0 == e.number)) rows all_first) (all_passed (λ x. not (x.number.0 == e.number)) rows)) in
      let after : count_by (is_left (Some e) to) (used_up e.number to rows) ≡ sum_by counted rows
      = sum_mapped (one_if (is_left (Some e) to)) (moved_on e.number to) (filter (stays_on e.number to) rows) ∙ sum_filter (λ x. one_if (is_left (Some e) to) (moved_on e.number to x)) (stays_on e.number to) rows in
      let before = sum_found e.number to own rows rises found.1 (one_if (is_left last to)) in
      let parted = sum_found e.number to own rows rises found.1 counted in
      omega (arith, after, before, parted, same, own_counted, own_uncounted)

-- the first entry that passes is before the others that do
first_passed : (q : Entry → Bool) (e : Entry) (entries : List Entry) → AllInOrder (IsBefore entry_key) entries → find q entries ≡ Some e → AllByRecursion (λ y. (q y && entry_before y e) ≡ false) entries
first_passed q e [] order is = tt
first_passed q e (x ∷ xs) order is = elim (cases_Bool (q x)) [
  | inr fails ↦ (rw fails refl, first_passed q e xs order.1 (rw fails at is))
  | inl passes ↦
      let first : Some x ≡ Some e = rw passes at is in
      let same : x ≡ e = cc in
      (not_and (q x) (ap (λ (y : Entry). entry_before y e) same ∙ not_itself e), all_from_all (IsBefore entry_key x) (λ y. (q y && entry_before y e) ≡ false) (λ y above. not_and (q y) (not_above y (ap (λ (z : Entry). entry_before z y) (sym same) ∙ above))) xs order.0)
]
  where
    not_and : (a : Bool) {b : Bool} → b ≡ false → (a && b) ≡ false
    not_and true is = is
    not_and false is = refl

    not_above : (y : Entry) → entry_before e y ≡ true → entry_before y e ≡ false
    not_above y above = grind (arith, nat_tests, above)

module _ (last : Option Entry) (to : ℕ) (rows : List Timer) (entries : List Entry) (rises : Rises timer_key rows) (index : IsIndex moment_entry rows entries) where
  -- the first entry behind the last one, where it is due
  pub next_is : (e : Entry) → find (is_behind last) entries ≡ Some e → nat_le e.key to ≡ true → IsNext last to rows e
  next_is e is due =
      let first = some_first (λ (t : Timer). t.number.0) (λ (t : Timer). t.next) timer_key (λ x. refl) (is_behind last) rows entries e rises index is in
      let key : (first.0.next == e.key) ≡ true = let same = first.2 in grind (arith, nat_tests, same) in
      let test = λ (y : Entry). is_behind last y && entry_before y e in
      record {
        due = due;
        behind = first.3;
        own = ap (λ found. option_map_or (λ (t : Timer). t.next == e.key) found false) first.1 ∙ key;
        first = any_fails (λ t. test (moment_entry t)) rows (rows_fail moment_entry test rows entries index (first_passed (is_behind last) e entries (in_order entry_key entries index.rises) is));
      }

  -- no due timer is left, if the first entry behind the last one isn't due
  pub none_due : (e : Entry) → find (is_behind last) entries ≡ Some e → nat_le e.key to ≡ false → list_any (is_left last to) rows ≡ false
  none_due e is late =
      let test = λ (y : Entry). nat_le y.key to && is_behind last y in
      any_fails (is_left last to) rows (rows_fail moment_entry test rows entries index
      (all_from_all (λ y. (is_behind last y && entry_before y e) ≡ false) (λ y. test y ≡ false) (λ y first. one y first) entries (first_passed (is_behind last) e entries (in_order entry_key entries index.rises) is)))
    where
      below : (y : Entry) → nat_le y.key to ≡ true → entry_before y e ≡ true
      below y low = grind (arith, nat_tests, low, late)

      one : (y : Entry) → (is_behind last y && entry_before y e) ≡ false → (nat_le y.key to && is_behind last y) ≡ false
      one y first = elim (cases_Bool (nat_le y.key to)) [
        | inl low ↦ rw low (not_both (is_behind last y) (entry_before y e) first (below y low))
        | inr high ↦ rw high refl
      ]

  -- nor if there is none
  pub none_behind : find (is_behind last) entries ≡ None → list_any (is_left last to) rows ≡ false
  none_behind is =
      let test = λ (y : Entry). nat_le y.key to && is_behind last y in
      any_fails (is_left last to) rows (rows_fail moment_entry test rows entries index
      (all_from_all (λ y. is_behind last y ≡ false) (λ y. test y ≡ false) (λ y fails. both (nat_le y.key to) fails) entries (none_at (is_behind last) entries is)))
    where
      both : (a : Bool) {b : Bool} → b ≡ false → (a && b) ≡ false
      both true is = is
      both false is = refl

all_pass : {X : Type 0} (p : X → Bool) (xs : List X) → AllByRecursion (λ x. p x ≡ true) xs → filter p xs ≡ xs
all_pass p [] all = refl
all_pass p (x ∷ xs) all = rw all.0 (ap (λ rest. x ∷ rest) (all_pass p xs all.1))

filter_agrees : {X : Type 0} (p q : X → Bool) (xs : List X) → AllByRecursion (λ x. p x ≡ q x) xs → filter p xs ≡ filter q xs
filter_agrees p q [] all = refl
filter_agrees p q (x ∷ xs) all = elim (cases_Bool (q x)) [
  | inl passes ↦ rw (all.0 ∙ passes, passes) (ap (λ rest. x ∷ rest) (filter_agrees p q xs all.1))
  | inr fails ↦ rw (all.0 ∙ fails, fails) (filter_agrees p q xs all.1)
]

none_moved : (n to : ℕ) (rows : List Timer) → AllByRecursion (λ x. (x.number.0 == n) ≡ false) rows → map (moved_on n to) rows ≡ rows
none_moved n to [] all = refl
none_moved n to (x ∷ xs) all = rw all.0 (ap (λ rest. x ∷ rest) (none_moved n to xs all.1))

-- a timer that is there and goes on is moved
pub used_moves : (n to : ℕ) (found : Timer) (rows : List Timer) → Rises timer_key rows → timer_at rows n ≡ Some found → goes to found ≡ true → map (moved_on n to) rows ≡ used_up n to rows
used_moves n to found rows rises is on =
    ap (map (moved_on n to)) (sym (all_pass (stays_on n to) rows (all_from_all (λ x. (x.number.0 == n) ≡ true → x ≡ found) (λ x. stays_on n to x ≡ true) one rows (only_timer n found rows rises is))))
  where
    one : (x : Timer) → ((x.number.0 == n) ≡ true → x ≡ found) → stays_on n to x ≡ true
    one x only = elim (cases_Bool (x.number.0 == n)) [
      | inl mine ↦ rw mine (ap (goes to) (only mine) ∙ on)
      | inr other ↦ rw other refl
    ]

-- one that doesn't go on is gone
pub used_goes : (n to : ℕ) (found : Timer) (rows : List Timer) → Rises timer_key rows → timer_at rows n ≡ Some found → goes to found ≡ false → without_timer rows n ≡ used_up n to rows
used_goes n to found rows rises is ends =
    sym (ap (map (moved_on n to)) (filter_agrees (stays_on n to) (λ x. not (x.number.0 == n)) rows (all_from_all (λ x. (x.number.0 == n) ≡ true → x ≡ found) (λ x. stays_on n to x ≡ not (x.number.0 == n)) one rows (only_timer n found rows rises is)))
    ∙ none_moved n to (without_timer rows n) (all_from_all (λ x. not (x.number.0 == n) ≡ true) (λ x. (x.number.0 == n) ≡ false) other (without_timer rows n) (all_passed (λ x. not (x.number.0 == n)) rows)))
  where
    one : (x : Timer) → ((x.number.0 == n) ≡ true → x ≡ found) → stays_on n to x ≡ not (x.number.0 == n)
    one x only = elim (cases_Bool (x.number.0 == n)) [
      | inl mine ↦ rw mine (ap (goes to) (only mine) ∙ ends)
      | inr other ↦ rw other refl
    ]

    other : (x : Timer) → not (x.number.0 == n) ≡ true → (x.number.0 == n) ≡ false
    other x stays = grind (arith, nat_tests, stays)

-- where there is none, all stay
pub used_absent : (n to : ℕ) (rows : List Timer) → timer_at rows n ≡ None → rows ≡ used_up n to rows
used_absent n to rows is =
    let none = none_at (λ (x : Timer). x.number.0 == n) rows is in
    sym (ap (map (moved_on n to)) (all_pass (stays_on n to) rows (all_from_all (λ x. (x.number.0 == n) ≡ false) (λ x. stays_on n to x ≡ true) (λ x other. rw other refl) rows none)) ∙ none_moved n to rows none)
