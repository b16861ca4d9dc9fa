-- One timer behind its due occurrences, and what is then left to be done.
use Rattle.std.proofs.Common.{◌≡◌, ℕ, ◌+◌, ◌-◌, ◌*◌, ◌<◌, ◌≤◌, ◌==◌, Bool, true, false, List, [], ◌∷◌, Option, Some, None, map, set, refl, sym, ap, ◌∙◌, arith, inl, inr}
use Rattle.std.specs.Prelude.{not, nat_lt, nat_le, min, ◌/◌, ◌&&◌, ◌||◌}
use Rattle.std.specs.List.{AllByRecursion, filter, find, list_any, sum_by, position_from}
use Rattle.std.proofs.Math.Nat.{lt-div-mul-add, suc-mul}
use Rattle.std.proofs.lemmas.Bool.{cases_Bool}
use Rattle.std.proofs.lemmas.Bool.Decides.{nat_tests}
use Rattle.std.proofs.lemmas.List.Sums.{sum_by-cons}
use Rattle.rows_sorted.specs.Orders.{put}
use Rattle.router_state.specs.Timers.{behind, due_count, goes_on, left_behind, repeated, timer_at, without_timer}
use Rattle.router_state.specs.declared.rows.Timer.{Timer}
use Rattle.rows_sorted.specs.Keys.{is_key, key_before, number_key, pair_key, Rises}
use Rattle.router_state.specs.Keys.{timer_key}
use Rattle.rows_sorted.proofs.ChangeLemmas.{changed_is, number_is}
use Rattle.rows_sorted.proofs.HalvingLemmas.{absent_from, find_at_place, not_found}
use Rattle.rows_sorted.proofs.PartLemmas.{parted_by_key}
use Rattle.rows_sorted.proofs.RowLemmas.{replaced_is}
use Rattle.rows_sorted.proofs.OrderLemmas.{AllInOrder, IsBefore, all_from_all, in_order}
use Rattle.rows_index.specs.declared.entry.Entry.{Entry}
use Rattle.rows_index.specs.Index.{entry_key, IsIndex}
use Rattle.rows_index.proofs.IndexLemmas.{index_put, rows_fail}
use Rattle.rows_index.proofs.SumLemmas.{sum_agree, sum_mapped, all_passed}
use Rattle.slee_value.specs.declared.ids.TimerId.{TimerId}
use Rattle.timer_facility.specs.Indexed.{activity_entry, moment_entry, moved_on}
use Rattle.rows_index.proofs.RowLemmas.{all_stay, each_fails, found_number, indexed_cut, other_key, same_key}

abbrev pub goes : ℕ → Timer → Bool
goes to t = goes_on t (due_count t to)

abbrev pub move : ℕ → Timer → Timer
move to t = behind t (due_count t to)

second : (a b c : Bool) → a ≡ false → (a || (b && c)) ≡ true → b ≡ true
second true b c fails is = cc
second false true c fails is = refl
second false false c fails is = cc

other : (a b : Bool) → a ≡ false → (a || b) ≡ true → b ≡ true
other true b fails either = cc
other false b fails either = either

-- where a timer with a period goes on, all due occurrences of the period are used up
used_is : (t : Timer) (to : ℕ) → goes to t ≡ true → (t.period == 0) ≡ false → nat_lt to t.next ≡ false → due_count t to ≡ repeated t to
used_is t to on many due = elim (cases_Bool (t.left == 0)) [
  | inl endless ↦ rw (due, many, endless) refl
  | inr ends ↦
      let is : due_count t to ≡ min (repeated t to) t.left = rw (due, many, ends) refl in
      let some : 0 < t.left = grind (arith, nat_tests, ends) in
      let used : (due_count t to == 0) ≡ false = grind (arith, nat_tests, is, some) in
      let left : (t.left == 0 || nat_lt (due_count t to) t.left) ≡ true = second (due_count t to == 0) _ _ used on in
      let below : nat_lt (due_count t to) t.left ≡ true = other (t.left == 0) (nat_lt (due_count t to) t.left) ends left in
      let less : due_count t to < t.left = grind (arith, nat_tests, below) in
      omega (arith, is, less)
]

-- then it isn't due any more
pub moved_later : (t : Timer) (to : ℕ) → goes to t ≡ true → (t.period == 0) ≡ false → nat_le t.next to ≡ true → nat_le (move to t).next to ≡ false
moved_later t to on many due =
    let early : nat_lt to t.next ≡ false = grind (arith, nat_tests, due) in
    let reached : t.next ≤ to = grind (arith, nat_tests, due) in
    let some : 0 < t.period = grind (arith, nat_tests, many) in
    let whole = used_is t to on many early in
    let q = (to - t.next) / t.period in
    let far : to - t.next < q * t.period + t.period = lt-div-mul-add {a = to - t.next} {b = t.period} some in
    let one : (q + 1) * t.period ≡ q * t.period + t.period = ap (λ n. n * t.period) (omega arith) ∙ suc-mul q t.period in
    let next : (move to t).next ≡ t.next + (q * t.period + t.period) = ap (λ n. t.next + n) (ap (λ n. n * t.period) whole ∙ one) in
    let later : to < (move to t).next = omega (arith, next, far, reached) in
    grind (arith, nat_tests, later)

pub none_used : (t : Timer) (to : ℕ) → nat_le t.next to ≡ false → due_count t to ≡ 0
none_used t to late = let less : nat_lt to t.next ≡ true = grind (arith, nat_tests, late) in rw less refl

-- a timer that isn't due stays as it is
pub still_goes : (t : Timer) (to : ℕ) → nat_le t.next to ≡ false → goes to t ≡ true
still_goes t to late = rw (none_used t to late) refl

pub still_same : (t : Timer) (to : ℕ) → nat_le t.next to ≡ false → move to t ≡ t
still_same t to late =
    let next : t.next + 0 * t.period ≡ t.next = omega arith in
    let left : left_behind t 0 ≡ t.left = elim (cases_Bool (t.left == 0)) [
      | inl none ↦ let is : t.left ≡ 0 = grind (arith, nat_tests, none) in rw none (sym is)
      | inr some ↦ rw some (omega arith)
    ] in
    ap (behind t) (none_used t to late) ∙ (λ i. record t { next = next i; left = left i })

module _ (n to : ℕ) (found : Timer) (rows : List Timer) (rises : Rises timer_key rows) (is : timer_at rows n ≡ Some found) where
  found_mine : (found.number.0 == n) ≡ true
  found_mine = let same = found_number (λ (t : Timer). t.number.0) n found rows is in grind (arith, nat_tests, same)

  moved_mine : (row : Timer) → (row.number.0 == n) ≡ true → moved_on n to row ≡ move to row
  moved_mine row mine = rw mine refl

  moved_other : (row : Timer) → (row.number.0 == n) ≡ false → moved_on n to row ≡ row
  moved_other row other = rw other refl

  -- a sum parts into the one of the number and the others
  pub sum_found : (g : Timer → ℕ) → sum_by g rows ≡ g found + sum_by g (without_timer rows n)
  sum_found g = by rows (in_order timer_key rows rises) is
    where
      by : (rows : List Timer) → AllInOrder (IsBefore timer_key) rows → timer_at rows n ≡ Some found → sum_by g rows ≡ g found + sum_by g (without_timer rows n)
      by [] order at = cc
      by (x ∷ xs) order at = elim (cases_Bool (x.number.0 == n)) [
        | inl mine ↦
            let first : Some x ≡ Some found = rw mine at at in
            let same : x ≡ found = cc in
            let others = all_from_all (IsBefore timer_key x) (λ row. (row.number.0 == n) ≡ false) (λ row above. grind (arith, nat_tests, mine, above)) xs order.0 in
            let rest : without_timer (x ∷ xs) n ≡ xs = rw mine (all_stay (λ (row : Timer). row.number.0 == n) xs others) in
            sum_by-cons g x xs ∙ ap (λ (y : Timer). g y + sum_by g xs) same ∙ ap (λ ys. g found + sum_by g ys) (sym rest)
        | inr other ↦
            let later : timer_at xs n ≡ Some found = rw other at at in
            let more = by xs order.1 later in
            let step = sum_by-cons g x xs in
            let also : sum_by g (without_timer (x ∷ xs) n) ≡ g x + sum_by g (without_timer xs n) = rw other (sum_by-cons g x (without_timer xs n)) in
            omega (arith, more, step, also)
      ]

  others_same : (g : Timer → ℕ) → sum_by (λ row. g (moved_on n to row)) (without_timer rows n) ≡ sum_by g (without_timer rows n)
  others_same g =
      sum_agree (λ row. g (moved_on n to row)) g (without_timer rows n)
      (all_from_all (λ row. not (row.number.0 == n) ≡ true) (λ row. g (moved_on n to row) ≡ g row) one (without_timer rows n) (all_passed (λ row. not (row.number.0 == n)) rows))
    where
      one : (row : Timer) → not (row.number.0 == n) ≡ true → g (moved_on n to row) ≡ g row
      one row stays = elim (cases_Bool (row.number.0 == n)) [
        | inl mine ↦ let wrong : false ≡ true = rw mine at stays in cc
        | inr other ↦ ap g (moved_other row other)
      ]

  pub sum_moved : (g : Timer → ℕ) → sum_by g (map (moved_on n to) rows) ≡ g (move to found) + sum_by g (without_timer rows n)
  sum_moved g =
      sum_mapped g (moved_on n to) rows ∙ sum_found (λ row. g (moved_on n to row)) ∙ ap (λ (t : Timer). g t + sum_by (λ row. g (moved_on n to row)) (without_timer rows n)) (moved_mine found found_mine)
      ∙ ap (λ k. g (move to found) + k) (others_same g)

  -- the moved timer's entry takes the place of its old one
  pub indexed_moved : (entries : List Entry) → IsIndex moment_entry rows entries
      → IsIndex moment_entry (map (moved_on n to) rows) (put (λ x y. key_before (entry_key x) (entry_key y)) (moment_entry (move to found)) (filter (λ e. not (is_key (entry_key e) (pair_key found.next n))) entries))
  indexed_moved entries index =
      index_put moment_entry (move to found) (without_timer rows n) (map (moved_on n to) rows) _ (indexed_cut (λ (t : Timer). t.number.0) (λ t. t.next) timer_key (λ x. refl) n found rows entries rises index is)
      (all_from_all (λ row. not (row.number.0 == n) ≡ true) (λ row. is_key (entry_key (moment_entry row)) (entry_key (moment_entry (move to found))) ≡ false) one (without_timer rows n) (all_passed (λ row. not (row.number.0 == n)) rows))
      sum_moved
    where
      one : (row : Timer) → not (row.number.0 == n) ≡ true → is_key (entry_key (moment_entry row)) (entry_key (moment_entry (move to found))) ≡ false
      one row stays =
          let number = found_number (λ (t : Timer). t.number.0) n found rows is in
          let other : (row.number.0 == found.number.0) ≡ false = grind (arith, nat_tests, stays, number) in
          other_key row.next (move to found).next row.number.0 found.number.0 other

-- the timers where one that is there is put back moved on
pub moved_put : (to : ℕ) (timer : Timer) (rows : List Timer) → Rises timer_key rows → timer_at rows timer.number.0 ≡ Some timer
    → put (λ x y. key_before (timer_key x) (timer_key y)) (move to timer) rows ≡ map (moved_on timer.number.0 to) rows
moved_put to timer rows rises is = by (position_from (λ row. is_key (timer_key row) (timer_key timer)) 0 rows) refl
  where
    by_key : find (λ row. is_key (timer_key row) (timer_key timer)) rows ≡ Some timer
    by_key = (λ i. find (λ (row : Timer). number_is row.number.0 timer.number.0 i) rows) ∙ is

    itself : moved_on timer.number.0 to timer ≡ move to timer
    itself = let mine : (timer.number.0 == timer.number.0) ≡ true = grind (arith, nat_tests) in rw mine refl

    stays : (x : Timer) → is_key (timer_key x) (timer_key timer) ≡ false → moved_on timer.number.0 to x ≡ x
    stays x apart = let differ : (x.number.0 == timer.number.0) ≡ false = sym (number_is x.number.0 timer.number.0) ∙ apart in rw differ refl

    by : (place : Option ℕ) → position_from (λ row. is_key (timer_key row) (timer_key timer)) 0 rows ≡ place → put (λ x y. key_before (timer_key x) (timer_key y)) (move to timer) rows ≡ map (moved_on timer.number.0 to) rows
    by None none = let wrong = sym by_key ∙ not_found (λ row. is_key (timer_key row) (timer_key timer)) rows (absent_from (λ row. is_key (timer_key row) (timer_key timer)) 0 rows none) in absurd (cc)
    by (Some place) at =
        let read = sym (find_at_place (λ row. is_key (timer_key row) (timer_key timer)) place rows at) ∙ by_key in
        sym (replaced_is _ _ _ _ (parted_by_key timer_key (timer_key timer)) (move to timer) place rows (in_order timer_key rows rises) at)
        ∙ ap (set rows place) (sym itself) ∙ changed_is timer_key (timer_key timer) (moved_on timer.number.0 to) stays timer place rows rises at read

pub moved_number : (n to : ℕ) (x : Timer) → (moved_on n to x).number ≡ x.number
moved_number n to x = elim (cases_Bool (x.number.0 == n)) [ inl mine ↦ rw mine refl | inr other ↦ rw other refl ]

pub moved_activity : (n to : ℕ) (x : Timer) → (moved_on n to x).activity ≡ x.activity
moved_activity n to x = elim (cases_Bool (x.number.0 == n)) [ inl mine ↦ rw mine refl | inr other ↦ rw other refl ]

pub each_keeps : (n to : ℕ) (x : Timer) → timer_key (moved_on n to x) ≡ timer_key x
each_keeps n to x = ap (λ (id : TimerId). number_key id.0) (moved_number n to x)

pub activities_keep : (n to : ℕ) (rows : List Timer) → AllByRecursion (λ row. activity_entry (moved_on n to row) ≡ activity_entry row) rows
activities_keep n to [] = tt
activities_keep n to (x ∷ xs) = ((λ i. record { key = (moved_activity n to x i).0; number = (moved_number n to x i).0 }), activities_keep n to xs)

-- the entry of a timer that is there is there
pub entry_there : (n : ℕ) (found : Timer) (rows : List Timer) (entries : List Entry) → Rises timer_key rows → IsIndex moment_entry rows entries → timer_at rows n ≡ Some found
    → list_any (λ e. is_key (entry_key e) (pair_key found.next n)) entries ≡ true
entry_there n found rows entries rises index is = elim (cases_Bool (list_any (λ (e : Entry). is_key (entry_key e) (pair_key found.next n)) entries)) [
  | inl there ↦ there
  | inr absent ↦
      let none = rows_fail moment_entry (λ (e : Entry). is_key (entry_key e) (pair_key found.next n)) rows entries index (each_fails (λ (e : Entry). is_key (entry_key e) (pair_key found.next n)) entries absent) in
      let number = found_number (λ (t : Timer). t.number.0) n found rows is in
      let mine = same_key found.next found.next found.number.0 n refl number in
      let wrong : false ≡ true = sym (found_fails (λ row. is_key (entry_key (moment_entry row)) (pair_key found.next n)) n found rows none is) ∙ mine in
      absurd (cc)
]
  where
    found_fails : (q : Timer → Bool) (n : ℕ) (found : Timer) (rows : List Timer) → AllByRecursion (λ row. q row ≡ false) rows → timer_at rows n ≡ Some found → q found ≡ false
    found_fails q n found [] none is = absurd (cc)
    found_fails q n found (x ∷ xs) none is = elim (cases_Bool (x.number.0 == n)) [
      | inl mine ↦ let first : Some x ≡ Some found = rw mine at is in let same : x ≡ found = cc in ap q (sym same) ∙ none.0
      | inr other ↦ found_fails q n found xs none.1 (rw other at is)
    ]

-- a timer that is there is there by its key
pub timer_there : (timer : Timer) (rows : List Timer) → timer_at rows timer.number.0 ≡ Some timer → list_any (λ other. is_key (timer_key other) (timer_key timer)) rows ≡ true
timer_there timer rows is = (λ i. list_any (λ (row : Timer). number_is row.number.0 timer.number.0 i) rows) ∙ by rows is
  where
    by : (rows : List Timer) → timer_at rows timer.number.0 ≡ Some timer → list_any (λ (row : Timer). row.number.0 == timer.number.0) rows ≡ true
    by [] is = absurd (cc)
    by (x ∷ xs) is = elim (cases_Bool (x.number.0 == timer.number.0)) [
      | inl mine ↦ rw mine refl
      | inr other ↦ rw other (by xs (rw other at is))
    ]
