-- The timers to which entries lead are those on the activity, and those that are due.
use Rattle.std.proofs.Common.{◌≡◌, ℕ, ◌==◌, Bool, true, false, List, [], ◌∷◌, Option, Some, None, map, reverse, refl, sym, ap, ◌∙◌, arith, inl, inr}
use Rattle.std.specs.Prelude.{nat_le}
use Rattle.std.specs.Cmp.{IsStrictWeakOrder}
use Rattle.std.specs.List.{AllByRecursion, filter, flat_map, sum_by}
use Rattle.std.specs.List.Sorted.{ties}
use Rattle.std.specs.Option.{option_map_or}
use Rattle.std.proofs.lemmas.Bool.{cases_Bool}
use Rattle.std.proofs.lemmas.Bool.Decides.{nat_tests}
use Rattle.std.proofs.lemmas.List.Sorted.{IsPermutation-reverse, sum_by-IsPermutation}
use Rattle.std.proofs.lemmas.List.Sums.{sum_by-cons}
use Rattle.rows_sorted.specs.Keys.{Rises}
use Rattle.rows_sorted.specs.Orders.{sorted}
use Rattle.rows_sorted.proofs.OrderLemmas.{AllInOrder, IsBefore, all_filter, all_from_all, in_order, order_filter}
use Rattle.rows_sorted.proofs.StableSortLemmas.{sorted_same}
use Rattle.router_state.specs.Keys.{timer_key}
use Rattle.router_state.specs.Timers.{timer_at}
use Rattle.router_state.specs.declared.rows.Timer.{Timer}
use Rattle.rows_index.specs.declared.entry.Entry.{Entry}
use Rattle.rows_index.specs.Index.{IsIndex}
use Rattle.rows_index.proofs.FoundLemmas.{lower_number}
use Rattle.rows_index.proofs.RowLemmas.{found_number}
use Rattle.rows_index.proofs.RunLemmas.{run_is}
use Rattle.rows_index.proofs.SortLemmas.{IsAhead, sorted_again}
use Rattle.rows_index.proofs.SumLemmas.{alike_same, if_passes, one_if, sum_agree, sum_filter, sum_flat}
use Rattle.timer_facility.specs.Indexed.{activity_entry, is_due, moment_entry, timers_at}
use Rattle.timer_facility.specs.Views.{timer_before}
use Rattle.timer_facility.proofs.ListLemmas.{all_any, all_flat, all_reversed}
use Rattle.timer_facility.proofs.RowLemmas.{each_timer}

-- entries of timers that are found by their numbers lead to these timers
led_back : (rows xs : List Timer) → AllByRecursion (λ row. timer_at rows row.number.0 ≡ Some row) xs → flat_map (timers_at rows) (map activity_entry xs) ≡ xs
led_back rows [] all = refl
led_back rows (x ∷ xs) all = rw all.0 (ap (λ rest. x ∷ rest) (led_back rows xs all.1))

pub on_activity_is : (a : ℕ) (rows : List Timer) (entries : List Entry) → Rises timer_key rows → IsIndex activity_entry rows entries
    → flat_map (timers_at rows) (filter (λ e. e.key == a) entries) ≡ filter (λ row. row.activity.0 == a) rows
on_activity_is a rows entries rises index =
    let mine = λ (row : Timer). row.activity.0 == a in
    ap (flat_map (timers_at rows)) (run_is (λ (t : Timer). t.number.0) (λ (t : Timer). t.activity.0) timer_key (λ x. refl) a rows entries rises index)
    ∙ led_back rows (filter mine rows) (all_filter (λ row. timer_at rows row.number.0 ≡ Some row) mine rows (each_timer rows rises))

pub one_way : (x y : Timer) → timer_before x y ≡ true → timer_before y x ≡ false
one_way x y before = grind (arith, nat_tests)

chained : (x y z : Timer) → timer_before x y ≡ true → timer_before y z ≡ true → timer_before x z ≡ true
chained x y z one two = grind (arith, nat_tests)

pub ranks : IsStrictWeakOrder timer_before
ranks = record {
  one_way = one_way;
  chain = λ x y z one two. grind (arith, nat_tests);
}

-- timers that rise stand in the order of their numbers
numbers_rise : (rows : List Timer) → AllInOrder (IsBefore timer_key) rows → AllInOrder (IsAhead timer_before) rows
numbers_rise [] order = tt
numbers_rise (x ∷ xs) order = (
  all_from_all (IsBefore timer_key x) (IsAhead timer_before x) (λ y before. lower_number (λ (t : Timer). t.number.0) timer_key (λ x. refl) x y before) xs order.0,
  numbers_rise xs order.1,
)

module _ (to : ℕ) (rows : List Timer) (entries : List Entry) (rises : Rises timer_key rows) (index : IsIndex moment_entry rows entries) where
  abbrev up_to : List Entry
  up_to = filter (λ e. nat_le e.key to) entries

  abbrev led_to : List Timer
  led_to = flat_map (timers_at rows) up_to

  abbrev due : List Timer
  due = filter (is_due to) rows

  abbrev IsOwn : Timer → Type 0
  IsOwn t = timer_at rows t.number.0 ≡ Some t

  own_at : (e : Entry) → AllByRecursion IsOwn (timers_at rows e)
  own_at e = by (timer_at rows e.number) refl
    where
      by : (found : Option Timer) → timer_at rows e.number ≡ found → AllByRecursion IsOwn (option_map_or (λ t. t ∷ []) found [])
      by None is = tt
      by (Some row) is = (ap (timer_at rows) (found_number (λ (t : Timer). t.number.0) e.number row rows is) ∙ is, tt)

  all_own : AllByRecursion IsOwn led_to
  all_own = all_flat IsOwn (timers_at rows) up_to (all_any (λ e. AllByRecursion IsOwn (timers_at rows e)) own_at up_to)

  count_at : (f : Timer → ℕ) (e : Entry) → sum_by f (timers_at rows e) ≡ option_map_or f (timer_at rows e.number) 0
  count_at f e = by (timer_at rows e.number)
    where
      by : (found : Option Timer) → sum_by f (option_map_or (λ t. t ∷ []) found []) ≡ option_map_or f found 0
      by None = refl
      by (Some row) = let one = sum_by-cons f row [] in omega (arith, one)

  -- a measure of the timers of the entries is that of the timers that are due
  measured : (f : Timer → ℕ) → sum_by (λ (e : Entry). option_map_or f (timer_at rows e.number) 0) up_to ≡ sum_by f due
  measured f =
      let at = λ (e : Entry). option_map_or f (timer_at rows e.number) 0 in
      let early = λ (e : Entry). nat_le e.key to in
      sum_filter at early entries ∙ index.same (if_passes early at)
      ∙ sum_agree (λ row. if_passes early at (moment_entry row)) (if_passes (is_due to) f) rows
      (all_from_all IsOwn (λ row. if_passes early at (moment_entry row) ≡ if_passes (is_due to) f row) one rows (each_timer rows rises))
      ∙ sym (sum_filter f (is_due to) rows)
    where
      one : (row : Timer) → IsOwn row → if_passes (λ (e : Entry). nat_le e.key to) (λ e. option_map_or f (timer_at rows e.number) 0) (moment_entry row) ≡ if_passes (is_due to) f row
      one row own = rw own refl

  as_many : (f : Timer → ℕ) → sum_by f led_to ≡ sum_by f due
  as_many f =
      sum_flat f (timers_at rows) up_to
      ∙ sum_agree (λ e. sum_by f (timers_at rows e)) (λ e. option_map_or f (timer_at rows e.number) 0) up_to (all_any (λ e. sum_by f (timers_at rows e) ≡ option_map_or f (timer_at rows e.number) 0) (count_at f) up_to)
      ∙ measured f

  -- the timer of the same number
  abbrev same_number : Timer → Timer
  same_number k = option_map_or (λ (t : Timer). t) (timer_at rows k.number.0) k

  tie_is : (k t : Timer) → IsOwn t → ties timer_before k t ≡ true → t ≡ same_number k
  tie_is k t own tie =
      let same : t.number.0 ≡ k.number.0 = grind (arith, nat_tests, tie) in
      let found : timer_at rows k.number.0 ≡ Some t = ap (timer_at rows) (sym same) ∙ own in
      sym (ap (λ found. option_map_or (λ (t : Timer). t) found k) found)

  all_tied : (k : Timer) (xs : List Timer) → AllByRecursion IsOwn xs → AllByRecursion (λ t. ties timer_before k t ≡ true → t ≡ same_number k) xs
  all_tied k xs all = all_from_all IsOwn (λ t. ties timer_before k t ≡ true → t ≡ same_number k) (tie_is k) xs all

  -- in the order of their numbers they are those that are due
  pub due_is : sorted timer_before (reverse led_to) ≡ due
  due_is =
      sorted_same timer_before ranks (reverse led_to) due (λ k.
      let one = one_if (ties timer_before k) in
      alike_same (ties timer_before k) (same_number k) (reverse led_to) due (all_tied k (reverse led_to) (all_reversed IsOwn led_to all_own)) (all_tied k due (all_filter IsOwn (is_due to) rows (each_timer rows rises)))
      (sum_by-IsPermutation one led_to (reverse led_to) (IsPermutation-reverse led_to) ∙ as_many one))
      ∙ sorted_again timer_before one_way chained due (numbers_rise due (order_filter (IsBefore timer_key) (is_due to) rows (in_order timer_key rows rises)))
