-- What is fired of the timers of the entries up to a moment is what is fired of all timers.
use Rattle.std.proofs.Common.{◌≡◌, ℕ, ◌-◌, Bool, true, false, List, [], ◌∷◌, ◌++◌, Option, Some, None, map, refl, sym, ap, ◌∙◌, arith, inl, inr}
use Rattle.std.specs.Prelude.{nat_lt, nat_le}
use Rattle.std.specs.List.{AllByRecursion, filter, flat_map, sum, sum_by, range_with_len}
use Rattle.std.specs.List.Sorted.{ties}
use Rattle.std.specs.Option.{option_map_or}
use Rattle.std.specs.Cmp.{IsStrictWeakOrder}
use Rattle.std.proofs.lemmas.Bool.{cases_Bool}
use Rattle.std.proofs.lemmas.Bool.Decides.{nat_tests}
use Rattle.std.proofs.lemmas.List.Sums.{sum-map}
use Rattle.rows_sorted.specs.Orders.{sorted}
use Rattle.router_state.specs.Timers.{timer_at, due_count}
use Rattle.router_state.specs.declared.rows.Timer.{Timer}
use Rattle.router_state.specs.Timing.{Occurrence, occurrence_before, occurrence_of, fired, fired_count, fired_in_all, fired_of}
use Rattle.router_state.specs.Keys.{timer_key}
use Rattle.rows_sorted.specs.Keys.{Rises}
use Rattle.rows_sorted.proofs.OrderLemmas.{all_from_all}
use Rattle.rows_index.specs.declared.entry.Entry.{Entry}
use Rattle.rows_index.specs.Index.{IsIndex}
use Rattle.rows_index.proofs.SumLemmas.{alike_same, if_passes, one_if, sum_agree, sum_filter, sum_flat}
use Rattle.timer_facility.specs.Indexed.{fired_at, fired_count_at, moment_entry}
use Rattle.timer_facility.proofs.DueLemmas.{kept_within}
use Rattle.timer_facility.proofs.ListLemmas.{all_any, all_flat, all_mapped}
use Rattle.rows_index.proofs.RowLemmas.{found_number}
use Rattle.timer_facility.proofs.RowLemmas.{each_timer}
use Rattle.rows_sorted.proofs.StableSortLemmas.{sorted_same}

abbrev before_to : ℕ → Entry → Bool
before_to to e = nat_le e.key to

none_due : (to : ℕ) (t : Timer) → nat_le t.next to ≡ false → due_count t to ≡ 0
none_due to t late = let less : nat_lt to t.next ≡ true = grind (arith, nat_tests, late) in rw less refl

none_fired : (to : ℕ) (t : Timer) → nat_le t.next to ≡ false → fired_count to t ≡ 0
none_fired to t late = let none = none_due to t late in let within = kept_within t.keep to t (due_count t to) in omega (arith, none, within)

no_occurrence : (to : ℕ) (t : Timer) → nat_le t.next to ≡ false → fired_of to t ≡ []
no_occurrence to t late = ap (λ n. map (occurrence_of t) (range_with_len (due_count t to - n) n)) (none_fired to t late)

module _ (to : ℕ) (rows : List Timer) (entries : List Entry) (rises : Rises timer_key rows) (index : IsIndex moment_entry rows entries) where
  -- a measure of timers that is 0 of those that aren't due
  due_sum : (h : Timer → ℕ) → ((t : Timer) → nat_le t.next to ≡ false → h t ≡ 0) → sum_by (λ (e : Entry). option_map_or h (timer_at rows e.number) 0) (filter (before_to to) entries) ≡ sum_by h rows
  due_sum h none =
      sum_filter (λ (e : Entry). option_map_or h (timer_at rows e.number) 0) (before_to to) entries ∙ index.same (if_passes (before_to to) (λ e. option_map_or h (timer_at rows e.number) 0))
      ∙ sum_agree (λ row. if_passes (before_to to) (λ (e : Entry). option_map_or h (timer_at rows e.number) 0) (moment_entry row)) h rows
      (all_from_all (λ row. timer_at rows row.number.0 ≡ Some row) (λ row. if_passes (before_to to) (λ (e : Entry). option_map_or h (timer_at rows e.number) 0) (moment_entry row) ≡ h row) one rows (each_timer rows rises))
    where
      one : (row : Timer) → timer_at rows row.number.0 ≡ Some row → if_passes (before_to to) (λ (e : Entry). option_map_or h (timer_at rows e.number) 0) (moment_entry row) ≡ h row
      one row own = elim (cases_Bool (nat_le row.next to)) [
        | inl due ↦ rw (due, own) refl
        | inr late ↦ rw late (sym (none row late))
      ]

  pub count_is : sum (map (fired_count_at rows to) (filter (before_to to) entries)) ≡ fired_in_all to rows
  count_is = sum-map (fired_count_at rows to) (filter (before_to to) entries) ∙ due_sum (fired_count to) (none_fired to) ∙ sym (sum-map (fired_count to) rows)

  -- the activity of the timer of a number
  abbrev activity_at : ℕ → ℕ
  activity_at n = option_map_or (λ (t : Timer). t.activity.0) (timer_at rows n) 0

  abbrev IsOwn : Occurrence → Type 0
  IsOwn o = o.activity ≡ activity_at o.timer

  own_of : (row : Timer) → timer_at rows row.number.0 ≡ Some row → AllByRecursion IsOwn (fired_of to row)
  own_of row is = all_mapped (occurrence_of row) IsOwn (λ k. rw is refl) (range_with_len (due_count row to - fired_count to row) (fired_count to row))

  own_at : (e : Entry) → AllByRecursion IsOwn (fired_at rows to e)
  own_at e = by (timer_at rows e.number) refl
    where
      by : (found : Option Timer) → timer_at rows e.number ≡ found → AllByRecursion IsOwn (option_map_or (fired_of to) found [])
      by None is = tt
      by (Some row) is = own_of row (ap (timer_at rows) (found_number (λ (t : Timer). t.number.0) e.number row rows is) ∙ is)

  all_rows_own : AllByRecursion IsOwn (flat_map (fired_of to) rows)
  all_rows_own = all_flat IsOwn (fired_of to) rows (all_from_all (λ row. timer_at rows row.number.0 ≡ Some row) (λ row. AllByRecursion IsOwn (fired_of to row)) own_of rows (each_timer rows rises))

  all_entries_own : (run : List Entry) → AllByRecursion IsOwn (flat_map (fired_at rows to) run)
  all_entries_own run = all_flat IsOwn (fired_at rows to) run (all_any (λ e. AllByRecursion IsOwn (fired_at rows to e)) own_at run)

  -- what ties with an occurrence is the one of its moment and timer
  tie_is : (k o : Occurrence) → IsOwn o → ties occurrence_before k o ≡ true → o ≡ record { moment = k.moment; timer = k.timer; activity = activity_at k.timer }
  tie_is k o own tie =
      let moment : o.moment ≡ k.moment = grind (arith, nat_tests, tie) in
      let timer : o.timer ≡ k.timer = grind (arith, nat_tests, tie) in
      let activity : o.activity ≡ activity_at k.timer = own ∙ ap activity_at timer in
      λ i. record { moment = moment i; timer = timer i; activity = activity i }

  count_at : (f : Occurrence → ℕ) (e : Entry) → sum_by f (fired_at rows to e) ≡ option_map_or (λ t. sum_by f (fired_of to t)) (timer_at rows e.number) 0
  count_at f e = by (timer_at rows e.number)
    where
      by : (found : Option Timer) → sum_by f (option_map_or (fired_of to) found []) ≡ option_map_or (λ t. sum_by f (fired_of to t)) found 0
      by None = refl
      by (Some row) = refl

  as_many : (f : Occurrence → ℕ) → sum_by f (flat_map (fired_at rows to) (filter (before_to to) entries)) ≡ sum_by f (flat_map (fired_of to) rows)
  as_many f =
      let run = filter (before_to to) entries in
      sum_flat f (fired_at rows to) run
      ∙ sum_agree (λ e. sum_by f (fired_at rows to e)) (λ e. option_map_or (λ t. sum_by f (fired_of to t)) (timer_at rows e.number) 0) run (all_any (λ e. sum_by f (fired_at rows to e) ≡ option_map_or (λ t. sum_by f (fired_of to t)) (timer_at rows e.number) 0) (count_at f) run)
      ∙ due_sum (λ t. sum_by f (fired_of to t)) (λ t late. ap (sum_by f) (no_occurrence to t late))
      ∙ sym (sum_flat f (fired_of to) rows)

  pub list_is : IsStrictWeakOrder occurrence_before → sorted occurrence_before (flat_map (fired_at rows to) (filter (before_to to) entries)) ≡ fired to rows
  list_is ranks =
      let xs = flat_map (fired_at rows to) (filter (before_to to) entries) in
      let ys = flat_map (fired_of to) rows in
      let tied = λ (k : Occurrence) (zs : List Occurrence) (all : AllByRecursion IsOwn zs).
      all_from_all IsOwn (λ o. ties occurrence_before k o ≡ true → o ≡ record { moment = k.moment; timer = k.timer; activity = activity_at k.timer }) (tie_is k) zs all in
      sorted_same occurrence_before ranks xs ys (λ k.
      alike_same (ties occurrence_before k) (record { moment = k.moment; timer = k.timer; activity = activity_at k.timer }) xs ys (tied k xs (all_entries_own (filter (before_to to) entries))) (tied k ys all_rows_own) (as_many (one_if (ties occurrence_before k))))
