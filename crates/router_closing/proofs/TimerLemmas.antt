-- The timers on an activity after changes.
use Rattle.std.proofs.Common.{◌≡◌, ℕ, suc, ◌+◌, ◌==◌, true, false, not, List, [], ◌∷◌, ◌++◌, Some, None, length, filter, refl, sym, ◌∙◌, ap, inl, inr, arith, if◌then◌else◌}
use Rattle.std.specs.List.{fold, list_any}
use Rattle.std.proofs.lemmas.Bool.{cases_Bool}
use Rattle.std.proofs.lemmas.Bool.Decides.{nat_tests}
use Rattle.std.proofs.lemmas.List.Elements.{filter-append}
use Rattle.router_state.specs.State.{State}
use Rattle.router_state.specs.Changes.{after_change, after_changes}
use Rattle.router_state.specs.Timers.{advanced, behind, due_count, goes_on, with_timer, without_timer, without_timers_on}
use Rattle.router_state.specs.declared.change.Change.{Change}
use Rattle.router_state.specs.declared.change.Change.TheVariants as changes
use Rattle.router_state.specs.declared.rows.Timer.{Timer}
use Rattle.router_state.specs.declared.rows.TimerSpec.{TimerSpec}
use Rattle.router_laws.proofs.ListRules.{append_nil}
use Rattle.router_draft.proofs.ChangeLemmas.{through}
use Rattle.router_closing.specs.Timers.{left_of, timers_after}

-- a timer as the clock comes to the moment

pub goes_behind : (t left : Timer) (rest : List Timer) (to : ℕ) → left_of t to ≡ Some left → advanced (t ∷ rest) to ≡ left ∷ advanced rest to
goes_behind t left rest to is = elim (cases_Bool (goes_on t (due_count t to))) [
  | inl goes ↦ let same : Some (behind t (due_count t to)) ≡ Some left = rw goes at is in let own : behind t (due_count t to) ≡ left = cc in rw goes (ap (λ x. x ∷ advanced rest to) own)
  | inr stops ↦ let wrong : None ≡ Some left = rw stops at is in absurd (cc)
]

pub goes_out : (t : Timer) (rest : List Timer) (to : ℕ) → left_of t to ≡ None → advanced (t ∷ rest) to ≡ advanced rest to
goes_out t rest to is = elim (cases_Bool (goes_on t (due_count t to))) [
  | inl goes ↦ let wrong : Some (behind t (due_count t to)) ≡ None = rw goes at is in absurd (cc)
  | inr stops ↦ rw stops refl
]

-- the timers on an activity

abbrev on : ℕ → List Timer → List Timer
on a rows = filter (λ row. row.activity.0 == a) rows

set_seen : (a n : ℕ) (spec : TimerSpec) (rows : List Timer)
    → on a (with_timer rows n spec) ≡ (if spec.activity.0 == a then on a rows ++ record { number = record { 0 = n }; activity = spec.activity; next = spec.start; period = spec.period; left = spec.times; keep = spec.keep } ∷ [] else on a rows)
set_seen a n spec rows =
    let new : Timer = record { number = record { 0 = n }; activity = spec.activity; next = spec.start; period = spec.period; left = spec.times; keep = spec.keep } in
    filter-append (λ (row : Timer). row.activity.0 == a) rows (new ∷ []) ∙ elim (cases_Bool (spec.activity.0 == a)) [
      | inl own ↦ rw own refl
      | inr other ↦ rw other (append_nil (on a rows))
    ]

cut_seen : (a n : ℕ) (rows : List Timer) → on a (without_timer rows n) ≡ without_timer (on a rows) n
cut_seen a n [] = refl
cut_seen a n (row ∷ rows) = elim (cases_Bool (row.number.0 == n)) [
  | inl gone ↦ (elim (cases_Bool (row.activity.0 == a)) [
    | inl own ↦ rw (gone, own, gone) (cut_seen a n rows)
    | inr other ↦ rw (gone, other) (cut_seen a n rows)
  ])
  | inr stays ↦ (elim (cases_Bool (row.activity.0 == a)) [
    | inl own ↦ rw (stays, own, stays) (ap (λ more. row ∷ more) (cut_seen a n rows))
    | inr other ↦ rw (stays, other) (cut_seen a n rows)
  ])
]

all_cut_seen : (a b : ℕ) (rows : List Timer) → on a (without_timers_on rows b) ≡ (if b == a then [] else on a rows)
all_cut_seen a b rows = elim (cases_Bool (b == a)) [
  | inl same ↦ rw same (none rows same)
  | inr other ↦ rw other (all rows other)
]
  where
    apart : (n : ℕ) → (b == a) ≡ true → (n == b) ≡ false → (n == a) ≡ false
    apart n same other = grind (arith, nat_tests)

    near : (n : ℕ) → (b == a) ≡ false → (n == b) ≡ true → (n == a) ≡ false
    near n other own = grind (arith, nat_tests)

    none : (rows : List Timer) → (b == a) ≡ true → on a (without_timers_on rows b) ≡ []
    none [] same = refl
    none (row ∷ rows) same = elim (cases_Bool (row.activity.0 == b)) [
      | inl gone ↦ rw gone (none rows same)
      | inr stays ↦ let foreign = apart row.activity.0 same stays in rw (stays, foreign) (none rows same)
    ]

    all : (rows : List Timer) → (b == a) ≡ false → on a (without_timers_on rows b) ≡ on a rows
    all [] other = refl
    all (row ∷ rows) other = elim (cases_Bool (row.activity.0 == b)) [
      | inl gone ↦ let foreign = near row.activity.0 other gone in rw (gone, foreign) (all rows other)
      | inr stays ↦ (elim (cases_Bool (row.activity.0 == a)) [
        | inl own ↦ rw (stays, own) (ap (λ more. row ∷ more) (all rows other))
        | inr foreign ↦ rw (stays, foreign) (all rows other)
      ])
    ]

moved_seen : (a to : ℕ) (rows : List Timer) → on a (advanced rows to) ≡ advanced (on a rows) to
moved_seen a to [] = refl
moved_seen a to (row ∷ rows) = elim (cases_Bool (goes_on row (due_count row to))) [
  | inl goes ↦ (elim (cases_Bool (row.activity.0 == a)) [
    | inl own ↦ rw (goes, own, goes) (ap (λ more. behind row (due_count row to) ∷ more) (moved_seen a to rows))
    | inr other ↦ rw (goes, other) (moved_seen a to rows)
  ])
  | inr stops ↦ (elim (cases_Bool (row.activity.0 == a)) [
    | inl own ↦ rw (stops, own, stops) (moved_seen a to rows)
    | inr other ↦ rw (stops, other) (moved_seen a to rows)
  ])
]

-- the next number, and the timers on an activity
abbrev seen : ℕ → State → ℕ × List Timer
seen a s = (s.next_timer, on a s.timers)

seen_is : (a : ℕ) (c : Change) (s : State) → seen a (after_change c s) ≡ timers_after c a (seen a s)
seen_is a (changes.SetTimer spec) s = ap (λ all. (s.next_timer + 1, all)) (set_seen a s.next_timer spec s.timers)
seen_is a (changes.Cancel t) s = ap (λ all. (s.next_timer, all)) (cut_seen a t.0 s.timers)
seen_is a (changes.CancelAll b) s = ap (λ all. (s.next_timer, all)) (all_cut_seen a b.0 s.timers)
seen_is a (changes.Advance to) s = ap (λ all. (s.next_timer, all)) (moved_seen a to s.timers)
seen_is a _ s = refl

pub timers_laid : (cs : List Change) (s : State) (a : ℕ) → filter (λ (row : Timer). row.activity.0 == a) (after_changes cs s).timers ≡ (fold (λ was c. timers_after c a was) (s.next_timer, filter (λ (row : Timer). row.activity.0 == a) s.timers) cs).1
timers_laid cs s a = ap (λ (x : ℕ × List Timer). x.1) (through (seen a) (λ was c. timers_after c a was) (seen_is a) cs s)

pub second_is : (n : ℕ) (rows : List Timer) (p : ℕ × List Timer) → (n, rows) ≡ p → rows ≡ p.1
second_is n rows p is = ap (λ (x : ℕ × List Timer). x.1) is

-- some timer is on the activity where the list isn't empty
pub some_left : (rows : List Timer) (a : ℕ) → not (length (filter (λ (row : Timer). row.activity.0 == a) rows) == 0) ≡ list_any (λ (row : Timer). row.activity.0 == a) rows
some_left [] a = refl
some_left (row ∷ rows) a = elim (cases_Bool (row.activity.0 == a)) [
  | inl own ↦ rw own (some (length (on a rows)))
  | inr other ↦ rw other (some_left rows a)
]
  where
    some : (n : ℕ) → not (suc n == 0) ≡ true
    some n = let is : (suc n == 0) ≡ false = grind (arith, nat_tests) in ap not is

-- the same, by what each call gives
pub timer_seen : (s : State) (cs ds : List Change) (first a : ℕ) (old new : List Timer) → ds ≡ cs → first ≡ s.next_timer → old ≡ filter (λ (row : Timer). row.activity.0 == a) s.timers
    → new ≡ (fold (λ was c. timers_after c a was) (first, old) ds).1 → not (length new == 0) ≡ list_any (λ (row : Timer). row.activity.0 == a) (after_changes cs s).timers
timer_seen s cs ds first a old new changes number listed is =
    ap (λ rows. not (length rows == 0))
    (is
    ∙ ap (λ d. (fold (λ was c. timers_after c a was) (first, old) d).1) changes
    ∙ ap (λ n. (fold (λ was c. timers_after c a was) (n, old) cs).1) number
    ∙ ap (λ rows. (fold (λ was c. timers_after c a was) (s.next_timer, rows) cs).1) listed
    ∙ sym (timers_laid cs s a))
    ∙ some_left (after_changes cs s).timers a
