-- The clock comes to a moment: suspensions end, timers go on, and occurrences are queued, which keeps every part sound.
use Rattle.router_laws.proofs.ListRules.{filter_in, in_filter}
use Rattle.router_laws.proofs.OrderedLemmas.{ordered_after}
use Rattle.router_laws.proofs.Tests.{tests_kept}
use Rattle.router_laws.specs.Forest.{IsIn}
use Rattle.router_laws.specs.Samples.{periodic}
use Rattle.router_laws_sound.proofs.SoundBase.{still_ordered}
use Rattle.router_laws_sound.proofs.SoundEntities.{passes_in}
use Rattle.router_state.specs.Changes.{after_change}
use Rattle.router_state.specs.Contexts.{is_active}
use Rattle.router_state.specs.Fits.{is_drawn}
use Rattle.router_state.specs.Ordered.{IsOrdered}
use Rattle.router_state.specs.Queues.{is_undelivered, is_waiting, suspension_before}
use Rattle.router_state.specs.State.{State}
use Rattle.router_state.specs.Timers.{advanced, behind, due_count, goes_on, last_moment, left_behind}
use Rattle.router_state.specs.Timing.{ending_suspensions, ends_before}
use Rattle.router_state.specs.Well.{IsSound}
use Rattle.router_state.specs.WellQueues.{is_suspension_row}
use Rattle.router_state.specs.WellRows.{is_timer_row}
use Rattle.router_state.specs.declared.rows.Activity.{Activity}
use Rattle.router_state.specs.declared.rows.Suspension.{Suspension}
use Rattle.router_state.specs.declared.rows.Timer.{Timer}
use Rattle.router_steps.specs.Moves.{resumed}
use Rattle.router_steps.specs.Taking.{all_resumed}
use Rattle.rows_sorted.specs.Orders.{inserted, rises_by, rises_in, sorted}
use Rattle.script_meaning.specs.Steps.{either}
use Rattle.script_meaning.specs.Values.{number}
use Rattle.std.proofs.Common.{Bool, List, [], ap, arith, false, filter, inl, inr, map, refl, subst, sym, true, ℕ, ◌*◌, ◌+◌, ◌==◌, ◌∙◌, ◌∷◌, ◌≡◌, ◌⊎◌}
use Rattle.std.proofs.lemmas.Bool.{and_from, and_parts, cases_Bool, cond_both, eq-eqb, eqb-true, false≢true, not-true, or_cases, or_left, or_right}
use Rattle.std.proofs.lemmas.Bool.Decides.{nat_tests}
use Rattle.std.specs.List.{AllByRecursion, list_all}
use Rattle.std.specs.Prelude.{if◌then◌else◌, nat_le, nat_lt, not, ◌&&◌, ◌-◌, ◌||◌}
use Rattle.router_state.specs.declared.change.Change.TheVariants as changes

-- sorted lists have the members that they were made of

in_inserted : {X : Type 0} (before : X → X → Bool) (x y : X) (ys : List X) → IsIn x (inserted before y ys) → (x ≡ y) ⊎ IsIn x ys
in_inserted before x y [] (inl is) = inl is
in_inserted before x y [] (inr more) = elim more [ ]
in_inserted before x y (z ∷ ys) there = elim (cases_Bool (before y z)) [
  | inl first ↦ here (rw first at there)
  | inr later ↦ further (in_inserted before x y ys) (rw later at there)
]
  where
    here : IsIn x (y ∷ z ∷ ys) → (x ≡ y) ⊎ IsIn x (z ∷ ys)
    here (inl is) = inl is
    here (inr more) = inr more

    further : (IsIn x (inserted before y ys) → (x ≡ y) ⊎ IsIn x ys) → IsIn x (z ∷ inserted before y ys) → (x ≡ y) ⊎ IsIn x (z ∷ ys)
    further again (inl is) = inr (inl is)
    further again (inr more) = elim (again more) [
      | inl is ↦ inl is
      | inr found ↦ inr (inr found)
    ]

pub in_sorted : {X : Type 0} (before : X → X → Bool) (x : X) (xs : List X) → IsIn x (sorted before xs) → IsIn x xs
in_sorted before x [] there = elim there [ ]
in_sorted before x (y ∷ ys) there = elim (in_inserted before x y (sorted before ys) there) [
  | inl is ↦ inl is
  | inr more ↦ inr (in_sorted before x ys more)
]

inserted_in : {X : Type 0} (before : X → X → Bool) (x y : X) (ys : List X) → (x ≡ y) ⊎ IsIn x ys → IsIn x (inserted before y ys)
inserted_in before x y [] (inl is) = inl is
inserted_in before x y [] (inr more) = elim more [ ]
inserted_in before x y (z ∷ ys) there = elim (cases_Bool (before y z)) [
  | inl first ↦ rw first (here there)
  | inr later ↦ rw later (further (inserted_in before x y ys) there)
]
  where
    here : (x ≡ y) ⊎ IsIn x (z ∷ ys) → IsIn x (y ∷ z ∷ ys)
    here (inl is) = inl is
    here (inr more) = inr more

    further : ((x ≡ y) ⊎ IsIn x ys → IsIn x (inserted before y ys)) → (x ≡ y) ⊎ IsIn x (z ∷ ys) → IsIn x (z ∷ inserted before y ys)
    further again (inl is) = inr (again (inl is))
    further again (inr (inl is)) = inl is
    further again (inr (inr more)) = inr (again (inr more))

pub sorted_in : {X : Type 0} (before : X → X → Bool) (x : X) (xs : List X) → IsIn x xs → IsIn x (sorted before xs)
sorted_in before x [] there = elim there [ ]
sorted_in before x (y ∷ ys) (inl is) = inserted_in before x y (sorted before ys) (inl is)
sorted_in before x (y ∷ ys) (inr more) = inserted_in before x y (sorted before ys) (inr (sorted_in before x ys more))

-- suspensions that are ended are gone, and no others are changed

resumed_rows : (rows : List Suspension) (s : State) → all_resumed rows s ≡ record s { suspensions = (all_resumed rows s).suspensions }
resumed_rows [] s = refl
resumed_rows (row ∷ rows) s = resumed_rows rows (resumed s row.activity.0)

-- what is left was there, and is of none of these activities
left_resumed : (rows : List Suspension) (s : State) (x : Suspension) → IsIn x (all_resumed rows s).suspensions → IsIn x s.suspensions × AllByRecursion (λ (row : Suspension). (x.activity.0 == row.activity.0) ≡ false) rows
left_resumed [] s x there = (there, tt)
left_resumed (row ∷ rows) s x there =
    let more = left_resumed rows (resumed s row.activity.0) x there in
    let was = in_filter (λ (r : Suspension). not (r.activity.0 == row.activity.0)) x s.suspensions more.0 in
    (was.0, (not-true (x.activity.0 == row.activity.0) was.1, more.1))

pub passes_all : {X : Type 0} (p : X → Bool) (xs : List X) → ((x : X) → IsIn x xs → p x ≡ true) → list_all p xs ≡ true
passes_all p [] each = refl
passes_all p (x ∷ xs) each = and_from (p x) (list_all p xs) (each x (inl refl)) (passes_all p xs (λ y there. each y (inr there)))

pub all_in : {X : Type 0} (P : X → Type 0) (xs : List X) (x : X) → IsIn x xs → AllByRecursion P xs → P x
all_in P [] x there all = elim there [ ]
all_in P (y ∷ ys) x (inl is) all = subst P (sym is) all.0
all_in P (y ∷ ys) x (inr more) all = all_in P ys x more all.1

-- timers that go on

timer_behind : (rows : List Activity) (next to : ℕ) (t : Timer) → goes_on t (due_count t to) ≡ true → is_timer_row rows next t ≡ true → is_timer_row rows next (behind t (due_count t to)) ≡ true
timer_behind rows next to t goes is =
    let one = and_parts (is_drawn next t.number.0) _ is in
    let two = and_parts (is_active rows t.activity.0) _ one.1 in
    let three = and_parts (nat_le t.next last_moment) _ two.1 in
    let four = and_parts (nat_le t.period last_moment) _ three.1 in
    let five = and_parts (nat_le t.left last_moment) _ four.1 in
    and_from (is_drawn next t.number.0) _ one.0 (and_from (is_active rows t.activity.0) _ two.0
    (and_from (nat_le (t.next + due_count t to * t.period) last_moment) _ (moment (due_count t to) goes three.0)
    (and_from (nat_le t.period last_moment) _ four.0 (and_from (nat_le (left_behind t (due_count t to)) last_moment) _ (fewer t.left (due_count t to) five.0) (once (nat_lt 0 t.period) refl five.1)))))
  where
    moment : (used : ℕ) → goes_on t used ≡ true → nat_le t.next last_moment ≡ true → nat_le (t.next + used * t.period) last_moment ≡ true
    moment used goes le = elim (or_cases (used == 0) _ goes) [
      | inl none ↦ subst (λ k. nat_le (t.next + k * t.period) last_moment ≡ true) (sym (eqb-true used 0 none)) (subst (λ k. nat_le k last_moment ≡ true) (nothing t.next t.period) le)
      | inr some ↦ (and_parts (t.left == 0 || nat_lt used t.left) (nat_le (t.next + used * t.period) last_moment) some).1
    ]
      where
        nothing : (n p : ℕ) → n ≡ n + 0 * p
        nothing n p = omega arith

    fewer : (left used : ℕ) → nat_le left last_moment ≡ true → nat_le (if left == 0 then 0 else left - used) last_moment ≡ true
    fewer left used le = cond_both (left == 0) 0 (left - used) (λ k. nat_le k last_moment ≡ true) (λ _. refl) (λ _. less left used last_moment le)
      where
        less : (a b c : ℕ) → nat_le a c ≡ true → nat_le (a - b) c ≡ true
        less a b c le = grind (arith, nat_tests)

    once : (b : Bool) → nat_lt 0 t.period ≡ b → (b || t.left == 1) ≡ true → (nat_lt 0 t.period || left_behind t (due_count t to) == 1) ≡ true
    once true periodic either = or_left (nat_lt 0 t.period) _ periodic
    once false single either =
        let own : t.left ≡ 1 = eqb-true t.left 1 either in
        let zero_period = none t.period single in
        elim (cases_Bool (nat_lt to t.next)) [
          | inl early ↦
              let count : due_count t to ≡ 0 = rw early refl in
              or_right (nat_lt 0 t.period) _ (subst (λ k. (left_behind t k == 1) ≡ true) (sym count) (rw own refl))
          | inr due ↦
              let count : due_count t to ≡ 1 = rw (due, zero_period) refl in
              absurd (false≢true (sym (stuck own) ∙ subst (λ k. goes_on t k ≡ true) count goes))
        ]
      where
        none : (p : ℕ) → nat_lt 0 p ≡ false → (p == 0) ≡ true
        none p isnt = grind (arith, nat_tests)

        stuck : t.left ≡ 1 → goes_on t 1 ≡ false
        stuck own = rw own refl

timers_advanced : (rows : List Activity) (next to : ℕ) (timers : List Timer) → list_all (is_timer_row rows next) timers ≡ true → list_all (is_timer_row rows next) (advanced timers to) ≡ true
timers_advanced rows next to timers all =
    mapped (filter (λ (t : Timer). goes_on t (due_count t to)) timers)
    (tests_kept (is_timer_row rows next) (λ t. goes_on t (due_count t to) && is_timer_row rows next t) (λ t. goes_on t (due_count t to)) (λ t keep is. and_from (goes_on t (due_count t to)) _ keep is) timers all)
  where
    mapped : (some : List Timer) → list_all (λ (t : Timer). goes_on t (due_count t to) && is_timer_row rows next t) some ≡ true → list_all (is_timer_row rows next) (map (λ t. behind t (due_count t to)) some) ≡ true
    mapped [] all = refl
    mapped (t ∷ some) all =
        let parts = and_parts (goes_on t (due_count t to) && is_timer_row rows next t) _ all in
        let both = and_parts (goes_on t (due_count t to)) (is_timer_row rows next t) parts.0 in
        and_from (is_timer_row rows next (behind t (due_count t to))) _ (timer_behind rows next to t both.0 both.1) (mapped some parts.1)

-- the clock stands at the moment, suspensions have ended, and timers have gone on
abbrev pub at_moment : ℕ → State → State
at_moment to s = after_change (changes.Advance to) (all_resumed (ending_suspensions to s.suspensions) (after_change (changes.Clock to) s))

moment_is : (to : ℕ) (s : State) → at_moment to s ≡ record s { clock = to; suspensions = (all_resumed (ending_suspensions to s.suspensions) (after_change (changes.Clock to) s)).suspensions; timers = advanced s.timers to }
moment_is to s = ap (after_change (changes.Advance to)) (resumed_rows (ending_suspensions to s.suspensions) (after_change (changes.Clock to) s))

pub sound_moment : (s : State) (to : ℕ) → IsSound s → nat_le to last_moment ≡ true → IsSound (at_moment to s)
sound_moment s to sound fits =
    let begun = after_change (changes.Clock to) s in
    let ending = ending_suspensions to s.suspensions in
    let order = ordered_after (changes.Advance to) (all_resumed ending begun) (ordered_resumed ending begun (still_ordered (changes.Clock to) s sound)) in
    let held = and_parts (rises_by suspension_before s.suspensions) (list_all (is_suspension_row s.clock s.events s.delivered) s.suspensions) sound.suspensions in
    let ticking = and_parts (rises_in (λ (t : Timer). t.number.0) s.timers) (list_all (is_timer_row s.activities s.next_timer) s.timers) sound.timers in
    subst IsSound (sym (moment_is to s))
    (made (all_resumed ending begun).suspensions order.suspensions (passes_all (is_suspension_row to s.events s.delivered) (all_resumed ending begun).suspensions (λ x there. each x (left_resumed ending begun x there) held.1))
    (subst (λ ts. rises_in (λ (t : Timer). t.number.0) (advanced ts to) ≡ true) (ap (λ (t : State). t.timers) (resumed_rows ending begun)) order.timers) (timers_advanced s.activities s.next_timer to s.timers ticking.1))
  where
    ordered_resumed : (rows : List Suspension) (s : State) → IsOrdered s → IsOrdered (all_resumed rows s)
    ordered_resumed [] s order = order
    ordered_resumed (row ∷ rows) s order = ordered_resumed rows (resumed s row.activity.0) (ordered_after (changes.Release (record { 0 = row.activity.0 })) s order)

    later : (to until : ℕ) → nat_le until to ≡ false → nat_lt to until ≡ true
    later to until isnt = grind (arith, nat_tests)

    each : (x : Suspension) → IsIn x s.suspensions × AllByRecursion (λ (row : Suspension). (x.activity.0 == row.activity.0) ≡ false) (ending_suspensions to s.suspensions) → list_all (is_suspension_row s.clock s.events s.delivered) s.suspensions ≡ true → is_suspension_row to s.events s.delivered x ≡ true
    each x was all =
        let passes = passes_in (is_suspension_row s.clock s.events s.delivered) s.suspensions x was.0 all in
        let one = and_parts (is_waiting s.events x.activity.0) _ passes in
        let two = and_parts (not (is_undelivered s.delivered x.activity.0)) _ one.1 in
        let three = and_parts (nat_lt s.clock x.until) (nat_le x.until last_moment) two.1 in
        and_from (is_waiting s.events x.activity.0) _ one.0 (and_from (not (is_undelivered s.delivered x.activity.0)) _ two.0 (and_from (nat_lt to x.until) _ (later to x.until (not_ended (nat_le x.until to) refl)) three.1))
      where
        not_ended : (b : Bool) → nat_le x.until to ≡ b → nat_le x.until to ≡ false
        not_ended true due =
            let ended = sorted_in ends_before x (filter (λ (row : Suspension). nat_le row.until to) s.suspensions) (filter_in (λ (row : Suspension). nat_le row.until to) x s.suspensions was.0 due) in
            absurd (false≢true (sym (all_in (λ (row : Suspension). (x.activity.0 == row.activity.0) ≡ false) (ending_suspensions to s.suspensions) x ended was.1) ∙ eq-eqb x.activity.0 x.activity.0 refl))
        not_ended false isnt = isnt

    made : (left : List Suspension) → rises_by suspension_before left ≡ true → list_all (is_suspension_row to s.events s.delivered) left ≡ true → rises_in (λ (t : Timer). t.number.0) (advanced s.timers to) ≡ true → list_all (is_timer_row s.activities s.next_timer) (advanced s.timers to) ≡ true
        → IsSound (record s { clock = to; suspensions = left; timers = advanced s.timers to })
    made left rises all rise ticks =
        record {
          clock = fits;
          inputs = sound.inputs;
          next_entity = sound.next_entity;
          next_activity = sound.next_activity;
          next_timer = sound.next_timer;
          next_event = sound.next_event;
          services = sound.services;
          entities = sound.entities;
          root_names = sound.root_names;
          apart = sound.apart;
          fields = sound.fields;
          activities = sound.activities;
          attributes = sound.attributes;
          links = sound.links;
          masks = sound.masks;
          names = sound.names;
          events = sound.events;
          services_done = sound.services_done;
          delivered = sound.delivered;
          suspensions = and_from (rises_by suspension_before left) _ rises all;
          timers = and_from (rises_in (λ (t : Timer). t.number.0) (advanced s.timers to)) _ rise ticks;
          rows = sound.rows;
        }
