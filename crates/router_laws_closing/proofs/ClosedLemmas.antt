-- After closing nothing is left to close.
use Rattle.std.proofs.Common.{◌≡◌, ℕ, suc, ◌+◌, ◌==◌, Bool, true, false, ◌&&◌, not, List, [], ◌∷◌, ◌++◌, length, map, refl, sym, ◌∙◌, ap, subst, inl, inr, arith}
use Rattle.std.specs.Prelude.{nat_lt, option_map, Some, None}
use Rattle.std.specs.List.{AllByRecursion, list_all}
use Rattle.std.specs.Option.{option_map_or}
use Rattle.std.proofs.lemmas.Bool.{cases_Bool, cond_both, and_parts, and_from, not_from_false, eqb-true, false_from_ne_true, false≢true}
use Rattle.std.proofs.lemmas.Bool.Decides.{nat_tests}
use Rattle.router_laws.specs.Forest.{IsIn, AreBelowChildren}
use Rattle.router_laws_closing.specs.Loose.{DoDiffer, IsForest, IsRoot}
use Rattle.rows_sorted.specs.Orders.{rises_in}
use Rattle.router_laws_closing.proofs.HeldLemmas.{AreApart, IsHeld, roots_held}
use Rattle.router_laws_closing.proofs.FreedLemmas.{once_in, tops_differ}
use Rattle.router_laws_closing.proofs.GoingLemmas.{gone_activities}
use Rattle.router_laws_closing.proofs.IdleLemmas.{end_at, kept_number, still_closed}
use Rattle.router_laws.proofs.ListRules.{filter_in, in_filter}
use Rattle.router_state.specs.State.{State}
use Rattle.router_state.specs.Changes.{after_change}
use Rattle.router_state.specs.Closed.{is_loose, is_stopped, are_stopping_with_trees}
use Rattle.router_state.specs.Contexts.{activity_at, is_null, ends, with_end}
use Rattle.router_state.specs.Services.{with_service as service_set}
use Rattle.router_state.specs.Trees.{number_of, parent_of, roots, children, tree_of}
use Rattle.router_state.specs.Well.{IsClosed}
use Rattle.router_state.specs.declared.change.Change.TheVariants as changes
use Rattle.router_state.specs.declared.rows.Activity.{Activity}
use Rattle.router_state.specs.declared.rows.Entity.{Entity}
use Rattle.router_state.specs.declared.rows.Service.{Service}
use Rattle.router_state.specs.declared.rows.ServiceState.TheVariants as states
use Rattle.router_steps.specs.Closing.{activity_numbers, close_root, close_roots, close_service, close_services, close_null, close_nulls, is_idle, is_idle_at, closing, without_loose, without_stopped}
use Rattle.router_steps.specs.Moves.{ended}
use Rattle.router_steps.specs.Going.{all_removed, removed, tree_removed}

-- services

put_behind : (front : List Service) (row : Service) (rows : List Service) (state : _) (a : ℕ) → service_set (front ++ row ∷ rows) (length front) state a ≡ front ++ record { state = state; activity = record { 0 = a } } ∷ rows
put_behind [] row rows state a = refl
put_behind (x ∷ front) row rows state a = ap (λ ys. x ∷ ys) (put_behind front row rows state a)

stop_append : (entities : List Entity) (n : ℕ) (xs ys : List Service) → are_stopping_with_trees entities n xs ≡ true → are_stopping_with_trees entities (n + length xs) ys ≡ true → are_stopping_with_trees entities n (xs ++ ys) ≡ true
stop_append entities n [] ys one two = subst (λ k. are_stopping_with_trees entities k ys ≡ true) (plus n) two
  where
    plus : (n : ℕ) → n + 0 ≡ n
    plus n = omega arith
stop_append entities n (x ∷ xs) ys one two =
    let parts = and_parts (not (is_stopped entities n x)) _ one in
    and_from _ _ parts.0 (stop_append entities (n + 1) xs ys parts.1 (subst (λ k. are_stopping_with_trees entities k ys ≡ true) (plus n (length xs) (length (x ∷ xs)) refl) two))
  where
    plus : (n k m : ℕ) → m ≡ suc k → n + m ≡ n + 1 + k
    plus n k m is = omega (arith, is)

length_one : (front : List Service) (row : Service) → length (front ++ row ∷ []) ≡ length front + 1
length_one [] row = refl
length_one (x ∷ front) row = let more = length_one front row in omega (arith, more)

joined : {X : Type 0} (xs : List X) (y : X) (ys : List X) → (xs ++ y ∷ []) ++ ys ≡ xs ++ y ∷ ys
joined [] y ys = refl
joined (x ∷ xs) y ys = ap (λ zs. x ∷ zs) (joined xs y ys)

-- the services in front aren't stopped, and these are what is left of the list
services_done : (entities : List Entity) (front rows : List Service) (s : State) → s.entities ≡ entities → s.services ≡ front ++ rows → are_stopping_with_trees entities 0 front ≡ true
    → are_stopping_with_trees entities 0 (close_services (length front) rows s).services ≡ true
services_done entities front [] s same list done = rw list (stop_append entities 0 front [] done refl)
services_done entities front (row ∷ rows) s same list done = elim (cases_Bool (is_stopped s.entities (length front) row)) [
  | inl stopped ↦
      let now : Service = record { state = states.Inactive; activity = row.activity } in
      let t = after_change (changes.Service (length front) states.Inactive row.activity) s in
      let closed : close_service (length front) row s ≡ t = rw stopped refl in
      let list_now : t.services ≡ (front ++ now ∷ []) ++ rows = rw list (put_behind front row rows states.Inactive row.activity.0) ∙ sym (joined front now rows) in
      let more = services_done entities (front ++ now ∷ []) rows t same list_now (stop_append entities 0 front (now ∷ []) done refl) in
      subst (λ (u : State). are_stopping_with_trees entities 0 (close_services (length front + 1) rows u).services ≡ true) (sym closed)
      (subst (λ n. are_stopping_with_trees entities 0 (close_services n rows t).services ≡ true) (length_one front now) more)
  | inr isnt ↦
      let closed : close_service (length front) row s ≡ s = rw isnt refl in
      let fine : are_stopping_with_trees entities (0 + length front) (row ∷ []) ≡ true = fine_at (length front) row (subst (λ es. is_stopped es (length front) row ≡ false) same isnt) in
      let more = services_done entities (front ++ row ∷ []) rows s same (list ∙ sym (joined front row rows)) (stop_append entities 0 front (row ∷ []) done fine) in
      subst (λ (u : State). are_stopping_with_trees entities 0 (close_services (length front + 1) rows u).services ≡ true) (sym closed)
      (subst (λ n. are_stopping_with_trees entities 0 (close_services n rows s).services ≡ true) (length_one front row) more)
]
  where
    fine_at : (n : ℕ) (row : Service) → is_stopped entities n row ≡ false → are_stopping_with_trees entities (0 + n) (row ∷ []) ≡ true
    fine_at n row isnt = subst (λ k. are_stopping_with_trees entities k (row ∷ []) ≡ true) (plus n) (rw isnt refl)
      where
        plus : (n : ℕ) → n ≡ 0 + n
        plus n = omega arith

-- null activities

-- an activity that ended isn't idle
end_isnt : (s : State) (a : ℕ) (rows : List Activity) → option_map_or (is_idle (ended s a)) (activity_at (with_end rows a) a) false ≡ false
end_isnt s a rows = ap (λ o. option_map_or (is_idle (ended s a)) o false) (end_at rows a a) ∙ by rows
  where
    never : (b : Bool) → (b && false) ≡ false
    never true = refl
    never false = refl

    ending : (row : Activity) → (row.number.0 == a) ≡ true → is_idle (ended s a) (ends a row) ≡ false
    ending row own = rw own (never (is_null row.kind))

    by : (rows : List Activity) → option_map_or (is_idle (ended s a)) (option_map (ends a) (activity_at rows a)) false ≡ false
    by [] = refl
    by (row ∷ rows) = elim (cases_Bool (row.number.0 == a)) [
      | inl own ↦ (let none = ending row own in found own none)
      | inr other ↦ rw other (by rows)
    ]
      where
        found : (row.number.0 == a) ≡ true → is_idle (ended s a) (ends a row) ≡ false → option_map_or (is_idle (ended s a)) (option_map (ends a) (activity_at (row ∷ rows) a)) false ≡ false
        found own none = ap (λ o. option_map_or (is_idle (ended s a)) (option_map (ends a) o) false) (first own) ∙ none
          where
            first : (row.number.0 == a) ≡ true → activity_at (row ∷ rows) a ≡ Some row
            first own = rw own refl

closed_isnt : (s : State) (a : ℕ) → is_idle_at (close_null a s) a ≡ false
closed_isnt s a = elim (cases_Bool (is_idle_at s a)) [
  | inl goes ↦ rw goes (end_isnt s a s.activities)
  | inr stays ↦ rw stays stays
]

-- where all that are idle are closed, none is idle then
none_idle : (all : List ℕ) (s : State) → ((b : ℕ) → is_idle_at s b ≡ true → IsIn b all) → (b : ℕ) → is_idle_at (close_nulls all s) b ≡ false
none_idle [] s those b = false_from_ne_true (is_idle_at s b) (λ idle. those b idle)
none_idle (a ∷ rest) s those b = none_idle rest (close_null a s) (λ c idle. by c idle (those c (still_closed s a c idle))) b
  where
    by : (c : ℕ) → is_idle_at (close_null a s) c ≡ true → IsIn c (a ∷ rest) → IsIn c rest
    by c idle (inl same) = let wrong : is_idle_at (close_null a s) a ≡ true = subst (λ (n : ℕ). is_idle_at (close_null a s) n ≡ true) same idle in absurd (false≢true (sym (closed_isnt s a) ∙ wrong))
    by c idle (inr more) = more

-- an activity that is found has its number among all
pub found_among : (f : Activity → Bool) (rows : List Activity) (b : ℕ) → option_map_or f (activity_at rows b) false ≡ true → IsIn b (map (λ (row : Activity). row.number.0) rows)
found_among f [] b is = absurd (cc)
found_among f (row ∷ rows) b is = elim (cases_Bool (row.number.0 == b)) [
  | inl own ↦ inl (sym (eqb-true row.number.0 b own))
  | inr other ↦ inr (found_among f rows b (rw other at is))
]

-- activities that rise, each of which is found by its number

abbrev number : Activity → ℕ
number row = row.number.0

ends_rise : (a : ℕ) (rows : List Activity) → rises_in number (with_end rows a) ≡ rises_in number rows
ends_rise a [] = refl
ends_rise a (row ∷ []) = refl
ends_rise a (x ∷ y ∷ rows) =
    ap (λ n. nat_lt n (ends a y).number.0 && rises_in number (with_end (y ∷ rows) a)) (kept_number a x)
    ∙ ap (λ n. nat_lt x.number.0 n && rises_in number (with_end (y ∷ rows) a)) (kept_number a y)
    ∙ ap (λ b. nat_lt x.number.0 y.number.0 && b) (ends_rise a (y ∷ rows))

nulls_rise : (all : List ℕ) (s : State) → rises_in number s.activities ≡ true → rises_in number (close_nulls all s).activities ≡ true
nulls_rise [] s rises = rises
nulls_rise (a ∷ rest) s rises =
    nulls_rise rest (close_null a s) (cond_both (is_idle_at s a) (ended s a) s (λ (t : State). rises_in number t.activities ≡ true) (λ _. ends_rise a s.activities ∙ rises) (λ _. rises))

later_numbers : (x : Activity) (rows : List Activity) (b : ℕ) → rises_in number (x ∷ rows) ≡ true → (x.number.0 == b) ≡ true → activity_at rows b ≡ None
later_numbers x [] b rises own = refl
later_numbers x (y ∷ ys) b rises own =
    let parts = and_parts (nat_lt x.number.0 y.number.0) (rises_in number (y ∷ ys)) rises in
    let other : (y.number.0 == b) ≡ false = by x.number.0 y.number.0 b parts.0 own in
    rw other (skip y ys parts.1 (lower x.number.0 y.number.0 b parts.0 own))
  where
    by : (n m b : ℕ) → nat_lt n m ≡ true → (n == b) ≡ true → (m == b) ≡ false
    by n m b less own = grind (arith, nat_tests)

    lower : (n m b : ℕ) → nat_lt n m ≡ true → (n == b) ≡ true → nat_lt b m ≡ true
    lower n m b less own = grind (arith, nat_tests)

    next : (b n m : ℕ) → nat_lt b n ≡ true → nat_lt n m ≡ true → nat_lt b m ≡ true
    next b n m one two = grind (arith, nat_tests)

    apart : (b n : ℕ) → nat_lt b n ≡ true → (n == b) ≡ false
    apart b n less = grind (arith, nat_tests)

    skip : (y : Activity) (rows : List Activity) → rises_in number (y ∷ rows) ≡ true → nat_lt b y.number.0 ≡ true → activity_at rows b ≡ None
    skip y [] rises low = refl
    skip y (z ∷ zs) rises low =
        let parts = and_parts (nat_lt y.number.0 z.number.0) (rises_in number (z ∷ zs)) rises in
        let high = next b y.number.0 z.number.0 low parts.0 in
        rw (apart b z.number.0 high) (skip z zs parts.1 high)

each_row : (f : Activity → Bool) (rows : List Activity) → rises_in number rows ≡ true → ((b : ℕ) → option_map_or f (activity_at rows b) false ≡ false) → list_all (λ row. not (f row)) rows ≡ true
each_row f [] rises none = refl
each_row f (row ∷ rows) rises none =
    let here : f row ≡ false = rw (same_true row.number.0) at (none row.number.0) in
    and_from (not (f row)) _ (not_from_false (f row) here) (each_row f rows (rest row rows rises) (λ b. elim (cases_Bool (row.number.0 == b)) [
      | inl own ↦ rw (later_numbers row rows b rises own) refl
      | inr other ↦ rw other at (none b)
    ]))
  where
    same_true : (n : ℕ) → (n == n) ≡ true
    same_true n = grind (arith, nat_tests)

    rest : (x : Activity) (ys : List Activity) → rises_in number (x ∷ ys) ≡ true → rises_in number ys ≡ true
    rest x [] rises = refl
    rest x (y ∷ ys) rises = (and_parts (nat_lt x.number.0 y.number.0) (rises_in number (y ∷ ys)) rises).1

-- what closing services and null activities leaves as it was

pub services_keep : (n : ℕ) (rows : List Service) (s : State) → ((close_services n rows s).entities ≡ s.entities) × ((close_services n rows s).links ≡ s.links) × ((close_services n rows s).activities ≡ s.activities)
services_keep n [] s = (refl, refl, refl)
services_keep n (row ∷ rows) s =
    let one = cond_both (is_stopped s.entities n row) (after_change (changes.Service n states.Inactive row.activity) s) s (λ (t : State). (t.entities ≡ s.entities) × (t.links ≡ s.links) × (t.activities ≡ s.activities)) (λ _. (refl, refl, refl)) (λ _. (refl, refl, refl)) in
    let more = services_keep (n + 1) rows (close_service n row s) in
    (more.0 ∙ one.0, more.1 ∙ one.1, more.2 ∙ one.2)

nulls_keep : (all : List ℕ) (s : State) → ((close_nulls all s).entities ≡ s.entities) × ((close_nulls all s).links ≡ s.links) × ((close_nulls all s).services ≡ s.services)
nulls_keep [] s = (refl, refl, refl)
nulls_keep (a ∷ rest) s =
    let one = cond_both (is_idle_at s a) (ended s a) s (λ (t : State). (t.entities ≡ s.entities) × (t.links ≡ s.links) × (t.services ≡ s.services)) (λ _. (refl, refl, refl)) (λ _. (refl, refl, refl)) in
    let more = nulls_keep rest (close_null a s) in
    (more.0 ∙ one.0, more.1 ∙ one.1, more.2 ∙ one.2)

-- roots

held_all : (s : State) (es : List ℕ) → ((f : ℕ) → IsIn f es → IsHeld s f) → list_all (λ e. not (is_loose s.entities s.links e)) es ≡ true
held_all s [] each = refl
held_all s (e ∷ es) each = and_from _ _ (not_from_false (is_loose s.entities s.links e) (each e (inl refl))) (held_all s es (λ f there. each f (inr there)))

pub mapped_in : (e : ℕ) (rows : List Entity) → IsIn e (map number_of rows) → (row : Entity) × IsIn row rows × (row.number.0 ≡ e)
mapped_in e [] there = elim there [ ]
mapped_in e (r ∷ rs) (inl same) = (r, inl refl, sym same)
mapped_in e (r ∷ rs) (inr more) = let found = mapped_in e rs more in (found.0, inr found.1, found.2)

pub in_mapped : (row : Entity) (rows : List Entity) → IsIn row rows → IsIn row.number.0 (map number_of rows)
in_mapped row [] there = elim there [ ]
in_mapped row (r ∷ rs) (inl same) = inl (ap (λ (x : Entity). x.number.0) same)
in_mapped row (r ∷ rs) (inr more) = inr (in_mapped row rs more)

pub root_of_list : (rows : List Entity) (e : ℕ) → IsIn e (roots rows) → IsRoot rows e
root_of_list rows e there =
    let found = mapped_in e (children rows 0) there in
    let kept = in_filter (λ (row : Entity). parent_of row == 0) found.0 rows found.1 in
    (found.0, kept.0, found.2, eqb-true (parent_of found.0) 0 kept.1)

pub list_of_root : (rows : List Entity) (e : ℕ) → IsRoot rows e → IsIn e (roots rows)
list_of_root rows e root =
    subst (λ n. IsIn n (roots rows)) root.2 (in_mapped root.0 (children rows 0) (filter_in (λ (row : Entity). parent_of row == 0) root.0 rows root.1 (zero_is (parent_of root.0) root.3)))
  where
    zero_is : (n : ℕ) → n ≡ 0 → (n == 0) ≡ true
    zero_is n is = grind (arith, nat_tests)

-- roots that go leave activities as they are

all_keep : (es : List ℕ) (s : State) → (all_removed es s).activities ≡ s.activities
all_keep [] s = refl
all_keep (e ∷ es) s = all_keep es (removed s e) ∙ gone_activities e s

roots_keep : (es : List ℕ) (s : State) → (close_roots es s).activities ≡ s.activities
roots_keep [] s = refl
roots_keep (e ∷ es) s =
    roots_keep es (close_root e s) ∙ cond_both (is_loose s.entities s.links e) (tree_removed s e) s (λ (t : State). t.activities ≡ s.activities) (λ _. all_keep (tree_of s.entities e) s) (λ _. refl)

apart_from : (es : List ℕ) → DoDiffer es → AreApart es
apart_from [] differ = tt
apart_from (e ∷ es) differ = (each e es differ.0, apart_from es differ.1)
  where
    other : (e f : ℕ) → (e == f) ≡ false → e ≡ f → ⊥
    other e f isnt is = grind (arith, nat_tests)

    each : (e : ℕ) (es : List ℕ) → AllByRecursion (λ f. (e == f) ≡ false) es → AllByRecursion (λ f. e ≡ f → ⊥) es
    each e [] all = tt
    each e (f ∷ fs) all = (other e f all.0, each e fs all.1)

pub closing_closed : (s : State) → AreBelowChildren s.entities → rises_in number_of s.entities ≡ true → rises_in (λ (row : Activity). row.number.0) s.activities ≡ true → IsClosed (closing s)
closing_closed s below rises rising =
    let t = without_loose s in
    let u = without_stopped t in
    let v = closing s in
    let services = services_keep 0 t.services t in
    let nulls = nulls_keep (activity_numbers u) u in
    let forest : IsForest s.entities = record { below = below; once = once_in s.entities rises } in
    let same_entities : v.entities ≡ t.entities = nulls.0 ∙ services.0 in
    let same_links : v.links ≡ t.links = nulls.1 ∙ services.1 in
    let same_activities : u.activities ≡ s.activities = services.2 ∙ roots_keep (roots s.entities) s in
    let u_rises : rises_in number u.activities ≡ true = ap (rises_in number) same_activities ∙ rising in
    let v_rises : rises_in number v.activities ≡ true = nulls_rise (activity_numbers u) u u_rises in
    record {
      roots = rw (same_entities, same_links) (held_all t (roots t.entities) (λ f there.
          roots_held (roots s.entities) s forest (λ g in_list. root_of_list s.entities g in_list) (apart_from (roots s.entities) (tops_differ s.entities rises)) (λ g root. inl (list_of_root s.entities g root)) f (root_of_list t.entities f there)));
      services = rw (nulls.0, nulls.2) (rw services.0 (services_done t.entities [] t.services t refl refl refl));
      nulls = each_row (is_idle v) v.activities v_rises (none_idle (activity_numbers u) u (λ b idle. found_among (is_idle u) u.activities b idle));
    }
