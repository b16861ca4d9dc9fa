-- What a run reads of a timer after its own effects is what is there once they are done.
use Rattle.std.proofs.Common.{◌≡◌, ℕ, ℤ, ◌+◌, ◌<◌, ◌==◌, Bool, true, false, List, [], ◌∷◌, refl, ◌∙◌, ap, inl, inr, arith, not, if◌then◌else◌, Option, Some, None}
use Rattle.std.specs.Prelude.{nat_lt, option_map}
use Rattle.std.specs.List.{AllByRecursion, filter, list_all}
use Rattle.std.specs.Option.{option_map_or}
use Rattle.std.proofs.lemmas.Bool.{and_parts, cases_Bool, cond_both, ltb-true}
use Rattle.std.proofs.lemmas.Bool.Decides.{nat_tests}
use Rattle.slee_effect.specs.Resolving.{resolved_effect, resolved_ref}
use Rattle.slee_effect.specs.declared.effect.Effect.{Effect}
use Rattle.slee_effect.specs.declared.effect.Effect.TheVariants as effects
use Rattle.slee_effect.specs.declared.next.Next.{Next}
use Rattle.slee_effect.specs.declared.reference.Ref.{Ref}
use Rattle.slee_effect.specs.declared.reference.Ref.TheVariants.{Fresh}
use Rattle.script_meaning.specs.Overlay.{same_ref, stands_on, timer_after}
use Rattle.script_types.specs.declared.codes.RelationCode.{RelationCode}
use Rattle.rows_sorted.specs.Orders.{rises_in}
use Rattle.router_laws.proofs.ListLemmas.{find_kept, find_lost}
use Rattle.router_laws.proofs.RisingLemmas.{InOrder, order_from_rises}
use Rattle.router_laws_applying.proofs.Frames.{child_is}
use Rattle.router_laws_applying.proofs.References.{same_numbers}
use Rattle.router_laws_applying.specs.Seen.{numbered}
use Rattle.router_laws_effects.specs.Runs.{EndsOld, IsOld}
use Rattle.router_laws_sound.proofs.SoundBase.{drawn_below}
use Rattle.router_laws_sound.proofs.SoundTrees.{removed_alone}
use Rattle.router_laws_written.specs.Held.{CancelsOld, timer_held}
use Rattle.router_state.specs.Contexts.{is_linked}
use Rattle.router_state.specs.Fits.{is_drawn}
use Rattle.router_state.specs.State.{State}
use Rattle.router_state.specs.Timers.{timer_at, with_timer, without_timer, without_timers_on}
use Rattle.router_state.specs.Trees.{tree_of}
use Rattle.router_state.specs.Well.{IsSound}
use Rattle.router_state.specs.WellRows.{is_timer_row}
use Rattle.router_state.specs.declared.rows.Timer.{Timer}
use Rattle.router_state.specs.declared.rows.TimerSpec.{TimerSpec}
use Rattle.router_steps.specs.Creating.{with_child}
use Rattle.router_steps.specs.Effects.{after_effect, number_in, relation_at}
use Rattle.router_steps.specs.Going.{all_removed}
use Rattle.router_steps.specs.Moves.{attached}

-- the number of the activity of a timer
abbrev activity_in : Option Timer → Option ℕ
activity_in o = option_map (λ (row : Timer). row.activity.0) o

-- a timer that is new stands behind the others
timer_added : (rows : List Timer) (n k : ℕ) (spec : TimerSpec) → AllByRecursion (λ (row : Timer). row.number.0 < n) rows
    → activity_in (timer_at (with_timer rows n spec) k) ≡ (if n == k then Some spec.activity.0 else activity_in (timer_at rows k))
timer_added [] n k spec below = elim (cases_Bool (n == k)) [
  | inl is ↦ rw is refl
  | inr isnt ↦ rw isnt refl
]
timer_added (row ∷ rows) n k spec below = elim (cases_Bool (row.number.0 == k)) [
  | inl is ↦ (let other : (n == k) ≡ false = apart row.number.0 n k below.0 is in rw (is, other) refl)
  | inr isnt ↦ rw isnt (timer_added rows n k spec below.1)
]
  where
    apart : (x n k : ℕ) → x < n → (x == k) ≡ true → (n == k) ≡ false
    apart x n k less is = grind (arith, nat_tests)

-- one that is cancelled is gone, and no other
timer_cancelled : (rows : List Timer) (c k : ℕ) → activity_in (timer_at (without_timer rows c) k) ≡ (if c == k then None else activity_in (timer_at rows k))
timer_cancelled rows c k = elim (cases_Bool (c == k)) [
  | inl is ↦ rw is (ap activity_in (find_lost (λ (row : Timer). row.number.0 == k) (λ (row : Timer). not (row.number.0 == c)) (λ x mine. goes x.number.0 c k mine is) rows))
  | inr isnt ↦ rw isnt (ap activity_in (find_kept (λ (row : Timer). row.number.0 == k) (λ (row : Timer). not (row.number.0 == c)) (λ x mine. stays x.number.0 c k mine isnt) rows))
]
  where
    goes : (x c k : ℕ) → (x == k) ≡ true → (c == k) ≡ true → not (x == c) ≡ false
    goes x c k mine is = grind (arith, nat_tests)

    stays : (x c k : ℕ) → (x == k) ≡ true → (c == k) ≡ false → not (x == c) ≡ true
    stays x c k mine isnt = grind (arith, nat_tests)

-- one that stands on the activity is gone
abbrev unless_on : ℕ → Option ℕ → Option ℕ
unless_on a None = None
unless_on a (Some b) = if a == b then None else Some b

none_later : (rows : List Timer) (p : Timer → Bool) (n k : ℕ) → AllByRecursion (λ (row : Timer). nat_lt n row.number.0 ≡ true) rows → (n == k) ≡ true → timer_at (filter p rows) k ≡ None
none_later [] p n k later is = refl
none_later (row ∷ rows) p n k later is =
    cond_both (p row) (row ∷ filter p rows) (filter p rows) (λ left. timer_at left k ≡ None)
    (λ _. (let other : (row.number.0 == k) ≡ false = apart row.number.0 n k later.0 is in rw other (none_later rows p n k later.1 is))) (λ _. none_later rows p n k later.1 is)
  where
    apart : (x n k : ℕ) → nat_lt n x ≡ true → (n == k) ≡ true → (x == k) ≡ false
    apart x n k less is = grind (arith, nat_tests)

timers_ended : (rows : List Timer) (a k : ℕ) → InOrder (λ (x y : Timer). nat_lt x.number.0 y.number.0) rows → activity_in (timer_at (without_timers_on rows a) k) ≡ unless_on a (activity_in (timer_at rows k))
timers_ended [] a k order = refl
timers_ended (row ∷ rows) a k order = elim (cases_Bool (row.number.0 == k)) [
  | inl mine ↦ elim (cases_Bool (row.activity.0 == a)) [
    | inl on ↦ (let turn : (a == row.activity.0) ≡ true = turned row.activity.0 a on in rw (mine, on, turn) (ap activity_in (none_later rows (λ (r : Timer). not (r.activity.0 == a)) row.number.0 k order.0 mine)))
    | inr off ↦ (let turn : (a == row.activity.0) ≡ false = turned_off row.activity.0 a off in rw (mine, off, turn, mine) refl)
  ]
  | inr other ↦ elim (cases_Bool (row.activity.0 == a)) [
    | inl on ↦ rw (other, on) (timers_ended rows a k order.1)
    | inr off ↦ rw (other, off, other) (timers_ended rows a k order.1)
  ]
]
  where
    turned : (x a : ℕ) → (x == a) ≡ true → (a == x) ≡ true
    turned x a is = grind (arith, nat_tests)

    turned_off : (x a : ℕ) → (x == a) ≡ false → (a == x) ≡ false
    turned_off x a is = grind (arith, nat_tests)

-- the timers of a sound state rise and were drawn

pub timers_below : (s : State) → IsSound s → AllByRecursion (λ (row : Timer). row.number.0 < s.next_timer) s.timers
timers_below s sound = each s.timers (and_parts (rises_in (λ (row : Timer). row.number.0) s.timers) _ sound.timers).1
  where
    each : (rows : List Timer) → list_all (is_timer_row s.activities s.next_timer) rows ≡ true → AllByRecursion (λ (row : Timer). row.number.0 < s.next_timer) rows
    each [] all = tt
    each (row ∷ rows) all =
        let parts = and_parts (is_timer_row s.activities s.next_timer row) (list_all (is_timer_row s.activities s.next_timer) rows) all in
        (ltb-true row.number.0 s.next_timer (drawn_below s.next_timer row.number.0 (and_parts (is_drawn s.next_timer row.number.0) _ parts.0).0), each rows parts.1)

timers_rise : (s : State) → IsSound s → InOrder (λ (x y : Timer). nat_lt x.number.0 y.number.0) s.timers
timers_rise s sound =
    order_from_rises (λ (x y : Timer). nat_lt x.number.0 y.number.0) (λ x y z one two. joins x.number.0 y.number.0 z.number.0 one two) s.timers
    (and_parts (rises_in (λ (row : Timer). row.number.0) s.timers) (list_all (is_timer_row s.activities s.next_timer) s.timers) sound.timers).0
  where
    joins : (a b c : ℕ) → nat_lt a b ≡ true → nat_lt b c ≡ true → nat_lt a c ≡ true
    joins a b c one two = grind (arith, nat_tests)

-- the activity on which a timer stands was drawn before the run, or is made by it
abbrev pub StandsOld : ℕ → Option Ref → Type 0
StandsOld next None = Unit {0}
StandsOld next (Some a) = IsOld next a

-- a timer is set on such an activity
abbrev pub TimesOld : ℕ → Effect → Type 0
TimesOld next (effects.SetTimer activity start period times keep) = IsOld next activity
TimesOld next _ = Unit {0}

-- what effects leave

created : (s : State) (parent : ℕ) (relation : List ℕ) (priority : ℤ) (o : Option RelationCode) → (option_map_or (λ (r : RelationCode). with_child s parent relation r.block priority) o s).timers ≡ s.timers
created s parent relation priority None = refl
created s parent relation priority (Some r) = ap (λ (t : State). t.timers) (child_is s parent relation r.block priority)

gone : (s : State) (es : List ℕ) → (all_removed es s).timers ≡ s.timers
gone s es = ap (λ (t : State). t.timers) (removed_alone es s)

linked : (s : State) (e a : ℕ) → (attached s e a).timers ≡ s.timers
linked s e a = cond_both (is_linked s.links e a) s _ (λ (t : State). t.timers ≡ s.timers) (λ _. refl) (λ _. refl)

left : (next : Next) (s t : State) (r : Ref) (base : Option Ref) → t.timers ≡ s.timers → timer_held next s r ≡ numbered next base → timer_held next t r ≡ numbered next base
left next s t r base same is = ap (λ rows. activity_in (timer_at rows (number_in (resolved_ref next.timer r)))) same ∙ is

set : (next : Next) (b : Bool) (a : Ref) (o : Option ℕ) (base : Option Ref) → o ≡ numbered next base → (if b then Some (number_in (resolved_ref next.activity a)) else o) ≡ numbered next (if b then Some a else base)
set next true a o base is = refl
set next false a o base is = is

cancelled : (next : Next) (b : Bool) (o : Option ℕ) (base : Option Ref) → o ≡ numbered next base → (if b then None else o) ≡ numbered next (if b then None else base)
cancelled next true o base is = refl
cancelled next false o base is = is

ends : (next : Next) (a : Ref) (base : Option Ref) → IsOld next.activity a → StandsOld next.activity base → unless_on (number_in (resolved_ref next.activity a)) (numbered next base) ≡ numbered next (if stands_on a base then None else base)
ends next a None old mine = refl
ends next a (Some b) old mine = rw (same_numbers next.activity a b old mine) (by (same_ref a b))
  where
    by : (is : Bool) → (if is then None else Some (number_in (resolved_ref next.activity b))) ≡ numbered next (if is then None else Some b)
    by true = refl
    by false = refl

-- one effect does to a timer what the overlay does
pub timer_step : (next : Next) (n : ℕ) (x : Effect) (s : State) (r : Ref) (base : Option Ref) → IsSound s → s.next_timer ≡ next.timer + n → EndsOld next.activity x → CancelsOld next.timer x → IsOld next.timer r → StandsOld next.activity base
    → timer_held next s r ≡ numbered next base → timer_held next (after_effect (resolved_effect next x) s) r ≡ numbered next (timer_after r n x base)
timer_step next n (effects.SetField entity field value) s r base sound drawn ending old mine on is = is
timer_step next n (effects.SetAttr activity key value) s r base sound drawn ending old mine on is = is
timer_step next n (effects.Create parent under priority) s r base sound drawn ending old mine on is =
    left next s (after_effect (resolved_effect next (effects.Create parent under priority)) s) r base (created s (number_in (resolved_ref next.entity parent)) under priority (relation_at s (number_in (resolved_ref next.entity parent)) under)) is
timer_step next n (effects.Remove entity) s r base sound drawn ending old mine on is =
    left next s (after_effect (resolved_effect next (effects.Remove entity)) s) r base (gone s (tree_of s.entities (number_in (resolved_ref next.entity entity)))) is
timer_step next n (effects.SetPriority entity priority) s r base sound drawn ending old mine on is = is
timer_step next n (effects.Attach entity activity) s r base sound drawn ending old mine on is =
    left next s (after_effect (resolved_effect next (effects.Attach entity activity)) s) r base (linked s (number_in (resolved_ref next.entity entity)) (number_in (resolved_ref next.activity activity))) is
timer_step next n (effects.Detach entity activity) s r base sound drawn ending old mine on is = is
timer_step next n (effects.SetMask entity activity event on) s r base sound drawn ending old mine held is = is
timer_step next n (effects.Fire activity event service fields) s r base sound drawn ending old mine on is = is
timer_step next n effects.NewNull s r base sound drawn ending old mine on is = is
timer_step next n (effects.EndNull activity) s r base sound drawn ending old mine on is =
    timers_ended s.timers (number_in (resolved_ref next.activity activity)) (number_in (resolved_ref next.timer r)) (timers_rise s sound)
    ∙ ap (unless_on (number_in (resolved_ref next.activity activity))) is ∙ ends next activity base ending on
timer_step next n (effects.SetTimer activity start period times keep) s r base sound drawn ending old mine on is =
    let spec : TimerSpec = record { activity = record { 0 = number_in (resolved_ref next.activity activity) }; start = start; period = period; times = times; keep = keep } in
    timer_added s.timers s.next_timer (number_in (resolved_ref next.timer r)) spec (timers_below s sound)
    ∙ rw (drawn, same_numbers next.timer (Fresh n) r tt mine) (set next (same_ref (Fresh n) r) activity (timer_held next s r) base is)
timer_step next n (effects.CancelTimer timer) s r base sound drawn ending old mine on is =
    timer_cancelled s.timers (number_in (resolved_ref next.timer timer)) (number_in (resolved_ref next.timer r))
    ∙ rw (same_numbers next.timer timer r old mine) (cancelled next (same_ref timer r) (timer_held next s r) base is)
timer_step next n (effects.Bind word activity) s r base sound drawn ending old mine on is = is
timer_step next n (effects.Unbind word) s r base sound drawn ending old mine on is = is
timer_step next n (effects.Emit entity text) s r base sound drawn ending old mine on is = is
timer_step next n (effects.Usage entity usage amount) s r base sound drawn ending old mine on is = is
timer_step next n (effects.Suspend activity until) s r base sound drawn ending old mine on is = is
timer_step next n (effects.Resume activity) s r base sound drawn ending old mine on is = is

-- and the activity on which it stands stays one that was drawn or is new
pub stands_step : (next : ℕ) (r : Ref) (n : ℕ) (x : Effect) (base : Option Ref) → TimesOld next x → StandsOld next base → StandsOld next (timer_after r n x base)
stands_step next r n (effects.SetField entity field value) base old on = on
stands_step next r n (effects.SetAttr activity key value) base old on = on
stands_step next r n (effects.Create parent under priority) base old on = on
stands_step next r n (effects.Remove entity) base old on = on
stands_step next r n (effects.SetPriority entity priority) base old on = on
stands_step next r n (effects.Attach entity activity) base old on = on
stands_step next r n (effects.Detach entity activity) base old on = on
stands_step next r n (effects.SetMask entity activity event masked) base old on = on
stands_step next r n (effects.Fire activity event service fields) base old on = on
stands_step next r n effects.NewNull base old on = on
stands_step next r n (effects.EndNull activity) base old on = cond_both (stands_on activity base) None base (StandsOld next) (λ _. tt) (λ _. on)
stands_step next r n (effects.SetTimer activity start period times keep) base old on = cond_both (same_ref (Fresh n) r) (Some activity) base (StandsOld next) (λ _. old) (λ _. on)
stands_step next r n (effects.CancelTimer timer) base old on = cond_both (same_ref timer r) None base (StandsOld next) (λ _. tt) (λ _. on)
stands_step next r n (effects.Bind word activity) base old on = on
stands_step next r n (effects.Unbind word) base old on = on
stands_step next r n (effects.Emit entity text) base old on = on
stands_step next r n (effects.Usage entity usage amount) base old on = on
stands_step next r n (effects.Suspend activity until) base old on = on
stands_step next r n (effects.Resume activity) base old on = on
