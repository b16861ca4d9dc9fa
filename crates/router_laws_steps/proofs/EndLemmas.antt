-- An activity's end comes last on it.
use Rattle.deploy_model.specs.Deployed.{Deployed}
use Rattle.router_laws.proofs.ListLemmas.{find_lost}
use Rattle.router_laws_sound.proofs.SoundBase.{drawn_below, found_passes}
use Rattle.router_laws_sound.proofs.SoundDropped.{dropped_is}
use Rattle.router_laws_sound.proofs.SoundGrowth.{ends_of}
use Rattle.router_laws_sound.specs.Rooms.{HasRoom, IsDeployed}
use Rattle.router_laws_steps.proofs.Gone.{gone_closing, gone_replay}
use Rattle.router_laws_steps.proofs.Selecting.{activity_drawn, head_is}
use Rattle.router_laws_steps.proofs.WholeSteps.{well_replayed}
use Rattle.router_laws_steps.specs.Reads.{AreRead}
use Rattle.router_state.specs.Changes.{after_change}
use Rattle.router_state.specs.Contexts.{activity_at, without_activity}
use Rattle.router_state.specs.Fits.{is_drawn, is_u64}
use Rattle.router_state.specs.Queues.{head_event, queue, queued_before}
use Rattle.router_state.specs.State.{State}
use Rattle.router_state.specs.Well.{IsSound, IsWell}
use Rattle.router_state.specs.WellEntities.{all_differ}
use Rattle.router_state.specs.WellQueues.{differ_in_number, ends_right, has_end_last, has_no_end, is_end, is_event_row}
use Rattle.router_state.specs.declared.rows.Activity.{Activity}
use Rattle.router_state.specs.declared.rows.Event.{Event}
use Rattle.router_state.specs.declared.rows.Queued.{Queued}
use Rattle.router_steps.specs.Closing.{closing}
use Rattle.router_steps.specs.Histories.{Legal, replay}
use Rattle.router_steps.specs.Moves.{dropped}
use Rattle.router_steps.specs.Steps.{Finish, Finishing, after, after_subject, before_closing, finished}
use Rattle.rows_sorted.specs.Orders.{rises_by}
use Rattle.script_meaning.specs.Values.{number}
use Rattle.slee_value.specs.declared.ids.ActivityId.{ActivityId}
use Rattle.std.proofs.Common.{Bool, List, Some, [], ap, arith, false, refl, subst, sym, true, ℕ, ◌<◌, ◌==◌, ◌∙◌, ◌∷◌, ◌≡◌, ◌≤◌}
use Rattle.std.proofs.lemmas.Bool.{and_parts, eqb-true, false_from_ne_true, false≢true, ltb-true}
use Rattle.std.specs.List.{list_all}
use Rattle.std.specs.Option.{option_map_or}
use Rattle.std.specs.Prelude.{if◌then◌else◌, is_some, not, option_map}
use Rattle.trace_history.specs.declared.entry.Entry.{Entry}
use Rattle.router_state.specs.declared.change.Change.TheVariants as changes
use Rattle.trace_history.specs.declared.choice.Choice.TheVariants as choices

-- on an Ending activity that waits one end, and last; on another no end waits
pub end_last : (s : State) (a : ℕ) (row : Activity) → IsSound s → activity_at s.activities a ≡ Some row → (if row.ending then has_end_last (queue s.events a) else has_no_end (queue s.events a)) ≡ true
end_last s a row sound found =
    let both = found_passes (ends_right s.events) (λ (r : Activity). r.number.0 == a) s.activities row found (ends_of s.deployment s.activities s.events s.next_activity s.next_timer s.next_event sound.events) in
    subst (λ k. (if row.ending then has_end_last (queue s.events k) else has_no_end (queue s.events k)) ≡ true) (eqb-true row.number.0 a both.1) both.0

-- nothing waits on an activity that isn't there
nothing_waits : (d : Deployed) (rows : List Activity) (n m k a : ℕ) (events : List Queued) → is_some (activity_at rows a) ≡ false → list_all (is_event_row d rows n m k) events ≡ true → queue events a ≡ []
nothing_waits d rows n m k a [] none all = refl
nothing_waits d rows n m k a (q ∷ events) none all =
    let parts = and_parts (is_event_row d rows n m k q) (list_all (is_event_row d rows n m k) events) all in
    let there = (and_parts (is_some (activity_at rows q.activity.0)) _ (and_parts (is_drawn k q.event.id.0) _ parts.0).1).0 in
    let other : (q.activity.0 == a) ≡ false = false_from_ne_true (q.activity.0 == a) (λ same. false≢true (sym none ∙ subst (λ b. is_some (activity_at rows b) ≡ true) (eqb-true q.activity.0 a same) there)) in
    rw other (nothing_waits d rows n m k a events none parts.1)

pub nothing_waits_there : (s : State) (a : ℕ) → IsSound s → is_some (activity_at s.activities a) ≡ false → queue s.events a ≡ []
nothing_waits_there s a sound none =
    nothing_waits s.deployment s.activities s.next_activity s.next_timer s.next_event a s.events none
    (and_parts (list_all (is_event_row s.deployment s.activities s.next_activity s.next_timer s.next_event) s.events) _ (and_parts (all_differ differ_in_number s.events) _ (and_parts (rises_by queued_before s.events) _ sound.events).1).1).0

-- what is gone stays gone, and nothing waits on it
pub gone_for_good : (s : State) (h : List Entry) (a : ℕ) → IsWell s → IsDeployed s.deployment → Legal s h → AreRead h → HasRoom (replay s h) → is_u64 (replay s h).inputs ≡ true → a < s.next_activity → is_some (activity_at s.activities a) ≡ false
    → (is_some (activity_at (replay s h).activities a) ≡ false) × (queue (replay s h).events a ≡ [])
gone_for_good s h a well deployed legal read room count less none =
    let gone = (gone_replay s h).gone a less none in
    (gone, nothing_waits_there (replay s h) a (well_replayed s h well deployed legal read room count).sound gone)

-- behind the finish of its end an activity is gone
pub gone_behind_end : (s : State) (a : ActivityId) (v : Event) → IsSound s → head_event s.events a.0 ≡ Some v → is_end v ≡ true
    → (a.0 < (after s (choices.Finish a)).next_activity) × (is_some (activity_at (after s (choices.Finish a)).activities a.0) ≡ false)
gone_behind_end s a v sound head is =
    let x : Finish = record { activity = a.0; event = v } in
    let t = before_closing s (choices.Finish a) in
    let popped = after_change (changes.Pop (record { 0 = a.0 })) s in
    let about : t ≡ finished x s = ap (λ o. option_map_or (λ y. after_subject y s) (option_map Finishing (option_map (λ w. record { activity = a.0; event = w }) o)) s) head in
    let ends : finished x s ≡ dropped popped a.0 = rw is refl in
    let rows : t.activities ≡ without_activity s.activities a.0 = ap (λ (u : State). u.activities) (about ∙ ends ∙ dropped_is popped a.0) in
    let next : t.next_activity ≡ s.next_activity = ap (λ (u : State). u.next_activity) (about ∙ ends ∙ dropped_is popped a.0) in
    let none : is_some (activity_at t.activities a.0) ≡ false = subst (λ ys. is_some (activity_at ys a.0) ≡ false) (sym rows) (lost s.activities) in
    let there = (head_is s a.0 v sound head).there in
    let drawn = ltb-true a.0 s.next_activity (drawn_below s.next_activity a.0 (activity_drawn s a.0 sound there)) in
    let closed = gone_closing t in
    (further a.0 s.next_activity t.next_activity (closing t).next_activity drawn next closed.grown, closed.gone a.0 (still a.0 s.next_activity t.next_activity drawn next) none)
  where
    lost : (rows : List Activity) → is_some (activity_at (without_activity rows a.0) a.0) ≡ false
    lost rows = ap is_some (find_lost (λ (r : Activity). r.number.0 == a.0) (λ (r : Activity). not (r.number.0 == a.0)) (λ r same. turned (r.number.0 == a.0) same) rows)
      where
        turned : (b : Bool) → b ≡ true → not b ≡ false
        turned true same = refl
        turned false same = absurd (cc)

    further : (a n m k : ℕ) → a < n → m ≡ n → m ≤ k → a < k
    further a n m k less is le = omega (arith, less, is, le)

    still : (a n m : ℕ) → a < n → m ≡ n → a < m
    still a n m less is = omega (arith, less, is)
