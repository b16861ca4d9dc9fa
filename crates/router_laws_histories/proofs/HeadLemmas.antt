-- Only the finish of an activity's head event moves it.
use Rattle.router_laws_histories.specs.Words.{LeavesHead}
use Rattle.std.proofs.Common.{◌≡◌, ℕ, List, [], ◌∷◌, ◌++◌, refl, sym, ◌∙◌, ap, Some}
use Rattle.router_laws.proofs.Queues.{AreEventsBelow, first_of, head_is_first}
use Rattle.router_laws_histories.specs.Fires.{fired_on}
use Rattle.router_laws_histories.proofs.FiringOrder.{after_is}
use Rattle.router_laws_histories.specs.Words.{fires_of_step}
use Rattle.router_laws_histories.proofs.Stepped.{begun, gone_on, looked_up, begun_queues, step_grows}
use Rattle.router_state.specs.State.{State}
use Rattle.router_state.specs.Queues.{queue, head_event}
use Rattle.router_state.specs.declared.rows.Event.{Event}
use Rattle.router_steps.specs.Closing.{closing}
use Rattle.router_steps.specs.Steps.{Subject, Taking, Selecting, Delivering, Finishing, after, after_subject, subject_of}
use Rattle.trace_history.specs.declared.choice.Choice.{Choice}

nothing_gone : (a : ℕ) (x : Subject) → LeavesHead a x → gone_on a x ≡ []
nothing_gone a (Taking signal action) leaves = refl
nothing_gone a (Selecting x) leaves = refl
nothing_gone a (Delivering x) leaves = refl
nothing_gone a (Finishing x) leaves = rw leaves refl

pub first_stays : {X : Type 0} (xs more : List X) (x : X) → first_of xs ≡ Some x → first_of (xs ++ more) ≡ Some x
first_stays [] more x is = absurd (cc)
first_stays (y ∷ xs) more x is = is

pub head_stays : (s : State) (c : Choice) (x : Subject) (a : ℕ) (v : Event) → AreEventsBelow s.next_event s.events → subject_of s c ≡ Some x → LeavesHead a x
    → head_event s.events a ≡ Some v → head_event (after s c).events a ≡ Some v
head_stays s c x a v below is leaves head =
    let up = looked_up s c x is in
    let grows = step_grows x s up below in
    let before : queue s.events a ≡ queue (begun x s).events a = rw (nothing_gone a x leaves) at (begun_queues x s up a) in
    let behind : queue (closing (after_subject x s)).events a ≡ queue s.events a ++ fired_on a (fires_of_step s x) = rw before (grows.queues a) in
    let first : first_of (queue s.events a) ≡ Some v = sym (head_is_first s.events a) ∙ head in
    rw (after_is s c x is) (head_is_first (closing (after_subject x s)).events a ∙ ap first_of behind ∙ first_stays (queue s.events a) (fired_on a (fires_of_step s x)) v first)
