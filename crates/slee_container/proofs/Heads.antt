-- A step leaves the head event of each activity but the one whose event it finishes.
use Rattle.std.proofs.Common.{◌≡◌, ℕ, ◌==◌, false, refl, sym, ◌∙◌, ap, subst, Option, Some, None}
use Rattle.std.specs.Bool.{⊤}
use Rattle.trace_history.specs.declared.choice.Choice.{Choice}
use Rattle.trace_history.specs.declared.choice.Choice.TheVariants as choices
use Rattle.router_state.specs.Queues.{head_event, queue}
use Rattle.router_state.specs.State.{State}
use Rattle.router_state.specs.declared.rows.Event.{Event}
use Rattle.router_steps.specs.Closing.{closing}
use Rattle.router_steps.specs.Steps.{Finish, Subject, Selecting, Delivering, Finishing, after, delivery_at, due_at, finish_at, subject_of}
use Rattle.router_laws.proofs.Queues.{first_of, head_is_first}
use Rattle.router_laws_histories.specs.Fires.{fired_on, fires_of_closing}
use Rattle.router_laws_histories.specs.Words.{LeavesHead}
use Rattle.router_laws_histories.proofs.FiringOrder.{after_is}
use Rattle.router_laws_histories.proofs.HeadLemmas.{first_stays, head_stays}
use Rattle.router_laws_histories.proofs.Stepped.{looked_up, mapped_some, some_same, step_grows}
use Rattle.router_laws_histories.proofs.Stepping.{closing_grows}
use Rattle.slee_container.specs.Claims.{AreDrawn}

-- the choice doesn't finish an event of this activity
abbrev pub IsElsewhere : Choice → ℕ → Type 0
IsElsewhere (choices.Input signal) a = ⊤
IsElsewhere (choices.Initial b) a = ⊤
IsElsewhere (choices.Deliver b) a = ⊤
IsElsewhere (choices.Finish b) a = (b.0 == a) ≡ false

leaves : (s : State) (c : Choice) (x : Subject) (a : ℕ) → subject_of s c ≡ Some x → IsElsewhere c a → LeavesHead a x
leaves s (choices.Input signal) x a is elsewhere = subst (LeavesHead a) (some_same is) tt
leaves s (choices.Initial b) x a is elsewhere = mapped_some (LeavesHead a) Selecting (due_at s b.0) x is (λ due found. tt)
leaves s (choices.Deliver b) x a is elsewhere = mapped_some (LeavesHead a) Delivering (delivery_at s b.0) x is (λ receipt found. tt)
leaves s (choices.Finish b) x a is elsewhere =
    mapped_some (LeavesHead a) Finishing (finish_at s b.0) x is
    (λ y found. mapped_some (λ (z : Finish). (z.activity == a) ≡ false) _ (head_event s.events b.0) y found (λ v is. elsewhere))

closing_front : (s : State) (a : ℕ) (v : Event) → AreDrawn s → head_event s.events a ≡ Some v → head_event (closing s).events a ≡ Some v
closing_front s a v drawn head =
    let grows = closing_grows s drawn in
    let first : first_of (queue s.events a) ≡ Some v = sym (head_is_first s.events a) ∙ head in
    head_is_first (closing s).events a ∙ ap first_of (grows.queues a) ∙ first_stays (queue s.events a) (fired_on a (fires_of_closing s)) v first

-- where a choice is about nothing, closing is all
nothing_is : (s : State) (c : Choice) → subject_of s c ≡ None → after s c ≡ closing s
nothing_is s c none = rw none refl

-- the head event stays
pub after_front : (s : State) (c : Choice) (a : ℕ) (v : Event) → AreDrawn s → IsElsewhere c a → head_event s.events a ≡ Some v → head_event (after s c).events a ≡ Some v
after_front s c a v drawn elsewhere head = by_subject (subject_of s c) refl
  where
    by_subject : (o : Option Subject) → subject_of s c ≡ o → head_event (after s c).events a ≡ Some v
    by_subject None is = subst (λ (t : State). head_event t.events a ≡ Some v) (sym (nothing_is s c is)) (closing_front s a v drawn head)
    by_subject (Some x) is = head_stays s c x a v drawn is (leaves s c x a is elsewhere) head

-- the numbers of events that wait were drawn then too
pub after_drawn : (s : State) (c : Choice) → AreDrawn s → AreDrawn (after s c)
after_drawn s c drawn = by_subject (subject_of s c) refl
  where
    by_subject : (o : Option Subject) → subject_of s c ≡ o → AreDrawn (after s c)
    by_subject None is = subst AreDrawn (sym (nothing_is s c is)) (closing_grows s drawn).below
    by_subject (Some x) is = subst AreDrawn (sym (after_is s c x is)) (step_grows x s (looked_up s c x is) drawn).below
