-- Events go in the order in which they were put on queues.
use Rattle.router_laws_histories.specs.Words.{AreTold}
use Rattle.router_laws_histories.specs.Words.{IsTold}
use Rattle.router_laws_histories.specs.Words.{IsReadableSubject}
use Rattle.router_laws_histories.specs.Words.{fires_of_step}
use Rattle.std.proofs.Common.{◌≡◌, ℕ, ◌^◌, ◌<◌, ◌==◌, Bool, true, false, List, [], ◌∷◌, ◌++◌, map, refl, sym, ◌∙◌, if◌then◌else◌, Some}
use Rattle.std.specs.Prelude.{codes}
use Rattle.std.proofs.lemmas.List.{map-append}
use Rattle.router_laws.proofs.ListRules.{append_nil, append_joins}
use Rattle.router_laws.proofs.Queues.{AreEventsBelow}
use Rattle.router_laws_histories.proofs.Reading.{finish_is_read, other_finish}
use Rattle.router_laws_histories.specs.Fires.{fired_on}
use Rattle.router_laws_histories.proofs.Growing.{told_on, number_of}
use Rattle.router_laws_histories.proofs.Stepped.{begun, gone_on, looked_up, begun_queues, step_grows}
use Rattle.router_state.specs.State.{State}
use Rattle.router_state.specs.Queues.{queue}
use Rattle.router_state.specs.declared.rows.Event.{Event}
use Rattle.router_steps.specs.Closing.{closing, lines_of_closing}
use Rattle.router_steps.specs.Histories.{replay, Legal, pending_at}
use Rattle.signal_script.specs.Signals.{spelled}
use Rattle.router_steps.specs.Steps.{Due, Root, NoRoot, OldRoot, NewRoot, lines_of_root, Subject, Taking, Selecting, Delivering, Finishing, after, after_subject, subject_of, lines_of_subject, lines_of_step}
use Rattle.trace_history.specs.Reading.{queued_in, finished_in, finished_by, heading_of}
use Rattle.trace_history.specs.Words.{words_in}
use Rattle.trace_history.specs.declared.choice.Choice.{Choice}
use Rattle.trace_history.specs.declared.entry.Entry.{Entry}

-- the state behind a choice that is about something
pub after_is : (s : State) (c : Choice) (x : Subject) → subject_of s c ≡ Some x → after s c ≡ closing (after_subject x s)
after_is s c x is = rw is refl

pub lines_are : (s : State) (c : Choice) (x : Subject) → subject_of s c ≡ Some x → lines_of_step s c ≡ lines_of_subject x s ++ lines_of_closing (after_subject x s)
lines_are s c x is = rw is refl

root_heading : (x : Due) (root : Root) (s : State) (more : List (List ℕ)) (a : ℕ) → finished_by a (words_in (heading_of (lines_of_root x root s ++ more))) ≡ []
root_heading x NoRoot s more a = other_finish a (codes "initial") _ refl
root_heading x (OldRoot e) s more a = other_finish a (codes "initial") _ refl
root_heading x (NewRoot name) s more a = other_finish a (codes "initial") _ refl

-- the event that a heading says is gone
heading_read : (x : Subject) (s : State) (more : List (List ℕ)) (a : ℕ) → a < 2 ^ 64 → IsReadableSubject x
    → finished_by a (words_in (heading_of (lines_of_subject x s ++ more))) ≡ map number_of (gone_on a x)
heading_read (Taking signal action) s more a fits readable = other_finish a (codes "input") (words_in (spelled signal)) refl
heading_read (Selecting x) s more a fits readable = root_heading x x.root s more a
heading_read (Delivering x) s more a fits readable = other_finish a (codes "deliver") _ refl
heading_read (Finishing x) s more a fits readable = finish_is_read x.activity x.event.id.0 a readable.0 readable.1 fits ∙ numbers (x.activity == a)
  where
    numbers : (b : Bool) → (if b then x.event.id.0 ∷ [] else []) ≡ map number_of (if b then x.event ∷ [] else [])
    numbers true = refl
    numbers false = refl

-- one step
pub step_order : (s : State) (c : Choice) → AreEventsBelow s.next_event s.events → IsTold s c → (a : ℕ) → a < 2 ^ 64
    → AreEventsBelow (after s c).next_event (after s c).events
    × (pending_at s a ++ told_on a (lines_of_step s c) ≡ finished_by a (words_in (heading_of (lines_of_step s c))) ++ pending_at (after s c) a)
step_order s c below told a fits =
    let x = told.0 in
    let up = looked_up s c x told.1 in
    let grows = step_grows x s up below in
    rw (lines_are s c x told.1, after_is s c x told.1) (
      grows.below,
      rw (heading_read x s (lines_of_closing (after_subject x s)) a fits told.3, grows.told a fits told.2, begun_queues x s up a, grows.queues a)
          (joined (gone_on a x) (queue (begun x s).events a) (fired_on a (fires_of_step s x))),
    )
  where
    joined : (gone left more : List Event) → map number_of (gone ++ left) ++ map number_of more ≡ map number_of gone ++ map number_of (left ++ more)
    joined gone left more = rw (map-append number_of gone left, map-append number_of left more) (append_joins (map number_of gone) (map number_of left) (map number_of more))

-- a history: what waited at first and what was queued is what is finished and what waits at the end
pub firing_order : (s : State) (h : List Entry) → AreEventsBelow s.next_event s.events → Legal s h → AreTold s h → (a : ℕ) → a < 2 ^ 64
    → pending_at s a ++ queued_in h a ≡ finished_in h a ++ pending_at (replay s h) a
firing_order s [] below legal told a fits = append_nil (pending_at s a)
firing_order s (e ∷ es) below legal told a fits =
    let one = step_order s e.choice below told.0 a fits in
    let more = firing_order (after s e.choice) es one.0 legal.3 told.1 a fits in
    rw legal.2 (sym (append_joins (pending_at s a) (told_on a (lines_of_step s e.choice)) (queued_in es a))
    ∙ rw one.1 (append_joins (finished_by a (words_in (heading_of (lines_of_step s e.choice)))) (pending_at (after s e.choice) a) (queued_in es a)
    ∙ rw more (sym (append_joins (finished_by a (words_in (heading_of (lines_of_step s e.choice)))) (finished_in es a) (pending_at (replay (after s e.choice) es) a)))))

-- finished events are the first ones of those that waited and were queued
pub finished_is_prefix : (s : State) (h : List Entry) → AreEventsBelow s.next_event s.events → Legal s h → AreTold s h → (a : ℕ) → a < 2 ^ 64
    → (rest : List ℕ) × (pending_at s a ++ queued_in h a ≡ finished_in h a ++ rest)
finished_is_prefix s h below legal told a fits = (pending_at (replay s h) a, firing_order s h below legal told a fits)
