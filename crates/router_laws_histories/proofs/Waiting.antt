-- While an activity's head event is suspended, by what the lines say, no heading names the activity.
use Rattle.std.proofs.Common.{◌≡◌, ℕ, ◌^◌, ◌<◌, ◌≤◌, ◌==◌, Bool, true, false, not, ◌&&◌, List, [], ◌∷◌, ◌++◌, refl, sym, ◌∙◌, ap, subst, inl, inr, arith, Option, Some, None, IsTrue}
use Rattle.std.specs.Prelude.{codes, decimal, find, is_some, option_map, option_and_then}
use Rattle.std.specs.List.{list_all, list_any}
use Rattle.std.specs.Option.{option_map_or}
use Rattle.std.specs.Str.{bytes_eq}
use Rattle.std.proofs.lemmas.Bool.{cases_Bool, and_parts, eqb-true, false≢true}
use Rattle.std.proofs.lemmas.List.Elements.{All-cons}
use Rattle.deploy_model.specs.Deployed.{service_key}
use Rattle.signal_script.specs.Signals.{spelled}
use Rattle.router_laws.proofs.ListRules.{append_joins}
use Rattle.router_laws.proofs.Queues.{AreEventsBelow}
use Rattle.router_laws.proofs.StepLemmas.{suspended_waits}
use Rattle.router_laws_histories.proofs.Bases.{queued_base}
use Rattle.router_laws_histories.proofs.FiringOrder.{after_is, lines_are}
use Rattle.router_laws_histories.proofs.Reading.{decimal_is_word, first_word, same_words, words_of_finish}
use Rattle.router_laws_histories.proofs.Receiving.{chained}
use Rattle.router_laws_histories.proofs.Stepped.{looked_up, mapped_some, some_same, step_grows}
use Rattle.router_laws_histories.proofs.SuspendedSteps.{IsFree, step_suspends}
use Rattle.router_laws_histories.proofs.Suspending.{IsHeldBack}
use Rattle.router_laws_histories.specs.Suspended.{AreHoldsTold, AreReadableHolds, IsLeftAlone, names_activity, told_suspended}
use Rattle.router_laws_histories.specs.Words.{IsWord}
use Rattle.router_state.specs.State.{State, is_used_up}
use Rattle.router_state.specs.Next.{next, receives_at, selects_at}
use Rattle.router_state.specs.Queues.{head_event, is_suspended, is_undelivered, is_waiting}
use Rattle.router_state.specs.Well.{IsSound}
use Rattle.router_state.specs.WellQueues.{is_suspension_row}
use Rattle.router_state.specs.declared.kindred.Kindred.{Kindred}
use Rattle.router_state.specs.declared.rows.EntityMark.{EntityMark}
use Rattle.router_state.specs.declared.rows.Event.{Event}
use Rattle.router_state.specs.declared.rows.Queued.{Queued}
use Rattle.router_state.specs.declared.rows.Suspension.{Suspension}
use Rattle.router_steps.specs.Closing.{closing, lines_of_closing}
use Rattle.router_steps.specs.Histories.{Legal}
use Rattle.router_steps.specs.Lines.{deliver_heading, finish_heading, initial_heading, initial_none_heading, outcome_words}
use Rattle.router_steps.specs.Steps.{Due, Finish, Receipt, Root, NoRoot, OldRoot, NewRoot, Subject, Taking, Selecting, Delivering, Finishing, after, after_subject, delivery_at, delivery_to, due_at, finish_at, is_delivery, is_enabled, is_finish, is_initial, is_next, is_next_by, lines_of_root, lines_of_step, lines_of_subject, subject_of}
use Rattle.trace_history.specs.Reading.{activity_word, event_word, heading_of}
use Rattle.trace_history.specs.Words.{words_in}
use Rattle.trace_history.specs.declared.choice.Choice.{Choice}
use Rattle.trace_history.specs.declared.choice.Choice.TheVariants as choices
use Rattle.trace_history.specs.declared.entry.Entry.{Entry}

-- a choice that may be made is of an activity that isn't suspended

pub next_free : (s : State) (a : ℕ) (test : Kindred → Bool) → is_next_by test s a ≡ true → is_suspended s.suspensions a ≡ false
next_free s a test on = elim (cases_Bool (is_suspended s.suspensions a)) [
  | inr free ↦ free
  | inl held ↦ (let none : next s a ≡ None = suspended_waits s a held in absurd (false≢true (rw none at on)))
]

pub free_subject : (s : State) (c : Choice) (x : Subject) → is_enabled s c ≡ true → subject_of s c ≡ Some x → IsFree x s
free_subject s (choices.Input signal) x on is = subst (λ y. IsFree y s) (some_same is) tt
free_subject s (choices.Initial a) x on is =
    let free = next_free s a.0 is_initial (and_parts (not (is_used_up s)) (is_next s (choices.Initial a)) on).1 in
    mapped_some (λ y. IsFree y s) Selecting (due_at s a.0) x is
    (λ due found. mapped_some (λ (d : Due). is_suspended s.suspensions d.activity ≡ false) _ (selects_at s a.0) due found (λ y there. free))
free_subject s (choices.Deliver a) x on is =
    let free = next_free s a.0 is_delivery (and_parts (not (is_used_up s)) (is_next s (choices.Deliver a)) on).1 in
    mapped_some (λ y. IsFree y s) Delivering (delivery_at s a.0) x is
    (λ receipt found. chained (λ (r : Receipt). is_suspended s.suspensions r.activity ≡ false) (delivery_to s a.0) (receives_at s a.0) receipt found
    (λ y there made. mapped_some (λ (r : Receipt). is_suspended s.suspensions r.activity ≡ false) _ _ receipt made (λ z run. free)))
free_subject s (choices.Finish a) x on is =
    let free = next_free s a.0 is_finish (and_parts (not (is_used_up s)) (is_next s (choices.Finish a)) on).1 in
    mapped_some (λ y. IsFree y s) Finishing (finish_at s a.0) x is
    (λ done found. mapped_some (λ (f : Finish). is_suspended s.suspensions f.activity ≡ false) _ (head_event s.events a.0) done found (λ v there. free))

-- headings of other activities

activity_is_word : (a : ℕ) → a < 2 ^ 64 → IsWord (activity_word a)
activity_is_word a fits = All-cons (λ b. (b == 32) ≡ false) 97 (decimal a) refl (decimal_is_word a fits)

none_named : (b : Bool) → (b && false) ≡ false
none_named true = refl
none_named false = refl

other_activity : (a b : ℕ) (verb : List ℕ) (words : List (List ℕ)) → a < 2 ^ 64 → b < 2 ^ 64 → (b == a) ≡ false → names_activity a (verb ∷ activity_word b ∷ words) ≡ false
other_activity a b verb words a_fits b_fits other = rw (same_words b a b_fits a_fits, other) (none_named _)

head_read : (a v : ℕ) (rest : List ℕ) → a < 2 ^ 64 → words_in ((activity_word a ++ 32 ∷ event_word v) ++ rest) ≡ activity_word a ∷ words_in (event_word v ++ rest)
head_read a v rest fits = ap words_in (append_joins (activity_word a) (32 ∷ event_word v) rest) ∙ first_word (activity_word a) (event_word v ++ rest) (activity_is_word a fits)

other_head : (a b v : ℕ) (verb rest : List ℕ) → a < 2 ^ 64 → b < 2 ^ 64 → (b == a) ≡ false → names_activity a (verb ∷ words_in ((activity_word b ++ 32 ∷ event_word v) ++ rest)) ≡ false
other_head a b v verb rest a_fits b_fits other =
    ap (λ words. names_activity a (verb ∷ words)) (head_read b v rest b_fits) ∙ other_activity a b verb (words_in (event_word v ++ rest)) a_fits b_fits other

other_verb : (a : ℕ) (verb : List ℕ) (words : List (List ℕ)) → bytes_eq verb (codes "initial") ≡ false → bytes_eq verb (codes "deliver") ≡ false → bytes_eq verb (codes "finish") ≡ false → names_activity a (verb ∷ words) ≡ false
other_verb a verb [] one two three = refl
other_verb a verb (w ∷ words) one two three = rw (one, two, three) refl

root_heading : (x : Due) (root : Root) (s : State) (more : List (List ℕ)) (a : ℕ) → a < 2 ^ 64 → x.activity < 2 ^ 64 → (x.activity == a) ≡ false → names_activity a (words_in (heading_of (lines_of_root x root s ++ more))) ≡ false
root_heading x NoRoot s more a a_fits fits other =
    other_head a x.activity x.event.id.0 (codes "initial") (codes " " ++ (service_key s.deployment x.service ++ codes " none")) a_fits fits other
root_heading x (OldRoot e) s more a a_fits fits other =
    other_head a x.activity x.event.id.0 (codes "initial") (codes " " ++ (service_key s.deployment x.service ++ (codes " e" ++ (decimal e ++ (codes " " ++ codes "old"))))) a_fits fits other
root_heading x (NewRoot name) s more a a_fits fits other =
    other_head a x.activity x.event.id.0 (codes "initial") (codes " " ++ (service_key s.deployment x.service ++ (codes " e" ++ (decimal s.next_entity ++ (codes " " ++ codes "new"))))) a_fits fits other

apart : (s : State) (a b : ℕ) → is_suspended s.suspensions b ≡ false → is_suspended s.suspensions a ≡ true → (b == a) ≡ false
apart s a b free held = elim (cases_Bool (b == a)) [
  | inr other ↦ other
  | inl is ↦ absurd (false≢true (sym free ∙ subst (λ n. is_suspended s.suspensions n ≡ true) (sym (eqb-true b a is)) held))
]

unnamed : (x : Subject) (s : State) (more : List (List ℕ)) (a : ℕ) → a < 2 ^ 64 → IsFree x s → AreReadableHolds x s → is_suspended s.suspensions a ≡ true
    → names_activity a (words_in (heading_of (lines_of_subject x s ++ more))) ≡ false
unnamed (Taking signal action) s more a a_fits free fits held = other_verb a (codes "input") (words_in (spelled signal)) refl refl refl
unnamed (Selecting x) s more a a_fits free fits held = root_heading x x.root s more a a_fits fits (apart s a x.activity free held)
unnamed (Delivering x) s more a a_fits free fits held =
    other_head a x.activity x.event.id.0 (codes "deliver") (codes " e" ++ (decimal x.entity.number.0 ++ (codes " " ++ outcome_words x.delivered.outcome))) a_fits fits.0 (apart s a x.activity free held)
unnamed (Finishing x) s more a a_fits free fits held =
    ap (λ words. names_activity a (codes "finish" ∷ words)) (first_word (activity_word x.activity) (event_word x.event.id.0) (activity_is_word x.activity fits))
    ∙ other_activity a x.activity (codes "finish") (words_in (event_word x.event.id.0)) a_fits fits (apart s a x.activity free held)

-- histories

pub left_alone : (s : State) (h : List Entry) → AreEventsBelow s.next_event s.events → Legal s h → AreHoldsTold s h → (a : ℕ) → a < 2 ^ 64 → (was : Bool) → (was ≡ true → IsHeldBack s a) → IsLeftAlone a was h
left_alone s [] below legal told a fits was begins = tt
left_alone s (e ∷ es) below legal told a fits was begins =
    let c = e.choice in
    let x = told.0.0 in
    let is = told.0.1 in
    let up = looked_up s c x is in
    let free = free_subject s c x legal.1 is in
    let grows = step_grows x s up below in
    let few : (closing (after_subject x s)).next_event ≤ 2 ^ 64 = subst (λ (t : State). t.next_event ≤ 2 ^ 64) (after_is s c x is) told.0.3 in
    let lines : e.lines ≡ lines_of_subject x s ++ lines_of_closing (after_subject x s) = legal.2 ∙ lines_are s c x is in
    let suspends = step_suspends x s up free below few told.0.2 in
    let later : AreEventsBelow (after s c).next_event (after s c).events = subst (λ (t : State). AreEventsBelow t.next_event t.events) (sym (after_is s c x is)) grows.below in (
      (λ held. ap (λ ls. names_activity a (words_in (heading_of ls))) lines ∙ unnamed x s (lines_of_closing (after_subject x s)) a fits free told.0.2 (begins held).0),
      left_alone (after s c) es later legal.3 told.1 a fits (told_suspended a was e.lines)
          (λ ends. subst (λ (t : State). IsHeldBack t a) (sym (after_is s c x is)) (suspends a was fits begins (ap (told_suspended a was) (sym lines) ∙ ends))),
    )

-- bases

waiting_head : (events : List Queued) (a : ℕ) → is_waiting events a ≡ true → (v : Event) × (head_event events a ≡ Some v)
waiting_head [] a is = absurd (cc)
waiting_head (q ∷ qs) a is = elim (cases_Bool (q.activity.0 == a)) [
  | inl own ↦ (q.event, rw own refl)
  | inr other ↦ (let more = waiting_head qs a (rw other at is) in (more.0, rw other more.1))
]

suspended_head : (clock : ℕ) (events : List Queued) (marks : List EntityMark) (rows : List Suspension) (a : ℕ) → list_all (is_suspension_row clock events marks) rows ≡ true → is_suspended rows a ≡ true → is_waiting events a ≡ true
suspended_head clock events marks [] a all is = absurd (cc)
suspended_head clock events marks (row ∷ rows) a all is =
    let parts = and_parts (is_suspension_row clock events marks row) (list_all (is_suspension_row clock events marks) rows) all in
    elim (cases_Bool (row.activity.0 == a)) [
      | inl own ↦ subst (λ n. is_waiting events n ≡ true) (eqb-true row.activity.0 a own) (and_parts (is_waiting events row.activity.0) _ parts.0).0
      | inr other ↦ suspended_head clock events marks rows a parts.1 (rw other at is)
    ]

held_base : (s : State) → IsSound s → (a : ℕ) → is_suspended s.suspensions a ≡ true → IsHeldBack s a
held_base s sound a held =
    let rows = and_parts _ (list_all (is_suspension_row s.clock s.events s.delivered) s.suspensions) sound.suspensions in
    (held, waiting_head s.events a (suspended_head s.clock s.events s.delivered s.suspensions a rows.1 held))

pub suspended_left : (s : State) (h : List Entry) → IsSound s → Legal s h → AreHoldsTold s h → (a : ℕ) → a < 2 ^ 64 → IsLeftAlone a (is_suspended s.suspensions a) h
suspended_left s h sound legal told a fits = left_alone s h (queued_base s sound).below legal told a fits (is_suspended s.suspensions a) (held_base s sound a)
