-- What headings say of activities, events and entities is so in the state in which each stands.
use Rattle.std.proofs.Common.{Bool, List, Some, [], ap, false, refl, subst, sym, true, ℕ, ◌&&◌, ◌++◌, ◌<◌, ◌==◌, ◌^◌, ◌∙◌, ◌∷◌, ◌≡◌}
use Rattle.std.proofs.lemmas.Bool.{and_parts, eqb-true, false≢true, ltb-true}
use Rattle.std.proofs.lemmas.List.Elements.{All-cons}
use Rattle.std.specs.Prelude.{codes, decimal, option_map}
use Rattle.std.specs.Str.{bytes_eq}
use Rattle.deploy_model.specs.Deployed.{service_key}
use Rattle.router_laws.proofs.ListRules.{append_joins}
use Rattle.router_laws.specs.Forest.{IsIn}
use Rattle.router_laws_histories.proofs.DeliveryOrder.{delivered_first}
use Rattle.router_laws_histories.proofs.FiringOrder.{lines_are}
use Rattle.router_laws_histories.proofs.Reading.{decimal_is_word, first_word, same_words, words_of_finish}
use Rattle.router_laws_histories.proofs.Receiving.{chained}
use Rattle.router_laws_histories.proofs.Stepped.{mapped_some}
use Rattle.router_laws_histories.specs.Suspended.{names_activity}
use Rattle.router_laws_histories.specs.Words.{IsFirstOf, IsWord}
use Rattle.router_laws_runs.proofs.Runs.{sound_room}
use Rattle.router_laws_runs.specs.Headings.{NamesFirst, delivers_on}
use Rattle.router_laws_sound.proofs.SoundBase.{drawn_below}
use Rattle.router_laws_sound.proofs.SoundEntities.{passes_in}
use Rattle.router_laws_steps.proofs.Selecting.{head_is}
use Rattle.router_laws_steps.proofs.Told.{there_is_below}
use Rattle.router_laws_steps.proofs.ToldSteps.{has_bits}
use Rattle.router_laws_steps.proofs.WholeSteps.{passes_eligible}
use Rattle.router_state.specs.Fits.{is_drawn}
use Rattle.router_state.specs.Next.{due_service, eligible, selects_at}
use Rattle.router_state.specs.Queues.{head_event}
use Rattle.router_state.specs.State.{State}
use Rattle.router_state.specs.Well.{IsSound}
use Rattle.router_state.specs.WellEntities.{is_entity_row}
use Rattle.router_state.specs.declared.rows.Entity.{Entity}
use Rattle.router_state.specs.declared.rows.Event.{Event}
use Rattle.router_steps.specs.Closing.{lines_of_closing}
use Rattle.router_steps.specs.Lines.{deliver_heading, outcome_words}
use Rattle.router_steps.specs.Steps.{Delivering, Due, Finish, Finishing, NewRoot, NoRoot, OldRoot, Root, Selecting, Subject, Taking, after_subject, delivery_at, due_at, finish_at, lines_of_root, lines_of_step, lines_of_subject, subject_of}
use Rattle.rows_sorted.specs.Orders.{rises_in}
use Rattle.script_meaning.specs.declared.outcome.Outcome.{Outcome}
use Rattle.signal_script.specs.Signals.{spelled}
use Rattle.trace_history.specs.Reading.{activity_word, event_word, heading_of}
use Rattle.trace_history.specs.Words.{words_in}
use Rattle.trace_history.specs.declared.choice.Choice.{Choice}
use Rattle.trace_history.specs.declared.choice.Choice.TheVariants as choices

-- the words of a heading name the head event of an activity
pub record Named (s : State) (a : ℕ) (words : List (List ℕ)) : Type 0 where
  pub event : Event
  pub head : head_event s.events a ≡ Some event
  pub verb : List ℕ
  pub more : List (List ℕ)
  pub reads : words ≡ verb ∷ activity_word a ∷ event_word event.id.0 ∷ more

-- words

activity_is_word : (a : ℕ) → a < 2 ^ 64 → IsWord (activity_word a)
activity_is_word a fits = All-cons (λ b. (b == 32) ≡ false) 97 (decimal a) refl (decimal_is_word a fits)

event_is_word : (v : ℕ) → v < 2 ^ 64 → IsWord (event_word v)
event_is_word v fits = All-cons (λ b. (b == 32) ≡ false) 118 (decimal v) refl (decimal_is_word v fits)

-- an activity and its event in front of a heading's other words
two_read : (a v : ℕ) (rest : List ℕ) → a < 2 ^ 64 → v < 2 ^ 64 → words_in ((activity_word a ++ 32 ∷ event_word v) ++ 32 ∷ rest) ≡ activity_word a ∷ event_word v ∷ words_in rest
two_read a v rest a_fits v_fits =
    ap words_in (append_joins (activity_word a) (32 ∷ event_word v) (32 ∷ rest))
    ∙ first_word (activity_word a) (event_word v ++ 32 ∷ rest) (activity_is_word a a_fits)
    ∙ ap (λ words. activity_word a ∷ words) (first_word (event_word v) rest (event_is_word v v_fits))

-- the heading of a delivery
delivery_read : (a v e : ℕ) (outcome : Outcome) → a < 2 ^ 64 → v < 2 ^ 64 → e < 2 ^ 64
    → words_in (deliver_heading a v e outcome) ≡ codes "deliver" ∷ activity_word a ∷ event_word v ∷ (codes "e" ++ decimal e) ∷ words_in (outcome_words outcome)
delivery_read a v e outcome a_fits v_fits e_fits =
    ap (λ words. codes "deliver" ∷ words)
    (two_read a v ((codes "e" ++ decimal e) ++ 32 ∷ outcome_words outcome) a_fits v_fits
    ∙ ap (λ words. activity_word a ∷ event_word v ∷ words) (first_word (codes "e" ++ decimal e) (outcome_words outcome) (All-cons (λ b. (b == 32) ≡ false) 101 (decimal e) refl (decimal_is_word e e_fits))))

-- which activity is named

same_activity : (a b : ℕ) (p : Bool) → a < 2 ^ 64 → b < 2 ^ 64 → (p && bytes_eq (activity_word b) (activity_word a)) ≡ true → b ≡ a
same_activity a b p a_fits b_fits is = eqb-true b a (sym (same_words b a b_fits a_fits) ∙ (and_parts p (bytes_eq (activity_word b) (activity_word a)) is).1)

input_unnamed : (a : ℕ) (words : List (List ℕ)) → names_activity a (codes "input" ∷ words) ≡ true → ⊥
input_unnamed a [] named = false≢true named
input_unnamed a (w ∷ words) named = false≢true named

named_by : (s : State) (a b : ℕ) (v : Event) (verb : List ℕ) (more words : List (List ℕ)) → a < 2 ^ 64 → b < 2 ^ 64 → head_event s.events b ≡ Some v → words ≡ verb ∷ activity_word b ∷ event_word v.id.0 ∷ more
    → names_activity a words ≡ true → Named s a words
named_by s a b v verb more words a_fits b_fits head is named =
    let same : b ≡ a = same_activity a b _ a_fits b_fits (subst (λ ws. names_activity a ws ≡ true) is named) in
    record {
      event = v;
      head = subst (λ k. head_event s.events k ≡ Some v) same head;
      verb = verb;
      more = more;
      reads = is ∙ ap (λ k. (let ws : List (List ℕ) = verb ∷ activity_word k ∷ event_word v.id.0 ∷ more in ws)) same;
    }

-- what a step is about

-- the head event of its activity
abbrev HasHead : Subject → State → Type 0
HasHead (Taking signal action) s = Unit {0}
HasHead (Selecting x) s = head_event s.events x.activity ≡ Some x.event
HasHead (Delivering x) s = head_event s.events x.activity ≡ Some x.event
HasHead (Finishing x) s = head_event s.events x.activity ≡ Some x.event

has_head : (s : State) (c : Choice) (x : Subject) → subject_of s c ≡ Some x → HasHead x s
has_head s (choices.Input signal) x is = subst (λ y. HasHead y s) (some_same is) tt
  where
    some_same : {X : Type 0} {y z : X} → Some y ≡ Some z → y ≡ z
    some_same same = cc
has_head s (choices.Initial a) x is =
    mapped_some (λ y. HasHead y s) Selecting (due_at s a.0) x is
    (λ due found. mapped_some (λ (d : Due). head_event s.events d.activity ≡ Some d.event) _ (selects_at s a.0) due found
    (λ pair selects. chained (λ (y : Event × ℕ). head_event s.events a.0 ≡ Some y.0) (λ v. option_map (λ service. (v, service)) (due_service s a.0 v)) (head_event s.events a.0) pair selects
    (λ v head picked. mapped_some (λ (y : Event × ℕ). head_event s.events a.0 ≡ Some y.0) (λ service. (v, service)) (due_service s a.0 v) pair picked (λ service due. head))))
has_head s (choices.Deliver a) x is = mapped_some (λ y. HasHead y s) Delivering (delivery_at s a.0) x is (λ receipt found. (delivered_first s a.0 receipt found).0)
has_head s (choices.Finish a) x is =
    mapped_some (λ y. HasHead y s) Finishing (finish_at s a.0) x is (λ done found. mapped_some (λ (f : Finish). head_event s.events f.activity ≡ Some f.event) _ (head_event s.events a.0) done found (λ v head. head))

-- numbers of what waits have 64 bits
pub head_fits : (s : State) (a : ℕ) (v : Event) → IsSound s → head_event s.events a ≡ Some v → (a < 2 ^ 64) × (v.id.0 < 2 ^ 64)
head_fits s a v sound head =
    let facts = head_is s a v sound head in
    let room = sound_room s sound in
    (has_bits a s.next_activity (there_is_below s a sound facts.there) room.activity, has_bits v.id.0 s.next_event (ltb-true v.id.0 s.next_event (drawn_below s.next_event v.id.0 facts.drawn)) room.event)

root_named : (x : Due) (root : Root) (s : State) (lines : List (List ℕ)) (a : ℕ) → IsSound s → a < 2 ^ 64 → head_event s.events x.activity ≡ Some x.event → names_activity a (words_in (heading_of (lines_of_root x root s ++ lines))) ≡ true
    → Named s a (words_in (heading_of (lines_of_root x root s ++ lines)))
root_named x NoRoot s lines a sound a_fits head named =
    let fits = head_fits s x.activity x.event sound head in
    named_by s a x.activity x.event (codes "initial") _ _ a_fits fits.0 head (ap (λ words. codes "initial" ∷ words) (two_read x.activity x.event.id.0 (service_key s.deployment x.service ++ codes " none") fits.0 fits.1)) named
root_named x (OldRoot e) s lines a sound a_fits head named =
    let fits = head_fits s x.activity x.event sound head in
    named_by s a x.activity x.event (codes "initial") _ _ a_fits fits.0 head
    (ap (λ words. codes "initial" ∷ words) (two_read x.activity x.event.id.0 (service_key s.deployment x.service ++ (codes " e" ++ (decimal e ++ (codes " " ++ codes "old")))) fits.0 fits.1)) named
root_named x (NewRoot name) s lines a sound a_fits head named =
    let fits = head_fits s x.activity x.event sound head in
    named_by s a x.activity x.event (codes "initial") _ _ a_fits fits.0 head
    (ap (λ words. codes "initial" ∷ words) (two_read x.activity x.event.id.0 (service_key s.deployment x.service ++ (codes " e" ++ (decimal s.next_entity ++ (codes " " ++ codes "new")))) fits.0 fits.1)) named

subject_named : (x : Subject) (s : State) (lines : List (List ℕ)) (a : ℕ) → IsSound s → a < 2 ^ 64 → HasHead x s → names_activity a (words_in (heading_of (lines_of_subject x s ++ lines))) ≡ true
    → Named s a (words_in (heading_of (lines_of_subject x s ++ lines)))
subject_named (Taking signal action) s lines a sound a_fits head named = absurd (input_unnamed a (words_in (spelled signal)) named)
subject_named (Selecting x) s lines a sound a_fits head named = root_named x x.root s lines a sound a_fits head named
subject_named (Delivering x) s lines a sound a_fits head named =
    let fits = head_fits s x.activity x.event sound head in
    named_by s a x.activity x.event (codes "deliver") _ _ a_fits fits.0 head
    (ap (λ words. codes "deliver" ∷ words) (two_read x.activity x.event.id.0 ((codes "e" ++ decimal x.entity.number.0) ++ 32 ∷ outcome_words x.delivered.outcome) fits.0 fits.1)) named
subject_named (Finishing x) s lines a sound a_fits head named =
    let fits = head_fits s x.activity x.event sound head in
    named_by s a x.activity x.event (codes "finish") [] _ a_fits fits.0 head (words_of_finish x.activity x.event.id.0 fits.0 fits.1) named

-- a heading that names an activity names its head event
pub step_named : (s : State) (c : Choice) (x : Subject) (a : ℕ) → IsSound s → a < 2 ^ 64 → subject_of s c ≡ Some x → names_activity a (words_in (heading_of (lines_of_step s c))) ≡ true → Named s a (words_in (heading_of (lines_of_step s c)))
step_named s c x a sound a_fits is named =
    let lines = lines_are s c x is in
    subst (λ ls. Named s a (words_in (heading_of ls))) (sym lines)
    (subject_named x s (lines_of_closing (after_subject x s)) a sound a_fits (has_head s c x is) (subst (λ ls. names_activity a (words_in (heading_of ls)) ≡ true) lines named))

-- deliveries

-- it is to the first of those that may receive the event
abbrev HasFirst : Subject → State → Type 0
HasFirst (Delivering x) s = (head_event s.events x.activity ≡ Some x.event) × IsIn x.entity (eligible s x.activity x.event) × IsFirstOf s.entities x.entity (eligible s x.activity x.event)
HasFirst _ s = Unit {0}

has_first : (s : State) (c : Choice) (x : Subject) → subject_of s c ≡ Some x → HasFirst x s
has_first s (choices.Input signal) x is = subst (λ y. HasFirst y s) (some_same is) tt
  where
    some_same : {X : Type 0} {y z : X} → Some y ≡ Some z → y ≡ z
    some_same same = cc
has_first s (choices.Initial a) x is = mapped_some (λ y. HasFirst y s) Selecting (due_at s a.0) x is (λ due found. tt)
has_first s (choices.Deliver a) x is = mapped_some (λ y. HasFirst y s) Delivering (delivery_at s a.0) x is (λ receipt found. delivered_first s a.0 receipt found)
has_first s (choices.Finish a) x is = mapped_some (λ y. HasFirst y s) Finishing (finish_at s a.0) x is (λ done found. tt)

other_verb : (a : ℕ) (verb : List ℕ) (words : List (List ℕ)) → bytes_eq verb (codes "deliver") ≡ false → delivers_on a (verb ∷ words) ≡ true → ⊥
other_verb a verb [] isnt is = false≢true is
other_verb a verb (w ∷ words) isnt is = false≢true (sym isnt ∙ (and_parts (bytes_eq verb (codes "deliver")) (bytes_eq w (activity_word a)) is).0)

root_delivers : (x : Due) (root : Root) (s : State) (lines : List (List ℕ)) (a : ℕ) → delivers_on a (words_in (heading_of (lines_of_root x root s ++ lines))) ≡ true → ⊥
root_delivers x NoRoot s lines a is = other_verb a (codes "initial") _ refl is
root_delivers x (OldRoot e) s lines a is = other_verb a (codes "initial") _ refl is
root_delivers x (NewRoot name) s lines a is = other_verb a (codes "initial") _ refl is

entity_fits : (s : State) (a : ℕ) (v : Event) (row : Entity) → IsSound s → IsIn row (eligible s a v) → row.number.0 < 2 ^ 64
entity_fits s a v row sound may =
    let passes = passes_in (is_entity_row s.deployment s.entities s.next_entity) s.entities row (passes_eligible s a v row may) (and_parts (rises_in (λ (r : Entity). r.number.0) s.entities) _ sound.entities).1 in
    has_bits row.number.0 s.next_entity (ltb-true row.number.0 s.next_entity (drawn_below s.next_entity row.number.0 (and_parts (is_drawn s.next_entity row.number.0) _ passes).0)) (sound_room s sound).entity

subject_first : (x : Subject) (s : State) (lines : List (List ℕ)) (a : ℕ) → IsSound s → a < 2 ^ 64 → HasFirst x s → delivers_on a (words_in (heading_of (lines_of_subject x s ++ lines))) ≡ true
    → NamesFirst s a (words_in (heading_of (lines_of_subject x s ++ lines)))
subject_first (Taking signal action) s lines a sound a_fits first is = absurd (other_verb a (codes "input") (words_in (spelled signal)) refl is)
subject_first (Selecting x) s lines a sound a_fits first is = absurd (root_delivers x x.root s lines a is)
subject_first (Delivering x) s lines a sound a_fits first is =
    let fits = head_fits s x.activity x.event sound first.0 in
    let words = delivery_read x.activity x.event.id.0 x.entity.number.0 x.delivered.outcome fits.0 fits.1 (entity_fits s x.activity x.event x.entity sound first.1) in
    let same : x.activity ≡ a = same_activity a x.activity (bytes_eq (codes "deliver") (codes "deliver")) a_fits fits.0 (subst (λ ws. delivers_on a ws ≡ true) words is) in
    record {
      event = x.event;
      entity = x.entity;
      more = words_in (outcome_words x.delivered.outcome);
      reads = words ∙ ap (λ k. (let ws : List (List ℕ) = codes "deliver" ∷ activity_word k ∷ event_word x.event.id.0 ∷ (codes "e" ++ decimal x.entity.number.0) ∷ words_in (outcome_words x.delivered.outcome) in ws)) same;
      head = subst (λ k. head_event s.events k ≡ Some x.event) same first.0;
      may = subst (λ k. IsIn x.entity (eligible s k x.event)) same first.1;
      first = subst (λ k. IsFirstOf s.entities x.entity (eligible s k x.event)) same first.2;
    }
subject_first (Finishing x) s lines a sound a_fits first is = absurd (other_verb a (codes "finish") _ refl is)

-- the heading of a delivery names the first of those that may receive the head event
pub step_first : (s : State) (c : Choice) (x : Subject) (a : ℕ) → IsSound s → a < 2 ^ 64 → subject_of s c ≡ Some x → delivers_on a (words_in (heading_of (lines_of_step s c))) ≡ true → NamesFirst s a (words_in (heading_of (lines_of_step s c)))
step_first s c x a sound a_fits is delivers =
    let lines = lines_are s c x is in
    subst (λ ls. NamesFirst s a (words_in (heading_of ls))) (sym lines)
    (subject_first x s (lines_of_closing (after_subject x s)) a sound a_fits (has_first s c x is) (subst (λ ls. delivers_on a (words_in (heading_of ls)) ≡ true) lines delivers))
