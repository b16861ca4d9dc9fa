-- What is asked of histories by the laws over them holds of every legal history over a well-formed state.
use Rattle.router_laws.proofs.KeptLemmas.{same_after, same_before_closing}
use Rattle.router_laws.proofs.ListRules.{all_append}
use Rattle.router_laws_histories.proofs.Bases.{queued_base}
use Rattle.router_laws_histories.proofs.DeliveryOrder.{delivered_first}
use Rattle.router_laws_histories.proofs.Stepped.{looked_up, mapped_some, step_grows}
use Rattle.router_laws_histories.specs.Fires.{Firing, fires_of_closing}
use Rattle.router_laws_histories.specs.Words.{AreTold, IsReadable, IsReadableSubject, IsTold, fires_of_step, fires_of_subject}
use Rattle.router_laws_sound.proofs.SoundBase.{drawn_below, some_there}
use Rattle.router_laws_sound.proofs.SoundClosing.{grown_closing}
use Rattle.router_laws_sound.proofs.SoundEntities.{passes_in}
use Rattle.router_laws_sound.proofs.SoundNumbers.{room_before}
use Rattle.router_laws_sound.specs.Rooms.{HasRoom, IsDeployed, IsGrown}
use Rattle.router_laws_steps.proofs.Selecting.{head_is}
use Rattle.router_laws_steps.proofs.Told.{IsSaid, numbers_below, said_applying, said_closing, said_more, there_is_below}
use Rattle.router_laws_steps.proofs.ToldLines.{said_taken}
use Rattle.router_laws_steps.proofs.WholeSteps.{grown_after, passes_eligible, sound_after, sound_before, sound_marked, step_can}
use Rattle.router_laws_steps.specs.About.{AreAbout, AreWords}
use Rattle.router_laws_steps.specs.Reads.{AreRead}
use Rattle.router_laws_steps.specs.Steps.{CanStep}
use Rattle.router_state.specs.Fits.{is_drawn, is_u64}
use Rattle.router_state.specs.Queues.{head_event}
use Rattle.router_state.specs.State.{State}
use Rattle.router_state.specs.Well.{IsSound}
use Rattle.router_state.specs.WellEntities.{is_entity_row}
use Rattle.router_state.specs.declared.rows.Entity.{Entity}
use Rattle.router_steps.specs.Closing.{closing}
use Rattle.router_steps.specs.Effects.{resolved_in}
use Rattle.router_steps.specs.Histories.{Legal, replay}
use Rattle.router_steps.specs.Steps.{Delivering, Finish, Finishing, Receipt, Selecting, Subject, after, after_subject, before_closing, delivery_at, due_at, finish_at, marked_entity, subject_of}
use Rattle.rows_sorted.specs.Orders.{rises_in}
use Rattle.script_meaning.specs.Delivery.{delivered}
use Rattle.script_meaning.specs.Observing.{there}
use Rattle.script_meaning.specs.Values.{number}
use Rattle.std.proofs.Common.{List, Some, [], ap, arith, subst, sym, true, ℕ, ◌<◌, ◌^◌, ◌∷◌, ◌≡◌}
use Rattle.std.proofs.lemmas.Bool.{and_parts, ltb-true}
use Rattle.std.specs.List.{AllByRecursion}
use Rattle.std.specs.Option.{option_map_or}
use Rattle.std.specs.Prelude.{is_some}
use Rattle.trace_history.specs.declared.choice.Choice.{Choice}
use Rattle.trace_history.specs.declared.entry.Entry.{Entry}
use Rattle.trace_history.specs.declared.choice.Choice.TheVariants as choices

-- a number below a next number has 64 bits
pub has_bits : (a n : ℕ) → a < n → is_u64 n ≡ true → a < 2 ^ 64
has_bits a n less fits = under a n (2 ^ 64) less (ltb-true n (2 ^ 64) fits)
  where
    under : (a n m : ℕ) → a < n → n < m → a < m
    under a n m less more = omega (arith, less, more)

drawn_bits : (s : State) (t : State) (a : ℕ) → is_drawn s.next_activity a ≡ true → IsGrown s t → HasRoom t → a < 2 ^ 64
drawn_bits s t a drawn grown room = has_bits a s.next_activity (ltb-true a s.next_activity (drawn_below s.next_activity a drawn)) (room_before s t grown room).activity

-- firings whose numbers have 64 bits
readable : (n m : ℕ) (fires : List Firing) → is_u64 n ≡ true → is_u64 m ≡ true → AllByRecursion (IsSaid n) fires → AllByRecursion (λ (f : Firing). f.1.id.0 < m) fires → AllByRecursion IsReadable fires
readable n m [] one two said numbers = tt
readable n m (f ∷ fires) one two said numbers = ((has_bits f.0 n said.0.0 one, has_bits f.1.id.0 m numbers.0 two, said.0.1), readable n m fires one two said.1 numbers.1)

-- what a step is about
said_subject : (s : State) (c : Choice) (x : Subject) → IsSound s → IsDeployed s.deployment → AreWords s.deployment → CanStep s c → subject_of s c ≡ Some x → HasRoom (after_subject x s) → AllByRecursion (IsSaid (after_subject x s).next_activity) (fires_of_subject x s)
said_subject s (choices.Input signal) x sound deployed words can is room =
    subst (λ y. AllByRecursion (IsSaid (after_subject y s).next_activity) (fires_of_subject y s)) (some_same is) (said_taken s signal sound words)
  where
    some_same : {X : Type 0} {x y : X} → Some x ≡ Some y → x ≡ y
    some_same same = cc
said_subject s (choices.Initial a) x sound deployed words can is room =
    mapped_some (λ y. AllByRecursion (IsSaid (after_subject y s).next_activity) (fires_of_subject y s)) Selecting (due_at s a.0) x is (λ due found. tt)
said_subject s (choices.Deliver a) x sound deployed words can is room =
    mapped_some (λ y. HasRoom (after_subject y s) → AllByRecursion (IsSaid (after_subject y s).next_activity) (fires_of_subject y s)) Delivering (delivery_at s a.0) x is
    (λ receipt found more. delivery receipt found more) room
  where
    delivery : (x : Receipt) → delivery_at s a.0 ≡ Some x → HasRoom (after_subject (Delivering x) s) → AllByRecursion (IsSaid (after_subject (Delivering x) s).next_activity) (fires_of_subject (Delivering x) s)
    delivery x found room = said_applying x.entity.number.0 (resolved_in (marked_entity x s) x.delivered.effects) (marked_entity x s) (sound_marked s a.0 x sound found) deployed words room
said_subject s (choices.Finish a) x sound deployed words can is room =
    mapped_some (λ y. AllByRecursion (IsSaid (after_subject y s).next_activity) (fires_of_subject y s)) Finishing (finish_at s a.0) x is (λ done found. tt)

-- headings

heads : (s : State) (c : Choice) (x : Subject) → IsSound s → HasRoom s → subject_of s c ≡ Some x → IsReadableSubject x
heads s (choices.Input signal) x sound room is = subst IsReadableSubject (some_same is) tt
  where
    some_same : {X : Type 0} {x y : X} → Some x ≡ Some y → x ≡ y
    some_same same = cc
heads s (choices.Initial a) x sound room is = mapped_some IsReadableSubject Selecting (due_at s a.0) x is (λ due found. tt)
heads s (choices.Deliver a) x sound room is = mapped_some IsReadableSubject Delivering (delivery_at s a.0) x is (λ receipt found. delivery receipt found)
  where
    delivery : (x : Receipt) → delivery_at s a.0 ≡ Some x → IsReadableSubject (Delivering x)
    delivery x found =
        let facts = delivered_first s a.0 x found in
        let head = head_is s x.activity x.event sound facts.0 in
        let passes = passes_in (is_entity_row s.deployment s.entities s.next_entity) s.entities x.entity (passes_eligible s x.activity x.event x.entity facts.1) (and_parts (rises_in (λ (r : Entity). r.number.0) s.entities) _ sound.entities).1 in (
          has_bits x.activity s.next_activity (there_is_below s x.activity sound head.there) room.activity,
          has_bits x.event.id.0 s.next_event (ltb-true x.event.id.0 s.next_event (drawn_below s.next_event x.event.id.0 head.drawn)) room.event,
          has_bits x.entity.number.0 s.next_entity (ltb-true x.entity.number.0 s.next_entity (drawn_below s.next_entity x.entity.number.0 (and_parts (is_drawn s.next_entity x.entity.number.0) _ passes).0)) room.entity,
        )
heads s (choices.Finish a) x sound room is =
    mapped_some IsReadableSubject Finishing (finish_at s a.0) x is
    (λ done found. mapped_some (λ (y : Finish). (y.activity < 2 ^ 64) × (y.event.id.0 < 2 ^ 64)) (λ v. record { activity = a.0; event = v }) (head_event s.events a.0) done found
    (λ v head. let facts = head_is s a.0 v sound head in
    (has_bits a.0 s.next_activity (there_is_below s a.0 sound facts.there) room.activity, has_bits v.id.0 s.next_event (ltb-true v.id.0 s.next_event (drawn_below s.next_event v.id.0 facts.drawn)) room.event)))

-- a step, as the laws over histories ask it

pub told_step : (s : State) (c : Choice) → IsSound s → IsDeployed s.deployment → AreWords s.deployment → CanStep s c → is_some (subject_of s c) ≡ true → IsTold s c
told_step s c sound deployed words can about =
    let x = some_there (subject_of s c) about in
    let t = before_closing s c in
    let same : t ≡ after_subject x.0 s = ap (λ o. option_map_or (λ y. after_subject y s) o s) x.1 in
    let closed : after s c ≡ closing (after_subject x.0 s) = ap closing same in
    let room : HasRoom (closing (after_subject x.0 s)) = subst HasRoom closed can.room in
    let early = room_before (after_subject x.0 s) (closing (after_subject x.0 s)) (grown_closing (after_subject x.0 s)) room in
    let between : IsSound (after_subject x.0 s) = subst IsSound same (sound_before s c sound deployed can.enabled can.read can.count (room_before t (after s c) (grown_closing t) can.room)) in
    let kept : IsDeployed (after_subject x.0 s).deployment = subst (λ (u : State). IsDeployed u.deployment) same (subst IsDeployed (sym (same_before_closing s c).0) deployed) in
    let end = closing (after_subject x.0 s) in
    let said = all_append (IsSaid end.next_activity) (fires_of_subject x.0 s) (fires_of_closing (after_subject x.0 s))
    (said_more (after_subject x.0 s).next_activity end.next_activity (fires_of_subject x.0 s) (grown_closing (after_subject x.0 s)).activity (said_subject s c x.0 sound deployed words can x.1 early))
    (said_closing (after_subject x.0 s) between kept room) in
    let grows = step_grows x.0 s (looked_up s c x.0 x.1) (queued_base s sound).below in
    (x.0, x.1, readable end.next_activity end.next_event (fires_of_step s x.0) room.activity room.event said (numbers_below _ end.next_event (fires_of_step s x.0) grows.numbers), heads s c x.0 sound (room_before s (after s c) (grown_after s c) can.room) x.1)

pub told_all : (s : State) (h : List Entry) → IsSound s → IsDeployed s.deployment → AreWords s.deployment → AreAbout s h → Legal s h → AreRead h → HasRoom (replay s h) → is_u64 (replay s h).inputs ≡ true → AreTold s h
told_all s [] sound deployed words about legal read room count = tt
told_all s (e ∷ es) sound deployed words about legal read room count =
    let t = after s e.choice in
    let can = step_can s e es legal read room count in
    let same = same_after s e.choice in (
      told_step s e.choice sound deployed words can about.0,
      told_all t es (sound_after s e.choice sound deployed can) (subst IsDeployed (sym same.0) deployed) (subst AreWords (sym same.0) words) about.1 legal.3 read.1 room count,
    )
