-- What steps say is read as it was written.
use Rattle.router_laws.proofs.KeptLemmas.{same_close_null, same_close_roots, same_close_services, same_effect}
use Rattle.router_laws.proofs.ListRules.{all_append, all_weaker}
use Rattle.router_laws_histories.proofs.AtMostOnce.{fired_below}
use Rattle.router_laws_histories.proofs.Growing.{RisesFrom}
use Rattle.router_laws_histories.specs.Fires.{Firing, fires_of_closing, fires_of_effect, fires_of_effects, fires_of_ended, fires_of_null, fires_of_nulls}
use Rattle.router_laws_histories.specs.Words.{IsWord}
use Rattle.router_laws_sound.proofs.SoundApplied.{sound_effect}
use Rattle.router_laws_sound.proofs.SoundBase.{activities_drawn, passes_there, there_below}
use Rattle.router_laws_sound.proofs.SoundClosing.{grown_close_null, grown_close_nulls, sound_close_null, sound_close_services, sound_without_loose}
use Rattle.router_laws_sound.proofs.SoundNumbers.{grown_effect, grown_effects, room_before}
use Rattle.router_laws_sound.specs.Rooms.{HasRoom, IsDeployed}
use Rattle.router_laws_steps.proofs.LineMoves.{active_is_there}
use Rattle.router_laws_steps.specs.About.{AreWords}
use Rattle.router_state.specs.Contexts.{activity_at, is_active, is_null}
use Rattle.router_state.specs.Fits.{are_declared, none_or}
use Rattle.router_state.specs.Queues.{activity_end}
use Rattle.router_state.specs.State.{State}
use Rattle.router_state.specs.Trees.{roots}
use Rattle.router_state.specs.Well.{IsSound}
use Rattle.router_state.specs.WellContexts.{are_services_from}
use Rattle.router_state.specs.declared.rows.Activity.{Activity}
use Rattle.router_steps.specs.Applying.{applies, applying, suits_event}
use Rattle.router_steps.specs.Closing.{activity_numbers, close_null, close_nulls, closing, is_idle, is_idle_at, without_loose, without_stopped}
use Rattle.router_steps.specs.Effects.{after_effect, after_effects, number_in, plain_field, service_for}
use Rattle.script_meaning.specs.Observing.{used}
use Rattle.script_meaning.specs.Values.{number}
use Rattle.script_types.specs.Codes.{named}
use Rattle.script_types.specs.declared.codes.EventCode.{EventCode}
use Rattle.slee_effect.specs.declared.effect.Effect.{Effect}
use Rattle.std.proofs.Common.{Bool, List, Some, [], arith, false, inl, inr, length, map, refl, subst, sym, true, ℕ, ◌+◌, ◌<◌, ◌==◌, ◌∷◌, ◌≡◌, ◌≤◌}
use Rattle.std.proofs.lemmas.Bool.{and_parts, cases_Bool, ltb-true, not-true}
use Rattle.std.proofs.lemmas.List.Elements.{All-cons, All-nil}
use Rattle.std.specs.List.{AllByRecursion, list_all}
use Rattle.std.specs.Option.{option_map_or}
use Rattle.std.specs.Prelude.{if◌then◌else◌, is_some, not, ◌&&◌}
use Rattle.slee_effect.specs.declared.effect.Effect.TheVariants as effects

-- words

pub word_from : (word : List ℕ) → list_all (λ b. not (b == 32)) word ≡ true → IsWord word
word_from [] all = All-nil _
word_from (b ∷ word) all =
    let parts = and_parts (not (b == 32)) (list_all (λ c. not (c == 32)) word) all in
    All-cons (λ c. (c == 32) ≡ false) b word (not-true (b == 32) parts.0) (word_from word parts.1)

pub end_word : IsWord activity_end
end_word = word_from activity_end refl

-- a firing on an activity whose number is below this one, of an event whose name is a word
abbrev pub IsSaid : ℕ → Firing → Type 0
IsSaid n f = (f.0 < n) × IsWord f.1.name

pub said_more : (n m : ℕ) (fires : List Firing) → n ≤ m → AllByRecursion (IsSaid n) fires → AllByRecursion (IsSaid m) fires
said_more n m fires le all = all_weaker (IsSaid n) (IsSaid m) fires (λ f said. (further f.0 n m said.0 le, said.1)) all
  where
    further : (a n m : ℕ) → a < n → n ≤ m → a < m
    further a n m less le = omega (arith, less, le)

-- numbers of events that are fired are below the next one
pub numbers_below : (n m : ℕ) (fires : List Firing) → RisesFrom n fires m → AllByRecursion (λ (f : Firing). f.1.id.0 < m) fires
numbers_below n m [] rises = tt
numbers_below n m (f ∷ fires) rises = (below f.1.id.0 m (fired_below (f.1.id.0 + 1) m fires rises.1), numbers_below (f.1.id.0 + 1) m fires rises.1)
  where
    below : (v m : ℕ) → v + 1 ≤ m → v < m
    below v m le = omega (arith, le)

pub there_is_below : (s : State) (a : ℕ) → IsSound s → is_some (activity_at s.activities a) ≡ true → a < s.next_activity
there_is_below s a sound there = ltb-true a s.next_activity (there_below (λ (r : Activity). r.number.0) s.next_activity a s.activities there (activities_drawn s.deployment s.activities s.next_activity sound.activities))

-- effects

said_effect : (me : ℕ) (x : Effect) (s : State) → IsSound s → AreWords s.deployment → applies me x s ≡ true → AllByRecursion (IsSaid s.next_activity) (fires_of_effect x s)
said_effect me (effects.SetField entity name value) s sound words is = tt
said_effect me (effects.SetAttr activity key value) s sound words is = tt
said_effect me (effects.Create parent relation priority) s sound words is = tt
said_effect me (effects.Remove entity) s sound words is = tt
said_effect me (effects.SetPriority entity priority) s sound words is = tt
said_effect me (effects.Attach entity activity) s sound words is = tt
said_effect me (effects.Detach entity activity) s sound words is = tt
said_effect me (effects.SetMask entity activity event on) s sound words is = tt
said_effect me (effects.Fire activity event service fields) s sound words is =
    let active = and_parts (is_active s.activities (number_in activity)) _ is in
    let target = and_parts (none_or (λ key. is_some (service_for s (Some key))) service) (suits_event s event fields) active.1 in
    let suits = and_parts (option_map_or (λ (declared : EventCode). are_declared declared.fields (map plain_field fields)) (named (λ (e : EventCode). e.name) event s.deployment.events) false) _ target.1 in
    ((there_is_below s (number_in activity) sound (active_is_there s (number_in activity) active.0), words.declared event (passes_there (λ (declared : EventCode). are_declared declared.fields (map plain_field fields)) (named (λ (e : EventCode). e.name) event s.deployment.events) suits.0)), tt)
said_effect me effects.NewNull s sound words is = tt
said_effect me (effects.EndNull activity) s sound words is =
    ((there_is_below s (number_in activity) sound (passes_there (λ (row : Activity). is_null row.kind && not row.ending) (activity_at s.activities (number_in activity)) is), end_word), tt)
said_effect me (effects.SetTimer activity start period times keep) s sound words is = tt
said_effect me (effects.CancelTimer timer) s sound words is = tt
said_effect me (effects.Bind name activity) s sound words is = tt
said_effect me (effects.Unbind name) s sound words is = tt
said_effect me (effects.Emit entity text) s sound words is = tt
said_effect me (effects.Usage entity name amount) s sound words is = tt
said_effect me (effects.Suspend activity until) s sound words is = tt
said_effect me (effects.Resume activity) s sound words is = tt

pub said_applying : (me : ℕ) (xs : List Effect) (s : State) → IsSound s → IsDeployed s.deployment → AreWords s.deployment → HasRoom (after_effects (applying me xs s) s)
    → AllByRecursion (IsSaid (after_effects (applying me xs s) s).next_activity) (fires_of_effects (applying me xs s) s)
said_applying me [] s sound deployed words room = tt
said_applying me (x ∷ xs) s sound deployed words room = elim (cases_Bool (applies me x s)) [
  | inr isnt ↦ (let end : HasRoom (after_effects (applying me xs s) s) = rw isnt at room in rw isnt (said_applying me xs s sound deployed words end))
  | inl is ↦
      let t = after_effect x s in
      let rest = applying me xs t in
      let end : HasRoom (after_effects rest t) = rw is at room in
      let grown = grown_effects rest t in
      let one = sound_effect me x s sound deployed (room_before t (after_effects rest t) grown end) is in
      let first = said_more s.next_activity (after_effects rest t).next_activity (fires_of_effect x s) (le s.next_activity t.next_activity (after_effects rest t).next_activity (grown_effect x s).activity grown.activity) (said_effect me x s sound words is) in
      rw is (all_append (IsSaid (after_effects rest t).next_activity) (fires_of_effect x s) (fires_of_effects rest t) first
      (said_applying me xs t one (subst IsDeployed (sym (same_effect x s).0) deployed) (subst AreWords (sym (same_effect x s).0) words) end))
]
  where
    le : (n m k : ℕ) → n ≤ m → m ≤ k → n ≤ k
    le n m k one two = omega (arith, one, two)

-- closing

said_nulls : (all : List ℕ) (s : State) → IsSound s → IsDeployed s.deployment → HasRoom (close_nulls all s) → AllByRecursion (IsSaid (close_nulls all s).next_activity) (fires_of_nulls all s)
said_nulls [] s sound deployed room = tt
said_nulls (a ∷ rest) s sound deployed room =
    let t = close_null a s in
    let end = close_nulls rest t in
    let grown = grown_close_nulls rest t in
    let one = sound_close_null a s sound deployed (room_before t end grown room) in
    all_append (IsSaid end.next_activity) (fires_of_null a s) (fires_of_nulls rest t)
    (said_more s.next_activity end.next_activity (fires_of_null a s) (le s.next_activity t.next_activity end.next_activity (grown_close_null a s).activity grown.activity) (said_null (is_idle_at s a) refl))
    (said_nulls rest t one (subst IsDeployed (sym (same_close_null a s).0) deployed) room)
  where
    le : (n m k : ℕ) → n ≤ m → m ≤ k → n ≤ k
    le n m k one two = omega (arith, one, two)

    said_null : (b : Bool) → is_idle_at s a ≡ b → AllByRecursion (IsSaid s.next_activity) (if is_idle_at s a then fires_of_ended s a else [])
    said_null true idle = rw idle ((there_is_below s a sound (passes_there (is_idle s) (activity_at s.activities a) idle), end_word), tt)
    said_null false used = rw used tt

pub said_closing : (s : State) → IsSound s → IsDeployed s.deployment → HasRoom (closing s) → AllByRecursion (IsSaid (closing s).next_activity) (fires_of_closing s)
said_closing s sound deployed room =
    let loose = without_loose s in
    let stopped = without_stopped loose in
    let one = sound_without_loose s sound in
    let two = sound_close_services 0 loose.services loose one (and_parts (length loose.services == length loose.deployment.services) (are_services_from loose.activities 0 loose.services) one.services).1 in
    said_nulls (activity_numbers stopped) stopped two (subst IsDeployed (sym (same_close_services 0 loose.services loose).0) (subst IsDeployed (sym (same_close_roots (roots s.entities) s).0) deployed)) room
