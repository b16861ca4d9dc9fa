-- What a run tested before an effect is so in the state in which the effect is done.
use Rattle.router_laws_effects.specs.Runs.{EndsOld, IsAmidst, IsOld, activity_seen}
use Rattle.std.proofs.Common.{◌≡◌, ℕ, ◌+◌, ◌<◌, ◌==◌, Bool, true, false, ◌||◌, not, List, [], ◌∷◌, ◌++◌, length, refl, sym, ◌∙◌, ap, subst, inl, inr, arith, nat_lt, Option, Some, None}
use Rattle.std.specs.Prelude.{option_map, option_and_then}
use Rattle.std.specs.List.{AllByRecursion, list_any}
use Rattle.std.specs.Option.{option_map_or}
use Rattle.std.proofs.lemmas.Bool.{cases_Bool}
use Rattle.std.proofs.lemmas.Bool.Decides.{nat_tests}
use Rattle.slee_effect.specs.Resolving.{resolved_ref}
use Rattle.slee_effect.specs.declared.reference.Ref.{Ref}
use Rattle.slee_effect.specs.declared.reference.Ref.TheVariants.{Known, Fresh}
use Rattle.script_meaning.specs.Answers.{activity_in}
use Rattle.script_meaning.specs.Observing as read
use Rattle.script_meaning.specs.Overlay.{activities_by, activity_after, overlay}
use Rattle.script_meaning.specs.Running.{Setting, Ending, Gave, Broke, Needs, Stays, Run, then_run, observe, answered, look, tested, give, break, effects_of, key_limit}
use Rattle.script_meaning.specs.Running as running
use Rattle.script_meaning.specs.Seeing.{same_key}
use Rattle.script_meaning.specs.declared.key.Key.{Key}
use Rattle.script_meaning.specs.declared.key.Key.TheVariants as keys
use Rattle.script_meaning.specs.declared.outcome.FailKind.{FailKind}
use Rattle.script_meaning.specs.declared.outcome.FailKind.TheVariants as failures
use Rattle.script_meaning.specs.declared.seen.AcSeen.{AcSeen}
use Rattle.script_meaning.specs.declared.seen.Seen.{Seen}
use Rattle.router_laws_effects.proofs.OwnWrites.{activities_read}
use Rattle.router_state.specs.State.{State}
use Rattle.router_state.specs.Contexts.{activity_at, is_active}
use Rattle.router_state.specs.Look.{seen_of}
use Rattle.router_state.specs.declared.rows.Activity.{Activity}
use Rattle.router_steps.specs.Effects.{after_effects, number_in, next_in, resolved_in}
use Rattle.router_steps.specs.Scripts.{answers_in}

-- parts of a run that gave something

pub gave_parts : {A : Type 0} (x y : A) (st su : running.State) → Gave x st ≡ Gave y su → (x ≡ y) × (st ≡ su)
gave_parts x y st su is = (cc, cc)

pub then_gave : {A B : Type 0} (r : Ending A) (g : A → Run B) (y : B) (su : running.State) → then_run r g ≡ Gave y su → (x : A) × (st : running.State) × (r ≡ Gave x st) × (g x st ≡ Gave y su)
then_gave (Gave x st) g y su is = (x, st, refl, is)
then_gave (Broke kind text st) g y su is = absurd (cc)
then_gave (Needs key) g y su is = absurd (cc)
then_gave Stays g y su is = absurd (cc)

pub tested_gave : (kind : FailKind) (b : Bool) (x : Unit {0}) (st su : running.State) → tested kind b st ≡ Gave x su → (b ≡ true) × (su ≡ st)
tested_gave kind true x st su is = (refl, sym (gave_parts tt x st su is).1)
tested_gave kind false x st su is = absurd (cc)

answered_gave : (o : Option Seen) (key : Key) (x : Option Seen) (st su : running.State) → answered o key st ≡ Gave x su → (x ≡ o) × (su ≡ st)
answered_gave None key x st su is = absurd (cc)
answered_gave (Some seen) key x st su is = let same = gave_parts (Some seen) x st su is in (sym same.0, sym same.1)

observe_gave : (s : Setting) (key : Key) (x : Unit {0}) (st su : running.State) → observe s key st ≡ Gave x su → su.effects ≡ st.effects
unfolding observe
observe_gave s key x st su is = elim (cases_Bool (list_any (same_key key) s.keys || list_any (same_key key) st.keys)) [
  | inl known ↦ ap (λ (w : running.State). w.effects) (sym (gave_parts tt x st su (rw known at is)).1)
  | inr new ↦ elim (cases_Bool (nat_lt (length s.keys + length st.keys) key_limit)) [
    | inl room ↦ ap (λ (w : running.State). w.effects) (sym (gave_parts tt x (record st { keys = st.keys ++ key ∷ [] }) su (rw (new, room) at is)).1)
    | inr full ↦ (let broke = rw (new, full) at is in absurd (cc))
  ]
]

pub look_gave : (s : Setting) (key : Option Key) (x : Option Seen) (st su : running.State) → look s key st ≡ Gave x su → (x ≡ option_and_then s.answers key) × (su.effects ≡ st.effects)
look_gave s None x st su is = let same = gave_parts None x st su is in (sym same.0, ap (λ (w : running.State). w.effects) (sym same.1))
look_gave s (Some key) x st su is =
    let first = then_gave (observe s key st) (λ _. answered (s.answers key) key) x su is in
    let second = answered_gave (s.answers key) key x first.1 su first.3 in
    (second.0, ap (λ (w : running.State). w.effects) second.1 ∙ observe_gave s key first.0 st first.1 first.2)

-- what is seen of an activity in a run
abbrev pub seen_in_run : Setting → running.State → Ref → Option AcSeen
seen_in_run s st a = overlay activities_by (activity_after a) (s.effects ++ st.effects) (activity_in (option_and_then s.answers (read.key_of (λ n. keys.AcState (record { 0 = n })) a)))

state_gave : (s : Setting) (a : Ref) (x : Option AcSeen) (st su : running.State) → read.state_of s a st ≡ Gave x su → (x ≡ seen_in_run s st a) × (su.effects ≡ st.effects)
state_gave s a x st su is =
    let key = read.key_of (λ n. keys.AcState (record { 0 = n })) a in
    let first = then_gave (look s key st) (λ seen. λ (sv : running.State). then_run (effects_of s sv) (λ es. give (overlay activities_by (activity_after a) es (activity_in seen)))) x su is in
    let looked = look_gave s key first.0 st first.1 first.2 in
    let same = gave_parts (overlay activities_by (activity_after a) (s.effects ++ first.1.effects) (activity_in first.0)) x first.1 su first.3 in
    (sym same.0 ∙ rw (looked.0, looked.1) refl, ap (λ (w : running.State). w.effects) (sym same.1) ∙ looked.1)

there_gave : (o : Option AcSeen) (x : AcSeen) (st su : running.State) → read.there o st ≡ Gave x su → (o ≡ Some x) × (su ≡ st)
there_gave None x st su is = absurd (cc)
there_gave (Some seen) x st su is = let same = gave_parts seen x st su is in (ap Some same.0, sym same.1)

pub used_gave : (s : Setting) (a : Ref) (x : AcSeen) (st su : running.State) → read.used s a st ≡ Gave x su → (seen_in_run s st a ≡ Some x) × (su.effects ≡ st.effects)
used_gave s a x st su is =
    let first = then_gave (read.state_of s a st) read.there x su is in
    let state = state_gave s a first.0 st first.1 first.2 in
    let there = there_gave first.0 x first.1 su first.3 in
    (sym state.0 ∙ there.0, ap (λ (w : running.State). w.effects) there.1 ∙ state.1)

pub used_active_gave : (s : Setting) (a : Ref) (x : AcSeen) (st su : running.State) → read.used_active s a st ≡ Gave x su → (seen_in_run s st a ≡ Some x) × (x.ending ≡ false) × (su.effects ≡ st.effects)
used_active_gave s a x st su is =
    let first = then_gave (read.used s a st) (λ seen. λ (sv : running.State). then_run (tested failures.Ending (not seen.ending) sv) (λ _. give seen)) x su is in
    let used = used_gave s a first.0 st first.1 first.2 in
    let second = then_gave (tested failures.Ending (not first.0.ending) first.1) (λ _. give first.0) x su first.3 in
    let test = tested_gave failures.Ending (not first.0.ending) second.0 first.1 second.1 second.2 in
    let same = gave_parts first.0 x second.1 su second.3 in
    (used.0 ∙ ap Some same.0, subst (λ (y : AcSeen). y.ending ≡ false) same.0 (not_true first.0.ending test.0), ap (λ (w : running.State). w.effects) (sym same.1 ∙ test.1) ∙ used.1)
  where
    not_true : (b : Bool) → not b ≡ true → b ≡ false
    not_true true is = absurd (cc)
    not_true false is = refl

-- a new activity isn't there yet
none_new : (rows : List Activity) (n a : ℕ) → AllByRecursion (λ row. row.number.0 < n) rows → activity_at rows (n + a) ≡ None
none_new [] n a below = refl
none_new (row ∷ rows) n a below = let other : (row.number.0 == (n + a)) ≡ false = apart row.number.0 n a below.0 in rw other (none_new rows n a below.1)
  where
    apart : (x n a : ℕ) → x < n → (x == (n + a)) ≡ false
    apart x n a less = grind (arith, nat_tests)

-- what the answers of a state tell of an activity is what is seen there
pub told_by_state : (s : State) (r : Ref) → AllByRecursion (λ row. row.number.0 < s.next_activity) s.activities
    → activity_in (option_and_then (answers_in s) (read.key_of (λ n. keys.AcState (record { 0 = n })) r)) ≡ activity_seen (next_in s) s r
told_by_state s (Known n) below = refl
told_by_state s (Fresh n) below = rw (none_new s.activities s.next_activity n below) refl

-- An activity that a run used as an Active one is Active where its effects so far are done.
pub active_where_used : (s : State) (m : Setting) (r : Ref) (x : AcSeen) (st su : running.State) → m.answers ≡ answers_in s → AllByRecursion (λ row. row.number.0 < s.next_activity) s.activities
    → AllByRecursion (EndsOld s.next_activity) (m.effects ++ st.effects) → IsOld s.next_activity r → read.used_active m r st ≡ Gave x su
    → is_active (after_effects (resolved_in s (m.effects ++ st.effects)) s).activities (number_in (resolved_ref s.next_activity r)) ≡ true
active_where_used s m r x st su answers below old mine used =
    let gave = used_active_gave m r x st su used in
    let base : IsAmidst (next_in s) 0 s = record { drawn = none s.next_activity; below = below } in
    let seen : activity_seen (next_in s) (after_effects (resolved_in s (m.effects ++ st.effects)) s) r ≡ Some x =
    activities_read (next_in s) 0 (m.effects ++ st.effects) s r base old mine
    ∙ ap (overlay activities_by (activity_after r) (m.effects ++ st.effects)) (sym (told_by_state s r below))
    ∙ subst (λ ask. overlay activities_by (activity_after r) (m.effects ++ st.effects) (activity_in (option_and_then ask (read.key_of (λ n. keys.AcState (record { 0 = n })) r))) ≡ Some x) answers gave.0 in
    active (activity_at (after_effects (resolved_in s (m.effects ++ st.effects)) s).activities (number_in (resolved_ref s.next_activity r))) seen gave.1
  where
    none : (n : ℕ) → n ≡ n + 0
    none n = omega arith

    active : (o : Option Activity) → option_map seen_of o ≡ Some x → x.ending ≡ false → option_map_or (λ (row : Activity). not row.ending) o false ≡ true
    active None is ending = absurd (cc)
    active (Some row) is ending = let same : row.ending ≡ false = ap (λ (y : AcSeen). y.ending) (some_same is) ∙ ending in rw same refl
      where
        some_same : {X : Type 0} {y z : X} → Some y ≡ Some z → y ≡ z
        some_same same = cc
