-- What is read of the state: it may want an answer, or be one key too many.
use Rattle.std.proofs.Common.{◌≡◌, ◌+◌, true, false, Bool, ℕ, List, [], ◌∷◌, ◌++◌, length, Option, Some, None, refl}
use native.Mathlib.Omega.{arith}
use Rattle.std.proofs.lemmas.Bool.{ltb-true}
use Rattle.std.proofs.lemmas.List.{length-append}
use Rattle.std.specs.Prelude.{◌||◌, nat_lt, cond}
use Rattle.std.specs.List.{list_any}
use Rattle.slee_value.specs.declared.kind.Kind.{Kind}
use Rattle.slee_value.specs.declared.kind.Kind.TheVariants as k
use Rattle.slee_effect.specs.declared.reference.Ref.{Ref}
use Rattle.slee_effect.specs.declared.effect.Effect.{Effect}
use Rattle.slee_effect.specs.declared.value.Val.{Val}
use Rattle.script_types.specs.Scopes.{Scope}
use Rattle.script_meaning.specs.declared.key.Key.{Key}
use Rattle.script_meaning.specs.declared.key.Key.TheVariants as keys
use Rattle.script_meaning.specs.declared.seen.Seen.{Seen}
use Rattle.script_meaning.specs.declared.seen.AcSeen.{AcSeen}
use Rattle.script_meaning.specs.declared.outcome.FailKind.TheVariants as f
use Rattle.script_meaning.specs.Seeing.{same_key}
use Rattle.script_meaning.specs.Answers.{is_of, fit, initial, held_in}
use Rattle.script_meaning.specs.Overlay.{overlay, entities_by, activities_by, field_after, attr_after}
use Rattle.script_meaning.specs.Running.{Setting, State, Ending, Gave, Run, then_run, give, break, observe, answered, look, effects_of, key_limit}
use Rattle.script_meaning.specs.Observing.{field, attribute, there, used, state_of}
use Rattle.script_meaning.specs.Observing as read
use Rattle.script_laws.specs.Fitting.{Safe, Is, Keeps, Sound}
use Rattle.script_laws.proofs.SafeRuns.{safe_then, safe_cond}

key_fits : (m : Setting) (key : Key) (scope : Scope) (st : State) (b : Bool) → nat_lt (length m.keys + length st.keys) key_limit ≡ b → Sound m scope st →
    (let new : Ending (Unit {0}) = Gave tt (record st { keys = st.keys ++ key ∷ [] }) in
    let full : Ending (Unit {0}) = break f.Observed st in
    Safe m (Keeps m scope) (cond b new full))
key_fits m key scope st true h fits = (fits.0, (fits.1.0, fits.1.1, omega (arith, length-append st.keys (key ∷ []), ltb-true (length m.keys + length st.keys) key_limit h)))
key_fits m key scope st false h fits = fits.1

pub observe_safe : (m : Setting) (key : Key) (scope : Scope) (st : State) → Sound m scope st → Safe m (Keeps m scope) (observe m key st)
unfolding observe
observe_safe m key scope st fits =
    let new : Ending (Unit {0}) = Gave tt (record st { keys = st.keys ++ key ∷ [] }) in
    let full : Ending (Unit {0}) = break f.Observed st in
    safe_cond {A = Unit {0}} m (Keeps m scope) (list_any (same_key key) m.keys || list_any (same_key key) st.keys) (Gave tt st) (cond (nat_lt (length m.keys + length st.keys) key_limit) new full) fits
    (key_fits m key scope st (nat_lt (length m.keys + length st.keys) key_limit) refl fits)

answered_safe : (m : Setting) (o : Option Seen) (key : Key) (scope : Scope) (st : State) → m.answers key ≡ o → Sound m scope st → Safe m (Keeps m scope) (answered o key st)
answered_safe m None key scope st e fits = e
answered_safe m (Some seen) key scope st e fits = fits

pub look_safe : (m : Setting) (key : Option Key) (scope : Scope) (st : State) → Sound m scope st → Safe m (Keeps m scope) (look m key st)
look_safe m None scope st fits = fits
look_safe m (Some key) scope st fits = safe_then m (Keeps m scope) (Keeps m scope) (observe m key st) (λ _. answered (m.answers key) key) (observe_safe m key scope st fits) (λ _ new kept. answered_safe m (m.answers key) key scope new refl kept)

-- what is made of an answer and of the effects so far
abbrev pub reads : {A : Type 0} → Setting → Option Key → (Option Seen → List Effect → A) → Run A
reads m key g st = then_run (look m key st) (λ seen new. then_run (effects_of m new) (λ effects. give (g seen effects)))

pub reads_safe : {A : Type 0} (P : A → Type 0) (m : Setting) (key : Option Key) (g : Option Seen → List Effect → A) (scope : Scope) (st : State) → ((seen : Option Seen) (effects : List Effect) → P (g seen effects)) → Sound m scope st → Safe m (λ x new. P x × Sound m scope new) (reads m key g st)
reads_safe P m key g scope st h fits = safe_then m (Keeps m scope) (λ x new. P x × Sound m scope new) (look m key st) (λ seen new. then_run (effects_of m new) (λ effects. give (g seen effects))) (look_safe m key scope st fits) (λ seen new kept. (h seen (m.effects ++ new.effects), kept))

pub initial_is : (q : Kind) → is_of q (initial q) ≡ true
initial_is k.Int = refl
initial_is k.Text = refl
initial_is k.Bool = refl
initial_is k.Activity = refl
initial_is k.Timer = refl

fit_by : (b : Bool) (q : Kind) (x : Val) → is_of q x ≡ b → is_of q (cond b x (initial q)) ≡ true
fit_by true q x h = h
fit_by false q x h = initial_is q

-- what is read for a type is of that type
pub fit_is : (q : Kind) (x : Val) → is_of q (fit q x) ≡ true
fit_is q x = fit_by (is_of q x) q x refl

pub field_safe : (m : Setting) (name : List ℕ) (q : Kind) (scope : Scope) (st : State) → Sound m scope st → Safe m (Is m q scope) (field m name q st)
field_safe m name q scope st fits = reads_safe (λ x. is_of q x ≡ true) m _ (λ seen effects. fit q (overlay entities_by (field_after m.me name) effects (held_in q seen))) scope st (λ seen effects. fit_is q _) fits

pub attribute_safe : (m : Setting) (key : List ℕ) (q : Kind) (a : Ref) (scope : Scope) (st : State) → Sound m scope st → Safe m (Is m q scope) (attribute m key q a st)
attribute_safe m key q a scope st fits = reads_safe (λ x. is_of q x ≡ true) m _ (λ seen effects. fit q (overlay activities_by (attr_after a key) effects (held_in q seen))) scope st (λ seen effects. fit_is q _) fits

there_safe : (given : Setting) (o : Option AcSeen) (scope : Scope) (st : State) → Sound given scope st → Safe given (Keeps given scope) (there o st)
there_safe given None scope st fits = fits.1
there_safe given (Some seen) scope st fits = fits

-- each thing that is read leaves the variables
pub now_safe : (m : Setting) → (scope : Scope) (st : State) → Sound m scope st → Safe m (Keeps m scope) (read.now m st)
now_safe m scope st fits = safe_then m (Keeps m scope) (Keeps m scope) (look m (Some keys.Now) st) _ (look_safe m (Some keys.Now) scope st fits) (λ seen new kept. kept)

pub state_safe : (m : Setting) → (a : Ref) → (scope : Scope) (st : State) → Sound m scope st → Safe m (Keeps m scope) (read.state_of m a st)
state_safe m a scope st fits = safe_then m (Keeps m scope) (Keeps m scope) (look m (read.key_of (λ n. keys.AcState (record { 0 = n })) a) st) _ (look_safe m (read.key_of (λ n. keys.AcState (record { 0 = n })) a) scope st fits) (λ seen new kept. kept)

pub attached_safe : (m : Setting) → (a : Ref) → (scope : Scope) (st : State) → Sound m scope st → Safe m (Keeps m scope) (read.attached m a st)
attached_safe m a scope st fits = safe_then m (Keeps m scope) (Keeps m scope) (look m (read.key_of_two (λ e n. keys.Attached (record { 0 = e }) (record { 0 = n })) m.me a) st) _ (look_safe m (read.key_of_two (λ e n. keys.Attached (record { 0 = e }) (record { 0 = n })) m.me a) scope st fits) (λ seen new kept. kept)

pub masks_safe : (m : Setting) → (a : Ref) → (scope : Scope) (st : State) → Sound m scope st → Safe m (Keeps m scope) (read.masks m a st)
masks_safe m a scope st fits = safe_then m (Keeps m scope) (Keeps m scope) (look m (read.key_of_two (λ e n. keys.Mask (record { 0 = e }) (record { 0 = n })) m.me a) st) _ (look_safe m (read.key_of_two (λ e n. keys.Mask (record { 0 = e }) (record { 0 = n })) m.me a) scope st fits) (λ seen new kept. kept)

pub named_safe : (m : Setting) → (name : List ℕ) → (scope : Scope) (st : State) → Sound m scope st → Safe m (Keeps m scope) (read.named m name st)
named_safe m name scope st fits = safe_then m (Keeps m scope) (Keeps m scope) (look m (Some (keys.Named name)) st) _ (look_safe m (Some (keys.Named name)) scope st fits) (λ seen new kept. kept)

pub timer_safe : (m : Setting) → (t : Ref) → (scope : Scope) (st : State) → Sound m scope st → Safe m (Keeps m scope) (read.timer m t st)
timer_safe m t scope st fits = safe_then m (Keeps m scope) (Keeps m scope) (look m (read.key_of (λ n. keys.Timer (record { 0 = n })) t) st) _ (look_safe m (read.key_of (λ n. keys.Timer (record { 0 = n })) t) scope st fits) (λ seen new kept. kept)

pub children_safe : (m : Setting) → (relation : List ℕ) → (scope : Scope) (st : State) → Sound m scope st → Safe m (Keeps m scope) (read.children m relation st)
children_safe m relation scope st fits = safe_then m (Keeps m scope) (Keeps m scope) (look m (read.key_of (λ n. keys.Children (record { 0 = n }) relation) m.me) st) _ (look_safe m (read.key_of (λ n. keys.Children (record { 0 = n }) relation) m.me) scope st fits) (λ seen new kept. kept)

pub activities_safe : (m : Setting) → (scope : Scope) (st : State) → Sound m scope st → Safe m (Keeps m scope) (read.activities m st)
activities_safe m scope st fits = safe_then m (Keeps m scope) (Keeps m scope) (look m (read.key_of (λ n. keys.Activities (record { 0 = n })) m.me) st) _ (look_safe m (read.key_of (λ n. keys.Activities (record { 0 = n })) m.me) scope st fits) (λ seen new kept. kept)

pub priority_safe : (m : Setting) → (e : Ref) → (scope : Scope) (st : State) → Sound m scope st → Safe m (Keeps m scope) (read.priority m e st)
priority_safe m e scope st fits = safe_then m (Keeps m scope) (Keeps m scope) (look m (read.key_of (λ n. keys.Priority (record { 0 = n })) e) st) _ (look_safe m (read.key_of (λ n. keys.Priority (record { 0 = n })) e) scope st fits) (λ seen new kept. kept)

pub used_safe : (m : Setting) (a : Ref) (scope : Scope) (st : State) → Sound m scope st → Safe m (Keeps m scope) (used m a st)
used_safe m a scope st fits = safe_then m (Keeps m scope) (Keeps m scope) (state_of m a st) there (state_safe m a scope st fits) (λ o new kept. there_safe m o scope new kept)
