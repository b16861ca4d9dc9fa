-- Parts of a run one behind another, and checks one behind another.
use Rattle.std.proofs.Common.{◌≡◌, true, false, Bool, ℕ, zero, suc, List, Option, Some, None, Ok, Err, refl, ap}
use Rattle.std.specs.Prelude.{ℤ, cond}
use Rattle.slee_value.specs.declared.kind.Kind.TheVariants as k
use Rattle.slee_value.specs.declared.value.Value.TheVariants as v
use Rattle.slee_effect.specs.declared.reference.Ref.{Ref}
use Rattle.slee_effect.specs.declared.value.Val.{Val}
use Rattle.slee_effect.specs.declared.value.Val.TheVariants.{Plain, NewActivity, NewTimer}
use Rattle.script_types.specs.declared.misuse.CheckBad.{CheckBad}
use Rattle.script_types.specs.TypingResult.{Checked}
use Rattle.script_types.specs.TypingResult as checked
use Rattle.script_meaning.specs.declared.outcome.FailKind.{FailKind}
use Rattle.script_meaning.specs.Answers.{is_of}
use Rattle.script_meaning.specs.Running.{Setting, State, Ending, Gave, Broke, Needs, Stays, Run, then_run, tested, tick_at, ticked}
use Rattle.script_meaning.specs.Values.{with_int, with_text, with_flag, with_activity, with_timer}
use Rattle.script_laws.specs.Fitting.{Safe, IsWithin}

pub safe_then : {A B : Type 0} (given : Setting) (P : A → State → Type 0) (Q : B → State → Type 0) (m : Ending A) (g : A → Run B) → Safe given P m → ((x : A) (st : State) → P x st → Safe given Q (g x st)) → Safe given Q (then_run m g)
safe_then given P Q (Gave x st) g h go = go x st h
safe_then given P Q (Broke kind text st) g h go = h
safe_then given P Q (Needs key) g h go = h
safe_then given P Q Stays g h go = absurd h

pub safe_cond : {A : Type 0} (given : Setting) (Q : A → State → Type 0) (b : Bool) (x y : Ending A) → Safe given Q x → Safe given Q y → Safe given Q (cond b x y)
safe_cond given Q true x y h g = h
safe_cond given Q false x y h g = g

safe_tick_at : {A : Type 0} (given : Setting) (Q : A → State → Type 0) (m : Run A) (n : ℕ) (st : State) → IsWithin given st → ((left : ℕ) → Safe given Q (m (record st { left = left }))) → Safe given Q (then_run (tick_at n st) (λ _. m))
safe_tick_at given Q m zero st within h = within
safe_tick_at given Q m (suc n) st within h = h n

-- a unit is spent, or none is left
pub safe_tick : {A : Type 0} (given : Setting) (Q : A → State → Type 0) (m : Run A) (st : State) → IsWithin given st → ((left : ℕ) → Safe given Q (m (record st { left = left }))) → Safe given Q (ticked m st)
safe_tick given Q m st within h = safe_tick_at given Q m st.left st within h

-- a test of a run, behind which nothing has changed
pub safe_tested : {A : Type 0} (given : Setting) (Q : A → State → Type 0) (kind : FailKind) (b : Bool) (m : Run A) (st : State) → IsWithin given st → Safe given Q (m st) → Safe given Q (then_run (tested kind b st) (λ _. m))
safe_tested given Q kind true m st within h = h
safe_tested given Q kind false m st within h = within

-- values of a known type
pub with_int_safe : {A : Type 0} (given : Setting) (Q : A → State → Type 0) (x : Val) (g : ℤ → Run A) (st : State) → is_of k.Int x ≡ true → ((n : ℤ) → Safe given Q (g n st)) → Safe given Q (with_int x g st)
with_int_safe given Q (Plain (v.Int n)) g st h go = go n
with_int_safe given Q _ g st h go = cc

pub with_text_safe : {A : Type 0} (given : Setting) (Q : A → State → Type 0) (x : Val) (g : List ℕ → Run A) (st : State) → is_of k.Text x ≡ true → ((t : List ℕ) → Safe given Q (g t st)) → Safe given Q (with_text x g st)
with_text_safe given Q (Plain (v.Text t)) g st h go = go t
with_text_safe given Q _ g st h go = cc

pub with_flag_safe : {A : Type 0} (given : Setting) (Q : A → State → Type 0) (x : Val) (g : Bool → Run A) (st : State) → is_of k.Bool x ≡ true → ((b : Bool) → Safe given Q (g b st)) → Safe given Q (with_flag x g st)
with_flag_safe given Q (Plain (v.Bool b)) g st h go = go b
with_flag_safe given Q _ g st h go = cc

pub with_activity_safe : {A : Type 0} (given : Setting) (Q : A → State → Type 0) (x : Val) (g : Ref → Run A) (st : State) → is_of k.Activity x ≡ true → ((a : Ref) → Safe given Q (g a st)) → Safe given Q (with_activity x g st)
with_activity_safe given Q (Plain (v.Activity a)) g st h go = go _
with_activity_safe given Q (NewActivity n) g st h go = go _
with_activity_safe given Q _ g st h go = cc

pub with_timer_safe : {A : Type 0} (given : Setting) (Q : A → State → Type 0) (x : Val) (g : Ref → Run A) (st : State) → is_of k.Timer x ≡ true → ((t : Ref) → Safe given Q (g t st)) → Safe given Q (with_timer x g st)
with_timer_safe given Q (Plain (v.Timer t)) g st h go = go _
with_timer_safe given Q (NewTimer n) g st h go = go _
with_timer_safe given Q _ g st h go = cc

-- a check that finds no fault finds none in its first part
pub bind_ok : {A B : Type 0} (r : Checked A) (g : A → Checked B) (y : B) → (checked.◌>>=◌ r g) ≡ Ok y → (x : A) × (r ≡ Ok x) × (g x ≡ Ok y)
bind_ok (Ok x) g y h = (x, refl, h)
bind_ok (Err fault) g y h = cc

pub ok_same : {A : Type 0} (x y : A) → (let r : Checked A = Ok x in r) ≡ Ok y → x ≡ y
ok_same x y h = cc

pub tested_true : (kind : CheckBad) (at : ℕ) (b : Bool) (u : Unit {0}) → checked.tested kind at b ≡ Ok u → b ≡ true
tested_true kind at true u h = refl
tested_true kind at false u h = cc

pub known_some : {A : Type 0} (at : ℕ) (o : Option A) (x : A) → checked.known at o ≡ Ok x → o ≡ Some x
known_some at None x h = cc
known_some at (Some y) x h = ap Some (ok_same y x h)
