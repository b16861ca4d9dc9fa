-- Parts of a run that make no effect, and give what refers to what is known.
use Rattle.std.proofs.Common.{◌≡◌, ◌+◌, ◌||◌, Bool, true, false, cond, ℕ, zero, suc, ℤ, List, [], ◌∷◌, ◌++◌, length, Option, Some, None, refl, sym, subst}
use Rattle.std.specs.Prelude.{nat_lt}
use Rattle.std.specs.List.{AllByRecursion, list_any}
use Rattle.slee_value.specs.declared.value.Value.TheVariants as v
use Rattle.slee_effect.specs.declared.reference.Ref.{Ref}
use Rattle.slee_effect.specs.declared.reference.Ref.TheVariants.{Known, Fresh}
use Rattle.slee_effect.specs.declared.value.Val.{Val}
use Rattle.slee_effect.specs.declared.value.Val.TheVariants.{Plain, NewActivity, NewTimer}
use Rattle.slee_effect.specs.declared.effect.Effect.{Effect}
use Rattle.script_meaning.specs.declared.key.Key.{Key}
use Rattle.script_meaning.specs.declared.seen.Seen.{Seen}
use Rattle.script_meaning.specs.declared.outcome.FailKind.{FailKind}
use Rattle.script_meaning.specs.declared.outcome.FailKind.TheVariants as f
use Rattle.script_meaning.specs.Seeing.{same_key}
use Rattle.script_meaning.specs.Running.{Setting, Variable, Holds, Child, State, Ending, Gave, Broke, Needs, Stays, Run, then_run, give, break, tested, tick_at, ticked, observe, answered, look, effects_of, key_limit}
use Rattle.script_meaning.specs.Values.{with_int, with_text, with_flag, with_activity, with_timer}
use Rattle.script_laws.specs.References.{Reference, ToEntity, ToActivity, ToTimer, IsKnown, Refer}
use Rattle.script_laws.specs.Told.{in_answer, in_values}
use Rattle.script_laws.proofs.KnownOverlaid.{ValueIs}

-- What stays the same while a script runs is known: its activity, what the fields of its event refer to, `none`, and what answers tell of.
pub record Told (known : Reference → Type 0) (m : Setting) : Type 0 where
  pub activity : known (ToActivity (Known m.arguments.activity.0))
  pub fields : AllByRecursion known (in_values m.arguments.fields)
  pub no_activity : known (ToActivity (Known 0))
  pub no_timer : known (ToTimer (Known 0))
  pub answers : (key : Key) → AllByRecursion known (in_answer key (m.answers key))

-- whatever is given
abbrev pub Any : {A : Type 0} → A → Type 0
Any x = Unit {0}

-- what a variable refers to is known
abbrev pub VariableIs : (Reference → Type 0) → List Effect → Variable → Type 0
VariableIs known es (Holds x) = ValueIs known es x
VariableIs known es (Child e) = IsKnown known es (ToEntity e)

-- A run that came to these effects, those before its own first: they refer to what is known, and so do its entity and its variables.
abbrev pub Sound : (Reference → Type 0) → Setting → List Effect → State → Type 0
Sound known m es st = (m.effects ++ st.effects ≡ es) × Refer known es × IsKnown known es (ToEntity m.me) × AllByRecursion (VariableIs known es) st.variables

-- a part that makes no effect gives something of which this is so, or fails
abbrev pub Gives : {A : Type 0} → (Reference → Type 0) → Setting → List Effect → (A → Type 0) → Ending A → Type 0
Gives known m es P (Gave x st) = P x × Sound known m es st
Gives known m es P (Broke kind text st) = Refer known (m.effects ++ st.effects)
Gives known m es P (Needs key) = Unit {0}
Gives known m es P Stays = Unit {0}

-- what the answer to a key tells of is known; what has no key has no answer
abbrev pub AnswerIs : (Reference → Type 0) → Option Key → Option Seen → Type 0
AnswerIs known None seen = seen ≡ None
AnswerIs known (Some key) seen = AllByRecursion known (in_answer key seen)

-- what is made of an answer and of the effects so far
abbrev pub reads : {A : Type 0} → Setting → Option Key → (Option Seen → List Effect → A) → Run A
reads m key g st = then_run (look m key st) (λ seen new. then_run (effects_of m new) (λ effects. give (g seen effects)))

module _ (known : Reference → Type 0) (m : Setting) (es : List Effect) where
  pub broke : (st : State) → Sound known m es st → Refer known (m.effects ++ st.effects)
  broke st sound = subst (Refer known) (sym sound.0) sound.1

  pub gives_then : {A B : Type 0} (P : A → Type 0) (Q : B → Type 0) (r : Ending A) (g : A → Run B) → Gives known m es P r → ((x : A) (st : State) → P x → Sound known m es st → Gives known m es Q (g x st)) → Gives known m es Q (then_run r g)
  gives_then P Q (Gave x st) g h go = go x st h.0 h.1
  gives_then P Q (Broke kind text st) g h go = h
  gives_then P Q (Needs key) g h go = tt
  gives_then P Q Stays g h go = tt

  pub gives_cond : {A : Type 0} (P : A → Type 0) (b : Bool) (x y : Run A) (st : State) → Gives known m es P (x st) → Gives known m es P (y st) → Gives known m es P (cond b x y st)
  gives_cond P true x y st h g = h
  gives_cond P false x y st h g = g

  gives_either : {A : Type 0} (P : A → Type 0) (b : Bool) (x y : Ending A) → Gives known m es P x → Gives known m es P y → Gives known m es P (cond b x y)
  gives_either P true x y h g = h
  gives_either P false x y h g = g

  tick_gives : {A : Type 0} (P : A → Type 0) (x : Run A) (n : ℕ) (st : State) → Sound known m es st → ((left : ℕ) → Gives known m es P (x (record st { left = left }))) → Gives known m es P (then_run (tick_at n st) (λ _. x))
  tick_gives P x zero st sound h = broke st sound
  tick_gives P x (suc n) st sound h = h n

  pub gives_tick : {A : Type 0} (P : A → Type 0) (x : Run A) (st : State) → Sound known m es st → ((st : State) → Sound known m es st → Gives known m es P (x st)) → Gives known m es P (ticked x st)
  gives_tick P x st sound h = tick_gives P x st.left st sound (λ left. h (record st { left = left }) sound)

  pub gives_tested : {A : Type 0} (P : A → Type 0) (kind : FailKind) (b : Bool) (x : Run A) (st : State) → Sound known m es st → Gives known m es P (x st) → Gives known m es P (then_run (tested kind b st) (λ _. x))
  gives_tested P kind true x st sound h = h
  gives_tested P kind false x st sound h = broke st sound

  pub gives_int : {A : Type 0} (P : A → Type 0) (x : Val) (g : ℤ → Run A) (st : State) → ((n : ℤ) → Gives known m es P (g n st)) → Gives known m es P (with_int x g st)
  gives_int P (Plain (v.Int n)) g st go = go n
  gives_int P _ g st go = tt

  pub gives_text : {A : Type 0} (P : A → Type 0) (x : Val) (g : List ℕ → Run A) (st : State) → ((n : List ℕ) → Gives known m es P (g n st)) → Gives known m es P (with_text x g st)
  gives_text P (Plain (v.Text n)) g st go = go n
  gives_text P _ g st go = tt

  pub gives_flag : {A : Type 0} (P : A → Type 0) (x : Val) (g : Bool → Run A) (st : State) → ((n : Bool) → Gives known m es P (g n st)) → Gives known m es P (with_flag x g st)
  gives_flag P (Plain (v.Bool n)) g st go = go n
  gives_flag P _ g st go = tt

  pub gives_activity : {A : Type 0} (P : A → Type 0) (x : Val) (g : Ref → Run A) (st : State) → ValueIs known es x → ((r : Ref) → IsKnown known es (ToActivity r) → Gives known m es P (g r st)) → Gives known m es P (with_activity x g st)
  gives_activity P (Plain (v.Activity n)) g st h go = go (Known n.0) h.0
  gives_activity P (NewActivity n) g st h go = go (Fresh n) h.0
  gives_activity P _ g st h go = tt

  pub gives_timer : {A : Type 0} (P : A → Type 0) (x : Val) (g : Ref → Run A) (st : State) → ValueIs known es x → ((r : Ref) → IsKnown known es (ToTimer r) → Gives known m es P (g r st)) → Gives known m es P (with_timer x g st)
  gives_timer P (Plain (v.Timer n)) g st h go = go (Known n.0) h.0
  gives_timer P (NewTimer n) g st h go = go (Fresh n) h.0
  gives_timer P _ g st h go = tt

  observe_gives : (key : Key) (st : State) → Sound known m es st → Gives known m es (Any {A = Unit {0}}) (observe m key st)
  unfolding observe
  observe_gives key st sound =
      let new : Ending (Unit {0}) = Gave tt (record st { keys = st.keys ++ key ∷ [] }) in
      let full : Ending (Unit {0}) = break f.Observed st in
      gives_either {A = Unit {0}} Any (list_any (same_key key) m.keys || list_any (same_key key) st.keys) (Gave tt st) (cond (nat_lt (length m.keys + length st.keys) key_limit) new full) (tt, sound)
      (gives_either {A = Unit {0}} Any (nat_lt (length m.keys + length st.keys) key_limit) new full (tt, sound) (broke st sound))

  answered_gives : (P : Option Seen → Type 0) (o : Option Seen) (key : Key) (st : State) → P o → Sound known m es st → Gives known m es P (answered o key st)
  answered_gives P None key st h sound = tt
  answered_gives P (Some seen) key st h sound = (h, sound)

  pub look_gives : Told known m → (key : Option Key) (st : State) → Sound known m es st → Gives known m es (AnswerIs known key) (look m key st)
  look_gives told None st sound = (refl, sound)
  look_gives told (Some key) st sound = gives_then Any (AnswerIs known (Some key)) (observe m key st) (λ _. answered (m.answers key) key) (observe_gives key st sound) (λ _ new _ kept. answered_gives (AnswerIs known (Some key)) (m.answers key) key new (told.answers key) kept)

  pub reads_gives : {A : Type 0} (P : A → Type 0) (key : Option Key) (g : Option Seen → List Effect → A) (st : State) → Told known m → Sound known m es st → ((seen : Option Seen) → AnswerIs known key seen → P (g seen es)) → Gives known m es P (reads m key g st)
  reads_gives P key g st told sound h = gives_then (AnswerIs known key) P (look m key st) (λ seen new. then_run (effects_of m new) (λ effects. give (g seen effects))) (look_gives told key st sound) (λ seen new is kept. (subst (λ z. P (g seen z)) (sym kept.0) (h seen is), kept))
