-- Parts of a run that make no effect and leave its variables, and what they give.
use Rattle.std.proofs.Common.{◌≡◌, ◌+◌, ◌||◌, Bool, true, false, cond, ℕ, zero, suc, ℤ, List, [], ◌∷◌, ◌++◌, length, Option, Some, None, refl, sym, subst}
use Rattle.std.specs.Prelude.{nat_lt}
use Rattle.std.specs.List.{list_any}
use Rattle.slee_value.specs.declared.value.Value.TheVariants as v
use Rattle.slee_effect.specs.declared.reference.Ref.{Ref}
use Rattle.slee_effect.specs.declared.reference.Ref.TheVariants.{Known, Fresh}
use Rattle.slee_effect.specs.declared.value.Val.{Val}
use Rattle.slee_effect.specs.declared.value.Val.TheVariants.{Plain, NewActivity, NewTimer}
use Rattle.slee_effect.specs.declared.effect.Effect.{Effect}
use Rattle.script_meaning.specs.declared.key.Key.{Key}
use Rattle.script_meaning.specs.declared.seen.Seen.{Seen}
use Rattle.script_meaning.specs.declared.outcome.FailKind.{FailKind}
use Rattle.script_meaning.specs.declared.outcome.FailKind.TheVariants as f
use Rattle.script_meaning.specs.Seeing.{same_key}
use Rattle.script_meaning.specs.Running.{Setting, Variable, State, Ending, Gave, Broke, Needs, Stays, Run, then_run, give, break, tested, tick_at, ticked, observe, answered, look, effects_of, key_limit}
use Rattle.script_meaning.specs.Values.{with_int, with_text, with_flag, with_activity, with_timer}
use Rattle.router_laws_values.proofs.Texts.{failure_text}
use Rattle.router_laws_values.specs.Spelled.{AnswerSpelled, IsSpelled, SettingSpelled}
use Rattle.router_state.specs.Fits.{is_text}

-- whatever is given
abbrev pub Any : {A : Type 0} → A → Type 0
Any x = Unit {0}

-- a run that came to these effects, with these variables
abbrev pub IsAt : Setting → List Effect → List Variable → State → Type 0
IsAt m es vs st = (m.effects ++ st.effects ≡ es) × (st.variables ≡ vs)

-- a part gives something of which this is so, and leaves effects and variables; or it gives nothing, and the text of its failure is one
abbrev pub Gives : {A : Type 0} → Setting → List Effect → List Variable → (A → Type 0) → Ending A → Type 0
Gives m es vs P (Gave x st) = P x × IsAt m es vs st
Gives m es vs P (Broke kind text st) = is_text text ≡ true
Gives m es vs P _ = Unit {0}

-- what is made of an answer and of the effects so far
abbrev pub reads : {A : Type 0} → Setting → Option Key → (Option Seen → List Effect → A) → Run A
reads m key g st = then_run (look m key st) (λ seen new. then_run (effects_of m new) (λ effects. give (g seen effects)))

module _ (m : Setting) (told : SettingSpelled m) (es : List Effect) (vs : List Variable) where
  pub gives_then : {A B : Type 0} (P : A → Type 0) (Q : B → Type 0) (r : Ending A) (g : A → Run B) → Gives m es vs P r → ((x : A) (st : State) → P x → IsAt m es vs st → Gives m es vs Q (g x st)) → Gives m es vs Q (then_run r g)
  gives_then P Q (Gave x st) g h go = go x st h.0 h.1
  gives_then P Q (Broke kind text st) g h go = h
  gives_then P Q (Needs key) g h go = tt
  gives_then P Q Stays g h go = tt

  pub gives_cond : {A : Type 0} (P : A → Type 0) (b : Bool) (x y : Run A) (st : State) → (b ≡ true → Gives m es vs P (x st)) → (b ≡ false → Gives m es vs P (y st)) → Gives m es vs P (cond b x y st)
  gives_cond P true x y st h g = h refl
  gives_cond P false x y st h g = g refl

  gives_either : {A : Type 0} (P : A → Type 0) (b : Bool) (x y : Ending A) → Gives m es vs P x → Gives m es vs P y → Gives m es vs P (cond b x y)
  gives_either P true x y h g = h
  gives_either P false x y h g = g

  tick_gives : {A : Type 0} (P : A → Type 0) (x : Run A) (n : ℕ) (st : State) → ((left : ℕ) → Gives m es vs P (x (record st { left = left }))) → Gives m es vs P (then_run (tick_at n st) (λ _. x))
  tick_gives P x zero st h = failure_text f.Budget
  tick_gives P x (suc n) st h = h n

  pub gives_tick : {A : Type 0} (P : A → Type 0) (x : Run A) (st : State) → IsAt m es vs st → ((st : State) → IsAt m es vs st → Gives m es vs P (x st)) → Gives m es vs P (ticked x st)
  gives_tick P x st here h = tick_gives P x st.left st (λ left. h (record st { left = left }) here)

  pub gives_tested : {A : Type 0} (P : A → Type 0) (kind : FailKind) (b : Bool) (x : Run A) (st : State) → Gives m es vs P (x st) → Gives m es vs P (then_run (tested kind b st) (λ _. x))
  gives_tested P kind true x st h = h
  gives_tested P kind false x st h = failure_text kind

  pub gives_int : {A : Type 0} (P : A → Type 0) (x : Val) (g : ℤ → Run A) (st : State) → IsSpelled x → ((n : ℤ) → IsSpelled (Plain (v.Int n)) → Gives m es vs P (g n st)) → Gives m es vs P (with_int x g st)
  gives_int P (Plain (v.Int n)) g st is go = go n is
  gives_int P _ g st is go = tt

  pub gives_text : {A : Type 0} (P : A → Type 0) (x : Val) (g : List ℕ → Run A) (st : State) → IsSpelled x → ((t : List ℕ) → IsSpelled (Plain (v.Text t)) → Gives m es vs P (g t st)) → Gives m es vs P (with_text x g st)
  gives_text P (Plain (v.Text t)) g st is go = go t is
  gives_text P _ g st is go = tt

  pub gives_flag : {A : Type 0} (P : A → Type 0) (x : Val) (g : Bool → Run A) (st : State) → ((b : Bool) → Gives m es vs P (g b st)) → Gives m es vs P (with_flag x g st)
  gives_flag P (Plain (v.Bool b)) g st go = go b
  gives_flag P _ g st go = tt

  pub gives_activity : {A : Type 0} (P : A → Type 0) (x : Val) (g : Ref → Run A) (st : State) → ((r : Ref) → Gives m es vs P (g r st)) → Gives m es vs P (with_activity x g st)
  gives_activity P (Plain (v.Activity n)) g st go = go (Known n.0)
  gives_activity P (NewActivity n) g st go = go (Fresh n)
  gives_activity P _ g st go = tt

  pub gives_timer : {A : Type 0} (P : A → Type 0) (x : Val) (g : Ref → Run A) (st : State) → ((r : Ref) → Gives m es vs P (g r st)) → Gives m es vs P (with_timer x g st)
  gives_timer P (Plain (v.Timer n)) g st go = go (Known n.0)
  gives_timer P (NewTimer n) g st go = go (Fresh n)
  gives_timer P _ g st go = tt

  observe_gives : (key : Key) (st : State) → IsAt m es vs st → Gives m es vs (Any {A = Unit {0}}) (observe m key st)
  unfolding observe
  observe_gives key st here =
      let new : Ending (Unit {0}) = Gave tt (record st { keys = st.keys ++ key ∷ [] }) in
      let full : Ending (Unit {0}) = break f.Observed st in
      gives_either {A = Unit {0}} Any (list_any (same_key key) m.keys || list_any (same_key key) st.keys) (Gave tt st) (cond (nat_lt (length m.keys + length st.keys) key_limit) new full) (tt, here)
      (gives_either {A = Unit {0}} Any (nat_lt (length m.keys + length st.keys) key_limit) new full (tt, here) (failure_text f.Observed))

  answered_gives : (o : Option Seen) (key : Key) (st : State) → AnswerSpelled o → IsAt m es vs st → Gives m es vs AnswerSpelled (answered o key st)
  answered_gives None key st h here = tt
  answered_gives (Some seen) key st h here = (h, here)

  pub look_gives : (key : Option Key) (st : State) → IsAt m es vs st → Gives m es vs AnswerSpelled (look m key st)
  look_gives None st here = (tt, here)
  look_gives (Some key) st here = gives_then Any AnswerSpelled (observe m key st) (λ _. answered (m.answers key) key) (observe_gives key st here) (λ _ new _ kept. answered_gives (m.answers key) key new (told.answers key) kept)

  pub reads_gives : {A : Type 0} (P : A → Type 0) (key : Option Key) (g : Option Seen → List Effect → A) (st : State) → IsAt m es vs st → ((seen : Option Seen) → AnswerSpelled seen → P (g seen es)) → Gives m es vs P (reads m key g st)
  reads_gives P key g st here h = gives_then AnswerSpelled P (look m key st) (λ seen new. then_run (effects_of m new) (λ effects. give (g seen effects))) (look_gives key st here) (λ seen new is kept. (subst (λ z. P (g seen z)) (sym kept.0) (h seen is), kept))
