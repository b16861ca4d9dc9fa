-- Runs of checked scripts whose effects so far are typed.
use Rattle.std.specs.Prelude.{ℕ, ◌≡◌, List, [], ◌∷◌, ◌++◌, Option}
use Rattle.slee_value.specs.declared.kind.Kind.{Kind}
use Rattle.slee_effect.specs.declared.effect.Effect.{Effect}
use Rattle.slee_effect.specs.declared.reference.Ref.{Ref}
use Rattle.script_laws.specs.Fitting.{IsReturned, IsWithin, Sound}
use Rattle.script_meaning.specs.Running.{Child, Ending, Gave, Setting, Variable}
use Rattle.script_meaning.specs.Running as running
use Rattle.script_meaning.specs.Steps.{Flow, Next, Returned}
use Rattle.script_types.specs.Scopes.{Holding, Scope}
use Rattle.script_types.specs.Scopes as expected
use Rattle.router_laws_suiting.specs.Typed.{AllTyped, IsKid, PathLives, frame}
use Rattle.router_state.specs.State.{State}

-- A script runs for the last entity of a path of calls, whose run began behind some effects: the effects so far go on from those, are typed for the delivery, and leave the path.
pub record IsLeft (s : State) (me own a : ℕ) (m : Setting) (first : List Effect) (path : List (ℕ × Ref)) (st : running.State) : Type 0 where
  pub from : (new : List Effect) × (m.effects ++ st.effects ≡ first ++ new)
  pub typed : AllTyped s me own a [] (m.effects ++ st.effects)
  pub lives : PathLives s me own (m.effects ++ st.effects) path

-- a variable that stands for a child is one of the entity whose script runs, or was removed
abbrev pub KidIs : State → List Effect → ℕ × Ref → Holding → Variable → Type 0
KidIs s es top (expected.Child block) (Child e) = IsKid s es top.0 top.1 block e
KidIs s es top _ _ = Unit {0}

abbrev pub KidsAre : State → List Effect → ℕ × Ref → Scope → List Variable → Type 0
KidsAre s es top (local ∷ scope) (x ∷ variables) = KidIs s es top local.holds x × KidsAre s es top scope variables
KidsAre s es top _ _ = Unit {0}

-- variables fit the scope, and the children among them are there or were removed
pub record IsGood (s : State) (me own a : ℕ) (m : Setting) (first : List Effect) (path : List (ℕ × Ref)) (scope : Scope) (st : running.State) : Type 0 where
  pub sound : Sound m scope st
  pub left : IsLeft s me own a m first path st
  pub kids : KidsAre s (m.effects ++ st.effects) (frame me own path) scope st.variables

-- a part gives something of which this is so, or nothing
abbrev pub Does : {A : Type 0} → (A → running.State → Type 0) → Ending A → Type 0
Does P (Gave x st) = P x st
Does P _ = Unit {0}

-- behind steps: variables that fit, or a value that is given back
abbrev pub GoesOn : State → ℕ → ℕ → ℕ → Setting → List Effect → List (ℕ × Ref) → Option Kind → Scope → Flow → running.State → Type 0
GoesOn s me own a m first path result scope Next st = IsGood s me own a m first path scope st
GoesOn s me own a m first path result scope (Returned x) st = IsReturned result x × IsWithin m st × IsLeft s me own a m first path st
