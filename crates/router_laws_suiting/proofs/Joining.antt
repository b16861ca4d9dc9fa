-- Typed effects suit where their values have spellings and they refer to what is known or was made before.
use Rattle.std.proofs.Common.{ℕ, ◌<◌, List, [], ◌∷◌, ◌++◌, inl, inr}
use Rattle.std.specs.List.{AllByRecursion, flat_map}
use Rattle.slee_value.specs.declared.value.Value.TheVariants as v
use Rattle.slee_effect.specs.declared.effect.Effect.{Effect}
use Rattle.slee_effect.specs.declared.effect.Effect.TheVariants as ef
use Rattle.slee_effect.specs.declared.reference.Ref.{Ref}
use Rattle.slee_effect.specs.declared.reference.Ref.TheVariants.{Known, Fresh}
use Rattle.slee_effect.specs.declared.value.Val.{Val}
use Rattle.slee_effect.specs.declared.value.Val.TheVariants.{Plain, NewActivity, NewTimer}
use Rattle.script_types.specs.declared.codes.FieldCode.{FieldCode}
use Rattle.script_laws.specs.References.{IsKnown, Reference, ReferBehind, ToActivity, ToTimer, in_effect, in_value}
use Rattle.router_laws_applying.specs.Suited.{AllSuit, FieldsSuit, Suits, ValueFits}
use Rattle.router_laws_effects.specs.Runs.{IsOld}
use Rattle.router_laws_suiting.specs.Known.{KnowsDrawn}
use Rattle.router_laws_suiting.specs.Typed.{AllTyped, FieldsTyped, IsTyped}
use Rattle.router_laws_values.specs.Spelled.{EffectSpelled, IsSpelled}
use Rattle.router_state.specs.State.{State}
use Rattle.router_steps.specs.Effects.{next_in}

all_parts : {X : Type 0} (P : X → Type 0) (xs ys : List X) → AllByRecursion P (xs ++ ys) → AllByRecursion P xs × AllByRecursion P ys
all_parts P [] ys all = (tt, all)
all_parts P (x ∷ xs) ys all = let more = all_parts P xs ys all.1 in ((all.0, more.0), more.1)

module _ (s : State) (me own a : ℕ) (known : Reference → Type 0) (drawn : KnowsDrawn s known) where
  activity_old : (before : List Effect) (r : Ref) → IsKnown known before (ToActivity r) → IsOld s.next_activity r
  activity_old before (Known n) (inl is) = drawn.activity n is
  activity_old before (Known n) (inr made) = absurd made
  activity_old before (Fresh n) is = tt

  value_fits : (before : List Effect) (x : Val) → IsSpelled x → AllByRecursion (IsKnown known before) (in_value x) → ValueFits (next_in s) before x
  value_fits before (Plain (v.Int n)) spelled refs = spelled
  value_fits before (Plain (v.Text text)) spelled refs = spelled
  value_fits before (Plain (v.Bool b)) spelled refs = tt
  value_fits before (Plain (v.Activity n)) spelled refs = activity_old before (Known n.0) refs.0
  value_fits before (Plain (v.Timer t)) spelled refs = by refs.0
    where
      by : IsKnown known before (ToTimer (Known t.0)) → t.0 < s.next_timer
      by (inl is) = drawn.timer t.0 is
      by (inr made) = absurd made
  value_fits before (NewActivity n) spelled refs = elim refs.0 [
    | inl is ↦ absurd (drawn.no_activity n is)
    | inr made ↦ made
  ]
  value_fits before (NewTimer n) spelled refs = elim refs.0 [
    | inl is ↦ absurd (drawn.no_timer n is)
    | inr made ↦ made
  ]

  fields_suit : (before : List Effect) (ds : List FieldCode) (fs : List (List ℕ × Val)) → FieldsTyped ds fs → AllByRecursion (λ (f : List ℕ × Val). IsSpelled f.1) fs → AllByRecursion (IsKnown known before) (flat_map (λ field. in_value field.1) fs) → FieldsSuit (next_in s) before ds fs
  fields_suit before [] [] typed spelled refs = tt
  fields_suit before [] (f ∷ fs) typed spelled refs = absurd typed
  fields_suit before (d ∷ ds) [] typed spelled refs = absurd typed
  fields_suit before (d ∷ ds) (f ∷ fs) typed spelled refs =
      let parts = all_parts (IsKnown known before) (in_value f.1) (flat_map (λ field. in_value field.1) fs) refs in
      (typed.0, typed.1, value_fits before f.1 spelled.0 parts.0, fields_suit before ds fs typed.2 spelled.1 parts.1)

  -- a typed effect suits
  pub typed_suits : (before : List Effect) (x : Effect) → IsTyped s me own a before x → EffectSpelled x → AllByRecursion (IsKnown known before) (in_effect x) → Suits s me own a before x
  typed_suits before (ef.SetField entity name value) typed spelled refs = (typed.0, typed.1, typed.2, typed.3, typed.4, value_fits before value spelled refs.1)
  typed_suits before (ef.SetAttr activity key value) typed spelled refs = (activity_old before activity refs.0, typed.0, typed.1, typed.2, value_fits before value spelled refs.1)
  typed_suits before (ef.Create parent relation priority) typed spelled refs = typed
  typed_suits before (ef.Remove entity) typed spelled refs = typed
  typed_suits before (ef.SetPriority entity priority) typed spelled refs = typed
  typed_suits before (ef.Attach entity activity) typed spelled refs = (typed, activity_old before activity refs.1.0)
  typed_suits before (ef.Detach entity activity) typed spelled refs = (typed, activity_old before activity refs.1.0)
  typed_suits before (ef.SetMask entity activity event on) typed spelled refs = (typed.0, activity_old before activity refs.1.0, typed.1)
  typed_suits before (ef.Fire activity event service fields) typed spelled refs = (activity_old before activity refs.0, typed.0, typed.1, typed.2, fields_suit before typed.1.fields fields typed.3 spelled refs.1)
  typed_suits before ef.NewNull typed spelled refs = tt
  typed_suits before (ef.EndNull activity) typed spelled refs = activity_old before activity refs.0
  typed_suits before (ef.SetTimer activity start period times keep) typed spelled refs = (activity_old before activity refs.0, typed)
  typed_suits before (ef.CancelTimer timer) typed spelled refs = tt
  typed_suits before (ef.Bind name activity) typed spelled refs = (activity_old before activity refs.0, spelled)
  typed_suits before (ef.Unbind name) typed spelled refs = tt
  typed_suits before (ef.Emit entity text) typed spelled refs = typed
  typed_suits before (ef.Usage entity name amount) typed spelled refs = typed
  typed_suits before (ef.Suspend activity until) typed spelled refs = typed
  typed_suits before (ef.Resume activity) typed spelled refs = activity_old before activity refs.0

  -- so do all of them
  pub all_typed_suit : (before es : List Effect) → AllTyped s me own a before es → AllByRecursion EffectSpelled es → ReferBehind known before es → AllSuit s me own a before es
  all_typed_suit before [] typed spelled refs = tt
  all_typed_suit before (x ∷ es) typed spelled refs = (typed_suits before x typed.0 spelled.0 refs.0, all_typed_suit (before ++ x ∷ []) es typed.1 spelled.1 refs.1)
