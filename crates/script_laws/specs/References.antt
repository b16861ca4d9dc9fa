-- What values and effects refer to, and when effects refer only to what is known or was made before them.
use Rattle.std.specs.Prelude.{◌<◌, Bool, IsTrue, List, [], ◌∷◌, ◌++◌, ◌⊎◌, ⊤}
use Rattle.std.specs.List.{AllByRecursion, flat_map}
use Rattle.slee_value.specs.declared.value.Value.TheVariants as v
use Rattle.slee_effect.specs.declared.reference.Ref.{Ref}
use Rattle.slee_effect.specs.declared.reference.Ref.TheVariants.{Known, Fresh}
use Rattle.slee_effect.specs.declared.value.Val.{Val}
use Rattle.slee_effect.specs.declared.value.Val.TheVariants.{Plain, NewActivity, NewTimer}
use Rattle.slee_effect.specs.declared.effect.Effect.{Effect}
use Rattle.slee_effect.specs.declared.effect.Effect.TheVariants as ef
use Rattle.script_meaning.specs.Overlay.{count_of, entities_by, activities_by, timers_by}

-- To an entity, an activity or a timer: by its number, or as the one in that place among those of its kind that a transaction makes.
pub data Reference : Type 0 where
  ToEntity : Ref → Reference
  ToActivity : Ref → Reference
  ToTimer : Ref → Reference

-- what a value refers to
abbrev pub in_value : Val → List Reference
in_value (Plain (v.Activity a)) = ToActivity (Known a.0) ∷ []
in_value (Plain (v.Timer t)) = ToTimer (Known t.0) ∷ []
in_value (Plain _) = []
in_value (NewActivity n) = ToActivity (Fresh n) ∷ []
in_value (NewTimer n) = ToTimer (Fresh n) ∷ []

-- what an effect refers to; what it makes it doesn't refer to
abbrev pub in_effect : Effect → List Reference
in_effect (ef.SetField entity name value) = ToEntity entity ∷ in_value value
in_effect (ef.SetAttr activity key value) = ToActivity activity ∷ in_value value
in_effect (ef.Create parent relation priority) = ToEntity parent ∷ []
in_effect (ef.Remove entity) = ToEntity entity ∷ []
in_effect (ef.SetPriority entity priority) = ToEntity entity ∷ []
in_effect (ef.Attach entity activity) = ToEntity entity ∷ ToActivity activity ∷ []
in_effect (ef.Detach entity activity) = ToEntity entity ∷ ToActivity activity ∷ []
in_effect (ef.SetMask entity activity event on) = ToEntity entity ∷ ToActivity activity ∷ []
in_effect (ef.Fire activity event service fields) = ToActivity activity ∷ flat_map (λ field. in_value field.1) fields
in_effect ef.NewNull = []
in_effect (ef.EndNull activity) = ToActivity activity ∷ []
in_effect (ef.SetTimer activity start period times keep) = ToActivity activity ∷ []
in_effect (ef.CancelTimer timer) = ToTimer timer ∷ []
in_effect (ef.Bind name activity) = ToActivity activity ∷ []
in_effect (ef.Unbind name) = []
in_effect (ef.Emit entity text) = ToEntity entity ∷ []
in_effect (ef.Usage entity name amount) = ToEntity entity ∷ []
in_effect (ef.Suspend activity until) = ToActivity activity ∷ []
in_effect (ef.Resume activity) = ToActivity activity ∷ []

-- it is new, and one of those that these effects make: its place is below their number
abbrev pub IsMade : List Effect → Reference → Type 0
IsMade effects (ToEntity (Fresh n)) = n < count_of entities_by effects
IsMade effects (ToActivity (Fresh n)) = n < count_of activities_by effects
IsMade effects (ToTimer (Fresh n)) = n < count_of timers_by effects
IsMade effects _ = ⊥

-- it is in a set of references
abbrev pub Among : (Reference → Bool) → Reference → Type 0
Among known r = IsTrue (known r)

-- it is one of those that are known, or these effects make it
abbrev pub IsKnown : (Reference → Type 0) → List Effect → Reference → Type 0
IsKnown known effects r = known r ⊎ IsMade effects r

-- each effect refers to what is known or was made before it, also by those effects that stand before all of them
abbrev pub ReferBehind : (Reference → Type 0) → List Effect → List Effect → Type 0
ReferBehind known before [] = ⊤
ReferBehind known before (e ∷ es) = AllByRecursion (IsKnown known before) (in_effect e) × ReferBehind known (before ++ e ∷ []) es

-- each effect refers to what is known or was made before it
abbrev pub Refer : (Reference → Type 0) → List Effect → Type 0
Refer known effects = ReferBehind known [] effects
