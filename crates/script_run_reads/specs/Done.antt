-- Effects done in order, where it doesn't matter how many things they make.
use Rattle.std.specs.Prelude.{ℕ, Bool, false, ◌&&◌, List, [], ◌∷◌, Option, Some, None, bytes_eq, if◌then◌else◌}
use Rattle.slee_effect.specs.declared.reference.Ref.{Ref}
use Rattle.slee_effect.specs.declared.value.Val.{Val}
use Rattle.slee_effect.specs.declared.effect.Effect.{Effect}
use Rattle.slee_effect.specs.declared.effect.Effect.TheVariants as ef
use Rattle.script_meaning.specs.Overlay.{same_ref}
use Rattle.script_types.specs.Numbers.{IsNumbered}
use Rattle.script_run_machine.specs.Lending.{set_by}
use Rattle.script_run_reads.specs.declared.fields.Property.{Property}
use Rattle.script_run_reads.specs.declared.fields.Property.TheVariants as property

abbrev pub done : {A : Type 0} → (Effect → A → A) → List Effect → A → A
done does [] x = x
done does (e ∷ es) x = done does es (does e x)

-- whether an effect gives a value to a field or an attribute
abbrev pub sets_field : Ref → List ℕ → Effect → Bool
sets_field e name (ef.SetField entity other value) = same_ref entity e && bytes_eq other name
sets_field e name other = false

abbrev pub sets_attribute : Ref → List ℕ → Effect → Bool
sets_attribute a key (ef.SetAttr activity other value) = same_ref activity a && bytes_eq other key
sets_attribute a key other = false

abbrev pub sets_property : Property → Effect → Bool
sets_property (property.Field e name) effect = sets_field e name.now.name effect
sets_property (property.Attribute a key) effect = sets_attribute a key.now.name effect

-- the property's name has its number
abbrev pub IsNumberedProperty : List (List ℕ) → Property → Type 0
IsNumberedProperty names (property.Field e name) = IsNumbered names name.now
IsNumberedProperty names (property.Attribute a key) = IsNumbered names key.now

-- the value that was set last, behind one effect more, and behind all
abbrev pub set_behind : (Effect → Bool) → Effect → Option Val → Option Val
set_behind sets e last = if sets e then Some (set_by (Some e)) else last

abbrev pub last_set : (Effect → Bool) → List Effect → Option Val
last_set sets es = done (set_behind sets) es None
