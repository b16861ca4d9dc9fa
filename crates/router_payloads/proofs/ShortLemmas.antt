-- What fits is short.
use Rattle.std.proofs.Common.{ℕ, List, [], ◌∷◌, Option, Some, None}
use Rattle.std.specs.List.{AllByRecursion}
use Rattle.slee_value.specs.Bytes.{Fits, FitsOption, FitsText, IsShort}
use Rattle.slee_value.specs.declared.value.Value.{Value}
use Rattle.slee_value.specs.declared.value.Value.TheVariants as values
use Rattle.slee_effect.specs.Bytes.{AreShort, IsShortEffect, IsShortField, IsShortOption, IsShortVal}
use Rattle.slee_effect.specs.Fitting.{FitEffects, FitsEffect, FitsField, FitsVal}
use Rattle.slee_effect.specs.declared.effect.Effect.{Effect}
use Rattle.slee_effect.specs.declared.effect.Effect.TheVariants as effects
use Rattle.slee_effect.specs.declared.value.Val.{Val}
use Rattle.slee_effect.specs.declared.value.Val.TheVariants as vals

short_value : (value : Value) → Fits value → IsShort value
short_value (values.Int number) fits = tt
short_value (values.Text text) fits = fits.short
short_value (values.Bool flag) fits = tt
short_value (values.Activity activity) fits = tt
short_value (values.Timer timer) fits = tt

short_val : (value : Val) → FitsVal value → IsShortVal value
short_val (vals.Plain value) fits = short_value value fits
short_val (vals.NewActivity place) fits = tt
short_val (vals.NewTimer place) fits = tt

short_option : (text : Option (List ℕ)) → FitsOption FitsText text → IsShortOption text
short_option None fits = tt
short_option (Some text) fits = fits.short

short_fields : (fields : List (List ℕ × Val)) → AllByRecursion FitsField fields → AllByRecursion IsShortField fields
short_fields [] fit = tt
short_fields (field ∷ fields) fit = ((fit.0.0.short, short_val field.1 fit.0.1), short_fields fields fit.1)

short_effect : (x : Effect) → FitsEffect x → IsShortEffect x
short_effect (effects.SetField entity name value) fits = (fits.1.0.short, short_val value fits.1.1)
short_effect (effects.SetAttr activity key value) fits = (fits.1.0.short, short_val value fits.1.1)
short_effect (effects.Create parent relation priority) fits = fits.1.0.short
short_effect (effects.Remove entity) fits = tt
short_effect (effects.SetPriority entity priority) fits = tt
short_effect (effects.Attach entity activity) fits = tt
short_effect (effects.Detach entity activity) fits = tt
short_effect (effects.SetMask entity activity event on) fits = fits.1.1.0.short
short_effect (effects.Fire activity event service fields) fits =
    (fits.1.0.short, short_option service fits.1.1.0, (fits.1.1.1.0.0, short_fields fields fits.1.1.1.0.1))
short_effect effects.NewNull fits = tt
short_effect (effects.EndNull activity) fits = tt
short_effect (effects.SetTimer activity start period times keep) fits = tt
short_effect (effects.CancelTimer timer) fits = tt
short_effect (effects.Bind name activity) fits = fits.0.short
short_effect (effects.Unbind name) fits = fits.short
short_effect (effects.Emit entity text) fits = fits.1.short
short_effect (effects.Usage entity name amount) fits = fits.1.0.short
short_effect (effects.Suspend activity until) fits = tt
short_effect (effects.Resume activity) fits = tt

short_each : (xs : List Effect) → AllByRecursion FitsEffect xs → AllByRecursion IsShortEffect xs
short_each [] fit = tt
short_each (x ∷ xs) fit = (short_effect x fit.0, short_each xs fit.1)

pub short_effects : (xs : List Effect) → FitEffects xs → AreShort xs
short_effects xs fit = (fit.0, short_each xs fit.1)
