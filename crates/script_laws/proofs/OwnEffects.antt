-- What the last effect does to what is read behind it.
use Rattle.std.proofs.Common.{◌≡◌, ◌+◌, true, false, Bool, ℕ, List, [], ◌∷◌, ◌++◌, Option, Some, None, refl, ap, ◌∙◌}
use native.Mathlib.Omega.{arith}
use Rattle.std.specs.Prelude.{ℤ, not, ◌&&◌, ◌||◌, cond, bytes_eq, filter}
use Rattle.slee_effect.specs.declared.reference.Ref.{Ref}
use Rattle.slee_effect.specs.declared.reference.Ref.TheVariants.{Known, Fresh}
use Rattle.slee_effect.specs.declared.value.Val.{Val}
use Rattle.slee_effect.specs.declared.effect.Effect.{Effect}
use Rattle.slee_effect.specs.declared.effect.Effect.TheVariants as ef
use Rattle.slee_value.specs.declared.keep.Keep.{Keep}
use Rattle.script_meaning.specs.declared.seen.AcSeen.{AcSeen}
use Rattle.script_meaning.specs.Overlay.{same_ref, count_of, overlay_from, overlay, entities_by, activities_by, timers_by, field_after, attr_after, children_after, priority_after, ended, activity_after, attached_after, named_after, timer_after}
use Rattle.script_laws.proofs.Likeness.{flags_same, texts_same, both_same}

last_from : {A : Type 0} (makes : Effect → ℕ) (does : ℕ → Effect → A → A) (n : ℕ) (es : List Effect) (e : Effect) (x : A) → overlay_from makes does n (es ++ e ∷ []) x ≡ does (n + count_of makes es) e (overlay_from makes does n es x)
last_from makes does n [] e x = ap (λ k. does k e x) (omega arith)
last_from makes does n (y ∷ es) e x = last_from makes does (n + makes y) es e (does n y x) ∙ ap (λ k. does k e (overlay_from makes does (n + makes y) es (does n y x))) (omega arith)

-- behind effects with one more, that one is done last
pub last : {A : Type 0} (makes : Effect → ℕ) (does : ℕ → Effect → A → A) (es : List Effect) (e : Effect) (x : A) → overlay makes does (es ++ e ∷ []) x ≡ does (count_of makes es) e (overlay makes does es x)
last makes does es e x = last_from makes does 0 es e x ∙ ap (λ k. does k e (overlay makes does es x)) (omega arith)

ref_same : (r : Ref) → same_ref r r ≡ true
ref_same (Known a) = flags_same a
ref_same (Fresh a) = flags_same a

taken : {A : Type 0} (b : Bool) (x y : A) → b ≡ true → cond b x y ≡ x
taken true x y h = refl
taken false x y h = cc

pub field_given : (es : List Effect) (e : Ref) (name : List ℕ) (value base : Val) → overlay entities_by (field_after e name) (es ++ ef.SetField e name value ∷ []) base ≡ value
field_given es e name value base = last entities_by (field_after e name) es (ef.SetField e name value) base ∙ taken (same_ref e e && bytes_eq name name) value _ (both_same (same_ref e e) (bytes_eq name name) (ref_same e) (texts_same name))

pub attribute_given : (es : List Effect) (a : Ref) (key : List ℕ) (value base : Val) → overlay activities_by (attr_after a key) (es ++ ef.SetAttr a key value ∷ []) base ≡ value
attribute_given es a key value base = last activities_by (attr_after a key) es (ef.SetAttr a key value) base ∙ taken (same_ref a a && bytes_eq key key) value _ (both_same (same_ref a a) (bytes_eq key key) (ref_same a) (texts_same key))

pub child_made : (es : List Effect) (e : Ref) (relation : List ℕ) (n : ℤ) (base : List Ref) → overlay entities_by (children_after e relation) (es ++ ef.Create e relation n ∷ []) base ≡ overlay entities_by (children_after e relation) es base ++ Fresh (count_of entities_by es) ∷ []
child_made es e relation n base = last entities_by (children_after e relation) es (ef.Create e relation n) base ∙ taken (same_ref e e && bytes_eq relation relation) _ _ (both_same (same_ref e e) (bytes_eq relation relation) (ref_same e) (texts_same relation))

pub child_gone : (es : List Effect) (e child : Ref) (relation : List ℕ) (base : List Ref) → overlay entities_by (children_after e relation) (es ++ ef.Remove child ∷ []) base ≡ filter (λ r. not (same_ref r child)) (overlay entities_by (children_after e relation) es base)
child_gone es e child relation base = last entities_by (children_after e relation) es (ef.Remove child) base

pub priority_given : (es : List Effect) (e : Ref) (n base : ℤ) → overlay entities_by (priority_after e) (es ++ ef.SetPriority e n ∷ []) base ≡ n
priority_given es e n base = last entities_by (priority_after e) es (ef.SetPriority e n) base ∙ taken (same_ref e e) n _ (ref_same e)

pub new_activity : (es : List Effect) (base : Option AcSeen) → overlay activities_by (activity_after (Fresh (count_of activities_by es))) (es ++ ef.NewNull ∷ []) base ≡ Some (record { null = true; ending = false })
new_activity es base = last activities_by (activity_after (Fresh (count_of activities_by es))) es ef.NewNull base ∙ taken (same_ref (Fresh (count_of activities_by es)) (Fresh (count_of activities_by es))) _ _ (ref_same (Fresh (count_of activities_by es)))

pub activity_ends : (es : List Effect) (a : Ref) (base : Option AcSeen) → overlay activities_by (activity_after a) (es ++ ef.EndNull a ∷ []) base ≡ ended (overlay activities_by (activity_after a) es base)
activity_ends es a base = last activities_by (activity_after a) es (ef.EndNull a) base ∙ taken (same_ref a a) _ _ (ref_same a)

or_first : (p q : Bool) → p ≡ true → (p || q) ≡ true
or_first true q h = refl
or_first false q h = cc

not_first : (p q : Bool) → p ≡ true → (not p && q) ≡ false
not_first true q h = refl
not_first false q h = cc

pub attachment_made : (es : List Effect) (e a : Ref) (base : Bool) → overlay activities_by (attached_after e a) (es ++ ef.Attach e a ∷ []) base ≡ true
attachment_made es e a base = last activities_by (attached_after e a) es (ef.Attach e a) base ∙ or_first (same_ref e e && same_ref a a) _ (both_same (same_ref e e) (same_ref a a) (ref_same e) (ref_same a))

pub attachment_gone : (es : List Effect) (e a : Ref) (base : Bool) → overlay activities_by (attached_after e a) (es ++ ef.Detach e a ∷ []) base ≡ false
attachment_gone es e a base = last activities_by (attached_after e a) es (ef.Detach e a) base ∙ not_first (same_ref e e && same_ref a a) _ (both_same (same_ref e e) (same_ref a a) (ref_same e) (ref_same a))

pub name_bound : (es : List Effect) (name : List ℕ) (a : Ref) (base : Option Ref) → overlay activities_by (named_after name) (es ++ ef.Bind name a ∷ []) base ≡ Some a
name_bound es name a base = last activities_by (named_after name) es (ef.Bind name a) base ∙ taken (bytes_eq name name) (Some a) _ (texts_same name)

pub name_free : (es : List Effect) (name : List ℕ) (base : Option Ref) → overlay activities_by (named_after name) (es ++ ef.Unbind name ∷ []) base ≡ None
name_free es name base = last activities_by (named_after name) es (ef.Unbind name) base ∙ taken (bytes_eq name name) None _ (texts_same name)

pub timer_set : (es : List Effect) (a : Ref) (start period times : ℕ) (keep : Keep) (base : Option Ref) → overlay timers_by (timer_after (Fresh (count_of timers_by es))) (es ++ ef.SetTimer a start period times keep ∷ []) base ≡ Some a
timer_set es a start period times keep base = last timers_by (timer_after (Fresh (count_of timers_by es))) es (ef.SetTimer a start period times keep) base ∙ taken (same_ref (Fresh (count_of timers_by es)) (Fresh (count_of timers_by es))) (Some a) _ (ref_same (Fresh (count_of timers_by es)))

pub timer_gone : (es : List Effect) (t : Ref) (base : Option Ref) → overlay timers_by (timer_after t) (es ++ ef.CancelTimer t ∷ []) base ≡ None
timer_gone es t base = last timers_by (timer_after t) es (ef.CancelTimer t) base ∙ taken (same_ref t t) None _ (ref_same t)
