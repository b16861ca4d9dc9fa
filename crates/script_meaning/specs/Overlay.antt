-- An answer with effects done to it. Each is a fold of what one effect does, which is told how many of its kind were made before.
use Rattle.std.specs.Prelude.{ℕ, ℤ, ◌+◌, Bool, true, false, not, ◌&&◌, ◌||◌, ◌==◌, nat_lt, List, [], ◌∷◌, ◌++◌, Option, Some, None, bytes_eq, filter, if◌then◌else◌}
use Rattle.std.specs.List.{list_any}
use Rattle.slee_effect.specs.declared.reference.Ref.{Ref}
use Rattle.slee_effect.specs.declared.reference.Ref.TheVariants.{Known, Fresh}
use Rattle.slee_effect.specs.declared.value.Val.{Val}
use Rattle.slee_effect.specs.declared.effect.Effect.{Effect}
use Rattle.slee_effect.specs.declared.effect.Effect.TheVariants as ef
use Rattle.script_meaning.specs.declared.seen.AcSeen.{AcSeen}

-- whether two name the same thing of one kind
abbrev pub same_ref : Ref → Ref → Bool
same_ref (Known a) (Known b) = a == b
same_ref (Fresh a) (Fresh b) = a == b
same_ref _ _ = false

-- known things stand before new ones, and each by number
abbrev pub is_before : Ref → Ref → Bool
is_before (Known a) (Known b) = nat_lt a b
is_before (Known a) (Fresh b) = true
is_before (Fresh a) (Known b) = false
is_before (Fresh a) (Fresh b) = nat_lt a b

-- how many entities, activities and timers an effect makes
abbrev pub entities_by : Effect → ℕ
entities_by (ef.Create parent relation priority) = 1
entities_by other = 0

abbrev pub activities_by : Effect → ℕ
activities_by ef.NewNull = 1
activities_by other = 0

abbrev pub timers_by : Effect → ℕ
timers_by (ef.SetTimer activity start period times keep) = 1
timers_by other = 0

-- how many a list of effects makes
abbrev pub count_of : (Effect → ℕ) → List Effect → ℕ
count_of makes [] = 0
count_of makes (e ∷ es) = makes e + count_of makes es

-- effects done in order, the first where n were made before
abbrev pub overlay_from : {A : Type 0} → (Effect → ℕ) → (ℕ → Effect → A → A) → ℕ → List Effect → A → A
overlay_from makes does n [] x = x
overlay_from makes does n (e ∷ es) x = overlay_from makes does (n + makes e) es (does n e x)

abbrev pub overlay : {A : Type 0} → (Effect → ℕ) → (ℕ → Effect → A → A) → List Effect → A → A
overlay makes does effects x = overlay_from makes does 0 effects x

-- what an effect does to a field
abbrev pub field_after : Ref → List ℕ → ℕ → Effect → Val → Val
field_after e name n (ef.SetField entity other value) x = if same_ref entity e && bytes_eq other name then value else x
field_after e name n other x = x

-- to an attribute
abbrev pub attr_after : Ref → List ℕ → ℕ → Effect → Val → Val
attr_after a key n (ef.SetAttr activity other value) x = if same_ref activity a && bytes_eq other key then value else x
attr_after a key n other x = x

-- to the children of a relation
abbrev pub children_after : Ref → List ℕ → ℕ → Effect → List Ref → List Ref
children_after e relation n (ef.Create parent other priority) refs = if same_ref parent e && bytes_eq other relation then refs ++ Fresh n ∷ [] else refs
children_after e relation n (ef.Remove entity) refs = filter (λ r. not (same_ref r entity)) refs
children_after e relation n other refs = refs

-- to a priority
abbrev pub priority_after : Ref → ℕ → Effect → ℤ → ℤ
priority_after e n (ef.Create parent relation priority) x = if same_ref (Fresh n) e then priority else x
priority_after e n (ef.SetPriority entity priority) x = if same_ref entity e then priority else x
priority_after e n other x = x

abbrev pub ended : Option AcSeen → Option AcSeen
ended None = None
ended (Some seen) = Some (record seen { ending = true })

-- to an activity
abbrev pub activity_after : Ref → ℕ → Effect → Option AcSeen → Option AcSeen
activity_after a n ef.NewNull x = if same_ref (Fresh n) a then Some (record { null = true; ending = false }) else x
activity_after a n (ef.EndNull activity) x = if same_ref activity a then ended x else x
activity_after a n other x = x

-- to an attachment
abbrev pub attached_after : Ref → Ref → ℕ → Effect → Bool → Bool
attached_after e a n (ef.Attach entity activity) x = (same_ref entity e && same_ref activity a) || x
attached_after e a n (ef.Detach entity activity) x = not (same_ref entity e && same_ref activity a) && x
attached_after e a n other x = x

-- the names with one more or one less
abbrev pub with_mask : List ℕ → Bool → List (List ℕ) → List (List ℕ)
with_mask name true names = name ∷ names
with_mask name false names = filter (λ other. not (bytes_eq other name)) names

abbrev pub mask_set : List ℕ → Bool → Option (List (List ℕ)) → Option (List (List ℕ))
mask_set name on None = None
mask_set name on (Some names) = Some (with_mask name on names)

-- the masks of an attachment: attaching what is attached changes none
abbrev pub or_masks : List (List ℕ) → Option (List (List ℕ)) → Option (List (List ℕ))
or_masks first None = Some first
or_masks first (Some names) = Some names

-- to the masks of an attachment, where `first` are those that attaching sets
abbrev pub masks_after : List (List ℕ) → Ref → Ref → ℕ → Effect → Option (List (List ℕ)) → Option (List (List ℕ))
masks_after first e a n (ef.Attach entity activity) x = if same_ref entity e && same_ref activity a then or_masks first x else x
masks_after first e a n (ef.Detach entity activity) x = if same_ref entity e && same_ref activity a then None else x
masks_after first e a n (ef.SetMask entity activity event on) x = if same_ref entity e && same_ref activity a then mask_set event on x else x
masks_after first e a n other x = x

-- to the activity that a name stands for
abbrev pub named_after : List ℕ → ℕ → Effect → Option Ref → Option Ref
named_after name n (ef.Bind other activity) x = if bytes_eq other name then Some activity else x
named_after name n (ef.Unbind other) x = if bytes_eq other name then None else x
named_after name n other x = x

-- whether a timer stands on the activity
abbrev pub stands_on : Ref → Option Ref → Bool
stands_on a None = false
stands_on a (Some b) = same_ref a b

-- to the activity on which a timer stands
abbrev pub timer_after : Ref → ℕ → Effect → Option Ref → Option Ref
timer_after t n (ef.SetTimer activity start period times keep) x = if same_ref (Fresh n) t then Some activity else x
timer_after t n (ef.CancelTimer timer) x = if same_ref timer t then None else x
timer_after t n (ef.EndNull activity) x = if stands_on activity x then None else x
timer_after t n other x = x

-- a list in order with one more
abbrev pub put : Ref → List Ref → List Ref
put r [] = r ∷ []
put r (x ∷ xs) = if same_ref r x then x ∷ xs else if is_before r x then r ∷ x ∷ xs else x ∷ put r xs

-- to the activities of an entity
abbrev pub activities_after : Ref → ℕ → Effect → List Ref → List Ref
activities_after e n (ef.Attach entity activity) refs = if same_ref entity e then put activity refs else refs
activities_after e n (ef.Detach entity activity) refs = if same_ref entity e then filter (λ r. not (same_ref r activity)) refs else refs
activities_after e n other refs = refs

-- whether an effect removes the entity
abbrev pub removes : Ref → Effect → Bool
removes e (ef.Remove entity) = same_ref entity e
removes e other = false

abbrev pub is_removed : Ref → List Effect → Bool
is_removed e effects = list_any (removes e) effects
