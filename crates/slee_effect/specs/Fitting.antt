-- Which effects have bytes.
use Rattle.std.specs.Prelude.{◌+◌, [], ◌∷◌, ℕ, ◌<◌, ◌^◌, List, length, FitsSigned, IsTrue, ⊤}
use Rattle.std.specs.Int.{w8, w64}
use Rattle.std.specs.List.{AllByRecursion}
use Rattle.slee_value.specs.Order.{is_below, rises, names_of}
use Rattle.slee_value.specs.Bytes.{FitsOption, FitsText, Fits}
use Rattle.slee_effect.specs.declared.reference.Ref.{Ref}
use Rattle.slee_effect.specs.declared.reference.Ref.TheVariants.{Known, Fresh}
use Rattle.slee_effect.specs.declared.value.Val.{Val}
use Rattle.slee_effect.specs.declared.value.Val.TheVariants.{Plain, NewActivity, NewTimer}
use Rattle.slee_effect.specs.declared.effect.Effect.{Effect}
use Rattle.slee_effect.specs.declared.effect.Effect.TheVariants.{SetField, SetAttr, Create, Remove, SetPriority, Attach, Detach, SetMask, Fire, NewNull, EndNull, SetTimer, CancelTimer, Bind, Unbind, Emit, Usage, Suspend, Resume}

abbrev pub FitsRef : Ref → Type 0
FitsRef (Known number) = number < 2 ^ 64
FitsRef (Fresh place) = place < 2 ^ 32

abbrev pub FitsVal : Val → Type 0
FitsVal (Plain value) = Fits value
FitsVal (NewActivity place) = place < 2 ^ 32
FitsVal (NewTimer place) = place < 2 ^ 32

abbrev pub FitsField : List ℕ × Val → Type 0
FitsField field = FitsText field.0 × FitsVal field.1

-- fields whatever their names are, and fields whose names rise
abbrev pub AreFields : List (List ℕ × Val) → Type 0
AreFields fields = (length fields < 2 ^ 32) × AllByRecursion FitsField fields

abbrev pub AreRisingFields : List (List ℕ × Val) → Type 0
AreRisingFields fields = AreFields fields × IsTrue (rises (names_of fields))

-- each name comes after the one before, unless that has the greatest length that a name can have
abbrev pub RiseLoosely : List (List ℕ) → Type 0
RiseLoosely [] = ⊤
RiseLoosely (x ∷ []) = ⊤
RiseLoosely (x ∷ y ∷ names) = (length x + 1 < 2 ^ 32 → IsTrue (is_below x y)) × RiseLoosely (y ∷ names)

abbrev pub AreLooseFields : List (List ℕ × Val) → Type 0
AreLooseFields fields = AreFields fields × RiseLoosely (names_of fields)

-- each part of the effect is in the range of its type, and its fields are as asked
abbrev pub FitsBy : (List (List ℕ × Val) → Type 0) → Effect → Type 0
FitsBy FieldsFit (SetField entity name value) = FitsRef entity × (FitsText name × FitsVal value)
FitsBy FieldsFit (SetAttr activity key value) = FitsRef activity × (FitsText key × FitsVal value)
FitsBy FieldsFit (Create parent relation priority) = FitsRef parent × (FitsText relation × FitsSigned w8 priority)
FitsBy FieldsFit (Remove entity) = FitsRef entity
FitsBy FieldsFit (SetPriority entity priority) = FitsRef entity × FitsSigned w8 priority
FitsBy FieldsFit (Attach entity activity) = FitsRef entity × FitsRef activity
FitsBy FieldsFit (Detach entity activity) = FitsRef entity × FitsRef activity
FitsBy FieldsFit (SetMask entity activity event on) = FitsRef entity × (FitsRef activity × (FitsText event × ⊤))
FitsBy FieldsFit (Fire activity event service fields) = FitsRef activity × (FitsText event × (FitsOption FitsText service × FieldsFit fields))
FitsBy FieldsFit NewNull = ⊤
FitsBy FieldsFit (EndNull activity) = FitsRef activity
FitsBy FieldsFit (SetTimer activity start period times keep) = FitsRef activity × ((start < 2 ^ 64) × ((period < 2 ^ 64) × ((times < 2 ^ 64) × ⊤)))
FitsBy FieldsFit (CancelTimer timer) = FitsRef timer
FitsBy FieldsFit (Bind name activity) = FitsText name × FitsRef activity
FitsBy FieldsFit (Unbind name) = FitsText name
FitsBy FieldsFit (Emit entity text) = FitsRef entity × FitsText text
FitsBy FieldsFit (Usage entity name amount) = FitsRef entity × (FitsText name × FitsSigned w64 amount)
FitsBy FieldsFit (Suspend activity until) = FitsRef activity × (until < 2 ^ 64)
FitsBy FieldsFit (Resume activity) = FitsRef activity

abbrev pub FitsEffect : Effect → Type 0
FitsEffect = FitsBy AreRisingFields

-- the same, but behind a name of the greatest length any may stand
abbrev pub IsLooseEffect : Effect → Type 0
IsLooseEffect = FitsBy AreLooseFields

-- a list that has bytes
abbrev pub FitEffects : List Effect → Type 0
FitEffects effects = (length effects < 2 ^ 32) × AllByRecursion FitsEffect effects

abbrev pub AreLooseEffects : List Effect → Type 0
AreLooseEffects effects = (length effects < 2 ^ 32) × AllByRecursion IsLooseEffect effects
