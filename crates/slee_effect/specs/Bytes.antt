-- The bytes of effects. Numbers have their low byte first, and a list begins with its count.
use Rattle.std.specs.Prelude.{ℕ, ◌<◌, ◌^◌, List, [], ◌∷◌, ◌++◌, length, Option, Some, None, ⊤}
use Rattle.std.specs.List.{flat_map, AllByRecursion}
use Rattle.slee_value.specs.declared.keep.Keep.{Keep}
use Rattle.slee_value.specs.declared.keep.Keep.TheVariants.{All, Last, NoneMissed}
use Rattle.slee_value.specs.Bytes.{spelled_u32, spelled_u64, spelled_i8, spelled_i64, spelled_text, spelled_flag, spelled_option, spelling_of_value, IsShort}
use Rattle.slee_effect.specs.declared.reference.Ref.{Ref}
use Rattle.slee_effect.specs.declared.reference.Ref.TheVariants.{Known, Fresh}
use Rattle.slee_effect.specs.declared.value.Val.{Val}
use Rattle.slee_effect.specs.declared.value.Val.TheVariants.{Plain, NewActivity, NewTimer}
use Rattle.slee_effect.specs.declared.tag.TheConstants.{SET_FIELD, SET_ATTR, CREATE, REMOVE, SET_PRIORITY, ATTACH, DETACH, SET_MASK, FIRE, NEW_NULL, END_NULL, SET_TIMER, CANCEL_TIMER, BIND, UNBIND, EMIT, USAGE, SUSPEND, RESUME, KNOWN, FRESH, PLAIN, NEW_ACTIVITY, NEW_TIMER, KEEP_ALL, KEEP_LAST, KEEP_NONE}
use Rattle.slee_effect.specs.declared.effect.Effect.{Effect}
use Rattle.slee_effect.specs.declared.effect.Effect.TheVariants.{SetField, SetAttr, Create, Remove, SetPriority, Attach, Detach, SetMask, Fire, NewNull, EndNull, SetTimer, CancelTimer, Bind, Unbind, Emit, Usage, Suspend, Resume}

-- what a timer does with occurrences that were missed
abbrev pub spelled_keep : Keep → List ℕ
spelled_keep All = KEEP_ALL ∷ []
spelled_keep Last = KEEP_LAST ∷ []
spelled_keep NoneMissed = KEEP_NONE ∷ []

abbrev pub spelled_ref : Ref → List ℕ
spelled_ref (Known number) = KNOWN ∷ spelled_u64 number
spelled_ref (Fresh place) = FRESH ∷ spelled_u32 place

abbrev pub spelled_val : Val → List ℕ
spelled_val (Plain value) = PLAIN ∷ spelling_of_value value
spelled_val (NewActivity place) = NEW_ACTIVITY ∷ spelled_u32 place
spelled_val (NewTimer place) = NEW_TIMER ∷ spelled_u32 place

-- a field of an event, and all of them
abbrev pub spelled_field : List ℕ × Val → List ℕ
spelled_field field = spelled_text field.0 ++ spelled_val field.1

abbrev pub spelled_fields : List (List ℕ × Val) → List ℕ
spelled_fields fields = spelled_u32 (length fields) ++ flat_map spelled_field fields

-- the bytes of an effect: a byte for which one it is, and then its parts in order
abbrev pub spelled_effect : Effect → List ℕ
spelled_effect (SetField entity name value) = SET_FIELD ∷ (spelled_ref entity ++ (spelled_text name ++ spelled_val value))
spelled_effect (SetAttr activity key value) = SET_ATTR ∷ (spelled_ref activity ++ (spelled_text key ++ spelled_val value))
spelled_effect (Create parent relation priority) = CREATE ∷ (spelled_ref parent ++ (spelled_text relation ++ spelled_i8 priority))
spelled_effect (Remove entity) = REMOVE ∷ spelled_ref entity
spelled_effect (SetPriority entity priority) = SET_PRIORITY ∷ (spelled_ref entity ++ spelled_i8 priority)
spelled_effect (Attach entity activity) = ATTACH ∷ (spelled_ref entity ++ spelled_ref activity)
spelled_effect (Detach entity activity) = DETACH ∷ (spelled_ref entity ++ spelled_ref activity)
spelled_effect (SetMask entity activity event on) = SET_MASK ∷ (spelled_ref entity ++ (spelled_ref activity ++ (spelled_text event ++ spelled_flag on)))
spelled_effect (Fire activity event service fields) = FIRE ∷ (spelled_ref activity ++ (spelled_text event ++ (spelled_option spelled_text service ++ spelled_fields fields)))
spelled_effect NewNull = NEW_NULL ∷ []
spelled_effect (EndNull activity) = END_NULL ∷ spelled_ref activity
spelled_effect (SetTimer activity start period times keep) = SET_TIMER ∷ (spelled_ref activity ++ (spelled_u64 start ++ (spelled_u64 period ++ (spelled_u64 times ++ spelled_keep keep))))
spelled_effect (CancelTimer timer) = CANCEL_TIMER ∷ spelled_ref timer
spelled_effect (Bind name activity) = BIND ∷ (spelled_text name ++ spelled_ref activity)
spelled_effect (Unbind name) = UNBIND ∷ spelled_text name
spelled_effect (Emit entity text) = EMIT ∷ (spelled_ref entity ++ spelled_text text)
spelled_effect (Usage entity name amount) = USAGE ∷ (spelled_ref entity ++ (spelled_text name ++ spelled_i64 amount))
spelled_effect (Suspend activity until) = SUSPEND ∷ (spelled_ref activity ++ spelled_u64 until)
spelled_effect (Resume activity) = RESUME ∷ spelled_ref activity

-- the bytes of a list of effects
abbrev pub spelling_of_effects : List Effect → List ℕ
spelling_of_effects effects = spelled_u32 (length effects) ++ flat_map spelled_effect effects

-- Of effects in memory only this is wanted: the length of each text and list is a number of 32 bits.
abbrev pub IsShortText : List ℕ → Type 0
IsShortText text = length text < 2 ^ 32

abbrev pub IsShortOption : Option (List ℕ) → Type 0
IsShortOption None = ⊤
IsShortOption (Some text) = IsShortText text

abbrev pub IsShortVal : Val → Type 0
IsShortVal (Plain value) = IsShort value
IsShortVal (NewActivity place) = ⊤
IsShortVal (NewTimer place) = ⊤

abbrev pub IsShortField : List ℕ × Val → Type 0
IsShortField field = IsShortText field.0 × IsShortVal field.1

abbrev pub AreShortFields : List (List ℕ × Val) → Type 0
AreShortFields fields = (length fields < 2 ^ 32) × AllByRecursion IsShortField fields

abbrev pub IsShortEffect : Effect → Type 0
IsShortEffect (SetField entity name value) = IsShortText name × IsShortVal value
IsShortEffect (SetAttr activity key value) = IsShortText key × IsShortVal value
IsShortEffect (Create parent relation priority) = IsShortText relation
IsShortEffect (Remove entity) = ⊤
IsShortEffect (SetPriority entity priority) = ⊤
IsShortEffect (Attach entity activity) = ⊤
IsShortEffect (Detach entity activity) = ⊤
IsShortEffect (SetMask entity activity event on) = IsShortText event
IsShortEffect (Fire activity event service fields) = IsShortText event × IsShortOption service × AreShortFields fields
IsShortEffect NewNull = ⊤
IsShortEffect (EndNull activity) = ⊤
IsShortEffect (SetTimer activity start period times keep) = ⊤
IsShortEffect (CancelTimer timer) = ⊤
IsShortEffect (Bind name activity) = IsShortText name
IsShortEffect (Unbind name) = IsShortText name
IsShortEffect (Emit entity text) = IsShortText text
IsShortEffect (Usage entity name amount) = IsShortText name
IsShortEffect (Suspend activity until) = ⊤
IsShortEffect (Resume activity) = ⊤

abbrev pub AreShort : List Effect → Type 0
AreShort effects = (length effects < 2 ^ 32) × AllByRecursion IsShortEffect effects
