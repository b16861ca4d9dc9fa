-- Reading effects from left to right. A fault is how many bytes are left from the first one that can't go on.
use Rattle.std.specs.Prelude.{ℕ, zero, suc, ◌-◌, List, [], ◌∷◌, length, Option, Some, None, Result, Ok, Err, nat_lt, ◌==◌, if◌then◌else◌, slice_get, option_map}
use Rattle.std.specs.Int.{w32, w64}
use Rattle.slee_value.specs.declared.keep.Keep.{Keep}
use Rattle.slee_value.specs.declared.keep.Keep.TheVariants.{All, Last, NoneMissed}
use Rattle.slee_value.specs.declared.fault.ValueBad.TheVariants as bad
use Rattle.slee_value.specs.Reading.{Fault, Part, ◌>>=◌, mapped, pair, Rows, tagged, number_at, i8_at, i64_at, flag_at, option_at, text_at, value_at}
use Rattle.slee_effect.specs.Rising.{name_fall}
use Rattle.slee_effect.specs.declared.reference.Ref.{Ref}
use Rattle.slee_effect.specs.declared.reference.Ref.TheVariants.{Known, Fresh}
use Rattle.slee_effect.specs.declared.value.Val.{Val}
use Rattle.slee_effect.specs.declared.value.Val.TheVariants.{Plain, NewActivity, NewTimer}
use Rattle.slee_effect.specs.declared.tag.TheConstants.{SET_FIELD, SET_ATTR, CREATE, REMOVE, SET_PRIORITY, ATTACH, DETACH, SET_MASK, FIRE, NEW_NULL, END_NULL, SET_TIMER, CANCEL_TIMER, BIND, UNBIND, EMIT, USAGE, SUSPEND, RESUME, KNOWN, FRESH, PLAIN, NEW_ACTIVITY, NEW_TIMER, KEEP_ALL, KEEP_LAST, KEEP_NONE}
use Rattle.slee_effect.specs.declared.effect.Effect.{Effect}
use Rattle.slee_effect.specs.declared.effect.Effect.TheVariants.{SetField, SetAttr, Create, Remove, SetPriority, Attach, Detach, SetMask, Fire, NewNull, EndNull, SetTimer, CancelTimer, Bind, Unbind, Emit, Usage, Suspend, Resume}

-- a part without bytes
abbrev pub nothing_at : List ℕ → Part (Unit {0})
nothing_at bytes = Ok (tt, bytes)

-- what a timer does with occurrences that were missed
abbrev pub keeps_by_tag : Rows Keep
keeps_by_tag =
    (KEEP_ALL, mapped (λ p. All) nothing_at)
    ∷ (KEEP_LAST, mapped (λ p. Last) nothing_at)
    ∷ (KEEP_NONE, mapped (λ p. NoneMissed) nothing_at)
    ∷ []

abbrev pub keep_at : List ℕ → Part Keep
keep_at = tagged keeps_by_tag

-- a reference
abbrev pub refs_by_tag : Rows Ref
refs_by_tag =
    (KNOWN, mapped (λ number. Known number) (number_at w64))
    ∷ (FRESH, mapped (λ place. Fresh place) (number_at w32))
    ∷ []

abbrev pub ref_at : List ℕ → Part Ref
ref_at = tagged refs_by_tag

-- a value in an effect
abbrev pub vals_by_tag : Rows Val
vals_by_tag =
    (PLAIN, mapped (λ value. Plain value) value_at)
    ∷ (NEW_ACTIVITY, mapped (λ place. NewActivity place) (number_at w32))
    ∷ (NEW_TIMER, mapped (λ place. NewTimer place) (number_at w32))
    ∷ []

abbrev pub val_at : List ℕ → Part Val
val_at = tagged vals_by_tag

-- where a name can't go on to come after the one before, if there is one
abbrev pub fall_behind : Option (List ℕ) → List ℕ → Option ℕ
fall_behind None bytes = None
fall_behind (Some before) bytes = name_fall before [] 4 bytes

-- the fault that stands first
abbrev pub in_order : {A : Type 0} → Option ℕ → Part A → Part A
in_order None read = read
in_order (Some left) (Ok x) = Err (record { left = left; kind = bad.Tag })
in_order (Some left) (Err f) = if nat_lt f.left left then Err (record { left = left; kind = bad.Tag }) else Err f

-- a name that comes after the one before, if there is one
abbrev pub name_at : Option (List ℕ) → List ℕ → Part (List ℕ)
name_at before bytes = in_order (fall_behind before bytes) (text_at bytes)

abbrev pub field_at : Option (List ℕ) → List ℕ → Part (List ℕ × Val)
field_at before = pair (name_at before) val_at

-- the name of the last field, if there is one
abbrev pub last_name : List (List ℕ × Val) → Option (List ℕ)
last_name fields = option_map (λ f. f.0) (slice_get fields (length fields - 1))

-- so many fields behind the one of that name
unfoldable pub rows_at : ℕ → Option (List ℕ) → List ℕ → Part (List (List ℕ × Val))
rows_at zero before bytes = Ok ([], bytes)
rows_at (suc n) before bytes = field_at before bytes >>= λ x. rows_at n (Some x.0.0) x.1 >>= λ y. Ok (x.0 ∷ y.0, y.1)

abbrev pub fields_at : List ℕ → Part (List (List ℕ × Val))
fields_at bytes = number_at w32 bytes >>= λ n. rows_at n.0 None n.1

-- what stands behind the byte of each effect
abbrev pub effects_by_tag : Rows Effect
effects_by_tag =
    (SET_FIELD, mapped (λ p. SetField p.0 p.1.0 p.1.1) (pair ref_at (pair text_at val_at)))
    ∷ (SET_ATTR, mapped (λ p. SetAttr p.0 p.1.0 p.1.1) (pair ref_at (pair text_at val_at)))
    ∷ (CREATE, mapped (λ p. Create p.0 p.1.0 p.1.1) (pair ref_at (pair text_at i8_at)))
    ∷ (REMOVE, mapped (λ p. Remove p) ref_at)
    ∷ (SET_PRIORITY, mapped (λ p. SetPriority p.0 p.1) (pair ref_at i8_at))
    ∷ (ATTACH, mapped (λ p. Attach p.0 p.1) (pair ref_at ref_at))
    ∷ (DETACH, mapped (λ p. Detach p.0 p.1) (pair ref_at ref_at))
    ∷ (SET_MASK, mapped (λ p. SetMask p.0 p.1.0 p.1.1.0 p.1.1.1) (pair ref_at (pair ref_at (pair text_at flag_at))))
    ∷ (FIRE, mapped (λ p. Fire p.0 p.1.0 p.1.1.0 p.1.1.1) (pair ref_at (pair text_at (pair (option_at text_at) fields_at))))
    ∷ (NEW_NULL, mapped (λ p. NewNull) nothing_at)
    ∷ (END_NULL, mapped (λ p. EndNull p) ref_at)
    ∷ (SET_TIMER, mapped (λ p. SetTimer p.0 p.1.0 p.1.1.0 p.1.1.1.0 p.1.1.1.1) (pair ref_at (pair (number_at w64) (pair (number_at w64) (pair (number_at w64) keep_at)))))
    ∷ (CANCEL_TIMER, mapped (λ p. CancelTimer p) ref_at)
    ∷ (BIND, mapped (λ p. Bind p.0 p.1) (pair text_at ref_at))
    ∷ (UNBIND, mapped (λ p. Unbind p) text_at)
    ∷ (EMIT, mapped (λ p. Emit p.0 p.1) (pair ref_at text_at))
    ∷ (USAGE, mapped (λ p. Usage p.0 p.1.0 p.1.1) (pair ref_at (pair text_at i64_at)))
    ∷ (SUSPEND, mapped (λ p. Suspend p.0 p.1) (pair ref_at (number_at w64)))
    ∷ (RESUME, mapped (λ p. Resume p) ref_at)
    ∷ []

-- the effect at the front of the bytes, and the bytes behind it
abbrev pub effect_at : List ℕ → Part Effect
effect_at = tagged effects_by_tag

unfoldable pub items_at : ℕ → List ℕ → Part (List Effect)
items_at zero bytes = Ok ([], bytes)
items_at (suc n) bytes = effect_at bytes >>= λ x. items_at n x.1 >>= λ y. Ok (x.0 ∷ y.0, y.1)

abbrev pub effects_at : List ℕ → Part (List Effect)
effects_at bytes = number_at w32 bytes >>= λ n. items_at n.0 n.1

-- the list that the bytes are, all of them
abbrev pub list_of : List ℕ → Result (List Effect) Fault
list_of bytes = effects_at bytes >>= λ x. if length x.1 == 0 then Ok x.0 else Err (record { left = length x.1; kind = bad.Tag })
