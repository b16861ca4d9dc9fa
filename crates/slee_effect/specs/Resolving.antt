-- Numbers in place of what a list of effects creates.
use Rattle.std.specs.Prelude.{ℕ, ◌+◌, ◌<◌, ◌^◌, List, map, ⊤}
use Rattle.std.specs.List.{AllByRecursion}
use Rattle.slee_value.specs.declared.value.Value.TheVariants.{Activity, Timer}
use Rattle.slee_effect.specs.declared.reference.Ref.{Ref}
use Rattle.slee_effect.specs.declared.reference.Ref.TheVariants.{Known, Fresh}
use Rattle.slee_effect.specs.declared.value.Val.{Val}
use Rattle.slee_effect.specs.declared.value.Val.TheVariants.{Plain, NewActivity, NewTimer}
use Rattle.slee_effect.specs.declared.effect.Effect.{Effect}
use Rattle.slee_effect.specs.declared.effect.Effect.TheVariants.{SetField, SetAttr, Create, Remove, SetPriority, Attach, Detach, SetMask, Fire, NewNull, EndNull, SetTimer, CancelTimer, Bind, Unbind, Emit, Usage, Suspend, Resume}
use Rattle.slee_effect.specs.declared.next.Next.{Next}

-- the k-th that is created gets the next number and k
abbrev pub resolved_ref : ℕ → Ref → Ref
resolved_ref next (Known number) = Known number
resolved_ref next (Fresh place) = Known (next + place)

abbrev pub resolved_val : Next → Val → Val
resolved_val next (Plain value) = Plain value
resolved_val next (NewActivity place) = Plain (Activity (record { 0 = next.activity + place }))
resolved_val next (NewTimer place) = Plain (Timer (record { 0 = next.timer + place }))

abbrev pub resolved_field : Next → List ℕ × Val → List ℕ × Val
resolved_field next field = (field.0, resolved_val next field.1)

abbrev pub resolved_effect : Next → Effect → Effect
resolved_effect next (SetField entity name value) = SetField (resolved_ref next.entity entity) name (resolved_val next value)
resolved_effect next (SetAttr activity key value) = SetAttr (resolved_ref next.activity activity) key (resolved_val next value)
resolved_effect next (Create parent relation priority) = Create (resolved_ref next.entity parent) relation priority
resolved_effect next (Remove entity) = Remove (resolved_ref next.entity entity)
resolved_effect next (SetPriority entity priority) = SetPriority (resolved_ref next.entity entity) priority
resolved_effect next (Attach entity activity) = Attach (resolved_ref next.entity entity) (resolved_ref next.activity activity)
resolved_effect next (Detach entity activity) = Detach (resolved_ref next.entity entity) (resolved_ref next.activity activity)
resolved_effect next (SetMask entity activity event on) = SetMask (resolved_ref next.entity entity) (resolved_ref next.activity activity) event on
resolved_effect next (Fire activity event service fields) = Fire (resolved_ref next.activity activity) event service (map (resolved_field next) fields)
resolved_effect next NewNull = NewNull
resolved_effect next (EndNull activity) = EndNull (resolved_ref next.activity activity)
resolved_effect next (SetTimer activity start period times keep) = SetTimer (resolved_ref next.activity activity) start period times keep
resolved_effect next (CancelTimer timer) = CancelTimer (resolved_ref next.timer timer)
resolved_effect next (Bind name activity) = Bind name (resolved_ref next.activity activity)
resolved_effect next (Unbind name) = Unbind name
resolved_effect next (Emit entity text) = Emit (resolved_ref next.entity entity) text
resolved_effect next (Usage entity name amount) = Usage (resolved_ref next.entity entity) name amount
resolved_effect next (Suspend activity until) = Suspend (resolved_ref next.activity activity) until
resolved_effect next (Resume activity) = Resume (resolved_ref next.activity activity)

-- each number that this gives is one of 64 bits
abbrev pub CanResolveRef : ℕ → Ref → Type 0
CanResolveRef next (Known number) = ⊤
CanResolveRef next (Fresh place) = next + place < 2 ^ 64

abbrev pub CanResolveVal : Next → Val → Type 0
CanResolveVal next (Plain value) = ⊤
CanResolveVal next (NewActivity place) = next.activity + place < 2 ^ 64
CanResolveVal next (NewTimer place) = next.timer + place < 2 ^ 64

abbrev pub CanResolveField : Next → List ℕ × Val → Type 0
CanResolveField next field = CanResolveVal next field.1

abbrev pub CanResolve : Next → Effect → Type 0
CanResolve next (SetField entity name value) = CanResolveRef next.entity entity × CanResolveVal next value
CanResolve next (SetAttr activity key value) = CanResolveRef next.activity activity × CanResolveVal next value
CanResolve next (Create parent relation priority) = CanResolveRef next.entity parent
CanResolve next (Remove entity) = CanResolveRef next.entity entity
CanResolve next (SetPriority entity priority) = CanResolveRef next.entity entity
CanResolve next (Attach entity activity) = CanResolveRef next.entity entity × CanResolveRef next.activity activity
CanResolve next (Detach entity activity) = CanResolveRef next.entity entity × CanResolveRef next.activity activity
CanResolve next (SetMask entity activity event on) = CanResolveRef next.entity entity × CanResolveRef next.activity activity
CanResolve next (Fire activity event service fields) = CanResolveRef next.activity activity × AllByRecursion (CanResolveField next) fields
CanResolve next NewNull = ⊤
CanResolve next (EndNull activity) = CanResolveRef next.activity activity
CanResolve next (SetTimer activity start period times keep) = CanResolveRef next.activity activity
CanResolve next (CancelTimer timer) = CanResolveRef next.timer timer
CanResolve next (Bind name activity) = CanResolveRef next.activity activity
CanResolve next (Unbind name) = ⊤
CanResolve next (Emit entity text) = CanResolveRef next.entity entity
CanResolve next (Usage entity name amount) = CanResolveRef next.entity entity
CanResolve next (Suspend activity until) = CanResolveRef next.activity activity
CanResolve next (Resume activity) = CanResolveRef next.activity activity
