-- What a run had seen where it made its effects.
use Rattle.std.specs.Prelude.{◌≡◌, ℕ, ℤ, pos, negsuc, ◌+ℤ◌, int_le, unsigned_abs, Bool, true, false, List, [], ◌∷◌, ◌++◌, Option, Some, is_none, bytes_eq, option_and_then}
use Rattle.slee_effect.specs.declared.effect.Effect.{Effect}
use Rattle.slee_effect.specs.declared.effect.Effect.TheVariants as ef
use Rattle.slee_effect.specs.declared.reference.Ref.{Ref}
use Rattle.script_meaning.specs.Answers.{Answers, activity_in, flag_in, number_in, refers_in}
use Rattle.script_meaning.specs.Doing.{is_within, last_moment}
use Rattle.script_meaning.specs.Observing as read
use Rattle.script_meaning.specs.Overlay.{activities_by, activity_after, attached_after, named_after, overlay}
use Rattle.script_meaning.specs.declared.key.Key.TheVariants as keys
use Rattle.script_meaning.specs.declared.seen.AcSeen.{AcSeen}

-- what a run had seen of an activity after these effects
abbrev pub SeenAfter : Answers → List Effect → Ref → AcSeen → Type 0
SeenAfter answers before r x = overlay activities_by (activity_after r) before (activity_in (option_and_then answers (read.key_of (λ n. keys.AcState (record { 0 = n })) r))) ≡ Some x

-- the activity was there
abbrev pub IsUsed : Answers → List Effect → Ref → Type 0
IsUsed answers before r = (x : AcSeen) × SeenAfter answers before r x

-- it was there and Active
abbrev pub IsUsedActive : Answers → List Effect → Ref → Type 0
IsUsedActive answers before r = (x : AcSeen) × SeenAfter answers before r x × (x.ending ≡ false)

-- what a name stood for after these effects
abbrev pub NameAfter : Answers → List Effect → List ℕ → Option Ref
NameAfter answers before name = overlay activities_by (named_after name) before (refers_in (answers (keys.Named name)))

-- whether an entity was attached after these effects
abbrev pub AttachedAfter : Answers → List Effect → Ref → Ref → Bool
AttachedAfter answers before e r =
    overlay activities_by (attached_after e r) before (flag_in (option_and_then answers (read.key_of_two (λ m n. keys.Attached (record { 0 = m }) (record { 0 = n })) e r)))

-- it was there, Active and null
abbrev pub IsUsedNull : Answers → List Effect → Ref → Type 0
IsUsedNull answers before r = (x : AcSeen) × SeenAfter answers before r x × (x.ending ≡ false) × (x.null ≡ true)

-- a moment that lies so far behind the time that was read, and not behind the last one
abbrev pub IsLater : Answers → ℕ → Type 0
IsLater answers until =
    (n : ℤ) × (is_within (pos 1) last_moment n ≡ true) × (int_le (number_in (answers keys.Now) +ℤ n) last_moment ≡ true) × (until ≡ unsigned_abs (number_in (answers keys.Now) +ℤ n))

-- Each effect was made where the run had seen it may be: an activity that it names was there, and Active, null or attached where the
-- effect asks it; a name that is bound stood for nothing, and one that is unbound for something; numbers lie in their ranges.
abbrev pub Guard : Answers → List Effect → Effect → Type 0
Guard answers before (ef.SetAttr activity key value) = IsUsed answers before activity
Guard answers before (ef.SetPriority entity priority) = is_within (negsuc 127) (pos 127) priority ≡ true
Guard answers before (ef.Attach entity activity) = IsUsedActive answers before activity
Guard answers before (ef.Detach entity activity) = IsUsed answers before activity
Guard answers before (ef.SetMask entity activity event on) = IsUsed answers before activity × (AttachedAfter answers before entity activity ≡ true)
Guard answers before (ef.Fire activity event service fields) = IsUsedActive answers before activity
Guard answers before (ef.EndNull activity) = IsUsedNull answers before activity
Guard answers before (ef.SetTimer activity start period times keep) = IsUsedActive answers before activity
Guard answers before (ef.Bind name activity) = (bytes_eq name [] ≡ false) × IsUsedActive answers before activity × (is_none (NameAfter answers before name) ≡ true)
Guard answers before (ef.Unbind name) = is_none (NameAfter answers before name) ≡ false
Guard answers before (ef.Suspend activity until) = IsLater answers until
Guard answers before (ef.Resume activity) = IsUsed answers before activity
Guard answers before _ = Unit {0}

-- so it is with each of these effects, behind those before it
abbrev pub Guarded : Answers → List Effect → List Effect → Type 0
Guarded answers before [] = Unit {0}
Guarded answers before (e ∷ es) = Guard answers before e × Guarded answers (before ++ e ∷ []) es
