-- Reading the state through keys, with the effects so far laid over each answer. What the run itself made has no keys.
use Rattle.std.specs.Prelude.{ℕ, ℤ, Bool, not, List, map, Option, Some, None}
use Rattle.slee_value.specs.declared.kind.Kind.{Kind}
use Rattle.slee_effect.specs.declared.reference.Ref.{Ref}
use Rattle.slee_effect.specs.declared.reference.Ref.TheVariants.{Known, Fresh}
use Rattle.slee_effect.specs.declared.value.Val.{Val}
use Rattle.script_meaning.specs.declared.key.Key.{Key}
use Rattle.script_meaning.specs.declared.key.Key.TheVariants as k
use Rattle.script_meaning.specs.declared.seen.AcSeen.{AcSeen}
use Rattle.script_meaning.specs.declared.outcome.FailKind.TheVariants as f
use Rattle.script_meaning.specs.Answers.{fit, held_in, ids_in, number_in, activity_in, flag_in, masks_in, refers_in}
use Rattle.script_meaning.specs.Overlay.{entities_by, activities_by, timers_by, overlay, field_after, attr_after, children_after, priority_after, activity_after, attached_after, masks_after, named_after, timer_after, activities_after, is_removed}
use Rattle.script_meaning.specs.Running.{Setting, Variable, Holds, Child, Run, ◌>>=◌, give, stay, break, tested, look, effects_of, variable}

-- the key of a known thing
abbrev pub key_of : (ℕ → Key) → Ref → Option Key
key_of key (Known n) = Some (key n)
key_of key (Fresh n) = None

-- the key of an entity with an activity
abbrev pub key_of_two : (ℕ → ℕ → Key) → Ref → Ref → Option Key
key_of_two key (Known m) (Known n) = Some (key m n)
key_of_two key _ _ = None

-- a field of the entity, of the kind that the script has there
abbrev pub field : Setting → List ℕ → Kind → Run Val
field s name q = do
  seen ← look s (key_of (λ n. k.Field (record { 0 = n }) name) s.me)
  effects ← effects_of s
  give (fit q (overlay entities_by (field_after s.me name) effects (held_in q seen)))

-- the time
abbrev pub now : Setting → Run ℤ
now s = do
  seen ← look s (Some k.Now)
  give (number_in seen)

-- what is seen of an activity, if it is there
abbrev pub state_of : Setting → Ref → Run (Option AcSeen)
state_of s a = do
  seen ← look s (key_of (λ n. k.AcState (record { 0 = n })) a)
  effects ← effects_of s
  give (overlay activities_by (activity_after a) effects (activity_in seen))

abbrev pub there : Option AcSeen → Run AcSeen
there None = break f.Gone
there (Some seen) = give seen

-- an activity that is used has to be there
abbrev pub used : Setting → Ref → Run AcSeen
used s a = do
  seen ← state_of s a
  there seen

-- and for some uses it has to be Active
abbrev pub used_active : Setting → Ref → Run AcSeen
used_active s a = do
  seen ← used s a
  _ ← tested f.Ending (not seen.ending)
  give seen

abbrev pub attribute : Setting → List ℕ → Kind → Ref → Run Val
attribute s key q a = do
  seen ← look s (key_of (λ n. k.Attr (record { 0 = n }) key) a)
  effects ← effects_of s
  give (fit q (overlay activities_by (attr_after a key) effects (held_in q seen)))

abbrev pub attached : Setting → Ref → Run Bool
attached s a = do
  seen ← look s (key_of_two (λ m n. k.Attached (record { 0 = m }) (record { 0 = n })) s.me a)
  effects ← effects_of s
  give (overlay activities_by (attached_after s.me a) effects (flag_in seen))

-- the events that the entity masks on the activity, if it is attached
abbrev pub masks : Setting → Ref → Run (Option (List (List ℕ)))
masks s a = do
  seen ← look s (key_of_two (λ m n. k.Mask (record { 0 = m }) (record { 0 = n })) s.me a)
  effects ← effects_of s
  give (overlay activities_by (masks_after s.masks s.me a) effects (masks_in seen))

-- the activity that a name stands for
abbrev pub named : Setting → List ℕ → Run (Option Ref)
named s name = do
  seen ← look s (Some (k.Named name))
  effects ← effects_of s
  give (overlay activities_by (named_after name) effects (refers_in seen))

-- the activity on which a timer stands
abbrev pub timer : Setting → Ref → Run (Option Ref)
timer s t = do
  seen ← look s (key_of (λ n. k.Timer (record { 0 = n })) t)
  effects ← effects_of s
  give (overlay timers_by (timer_after t) effects (refers_in seen))

-- the children of a relation, new ones last
abbrev pub children : Setting → List ℕ → Run (List Ref)
children s relation = do
  seen ← look s (key_of (λ n. k.Children (record { 0 = n }) relation) s.me)
  effects ← effects_of s
  give (overlay entities_by (children_after s.me relation) effects (map Known (ids_in seen)))

-- the entity's activities, new ones last
abbrev pub activities : Setting → Run (List Ref)
activities s = do
  seen ← look s (key_of (λ n. k.Activities (record { 0 = n })) s.me)
  effects ← effects_of s
  give (overlay activities_by (activities_after s.me) effects (map Known (ids_in seen)))

abbrev pub priority : Setting → Ref → Run ℤ
priority s e = do
  seen ← look s (key_of (λ n. k.Priority (record { 0 = n })) e)
  effects ← effects_of s
  give (overlay entities_by (priority_after e) effects (number_in seen))

abbrev pub only_child : Variable → Run Ref
only_child (Child e) = give e
only_child (Holds x) = stay

-- the child in a place of the scope, which is gone where this run removed it
abbrev pub child : Setting → ℕ → Run Ref
child s i = do
  x ← variable i
  e ← only_child x
  effects ← effects_of s
  _ ← tested f.Gone (not (is_removed e effects))
  give e

abbrev pub only_value : Variable → Run Val
only_value (Holds x) = give x
only_value (Child e) = stay

-- the value in a place of the scope
abbrev pub value : ℕ → Run Val
value i = do
  x ← variable i
  only_value x
