-- What a script asks of the state, and how an answer is read. One that isn't of the key's form, or whose value isn't of the kind that is asked for, is read as the empty answer.
use Rattle.std.specs.Prelude.{ℕ, ℤ, pos, Bool, true, false, List, [], ◌∷◌, Option, Some, None, bytes_eq, if◌then◌else◌}
use Rattle.slee_value.specs.declared.ids.ActivityId.{ActivityId}
use Rattle.slee_value.specs.declared.kind.Kind.{Kind}
use Rattle.slee_value.specs.declared.kind.Kind.TheVariants as kind
use Rattle.slee_value.specs.declared.value.Value.{Value}
use Rattle.slee_value.specs.declared.value.Value.TheVariants as v
use Rattle.slee_effect.specs.declared.reference.Ref.{Ref}
use Rattle.slee_effect.specs.declared.reference.Ref.TheVariants.{Known}
use Rattle.slee_effect.specs.declared.value.Val.{Val}
use Rattle.slee_effect.specs.declared.value.Val.TheVariants.{Plain, NewActivity, NewTimer}
use Rattle.script_meaning.specs.declared.key.Key.{Key}
use Rattle.script_meaning.specs.Seeing.{same_key}
use Rattle.script_meaning.specs.declared.seen.AcSeen.{AcSeen}
use Rattle.script_meaning.specs.declared.seen.Seen.{Seen}
use Rattle.script_meaning.specs.declared.seen.Seen.TheVariants as s

-- Scripts run over any answers: the state's, or those that were kept.
abbrev pub Answers : Type 0
Answers = Key → Option Seen

-- the initial value of a kind
abbrev pub initial : Kind → Val
initial kind.Int = Plain (v.Int (pos 0))
initial kind.Text = Plain (v.Text [])
initial kind.Bool = Plain (v.Bool false)
initial kind.Activity = Plain (v.Activity (record { 0 = 0 }))
initial kind.Timer = Plain (v.Timer (record { 0 = 0 }))

-- whether a value is of the kind
abbrev pub is_of : Kind → Val → Bool
is_of kind.Int (Plain (v.Int n)) = true
is_of kind.Text (Plain (v.Text t)) = true
is_of kind.Bool (Plain (v.Bool b)) = true
is_of kind.Activity (Plain (v.Activity a)) = true
is_of kind.Timer (Plain (v.Timer t)) = true
is_of kind.Activity (NewActivity n) = true
is_of kind.Timer (NewTimer n) = true
is_of _ _ = false

-- a value of the kind stays, and any other is read as the initial one
abbrev pub fit : Kind → Val → Val
fit q x = if is_of q x then x else initial q

-- the answer to a key that isn't there is none; a field that isn't set is read as the initial value
abbrev pub held_in : Kind → Option Seen → Val
held_in q (Some (s.Held (Some value))) = Plain value
held_in q _ = initial q

abbrev pub ids_in : Option Seen → List ℕ
ids_in (Some (s.Ids ids)) = ids
ids_in _ = []

abbrev pub number_in : Option Seen → ℤ
number_in (Some (s.Number n)) = n
number_in _ = pos 0

abbrev pub activity_in : Option Seen → Option AcSeen
activity_in (Some (s.Ac seen)) = seen
activity_in _ = None

abbrev pub flag_in : Option Seen → Bool
flag_in (Some (s.Flag b)) = b
flag_in _ = false

abbrev pub masks_in : Option Seen → Option (List (List ℕ))
masks_in (Some (s.Masks names)) = names
masks_in _ = None

abbrev pub known_activity : Option ActivityId → Option Ref
known_activity None = None
known_activity (Some a) = Some (Known a.0)

abbrev pub refers_in : Option Seen → Option Ref
refers_in (Some (s.Refers a)) = known_activity a
refers_in _ = None

abbrev pub row_in : Option Seen → Option (List (List ℕ × Value))
row_in (Some (s.Row row)) = row
row_in _ = None

-- the value that stands under a name
abbrev pub value_under : List ℕ → List (List ℕ × Value) → Option Val
value_under name [] = None
value_under name (f ∷ fields) = if bytes_eq f.0 name then Some (Plain f.1) else value_under name fields

-- the answers that were kept, each beside its key
abbrev pub kept : List (Key × Seen) → Answers
kept [] key = None
kept (x ∷ known) key = if same_key x.0 key then Some x.1 else kept known key
