-- What terms give. A node's unit is spent before its parts.
use Rattle.std.specs.Prelude.{ℕ, pos, neg_ℤ, Bool, false, not, List, length, Option, Some, None, is_some, bytes_eq, if◌then◌else◌, option_map, slice_get}
use Rattle.std.specs.List.{list_any}
use Rattle.slee_value.specs.declared.kind.Kind.{Kind}
use Rattle.slee_value.specs.declared.value.Value.{Value}
use Rattle.slee_value.specs.declared.value.Value.TheVariants as v
use Rattle.slee_effect.specs.declared.reference.Ref.{Ref}
use Rattle.slee_effect.specs.declared.value.Val.{Val}
use Rattle.slee_effect.specs.declared.value.Val.TheVariants.{Plain}
use Rattle.script_meaning.specs.declared.key.Key.TheVariants as k
use Rattle.script_meaning.specs.declared.seen.AcSeen.{AcSeen}
use Rattle.script_meaning.specs.declared.outcome.FailKind.TheVariants as f
use Rattle.script_types.specs.declared.term.Atom.{Atom}
use Rattle.script_types.specs.declared.term.Atom.TheVariants as a
use Rattle.script_types.specs.declared.term.Question.{Question}
use Rattle.script_types.specs.declared.term.Question.TheVariants as q
use Rattle.script_types.specs.declared.term.Joint.{Joint}
use Rattle.script_types.specs.Program.{Term, Single, Ask, Compare, Combine}
use Rattle.script_meaning.specs.Answers.{fit, initial, is_of, row_in, value_under}
use Rattle.script_meaning.specs.Running.{Setting, Run, ◌>>=◌, give, break, ticked, look}
use Rattle.script_meaning.specs.Values.{int, text, flag, activity_value, with_int, with_text, with_flag, with_activity, with_timer, number, apply, decides, compare, text_of_int, text_of_bool}
use Rattle.script_meaning.specs.Observing as read

abbrev pub or_initial : Kind → Option Val → Val
or_initial kind None = initial kind
or_initial kind (Some x) = fit kind x

-- the field of an event in this place
abbrev pub field_at : ℕ → List (List ℕ × Value) → Option Val
field_at place fields = option_map (λ x. Plain x.1) (slice_get fields place)

-- a term without parts
abbrev pub single : Setting → Atom → Run Val
single s (a.Constant x) = give (Plain x)
single s a.Now = do
  n ← read.now s
  give (int n)
single s a.Activity = give (Plain (v.Activity s.arguments.activity))
single s a.Failure = give (text s.arguments.failure)
single s (a.Slot i) = read.value i
single s (a.Field x kind) = read.field s x.name kind
single s (a.EventField place kind) = give (or_initial kind (field_at place s.arguments.fields))
single s (a.Count relation) = do
  refs ← read.children s relation.name
  give (int (pos (length refs)))
single s (a.Priority i) = do
  e ← read.child s i
  n ← read.priority s e
  give (int n)

-- active(a)
abbrev pub is_active : Option AcSeen → Bool
is_active None = false
is_active (Some seen) = not seen.ending

-- masked(TEXT, a), of the masks of an attachment
abbrev pub is_masked : List ℕ → Option (List (List ℕ)) → Run Val
is_masked event None = break f.Detached
is_masked event (Some names) = give (flag (list_any (bytes_eq event) names))

-- lookup(e), of what the name stands for
abbrev pub looked_up : Option Ref → Run Val
looked_up None = break f.Unbound
looked_up (Some a) = give (activity_value a)

-- a row's value, which has to be of the kind
abbrev pub in_row : Kind → Option Val → Run Val
in_row kind None = break f.NoRow
in_row kind (Some x) = if is_of kind x then give x else break f.NoRow

abbrev pub of_row : List ℕ → Kind → Option (List (List ℕ × Value)) → Run Val
of_row name kind None = break f.NoRow
of_row name kind (Some row) = in_row kind (value_under name row)

-- a row of a table, if it is there
abbrev pub row : Setting → List ℕ → List ℕ → Run (Option (List (List ℕ × Value)))
row s table name = do
  seen ← look s (Some (k.Profile table name))
  give (row_in seen)

-- what is asked of a value
abbrev pub ask : Setting → Question → Val → Run Val
ask s q.Negative x = with_int x (λ n. number (neg_ℤ n))
ask s q.Not x = with_flag x (λ b. give (flag (not b)))
ask s q.TextOfInt x = text_of_int x
ask s q.TextOfBool x = text_of_bool x
ask s q.Len x = with_text x (λ t. give (int (pos (length t))))
ask s q.Active x = with_activity x (λ a. do
  seen ← read.state_of s a
  give (flag (is_active seen)))
ask s q.Attached x = with_activity x (λ a. do
  _ ← read.used s a
  b ← read.attached s a
  give (flag b))
ask s (q.Masked event) x = with_activity x (λ a. do
  _ ← read.used s a
  names ← read.masks s a
  is_masked event.name names)
ask s (q.Attribute key kind) x = with_activity x (λ a. do
  _ ← read.used s a
  read.attribute s key.name kind a)
ask s q.Bound x = with_text x (λ name. do
  a ← read.named s name
  give (flag (is_some a)))
ask s q.Lookup x = with_text x (λ name. do
  a ← read.named s name
  looked_up a)
ask s (q.Profile table name kind) x = with_text x (λ key. do
  found ← row s table.name key
  of_row name.name kind found)
ask s (q.HasProfile table) x = with_text x (λ key. do
  found ← row s table.name key
  give (flag (is_some found)))
ask s q.HasTimer x = with_timer x (λ t. do
  a ← read.timer s t
  give (flag (is_some a)))

-- an operator behind its left side, which may be the whole
abbrev pub combine : Joint → Val → Run Val → Run Val
combine joint x m = if decides joint x then give x else do
  y ← m
  apply joint x y

-- a term's value, behind its first unit
abbrev pub node : Setting → Term → Run Val
node s (Single x) = single s x
node s (Ask question a) = do
  x ← ticked (node s a)
  ask s question x
node s (Compare test a b) = do
  x ← ticked (node s a)
  y ← ticked (node s b)
  compare test x y
node s (Combine joint a b) = do
  x ← ticked (node s a)
  combine joint x (ticked (node s b))

-- a term's value
abbrev pub eval : Setting → Term → Run Val
eval s a = ticked (node s a)
