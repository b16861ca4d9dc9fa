-- Forms of JSON values: for each, the first fault that a value has of it.
use Rattle.std.specs.Prelude.{ℕ, ℤ, pos, negsuc, ◌+◌, ◌||◌, if◌then◌else◌, Bool, true, false, List, [], ◌∷◌, Option, Some, None, option_and_then, decimal, bytes_eq, int_lt, is_some}
use Rattle.serde_json.specs.Data.{Data, Items, no_items, item, Members, no_members, member}
use Rattle.serde_json.specs.Find.{as_array, as_object, as_bool, as_null, as_number, as_i64, get}
use Rattle.slee_value.specs.Name.{is_name}
use Rattle.script_tree.specs.Tree.{Bytes}
use Rattle.deploy_model.specs.declared.fault.DeployBad.TheVariants as bad
use Rattle.deploy_model.specs.Faults.{Fault, here, unless, under, and_then}
use Rattle.deploy_schema.specs.Pointers.{escaped}

-- The first fault of a value, by the number of the list's item in which it stands and by the object that has it.
abbrev pub Form : Type 0
Form = ℕ → Data → Data → Option Fault

-- The items of an array, each by its number, counted from n.
abbrev pub items_fault : (ℕ → Data → Option Fault) → ℕ → Items → Option Fault
items_fault form n no_items = None
items_fault form n (item d ds) = and_then (under (decimal n) (form n d)) (items_fault form (n + 1) ds)

abbrev pub list_or_type : (ℕ → Data → Option Fault) → Option Items → Option Fault
list_or_type form None = here bad.WrongType
list_or_type form (Some ds) = items_fault form 0 ds

-- An array, each item of one form.
abbrev pub list_of : Form → Form
list_of form number owner d = list_or_type (λ n. form n owner) (as_array d)

-- The members of an object, each by its name.
abbrev pub entries_fault : (Bytes → Data → Option Fault) → Members → Option Fault
entries_fault form no_members = None
entries_fault form (member k d ms) = and_then (under (escaped k) (form k d)) (entries_fault form ms)

abbrev pub map_or_type : (Bytes → Data → Option Fault) → Option Members → Option Fault
map_or_type form None = here bad.WrongType
map_or_type form (Some ms) = entries_fault form ms

-- An object that stands for a map: the form of each member may go by its name.
abbrev pub map_of : (Bytes → Form) → Form
map_of form number owner d = map_or_type (λ k. form k number owner) (as_object d)

-- The form of names.
abbrev pub name_rule : Bytes → Option Fault
name_rule s = unless (is_name s) bad.BadName

-- A member of a map whose name is of the form of names.
abbrev pub named : Form → Bytes → Form
named form k number owner d = and_then (name_rule k) (form number owner d)

-- A member of an object with a table of members.
pub record Want : Type 0 where
  pub name : Bytes
  pub needed : Bool
  pub form : Form

abbrev pub need : Bytes → Form → Want
need name form = record { name = name; needed = true; form = form }

abbrev pub may : Bytes → Form → Want
may name form = record { name = name; needed = false; form = form }

abbrev pub value_fault : Want → ℕ → Data → Option Data → Option Fault
value_fault w number owner None = if w.needed then here bad.Missing else None
value_fault w number owner (Some d) = w.form number owner d

-- The first fault of the members that are wanted, in the table's order.
abbrev pub wants_fault : List Want → ℕ → Data → Option Fault
wants_fault [] number d = None
wants_fault (w ∷ ws) number d = and_then (under w.name (value_fault w number d (get w.name d))) (wants_fault ws number d)

-- Whether the table has a member of this name.
abbrev pub knows : List Want → Bytes → Bool
knows [] name = false
knows (w ∷ ws) name = bytes_eq w.name name || knows ws name

abbrev pub other_fault : (Bytes → Bool) → Bytes → Option Fault
other_fault known k = if known k then None else under (escaped k) (here bad.UnknownMember)

-- The first member that isn't wanted, in byte order.
abbrev pub others_fault : (Bytes → Bool) → Members → Option Fault
others_fault known no_members = None
others_fault known (member k d ms) = and_then (other_fault known k) (others_fault known ms)

abbrev pub object_or_type : List Want → ℕ → Data → Option Members → Option Fault
object_or_type ws number d None = here bad.WrongType
object_or_type ws number d (Some ms) = and_then (wants_fault ws number d) (others_fault (knows ws) ms)

-- An object that has the members of a table and no others.
abbrev pub object : List Want → Form
object ws number owner d = object_or_type ws number d (as_object d)

-- The least and the greatest priority.
abbrev pub least_priority : ℤ
least_priority = negsuc 127

abbrev pub greatest_priority : ℤ
greatest_priority = pos 127

abbrev pub number_or_type : Option ℤ → Option Fault
number_or_type None = here bad.WrongType
number_or_type (Some z) = if int_lt z least_priority || int_lt greatest_priority z then here bad.Range else None

-- A priority.
abbrev pub priority : Form
priority number owner d = number_or_type (option_and_then as_i64 (as_number d))

abbrev pub flag_or_type : Option Bool → Option Fault
flag_or_type None = here bad.WrongType
flag_or_type (Some b) = None

-- A truth value.
abbrev pub flag : Form
flag number owner d = flag_or_type (as_bool d)

-- A value of a form, or null.
abbrev pub or_null : Form → Form
or_null form number owner d = if is_some (as_null d) then None else form number owner d
