-- Which item of an array a name stands for, and what is looked up in values.
use Rattle.std.specs.Prelude.{ℕ, ◌+◌, if◌then◌else◌, Bool, false, Option, Some, None, option_and_then, option_map, bytes_eq}
use Rattle.std.specs.HashMap.{HashMap, get_by}
use Rattle.std.specs.declared.hash.FoldHasher.{FoldHasher}
use Rattle.std.specs.declared.hash.BuildHasherDefault.{BuildHasherDefault}
use denote.Ref.{Bor}
use Rattle.serde_json.specs.Data.{Data, Items, no_items, item}
use Rattle.serde_json.specs.Find.{get, as_str, as_array}
use Rattle.script_tree.specs.Tree.{Bytes}
use Rattle.deploy_model.specs.Rules.{Numbering, or_later}
use Rattle.deploy_schema.specs.declared.firsts.Firsts.{Firsts}

-- The text that an object has at a member.
abbrev pub member_text : Bytes → Data → Option Bytes
member_text name d = option_and_then as_str (get name d)

-- The value, where this is its name.
abbrev pub where_named : {V : Type 0} → V → Option Bytes → Bytes → Option V
where_named value None q = None
where_named value (Some name) q = if bytes_eq q name then Some value else None

-- The number of the first item whose text at a member is q, counted from n. Items with faults of their own count too.
abbrev pub numbers_from : Bytes → ℕ → Items → Numbering
numbers_from name n no_items q = None
numbers_from name n (item d ds) q = or_later (where_named n (member_text name d) q) (numbers_from name (n + 1) ds q)

abbrev pub items_or_none : Option Items → Items
items_or_none None = no_items
items_or_none (Some ds) = ds

-- The items of a value, none where it is no array.
abbrev pub items_of : Data → Items
items_of d = items_or_none (as_array d)

-- The items of an array that an object has at a member.
abbrev pub items_at : Bytes → Data → Items
items_at name d = items_or_none (option_and_then as_array (get name d))

-- What an index has for a name.
abbrev pub found_in : {V : Type 0} → HashMap (Bor Bytes) V (BuildHasherDefault FoldHasher) → Bytes → Option V
found_in m q = get_by (λ k. bytes_eq q k.now) m

abbrev pub answer_of : {V : Type 0} → Firsts V → Bytes → Option V
answer_of f = found_in f.found
