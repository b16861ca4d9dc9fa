-- The parts of a deployment that the values of a document without fault are, but for scripts.
-- Each definition is total: a text that isn't there counts as empty, a word that names no type as an int, and what may be absent has its default.
use Rattle.std.specs.Prelude.{ℤ, pos, Bool, false, List, [], ◌∷◌, Option, option_and_then, option_map, codes}
use Rattle.std.specs.Option.{unwrap_or}
use Rattle.serde_json.specs.Data.{Data, Items, no_items, item, Members, no_members, member}
use Rattle.serde_json.specs.Find.{get, as_str, as_bool, as_number, as_i64, as_array}
use Rattle.slee_value.specs.declared.kind.Kind.{Kind}
use Rattle.slee_value.specs.declared.kind.Kind.TheVariants as kinds
use Rattle.script_tree.specs.Tree.{Bytes}
use Rattle.deploy_model.specs.declared.parts.EventType.{EventType}
use Rattle.deploy_model.specs.declared.parts.ProfileSpec.{ProfileSpec}
use Rattle.deploy_model.specs.declared.parts.Table.{Table}
use Rattle.deploy_model.specs.declared.parts.Relation.{Relation}
use Rattle.deploy_model.specs.declared.parts.CustomRule.{CustomRule}
use Rattle.deploy_model.specs.declared.parts.Service.{Service}
use Rattle.deploy_schema.specs.Texts.{kind_of_word}
use Rattle.deploy_schema.specs.Numbers.{member_text, items_at}
use Rattle.deploy_schema.specs.Ids.{text_at, id_of}
use Rattle.deploy_schema.specs.Names.{members_at}

-- What each item of an array is.
abbrev pub listed : {A : Type 0} → (Data → A) → Items → List A
listed of no_items = []
listed of (item d ds) = of d ∷ listed of ds

-- What each member of an object is, with its name.
abbrev pub entries : {A : Type 0} → (Bytes → Data → A) → Members → List A
entries of no_members = []
entries of (member k d ms) = of k d ∷ entries of ms

-- The text that a value is.
abbrev pub text_of : Data → Bytes
text_of d = unwrap_or (as_str d) []

-- The type that a word names.
abbrev pub kind_of : Bytes → Kind
kind_of word = unwrap_or (kind_of_word word) kinds.Int

-- A field, an attribute or the like, with its type.
abbrev pub field_of : Bytes → Data → Bytes × Kind
field_of name d = (name, kind_of (text_of d))

abbrev pub fields_at : Bytes → Data → List (Bytes × Kind)
fields_at name d = entries field_of (members_at name d)

abbrev pub event_type_of : Data → EventType
event_type_of d = record { key = text_at (codes "key") d; id = id_of d; fields = fields_at (codes "fields") d }

abbrev pub profile_of : Data → ProfileSpec
profile_of d = record {
  key = text_at (codes "key") d;
  id = id_of d;
  attributes = fields_at (codes "attributes") d;
  unique = listed text_of (items_at (codes "unique") d);
}

abbrev pub table_of : Bytes → Data → Table
table_of name d = record { name = name; profile = text_of d }

abbrev pub priority_number : Data → Option ℤ
priority_number d = option_and_then as_i64 (option_and_then as_number (get (codes "priority") d))

abbrev pub priority_at : Data → ℤ
priority_at d = unwrap_or (priority_number d) (pos 0)

abbrev pub flag_at : Bytes → Data → Bool
flag_at name d = unwrap_or (option_and_then as_bool (get name d)) false

abbrev pub relation_of : Bytes → Data → Relation
relation_of name d = record { name = name; block = text_at (codes "block") d; priority = priority_at d }

abbrev pub alias_of : Bytes → Data → Bytes × Bytes
alias_of name d = (name, text_of d)

abbrev pub service_of : Data → Service
service_of d = record {
  key = text_at (codes "key") d;
  id = id_of d;
  root = text_at (codes "root") d;
  priority = priority_at d;
  active = flag_at (codes "active") d;
}

abbrev pub initial_of : Data → Option (List Bytes)
initial_of d = option_map (listed text_of) (option_and_then as_array (get (codes "initial") d))

abbrev pub custom_rule_of : Data → CustomRule
custom_rule_of d = record { rule = text_at (codes "rule") d; field = text_at (codes "field") d }

abbrev pub custom_of : Data → Option CustomRule
custom_of d = option_map custom_rule_of (get (codes "custom") d)

abbrev pub parameter_of : Data → Bytes × Kind
parameter_of d = (text_at (codes "name") d, kind_of (text_at (codes "type") d))

abbrev pub result_of : Data → Option Kind
result_of d = option_and_then kind_of_word (member_text (codes "returns") d)
