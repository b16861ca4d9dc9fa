-- What the tables look up in the whole document.
use Rattle.std.specs.Prelude.{ℕ, Bool, ◌||◌, List, [], ◌∷◌, Option, Some, None, option_and_then, option_map, codes, is_some}
use Rattle.std.specs.Option.{unwrap_or}
use Rattle.serde_json.specs.Data.{Data, Items, no_items, item, Members, no_members, member}
use Rattle.serde_json.specs.Find.{get, get_item, as_str, as_array, as_object}
use Rattle.slee_value.specs.declared.kind.Kind.{Kind}
use Rattle.script_tree.specs.Tree.{Bytes}
use Rattle.deploy_model.specs.Rules.{Numbering, or_later}
use Rattle.deploy_model.specs.Tables.{IdNumbering, aliased, is_built_in, built_in_field}
use Rattle.deploy_schema.specs.Texts.{kind_of_word, name_number}
use Rattle.deploy_schema.specs.Numbers.{member_text, items_at, numbers_from}
use Rattle.deploy_schema.specs.Ids.{ids_from}

-- The type that a word names which an object of types has at a name.
abbrev pub kind_in : Bytes → Data → Option Kind
kind_in name types = option_and_then kind_of_word (member_text name types)

-- The type that a name has in an object of types that an item has at a member.
abbrev pub kind_at : Bytes → Data → Bytes → Option Kind
kind_at types d name = option_and_then (kind_in name) (get types d)

-- The type of an attribute of a block or a profile.
abbrev pub attribute_kind : Data → Bytes → Option Kind
attribute_kind = kind_at (codes "attributes")

abbrev pub members_or_none : Option Members → Members
members_or_none None = no_members
members_or_none (Some ms) = ms

-- The members of an object that an item has at a member, none where there is no object.
abbrev pub members_at : Bytes → Data → Members
members_at name d = members_or_none (option_and_then as_object (get name d))

-- The type, where this is its alias.
abbrev pub aliased_by : Option Kind → Option Bytes → Bytes → Option Kind
aliased_by kind None q = None
aliased_by kind (Some alias) q = aliased kind alias q

-- The type of the first attribute with this alias, by the attributes' types.
abbrev pub alias_in : (Bytes → Option Kind) → Members → Bytes → Option Kind
alias_in kind no_members q = None
alias_in kind (member k d ms) q = or_later (aliased_by (kind k) (as_str d) q) (alias_in kind ms q)

-- The type of the first attribute of any block with this alias.
abbrev pub alias_kind : Items → Bytes → Option Kind
alias_kind no_items q = None
alias_kind (item b bs) q = or_later (alias_in (attribute_kind b) (members_at (codes "aliases") b) q) (alias_kind bs q)

-- The texts of an array's items, a value of another type as the empty text.
abbrev pub texts_of : Items → List Bytes
texts_of no_items = []
texts_of (item d ds) = unwrap_or (as_str d) [] ∷ texts_of ds

pub record Names : Type 0 where
  pub events : Numbering
  pub profiles : Numbering
  pub blocks : Numbering
  pub services : Numbering
  pub event_ids : IdNumbering
  pub profile_ids : IdNumbering
  pub block_ids : IdNumbering
  pub service_ids : IdNumbering
  pub event_types : Items
  -- the type of the first attribute with an alias
  pub alias_kind : Bytes → Option Kind

abbrev pub keys_at : Bytes → Data → Numbering
keys_at name d = numbers_from (codes "key") 0 (items_at name d)

abbrev pub ids_at : Bytes → Data → IdNumbering
ids_at name d = ids_from 0 (items_at name d)

-- What the tables look up, in this document.
abbrev pub names_in : Data → Names
names_in d = record {
  events = keys_at (codes "events") d;
  profiles = keys_at (codes "profiles") d;
  blocks = keys_at (codes "blocks") d;
  services = keys_at (codes "services") d;
  event_ids = ids_at (codes "events") d;
  profile_ids = ids_at (codes "profiles") d;
  block_ids = ids_at (codes "blocks") d;
  service_ids = ids_at (codes "services") d;
  event_types = items_at (codes "events") d;
  alias_kind = alias_kind (items_at (codes "blocks") d);
}

-- An event that is declared or built in.
abbrev pub is_event : Names → Bytes → Bool
is_event all event = is_some (name_number all.events event) || is_built_in event

-- The type of a field of an event: the declared one of this number, or a built-in one.
abbrev pub field_in : Items → Option ℕ → Bytes → Bytes → Option Kind
field_in types None event field = built_in_field event field
field_in types (Some n) event field = option_and_then (λ e. kind_at (codes "fields") e field) (get_item n types)

-- The type of a field of an event that is declared or built in.
abbrev pub event_field : Names → Bytes → Bytes → Option Kind
event_field all event field = field_in all.event_types (all.events event) event field
