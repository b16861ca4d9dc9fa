-- What the builders need of a document, and what every document without shape fault has: names, words of types and priorities where they stand, and scripts.
use Rattle.std.specs.Prelude.{ℤ, ◌||◌, Bool, not, IsTrue, Option, Some, None, codes, int_lt, is_some}
use Rattle.serde_json.specs.Data.{Data, Items, no_items, item, Members, no_members, member}
use Rattle.serde_json.specs.Find.{get}
use Rattle.slee_value.specs.Name.{is_name}
use Rattle.script_tree.specs.Tree.{Bytes}
use Rattle.deploy_schema.specs.Forms.{least_priority, greatest_priority}
use Rattle.deploy_schema.specs.Texts.{kind_of_word}
use Rattle.deploy_schema.specs.Numbers.{items_at}
use Rattle.deploy_schema.specs.Ids.{text_at}
use Rattle.deploy_schema.specs.Names.{members_at}
use Rattle.deploy_json.specs.Values.{text_of, priority_at}

abbrev pub EachItem : (Data → Type 0) → Items → Type 0
EachItem P no_items = Unit {0}
EachItem P (item d ds) = P d × EachItem P ds

abbrev pub EachMember : (Bytes → Data → Type 0) → Members → Type 0
EachMember P no_members = Unit {0}
EachMember P (member k d ms) = P k d × EachMember P ms

abbrev pub IsName : Bytes → Type 0
IsName s = IsTrue (is_name s)

abbrev pub IsNameValue : Data → Type 0
IsNameValue d = IsName (text_of d)

-- Whether a word names a type.
abbrev pub IsKind : Bytes → Type 0
IsKind word = IsTrue (is_some (kind_of_word word))

abbrev pub is_priority : ℤ → Bool
is_priority z = not (int_lt z least_priority || int_lt greatest_priority z)

abbrev pub HasPriority : Data → Type 0
HasPriority d = IsTrue (is_priority (priority_at d))

pub record IsField (k : Bytes) (d : Data) : Type 0 where
  pub name : IsName k
  pub kind : IsKind (text_of d)

pub record IsEventType (d : Data) : Type 0 where
  pub key : IsName (text_at (codes "key") d)
  pub fields : EachMember IsField (members_at (codes "fields") d)

pub record IsProfile (d : Data) : Type 0 where
  pub key : IsName (text_at (codes "key") d)
  pub attributes : EachMember IsField (members_at (codes "attributes") d)
  pub unique : EachItem IsNameValue (items_at (codes "unique") d)

-- A table with its profile, or an attribute with its alias.
pub record IsNamePair (k : Bytes) (d : Data) : Type 0 where
  pub name : IsName k
  pub other : IsNameValue d

pub record IsRelation (k : Bytes) (d : Data) : Type 0 where
  pub name : IsName k
  pub block : IsName (text_at (codes "block") d)
  pub priority : HasPriority d

pub record IsParameter (d : Data) : Type 0 where
  pub name : IsName (text_at (codes "name") d)
  pub kind : IsKind (text_at (codes "type") d)

abbrev pub WhereThere : (Data → Type 0) → Option Data → Type 0
WhereThere P None = Unit {0}
WhereThere P (Some d) = P d

abbrev pub IsCustomRule : Data → Type 0
IsCustomRule d = IsName (text_at (codes "field") d)

-- The object has something at this member.
abbrev pub Has : Bytes → Data → Type 0
Has name d = IsTrue (is_some (get name d))

pub record IsHandler (d : Data) : Type 0 where
  pub custom : WhereThere IsCustomRule (get (codes "custom") d)
  pub script : Has (codes "on") d

pub record IsMethod (k : Bytes) (d : Data) : Type 0 where
  pub name : IsName k
  pub params : EachItem IsParameter (items_at (codes "params") d)
  pub script : Has (codes "do") d

pub record IsBlock (d : Data) : Type 0 where
  pub key : IsName (text_at (codes "key") d)
  pub fields : EachMember IsField (members_at (codes "fields") d)
  pub attributes : EachMember IsField (members_at (codes "attributes") d)
  pub aliases : EachMember IsNamePair (members_at (codes "aliases") d)
  pub relations : EachMember IsRelation (members_at (codes "relations") d)
  pub events : EachItem IsHandler (items_at (codes "events") d)
  pub methods : EachMember IsMethod (members_at (codes "methods") d)

pub record IsService (d : Data) : Type 0 where
  pub key : IsName (text_at (codes "key") d)
  pub root : IsName (text_at (codes "root") d)
  pub priority : HasPriority d

pub record IsDocument (d : Data) : Type 0 where
  pub events : EachItem IsEventType (items_at (codes "events") d)
  pub profiles : EachItem IsProfile (items_at (codes "profiles") d)
  pub tables : EachMember IsNamePair (members_at (codes "tables") d)
  pub blocks : EachItem IsBlock (items_at (codes "blocks") d)
  pub services : EachItem IsService (items_at (codes "services") d)
