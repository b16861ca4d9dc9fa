-- Which item of an array has a name, vendor and version.
use Rattle.std.specs.Prelude.{ℕ, ◌+◌, Option, None, [], codes}
use Rattle.std.specs.Option.{unwrap_or}
use Rattle.serde_json.specs.Data.{Data, Items, no_items, item}
use Rattle.slee_value.specs.declared.component.ComponentId.{ComponentId}
use Rattle.script_tree.specs.Tree.{Bytes}
use Rattle.deploy_model.specs.Rules.{or_later}
use Rattle.deploy_model.specs.Tables.{IdNumbering}
use Rattle.deploy_model.specs.Ids.{only_id}
use Rattle.deploy_schema.specs.Numbers.{member_text}

-- The text that an object has at a member, empty where there is none.
abbrev pub text_at : Bytes → Data → Bytes
text_at name d = unwrap_or (member_text name d) []

-- The name and vendor of an item, with a version. No component has an empty text for one of them.
abbrev pub id_with : Data → Bytes → ComponentId
id_with d version = record { name = text_at (codes "name") d; vendor = text_at (codes "vendor") d; version = version }

abbrev pub id_of : Data → ComponentId
id_of d = id_with d (text_at (codes "version") d)

-- The number of the first item that is this component, counted from n.
abbrev pub ids_from : ℕ → Items → IdNumbering
ids_from n no_items q = None
ids_from n (item d ds) q = or_later (only_id (id_of d) n q) (ids_from (n + 1) ds q)
