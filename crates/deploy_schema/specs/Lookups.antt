-- What is looked up in a document, as it stands in memory.
use Rattle.std.specs.Prelude.{ℕ, Bool, Option, bytes_eq, ◌&&◌}
use Rattle.std.specs.HashMap.{HashMap, get_by}
use Rattle.std.specs.declared.hash.FoldHasher.{FoldHasher}
use Rattle.std.specs.declared.hash.BuildHasherDefault.{BuildHasherDefault}
use Rattle.serde_json.specs.View.{items_view}
use Rattle.slee_value.specs.declared.component.ComponentId.{ComponentId}
use Rattle.deploy_model.specs.Tables.{IdNumbering}
use Rattle.deploy_schema.specs.Numbers.{answer_of}
use Rattle.deploy_schema.specs.Names.{Names}
use Rattle.deploy_schema.specs.declared.ids.Triple.{Triple}
use Rattle.deploy_schema.specs.declared.ids.Ids.{Ids}
use Rattle.deploy_schema.specs.declared.lookup.Lookup.{Lookup}

-- Whether the texts are those of the component.
abbrev pub is_triple : ComponentId → Triple → Bool
is_triple q t = bytes_eq q.name t.name.now && (bytes_eq q.vendor t.vendor.now && bytes_eq q.version t.version.now)

-- What the index has for a component.
abbrev pub number_in : HashMap Triple ℕ (BuildHasherDefault FoldHasher) → IdNumbering
number_in m q = get_by (is_triple q) m

abbrev pub id_answer : Ids → IdNumbering
id_answer ids = number_in ids.found

-- The component that three texts are.
abbrev pub component_of : Triple → ComponentId
component_of t = record { name = t.name.now; vendor = t.vendor.now; version = t.version.now }

abbrev pub names_of : Lookup → Names
names_of l = record {
  events = answer_of l.events.keys;
  profiles = answer_of l.profiles.keys;
  blocks = answer_of l.blocks.keys;
  services = answer_of l.services.keys;
  event_ids = id_answer l.events.ids;
  profile_ids = id_answer l.profiles.ids;
  block_ids = id_answer l.blocks.ids;
  service_ids = id_answer l.services.ids;
  event_types = items_view l.event_types.now;
  alias_kind = answer_of l.aliases;
}
