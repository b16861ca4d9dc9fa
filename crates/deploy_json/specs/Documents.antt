-- The parts that a document without fault is.
use Rattle.std.specs.Prelude.{option_map, codes}
use Rattle.serde_json.specs.Data.{Data}
use Rattle.serde_json.specs.Find.{get}
use Rattle.script_tree.specs.Tree.{Bytes}
use Rattle.deploy_schema.specs.Numbers.{items_at}
use Rattle.deploy_schema.specs.Ids.{text_at, id_of}
use Rattle.deploy_schema.specs.Names.{members_at}
use Rattle.deploy_json.specs.Values.{listed, entries, fields_at, event_type_of, profile_of, table_of, relation_of, alias_of, service_of, initial_of, custom_of, flag_at, parameter_of, result_of}
use Rattle.deploy_json.specs.Sources.{source, source_at}
use Rattle.deploy_json.specs.Rows.{HandlerRow, MethodRow, BlockRow, PartsRow}

abbrev pub handler_of : Data → HandlerRow
handler_of d = record {
  event = text_at (codes "event") d;
  initial = initial_of d;
  custom = custom_of d;
  mask = flag_at (codes "mask") d;
  on = source_at (codes "on") d;
}

abbrev pub method_of : Bytes → Data → MethodRow
method_of name d = record {
  name = name;
  params = listed parameter_of (items_at (codes "params") d);
  returns = result_of d;
  body = source_at (codes "do") d;
}

abbrev pub block_of : Data → BlockRow
block_of d = record {
  key = text_at (codes "key") d;
  id = id_of d;
  fields = fields_at (codes "fields") d;
  attributes = fields_at (codes "attributes") d;
  aliases = entries alias_of (members_at (codes "aliases") d);
  relations = entries relation_of (members_at (codes "relations") d);
  events = listed handler_of (items_at (codes "events") d);
  methods = entries method_of (members_at (codes "methods") d);
  exception = option_map source (get (codes "exception") d);
  rolled_back = option_map source (get (codes "rolled_back") d);
  remove = option_map source (get (codes "remove") d);
}

abbrev pub parts_in : Data → PartsRow
parts_in d = record {
  events = listed event_type_of (items_at (codes "events") d);
  profiles = listed profile_of (items_at (codes "profiles") d);
  tables = entries table_of (members_at (codes "tables") d);
  blocks = listed block_of (items_at (codes "blocks") d);
  services = listed service_of (items_at (codes "services") d);
}
