-- What is looked up in all parts, as it stands in memory.
use Rattle.deploy_model.specs.declared.lookup.Lookup.{Lookup}
use Rattle.deploy_model.specs.Firsts.{answer_of}
use Rattle.deploy_model.specs.Tables.{Known}

abbrev pub known_of : Lookup → Known
known_of l = record {
  events = answer_of l.events;
  profiles = answer_of l.profiles;
  blocks = answer_of l.blocks;
  event_types = l.event_types.now;
  alias_kind = answer_of l.aliases;
}
