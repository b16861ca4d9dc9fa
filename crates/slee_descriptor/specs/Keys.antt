-- Which item of a list has each key, as an index has it.
use Rattle.std.specs.HashMap.{get_by_text}
use Rattle.deploy_model.specs.Rules.{Numbering}
use Rattle.slee_descriptor.specs.declared.keys.Keys.{Keys}

-- What the index has for a key.
abbrev pub number_in : Keys → Numbering
number_in keys = get_by_text keys.numbers
