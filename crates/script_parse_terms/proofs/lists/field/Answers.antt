use Rattle.script_parse_terms.proofs.ListReaders.{field_took}
use Rattle.script_parse_terms.proofs.lists.field.Goals as goal

pub returns : goal.returns
returns c = field_took _ _ _ _ _ _ _ c.in_ok-name.ensures c.in_ok-rest.ensures.read c.in_ok-value.ensures
