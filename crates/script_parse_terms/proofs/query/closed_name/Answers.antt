use Rattle.script_parse_terms.proofs.Queries.{named_took}
use Rattle.script_parse_terms.proofs.query.closed_name.Goals as goal

pub returns : goal.returns
returns c = named_took _ _ _ _ _ c.in_ok-name.ensures c.in_ok-rest.ensures.read
