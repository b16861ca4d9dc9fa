use Rattle.script_parse_terms.proofs.Followed.{before_took}
use Rattle.script_parse_terms.proofs.levels.before.Goals as goal

pub returns : goal.returns
returns c = before_took _ _ _ _ _ _ _ c.in_ok-e.ensures c.in_ok-rest.ensures.read
