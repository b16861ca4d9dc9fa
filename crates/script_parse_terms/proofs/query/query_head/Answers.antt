use Rattle.script_parse_terms.proofs.Queries.{head_took}
use Rattle.script_parse_terms.proofs.query.query_head.Goals as goal

pub returns : goal.returns
returns c = head_took c.args.word c.in_ok-head.head _ _ _ _ _ c.requires.begun c.in_ok-inner.ensures.read c.in_ok-head.ensures.word c.in_ok-head.ensures.inside
