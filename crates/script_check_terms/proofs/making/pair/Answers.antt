use Rattle.std.proofs.Common.{◌≡◌}
use Rattle.script_check_terms.proofs.MakingLemmas.{pair_term}
use Rattle.script_check_terms.proofs.making.pair.Goals as goal

pub returns : goal.returns
returns c = pair_term c.in_ok-first.first c.new-2.result c.args.one c.args.other c.args.op c.in_ok-first.ensures.ok c.new-2.ensures.items
