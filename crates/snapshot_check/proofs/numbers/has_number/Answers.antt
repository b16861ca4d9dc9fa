-- a search finds a number just where it is one of them
use Rattle.std.proofs.Common.{◌∙◌}
use Rattle.snapshot_check.proofs.NumberLemmas.{found_is}
use Rattle.snapshot_check.proofs.numbers.has_number.Goals as goal

pub returns : goal.returns
returns c = c.is_ok.ensures.value ∙ found_is c.args.numbers.now c.args.number c.binary_search.result c.binary_search.ensures.position c.requires
