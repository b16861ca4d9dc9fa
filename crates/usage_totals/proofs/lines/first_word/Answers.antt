use Rattle.usage_totals.proofs.LineLemmas.{space_found, space_missing}
use Rattle.usage_totals.proofs.lines.first_word.Goals as goal

pub returns-in-Some : goal.returns-in-Some
returns-in-Some c = space_found c.args.line.now c.in-Some.end c.in-Some.ensures

pub returns-in-None : goal.returns-in-None
returns-in-None c = space_missing c.args.line.now c.in-None.ensures
