use Rattle.signal_script.proofs.LineLemmas.{newline_found, newline_missing}
use Rattle.usage_totals.proofs.lines.first_line.Goals as goal

pub returns-in-Some-clause-lines : goal.returns-in-Some-clause-lines
returns-in-Some-clause-lines c = newline_found c.args.bytes.now c.in-Some.end c.in-Some.ensures

pub returns-in-None-clause-lines : goal.returns-in-None-clause-lines
returns-in-None-clause-lines c = newline_missing c.args.bytes.now c.requires c.in-None.ensures
