use Rattle.std.proofs.Common.{arith}
use Rattle.usage_totals.proofs.TotalLemmas.{line_folded, within_wider}
use Rattle.usage_totals.proofs.totals.usage_totals.Goals as goal

pub lines-preserved : goal.lines-preserved
lines-preserved c = record {
  same = line_folded c.lines.totals c.add_line.new.self c.lines.rest.now c.first_line.result.0.now c.first_line.result.1.now _ c.first_line.ensures.lines c.in_ok-add_line.ensures.added c.lines.invariant.same;
  within = within_wider _ _ c.add_line.new.self (omega (arith, c.first_line.ensures.shorter, c.lines.invariant.small)) (c.in_ok-add_line.ensures.within _ c.lines.invariant.within);
  small = omega (arith, c.first_line.ensures.shorter, c.lines.invariant.small);
}
