use Rattle.std.proofs.Common.{arith}
use Rattle.slee_run.proofs.SumLemmas.{below_more, below_wider, line_counted}
use Rattle.slee_run.proofs.summing.summary_of.Goals as goal

pub with_line-more-requires : goal.with_line-more-requires
with_line-more-requires c = below_wider _ _ c.lines.summary (omega arith) c.lines.invariant.below

pub lines-preserved : goal.lines-preserved
lines-preserved c = record {
  same = line_counted c.lines.summary c.with_line-more.result c.lines.rest.now c.first_line.result.0.now c.first_line.result.1.now _ c.first_line.ensures.lines c.with_line-more.ensures c.lines.invariant.same;
  below = below_wider _ _ c.with_line-more.result (omega (arith, c.first_line.ensures.shorter, c.lines.invariant.small))
      (below_more _ c.lines.summary c.with_line-more.result c.first_line.result.0.now c.with_line-more.ensures c.lines.invariant.below);
  small = omega (arith, c.first_line.ensures.shorter, c.lines.invariant.small);
}
