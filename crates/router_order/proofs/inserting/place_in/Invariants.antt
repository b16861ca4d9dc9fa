-- the place lies between the two
use Rattle.std.proofs.Common.{◌-◌}
use Rattle.std.specs.Prelude.{◌≤◌, length}
use Rattle.std.specs.List.{prefix_len}
use Rattle.router_order.proofs.RankLemmas.{is_earlier}
use Rattle.router_order.proofs.inserting.place_in.Given as goal

abbrev pub invariant-halves : goal.invariant-halves
invariant-halves l = record {
  low : l.low ≤ prefix_len (is_earlier l.tree.rows l.link) l.run;
  high : prefix_len (is_earlier l.tree.rows l.link) l.run ≤ l.high;
  within : l.high ≤ length l.run;
}

abbrev pub decreases-halves : goal.decreases-halves
decreases-halves l = l.high - l.low
