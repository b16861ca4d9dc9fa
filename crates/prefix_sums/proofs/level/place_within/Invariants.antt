-- the place is in the block, and its end is above the rank once the steps to the right are taken
use Rattle.std.proofs.Common.{◌-◌, ◌<◌, ◌≤◌, get_or}
use Rattle.prefix_sums.proofs.level.place_within.Given as goal

abbrev pub invariant-right : goal.invariant-right
invariant-right l = record {
  least : l.start ≤ l.place;
  most : l.place ≤ l.last;
}

abbrev pub decreases-right : goal.decreases-right
decreases-right l = l.last - l.place

abbrev pub invariant-left : goal.invariant-left
invariant-left l = record {
  least : l.start ≤ l.place;
  most : l.place ≤ l.last;
  reached : l.rank < get_or l.ends l.place 0;
}

abbrev pub decreases-left : goal.decreases-left
decreases-left l = l.place - l.start
