-- so many levels reach as far, and each reaches further than the one before
use Rattle.std.proofs.Common.{◌+◌, ◌-◌, ◌<◌, ◌≤◌, ◌^◌}
use Rattle.prefix_sums.specs.declared.level.TheConstants.{BLOCK}
use Rattle.prefix_sums.proofs.memory.levels_for.Given as goal

abbrev pub invariant-levels : goal.invariant-levels
invariant-levels l = record {
  reached : l.reach ≤ BLOCK ^ (l.count + 1);
  few : l.count < l.reach;
}

abbrev pub decreases-levels : goal.decreases-levels
decreases-levels l = l.places - l.reach
