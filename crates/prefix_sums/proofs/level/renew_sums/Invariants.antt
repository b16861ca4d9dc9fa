-- the sums that are there are those of as many blocks
use Rattle.std.proofs.Common.{◌≡◌, ◌-◌, ◌≤◌, length, take, vec_len, vec_capacity}
use Rattle.prefix_sums.specs.Levels.{AreSumsUpTo}
use Rattle.prefix_sums.proofs.level.renew_sums.Given as goal

abbrev pub invariant-sums : goal.invariant-sums
invariant-sums l = record {
  stand : AreSumsUpTo (vec_len l.sums) l.level.numbers.items l.sums.items;
  kept : take l.count l.sums.items ≡ take l.count l.initial.sums.items;
  least : l.count ≤ vec_len l.sums;
  memory : vec_capacity l.initial.sums ≤ vec_capacity l.sums;
}

abbrev pub decreases-sums : goal.decreases-sums
decreases-sums l = length l.level.numbers.items - vec_len l.sums
