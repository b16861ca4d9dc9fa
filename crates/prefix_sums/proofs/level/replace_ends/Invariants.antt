-- the ends so far are replaced, and no others
use Rattle.std.proofs.Common.{◌≡◌, ℕ, ◌+◌, ◌-◌, ◌<◌, ◌≤◌, get_or, length}
use Rattle.prefix_sums.proofs.level.replace_ends.Given as goal

abbrev pub invariant-loop-place : goal.invariant-loop-place
invariant-loop-place l = record {
  count : length l.ends ≡ length l.initial.ends;
  replaced : (n : ℕ) → l.start ≤ n → n < l.place → get_or l.ends n 0 ≡ get_or l.initial.ends n 0 - l.before + l.now;
  ahead : (n : ℕ) → n < l.start → get_or l.ends n 0 ≡ get_or l.initial.ends n 0;
  behind : (n : ℕ) → l.place ≤ n → get_or l.ends n 0 ≡ get_or l.initial.ends n 0;
}
