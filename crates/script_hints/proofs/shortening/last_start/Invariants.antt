use Rattle.std.proofs.Common.{◌≡◌, ◌<◌, ◌≤◌, true, drop, length}
use Rattle.script_hints.specs.Following.{begins_anew}
use Rattle.script_hints.proofs.shortening.last_start.Given as goal

-- where the last statement so far begins
abbrev pub invariant-loop-place : goal.invariant-loop-place
invariant-loop-place l = (0 < l.start → begins_anew (drop l.start l.tokens) ≡ true) × (l.start ≤ length l.tokens)
