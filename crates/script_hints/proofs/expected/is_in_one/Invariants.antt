use Rattle.std.proofs.Common.{◌≡◌, drop}
use Rattle.std.specs.List.{list_any}
use Rattle.script_hints.specs.Following.{is_in}
use Rattle.script_hints.proofs.expected.is_in_one.Given as goal

-- it is in none of those so far
abbrev pub invariant-loop-group : goal.invariant-loop-group
invariant-loop-group l = list_any (λ g. is_in g l.choice) (drop l.group-index l.groups) ≡ list_any (λ g. is_in g l.choice) l.groups
