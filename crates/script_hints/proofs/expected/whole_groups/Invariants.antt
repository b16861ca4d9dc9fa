use Rattle.std.proofs.Common.{◌≡◌, filter, take}
use Rattle.script_hints.specs.Following.{is_whole}
use Rattle.script_hints.proofs.expected.whole_groups.Given as goal

-- those of the groups so far
abbrev pub invariant-loop-group : goal.invariant-loop-group
invariant-loop-group l = l.list.items ≡ filter (is_whole l.all) (take l.group-index l.groups)
