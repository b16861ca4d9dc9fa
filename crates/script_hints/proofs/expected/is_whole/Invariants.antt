use Rattle.std.proofs.Common.{◌≡◌, drop}
use Rattle.std.specs.List.{list_all}
use Rattle.script_hints.specs.Following.{fits_group}
use Rattle.script_hints.proofs.expected.is_whole.Given as goal

-- those so far fit
abbrev pub invariant-loop-candidate : goal.invariant-loop-candidate
invariant-loop-candidate l = list_all (fits_group l.group) (drop l.candidate-index l.all) ≡ list_all (fits_group l.group) l.all
