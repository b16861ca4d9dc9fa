use Rattle.std.proofs.Common.{◌≡◌, ◌+◌, length, drop}
use Rattle.std.specs.List.{flat_map}
use Rattle.script_meaning.specs.Removal.{lines_of}
use Rattle.rollback_calls.proofs.parting.are_short.Given as goal

-- the room that is left has to do for the effects that are left
abbrev pub invariant-effects : goal.invariant-effects
invariant-effects l = l.left + length (flat_map (λ line. line) (lines_of l.entity l.effects)) ≡ 256 + length (flat_map (λ line. line) (lines_of l.entity (drop l.effect-index l.effects)))
