use Rattle.std.proofs.Common.{◌≡◌, map, filter, take}
use Rattle.script_types.specs.Codes.{symbol_of}
use Rattle.script_types.specs.CodesOf.{codes_of}
use Rattle.handler_check.proofs.block.masks_of.Given as goal

-- the masked events of the handlers so far
abbrev pub invariant-handlers : goal.invariant-handlers
invariant-handlers l = l.masks ≡ map (λ h. symbol_of (codes_of l.codes) h.event) (filter (λ h. h.mask) (take l.handler-index l.handlers))
