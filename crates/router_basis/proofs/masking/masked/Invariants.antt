use Rattle.std.proofs.Common.{◌≡◌, ◌-◌, drop, length}
use Rattle.router_basis.specs.Masks.{masks}
use Rattle.router_basis.proofs.masking.masked.Given as goal

-- the masked events of the last handlers
abbrev pub invariant-handlers : goal.invariant-handlers
invariant-handlers l = l.texts.items ≡ masks (drop (length l.handlers - l.behind) l.handlers)
