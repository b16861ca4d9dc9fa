use Rattle.std.proofs.Common.{◌≡◌, ◌++◌, drop, flat_map}
use Rattle.router_closing.specs.Services.{removed_by}
use Rattle.router_closing.proofs.services.removed.Given as goal

abbrev pub invariant-changes : goal.invariant-changes
invariant-changes l = l.all.items ++ flat_map removed_by (drop l.change-index l.changes) ≡ flat_map removed_by l.changes
