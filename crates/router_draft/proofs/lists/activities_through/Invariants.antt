use Rattle.std.proofs.Common.{◌≡◌, take}
use Rattle.std.specs.List.{fold}
use Rattle.router_draft.specs.After.{activities_after}
use Rattle.router_draft.proofs.lists.activities_through.Given as goal

abbrev pub invariant-changes : goal.invariant-changes
invariant-changes l = l.all.items ≡ fold (λ was c. activities_after c l.entity.0 was) l.initial.all.items (take l.change-index l.changes)
