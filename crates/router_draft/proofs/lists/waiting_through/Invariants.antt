use Rattle.std.proofs.Common.{◌≡◌, take}
use Rattle.std.specs.List.{fold}
use Rattle.router_draft.specs.After.{waiting_after}
use Rattle.router_draft.proofs.lists.waiting_through.Given as goal

abbrev pub invariant-changes : goal.invariant-changes
invariant-changes l = l.all.items ≡ fold (λ was c. waiting_after c l.activity.0 was) l.initial.all.items (take l.change-index l.changes)
