use Rattle.std.proofs.Common.{◌≡◌, ◌≤◌, ◌+◌, take}
use Rattle.std.specs.List.{fold}
use Rattle.router_draft.specs.After.{children_after}
use Rattle.router_draft.proofs.lists.children_through.Given as goal

abbrev pub invariant-changes : goal.invariant-changes
invariant-changes l = record {
  few : l.next ≤ l.fn.first + l.change-index;
  seen : (l.next, l.all.items) ≡ fold (λ seen c. children_after c l.entity.0 seen) (l.fn.first, l.initial.all.items) (take l.change-index l.changes);
}
