use Rattle.std.proofs.Common.{◌≡◌, ◌+◌, ◌≤◌, take}
use Rattle.std.specs.List.{fold}
use Rattle.router_closing.specs.Timers.{timers_after}
use Rattle.router_closing.proofs.timers.timers_through.Given as goal

abbrev pub invariant-changes : goal.invariant-changes
invariant-changes g l = record {
  few : l.next ≤ l.fn.first + l.change-index;
  seen : (l.next, l.all.items) ≡ fold (λ seen c. timers_after c l.activity.0 seen) (l.fn.first, l.initial.all.items) (take l.change-index l.changes);
}
