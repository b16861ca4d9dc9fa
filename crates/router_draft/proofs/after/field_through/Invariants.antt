use Rattle.std.proofs.Common.{◌≡◌, take, option_copied}
use Rattle.std.specs.List.{fold}
use Rattle.router_draft.specs.After.{field_after}
use Rattle.router_draft.proofs.after.field_through.Given as goal

abbrev pub invariant-changes : goal.invariant-changes
invariant-changes l = option_copied l.seen ≡ fold (λ was c. field_after c l.entity.0 l.name was) (option_copied l.fn.was) (take l.change-index l.changes)
