use Rattle.std.proofs.Common.{◌≡◌, ◌==◌, take, filter}
use Rattle.std.specs.Prelude.{not}
use Rattle.router_draft.proofs.lists.others.Given as goal

abbrev pub invariant-numbers : goal.invariant-numbers
invariant-numbers l = l.all.items ≡ filter (λ other. not (other == l.number)) (take l.other-index l.numbers)
