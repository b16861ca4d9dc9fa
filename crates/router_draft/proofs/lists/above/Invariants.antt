use Rattle.std.proofs.Common.{◌≡◌, take, filter, nat_lt}
use Rattle.router_draft.proofs.lists.above.Given as goal

abbrev pub invariant-numbers : goal.invariant-numbers
invariant-numbers l = l.all.items ≡ filter (λ other. nat_lt l.number other) (take l.other-index l.numbers)
