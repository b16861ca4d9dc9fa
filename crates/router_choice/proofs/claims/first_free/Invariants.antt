-- none of those so far has a choice that isn't claimed
use Rattle.std.proofs.Common.{◌≡◌, map}
use Rattle.router_choice.specs.Choosing.{first_of, free_choice}
use Rattle.router_choice.proofs.claims.first_free.Given as goal

abbrev pub invariant-ready : goal.invariant-ready
invariant-ready l =
    first_of (free_choice l.stores.state (map (λ a. a.0) l.claimed)) (map (λ row. row.activity.0) l.row-iterator)
    ≡ first_of (free_choice l.stores.state (map (λ a. a.0) l.claimed)) (map (λ row. row.activity.0) l.fn.ready)
