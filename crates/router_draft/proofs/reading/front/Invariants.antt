use Rattle.std.proofs.Common.{◌≡◌, take}
use Rattle.router_draft.specs.After.{waiting_on}
use Rattle.router_draft.proofs.reading.front.Given as goal

-- the events before this place are in the list
abbrev pub invariant-places : goal.invariant-places
invariant-places g l = l.all.items ≡ take l.place (waiting_on (g.B.Base.state l.base).events l.activity.0)
