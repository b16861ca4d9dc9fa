use Rattle.std.proofs.Common.{◌≡◌, ◌++◌, map}
use Rattle.router_state.specs.Contexts.{links_on}
use Rattle.router_basis.proofs.listing.attached.Given as goal

-- the entities so far, and those of the attachments that are left
abbrev pub invariant-links : goal.invariant-links
invariant-links l = l.all.items ++ map (λ k. k.entity.0) l.link-iterator ≡ map (λ k. k.entity.0) (links_on l.contexts.links l.fn.activity.0)
