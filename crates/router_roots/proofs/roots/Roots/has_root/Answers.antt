-- the roots of the service are the entries under it
use Rattle.std.proofs.Common.{◌==◌, ℕ, not, ap}
use Rattle.std.specs.List.{list_any}
use Rattle.rows_index.specs.Index.{IsIndex}
use Rattle.router_roots.specs.Roots.{roots_among, service_entry}
use Rattle.router_roots.specs.Views.{RootsView}
use Rattle.router_roots.proofs.FindLemmas.{any_root}
use Rattle.router_roots.proofs.roots.Roots.has_root.Goals as goal

pub returns : goal.returns
returns c = λ s listed.
    let index : IsIndex service_entry (roots_among s.entities) c.self.inside.by_service.rows = rw (ap (λ (v : RootsView). v.by_service) c.self.view_is) listed.services in
    rw (c.has_other.ensures, c.rows_of.ensures) (any_root (λ (n : ℕ). not (list_any (λ (e : ℕ). e == n) c.args.gone.now)) c.args.service s.entities c.self.inside.by_service.rows index)
