-- the roots so far and those to come
use Rattle.std.proofs.Common.{◌≡◌, ◌++◌, drop, map}
use Rattle.snapshot_check.specs.Tops.{noted}
use Rattle.snapshot_check.proofs.tops.tops_of_links.Given as goal

abbrev pub invariant-links : goal.invariant-links
invariant-links l = l.held.items ++ map (λ x. noted l.tops x.entity.0) (drop l.link-index l.links) ≡ map (λ x. noted l.tops x.entity.0) l.links
