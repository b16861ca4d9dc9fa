use Rattle.std.proofs.Common.{◌≡◌, ◌++◌, drop, flat_map}
use Rattle.router_laws_closing.specs.TouchedRoots.{cut_by}
use Rattle.router_closing.proofs.touched.cut_entities.Given as goal

abbrev pub invariant-changes : goal.invariant-changes
invariant-changes g l = l.all.items ++ flat_map (cut_by (g.C.Base.state l.setting) l.changes) (drop l.change-index l.changes) ≡ flat_map (cut_by (g.C.Base.state l.setting) l.changes) l.changes
