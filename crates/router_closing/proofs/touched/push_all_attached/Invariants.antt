use Rattle.std.proofs.Common.{◌≡◌, ◌++◌, drop, flat_map}
use Rattle.router_laws_closing.specs.TouchedRoots.{attached_by}
use Rattle.router_closing.proofs.touched.push_all_attached.Given as goal

abbrev pub invariant-changes : goal.invariant-changes
invariant-changes l = l.all.items ++ flat_map (attached_by l.activity.0) (drop l.change-index l.changes) ≡ l.initial.all.items ++ flat_map (attached_by l.activity.0) l.changes
