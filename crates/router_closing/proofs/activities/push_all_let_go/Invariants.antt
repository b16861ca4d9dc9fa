use Rattle.std.proofs.Common.{◌≡◌, ◌++◌, drop, flat_map}
use Rattle.router_laws_closing.specs.TouchedActivities.{let_go_by}
use Rattle.router_closing.proofs.activities.push_all_let_go.Given as goal

abbrev pub invariant-changes : goal.invariant-changes
invariant-changes g l = l.all.items ++ flat_map (let_go_by (g.C.Base.state l.setting)) (drop l.change-index l.changes) ≡ l.initial.all.items ++ flat_map (let_go_by (g.C.Base.state l.setting)) l.changes
