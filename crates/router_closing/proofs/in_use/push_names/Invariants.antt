use Rattle.std.proofs.Common.{◌≡◌, ◌++◌, drop, flat_map}
use Rattle.router_closing.specs.Naming.{name_given}
use Rattle.router_closing.proofs.in_use.push_names.Given as goal

abbrev pub invariant-changes : goal.invariant-changes
invariant-changes l = l.all.items ++ flat_map (name_given l.activity.0) (drop l.change-index l.changes) ≡ l.initial.all.items ++ flat_map (name_given l.activity.0) l.changes
