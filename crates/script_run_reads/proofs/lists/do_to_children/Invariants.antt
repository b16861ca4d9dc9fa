use Rattle.std.proofs.Common.{◌≡◌, ◌+◌, ◌≤◌, drop}
use Rattle.script_meaning.specs.Overlay.{overlay_from, entities_by, children_after}
use Rattle.script_run_reads.proofs.lists.do_to_children.Given as goal

-- the effects so far are done
abbrev pub invariant-effects : goal.invariant-effects
invariant-effects l = (overlay_from entities_by (children_after l.entity l.relation.name) l.made (drop l.place l.effects) l.refs.items ≡ overlay_from entities_by (children_after l.entity l.relation.name) l.before l.effects l.initial.refs.items) × (l.made ≤ l.before + l.place)
