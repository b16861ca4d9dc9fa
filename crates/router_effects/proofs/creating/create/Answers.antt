use Rattle.std.proofs.Common.{rules, ◌≡◌, Some, w8}
use Rattle.std.proofs.lemmas.Int.{to_z-of_z}
use Rattle.router_state.specs.Changes.{after_changes}
use Rattle.router_steps.specs.Effects.{relation_at}
use Rattle.router_effects.proofs.CreatingLemmas.{made_so}
use Rattle.router_effects.proofs.SignedLemmas.{priority_fits}
use Rattle.router_effects.proofs.creating.create.Goals as goal

pub returns-in_ok-make_child-in-Some-clause-state : goal.returns-in_ok-make_child-in-Some-clause-state
returns-in_ok-make_child-in-Some-clause-state g c =
    let s = g.S.Base.state c.args.setting.now in
    let found : relation_at (after_changes c.args.draft.now.changes s) c.args.parent.0 c.args.relation.now ≡ Some c.in-Some.found.now = search rules in
    made_so c.args.draft.now.changes c.tell_created.new.draft.changes s _ c.args.parent.0 c.args.relation.now c.args.priority _ c.in-Some.found.now c.in_ok-tell_created-in-Some.ensures.changes (to_z-of_z w8 c.args.priority c.ranges.priority) found (priority_fits c.args.priority c.ranges.priority) c.in_ok-make_child-in-Some.ensures.state
