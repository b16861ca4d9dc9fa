use Rattle.std.proofs.Common.{rules, ◌≤◌, length}
use Rattle.router_effects.proofs.FiringLemmas.{left_over}
use Rattle.router_effects.proofs.firing.are_declared.Goals as goal

pub returns-in-len1-up : goal.returns-in-len1-up
returns-in-len1-up c =
    let past : length c.args.fields.now ≤ c.fields.field-index = search rules in
    left_over _ _ _ _ c.in-len1-up.len_at_least past c.fields.invariant.same
