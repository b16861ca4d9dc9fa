-- the changes leave the deployment and its scripts
use Rattle.std.proofs.Common.{rules, ◌≡◌}
use Rattle.router_state.specs.Changes.{after_changes}
use Rattle.router_core.proofs.OwnLemmas.{own_kept}
use Rattle.router_core.proofs.state.State.apply.Goals as goal

pub returns-clause-own : goal.returns-clause-own
returns-clause-own c = λ d own.
    let made : c.change_both.new.stores.state ≡ after_changes c.args.plan.changes c.args.self.now.state = search rules in
    own_kept d c.args.plan.changes c.args.self.now.state c.change_both.new.stores.state made own
