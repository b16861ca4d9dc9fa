-- a service that stops is stopped where it has no tree
use Rattle.std.proofs.Common.{◌≡◌, true, sym, ◌∙◌}
use Rattle.std.specs.Prelude.{◌&&◌, not}
use Rattle.router_state.specs.Services.{is_stopping}
use Rattle.snapshot_check.proofs.ClosedLemmas.{tree_there}
use Rattle.snapshot_check.proofs.closed.is_stopped.Goals as goal

pub returns-then-is_stopping : goal.returns-then-is_stopping
returns-then-is_stopping c =
    let stops : true ≡ is_stopping c.args.service.now.state = sym c.if-is_stopping.true ∙ c.is_stopping.ensures in
    (λ i. stops i && not (c.has_number.ensures i)) ∙ tree_there c.args._entities.now c.args.with_trees.now c.args.number c.args.service.now c.requires.same
