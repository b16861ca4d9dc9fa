-- the keys are all different just where the roots of one service differ in name
use Rattle.std.proofs.Common.{◌∙◌}
use Rattle.std.proofs.lemmas.Result.{IfOk-weaker}
use Rattle.deploy_model.specs.Resolving.{deployed_of}
use Rattle.snapshot_check.proofs.DifferLemmas.{roots_differ}
use Rattle.snapshot_check.proofs.differing.have_own_roots.Goals as goal

pub returns : goal.returns
returns c =
    IfOk-weaker c.are_distinct.result _ _ (λ differ h.
    h ∙ roots_differ (deployed_of c.args.deployment.now.parts) c.args.entities.now c.args.names.now c.args.next_activity c.args.next_event _ c.requires.there c.requires.named c.in_ok-keys.ensures) c.are_distinct.ensures
