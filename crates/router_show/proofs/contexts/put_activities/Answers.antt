-- one line more
use Rattle.deploy_model.specs.Resolving.{deployed_of}
use Rattle.router_state.specs.Show.{activity_line}
use Rattle.router_show.proofs.KeptLemmas.{line_more}
use Rattle.router_show.proofs.contexts.put_activities.Goals as goal

pub rows-preserved : goal.rows-preserved
rows-preserved c =
    line_more (activity_line (deployed_of c.args.deployment.now.parts)) c.args.contexts.now.activities c.rows.place c.at.result.now _ _ _ c.at.ensures c.in_ok-put_activity.ensures c.rows.invariant
