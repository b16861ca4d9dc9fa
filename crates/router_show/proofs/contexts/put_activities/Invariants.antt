-- the lines so far and those of the others
use Rattle.std.proofs.Common.{◌≡◌, ◌++◌, drop, map}
use Rattle.deploy_model.specs.Resolving.{deployed_of}
use Rattle.router_state.specs.Show.{activity_line}
use Rattle.trace_history.specs.Lines.{line_texts}
use Rattle.router_show.proofs.contexts.put_activities.Given as goal

abbrev pub invariant-rows : goal.invariant-rows
invariant-rows l =
    l.into.items ++ line_texts (map (activity_line (deployed_of l.deployment.parts)) (drop l.place l.contexts.activities)) ≡ l.fn.into.items ++ line_texts (map (activity_line (deployed_of l.deployment.parts)) l.contexts.activities)
