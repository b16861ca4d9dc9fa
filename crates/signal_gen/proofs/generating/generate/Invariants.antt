-- the lines so far with those that are left are all lines
use Rattle.std.proofs.Common.{◌≡◌, ◌+◌, ◌*◌, ◌≤◌, ◌++◌}
use Rattle.deploy_model.specs.Resolving.{deployed_of}
use Rattle.signal_gen.specs.Generator.{generated, lines_behind}
use Rattle.signal_gen.proofs.generating.generate.Given as goal

abbrev pub invariant-each : goal.invariant-each
invariant-each l = record {
  same : l.lines ++ lines_behind l.left (deployed_of l.fn.deployment.parts).events l.course ≡ generated l.fn.seed l.fn.count (deployed_of l.fn.deployment.parts);
  started : l.course.started + l.left ≤ l.fn.count;
  clock : l.course.clock + 1000 * l.left ≤ 1000 * l.fn.count;
}

abbrev pub decreases-each : goal.decreases-each
decreases-each l = l.left
