use Rattle.std.proofs.Common.{◌∙◌, ap}
use Rattle.deploy_model.specs.Resolving.{deployed_of}
use Rattle.signal_gen.specs.Generator.{generated}
use Rattle.slee_descriptor.specs.declared.deployment.Deployment.{Deployment}
use Rattle.slee_run.proofs.generating.generated_for.Goals as goal

pub returns-in-Ok-clause-lines : goal.returns-in-Ok-clause-lines
returns-in-Ok-clause-lines c = c.in-Ok.ensures ∙ ap (λ (d : Deployment). generated c.args.seeded.seed c.args.seeded.count (deployed_of d.parts)) c.deployment.ensures.same
