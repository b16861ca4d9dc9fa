use Rattle.std.proofs.Common.{◌∙◌}
use Rattle.slee_descriptor.proofs.deployment.Deployment.profile_named.Goals as goal

pub returns : goal.returns
returns c = c.get.ensures ∙ c.args.self.now.indexed.profiles c.args.key.now
