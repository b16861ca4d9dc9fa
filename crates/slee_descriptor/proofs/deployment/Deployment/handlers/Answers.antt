use Rattle.std.proofs.Common.{◌∙◌, ap}
use Rattle.slee_descriptor.specs.ByEvents.{numbers_at}
use Rattle.slee_descriptor.proofs.deployment.Deployment.handlers.Goals as goal

pub returns : goal.returns
returns c =
    c.get.ensures
    ∙ ap (numbers_at c.args.self.now.indexes.handlers) c.as_str.ensures.bytes
    ∙ c.args.self.now.indexed.handlers c.args.event.now
