-- the attributes of each table rise
use Rattle.std.proofs.Common.{ap, ◌∙◌}
use Rattle.deploy_model.specs.Resolving.{deployed_of}
use Rattle.router_inputs.specs.InOrder.{are_rising}
use Rattle.router_inputs.proofs.OrderLemmas.{attributes_rise}
use Rattle.router_inputs.proofs.rows.values_of.Goals as goal

pub fields_given-requires : goal.fields_given-requires
fields_given-requires c =
    ap are_rising c.attributes_of.ensures ∙ attributes_rise (deployed_of c.args.deployment.now.parts) c.args.table c.requires.order
