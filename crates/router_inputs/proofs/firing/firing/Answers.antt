-- the fields of the event that is declared rise
use Rattle.deploy_model.specs.Resolving.{deployed_of}
use Rattle.router_inputs.proofs.OrderLemmas.{declared_rises}
use Rattle.router_inputs.proofs.firing.firing.Goals as goal

pub fields_given-requires : goal.fields_given-requires
fields_given-requires c =
    declared_rises (deployed_of c.args.deployment.now.parts) c.args.event.now c.in-Ok-declared_event.declared.now c.as_slice.result.now c.requires.order c.in-Ok-declared_event.ensures c.as_slice.ensures
