use Rattle.serde_json.specs.View.{view}
use Rattle.deploy_json.specs.Sources.{and_then, handlers_misread, methods_misread, callbacks_misread}
use Rattle.deploy_json.proofs.Misreading.{none_both}
use Rattle.deploy_json.proofs.block.build_block.Goals as goal

pub returns-clause-built : goal.returns-clause-built
returns-clause-built c = λ i. record {
  key = c.in_ok-values.ensures.key i;
  id = c.in_ok-values.ensures.id i;
  fields = c.in_ok-values.ensures.fields i;
  attributes = c.in_ok-values.ensures.attributes i;
  aliases = c.in_ok-values.ensures.aliases i;
  relations = c.in_ok-values.ensures.relations i;
  events = c.in_ok-events.ensures.built i;
  methods = c.in_ok-methods.ensures.built i;
  exception = c.in_ok-callbacks.ensures.exception i;
  rolled_back = c.in_ok-callbacks.ensures.rolled_back i;
  remove = c.in_ok-callbacks.ensures.remove i;
}

pub returns-clause-fault : goal.returns-clause-fault
returns-clause-fault c =
    let d = view c.args.value.now in
    none_both (handlers_misread d) (and_then (methods_misread d) (callbacks_misread d)) c.in_ok-events.ensures.fault
    (none_both (methods_misread d) (callbacks_misread d) c.in_ok-methods.ensures.fault c.in_ok-callbacks.ensures.fault)
