use Rattle.deploy_json.proofs.handler.build_method.Goals as goal

pub returns-clause-built : goal.returns-clause-built
returns-clause-built c = λ i. record {
  name = c.in_ok-name.ensures i;
  params = c.in_ok-params.ensures i;
  returns = c.result_of.ensures i;
  body = c.in_ok-body.ensures.text i;
}
