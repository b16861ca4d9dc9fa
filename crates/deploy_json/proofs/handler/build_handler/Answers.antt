use Rattle.deploy_json.proofs.handler.build_handler.Goals as goal

pub returns-clause-built : goal.returns-clause-built
returns-clause-built c = λ i. record {
  event = c.in_ok-event.ensures i;
  initial = c.in_ok-initial.ensures i;
  custom = c.in_ok-custom.ensures i;
  mask = c.flag_at.ensures i;
  on = c.in_ok-on.ensures.text i;
}
