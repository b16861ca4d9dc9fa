use Rattle.deploy_json.proofs.document.parts_of.Goals as goal

pub returns-clause-built : goal.returns-clause-built
returns-clause-built c = λ i. record {
  events = c.in_ok-events.ensures i;
  profiles = c.in_ok-profiles.ensures i;
  tables = c.in_ok-tables.ensures i;
  blocks = c.in_ok-blocks.ensures.built i;
  services = c.in_ok-services.ensures i;
}
