use Rattle.deploy_schema.proofs.lookup.listed_in.Goals as goal

pub returns-clause-keys : goal.returns-clause-keys
returns-clause-keys c = c.in_ok-keys.ensures
