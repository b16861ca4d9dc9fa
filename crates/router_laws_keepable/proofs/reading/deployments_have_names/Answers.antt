use Rattle.router_laws_keepable.proofs.Keepable.{named_read}
use Rattle.router_laws_keepable.proofs.Naming.{read_names}
use Rattle.router_laws_keepable.proofs.reading.deployments_have_names.Goals as goal

pub returns-clause-names : goal.returns-clause-names
returns-clause-names c = read_names

pub returns-clause-lead : goal.returns-clause-lead
returns-clause-lead c bytes d = named_read bytes d
