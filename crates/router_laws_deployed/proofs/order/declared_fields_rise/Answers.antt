use Rattle.router_laws_deployed.proofs.Declared.{block_fields_rise, declared_rise}
use Rattle.router_laws_deployed.proofs.order.declared_fields_rise.Goals as goal

pub returns-clause-declared : goal.returns-clause-declared
returns-clause-declared c = declared_rise

pub returns-clause-blocks : goal.returns-clause-blocks
returns-clause-blocks c = block_fields_rise
