use Rattle.router_payloads.proofs.AgainLemmas.{payload_again}
use Rattle.router_payloads.proofs.laws.payloads_are_read_back.Goals as goal

pub returns : goal.returns
returns c = payload_again
