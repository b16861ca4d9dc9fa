use Rattle.router_laws_kept.proofs.Keeping.{kept_again}
use Rattle.router_laws_kept.proofs.states.kept_states_are_read_back.Goals as goal

pub returns : goal.returns
returns c format s = kept_again format s
