use Rattle.router_laws_own.proofs.OwnKeys.{made_sees}
use Rattle.router_laws_own.proofs.keys.keys_are_read_as_written.Goals as goal

pub returns : goal.returns
returns c = made_sees
