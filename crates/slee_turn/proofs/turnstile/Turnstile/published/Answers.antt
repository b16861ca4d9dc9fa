use Rattle.std.proofs.Common.{rules}
use Rattle.slee_turn.proofs.KeptLemmas.{hears_length}
use Rattle.slee_turn.proofs.turnstile.Turnstile.published.Goals as goal

pub load-requires : goal.load-requires
load-requires g c = (search rules, search rules, hears_length g.G.Grows.setup g.G.Grows.history _ _ _ c.pass.invariant.3)
