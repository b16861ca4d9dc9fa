use Rattle.std.proofs.Common.{rules}
use Rattle.slee_turn.proofs.KeptLemmas.{splits_pass}
use Rattle.slee_turn.proofs.turnstile.Turnstile.split.Goals as goal

pub split_seat-seat-requires : goal.split_seat-seat-requires
split_seat-seat-requires g c = (search rules, search rules, splits_pass g.G.Grows.setup g.G.Grows.history _ _ c.pass.invariant.3 (search rules))
