use Rattle.std.proofs.Common.{◌≡◌, ◌-◌, [], drop}
use Rattle.slee_effect.specs.Rising.{reach_in}
use Rattle.slee_effect.proofs.ReachLemmas.{from_start}
use Rattle.slee_effect.proofs.names.reached.Given as goal

-- the bytes so far, and those to come, give the whole
abbrev pub invariant-bytes : goal.invariant-bytes
invariant-bytes l = from_start l.at l.most (reach_in l.caps (drop l.at l.before) (l.len - l.at)) ≡ reach_in [] l.before l.len
