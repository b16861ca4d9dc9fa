use Rattle.std.proofs.Common.{[], arith}
use Rattle.slee_effect.specs.Rising.{reach_in}
use Rattle.slee_effect.proofs.ReachLemmas.{raised, not_raised}
use Rattle.slee_effect.proofs.names.reached.Goals as goal
use Rattle.slee_effect.proofs.names.reached.Goals.{then-before-at, else-before-at}

pub bytes-preserved : goal.bytes-preserved
bytes-preserved c = elim c.if-before-at.branch [
  | then-before-at w ↦ rw (w.most-is, c.caps_behind-caps.ensures) (raised c.bytes.caps.now c.args.before.now c.args.len c.bytes.at c.bytes.most (reach_in [] c.args.before.now c.args.len) (omega arith) (omega arith) (omega arith) c.bytes.invariant)
  | else-before-at w ↦ rw (w.most-is, c.caps_behind-caps.ensures) (not_raised c.bytes.caps.now c.args.before.now c.args.len c.bytes.at c.bytes.most (reach_in [] c.args.before.now c.args.len) (omega arith) (omega arith) (omega arith) c.bytes.invariant)
]
