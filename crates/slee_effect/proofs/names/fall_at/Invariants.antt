use Rattle.std.proofs.Common.{◌≡◌, ◌-◌, ◌≤◌, length, drop}
use Rattle.slee_effect.specs.Rising.{fall}
use Rattle.slee_effect.proofs.names.fall_at.Given as goal

-- the bytes so far are the same
abbrev pub invariant-same : goal.invariant-same
invariant-same l = record {
  in_before : l.at ≤ length l.before;
  in_bytes : l.at ≤ length l.bytes;
  same : fall (drop l.at l.before) (l.most - l.at) (drop l.at l.bytes) ≡ fall l.before l.most l.bytes;
}
