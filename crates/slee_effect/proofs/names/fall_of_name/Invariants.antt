use Rattle.std.proofs.Common.{◌≡◌, ◌-◌, ◌≤◌, [], ◌++◌, length, take, drop, replicate}
use Rattle.slee_effect.specs.Rising.{reach, greatest_len, name_fall}
use Rattle.slee_effect.proofs.names.fall_of_name.Given as goal

-- the bytes of the length so far are set, and none of them falls
abbrev pub invariant-length : goal.invariant-length
invariant-length l = record {
  in_bytes : l.at ≤ length l.bytes;
  len : l.len ≡ take l.at l.bytes ++ replicate (4 - l.at) 255;
  most : l.most ≡ reach l.before (greatest_len (take l.at l.bytes));
  same : name_fall l.before (take l.at l.bytes) (4 - l.at) (drop l.at l.bytes) ≡ name_fall l.before [] 4 l.bytes;
}
