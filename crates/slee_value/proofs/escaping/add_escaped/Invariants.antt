use Rattle.std.proofs.Common.{◌≡◌, ◌++◌, take, drop, vec_len}
use Rattle.slee_value.specs.Escape.{escaped}
use Rattle.slee_value.proofs.escaping.add_escaped.Given as goal

-- what is written, and what is left, are the whole; and what stood there before stands in front
abbrev pub invariant-loop-b : goal.invariant-loop-b
invariant-loop-b l = record {
  written : l.into.items ++ escaped l.word (drop l.b-index l.bytes) ≡ l.fn.into.items ++ escaped l.word l.bytes;
  front : take (vec_len l.fn.into) l.into.items ≡ l.fn.into.items;
}
