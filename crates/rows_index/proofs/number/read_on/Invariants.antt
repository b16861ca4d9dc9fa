-- the bytes that are left lead to the same number
use Rattle.std.proofs.Common.{◌≡◌, ◌<◌, drop}
use Rattle.rows_index.specs.Numbers.{limit, number_from}
use Rattle.rows_index.proofs.number.read_on.Given as goal

abbrev pub invariant-loop-byte : goal.invariant-loop-byte
invariant-loop-byte l = record {
  rest : number_from l.number (drop l.byte-index l.text) ≡ number_from l.fn.start l.text;
  below : l.number < limit;
}
