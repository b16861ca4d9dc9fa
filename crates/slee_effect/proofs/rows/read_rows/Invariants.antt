use Rattle.std.proofs.Common.{◌≡◌, ◌-◌, None}
use Rattle.slee_effect.specs.Reading.{rows_at, last_name}
use Rattle.slee_effect.proofs.Loops.{with_front}
use Rattle.slee_effect.proofs.rows.read_rows.Given as goal

-- the fields so far, and what is still read, are the whole
abbrev pub invariant-rows : goal.invariant-rows
invariant-rows l = with_front l.fields.items (rows_at (l.count - l.counter) (last_name l.fields.items) l.rest) ≡ rows_at l.count None l.bytes
