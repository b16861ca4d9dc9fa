-- what is counted and what is left come to all
use Rattle.std.proofs.Common.{◌≡◌, ◌+◌, ◌*◌, ◌^◌, ◌≤◌, length, map, sum}
use Rattle.timer_facility.specs.Indexed.{fired_count_at}
use Rattle.timer_facility.proofs.occurrences.count_of_all.Given as goal

abbrev pub invariant-loop-entry : goal.invariant-loop-entry
invariant-loop-entry l = record {
  counted : l.count + sum (map (fired_count_at l.rows.rows l.to) l.entry-iterator) ≡ sum (map (fired_count_at l.rows.rows l.to) l.fn.entries);
  within : l.count + length l.entry-iterator * 2 ^ 64 ≤ length l.fn.entries * 2 ^ 64;
}
