-- one value after the other
use Rattle.std.proofs.Common.{◌≡◌, ◌<◌, ap, arith, length}
use Rattle.std.specs.Prelude.{nat_lt}
use Rattle.std.proofs.lemmas.Bool.Decides.{nat_tests}
use Rattle.rows_index.specs.Tallies.{count_at, one_more, total}
use Rattle.rows_index.proofs.KeyLemmas.{count_within_total, length_within, some_more, total_more}
use Rattle.profile_tables.proofs.CountedLemmas.{any_or, next_name}
use Rattle.profile_tables.proofs.counted.count_row.Goals as goal

pub count_one-requires-clause-fits : goal.count_one-requires-clause-fits
count_one-requires-clause-fits c =
    let split = ap length (next_name c.args.unique.now c.loop-name.name-index c.name-item.result c.loop-name-test.true c.name-item.is) in
    let within = count_within_total c.value_entry.result c.loop-name.tallies.rows c.loop-name.invariant.rises in
    omega (arith, split, within, c.loop-name.invariant.fits)

pub count_one-requires-clause-room : goal.count_one-requires-clause-room
count_one-requires-clause-room c =
    let split = ap length (next_name c.args.unique.now c.loop-name.name-index c.name-item.result c.loop-name-test.true c.name-item.is) in
    let within = length_within c.loop-name.tallies.rows c.loop-name.invariant.some in
    let left : 0 < c.loop-name.tallies.room = omega (arith, split, within, c.loop-name.invariant.room) in
    any_or (nat_lt 0 (count_at c.loop-name.tallies.rows c.value_entry.result)) (nat_lt 0 c.loop-name.tallies.room) (grind (arith, nat_tests, left))

pub loop-name-preserved : goal.loop-name-preserved
loop-name-preserved c =
    let cur = c.loop-name.tallies.rows in
    let next = next_name c.args.unique.now c.loop-name.name-index c.name-item.result c.loop-name-test.true c.name-item.is in
    let split = ap length next in
    let items = rw (next, ← c.value_entry.ensures) at c.loop-name.invariant.rows in
    let more = total_more c.value_entry.result cur c.loop-name.invariant.rises in
    let all : total c.count_one.new.tallies.rows ≡ total (one_more c.value_entry.result cur) = ap total c.count_one.ensures.rows in
    record {
      rows = rw c.count_one.ensures.rows items;
      rises = c.count_one.ensures.rises;
      some = rw c.count_one.ensures.rows (some_more c.value_entry.result cur c.loop-name.invariant.some);
      fits = omega (arith, split, more, all, c.loop-name.invariant.fits);
      room = omega (arith, split, more, all, c.loop-name.invariant.room, c.count_one.ensures.capacity);
      capacity = omega (arith, c.loop-name.invariant.capacity, c.count_one.ensures.capacity);
    }
