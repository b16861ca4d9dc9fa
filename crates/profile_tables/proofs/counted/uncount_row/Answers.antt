-- one value after the other
use Rattle.std.proofs.Common.{◌+◌, arith, drop, map}
use Rattle.rows_index.proofs.KeyLemmas.{first_counted, rest_counted}
use Rattle.profile_tables.specs.Unique.{value_entry}
use Rattle.profile_tables.proofs.CountedLemmas.{next_name}
use Rattle.profile_tables.proofs.counted.uncount_row.Goals as goal

pub uncount_one-requires : goal.uncount_one-requires
uncount_one-requires c =
    let next = next_name c.args.unique.now c.loop-name.name-index c.name-item.result c.loop-name-test.true c.name-item.is in
    let counted = rw (next, ← c.value_entry.ensures) at c.loop-name.invariant.counted in
    first_counted c.value_entry.result (map (value_entry c.args.table c.args.fields.now c.args.number) (drop (c.loop-name.name-index + 1) c.args.unique.now)) c.loop-name.tallies.rows counted

pub loop-name-preserved : goal.loop-name-preserved
loop-name-preserved c =
    let next = next_name c.args.unique.now c.loop-name.name-index c.name-item.result c.loop-name-test.true c.name-item.is in
    let counted = rw (next, ← c.value_entry.ensures) at c.loop-name.invariant.counted in
    let items = rw (next, ← c.value_entry.ensures) at c.loop-name.invariant.rows in
    record {
      rows = rw c.uncount_one.ensures.rows items;
      rises = c.uncount_one.ensures.rises;
      counted = rw c.uncount_one.ensures.rows (rest_counted c.value_entry.result (map (value_entry c.args.table c.args.fields.now c.args.number) (drop (c.loop-name.name-index + 1) c.args.unique.now)) c.loop-name.tallies.rows c.loop-name.invariant.rises counted);
      capacity = omega (arith, c.loop-name.invariant.capacity, c.uncount_one.ensures.capacity);
    }
