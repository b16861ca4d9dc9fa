-- the row that is found has its entries counted
use Rattle.std.proofs.Common.{sym}
use Rattle.rows_sorted.specs.Keys.{Key}
use Rattle.profile_tables.proofs.UniqueLemmas.{found_counted}
use Rattle.profile_tables.proofs.counted.uncount_old.Goals as goal

pub uncount_row-requires-clause-counted : goal.uncount_row-requires-clause-counted
uncount_row-requires-clause-counted c =
    let found = sym (rw c.as_bytes.ensures.bytes at c.in-Some.ensures) in
    let k : Key = record { first = c.args.number; second = c.args.table; text = c.args.row.now } in
    rw (c.unique_of-unique.ensures, c.as_slice.ensures.fields) (found_counted c.args.tables.now k c.in-Some.old.now c.args.rows.now.rows c.args.tallies.now.rows c.requires.rises c.requires.counted found)
