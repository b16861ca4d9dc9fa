-- the leaf behind those whose last rows stand before the key
use Rattle.std.proofs.Common.{◌<◌, length, arith, add-one}
use Rattle.std.proofs.lemmas.Bool.Decides.{nat_tests}
use Rattle.rows_sorted.specs.Keys.{Key}
use Rattle.rows_leaves.specs.Invariant.{leaf_rows}
use Rattle.rows_leaves.proofs.LeafLemmas.{leaf_low, leaf_high}
use Rattle.rows_leaves.proofs.search.leaf_of.Goals as goal

pub returns : goal.returns
returns g c =
    let k : Key = record { first = c.args.first; second = c.args.second; text = c.args.text.now } in
    let some : 0 < length c.args.leaves.now = grind (arith, nat_tests) in
    record {
      within = omega (arith, some, c.min.ensures);
      low = leaf_low g.R.Keyed.key (leaf_rows {Row = g.row.R.Denot}) k c.count_in-count.result c.min.result c.args.leaves.now c.requires.rises c.count_in-count.ensures (omega (arith, c.min.ensures));
      high = rw add-one (leaf_high g.R.Keyed.key (leaf_rows {Row = g.row.R.Denot}) k c.count_in-count.result c.min.result c.args.leaves.now c.requires.filled c.requires.rises c.count_in-count.ensures (omega (arith, some, c.min.ensures)) (λ inside. omega (arith, some, inside, c.min.ensures)) (λ behind. omega (arith, some, behind, c.min.ensures)));
    }
