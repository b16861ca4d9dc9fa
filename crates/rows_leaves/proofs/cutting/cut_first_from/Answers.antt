-- where each leaf has lower numbers alone, no row has this one
use Rattle.std.proofs.Common.{◌≡◌, length, sym, arith}
use Rattle.std.specs.Prelude.{◌==◌}
use Rattle.std.specs.List.{flat_map}
use Rattle.rows_leaves.specs.declared.share.Share.TheVariants as shares
use Rattle.rows_leaves.specs.Invariant.{leaf_rows}
use Rattle.rows_leaves.proofs.FirstLemmas.{first_in_none, none_goes}
use Rattle.rows_leaves.proofs.cutting.cut_first_from.Goals as goal

pub returns-else-place-len-clause-row : goal.returns-else-place-len-clause-row
returns-else-place-len-clause-row g c =
    let count = rw c.as_slice.ensures.value at c.start_in-place.ensures.start in
    let within = rw c.as_slice.ensures.value at c.start_in-place.ensures.within in
    let all : c.start_in-place.result ≡ length c.args.leaves.now.items = omega (arith, c.if-place-len.false, c.len.ensures, within, c.args.leaves.now.ok.0) in
    sym (first_in_none g.R.Keyed.key (shares.First c.args.first) (leaf_rows {Row = g.row.R.Denot}) c.start_in-place.result c.args.leaves.now.items c.requires.rises all count)

pub returns-else-place-len-clause-rows : goal.returns-else-place-len-clause-rows
returns-else-place-len-clause-rows g c = sym (none_goes (λ (row : g.row.R.Denot). (g.R.Keyed.key row).first == c.args.first) (flat_map (leaf_rows {Row = g.row.R.Denot}) c.args.leaves.now.items) (sym (returns-else-place-len-clause-row g c)))
