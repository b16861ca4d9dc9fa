-- the leaves rise by the numbers that they have
use Rattle.std.proofs.Common.{◌∙◌}
use Rattle.rows_sorted.specs.Keys.{Key, key_before}
use Rattle.rows_leaves.proofs.NumberLemmas.{numbers_rise, count_same}
use Rattle.rows_leaves.proofs.search.count_in.Goals as goal

pub count_before-requires : goal.count_before-requires
count_before-requires g c = numbers_rise g.R.Keyed.key c.args.leaves.now c.requires.filled c.requires.numbered c.requires.rises

pub returns : goal.returns
returns g c =
    let k : Key = record { first = c.args.first; second = c.args.second; text = c.args.text.now } in
    c.count_before.ensures.count ∙ count_same g.R.Keyed.key (λ x. key_before x k) c.args.leaves.now c.requires.numbered
