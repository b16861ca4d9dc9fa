-- the leaves rise by the numbers that they have
use Rattle.std.proofs.Common.{◌∙◌}
use Rattle.rows_leaves.specs.Shares.{is_ahead}
use Rattle.rows_leaves.proofs.NumberLemmas.{numbers_rise, count_same}
use Rattle.rows_leaves.proofs.search.start_in.Goals as goal

pub start_of-requires : goal.start_of-requires
start_of-requires g c = numbers_rise g.R.Keyed.key c.args.leaves.now c.requires.filled c.requires.numbered c.requires.rises

pub returns-clause-start : goal.returns-clause-start
returns-clause-start g c = c.start_of.ensures.start ∙ count_same g.R.Keyed.key (is_ahead c.args.share) c.args.leaves.now c.requires.numbered
