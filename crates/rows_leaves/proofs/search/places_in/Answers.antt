-- the leaves rise by the numbers that they have
use Rattle.std.proofs.Common.{◌∙◌}
use Rattle.rows_leaves.specs.Shares.{is_ahead, is_up_to}
use Rattle.rows_leaves.proofs.NumberLemmas.{numbers_rise, count_same}
use Rattle.rows_leaves.proofs.search.places_in.Goals as goal

pub places_of-requires : goal.places_of-requires
places_of-requires g c = numbers_rise g.R.Keyed.key c.args.leaves.now c.requires.filled c.requires.numbered c.requires.rises

pub returns-clause-start : goal.returns-clause-start
returns-clause-start g c = c.places_of.ensures.start ∙ count_same g.R.Keyed.key (is_ahead c.args.share) c.args.leaves.now c.requires.numbered

pub returns-clause-end : goal.returns-clause-end
returns-clause-end g c = c.places_of.ensures.end ∙ count_same g.R.Keyed.key (is_up_to c.args.share) c.args.leaves.now c.requires.numbered
