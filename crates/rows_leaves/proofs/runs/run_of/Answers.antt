-- no row of the share stands in other leaves, and none of another one in those between
use Rattle.std.proofs.Common.{◌∙◌, arith}
use Rattle.std.proofs.lemmas.List.{append-nil}
use Rattle.rows_leaves.specs.Invariant.{leaf_rows}
use Rattle.rows_leaves.proofs.RunLemmas.{each_rises, kept_part, kept_parts}
use Rattle.rows_leaves.proofs.runs.run_of.Goals as goal

pub rows_at-front-requires : goal.rows_at-front-requires
rows_at-front-requires g c = each_rises g.R.Keyed.key (leaf_rows {Row = g.row.R.Denot}) c.args.leaves.now c.requires.rises

pub rows_at-requires : goal.rows_at-requires
rows_at-requires g c = each_rises g.R.Keyed.key (leaf_rows {Row = g.row.R.Denot}) c.args.leaves.now c.requires.rises

pub returns-then-start-end : goal.returns-then-start-end
returns-then-start-end g c =
    rw (c.rows_at-front.ensures, c.part.ensures, c.rows_at.ensures)
    (kept_parts g.R.Keyed.key (leaf_rows {Row = g.row.R.Denot}) c.args.share c.places_in-start.result.0 c.places_in-start.result.1 c.args.leaves.now c.requires.filled c.requires.rises c.places_in-start.ensures.start c.places_in-start.ensures.end c.if-start-end.true)

pub returns-else-start-end : goal.returns-else-start-end
returns-else-start-end g c =
    append-nil c.rows_at-front.result.now ∙ c.rows_at-front.ensures
    ∙ kept_part g.R.Keyed.key (leaf_rows {Row = g.row.R.Denot}) c.args.share c.places_in-start.result.0 c.places_in-start.result.1 c.args.leaves.now c.requires.filled c.requires.rises c.places_in-start.ensures.start c.places_in-start.ensures.end (omega (arith, c.if-start-end.false))
