-- the last row's numbers
use Rattle.std.proofs.Common.{sym, ap}
use Rattle.rows_leaves.specs.Laying.{numbers_of}
use Rattle.rows_leaves.proofs.LastLemmas.{last_is}
use Rattle.rows_leaves.proofs.leaf.last_numbers.Goals as goal

pub returns-in-Some : goal.returns-in-Some
returns-in-Some g c = rw (c.first.ensures, c.second.ensures) (sym (ap numbers_of (last_is g.R.Keyed.key c.args.rows.now c.in-Some.row.now c.in-Some.ensures.value)))
