-- the leaves stay, and the spare ones get more
use Rattle.std.proofs.Common.{◌≡◌, ◌+◌, ◌-◌, ◌≤◌, vec_len}
use Rattle.rows_leaves.specs.Invariant.{Stands}
use Rattle.rows_leaves.proofs.spares.add_spares.Given as goal

abbrev pub invariant-more : goal.invariant-more
invariant-more g l = record { same : l.leaves.items ≡ l.initial.leaves.items; stands : Stands g.R.Keyed.key l.leaves l.spares l.counts; kept : vec_len l.initial.leaves + vec_len l.initial.spares ≤ vec_len l.leaves + vec_len l.spares }

abbrev pub decreases-more : goal.decreases-more
decreases-more g l = l.count - (vec_len l.leaves + vec_len l.spares)
