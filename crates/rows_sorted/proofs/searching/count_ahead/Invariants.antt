-- the rows before the lowest place pass, and those from the highest one on don't
use Rattle.std.proofs.Common.{ℕ, ◌≤◌, ◌<◌, ◌-◌, length}
use Rattle.std.specs.List.{prefix_len}
use Rattle.rows_sorted.specs.Borders.{is_ahead}
use Rattle.rows_sorted.proofs.searching.count_ahead.Given as goal

pub record Narrowed (low high place front all : ℕ) : Type 0 where
  pub lowest : low ≤ front
  pub highest : front ≤ high
  pub within : high ≤ all
  pub from : low < high → low ≤ place
  pub to : low < high → place < high

abbrev pub invariant-parts : goal.invariant-parts
invariant-parts g l = Narrowed l.low l.high l.place (prefix_len (λ row. is_ahead l.fn.border (record { first = l.fn.first; second = l.fn.second; text = l.fn.text }) (g.R.Keyed.key row)) l.rows) (length l.rows)

abbrev pub decreases-parts : goal.decreases-parts
decreases-parts g l = l.high - l.low
