-- what is left turns out as all does
use Rattle.std.proofs.Common.{◌≡◌, ◌∷◌, drop}
use Rattle.rows_sorted.specs.Orders.{rises_by}
use Rattle.rows_sorted.specs.Keys.{key_before}
use Rattle.snapshot_check.proofs.ordered.rise_from.Given as goal

abbrev pub invariant-rows : goal.invariant-rows
invariant-rows g l =
    rises_by (λ x y. key_before (g.R.Keyed.key x) (g.R.Keyed.key y)) (l.last ∷ drop l.row-index l.rest)
    ≡ rises_by (λ x y. key_before (g.R.Keyed.key x) (g.R.Keyed.key y)) (l.first ∷ l.rest)
