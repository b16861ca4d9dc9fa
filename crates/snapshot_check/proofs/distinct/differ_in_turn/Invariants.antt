-- what is left turns out as all does
use Rattle.std.proofs.Common.{◌≡◌, ◌∷◌, drop}
use Rattle.rows_sorted.specs.Orders.{rises_by}
use Rattle.snapshot_check.specs.Keys.{are_apart}
use Rattle.snapshot_check.proofs.distinct.differ_in_turn.Given as goal

abbrev pub invariant-keys : goal.invariant-keys
invariant-keys g l = rises_by (are_apart g.K.Ord.cmp) (l.last ∷ drop l.key-index l.rest) ≡ rises_by (are_apart g.K.Ord.cmp) (l.first ∷ l.rest)
