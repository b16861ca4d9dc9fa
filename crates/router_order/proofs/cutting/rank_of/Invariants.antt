use Rattle.std.proofs.Common.{◌≡◌, ◌==◌}
use Rattle.std.specs.List.{find}
use Rattle.router_order.specs.declared.placed.Placed.{Placed}
use Rattle.router_order.proofs.cutting.rank_of.Given as goal

abbrev pub invariant-rows : goal.invariant-rows
invariant-rows l = find (λ (row : Placed). row.entity.0 == l.entity.0) l.row-iterator ≡ find (λ (row : Placed). row.entity.0 == l.entity.0) l.fn.run
