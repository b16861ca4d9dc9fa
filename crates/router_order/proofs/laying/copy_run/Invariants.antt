-- so many were copied
use Rattle.std.proofs.Common.{◌≡◌, ◌+◌, ◌++◌, length}
use Rattle.std.specs.Prelude.{◌≤◌, vec_capacity, vec_len}
use Rattle.router_order.specs.Placed.{attachments}
use Rattle.router_order.proofs.laying.copy_run.Given as goal

abbrev pub invariant-rows : goal.invariant-rows
invariant-rows l = record {
  items : l.into.items ++ attachments l.row-iterator ≡ attachments l.fn.run;
  length : vec_len l.into + length l.row-iterator ≤ length l.fn.run;
  capacity : vec_capacity l.fn.into ≤ vec_capacity l.into;
}
