-- the marks that are left
use Rattle.std.proofs.Common.{◌≡◌, ◌++◌, ℕ, map, drop}
use Rattle.slee_value.specs.declared.ids.ActivityId.{ActivityId}
use Rattle.router_state.specs.declared.rows.ServiceMark.{ServiceMark}
use Rattle.snapshot_read.proofs.activity_rows.add_services.Given as goal

abbrev pub mark_of : ActivityId → ℕ → ServiceMark
mark_of activity n = record { activity = activity; service = n }

abbrev pub invariant-loop-number : goal.invariant-loop-number
invariant-loop-number l = l.marks.items ++ map (mark_of l.activity) (drop l.number-index l.numbers) ≡ l.fn.marks.items ++ map (mark_of l.activity) l.numbers
