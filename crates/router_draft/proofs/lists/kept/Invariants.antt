use Rattle.std.proofs.Common.{◌≡◌, take, filter}
use Rattle.std.specs.Prelude.{not}
use Rattle.std.specs.List.{list_any}
use Rattle.router_draft.specs.Touched.{drops}
use Rattle.router_draft.proofs.lists.kept.Given as goal

abbrev pub invariant-activities : goal.invariant-activities
invariant-activities l = l.all.items ≡ filter (λ a. not (list_any (drops a) l.draft.changes)) (take l.activity-index l.activities)
