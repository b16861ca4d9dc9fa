use Rattle.std.proofs.Common.{◌≡◌, drop}
use Rattle.serde_json.specs.View.{view, items_view}
use Rattle.deploy_schema.specs.Forms.{items_fault}
use Rattle.deploy_schema.proofs.list.check_items.Given as goal

abbrev pub invariant-loop-i : goal.invariant-loop-i
invariant-loop-i g l = items_fault (λ n. g.F.Form.fault l.form n (view l.owner)) 0 (items_view l.items) ≡ items_fault (λ n. g.F.Form.fault l.form n (view l.owner)) l.i (items_view (drop l.i l.items))
