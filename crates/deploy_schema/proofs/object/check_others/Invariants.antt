use Rattle.std.proofs.Common.{◌≡◌}
use Rattle.serde_json.specs.View.{members_view}
use Rattle.deploy_schema.specs.Forms.{others_fault, knows}
use Rattle.deploy_schema.proofs.object.check_others.Given as goal

abbrev pub invariant-loop-name : goal.invariant-loop-name
invariant-loop-name g l = others_fault (knows (g.T.Table.wants l.table)) (members_view l.members.entries) ≡ others_fault (knows (g.T.Table.wants l.table)) (members_view l.name-iterator)
