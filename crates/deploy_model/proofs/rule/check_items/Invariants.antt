use Rattle.std.proofs.Common.{◌≡◌, drop}
use Rattle.deploy_model.specs.Rules.{items_from}
use Rattle.deploy_model.proofs.rule.check_items.Given as goal

abbrev pub invariant-loop-i : goal.invariant-loop-i
invariant-loop-i g l = items_from (g.R.Rule.fault l.rule) 0 l.parts ≡ items_from (g.R.Rule.fault l.rule) l.i (drop l.i l.parts)
