use Rattle.std.proofs.Common.{sym, subst}
use Rattle.deploy_json.specs.Shapes.{WhereThere, IsCustomRule}
use Rattle.deploy_json.proofs.handler.custom_of.Goals as goal

pub custom_rule-requires : goal.custom_rule-requires
custom_rule-requires c = subst (WhereThere IsCustomRule) (sym c.in-Some.ensures) c.requires
