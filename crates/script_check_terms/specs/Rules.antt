-- What operators ask of their operands, as a value.
use Rattle.script_check_terms.specs.declared.operator.Rule.{Rule as RuleInMemory}
use Rattle.script_check_terms.specs.declared.operator.Rule.TheVariants as r
use Rattle.script_types.specs.TypingExpressions.{Rule, Both, Ordered, Equated}

abbrev pub rule_in : RuleInMemory → Rule
rule_in (r.Both kind) = Both kind
rule_in r.Ordered = Ordered
rule_in r.Equated = Equated
