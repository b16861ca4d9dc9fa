use Rattle.std.proofs.Common.{◌≡◌, ◌+◌, ◌*◌, ◌≤◌, drop}
use Rattle.script_tree.specs.Tree as tree
use Rattle.script_tree.specs.Tree.{tree_of, statement_of, statements_of}
use Rattle.script_types.specs.ElaborationOfStatements.{statements_made}
use Rattle.script_types.specs.TokenCounts.{tokens_in_statement, tokens_in_statements}
use Rattle.script_types.specs.TypingResult.{◌>>=◌}
use Rattle.script_check_terms.specs.SettingOf.{setting_of}
use Rattle.script_check.proofs.BlockLemmas.{done}
use Rattle.script_check.proofs.blocks.+blocks.Given as goal

-- what the statements so far are made into stands in front of what the rest is made into; and where the rest begins
abbrev pub invariant-check_statements-rest : goal.invariant-check_statements-rest
invariant-check_statements-rest l = ((statements_made (setting_of l.setting) l.scope l.here (statements_of (drop l.x-index l.body)) >>= done l.steps.items) ≡ statements_made (setting_of l.setting) l.initial.scope l.fn.at (statements_of l.body)) × (l.here + tokens_in_statements (statements_of (drop l.x-index l.body)) ≡ l.fn.at + tokens_in_statements (statements_of l.body)) × (l.fn.at ≤ l.here)

abbrev pub decreases-check_statement : goal.decreases-check_statement
decreases-check_statement l = 4 * tokens_in_statement (statement_of l.x.now) + 1

abbrev pub decreases-check_statements : goal.decreases-check_statements
decreases-check_statements l = 4 * tokens_in_statements (statements_of l.body.now) + 2

abbrev pub decreases-check_block : goal.decreases-check_block
decreases-check_block l = 4 * tokens_in_statements (statements_of l.body.now) + 3

abbrev pub decreases-check_if : goal.decreases-check_if
decreases-check_if l = 4 * tokens_in_statement (tree.If (tree_of l.x.now) (statements_of l.body.now))

abbrev pub decreases-check_if_else : goal.decreases-check_if_else
decreases-check_if_else l = 4 * tokens_in_statement (tree.IfElse (tree_of l.x.now) (statements_of l.body.now) (statements_of l.other.now))

abbrev pub decreases-check_while : goal.decreases-check_while
decreases-check_while l = 4 * tokens_in_statement (tree.While (tree_of l.x.now) (statements_of l.body.now))

abbrev pub decreases-check_for : goal.decreases-check_for
decreases-check_for l = 4 * tokens_in_statement (tree.For l.name.now l.over.now (statements_of l.body.now))
