use Rattle.std.proofs.Common.{length, ◌+◌, ◌-◌, ◌*◌, ◌∷◌, []}
use Rattle.script_tree.specs.Grammar.{More}
use Rattle.script_tree.specs.Spelling.{chain_level}
use Rattle.script_parse_terms.specs.Levels.{TookOperand, TookChain}
use Rattle.script_tree.specs.Tree.{tree_of, binary_of, joined}
use Rattle.script_parse_terms.proofs.levels.+exprs.Given as goal

abbrev pub decreases-expression : goal.decreases-expression
decreases-expression l = 32 * length l.ts.now + 24

abbrev pub decreases-level : goal.decreases-level
decreases-level l = 32 * length l.ts.now + 7

abbrev pub decreases-first_operand : goal.decreases-first_operand
decreases-first_operand l = 32 * length l.ts.now + 6

abbrev pub decreases-chain : goal.decreases-chain
decreases-chain l = 32 * length l.ts.now + 9

abbrev pub decreases-prim : goal.decreases-prim
decreases-prim l = 32 * length l.ts.now + 5

abbrev pub decreases-worded : goal.decreases-worded
decreases-worded l = 32 * length l.ts.now + 4

abbrev pub decreases-group : goal.decreases-group
decreases-group l = 32 * length l.ts.now + 3

abbrev pub invariant-level-levels : goal.invariant-level-levels
invariant-level-levels l = TookOperand l.highest l.done l.depth l.ts (tree_of l.tree) l.rest

abbrev pub decreases-level-levels : goal.decreases-level-levels
decreases-level-levels l = l.highest - l.done

abbrev pub invariant-chain-operators : goal.invariant-chain-operators
invariant-chain-operators l = TookChain (More l.level_now ∷ []) l.level_now (chain_level l.level_now) l.depth l.ts (tree_of l.fn.first) (joined (binary_of l.binary.value) l.more.items) l.rest

abbrev pub decreases-chain-operators : goal.decreases-chain-operators
decreases-chain-operators l = length l.rest

abbrev pub decreases-query : goal.decreases-query
decreases-query l = 32 * length l.ts.now + 3
