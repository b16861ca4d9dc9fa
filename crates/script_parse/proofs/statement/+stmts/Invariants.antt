use Rattle.std.proofs.Common.{length, ◌+◌, ◌*◌, ◌∷◌, []}
use Rattle.script_tree.specs.Grammar.{Stmts}
use Rattle.script_tree.specs.Spelling.{statements_fit}
use Rattle.script_parse.specs.Bodies.{TookStmts}
use Rattle.script_tree.specs.Tree.{statements_of}
use Rattle.script_parse.proofs.statement.+stmts.Given as goal

abbrev pub decreases-statements : goal.decreases-statements
decreases-statements l = 4 * length l.ts.now + 3

abbrev pub decreases-statement : goal.decreases-statement
decreases-statement l = 4 * length l.ts.now + 2

abbrev pub decreases-branch : goal.decreases-branch
decreases-branch l = 4 * length l.ts.now + 0

abbrev pub decreases-repeat : goal.decreases-repeat
decreases-repeat l = 4 * length l.ts.now + 0

abbrev pub decreases-walk : goal.decreases-walk
decreases-walk l = 4 * length l.ts.now + 0

abbrev pub decreases-block : goal.decreases-block
decreases-block l = 4 * length l.ts.now + 0

abbrev pub invariant-statements-more : goal.invariant-statements-more
invariant-statements-more l = TookStmts (Stmts ∷ []) l.depth l.ts (statements_of l.list.items) (statements_fit l.depth (statements_of l.list.items)) l.rest

abbrev pub decreases-statements-more : goal.decreases-statements-more
decreases-statements-more l = length l.rest
