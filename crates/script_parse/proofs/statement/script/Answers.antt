use Rattle.std.proofs.Common.{rules}
use Rattle.script_parse.proofs.Whole.{script_fine, script_left}
use Rattle.script_parse.proofs.statement.script.Goals as goal

pub returns-then-not-is_empty : goal.returns-then-not-is_empty
returns-then-not-is_empty c = rw c.unexpected.ensures (script_left _ _ _ _ c.in_ok-list.ensures (search rules))

pub returns : goal.returns
returns c = script_fine _ _ _ c.in_ok-list.ensures (search rules)
