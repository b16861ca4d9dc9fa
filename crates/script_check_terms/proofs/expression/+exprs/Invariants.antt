use Rattle.std.proofs.Common.{take}
use Rattle.script_tree.specs.Tree.{Expression, joined}
use Rattle.script_check_terms.specs.Links.{Makes}
use Rattle.script_check_terms.specs.SettingOf.{setting_of}
use Rattle.script_check_terms.proofs.expression.+exprs.Given as goal

-- what the operators so far are made into
abbrev pub invariant-check_links-links : goal.invariant-check_links-links
invariant-check_links-links l = (x : Expression) → Makes (setting_of l.setting) l.scope l.at x l.fn.first → Makes (setting_of l.setting) l.scope l.at (joined x (take l.op-index l.links)) l.left
