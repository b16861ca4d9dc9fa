use Rattle.std.proofs.Common.{◌≡◌, ◌+◌, drop, map}
use Rattle.script_tree.specs.Tree.{tree_of}
use Rattle.script_types.specs.ElaborationOfStatements.{arguments_of}
use Rattle.script_types.specs.ProgramOf.{term_of}
use Rattle.script_check_terms.specs.SettingOf.{setting_of}
use Rattle.script_check_calls.proofs.PartLemmas.{behind}
use Rattle.script_check_calls.proofs.ArgumentLemmas.{tokens_with_commas}
use Rattle.script_check_calls.proofs.arguments.check_arguments.Given as goal

-- what is made so far stands in front of what the rest gives
abbrev pub invariant-arguments : goal.invariant-arguments
invariant-arguments l = record {
  made : behind (map term_of l.terms.items) (arguments_of (setting_of l.setting) l.scope (drop l.i l.parameters) l.here (map tree_of (drop l.i l.arguments))) ≡ arguments_of (setting_of l.setting) l.scope l.parameters l.at (map tree_of l.arguments);
  place : l.here + tokens_with_commas (drop l.i l.arguments) ≡ l.at + tokens_with_commas l.arguments;
}
