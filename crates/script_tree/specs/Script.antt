-- A script as a value.
use Rattle.script_tree.specs.declared.script.Script.{Script}
use Rattle.script_tree.specs.Tree.{Statements, statements_of}

abbrev pub tree_of_script : Script → Statements
tree_of_script script = statements_of script.statements.items
