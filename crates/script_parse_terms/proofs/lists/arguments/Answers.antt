use Rattle.std.specs.Prelude.{map}
use Rattle.script_tree.specs.Tree.{tree_of}
use Rattle.script_parse_terms.proofs.ListReaders.{no_arguments, arguments_took}
use Rattle.script_parse_terms.proofs.lists.arguments.Goals as goal

pub returns-in_default : goal.returns-in_default
returns-in_default c = arguments_took _ _ _ _ (map tree_of c.in_ok-list.list.items) c.in_default.ensures c.in_ok-list.ensures c.in_ok-last.ensures.read

pub returns : goal.returns
returns c = no_arguments _ _ _ _ c.in-Some.ensures c.new.ensures.items
