use Rattle.std.proofs.Common.{length, ◌∷◌, []}
use Rattle.std.specs.Prelude.{map, ◌&&◌}
use Rattle.std.specs.List.{list_all}
use Rattle.script_tree.specs.Grammar.{Level, Make, WithArgument, NextArgument}
use Rattle.script_tree.specs.Spelling.{spell_arguments, fits}
use Rattle.script_tree.specs.Tree.{tree_of}
use Rattle.script_parse_terms.specs.Takes.{TookAll}
use Rattle.script_parse_terms.specs.Lists.{has_some, with_arguments}
use Rattle.script_parse_terms.proofs.lists.argument_list.Given as goal

abbrev pub invariant-more : goal.invariant-more
invariant-more l = TookAll (Level 8 ∷ Make WithArgument ∷ NextArgument ∷ []) (NextArgument ∷ []) l.depth l.depth l.ts (spell_arguments (map tree_of l.list.items)) (with_arguments (map tree_of l.list.items)) (has_some (map tree_of l.list.items) && list_all (fits l.depth) (map tree_of l.list.items)) l.rest

abbrev pub decreases-more : goal.decreases-more
decreases-more l = length l.rest
