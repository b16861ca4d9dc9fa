use Rattle.std.proofs.Common.{length, ◌∷◌, []}
use Rattle.std.specs.Prelude.{map, ◌&&◌}
use Rattle.std.specs.List.{list_all}
use Rattle.script_tree.specs.declared.symbol.Fixed.TheVariants as x
use Rattle.script_tree.specs.Grammar.{Name, One, Level, Make, WithField, NextField}
use Rattle.script_tree.specs.Spelling.{field_fits}
use Rattle.script_tree.specs.Tree.{field_of}
use Rattle.script_parse_terms.specs.Takes.{TookAll}
use Rattle.script_parse_terms.specs.Lists.{has_some, spell_list, with_fields}
use Rattle.script_parse_terms.proofs.lists.field_list.Given as goal

abbrev pub invariant-more : goal.invariant-more
invariant-more l = TookAll (Name ∷ One x.Colon ∷ Level 8 ∷ Make WithField ∷ NextField ∷ []) (NextField ∷ []) l.depth l.depth l.ts (spell_list (map field_of l.list.items)) (with_fields (map field_of l.list.items)) (has_some (map field_of l.list.items) && list_all (field_fits l.depth) (map field_of l.list.items)) l.rest

abbrev pub decreases-more : goal.decreases-more
decreases-more l = length l.rest
