use Rattle.std.proofs.Common.{◌≡◌, drop, map}
use Rattle.script_tree.specs.Tree.{field_of}
use Rattle.script_types.specs.TypingStatements.{are_all_given}
use Rattle.script_check_calls.specs.Parts.{names_of}
use Rattle.script_check_calls.proofs.fields.are_all_given.Given as goal

-- no field before this one is left out
abbrev pub invariant-declared : goal.invariant-declared
invariant-declared l = are_all_given (drop l.field-index l.declared) (names_of (map field_of l.fields)) ≡ are_all_given l.declared (names_of (map field_of l.fields))
