use Rattle.std.proofs.Common.{◌≡◌, ◌+◌, drop, map, take, []}
use Rattle.script_tree.specs.Tree.{field_of}
use Rattle.script_types.specs.ElaborationOfStatements.{fields_of}
use Rattle.script_types.specs.ProgramOf.{field_term_of}
use Rattle.script_check_terms.specs.SettingOf.{setting_of}
use Rattle.script_check_calls.specs.Parts.{Has, names_of}
use Rattle.script_check_calls.proofs.PartLemmas.{behind}
use Rattle.script_check_calls.proofs.FieldLemmas.{tokens_to_the_end}
use Rattle.script_check_calls.proofs.fields.check_fields.Given as goal

-- what is made so far stands in front of what the rest gives, behind these names
abbrev pub invariant-fields : goal.invariant-fields
invariant-fields l = record {
  made : behind (map field_term_of l.terms.items) (fields_of (setting_of l.setting) l.scope l.declared (names_of (map field_of (take l.i l.fields))) l.here (map field_of (drop l.i l.fields))) ≡ fields_of (setting_of l.setting) l.scope l.declared [] l.at (map field_of l.fields);
  given : Has l.given (names_of (map field_of (take l.i l.fields)));
  place : l.here + tokens_to_the_end (drop l.i l.fields) ≡ l.at + tokens_to_the_end l.fields;
}
