-- What all tokens of a text are.
use Rattle.std.specs.Prelude.{◌≡◌, IsTrue, List}
use Rattle.script_tree.specs.declared.lexeme.Lexeme.{Lexeme}
use Rattle.script_tree.specs.Tree.{Statements}
use Rattle.script_tree.specs.Spelling.{is_script, spell_statements}
use Rattle.script_tree.specs.Grammar.{Verdict, Fine, Faulty, script_of}
use Rattle.script_parse_terms.specs.declared.refusal.ReadError.{ReadError}
use Rattle.script_parse_terms.specs.declared.refusal.ReadError.TheVariants as errors

-- a fault of all tokens of a text
abbrev pub IsMisfit : Verdict → ReadError → Type 0
IsMisfit v errors.NoMemory = Unit {0}
IsMisfit v (errors.Misfit f) = v ≡ Faulty f

-- all tokens of a text are this script
pub record IsWhole (ts : List Lexeme) (script : Statements) : Type 0 where
  pub read : script_of ts ≡ Fine script
  pub spelled : ts ≡ spell_statements script
  pub fits : IsTrue (is_script script)
