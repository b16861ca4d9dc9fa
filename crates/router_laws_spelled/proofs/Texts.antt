-- The constants of a script that is read of a text in UTF-8 have spellings.
use Rattle.std.proofs.Common.{◌≡◌, true, List, refl, sym, subst, Result, Ok, Err}
use Rattle.std.specs.List.{AllByRecursion}
use Rattle.std.specs.Str.{IsUtf8}
use Rattle.script_print.proofs.GrammarScripts.{script_spelled}
use Rattle.script_print.proofs.Tokens.{tokens_proper}
use Rattle.script_tree.specs.Grammar.{Faulty, Fine, Verdict, script_of}
use Rattle.script_tree.specs.Lexer.{lexemes_of, spots_of}
use Rattle.script_tree.specs.Reading.{read_by, script_read}
use Rattle.script_tree.specs.Tree.{Bytes, Statements}
use Rattle.script_tree.specs.declared.fault.SyntaxFault.{SyntaxFault}
use Rattle.script_tree.specs.declared.lexeme.Lexeme.{Lexeme}
use Rattle.router_laws_spelled.proofs.Spellings.{statements}
use Rattle.router_laws_spelled.proofs.Tokens.{tokens_spelled}
use Rattle.router_laws_spelled.specs.Written.{ReadSpelled, StatementsSpelled}
use Rattle.router_laws_spelled.specs.Lexemes.{LexemeSpelled}

pub text_written : (text : Bytes) → IsUtf8 text → ReadSpelled (script_read text)
text_written text u = by (script_of (lexemes_of text)) refl
  where
    by : (v : Verdict) → script_of (lexemes_of text) ≡ v → ReadSpelled (read_by text (spots_of text) v)
    by (Fine script) is =
        let spelled = script_spelled (lexemes_of text) script (tokens_proper text) is in
        statements script (subst (λ (ts : List Lexeme). AllByRecursion LexemeSpelled ts) spelled.0 (tokens_spelled text u))
    by (Faulty f) is = tt

pub script_written : (text : Bytes) (script : Statements) → IsUtf8 text → script_read text ≡ Ok script → StatementsSpelled script
script_written text script u is = subst ReadSpelled is (text_written text u)
