-- What the reader of a statement answers: the statement and what follows it, or the fault that stands within.
use Rattle.std.specs.Prelude.{ℕ, List, [], ◌∷◌, Result, Ok, Err}
use Rattle.std.specs.Borrow.{Bor}
use Rattle.script_tree.specs.declared.lexeme.Lexeme.{Lexeme}
use Rattle.script_tree.specs.declared.tree.Stmt.{Stmt}
use Rattle.script_tree.specs.Tree.{statement_of}
use Rattle.script_tree.specs.Spelling.{statement_fits}
use Rattle.script_tree.specs.Grammar as g
use Rattle.script_tree.specs.Grammar.{AStatement}
use Rattle.script_parse_terms.specs.declared.refusal.ReadError.{ReadError}
use Rattle.script_parse_terms.specs.Takes.{Took, Fails}

abbrev pub ReadsStatement : ℕ → List Lexeme → Result (Stmt × Bor (List Lexeme)) ReadError → Type 0
ReadsStatement d ts (Ok x) = Took g.Stmt [] d ts (AStatement (statement_of x.0) ∷ []) (statement_fits d (statement_of x.0)) x.1.now
ReadsStatement d ts (Err e) = Fails g.Stmt d ts e
