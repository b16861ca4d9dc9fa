-- How many tokens a part of a script has: as many as its spelling.
use Rattle.std.specs.Prelude.{ℕ, List, length, Option}
use Rattle.script_tree.specs.declared.tree.Query.{Query}
use Rattle.script_tree.specs.Tree.{Bytes, Expression, Statement, Statements}
use Rattle.script_tree.specs.Spelling.{before_asked, spell_expression, spell_arguments, spell_result, spell_statement, spell_statements}

-- before a function's operand: FUNCTION (, or FUNCTION ( NAME ,
abbrev pub tokens_before : Query → ℕ
tokens_before query = length (before_asked query)

abbrev pub tokens_in : Expression → ℕ
tokens_in x = length (spell_expression x)

-- between a call's brackets, the commas too
abbrev pub tokens_in_arguments : List Expression → ℕ
tokens_in_arguments xs = length (spell_arguments xs)

-- as NAME, or for TEXT
abbrev pub tokens_in_tail : Option Bytes → ℕ
tokens_in_tail name = length (spell_result name)

abbrev pub tokens_in_statement : Statement → ℕ
tokens_in_statement y = length (spell_statement y)

abbrev pub tokens_in_statements : Statements → ℕ
tokens_in_statements ys = length (spell_statements ys)
