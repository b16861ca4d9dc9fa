use Rattle.std.proofs.Common.{◌≡◌, ◌++◌, length, map}
use Rattle.script_tree.specs.Lexer.{spots_of}
use Rattle.script_tree.specs.Reading.{tokens_of, token_of, token_list}
use Rattle.script_tree.proofs.Lexing.{with_front}
use Rattle.script_tree.proofs.lexer.lex.Given as goal

-- what was read, and what is left, are the whole
abbrev pub invariant-tokens : goal.invariant-tokens
invariant-tokens l = record {
  tokens : l.tokens.items ++ map token_of l.scan ≡ map token_of (spots_of l.text);
  answer : with_front l.tokens.items (token_list l.text l.scan) ≡ tokens_of l.text;
}

abbrev pub decreases-tokens : goal.decreases-tokens
decreases-tokens l = length l.scan
