-- An expression with a word or sign behind it.
use Rattle.std.proofs.Common.{ℕ, List, [], ◌∷◌, ◌++◌, Bool, ap, ◌∙◌, arith}
use Rattle.script_tree.specs.declared.symbol.Fixed.{Fixed}
use Rattle.script_tree.specs.declared.lexeme.Lexeme.{Lexeme}
use Rattle.script_tree.specs.Tree.{Expression}
use Rattle.script_tree.specs.Spelling.{spell_expression}
use Rattle.script_tree.specs.Grammar.{ATree, Make, Level, One, make}
use Rattle.script_parse_terms.specs.Takes.{Took, Turned, TookBefore}
use Rattle.script_parse_terms.proofs.Machine.{made}

pub before_took : (y : Fixed) (d : ℕ) (ts mid rest : List Lexeme) (a : Expression) (good : Bool) → Took (Level 8) [] d ts (ATree a ∷ []) good mid → Turned y d d mid rest → TookBefore y d ts a good rest
before_took y d ts mid rest a good took turned = record {
  shorter = omega (arith, took.shorter, turned.shorter);
  spelled = took.spelled ∙ ap (λ l. spell_expression a ++ l) turned.spelled;
  good_one = took.good_one;
  goes_on = λ ps i. took.goes_on (One y ∷ ps) i ∙ turned.goes_on ps (ATree a ∷ i);
  makes = λ m ps i. took.goes_on (Make m ∷ One y ∷ ps) i ∙ made m (One y ∷ ps) (ATree a ∷ i) d mid ∙ turned.goes_on ps (make m (ATree a ∷ i));
}
