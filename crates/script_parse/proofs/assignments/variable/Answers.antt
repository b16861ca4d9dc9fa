use Rattle.std.proofs.Common.{arith, ap, ◌∙◌, sym, ◌∷◌, [], append_assoc}
use Rattle.script_tree.specs.Grammar.{verdict, SettingVariable, AName, AStatement}
use Rattle.script_tree.specs.Tree as tree
use Rattle.script_tree.specs.Tree.{tree_of}
use Rattle.script_tree.specs.Words.{is_identifier}
use Rattle.script_parse_terms.proofs.Operators.{and_join}
use Rattle.script_tree.specs.declared.lexeme.Lexeme.TheVariants as t
use Rattle.script_tree.specs.declared.symbol.Fixed.TheVariants as x
use Rattle.script_tree.specs.Spelling.{fixed, spell_expression}
use Rattle.script_parse.proofs.assignments.variable.Goals as goal

pub returns : goal.returns
returns c = record {
  shorter = omega (arith, c.requires.begun.shorter, c.in_ok-rest.ensures.read.shorter, c.in_ok-e.ensures.shorter);
  spelled = c.requires.begun.spelled
      ∙ ap (λ n. t.Name n ∷ c.args.behind.now) (sym c.in_ok-name.ensures.same)
      ∙ ap (λ l. t.Name c.in_ok-name.name ∷ l) (c.in_ok-rest.ensures.read.spelled ∙ ap (λ l. fixed x.Assign ∷ l) (c.in_ok-e.ensures.spelled ∙ sym (append_assoc (spell_expression (tree_of c.in_ok-e.e)) (fixed x.Semicolon ∷ []) c.in_ok-e.rest.now)));
  good_one = and_join _ _ (ap is_identifier c.in_ok-name.ensures.same ∙ c.in_ok-name.ensures.identifier) c.in_ok-e.ensures.good_one;
  goes_on = λ ps i. c.requires.begun.goes_on ps i ∙ c.in_ok-rest.ensures.read.goes_on _ _ ∙ c.in_ok-e.ensures.makes SettingVariable ps (AName c.args.name.now ∷ i)
      ∙ ap (λ n. verdict ps (AStatement (tree.Assign (tree.Variable n (tree_of c.in_ok-e.e))) ∷ i) c.args.depth c.in_ok-e.rest.now) (sym c.in_ok-name.ensures.same);
}
