use Rattle.std.proofs.Common.{arith, None, ◌∷◌, refl, ap, length, ◌∙◌, append_assoc}
use Rattle.script_tree.specs.declared.symbol.Fixed.TheVariants as x
use Rattle.script_tree.specs.Grammar.{AStatement, MorePriority, One, verdict}
use Rattle.script_tree.specs.Tree as tree
use Rattle.script_parse_terms.proofs.Machine.{made}
use Rattle.script_parse_terms.proofs.Operators.{and_join}
use Rattle.script_parse.proofs.Priority.{skip_priority, more_priority}
use Rattle.script_parse.proofs.entities.create.Goals as goal

pub returns-in_default : goal.returns-in_default
returns-in_default c = record {
  shorter = omega (arith, c.requires.begun.shorter, c.in_ok-relation.ensures.shorter, c.in_ok-rest.ensures.read.shorter, c.in_ok-child.ensures.shorter, c.in_ok-last.ensures.read.shorter);
  spelled = rw (c.requires.begun.spelled, c.in_ok-relation.ensures.spelled, c.in_ok-rest.ensures.read.spelled, c.in_ok-child.ensures.spelled, c.in_ok-last.ensures.read.spelled) (simp append_assoc);
  good_one = and_join _ _ c.in_ok-relation.ensures.good_one (and_join _ _ c.in_ok-child.ensures.good_one refl);
  goes_on = λ ps i. c.requires.begun.goes_on ps i ∙ c.in_ok-relation.ensures.goes_on _ _ ∙ c.in_ok-rest.ensures.read.goes_on _ _ ∙ c.in_ok-child.ensures.goes_on _ _ ∙ made _ _ _ _ _ ∙ skip_priority _ _ _ _ c.in_default.ensures ∙ c.in_ok-last.ensures.read.goes_on _ _;
}

pub returns : goal.returns
returns c = record {
  shorter = omega (arith, c.requires.begun.shorter, c.in_ok-relation.ensures.shorter, c.in_ok-rest.ensures.read.shorter, c.in_ok-child.ensures.shorter, ap length c.in-Some.ensures, c.in_ok-e.ensures.shorter);
  spelled = rw (c.requires.begun.spelled, c.in_ok-relation.ensures.spelled, c.in_ok-rest.ensures.read.spelled, c.in_ok-child.ensures.spelled, c.in-Some.ensures, c.in_ok-e.ensures.spelled) (simp append_assoc);
  good_one = and_join _ _ c.in_ok-relation.ensures.good_one (and_join _ _ c.in_ok-child.ensures.good_one c.in_ok-e.ensures.good_one);
  goes_on = λ ps i. c.requires.begun.goes_on ps i ∙ c.in_ok-relation.ensures.goes_on _ _ ∙ c.in_ok-rest.ensures.read.goes_on _ _ ∙ c.in_ok-child.ensures.goes_on _ _ ∙ made _ _ _ _ _ ∙ ap (λ l. verdict (MorePriority ∷ One x.Semicolon ∷ ps) (AStatement (tree.Entity (tree.Create c.in_ok-relation.relation c.in_ok-child.child None)) ∷ i) c.args.depth l) c.in-Some.ensures ∙ more_priority _ _ _ _ ∙ c.in_ok-e.ensures.makes _ _ _;
}
