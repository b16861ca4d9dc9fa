-- Functions of an expression, before and behind it.
use Rattle.std.proofs.Common.{◌≡◌, ◌+◌, ℕ, List, [], ◌∷◌, ◌++◌, true, refl, sym, ap, ◌∙◌, arith, append_assoc}
use Rattle.script_tree.specs.declared.symbol.Fixed.TheVariants as x
use Rattle.script_tree.specs.declared.lexeme.Lexeme.{Lexeme}
use Rattle.script_tree.specs.declared.lexeme.Lexeme.TheVariants as t
use Rattle.script_tree.specs.declared.tree.Query.{Query}
use Rattle.script_tree.specs.Tree.{Bytes, Expression, Ask}
use Rattle.script_tree.specs.Words.{is_identifier}
use Rattle.script_tree.specs.Spelling.{fixed, before_asked, behind_asked, spell_expression, fits, query_fits}
use Rattle.script_tree.specs.Grammar.{Part, Name, Level, Make, Making, make, Item, AName, ATree, One, verdict, prim_after}
use Rattle.script_parse_terms.specs.declared.query.QueryWord.{QueryWord}
use Rattle.script_parse_terms.specs.declared.query.QueryWord.TheVariants as w
use Rattle.script_parse_terms.specs.declared.query.QueryHead.{QueryHead}
use Rattle.script_parse_terms.specs.Takes.{Took, TookAll, Turned, Begun, fits_at, parts_of, items_of}
use Rattle.script_parse_terms.specs.Queries.{TookTail, TookHead, TookNamed, word_token, word_of, tokens_before, tokens_inside, word_parts, parts_behind, items_before, head_fits}
use Rattle.script_parse_terms.proofs.Machine.{made}
use Rattle.script_parse_terms.proofs.Operators.{and_join}

pub named_took : (d : ℕ) (ts mid rest : List Lexeme) (name : Bytes) → Took Name [] (d + 1) ts (AName name ∷ []) (is_identifier name) mid → Turned x.CloseRound (d + 1) d mid rest → TookNamed [] (d + 1) d ts name rest
named_took d ts mid rest name took turned = record {
  shorter = omega (arith, took.shorter, turned.shorter);
  spelled = took.spelled ∙ ap (λ l. t.Name name ∷ l) turned.spelled;
  good_one = took.good_one;
  goes_on = λ m ps i. took.goes_on (Make m ∷ One x.CloseRound ∷ ps) i ∙ made m (One x.CloseRound ∷ ps) (AName name ∷ i) (d + 1) mid ∙ turned.goes_on ps (make m (AName name ∷ i));
}

-- what comes behind the word
pub word_opens : (word : QueryWord) (d : ℕ) (ts : List Lexeme) (ps : List Part) (is : List Item) → verdict (parts_of (prim_after (word_token word)) ++ ps) (items_of (prim_after (word_token word)) ++ is) d ts ≡ verdict (One x.OpenRound ∷ (word_parts word ++ ps)) is d ts
word_opens (w.Plain f) d ts ps is = refl
word_opens w.Masked d ts ps is = refl
word_opens w.Attribute d ts ps is = refl
word_opens w.Profile d ts ps is = refl
word_opens w.HasProfile d ts ps is = refl

-- the closing bracket comes right behind the expression
pub tail_closes : (d : ℕ) (head : QueryHead) (m : Making) (query : Query) (ts rest : List Lexeme) → parts_behind head ≡ Make m ∷ One x.CloseRound ∷ [] → before_asked query ≡ tokens_before head → behind_asked query ≡ fixed x.CloseRound ∷ [] → ((a : Expression) (is : List Item) → make m (ATree a ∷ (items_before head ++ is)) ≡ ATree (Ask query a) ∷ is) → (head_fits head ≡ true → query_fits query ≡ true) → Turned x.CloseRound (d + 1) d ts rest → TookTail d head ts query rest
tail_closes d head m query ts rest parts front behind makes fine turned = record {
  shorter = turned.shorter;
  front = front;
  spelled = turned.spelled ∙ ap (λ l. l ++ rest) (sym behind);
  good_one = fine;
  goes_on = λ a ps i. ap (λ l. verdict (l ++ ps) (ATree a ∷ (items_before head ++ i)) (d + 1) ts) parts ∙ made m (One x.CloseRound ∷ ps) (ATree a ∷ (items_before head ++ i)) (d + 1) ts
      ∙ turned.goes_on ps (make m (ATree a ∷ (items_before head ++ i))) ∙ ap (λ l. verdict ps l d rest) (makes a i);
}

-- a function up to its expression
pub head_took : (word : QueryWord) (head : QueryHead) (d : ℕ) (ts behind inner rest : List Lexeme) → Begun (Level 0) (word_token word) d ts behind → Turned x.OpenRound d (d + 1) behind inner → word_of head ≡ word → TookAll (word_parts word) (Level 8 ∷ parts_behind head) (d + 1) (d + 1) inner (tokens_inside head) (λ is. items_before head ++ is) (head_fits head) rest → TookHead d ts head rest
head_took word head d ts behind inner rest begun turned same took = record {
  shorter = omega (arith, begun.shorter, turned.shorter, took.shorter);
  spelled = begun.spelled ∙ ap (λ w. word_token w ∷ behind) (sym same) ∙ ap (λ l. word_token (word_of head) ∷ l) (turned.spelled ∙ ap (λ l. fixed x.OpenRound ∷ l) took.spelled);
  room = omega (arith, turned.outside);
  good_one = took.good_one;
  goes_on = λ ps i. begun.goes_on ps i ∙ word_opens word d behind ps i ∙ turned.goes_on (word_parts word ++ ps) i ∙ took.goes_on ps i;
}

-- a function of an expression
pub asked_spelled : (ts inner behind rest : List Lexeme) (head : QueryHead) (query : Query) (a : Expression) → ts ≡ tokens_before head ++ inner → inner ≡ spell_expression a ++ behind → before_asked query ≡ tokens_before head → behind ≡ behind_asked query ++ rest → ts ≡ spell_expression (Ask query a) ++ rest
asked_spelled ts inner behind rest head query a first middle front last =
    first ∙ ap (λ l. l ++ inner) (sym front)
    ∙ ap (λ l. before_asked query ++ l) (middle ∙ ap (λ l. spell_expression a ++ l) last ∙ sym (append_assoc (spell_expression a) (behind_asked query) rest))
    ∙ sym (append_assoc (before_asked query) (spell_expression a ++ behind_asked query) rest)

pub asked_took : (d : ℕ) (ts inner behind rest : List Lexeme) (head : QueryHead) (query : Query) (a : Expression) → TookHead d ts head inner → Took (Level 8) [] (d + 1) inner (ATree a ∷ []) (fits (d + 1) a) behind → TookTail d head behind query rest → Took (Level 0) [] d ts (ATree (Ask query a) ∷ []) (fits_at 0 d (Ask query a)) rest
asked_took d ts inner behind rest head query a front took tail = record {
  shorter = omega (arith, front.shorter, took.shorter, tail.shorter);
  spelled = asked_spelled ts inner behind rest head query a front.spelled took.spelled tail.front tail.spelled;
  good_one = and_join _ _ (tail.good_one front.good_one) took.good_one;
  goes_on = λ ps i. front.goes_on ps i ∙ took.goes_on (parts_behind head ++ ps) (items_before head ++ i) ∙ tail.goes_on a ps i;
}
