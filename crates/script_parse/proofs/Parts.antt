-- Readers of parts that may be left out.
use Rattle.std.proofs.Common.{◌≡◌, ℕ, List, [], ◌∷◌, ◌++◌, length, Option, Some, None, true, refl, sym, ap, ◌∙◌, arith, append_assoc}
use Rattle.slee_value.specs.declared.keep.Keep.{Keep}
use Rattle.slee_value.specs.declared.keep.Keep.TheVariants as keeps
use Rattle.script_tree.specs.declared.symbol.Fixed.TheVariants as x
use Rattle.script_tree.specs.declared.symbol.Constant.TheVariants as c
use Rattle.script_tree.specs.declared.symbol.Symbol.TheVariants as s
use Rattle.script_tree.specs.declared.lexeme.Lexeme.{Lexeme}
use Rattle.script_tree.specs.declared.lexeme.Lexeme.TheVariants as t
use Rattle.script_tree.specs.Tree.{Bytes, Expression}
use Rattle.script_tree.specs.Words.{is_identifier, is_literal}
use Rattle.script_tree.specs.Spelling.{fixed, spell_expression, spell_result, spell_service, spell_repeat, spell_keep, keep_token, fits, option_fits, repeat_fits}
use Rattle.script_tree.specs.Grammar.{Part, Item, AName, AText, ATree, Stops, Goes, Make, Level, Name, Text, KeepWord, MoreService, ForService, MoreResult, WithResult, MoreRepeat, Repeating, MoreKeep, Keeping, turn, Stays, keep_after, verdict}
use Rattle.script_parse_terms.specs.declared.refusal.ReadError.TheVariants as errors
use Rattle.script_parse_terms.specs.Takes.{Fails, Took, TookAll, TookBefore, kind_at}
use Rattle.script_parse.specs.Options.{keep_at, with_service, result_set, repeat_set, keep_set}
use Rattle.script_parse.specs.Options.{keep_in}
use Rattle.script_parse_terms.proofs.Machine.{made, refuse}
use Rattle.script_parse_terms.proofs.Operators.{and_join}
use Rattle.script_parse.proofs.Options.{more_service, more_result, more_repeat, more_keep}

-- `for TEXT`
pub service_took : (d : ℕ) (ts mid rest : List Lexeme) (y : Bytes) → ts ≡ t.Symbol (s.Fixed x.For) ∷ mid → Took Text [] d mid (AText y ∷ []) (is_literal y) rest → TookAll (MoreService ∷ []) [] d d ts (spell_service (Some y)) (with_service (Some y)) (option_fits is_literal (Some y)) rest
service_took d ts mid rest y is took = record {
  shorter = omega (arith, ap length is, took.shorter);
  spelled = is ∙ ap (λ l. fixed x.For ∷ l) took.spelled;
  good_one = took.good_one;
  goes_on = λ ps i. ap (verdict (MoreService ∷ ps) i d) is ∙ more_service ps i d mid ∙ took.goes_on (Make ForService ∷ ps) i ∙ made ForService ps (AText y ∷ i) d rest;
}

-- `as NAME`
pub result_took : (d : ℕ) (ts mid rest : List Lexeme) (y : Bytes) → ts ≡ t.Symbol (s.Fixed x.As) ∷ mid → Took Name [] d mid (AName y ∷ []) (is_identifier y) rest → TookAll (MoreResult ∷ []) [] d d ts (spell_result (Some y)) (result_set (Some y)) (option_fits is_identifier (Some y)) rest
result_took d ts mid rest y is took = record {
  shorter = omega (arith, ap length is, took.shorter);
  spelled = is ∙ ap (λ l. fixed x.As ∷ l) took.spelled;
  good_one = took.good_one;
  goes_on = λ ps i. ap (verdict (MoreResult ∷ ps) i d) is ∙ more_result ps i d mid ∙ took.goes_on (Make WithResult ∷ ps) i ∙ made WithResult ps (AName y ∷ i) d rest;
}

-- `every e times e`
pub repeat_took : (d : ℕ) (ts r1 r2 r3 : List Lexeme) (a b : Expression) (r : Option (Expression × Expression)) → ts ≡ t.Symbol (s.Fixed x.Every) ∷ r1 → TookBefore x.Times d r1 a (fits d a) r2 → Took (Level 8) [] d r2 (ATree b ∷ []) (fits d b) r3 → r ≡ Some (a, b) → TookAll (MoreRepeat ∷ []) [] d d ts (spell_repeat r) (repeat_set r) (option_fits (repeat_fits d) r) r3
repeat_took d ts r1 r2 r3 a b r is period times e = record {
  shorter = omega (arith, ap length is, period.shorter, times.shorter);
  spelled = is ∙ ap (λ l. fixed x.Every ∷ l) (period.spelled ∙ ap (λ l. spell_expression a ++ fixed x.Times ∷ l) times.spelled ∙ sym (append_assoc (spell_expression a) (fixed x.Times ∷ spell_expression b) r3))
      ∙ ap (λ o. spell_repeat o ++ r3) (sym e);
  good_one = ap (option_fits (repeat_fits d)) e ∙ and_join _ _ period.good_one times.good_one;
  goes_on = λ ps i. ap (verdict (MoreRepeat ∷ ps) i d) is ∙ more_repeat ps i d r1 ∙ period.goes_on (Level 8 ∷ Make Repeating ∷ ps) i ∙ times.goes_on (Make Repeating ∷ ps) (ATree a ∷ i)
      ∙ made Repeating ps (ATree b ∷ ATree a ∷ i) d r3 ∙ ap (λ l. verdict ps (repeat_set l i) d r3) (sym e);
}

-- `keep` and its word
pub keep_took : (d : ℕ) (ts mid rest : List Lexeme) (k : Keep) → ts ≡ t.Symbol (s.Fixed x.Keep) ∷ mid → TookAll (KeepWord ∷ []) [] d d mid (keep_token k ∷ []) (keep_set (Some k)) true rest → TookAll (MoreKeep ∷ []) [] d d ts (spell_keep (Some k)) (keep_set (Some k)) true rest
keep_took d ts mid rest k is took = record {
  shorter = omega (arith, ap length is, took.shorter);
  spelled = is ∙ ap (λ l. fixed x.Keep ∷ l) took.spelled;
  good_one = refl;
  goes_on = λ ps i. ap (verdict (MoreKeep ∷ ps) i d) is ∙ more_keep ps i d mid ∙ took.goes_on ps i;
}

keep_goes : (token : Lexeme) (k : Keep) → keep_at token ≡ Some k → (keep_after token ≡ Goes (Make (Keeping k) ∷ []) []) × (turn token ≡ Stays)
keep_goes (t.Symbol (s.Fixed x.All)) k h = let e : keeps.All ≡ k = cc in (ap (λ k. Goes (Make (Keeping k) ∷ []) []) e, refl)
keep_goes (t.Symbol (s.Fixed x.Last)) k h = let e : keeps.Last ≡ k = cc in (ap (λ k. Goes (Make (Keeping k) ∷ []) []) e, refl)
keep_goes (t.Symbol (s.Fixed _)) k h = cc
keep_goes (t.Symbol (s.Constant c.Nothing)) k h = let e : keeps.NoneMissed ≡ k = cc in (ap (λ k. Goes (Make (Keeping k) ∷ []) []) e, refl)
keep_goes (t.Symbol (s.Constant _)) k h = cc
keep_goes (t.Symbol (s.Operator y)) k h = cc
keep_goes (t.Symbol (s.Function y)) k h = cc
keep_goes (t.Symbol (s.Verb y)) k h = cc
keep_goes (t.Int n) k h = cc
keep_goes (t.Name n) k h = cc
keep_goes (t.Text n) k h = cc
keep_goes t.Bad k h = cc

keep_is : (token : Lexeme) (k : Keep) → keep_at token ≡ Some k → token ≡ keep_token k
keep_is (t.Symbol (s.Fixed x.All)) k h = let e : keeps.All ≡ k = cc in ap keep_token e
keep_is (t.Symbol (s.Fixed x.Last)) k h = let e : keeps.Last ≡ k = cc in ap keep_token e
keep_is (t.Symbol (s.Fixed _)) k h = cc
keep_is (t.Symbol (s.Constant c.Nothing)) k h = let e : keeps.NoneMissed ≡ k = cc in ap keep_token e
keep_is (t.Symbol (s.Constant _)) k h = cc
keep_is (t.Symbol (s.Operator y)) k h = cc
keep_is (t.Symbol (s.Function y)) k h = cc
keep_is (t.Symbol (s.Verb y)) k h = cc
keep_is (t.Int n) k h = cc
keep_is (t.Name n) k h = cc
keep_is (t.Text n) k h = cc
keep_is t.Bad k h = cc

keep_opens : (ps : List Part) (is : List Item) (d : ℕ) (ts rest : List Lexeme) (token : Lexeme) (k : Keep) → ts ≡ token ∷ rest → keep_at token ≡ Some k → verdict (KeepWord ∷ ps) is d ts ≡ verdict (Make (Keeping k) ∷ ps) is d rest
unfolding verdict
keep_opens ps is d ts rest token k e h = let p = keep_goes token k h in ap (verdict (KeepWord ∷ ps) is d) e ∙ rw (p.0, p.1) refl

pub keep_word_took : (d : ℕ) (ts rest : List Lexeme) (token : Lexeme) (k : Keep) → ts ≡ token ∷ rest → keep_in ts ≡ Some k → TookAll (KeepWord ∷ []) [] d d ts (keep_token k ∷ []) (keep_set (Some k)) true rest
keep_word_took d ts rest token k is h = record {
  shorter = omega (arith, ap length is);
  spelled = is ∙ ap (λ y. y ∷ rest) (keep_is token k (ap keep_in (sym is) ∙ h));
  good_one = refl;
  goes_on = λ ps i. keep_opens ps i d ts rest token k is (ap keep_in (sym is) ∙ h) ∙ made (Keeping k) ps i d rest;
}

no_keep : (token : Lexeme) → keep_at token ≡ None → keep_after token ≡ Stops
no_keep (t.Symbol (s.Fixed x.All)) h = cc
no_keep (t.Symbol (s.Fixed x.Last)) h = cc
no_keep (t.Symbol (s.Fixed _)) h = refl
no_keep (t.Symbol (s.Constant c.Nothing)) h = cc
no_keep (t.Symbol (s.Constant _)) h = refl
no_keep (t.Symbol (s.Operator y)) h = refl
no_keep (t.Symbol (s.Function y)) h = refl
no_keep (t.Symbol (s.Verb y)) h = refl
no_keep (t.Int n) h = refl
no_keep (t.Name n) h = refl
no_keep (t.Text n) h = refl
no_keep t.Bad h = refl

pub refuse_keep : (d : ℕ) (ts : List Lexeme) → keep_in ts ≡ None → Fails KeepWord d ts (errors.Misfit (record { left = length ts; kind = kind_at ts }))
refuse_keep d ts h = refuse KeepWord d ts refl (λ token rest is. no_keep token (ap keep_in (sym is) ∙ h))
