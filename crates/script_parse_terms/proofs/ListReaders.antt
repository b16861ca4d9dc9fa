-- Readers of lists of arguments and fields.
use Rattle.std.proofs.Common.{◌≡◌, ◌<◌, ◌+◌, ◌-◌, ℕ, List, [], ◌∷◌, ◌++◌, length, Bool, true, false, refl, sym, ap, ◌∙◌, arith, append_assoc, append-nil}
use Rattle.std.specs.Prelude.{map, ◌&&◌}
use Rattle.std.specs.List.{list_all}
use Rattle.script_tree.specs.declared.symbol.Fixed.TheVariants as x
use Rattle.script_tree.specs.declared.symbol.Symbol.TheVariants as s
use Rattle.script_tree.specs.declared.lexeme.Lexeme.{Lexeme}
use Rattle.script_tree.specs.declared.lexeme.Lexeme.TheVariants as t
use Rattle.script_tree.specs.declared.fault.SyntaxBad.TheVariants as bad
use Rattle.script_tree.specs.declared.tree.Expr.{Expr}
use Rattle.script_tree.specs.declared.tree.FieldValue.{FieldValue}
use Rattle.script_tree.specs.Tree.{Bytes, Expression, tree_of, field_of}
use Rattle.script_tree.specs.Words.{is_identifier}
use Rattle.script_tree.specs.Spelling.{fixed, spell_expression, spell_arguments, spell_more, spell_field, spell_fields, spell_more_fields, fits, field_fits}
use Rattle.script_tree.specs.Grammar.{Part, Item, AName, ATree, Make, Level, One, Name, MoreFields, NextField, WithField, Arguments, NextArgument, WithArgument, verdict}
use Rattle.script_parse_terms.specs.declared.refusal.ReadError.TheVariants as errors
use Rattle.script_parse_terms.specs.Takes.{Fails, Took, Turned, TookAll, starts}
use Rattle.script_parse_terms.specs.Lists.{TookField, has_some, spell_further, spell_list, with_fields, with_arguments}
use Rattle.script_parse_terms.proofs.Machine.{made}
use Rattle.script_parse_terms.proofs.Operators.{and_join, and_split}
use Rattle.script_parse_terms.proofs.ListSteps.{skip_next_field, more_next_field, more_fields, deep_fields, with_fields_more, skip_next_argument, more_next_argument, with_arguments_more, first_argument, skip_arguments}

-- a part that may be left out doesn't come
pub left_out : (p : Part) (d : ℕ) (ts tokens : List Lexeme) (set : List Item → List Item) (good : Bool) → ((ps : List Part) (is : List Item) → verdict (p ∷ ps) is d ts ≡ verdict ps is d ts) → ((is : List Item) → set is ≡ is) → good ≡ true → tokens ≡ [] → TookAll (p ∷ []) [] d d ts tokens set good ts
left_out p d ts tokens set good skips same fine none = record {
  shorter = omega arith;
  spelled = ap (λ l. l ++ ts) (sym none);
  good_one = fine;
  goes_on = λ ps i. skips ps i ∙ ap (λ l. verdict ps l d ts) (sym (same i));
}

all_more : {A : Type 0} (p : A → Bool) (ys : List A) (y : A) → list_all p ys ≡ true → p y ≡ true → list_all p (ys ++ y ∷ []) ≡ true
all_more p [] y h k = and_join _ _ k refl
all_more p (z ∷ ys) y h k = let both = and_split _ _ h in and_join _ _ both.0 (all_more p ys y both.1 k)

mapped_more : {A B : Type 0} (f : A → B) (ys : List A) (y : A) → map f (ys ++ y ∷ []) ≡ map f ys ++ f y ∷ []
mapped_more f [] y = refl
mapped_more f (z ∷ ys) y = ap (λ l. f z ∷ l) (mapped_more f ys y)

some_more : {A : Type 0} (xs : List A) (x : A) → has_some (xs ++ x ∷ []) ≡ true
some_more [] x = refl
some_more (y ∷ xs) x = refl

further_more : (fs : List (Bytes × Expression)) (f : Bytes × Expression) → spell_further (fs ++ f ∷ []) ≡ spell_further fs ++ fixed x.Comma ∷ spell_field f
further_more [] f = ap (λ l. fixed x.Comma ∷ l) (append-nil (spell_field f))
further_more (g ∷ fs) f = ap (λ l. fixed x.Comma ∷ (spell_field g ++ l)) (further_more fs f) ∙ ap (λ l. fixed x.Comma ∷ l) (sym (append_assoc (spell_field g) (spell_further fs) (fixed x.Comma ∷ spell_field f)))

list_more : (fs : List (Bytes × Expression)) (f : Bytes × Expression) → has_some fs ≡ true → spell_list (fs ++ f ∷ []) ≡ spell_list fs ++ fixed x.Comma ∷ spell_field f
list_more [] f h = cc
list_more (g ∷ fs) f h = ap (λ l. spell_field g ++ l) (further_more fs f) ∙ sym (append_assoc (spell_field g) (spell_further fs) (fixed x.Comma ∷ spell_field f))

further_closed : (fs : List (Bytes × Expression)) → spell_more_fields fs ≡ spell_further fs ++ fixed x.CloseCurly ∷ []
further_closed [] = refl
further_closed (f ∷ fs) = ap (λ l. fixed x.Comma ∷ (spell_field f ++ l)) (further_closed fs) ∙ ap (λ l. fixed x.Comma ∷ l) (sym (append_assoc (spell_field f) (spell_further fs) (fixed x.CloseCurly ∷ [])))

list_closed : (fs : List (Bytes × Expression)) → has_some fs ≡ true → spell_fields fs ≡ fixed x.OpenCurly ∷ (spell_list fs ++ fixed x.CloseCurly ∷ [])
list_closed [] h = cc
list_closed (f ∷ fs) h = ap (λ l. fixed x.OpenCurly ∷ (spell_field f ++ l)) (further_closed fs) ∙ ap (λ l. fixed x.OpenCurly ∷ l) (sym (append_assoc (spell_field f) (spell_further fs) (fixed x.CloseCurly ∷ [])))

others_longer : (xs : List Expression) (a : Expression) → spell_more (xs ++ a ∷ []) ≡ spell_more xs ++ fixed x.Comma ∷ spell_expression a
others_longer [] a = ap (λ l. fixed x.Comma ∷ l) (append-nil (spell_expression a))
others_longer (b ∷ xs) a = ap (λ l. fixed x.Comma ∷ (spell_expression b ++ l)) (others_longer xs a) ∙ ap (λ l. fixed x.Comma ∷ l) (sym (append_assoc (spell_expression b) (spell_more xs) (fixed x.Comma ∷ spell_expression a)))

arguments_longer : (xs : List Expression) (a : Expression) → has_some xs ≡ true → spell_arguments (xs ++ a ∷ []) ≡ spell_arguments xs ++ fixed x.Comma ∷ spell_expression a
arguments_longer [] a h = cc
arguments_longer (b ∷ xs) a h = ap (λ l. spell_expression b ++ l) (others_longer xs a) ∙ sym (append_assoc (spell_expression b) (spell_more xs) (fixed x.Comma ∷ spell_expression a))

-- `NAME: e`
pub field_took : (d : ℕ) (ts r1 r2 r3 : List Lexeme) (name : Bytes) (a : Expression) → Took Name [] d ts (AName name ∷ []) (is_identifier name) r1 → Turned x.Colon d d r1 r2 → Took (Level 8) [] d r2 (ATree a ∷ []) (fits d a) r3 → TookField d ts (name, a) (field_fits d (name, a)) r3
field_took d ts r1 r2 r3 name a named turned took = record {
  shorter = omega (arith, named.shorter, turned.shorter, took.shorter);
  spelled = named.spelled ∙ ap (λ l. t.Name name ∷ l) (turned.spelled ∙ ap (λ l. fixed x.Colon ∷ l) took.spelled);
  good_one = and_join _ _ named.good_one took.good_one;
  goes_on = λ ps i. named.goes_on (One x.Colon ∷ Level 8 ∷ Make WithField ∷ ps) i ∙ turned.goes_on (Level 8 ∷ Make WithField ∷ ps) (AName name ∷ i) ∙ took.goes_on (Make WithField ∷ ps) (AName name ∷ i) ∙ made WithField ps (ATree a ∷ AName name ∷ i) d r3;
}

abbrev some_fields : List Part
some_fields = Name ∷ One x.Colon ∷ Level 8 ∷ Make WithField ∷ NextField ∷ []

pub fields_first : (d : ℕ) (ts mid : List Lexeme) (none ys : List FieldValue) (y : FieldValue) → TookField d ts (field_of y) (field_fits d (field_of y)) mid → none ≡ [] → ys ≡ none ++ y ∷ [] → TookAll some_fields (NextField ∷ []) d d ts (spell_list (map field_of ys)) (with_fields (map field_of ys)) (has_some (map field_of ys) && list_all (field_fits d) (map field_of ys)) mid
fields_first d ts mid none ys y took empty is =
    let e : map field_of ys ≡ field_of y ∷ [] = ap (map field_of) (is ∙ ap (λ l. l ++ y ∷ []) empty) in
    record {
      shorter = omega (arith, took.shorter);
      spelled = took.spelled ∙ ap (λ l. l ++ mid) (sym (append-nil (spell_field (field_of y)))) ∙ ap (λ l. spell_list l ++ mid) (sym e);
      good_one = ap (λ l. has_some l && list_all (field_fits d) l) e ∙ and_join _ _ took.good_one refl;
      goes_on = λ ps i. took.goes_on (NextField ∷ ps) i ∙ ap (λ l. verdict (NextField ∷ ps) (with_fields l i) d mid) (sym e);
    }

pub fields_more : (d : ℕ) (ts mid behind rest : List Lexeme) (xs ys : List FieldValue) (y : FieldValue) → TookAll some_fields (NextField ∷ []) d d ts (spell_list (map field_of xs)) (with_fields (map field_of xs)) (has_some (map field_of xs) && list_all (field_fits d) (map field_of xs)) mid → mid ≡ t.Symbol (s.Fixed x.Comma) ∷ behind → TookField d behind (field_of y) (field_fits d (field_of y)) rest → ys ≡ xs ++ y ∷ [] → TookAll some_fields (NextField ∷ []) d d ts (spell_list (map field_of ys)) (with_fields (map field_of ys)) (has_some (map field_of ys) && list_all (field_fits d) (map field_of ys)) rest
fields_more d ts mid behind rest xs ys y some comma took is =
    let e : map field_of ys ≡ map field_of xs ++ field_of y ∷ [] = ap (map field_of) is ∙ mapped_more field_of xs y in
    let good = and_split _ _ some.good_one in
    let before = spell_list (map field_of xs) in
    record {
      shorter = omega (arith, some.shorter, ap length comma, took.shorter);
      spelled = some.spelled ∙ ap (λ l. before ++ l) (comma ∙ ap (λ l. fixed x.Comma ∷ l) took.spelled) ∙ sym (append_assoc before (fixed x.Comma ∷ spell_field (field_of y)) rest)
          ∙ ap (λ l. l ++ rest) (sym (list_more (map field_of xs) (field_of y) good.0)) ∙ ap (λ l. spell_list l ++ rest) (sym e);
      good_one = ap (λ l. has_some l && list_all (field_fits d) l) e ∙ and_join _ _ (some_more (map field_of xs) (field_of y)) (all_more (field_fits d) (map field_of xs) (field_of y) good.1 took.good_one);
      goes_on = λ ps i. some.goes_on ps i ∙ ap (verdict (NextField ∷ ps) (with_fields (map field_of xs) i) d) comma ∙ more_next_field ps (with_fields (map field_of xs) i) d behind ∙ took.goes_on (NextField ∷ ps) (with_fields (map field_of xs) i)
          ∙ ap (λ l. verdict (NextField ∷ ps) l d rest) (sym (with_fields_more (map field_of xs) (field_of y) i)) ∙ ap (λ l. verdict (NextField ∷ ps) (with_fields l i) d rest) (sym e);
    }

pub fields_end : (d : ℕ) (ts tokens rest : List Lexeme) (set : List Item → List Item) (good : Bool) → TookAll some_fields (NextField ∷ []) d d ts tokens set good rest → starts x.Comma rest ≡ false → TookAll some_fields [] d d ts tokens set good rest
fields_end d ts tokens rest set good some ends = record {
  shorter = some.shorter;
  spelled = some.spelled;
  good_one = some.good_one;
  goes_on = λ ps i. some.goes_on ps i ∙ skip_next_field ps (set i) d rest ends;
}

-- `{ NAME: e, .. }`
pub fields_took : (d : ℕ) (ts inner mid rest : List Lexeme) (fs : List (Bytes × Expression)) → ts ≡ t.Symbol (s.Fixed x.OpenCurly) ∷ inner → d < 64 → TookAll some_fields [] (d + 1) (d + 1) inner (spell_list fs) (with_fields fs) (has_some fs && list_all (field_fits (d + 1)) fs) mid → Turned x.CloseCurly (d + 1) d mid rest → TookAll (MoreFields ∷ []) [] d d ts (spell_fields fs) (with_fields fs) (list_all (field_fits (d + 1)) fs) rest
fields_took d ts inner mid rest fs is lt list turned = record {
  shorter = omega (arith, ap length is, list.shorter, turned.shorter);
  spelled = is ∙ ap (λ l. fixed x.OpenCurly ∷ l) (list.spelled ∙ ap (λ l. spell_list fs ++ l) turned.spelled ∙ sym (append_assoc (spell_list fs) (fixed x.CloseCurly ∷ []) rest))
      ∙ ap (λ l. l ++ rest) (sym (list_closed fs (and_split _ _ list.good_one).0));
  good_one = (and_split _ _ list.good_one).1;
  goes_on = λ ps i. ap (verdict (MoreFields ∷ ps) i d) is ∙ more_fields ps i d inner lt ∙ list.goes_on (One x.CloseCurly ∷ ps) i ∙ turned.goes_on ps (with_fields fs i);
}

pub fields_deep : (d : ℕ) (ts inner : List Lexeme) → ts ≡ t.Symbol (s.Fixed x.OpenCurly) ∷ inner → d ≡ 64 → Fails MoreFields d ts (errors.Misfit (record { left = length ts; kind = bad.Deep }))
fields_deep d ts inner is at = λ ps i. deep_fields ps i d ts inner is at

-- arguments
abbrev some_arguments : List Part
some_arguments = Level 8 ∷ Make WithArgument ∷ NextArgument ∷ []

pub arguments_first : (d : ℕ) (ts mid : List Lexeme) (none ys : List Expr) (y : Expr) → Took (Level 8) [] d ts (ATree (tree_of y) ∷ []) (fits d (tree_of y)) mid → none ≡ [] → ys ≡ none ++ y ∷ [] → TookAll some_arguments (NextArgument ∷ []) d d ts (spell_arguments (map tree_of ys)) (with_arguments (map tree_of ys)) (has_some (map tree_of ys) && list_all (fits d) (map tree_of ys)) mid
arguments_first d ts mid none ys y took empty is =
    let e : map tree_of ys ≡ tree_of y ∷ [] = ap (map tree_of) (is ∙ ap (λ l. l ++ y ∷ []) empty) in
    record {
      shorter = omega (arith, took.shorter);
      spelled = took.spelled ∙ ap (λ l. l ++ mid) (sym (append-nil (spell_expression (tree_of y)))) ∙ ap (λ l. spell_arguments l ++ mid) (sym e);
      good_one = ap (λ l. has_some l && list_all (fits d) l) e ∙ and_join _ _ took.good_one refl;
      goes_on = λ ps i. took.goes_on (Make WithArgument ∷ NextArgument ∷ ps) i ∙ made WithArgument (NextArgument ∷ ps) (ATree (tree_of y) ∷ i) d mid ∙ ap (λ l. verdict (NextArgument ∷ ps) (with_arguments l i) d mid) (sym e);
    }

pub arguments_more : (d : ℕ) (ts mid behind rest : List Lexeme) (xs ys : List Expr) (y : Expr) → TookAll some_arguments (NextArgument ∷ []) d d ts (spell_arguments (map tree_of xs)) (with_arguments (map tree_of xs)) (has_some (map tree_of xs) && list_all (fits d) (map tree_of xs)) mid → mid ≡ t.Symbol (s.Fixed x.Comma) ∷ behind → Took (Level 8) [] d behind (ATree (tree_of y) ∷ []) (fits d (tree_of y)) rest → ys ≡ xs ++ y ∷ [] → TookAll some_arguments (NextArgument ∷ []) d d ts (spell_arguments (map tree_of ys)) (with_arguments (map tree_of ys)) (has_some (map tree_of ys) && list_all (fits d) (map tree_of ys)) rest
arguments_more d ts mid behind rest xs ys y some comma took is =
    let e : map tree_of ys ≡ map tree_of xs ++ tree_of y ∷ [] = ap (map tree_of) is ∙ mapped_more tree_of xs y in
    let good = and_split _ _ some.good_one in
    let before = spell_arguments (map tree_of xs) in
    record {
      shorter = omega (arith, some.shorter, ap length comma, took.shorter);
      spelled = some.spelled ∙ ap (λ l. before ++ l) (comma ∙ ap (λ l. fixed x.Comma ∷ l) took.spelled) ∙ sym (append_assoc before (fixed x.Comma ∷ spell_expression (tree_of y)) rest)
          ∙ ap (λ l. l ++ rest) (sym (arguments_longer (map tree_of xs) (tree_of y) good.0)) ∙ ap (λ l. spell_arguments l ++ rest) (sym e);
      good_one = ap (λ l. has_some l && list_all (fits d) l) e ∙ and_join _ _ (some_more (map tree_of xs) (tree_of y)) (all_more (fits d) (map tree_of xs) (tree_of y) good.1 took.good_one);
      goes_on = λ ps i. some.goes_on ps i ∙ ap (verdict (NextArgument ∷ ps) (with_arguments (map tree_of xs) i) d) comma ∙ more_next_argument ps (with_arguments (map tree_of xs) i) d behind ∙ took.goes_on (Make WithArgument ∷ NextArgument ∷ ps) (with_arguments (map tree_of xs) i)
          ∙ made WithArgument (NextArgument ∷ ps) (ATree (tree_of y) ∷ with_arguments (map tree_of xs) i) d rest
          ∙ ap (λ l. verdict (NextArgument ∷ ps) l d rest) (sym (with_arguments_more (map tree_of xs) (tree_of y) i)) ∙ ap (λ l. verdict (NextArgument ∷ ps) (with_arguments l i) d rest) (sym e);
    }

pub arguments_end : (d : ℕ) (ts tokens rest : List Lexeme) (set : List Item → List Item) (good : Bool) → TookAll some_arguments (NextArgument ∷ []) d d ts tokens set good rest → starts x.Comma rest ≡ false → TookAll some_arguments [] d d ts tokens set good rest
arguments_end d ts tokens rest set good some ends = record {
  shorter = some.shorter;
  spelled = some.spelled;
  good_one = some.good_one;
  goes_on = λ ps i. some.goes_on ps i ∙ skip_next_argument ps (set i) d rest ends;
}

-- arguments and the bracket behind them
pub no_arguments : (d : ℕ) (ts rest : List Lexeme) (xs : List Expr) → ts ≡ t.Symbol (s.Fixed x.CloseRound) ∷ rest → xs ≡ [] → TookAll (Arguments ∷ One x.CloseRound ∷ []) [] (d + 1) d ts (spell_arguments (map tree_of xs) ++ fixed x.CloseRound ∷ []) (with_arguments (map tree_of xs)) (list_all (fits (d + 1)) (map tree_of xs)) rest
no_arguments d ts rest xs is empty =
    let back : d + 1 - 1 ≡ d = omega arith in
    record {
      shorter = omega (arith, ap length is);
      spelled = is ∙ ap (λ l. (spell_arguments (map tree_of l) ++ fixed x.CloseRound ∷ []) ++ rest) (sym empty);
      good_one = ap (λ l. list_all (fits (d + 1)) (map tree_of l)) empty;
      goes_on = λ ps i. skip_arguments ps i (d + 1) ts rest is ∙ ap (λ e. verdict ps i e rest) back ∙ ap (λ l. verdict ps (with_arguments (map tree_of l) i) d rest) (sym empty);
    }

pub arguments_took : (d : ℕ) (ts mid rest : List Lexeme) (xs : List Expression) → starts x.CloseRound ts ≡ false → TookAll some_arguments [] (d + 1) (d + 1) ts (spell_arguments xs) (with_arguments xs) (has_some xs && list_all (fits (d + 1)) xs) mid → Turned x.CloseRound (d + 1) d mid rest → TookAll (Arguments ∷ One x.CloseRound ∷ []) [] (d + 1) d ts (spell_arguments xs ++ fixed x.CloseRound ∷ []) (with_arguments xs) (list_all (fits (d + 1)) xs) rest
arguments_took d ts mid rest xs h list turned = record {
  shorter = omega (arith, list.shorter, turned.shorter);
  spelled = list.spelled ∙ ap (λ l. spell_arguments xs ++ l) turned.spelled ∙ sym (append_assoc (spell_arguments xs) (fixed x.CloseRound ∷ []) rest);
  good_one = (and_split _ _ list.good_one).1;
  goes_on = λ ps i. first_argument ps i (d + 1) ts h ∙ list.goes_on (One x.CloseRound ∷ ps) i ∙ turned.goes_on ps (with_arguments xs i);
}
