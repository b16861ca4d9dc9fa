-- Parts that may be left out, and lists, that the grammar's table reads are spelled as what was read.
use Rattle.std.proofs.Common.{◌≡◌, ◌≤◌, ◌<◌, ◌+◌, ◌-◌, ℕ, zero, suc, List, [], ◌∷◌, ◌++◌, length, true, false, cond, ◌⊎◌, inl, inr, Option, None, refl, sym, ap, subst, ◌∙◌, arith, append_assoc, append-nil}
use Rattle.std.specs.Prelude.{nat_le}
use Rattle.std.specs.List.{list_all}
use Rattle.slee_value.specs.declared.keep.Keep.{Keep}
use Rattle.slee_value.specs.declared.keep.Keep.TheVariants as keeps
use Rattle.script_tree.specs.declared.symbol.Fixed.{Fixed}
use Rattle.script_tree.specs.declared.symbol.Fixed.TheVariants as x
use Rattle.script_tree.specs.declared.symbol.Constant.TheVariants as c
use Rattle.script_tree.specs.declared.symbol.Symbol.TheVariants as symbols
use Rattle.script_tree.specs.declared.lexeme.Lexeme.{Lexeme}
use Rattle.script_tree.specs.declared.lexeme.Lexeme.TheVariants as t
use Rattle.script_tree.specs.Tree as tree
use Rattle.script_tree.specs.Tree.{Bytes, Expression, Statements}
use Rattle.script_tree.specs.Words.{is_identifier}
use Rattle.script_tree.specs.Spelling.{fixed, spell_expression, spell_more, spell_arguments, spell_field, spell_more_fields, spell_fields, keep_token, level, fits, field_fits}
use Rattle.script_tree.specs.Grammar.{Part, Item, AName, ATree, AStatement, Next, Stops, Goes, Verdict, One, Name, Level, KeepWord, Make, MoreFields, NextField, WithField, Keeping, Arguments, NextArgument, WithArgument, Fine, Faulty, after, opening, optional, passed, then_parts, goes_on, level_after, turn_of, Stays, verdict, verdict_at, is_fixed}
use Rattle.script_tree.specs.declared.fault.SyntaxBad.TheVariants as bad
use Rattle.script_print.proofs.Levels.{by_test}
use Rattle.script_print.proofs.Expressions.{and_parts}
use Rattle.script_print.specs.Proper.{is_proper}
use Rattle.script_print.proofs.Steps.{never, chosen, and_join, behind, unmade, one_read, same_fixed, is_same, opening_room, back, name_read}
use Rattle.script_print.proofs.Operands.{Expressions}

-- ---- a part that begins with a word and may be left out

-- the word came
pub record Came (y : Fixed) (parts : List Part) (is : List Item) (d : ℕ) (ts : List Lexeme) (s : Statements) : Type 0 where
  pub rest : List Lexeme
  pub spelled : ts ≡ fixed y ∷ rest
  pub good : list_all is_proper rest ≡ true
  pub goes : verdict parts is d rest ≡ Fine s

-- such a part
pub record Begins (p : Part) (y : Fixed) (parts : List Part) : Type 0 where
  pub first : (token : Lexeme) → after p token ≡ opening y parts [] token
  pub may_miss : optional p ≡ true
  pub changes_nothing : (is : List Item) → passed p is ≡ is
  pub no_bracket : turn_of y ≡ Stays

comes : (p : Part) (y : Fixed) (parts : List Part) → Begins p y parts → (ps : List Part) (is : List Item) (d : ℕ) (ts : List Lexeme) → verdict (p ∷ ps) is d (fixed y ∷ ts) ≡ verdict (parts ++ ps) is d ts
unfolding verdict
comes p y parts b ps is d ts = rw (b.first (fixed y), is_same y, b.no_bracket) refl

misses : (p : Part) (y : Fixed) (parts : List Part) → Begins p y parts → (ps : List Part) (is : List Item) (d : ℕ) (token : Lexeme) (ts : List Lexeme) → is_fixed y token ≡ false → verdict (p ∷ ps) is d (token ∷ ts) ≡ verdict ps is d (token ∷ ts)
unfolding verdict
misses p y parts b ps is d token ts e = rw (b.first token, e, b.may_miss, b.changes_nothing is) refl

ends : (p : Part) (y : Fixed) (parts : List Part) → Begins p y parts → (ps : List Part) (is : List Item) (d : ℕ) → verdict (p ∷ ps) is d [] ≡ verdict ps is d []
unfolding verdict
ends p y parts b ps is d = rw (b.may_miss, b.changes_nothing is) refl

came : (p : Part) (y : Fixed) (parts : List Part) → Begins p y parts → (ps : List Part) (is : List Item) (d : ℕ) (token : Lexeme) (ts : List Lexeme) (s : Statements) → list_all is_proper ts ≡ true → token ≡ fixed y → verdict (p ∷ ps) is d (token ∷ ts) ≡ Fine s → Came y (parts ++ ps) is d (token ∷ ts) s
came p y parts b ps is d token ts s g e h = record {
  rest = ts;
  spelled = ap (λ l. l ∷ ts) e;
  good = g;
  goes = sym (comes p y parts b ps is d ts) ∙ ap (λ l. verdict (p ∷ ps) is d (l ∷ ts)) (sym e) ∙ h;
}

pub maybe_read : (p : Part) (y : Fixed) (parts : List Part) → Begins p y parts → (ps : List Part) (is : List Item) (d : ℕ) (ts : List Lexeme) (s : Statements) → list_all is_proper ts ≡ true → verdict (p ∷ ps) is d ts ≡ Fine s → (verdict ps is d ts ≡ Fine s) ⊎ Came y (parts ++ ps) is d ts s
maybe_read p y parts b ps is d [] s g h = inl (sym (ends p y parts b ps is d) ∙ h)
maybe_read p y parts b ps is d (token ∷ ts) s g h =
    by_test (is_fixed y token)
    (λ e. inr (came p y parts b ps is d token ts s (and_parts (is_proper token) (list_all is_proper ts) g).1 (same_fixed y token e) h))
    (λ e. inl (sym (misses p y parts b ps is d token ts e) ∙ h))

-- ---- the word behind `keep`

pub record ReadKeep (ps : List Part) (is : List Item) (d : ℕ) (ts : List Lexeme) (s : Statements) : Type 0 where
  pub keep : Keep
  pub rest : List Lexeme
  pub spelled : ts ≡ keep_token keep ∷ rest
  pub good : list_all is_proper rest ≡ true
  pub goes : verdict (Make (Keeping keep) ∷ ps) is d rest ≡ Fine s

pub keep_read : (ps : List Part) (is : List Item) (d : ℕ) (ts : List Lexeme) (s : Statements) → list_all is_proper ts ≡ true → verdict (KeepWord ∷ ps) is d ts ≡ Fine s → ReadKeep ps is d ts s
unfolding verdict
keep_read ps is d [] s g h = never _ s h
keep_read ps is d (t.Symbol (symbols.Fixed x.All) ∷ ts) s g h = record { keep = keeps.All; rest = ts; spelled = refl; good = g; goes = h }
keep_read ps is d (t.Symbol (symbols.Fixed x.Last) ∷ ts) s g h = record { keep = keeps.Last; rest = ts; spelled = refl; good = g; goes = h }
keep_read ps is d (t.Symbol (symbols.Constant c.Nothing) ∷ ts) s g h = record { keep = keeps.NoneMissed; rest = ts; spelled = refl; good = g; goes = h }
keep_read ps is d (t.Symbol (symbols.Fixed _) ∷ ts) s g h = never _ s h
keep_read ps is d (t.Symbol (symbols.Constant _) ∷ ts) s g h = never _ s h
keep_read ps is d (t.Symbol (symbols.Operator y) ∷ ts) s g h = never _ s h
keep_read ps is d (t.Symbol (symbols.Function y) ∷ ts) s g h = never _ s h
keep_read ps is d (t.Symbol (symbols.Verb y) ∷ ts) s g h = never _ s h
keep_read ps is d (t.Int n ∷ ts) s g h = never _ s h
keep_read ps is d (t.Name n ∷ ts) s g h = never _ s h
keep_read ps is d (t.Text n ∷ ts) s g h = never _ s h
keep_read ps is d (t.Bad ∷ ts) s g h = never _ s h

-- ---- fields of an event that is fired

abbrev pub firing : Bytes → Expression → Option Bytes → List (Bytes × Expression) → Item
firing event a service fields = AStatement (tree.Activity (tree.Fire event a service fields))

-- a field was read
record ReadField (ps : List Part) (event : Bytes) (a : Expression) (service : Option Bytes) (before : List (Bytes × Expression)) (is : List Item) (d : ℕ) (ts : List Lexeme) (s : Statements) : Type 0 where
  field : Bytes × Expression
  rest : List Lexeme
  spelled : ts ≡ spell_field field ++ rest
  fine : field_fits d field ≡ true
  shorter : length rest < length ts
  good : list_all is_proper rest ≡ true
  goes : verdict ps (firing event a service (before ++ field ∷ []) ∷ is) d rest ≡ Fine s

field_read : (n : ℕ) → Expressions n → (ps : List Part) (event : Bytes) (a : Expression) (service : Option Bytes) (before : List (Bytes × Expression)) (is : List Item) (d : ℕ) (ts : List Lexeme) (s : Statements) → length ts ≤ n → d ≤ 64 → list_all is_proper ts ≡ true → verdict (Name ∷ One x.Colon ∷ Level 8 ∷ Make WithField ∷ ps) (firing event a service before ∷ is) d ts ≡ Fine s → ReadField ps event a service before is d ts s
field_read n reads ps event a service before is d ts s le deep g h =
    let name = name_read (One x.Colon ∷ Level 8 ∷ Make WithField ∷ ps) (firing event a service before ∷ is) d ts s g h in
    let colon = one_read x.Colon (Level 8 ∷ Make WithField ∷ ps) (AName name.name ∷ firing event a service before ∷ is) d name.rest s name.good name.goes in
    let b = reads 8 (Make WithField ∷ ps) (AName name.name ∷ firing event a service before ∷ is) d colon.rest s (omega (arith, le, ap length name.spelled, ap length colon.spelled)) deep colon.good colon.goes in
    record {
      field = (name.name, b.tree);
      rest = b.rest;
      spelled = name.spelled ∙ behind (t.Name name.name) (colon.spelled ∙ behind (fixed x.Colon) b.spelled);
      fine = and_join (is_identifier name.name) (fits d b.tree) name.fine (and_parts (nat_le (level b.tree) 8) (fits d b.tree) b.fine).1;
      shorter = omega (arith, b.shorter, ap length name.spelled, ap length colon.spelled);
      good = b.good;
      goes = unmade WithField ps (ATree b.tree ∷ AName name.name ∷ firing event a service before ∷ is) d b.rest s b.goes;
    }

-- further fields and the closing bracket were read
record ReadFields (ps : List Part) (event : Bytes) (a : Expression) (service : Option Bytes) (before : List (Bytes × Expression)) (is : List Item) (d : ℕ) (ts : List Lexeme) (s : Statements) : Type 0 where
  fields : List (Bytes × Expression)
  rest : List Lexeme
  spelled : ts ≡ spell_more_fields fields ++ rest
  fine : list_all (field_fits (d + 1)) fields ≡ true
  shorter : length rest < length ts
  good : list_all is_proper rest ≡ true
  goes : verdict ps (firing event a service (before ++ fields) ∷ is) d rest ≡ Fine s

abbrev some_field : List Part
some_field = Name ∷ One x.Colon ∷ Level 8 ∷ Make WithField ∷ NextField ∷ []

next_field : Begins NextField x.Comma some_field
next_field = record { first = λ token. refl; may_miss = refl; changes_nothing = λ is. refl; no_bracket = refl }

fields_end : (ps : List Part) (event : Bytes) (a : Expression) (service : Option Bytes) (before : List (Bytes × Expression)) (is : List Item) (d : ℕ) (ts : List Lexeme) (s : Statements) → list_all is_proper ts ≡ true → verdict (One x.CloseCurly ∷ ps) (firing event a service before ∷ is) (d + 1) ts ≡ Fine s → ReadFields ps event a service before is d ts s
fields_end ps event a service before is d ts s g h =
    let b = one_read x.CloseCurly ps (firing event a service before ∷ is) (d + 1) ts s g h in
    record {
      fields = [];
      rest = b.rest;
      spelled = b.spelled;
      fine = refl;
      shorter = omega (arith, ap length b.spelled);
      good = b.good;
      goes = ap (λ l. verdict ps (firing event a service l ∷ is) d b.rest) (append-nil before) ∙ back ps (firing event a service before ∷ is) d b.rest s b.goes;
    }

fields_went : (n k : ℕ) → Expressions n → suc k ≤ n → (ps : List Part) (event : Bytes) (a : Expression) (service : Option Bytes) (before : List (Bytes × Expression)) (is : List Item) (d : ℕ) (ts : List Lexeme) (s : Statements) → length ts ≤ suc k → d + 1 ≤ 64 → Came x.Comma (Name ∷ One x.Colon ∷ Level 8 ∷ Make WithField ∷ NextField ∷ One x.CloseCurly ∷ ps) (firing event a service before ∷ is) (d + 1) ts s → ((before : List (Bytes × Expression)) (ts : List Lexeme) → length ts ≤ k → list_all is_proper ts ≡ true → verdict (NextField ∷ One x.CloseCurly ∷ ps) (firing event a service before ∷ is) (d + 1) ts ≡ Fine s → ReadFields ps event a service before is d ts s) → ReadFields ps event a service before is d ts s
fields_went n k reads small ps event a service before is d ts s le room came further =
    let f = field_read n reads (NextField ∷ One x.CloseCurly ∷ ps) event a service before is (d + 1) came.rest s (omega (arith, le, small, ap length came.spelled)) room came.good came.goes in
    let others = further (before ++ f.field ∷ []) f.rest (omega (arith, le, ap length came.spelled, f.shorter)) f.good f.goes in
    record {
      fields = f.field ∷ others.fields;
      rest = others.rest;
      spelled = came.spelled ∙ behind (fixed x.Comma) (f.spelled ∙ ap (λ l. spell_field f.field ++ l) others.spelled ∙ sym (append_assoc (spell_field f.field) (spell_more_fields others.fields) others.rest));
      fine = and_join (field_fits (d + 1) f.field) (list_all (field_fits (d + 1)) others.fields) f.fine others.fine;
      shorter = omega (arith, ap length came.spelled, f.shorter, others.shorter);
      good = others.good;
      goes = ap (λ l. verdict ps (firing event a service l ∷ is) d others.rest) (sym (append_assoc before (f.field ∷ []) others.fields)) ∙ others.goes;
    }

fields_read : (n k : ℕ) → Expressions n → k ≤ n → (ps : List Part) (event : Bytes) (a : Expression) (service : Option Bytes) (before : List (Bytes × Expression)) (is : List Item) (d : ℕ) (ts : List Lexeme) (s : Statements) → length ts ≤ k → d + 1 ≤ 64 → list_all is_proper ts ≡ true → verdict (NextField ∷ One x.CloseCurly ∷ ps) (firing event a service before ∷ is) (d + 1) ts ≡ Fine s → ReadFields ps event a service before is d ts s
fields_read n zero reads small ps event a service before is d ts s le room g h =
    elim (maybe_read NextField x.Comma some_field next_field (One x.CloseCurly ∷ ps) (firing event a service before ∷ is) (d + 1) ts s g h) [
      | inl e ↦ fields_end ps event a service before is d ts s g e
      | inr came ↦ absurd (omega (arith, le, ap length came.spelled))
    ]
fields_read n (suc k) reads small ps event a service before is d ts s le room g h =
    elim (maybe_read NextField x.Comma some_field next_field (One x.CloseCurly ∷ ps) (firing event a service before ∷ is) (d + 1) ts s g h) [
      | inl e ↦ fields_end ps event a service before is d ts s g e
      | inr came ↦ fields_went n k reads small ps event a service before is d ts s le room came (λ before ts le g h. fields_read n k reads (omega (arith, small)) ps event a service before is d ts s le room g h)
    ]

-- fields in braces, or none, were read
pub record ReadAllFields (ps : List Part) (event : Bytes) (a : Expression) (service : Option Bytes) (is : List Item) (d : ℕ) (ts : List Lexeme) (s : Statements) : Type 0 where
  pub fields : List (Bytes × Expression)
  pub rest : List Lexeme
  pub spelled : ts ≡ spell_fields fields ++ rest
  pub fine : list_all (field_fits (d + 1)) fields ≡ true
  pub shorter : length rest ≤ length ts
  pub good : list_all is_proper rest ≡ true
  pub goes : verdict ps (firing event a service fields ∷ is) d rest ≡ Fine s

fields_on : (ps : List Part) (is : List Item) (d : ℕ) (ts : List Lexeme) → verdict (MoreFields ∷ ps) is d (fixed x.OpenCurly ∷ ts) ≡ cond (nat_le 64 d) (Faulty (record { left = length ts + 1; kind = bad.Deep })) (verdict (Name ∷ One x.Colon ∷ Level 8 ∷ Make WithField ∷ NextField ∷ One x.CloseCurly ∷ ps) is (d + 1) ts)
unfolding verdict
fields_on ps is d ts = refl

fields_off : (ps : List Part) (is : List Item) (d : ℕ) (token : Lexeme) (ts : List Lexeme) → is_fixed x.OpenCurly token ≡ false → verdict (MoreFields ∷ ps) is d (token ∷ ts) ≡ verdict ps is d (token ∷ ts)
unfolding verdict
fields_off ps is d token ts e = rw e refl

no_fields : (ps : List Part) (event : Bytes) (a : Expression) (service : Option Bytes) (is : List Item) (d : ℕ) (ts : List Lexeme) (s : Statements) → list_all is_proper ts ≡ true → verdict ps (firing event a service [] ∷ is) d ts ≡ Fine s → ReadAllFields ps event a service is d ts s
no_fields ps event a service is d ts s g h = record { fields = []; rest = ts; spelled = refl; fine = refl; shorter = omega arith; good = g; goes = h }

some_fields : (n : ℕ) → Expressions n → (ps : List Part) (event : Bytes) (a : Expression) (service : Option Bytes) (is : List Item) (d : ℕ) (ts : List Lexeme) (s : Statements) → length ts ≤ n → list_all is_proper ts ≡ true → verdict (MoreFields ∷ ps) (firing event a service [] ∷ is) d (fixed x.OpenCurly ∷ ts) ≡ Fine s → ReadAllFields ps event a service is d (fixed x.OpenCurly ∷ ts) s
some_fields n reads ps event a service is d ts s le g h =
    let inside = Name ∷ One x.Colon ∷ Level 8 ∷ Make WithField ∷ NextField ∷ One x.CloseCurly ∷ ps in
    let p = chosen (nat_le 64 d) _ (verdict inside (firing event a service [] ∷ is) (d + 1) ts) s (sym (fields_on ps (firing event a service [] ∷ is) d ts) ∙ h) in
    let room = opening_room d p.0 in
    let f = field_read n reads (NextField ∷ One x.CloseCurly ∷ ps) event a service [] is (d + 1) ts s le room g p.1 in
    let others = fields_read n n reads (omega arith) ps event a service (f.field ∷ []) is d f.rest s (omega (arith, le, f.shorter)) room f.good f.goes in
    record {
      fields = f.field ∷ others.fields;
      rest = others.rest;
      spelled = behind (fixed x.OpenCurly) (f.spelled ∙ ap (λ l. spell_field f.field ++ l) others.spelled ∙ sym (append_assoc (spell_field f.field) (spell_more_fields others.fields) others.rest));
      fine = and_join (field_fits (d + 1) f.field) (list_all (field_fits (d + 1)) others.fields) f.fine others.fine;
      shorter = omega (arith, f.shorter, others.shorter);
      good = others.good;
      goes = others.goes;
    }

pub all_fields_read : (n : ℕ) → Expressions n → (ps : List Part) (event : Bytes) (a : Expression) (service : Option Bytes) (is : List Item) (d : ℕ) (ts : List Lexeme) (s : Statements) → length ts ≤ n → list_all is_proper ts ≡ true → verdict (MoreFields ∷ ps) (firing event a service [] ∷ is) d ts ≡ Fine s → ReadAllFields ps event a service is d ts s
unfolding verdict
all_fields_read n reads ps event a service is d [] s le g h = no_fields ps event a service is d [] s g h
all_fields_read n reads ps event a service is d (token ∷ ts) s le g h =
    by_test (is_fixed x.OpenCurly token)
    (λ e. let same = same_fixed x.OpenCurly token e in
    subst (λ l. ReadAllFields ps event a service is d (l ∷ ts) s) (sym same)
    (some_fields n reads ps event a service is d ts s (omega (arith, le)) (and_parts (is_proper token) (list_all is_proper ts) g).1 (ap (λ l. verdict (MoreFields ∷ ps) (firing event a service [] ∷ is) d (l ∷ ts)) (sym same) ∙ h)))
    (λ e. no_fields ps event a service is d (token ∷ ts) s g (sym (fields_off ps (firing event a service [] ∷ is) d token ts e) ∙ h))

-- ---- arguments of a call

abbrev pub calling : Bytes → Bytes → List Expression → Item
calling child method arguments = AStatement (tree.Entity (tree.Call child method arguments None))

-- further arguments and the closing bracket were read
record ReadFurther (ps : List Part) (child method : Bytes) (before : List Expression) (is : List Item) (d : ℕ) (ts : List Lexeme) (s : Statements) : Type 0 where
  arguments : List Expression
  rest : List Lexeme
  spelled : ts ≡ spell_more arguments ++ fixed x.CloseRound ∷ rest
  fine : list_all (fits (d + 1)) arguments ≡ true
  shorter : length rest < length ts
  good : list_all is_proper rest ≡ true
  goes : verdict ps (calling child method (before ++ arguments) ∷ is) d rest ≡ Fine s

abbrev some_argument : List Part
some_argument = Level 8 ∷ Make WithArgument ∷ NextArgument ∷ []

next_argument : Begins NextArgument x.Comma some_argument
next_argument = record { first = λ token. refl; may_miss = refl; changes_nothing = λ is. refl; no_bracket = refl }

-- an argument was read
record ReadArgument (ps : List Part) (child method : Bytes) (before : List Expression) (is : List Item) (d : ℕ) (ts : List Lexeme) (s : Statements) : Type 0 where
  argument : Expression
  rest : List Lexeme
  spelled : ts ≡ spell_expression argument ++ rest
  fine : fits d argument ≡ true
  shorter : length rest < length ts
  good : list_all is_proper rest ≡ true
  goes : verdict ps (calling child method (before ++ argument ∷ []) ∷ is) d rest ≡ Fine s

argument_read : (n : ℕ) → Expressions n → (ps : List Part) (child method : Bytes) (before : List Expression) (is : List Item) (d : ℕ) (ts : List Lexeme) (s : Statements) → length ts ≤ n → d ≤ 64 → list_all is_proper ts ≡ true → verdict (Level 8 ∷ Make WithArgument ∷ ps) (calling child method before ∷ is) d ts ≡ Fine s → ReadArgument ps child method before is d ts s
argument_read n reads ps child method before is d ts s le deep g h =
    let a = reads 8 (Make WithArgument ∷ ps) (calling child method before ∷ is) d ts s le deep g h in
    record {
      argument = a.tree;
      rest = a.rest;
      spelled = a.spelled;
      fine = (and_parts (nat_le (level a.tree) 8) (fits d a.tree) a.fine).1;
      shorter = a.shorter;
      good = a.good;
      goes = unmade WithArgument ps (ATree a.tree ∷ calling child method before ∷ is) d a.rest s a.goes;
    }

arguments_end : (ps : List Part) (child method : Bytes) (before : List Expression) (is : List Item) (d : ℕ) (ts : List Lexeme) (s : Statements) → list_all is_proper ts ≡ true → verdict (One x.CloseRound ∷ ps) (calling child method before ∷ is) (d + 1) ts ≡ Fine s → ReadFurther ps child method before is d ts s
arguments_end ps child method before is d ts s g h =
    let b = one_read x.CloseRound ps (calling child method before ∷ is) (d + 1) ts s g h in
    record {
      arguments = [];
      rest = b.rest;
      spelled = b.spelled;
      fine = refl;
      shorter = omega (arith, ap length b.spelled);
      good = b.good;
      goes = ap (λ l. verdict ps (calling child method l ∷ is) d b.rest) (append-nil before) ∙ back ps (calling child method before ∷ is) d b.rest s b.goes;
    }

arguments_went : (n k : ℕ) → Expressions n → suc k ≤ n → (ps : List Part) (child method : Bytes) (before : List Expression) (is : List Item) (d : ℕ) (ts : List Lexeme) (s : Statements) → length ts ≤ suc k → d + 1 ≤ 64 → Came x.Comma (Level 8 ∷ Make WithArgument ∷ NextArgument ∷ One x.CloseRound ∷ ps) (calling child method before ∷ is) (d + 1) ts s → ((before : List Expression) (ts : List Lexeme) → length ts ≤ k → list_all is_proper ts ≡ true → verdict (NextArgument ∷ One x.CloseRound ∷ ps) (calling child method before ∷ is) (d + 1) ts ≡ Fine s → ReadFurther ps child method before is d ts s) → ReadFurther ps child method before is d ts s
arguments_went n k reads small ps child method before is d ts s le room came further =
    let a = argument_read n reads (NextArgument ∷ One x.CloseRound ∷ ps) child method before is (d + 1) came.rest s (omega (arith, le, small, ap length came.spelled)) room came.good came.goes in
    let others = further (before ++ a.argument ∷ []) a.rest (omega (arith, le, ap length came.spelled, a.shorter)) a.good a.goes in
    record {
      arguments = a.argument ∷ others.arguments;
      rest = others.rest;
      spelled = came.spelled ∙ behind (fixed x.Comma) (a.spelled ∙ ap (λ l. spell_expression a.argument ++ l) others.spelled ∙ sym (append_assoc (spell_expression a.argument) (spell_more others.arguments) (fixed x.CloseRound ∷ others.rest)));
      fine = and_join (fits (d + 1) a.argument) (list_all (fits (d + 1)) others.arguments) a.fine others.fine;
      shorter = omega (arith, ap length came.spelled, a.shorter, others.shorter);
      good = others.good;
      goes = ap (λ l. verdict ps (calling child method l ∷ is) d others.rest) (sym (append_assoc before (a.argument ∷ []) others.arguments)) ∙ others.goes;
    }

further_read : (n k : ℕ) → Expressions n → k ≤ n → (ps : List Part) (child method : Bytes) (before : List Expression) (is : List Item) (d : ℕ) (ts : List Lexeme) (s : Statements) → length ts ≤ k → d + 1 ≤ 64 → list_all is_proper ts ≡ true → verdict (NextArgument ∷ One x.CloseRound ∷ ps) (calling child method before ∷ is) (d + 1) ts ≡ Fine s → ReadFurther ps child method before is d ts s
further_read n zero reads small ps child method before is d ts s le room g h =
    elim (maybe_read NextArgument x.Comma some_argument next_argument (One x.CloseRound ∷ ps) (calling child method before ∷ is) (d + 1) ts s g h) [
      | inl e ↦ arguments_end ps child method before is d ts s g e
      | inr came ↦ absurd (omega (arith, le, ap length came.spelled))
    ]
further_read n (suc k) reads small ps child method before is d ts s le room g h =
    elim (maybe_read NextArgument x.Comma some_argument next_argument (One x.CloseRound ∷ ps) (calling child method before ∷ is) (d + 1) ts s g h) [
      | inl e ↦ arguments_end ps child method before is d ts s g e
      | inr came ↦ arguments_went n k reads small ps child method before is d ts s le room came (λ before ts le g h. further_read n k reads (omega (arith, small)) ps child method before is d ts s le room g h)
    ]

-- arguments and the closing bracket were read
pub record ReadArguments (ps : List Part) (child method : Bytes) (is : List Item) (d : ℕ) (ts : List Lexeme) (s : Statements) : Type 0 where
  pub arguments : List Expression
  pub rest : List Lexeme
  pub spelled : ts ≡ spell_arguments arguments ++ fixed x.CloseRound ∷ rest
  pub fine : list_all (fits (d + 1)) arguments ≡ true
  pub shorter : length rest < length ts
  pub good : list_all is_proper rest ≡ true
  pub goes : verdict ps (calling child method arguments ∷ is) d rest ≡ Fine s

none_between : (ps : List Part) (is : List Item) (d : ℕ) (ts : List Lexeme) → verdict (Arguments ∷ One x.CloseRound ∷ ps) is (d + 1) (fixed x.CloseRound ∷ ts) ≡ verdict ps is (d + 1 - 1) ts
unfolding verdict
none_between ps is d ts = refl

no_expression : (next : Next) (ps : List Part) (is : List Item) (d : ℕ) (token : Lexeme) (ts : List Lexeme) (continue : List Part → List Item → ℕ → Verdict) → verdict_at (goes_on (then_parts next (Make WithArgument ∷ NextArgument ∷ [])) ps is Stops) d token ts continue ≡ verdict_at (goes_on next (Make WithArgument ∷ NextArgument ∷ ps) is Stops) d token ts continue
no_expression Stops ps is d token ts continue = refl
no_expression (Goes qs js) ps is d token ts continue = ap (λ l. verdict_at (Goes l (js ++ is)) d token ts continue) (append_assoc qs (Make WithArgument ∷ NextArgument ∷ []) ps)

some_between : (ps : List Part) (is : List Item) (d : ℕ) (token : Lexeme) (ts : List Lexeme) → is_fixed x.CloseRound token ≡ false → verdict (Arguments ∷ One x.CloseRound ∷ ps) is d (token ∷ ts) ≡ verdict (Level 8 ∷ Make WithArgument ∷ NextArgument ∷ One x.CloseRound ∷ ps) is d (token ∷ ts)
unfolding verdict
some_between ps is d token ts e = rw e (no_expression (level_after 8 token) (One x.CloseRound ∷ ps) is d token ts (λ ps is d. verdict ps is d ts))

first_read : (n : ℕ) → Expressions n → (ps : List Part) (child method : Bytes) (is : List Item) (d : ℕ) (ts : List Lexeme) (s : Statements) → length ts ≤ n → d + 1 ≤ 64 → list_all is_proper ts ≡ true → verdict (Level 8 ∷ Make WithArgument ∷ NextArgument ∷ One x.CloseRound ∷ ps) (calling child method [] ∷ is) (d + 1) ts ≡ Fine s → ReadArguments ps child method is d ts s
first_read n reads ps child method is d ts s le room g h =
    let a = argument_read n reads (NextArgument ∷ One x.CloseRound ∷ ps) child method [] is (d + 1) ts s le room g h in
    let others = further_read n n reads (omega arith) ps child method (a.argument ∷ []) is d a.rest s (omega (arith, le, a.shorter)) room a.good a.goes in
    record {
      arguments = a.argument ∷ others.arguments;
      rest = others.rest;
      spelled = a.spelled ∙ ap (λ l. spell_expression a.argument ++ l) others.spelled ∙ sym (append_assoc (spell_expression a.argument) (spell_more others.arguments) (fixed x.CloseRound ∷ others.rest));
      fine = and_join (fits (d + 1) a.argument) (list_all (fits (d + 1)) others.arguments) a.fine others.fine;
      shorter = omega (arith, a.shorter, others.shorter);
      good = others.good;
      goes = others.goes;
    }

no_arguments : (ps : List Part) (child method : Bytes) (is : List Item) (d : ℕ) (ts : List Lexeme) (s : Statements) → list_all is_proper ts ≡ true → verdict (Arguments ∷ One x.CloseRound ∷ ps) (calling child method [] ∷ is) (d + 1) (fixed x.CloseRound ∷ ts) ≡ Fine s → ReadArguments ps child method is d (fixed x.CloseRound ∷ ts) s
no_arguments ps child method is d ts s g h = record {
  arguments = [];
  rest = ts;
  spelled = refl;
  fine = refl;
  shorter = omega arith;
  good = g;
  goes = back ps (calling child method [] ∷ is) d ts s (sym (none_between ps (calling child method [] ∷ is) d ts) ∙ h);
}

pub arguments_read : (n : ℕ) → Expressions n → (ps : List Part) (child method : Bytes) (is : List Item) (d : ℕ) (ts : List Lexeme) (s : Statements) → length ts ≤ n → d + 1 ≤ 64 → list_all is_proper ts ≡ true → verdict (Arguments ∷ One x.CloseRound ∷ ps) (calling child method [] ∷ is) (d + 1) ts ≡ Fine s → ReadArguments ps child method is d ts s
unfolding verdict
arguments_read n reads ps child method is d [] s le room g h = never _ s h
arguments_read n reads ps child method is d (token ∷ ts) s le room g h =
    by_test (is_fixed x.CloseRound token)
    (λ e. let same = same_fixed x.CloseRound token e in
    subst (λ l. ReadArguments ps child method is d (l ∷ ts) s) (sym same)
    (no_arguments ps child method is d ts s (and_parts (is_proper token) (list_all is_proper ts) g).1 (ap (λ l. verdict (Arguments ∷ One x.CloseRound ∷ ps) (calling child method [] ∷ is) (d + 1) (l ∷ ts)) (sym same) ∙ h)))
    (λ e. first_read n reads ps child method is d (token ∷ ts) s le room g (sym (some_between ps (calling child method [] ∷ is) (d + 1) token ts e) ∙ h))
