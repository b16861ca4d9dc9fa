-- What a part takes from the front of tokens that are read as a script.
use Rattle.std.proofs.Common.{◌≡◌, ◌≤◌, ◌+◌, ◌-◌, ℕ, List, [], ◌∷◌, ◌++◌, length, Bool, true, false, cond, ◌&&◌, refl, sym, ap, ◌∙◌, arith, rules}
use Rattle.std.specs.Prelude.{nat_le}
use Rattle.std.specs.List.{list_all}
use Rattle.std.proofs.lemmas.Bool.Decides.{nat_tests}
use Rattle.script_tree.specs.declared.symbol.Fixed.{Fixed}
use Rattle.script_tree.specs.declared.symbol.Fixed.TheVariants as x
use Rattle.script_tree.specs.declared.symbol.Symbol.TheVariants as symbols
use Rattle.script_tree.specs.declared.lexeme.Lexeme.{Lexeme}
use Rattle.script_tree.specs.declared.lexeme.Lexeme.TheVariants as t
use Rattle.script_tree.specs.declared.fault.Misfit.{Misfit}
use Rattle.script_tree.specs.declared.fault.SyntaxBad.TheVariants as bad
use Rattle.script_tree.specs.declared.tree.Who.{Who as AWhoTree}
use Rattle.script_tree.specs.declared.tree.Who.TheVariants as w
use Rattle.script_tree.specs.declared.tree.Over.{Over as AnOverTree}
use Rattle.script_tree.specs.declared.tree.Over.TheVariants as v
use Rattle.script_tree.specs.Words.{is_identifier, is_literal}
use denote.Enum.Bare.{same_true, true_same}
use Rattle.script_tree.specs.contracts.symbol.Fixed.{the_type}
use Rattle.script_tree.specs.Tree.{Bytes, Statements}
use Rattle.script_tree.specs.Spelling.{fixed, spell_who, spell_over, who_fits, over_fits}
use Rattle.script_tree.specs.Grammar.{Part, Item, AName, AText, AWho, AnOver, One, Name, Text, Who, Over, Make, Verdict, Fine, Faulty, make, verdict, is_fixed, kind_of, turn_of, too_deep, depth_by}
use Rattle.script_print.proofs.Levels.{made, by_test}
use Rattle.script_print.proofs.Expressions.{and_parts}
use Rattle.script_print.specs.Proper.{is_proper}

-- a fault is no script
pub never : {A : Type 0} (f : Misfit) (s : Statements) → Faulty f ≡ Fine s → A
never f s h = absurd cc

pub chosen : (b : Bool) (f : Misfit) (v : Verdict) (s : Statements) → cond b (Faulty f) v ≡ Fine s → (b ≡ false) × (v ≡ Fine s)
chosen true f v s h = never f s h
chosen false f v s h = (refl, h)

pub and_join : (a b : Bool) → a ≡ true → b ≡ true → (a && b) ≡ true
and_join a b h k = rw (h, k) refl

pub behind : (y : Lexeme) {a b : List Lexeme} → a ≡ b → y ∷ a ≡ y ∷ b
behind y e = ap (λ l. y ∷ l) e

-- what is made changes no token
pub unmade : (m : _) (ps : List Part) (is : List Item) (d : ℕ) (ts : List Lexeme) (s : Statements) → verdict (Make m ∷ ps) is d ts ≡ Fine s → verdict ps (make m is) d ts ≡ Fine s
unmade m ps is d ts s h = sym (made m ps is d ts) ∙ h

-- ---- words and signs

pub record ReadOne (y : Fixed) (ps : List Part) (is : List Item) (d : ℕ) (ts : List Lexeme) (s : Statements) : Type 0 where
  pub rest : List Lexeme
  pub spelled : ts ≡ fixed y ∷ rest
  pub room : too_deep (turn_of y) d ≡ false
  pub good : list_all is_proper rest ≡ true
  pub goes : verdict ps is (depth_by (turn_of y) d) rest ≡ Fine s

pub is_same : (y : Fixed) → is_fixed y (fixed y) ≡ true
is_same y = true_same the_type y y refl

pub same_fixed : (y : Fixed) (token : Lexeme) → is_fixed y token ≡ true → token ≡ fixed y
same_fixed y (t.Symbol (symbols.Fixed z)) h = ap fixed (same_true the_type (search rules) z y h)
same_fixed y (t.Symbol (symbols.Operator z)) h = cc
same_fixed y (t.Symbol (symbols.Constant z)) h = cc
same_fixed y (t.Symbol (symbols.Function z)) h = cc
same_fixed y (t.Symbol (symbols.Verb z)) h = cc
same_fixed y (t.Int n) h = cc
same_fixed y (t.Name n) h = cc
same_fixed y (t.Text n) h = cc
same_fixed y t.Bad h = cc

pub one_on : (y : Fixed) (ps : List Part) (is : List Item) (d : ℕ) (rest : List Lexeme) → verdict (One y ∷ ps) is d (fixed y ∷ rest) ≡ cond (too_deep (turn_of y) d) (Faulty (record { left = length rest + 1; kind = bad.Deep })) (verdict ps is (depth_by (turn_of y) d) rest)
unfolding verdict
one_on y ps is d rest = rw (is_same y) refl

one_other : (y : Fixed) (ps : List Part) (is : List Item) (d : ℕ) (token : Lexeme) (rest : List Lexeme) → is_fixed y token ≡ false → verdict (One y ∷ ps) is d (token ∷ rest) ≡ Faulty (record { left = length rest + 1; kind = kind_of token })
unfolding verdict
one_other y ps is d token rest e = rw e refl

one_here : (y : Fixed) (ps : List Part) (is : List Item) (d : ℕ) (token : Lexeme) (rest : List Lexeme) (s : Statements) → list_all is_proper rest ≡ true → token ≡ fixed y → verdict (One y ∷ ps) is d (token ∷ rest) ≡ Fine s → ReadOne y ps is d (token ∷ rest) s
one_here y ps is d token rest s g e h =
    let p = chosen (too_deep (turn_of y) d) _ (verdict ps is (depth_by (turn_of y) d) rest) s (sym (one_on y ps is d rest) ∙ ap (λ l. verdict (One y ∷ ps) is d (l ∷ rest)) (sym e) ∙ h) in
    record { rest = rest; spelled = ap (λ l. l ∷ rest) e; room = p.0; good = g; goes = p.1 }

pub one_read : (y : Fixed) (ps : List Part) (is : List Item) (d : ℕ) (ts : List Lexeme) (s : Statements) → list_all is_proper ts ≡ true → verdict (One y ∷ ps) is d ts ≡ Fine s → ReadOne y ps is d ts s
unfolding verdict
one_read y ps is d [] s g h = never _ s h
one_read y ps is d (token ∷ rest) s g h =
    by_test (is_fixed y token) (λ e. one_here y ps is d token rest s (and_parts (is_proper token) (list_all is_proper rest) g).1 (same_fixed y token e) h)
    (λ e. never _ s (sym (one_other y ps is d token rest e) ∙ h))

-- a sign that opens a bracket, where there is room for it
pub opening_room : (d : ℕ) → nat_le 64 d ≡ false → d + 1 ≤ 64
opening_room d h = grind (arith, nat_tests)

pub le_true : (m n : ℕ) → m ≤ n → nat_le m n ≡ true
le_true m n h = grind (arith, nat_tests)

-- a sign that closes a bracket
pub back : (ps : List Part) (is : List Item) (d : ℕ) (ts : List Lexeme) (s : Statements) → verdict ps is (d + 1 - 1) ts ≡ Fine s → verdict ps is d ts ≡ Fine s
back ps is d ts s h = let e : d + 1 - 1 ≡ d = omega arith in ap (λ n. verdict ps is n ts) (sym e) ∙ h

-- ---- names, texts, and what may stand for a name

pub record ReadName (ps : List Part) (is : List Item) (d : ℕ) (ts : List Lexeme) (s : Statements) : Type 0 where
  pub name : Bytes
  pub rest : List Lexeme
  pub spelled : ts ≡ t.Name name ∷ rest
  pub fine : is_identifier name ≡ true
  pub good : list_all is_proper rest ≡ true
  pub goes : verdict ps (AName name ∷ is) d rest ≡ Fine s

pub name_read : (ps : List Part) (is : List Item) (d : ℕ) (ts : List Lexeme) (s : Statements) → list_all is_proper ts ≡ true → verdict (Name ∷ ps) is d ts ≡ Fine s → ReadName ps is d ts s
unfolding verdict
name_read ps is d [] s g h = never _ s h
name_read ps is d (t.Name n ∷ rest) s g h = let p = and_parts (is_identifier n) (list_all is_proper rest) g in record { name = n; rest = rest; spelled = refl; fine = p.0; good = p.1; goes = h }
name_read ps is d (t.Int n ∷ rest) s g h = never _ s h
name_read ps is d (t.Text n ∷ rest) s g h = never _ s h
name_read ps is d (t.Symbol y ∷ rest) s g h = never _ s h
name_read ps is d (t.Bad ∷ rest) s g h = never _ s h

pub record ReadText (ps : List Part) (is : List Item) (d : ℕ) (ts : List Lexeme) (s : Statements) : Type 0 where
  pub text : Bytes
  pub rest : List Lexeme
  pub spelled : ts ≡ t.Text text ∷ rest
  pub fine : is_literal text ≡ true
  pub good : list_all is_proper rest ≡ true
  pub goes : verdict ps (AText text ∷ is) d rest ≡ Fine s

pub text_read : (ps : List Part) (is : List Item) (d : ℕ) (ts : List Lexeme) (s : Statements) → list_all is_proper ts ≡ true → verdict (Text ∷ ps) is d ts ≡ Fine s → ReadText ps is d ts s
unfolding verdict
text_read ps is d [] s g h = never _ s h
text_read ps is d (t.Text n ∷ rest) s g h = let p = and_parts (is_literal n) (list_all is_proper rest) g in record { text = n; rest = rest; spelled = refl; fine = p.0; good = p.1; goes = h }
text_read ps is d (t.Int n ∷ rest) s g h = never _ s h
text_read ps is d (t.Name n ∷ rest) s g h = never _ s h
text_read ps is d (t.Symbol y ∷ rest) s g h = never _ s h
text_read ps is d (t.Bad ∷ rest) s g h = never _ s h

pub record ReadWho (ps : List Part) (is : List Item) (d : ℕ) (ts : List Lexeme) (s : Statements) : Type 0 where
  pub who : AWhoTree
  pub rest : List Lexeme
  pub spelled : ts ≡ spell_who who ++ rest
  pub fine : who_fits who ≡ true
  pub good : list_all is_proper rest ≡ true
  pub goes : verdict ps (AWho who ∷ is) d rest ≡ Fine s

pub who_read : (ps : List Part) (is : List Item) (d : ℕ) (ts : List Lexeme) (s : Statements) → list_all is_proper ts ≡ true → verdict (Who ∷ ps) is d ts ≡ Fine s → ReadWho ps is d ts s
unfolding verdict
who_read ps is d [] s g h = never _ s h
who_read ps is d (t.Name n ∷ rest) s g h = let p = and_parts (is_identifier n) (list_all is_proper rest) g in record { who = w.Child n; rest = rest; spelled = refl; fine = p.0; good = p.1; goes = h }
who_read ps is d (t.Symbol (symbols.Fixed x.Own) ∷ rest) s g h = record { who = w.Own; rest = rest; spelled = refl; fine = refl; good = g; goes = h }
who_read ps is d (t.Symbol (symbols.Fixed _) ∷ rest) s g h = never _ s h
who_read ps is d (t.Symbol (symbols.Operator y) ∷ rest) s g h = never _ s h
who_read ps is d (t.Symbol (symbols.Constant y) ∷ rest) s g h = never _ s h
who_read ps is d (t.Symbol (symbols.Function y) ∷ rest) s g h = never _ s h
who_read ps is d (t.Symbol (symbols.Verb y) ∷ rest) s g h = never _ s h
who_read ps is d (t.Int n ∷ rest) s g h = never _ s h
who_read ps is d (t.Text n ∷ rest) s g h = never _ s h
who_read ps is d (t.Bad ∷ rest) s g h = never _ s h

pub record ReadOver (ps : List Part) (is : List Item) (d : ℕ) (ts : List Lexeme) (s : Statements) : Type 0 where
  pub over : AnOverTree
  pub rest : List Lexeme
  pub spelled : ts ≡ spell_over over ++ rest
  pub fine : over_fits over ≡ true
  pub good : list_all is_proper rest ≡ true
  pub goes : verdict ps (AnOver over ∷ is) d rest ≡ Fine s

pub over_read : (ps : List Part) (is : List Item) (d : ℕ) (ts : List Lexeme) (s : Statements) → list_all is_proper ts ≡ true → verdict (Over ∷ ps) is d ts ≡ Fine s → ReadOver ps is d ts s
unfolding verdict
over_read ps is d [] s g h = never _ s h
over_read ps is d (t.Name n ∷ rest) s g h = let p = and_parts (is_identifier n) (list_all is_proper rest) g in record { over = v.Children n; rest = rest; spelled = refl; fine = p.0; good = p.1; goes = h }
over_read ps is d (t.Symbol (symbols.Fixed x.Activities) ∷ rest) s g h = record { over = v.Activities; rest = rest; spelled = refl; fine = refl; good = g; goes = h }
over_read ps is d (t.Symbol (symbols.Fixed _) ∷ rest) s g h = never _ s h
over_read ps is d (t.Symbol (symbols.Operator y) ∷ rest) s g h = never _ s h
over_read ps is d (t.Symbol (symbols.Constant y) ∷ rest) s g h = never _ s h
over_read ps is d (t.Symbol (symbols.Function y) ∷ rest) s g h = never _ s h
over_read ps is d (t.Symbol (symbols.Verb y) ∷ rest) s g h = never _ s h
over_read ps is d (t.Int n ∷ rest) s g h = never _ s h
over_read ps is d (t.Text n ∷ rest) s g h = never _ s h
over_read ps is d (t.Bad ∷ rest) s g h = never _ s h
