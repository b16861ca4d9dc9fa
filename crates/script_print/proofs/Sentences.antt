-- Statements without blocks that the grammar's table reads are spelled as their trees.
use Rattle.std.proofs.Common.{◌≡◌, ◌≤◌, ◌<◌, ◌+◌, ℕ, List, [], ◌∷◌, ◌++◌, length, true, ◌&&◌, refl, sym, ap, ◌∙◌, arith, append_assoc}
use Rattle.std.specs.Prelude.{nat_le}
use Rattle.std.specs.List.{list_all}
use Rattle.script_tree.specs.declared.symbol.Fixed.{Fixed}
use Rattle.script_tree.specs.declared.symbol.Fixed.TheVariants as x
use Rattle.script_tree.specs.declared.symbol.Symbol.TheVariants as symbols
use Rattle.script_tree.specs.declared.lexeme.Lexeme.{Lexeme}
use Rattle.script_tree.specs.declared.lexeme.Lexeme.TheVariants as t
use Rattle.script_tree.specs.declared.tree.Who.{Who as AWhoTree}
use Rattle.script_tree.specs.declared.tree.Who.TheVariants as w
use Rattle.script_tree.specs.Words.{is_identifier, is_literal}
use Rattle.script_tree.specs.Tree as tree
use Rattle.script_tree.specs.Tree.{Bytes, Expression, Statement, Statements}
use Rattle.script_tree.specs.Spelling.{fixed, spell_expression, spell_statement, spell_who, who_fits, level, fits, statement_fits}
use Rattle.script_tree.specs.Grammar.{Part, Item, AName, AText, AWho, ATree, AStatement, One, Name, Text, Who, Level, Make, Making, Letting, SettingVariable, SettingField, SettingAttribute, Removing, MakingNull, Binding, Doing, RollingBack, Fine, make, turn_of, depth_by, Stays, verdict}
use Rattle.script_print.proofs.Expressions.{and_parts}
use Rattle.script_print.specs.Proper.{is_proper}
use Rattle.script_print.proofs.Steps.{and_join, behind, unmade, one_read, opening_room, back, name_read, text_read, who_read}
use Rattle.script_print.proofs.Operands.{Expressions}

-- a statement was read
pub record ReadStatement (ps : List Part) (is : List Item) (d : ℕ) (ts : List Lexeme) (s : Statements) : Type 0 where
  pub statement : Statement
  pub rest : List Lexeme
  pub spelled : ts ≡ spell_statement statement ++ rest
  pub fine : statement_fits d statement ≡ true
  pub shorter : length rest < length ts
  pub good : list_all is_proper rest ≡ true
  pub goes : verdict ps (AStatement statement ∷ is) d rest ≡ Fine s

-- ---- an expression and what stands behind it

-- an expression and a word or sign were read
pub record ReadBefore (y : Fixed) (ps : List Part) (is : List Item) (d : ℕ) (ts : List Lexeme) (s : Statements) : Type 0 where
  pub tree : Expression
  pub rest : List Lexeme
  pub spelled : ts ≡ spell_expression tree ++ fixed y ∷ rest
  pub fine : fits d tree ≡ true
  pub shorter : length rest < length ts
  pub good : list_all is_proper rest ≡ true
  pub goes : verdict ps (ATree tree ∷ is) d rest ≡ Fine s

pub before_read : (n : ℕ) → Expressions n → (y : Fixed) → turn_of y ≡ Stays → (ps : List Part) (is : List Item) (d : ℕ) (ts : List Lexeme) (s : Statements) → length ts ≤ n → d ≤ 64 → list_all is_proper ts ≡ true → verdict (Level 8 ∷ One y ∷ ps) is d ts ≡ Fine s → ReadBefore y ps is d ts s
before_read n reads y stays ps is d ts s le deep g h =
    let a = reads 8 (One y ∷ ps) is d ts s le deep g h in
    let b = one_read y ps (ATree a.tree ∷ is) d a.rest s a.good a.goes in
    record {
      tree = a.tree;
      rest = b.rest;
      spelled = a.spelled ∙ ap (λ l. spell_expression a.tree ++ l) b.spelled;
      fine = (and_parts (nat_le (level a.tree) 8) (fits d a.tree) a.fine).1;
      shorter = omega (arith, a.shorter, ap length b.spelled);
      good = b.good;
      goes = ap (λ turn. verdict ps (ATree a.tree ∷ is) (depth_by turn d) b.rest) (sym stays) ∙ b.goes;
    }

-- an expression was read, something made of it, and `;` read behind it
pub record ReadLast (m : Making) (ps : List Part) (is : List Item) (d : ℕ) (ts : List Lexeme) (s : Statements) : Type 0 where
  pub tree : Expression
  pub rest : List Lexeme
  pub spelled : ts ≡ (spell_expression tree ++ fixed x.Semicolon ∷ []) ++ rest
  pub fine : fits d tree ≡ true
  pub shorter : length rest < length ts
  pub good : list_all is_proper rest ≡ true
  pub goes : verdict ps (make m (ATree tree ∷ is)) d rest ≡ Fine s

pub last_read : (n : ℕ) → Expressions n → (m : Making) (ps : List Part) (is : List Item) (d : ℕ) (ts : List Lexeme) (s : Statements) → length ts ≤ n → d ≤ 64 → list_all is_proper ts ≡ true → verdict (Level 8 ∷ Make m ∷ One x.Semicolon ∷ ps) is d ts ≡ Fine s → ReadLast m ps is d ts s
last_read n reads m ps is d ts s le deep g h =
    let a = reads 8 (Make m ∷ One x.Semicolon ∷ ps) is d ts s le deep g h in
    let b = one_read x.Semicolon ps (make m (ATree a.tree ∷ is)) d a.rest s a.good (unmade m (One x.Semicolon ∷ ps) (ATree a.tree ∷ is) d a.rest s a.goes) in
    record {
      tree = a.tree;
      rest = b.rest;
      spelled = a.spelled ∙ ap (λ l. spell_expression a.tree ++ l) b.spelled ∙ sym (append_assoc (spell_expression a.tree) (fixed x.Semicolon ∷ []) b.rest);
      fine = (and_parts (nat_le (level a.tree) 8) (fits d a.tree) a.fine).1;
      shorter = omega (arith, a.shorter, ap length b.spelled);
      good = b.good;
      goes = b.goes;
    }

-- a name and a word or sign were read
pub record ReadNameBefore (y : Fixed) (ps : List Part) (is : List Item) (d : ℕ) (ts : List Lexeme) (s : Statements) : Type 0 where
  pub name : Bytes
  pub rest : List Lexeme
  pub spelled : ts ≡ t.Name name ∷ fixed y ∷ rest
  pub fine : is_identifier name ≡ true
  pub shorter : length rest < length ts
  pub good : list_all is_proper rest ≡ true
  pub goes : verdict ps (AName name ∷ is) d rest ≡ Fine s

pub name_before : (y : Fixed) → turn_of y ≡ Stays → (ps : List Part) (is : List Item) (d : ℕ) (ts : List Lexeme) (s : Statements) → list_all is_proper ts ≡ true → verdict (Name ∷ One y ∷ ps) is d ts ≡ Fine s → ReadNameBefore y ps is d ts s
name_before y stays ps is d ts s g h =
    let a = name_read (One y ∷ ps) is d ts s g h in
    let b = one_read y ps (AName a.name ∷ is) d a.rest s a.good a.goes in
    record {
      name = a.name;
      rest = b.rest;
      spelled = a.spelled ∙ behind (t.Name a.name) b.spelled;
      fine = a.fine;
      shorter = omega (arith, ap length a.spelled, ap length b.spelled);
      good = b.good;
      goes = ap (λ turn. verdict ps (AName a.name ∷ is) (depth_by turn d) b.rest) (sym stays) ∙ b.goes;
    }

-- ---- assignments

pub new_read : (n : ℕ) → Expressions n → (ps : List Part) (is : List Item) (d : ℕ) (ts : List Lexeme) (s : Statements) → length ts ≤ n → d ≤ 64 → list_all is_proper ts ≡ true → verdict (Name ∷ One x.Assign ∷ Level 8 ∷ Make Letting ∷ One x.Semicolon ∷ ps) is d ts ≡ Fine s → ReadStatement ps is d (fixed x.Let ∷ ts) s
new_read n reads ps is d ts s le deep g h =
    let a = name_before x.Assign refl (Level 8 ∷ Make Letting ∷ One x.Semicolon ∷ ps) is d ts s g h in
    let b = last_read n reads Letting ps (AName a.name ∷ is) d a.rest s (omega (arith, le, a.shorter)) deep a.good a.goes in
    record {
      statement = tree.Assign (tree.New a.name b.tree);
      rest = b.rest;
      spelled = behind (fixed x.Let) (a.spelled ∙ behind (t.Name a.name) (behind (fixed x.Assign) b.spelled));
      fine = and_join (is_identifier a.name) (fits d b.tree) a.fine b.fine;
      shorter = omega (arith, a.shorter, b.shorter);
      good = b.good;
      goes = b.goes;
    }

pub variable_read : (n : ℕ) → Expressions n → (name : Bytes) (ps : List Part) (is : List Item) (d : ℕ) (ts : List Lexeme) (s : Statements) → length ts ≤ n → d ≤ 64 → is_identifier name ≡ true → list_all is_proper ts ≡ true → verdict (One x.Assign ∷ Level 8 ∷ Make SettingVariable ∷ One x.Semicolon ∷ ps) (AName name ∷ is) d ts ≡ Fine s → ReadStatement ps is d (t.Name name ∷ ts) s
variable_read n reads name ps is d ts s le deep named g h =
    let a = one_read x.Assign (Level 8 ∷ Make SettingVariable ∷ One x.Semicolon ∷ ps) (AName name ∷ is) d ts s g h in
    let b = last_read n reads SettingVariable ps (AName name ∷ is) d a.rest s (omega (arith, le, ap length a.spelled)) deep a.good a.goes in
    record {
      statement = tree.Assign (tree.Variable name b.tree);
      rest = b.rest;
      spelled = behind (t.Name name) (a.spelled ∙ behind (fixed x.Assign) b.spelled);
      fine = and_join (is_identifier name) (fits d b.tree) named b.fine;
      shorter = omega (arith, ap length a.spelled, b.shorter);
      good = b.good;
      goes = b.goes;
    }

pub field_read : (n : ℕ) → Expressions n → (ps : List Part) (is : List Item) (d : ℕ) (ts : List Lexeme) (s : Statements) → length ts ≤ n → d ≤ 64 → list_all is_proper ts ≡ true → verdict (One x.Dot ∷ Name ∷ One x.Assign ∷ Level 8 ∷ Make SettingField ∷ One x.Semicolon ∷ ps) is d ts ≡ Fine s → ReadStatement ps is d (fixed x.Own ∷ ts) s
field_read n reads ps is d ts s le deep g h =
    let dot = one_read x.Dot (Name ∷ One x.Assign ∷ Level 8 ∷ Make SettingField ∷ One x.Semicolon ∷ ps) is d ts s g h in
    let a = name_before x.Assign refl (Level 8 ∷ Make SettingField ∷ One x.Semicolon ∷ ps) is d dot.rest s dot.good dot.goes in
    let b = last_read n reads SettingField ps (AName a.name ∷ is) d a.rest s (omega (arith, le, ap length dot.spelled, a.shorter)) deep a.good a.goes in
    record {
      statement = tree.Assign (tree.Field a.name b.tree);
      rest = b.rest;
      spelled = behind (fixed x.Own) (dot.spelled ∙ behind (fixed x.Dot) (a.spelled ∙ behind (t.Name a.name) (behind (fixed x.Assign) b.spelled)));
      fine = and_join (is_identifier a.name) (fits d b.tree) a.fine b.fine;
      shorter = omega (arith, ap length dot.spelled, a.shorter, b.shorter);
      good = b.good;
      goes = b.goes;
    }

pub attribute_read : (n : ℕ) → Expressions n → (ps : List Part) (is : List Item) (d : ℕ) (ts : List Lexeme) (s : Statements) → length ts ≤ n → d ≤ 64 → list_all is_proper ts ≡ true → verdict (One x.OpenRound ∷ Level 8 ∷ One x.Comma ∷ Name ∷ One x.CloseRound ∷ One x.Assign ∷ Level 8 ∷ Make SettingAttribute ∷ One x.Semicolon ∷ ps) is d ts ≡ Fine s → ReadStatement ps is d (fixed x.Attr ∷ ts) s
attribute_read n reads ps is d ts s le deep g h =
    let last = Level 8 ∷ Make SettingAttribute ∷ One x.Semicolon ∷ ps in
    let bracket = one_read x.OpenRound (Level 8 ∷ One x.Comma ∷ Name ∷ One x.CloseRound ∷ One x.Assign ∷ last) is d ts s g h in
    let a = before_read n reads x.Comma refl (Name ∷ One x.CloseRound ∷ One x.Assign ∷ last) is (d + 1) bracket.rest s (omega (arith, le, ap length bracket.spelled)) (opening_room d bracket.room) bracket.good bracket.goes in
    let name = name_read (One x.CloseRound ∷ One x.Assign ∷ last) (ATree a.tree ∷ is) (d + 1) a.rest s a.good a.goes in
    let close = one_read x.CloseRound (One x.Assign ∷ last) (AName name.name ∷ ATree a.tree ∷ is) (d + 1) name.rest s name.good name.goes in
    let sign = one_read x.Assign last (AName name.name ∷ ATree a.tree ∷ is) d close.rest s close.good (back (One x.Assign ∷ last) (AName name.name ∷ ATree a.tree ∷ is) d close.rest s close.goes) in
    let b = last_read n reads SettingAttribute ps (AName name.name ∷ ATree a.tree ∷ is) d sign.rest s (omega (arith, le, ap length bracket.spelled, a.shorter, ap length name.spelled, ap length close.spelled, ap length sign.spelled)) deep sign.good sign.goes in
    record {
      statement = tree.Assign (tree.Attribute a.tree name.name b.tree);
      rest = b.rest;
      spelled = behind (fixed x.Attr) (bracket.spelled ∙ behind (fixed x.OpenRound) (a.spelled ∙ ap (λ l. spell_expression a.tree ++ l) (behind (fixed x.Comma) (name.spelled ∙ behind (t.Name name.name) (close.spelled ∙ behind (fixed x.CloseRound) (sign.spelled ∙ behind (fixed x.Assign) b.spelled))))
          ∙ attribute_spelled (spell_expression a.tree) name.name (spell_expression b.tree) b.rest));
      fine = and_join (fits (d + 1) a.tree) (is_identifier name.name && fits d b.tree) a.fine (and_join (is_identifier name.name) (fits d b.tree) name.fine b.fine);
      shorter = omega (arith, b.shorter, ap length bracket.spelled, a.shorter, ap length name.spelled, ap length close.spelled, ap length sign.spelled);
      good = b.good;
      goes = b.goes;
    }
  where
    attribute_spelled : (a : List Lexeme) (name : Bytes) (b rest : List Lexeme) → a ++ fixed x.Comma ∷ t.Name name ∷ fixed x.CloseRound ∷ fixed x.Assign ∷ ((b ++ fixed x.Semicolon ∷ []) ++ rest) ≡ ((a ++ fixed x.Comma ∷ t.Name name ∷ fixed x.CloseRound ∷ fixed x.Assign ∷ b) ++ fixed x.Semicolon ∷ []) ++ rest
    attribute_spelled a name b rest = simp append_assoc

-- ---- statements with a name, a text or an entity before their expression

pub whose_read : (n : ℕ) → Expressions n → (word y : Fixed) → turn_of y ≡ Stays → (m : Making) (makes : AWhoTree → Expression → Statement) (ps : List Part) (is : List Item) (d : ℕ) (ts : List Lexeme) (s : Statements) → ((who : AWhoTree) (a : Expression) → spell_statement (makes who a) ≡ (fixed word ∷ (spell_who who ++ fixed y ∷ spell_expression a)) ++ fixed x.Semicolon ∷ []) → ((who : AWhoTree) (a : Expression) → statement_fits d (makes who a) ≡ (who_fits who && fits d a)) → ((who : AWhoTree) (a : Expression) → make m (ATree a ∷ AWho who ∷ is) ≡ AStatement (makes who a) ∷ is) → length ts ≤ n → d ≤ 64 → list_all is_proper ts ≡ true → verdict (Who ∷ One y ∷ Level 8 ∷ Make m ∷ One x.Semicolon ∷ ps) is d ts ≡ Fine s → ReadStatement ps is d (fixed word ∷ ts) s
whose_read n reads word y stays m makes ps is d ts s spells fitting made le deep g h =
    let last = Level 8 ∷ Make m ∷ One x.Semicolon ∷ ps in
    let a = who_read (One y ∷ last) is d ts s g h in
    let b = one_read y last (AWho a.who ∷ is) d a.rest s a.good a.goes in
    let goes = ap (λ turn. verdict last (AWho a.who ∷ is) (depth_by turn d) b.rest) (sym stays) ∙ b.goes in
    let longer = who_longer a.who a.rest in
    let e = last_read n reads m ps (AWho a.who ∷ is) d b.rest s (omega (arith, le, ap length a.spelled, longer, ap length b.spelled)) deep b.good goes in
    record {
      statement = makes a.who e.tree;
      rest = e.rest;
      spelled = behind (fixed word) (a.spelled ∙ ap (λ l. spell_who a.who ++ l) (b.spelled ∙ behind (fixed y) e.spelled) ∙ whose_spelled (spell_who a.who) y (spell_expression e.tree) e.rest) ∙ ap (λ l. l ++ e.rest) (sym (spells a.who e.tree));
      fine = fitting a.who e.tree ∙ and_join (who_fits a.who) (fits d e.tree) a.fine e.fine;
      shorter = omega (arith, ap length a.spelled, longer, ap length b.spelled, e.shorter);
      good = e.good;
      goes = ap (λ l. verdict ps l d e.rest) (sym (made a.who e.tree)) ∙ e.goes;
    }
  where
    who_longer : (who : AWhoTree) (rest : List Lexeme) → length rest < length (spell_who who ++ rest)
    who_longer w.Own rest = omega arith
    who_longer (w.Child n) rest = omega arith

    whose_spelled : (who : List Lexeme) (y : Fixed) (a rest : List Lexeme) → who ++ fixed y ∷ ((a ++ fixed x.Semicolon ∷ []) ++ rest) ≡ ((who ++ fixed y ∷ a) ++ fixed x.Semicolon ∷ []) ++ rest
    whose_spelled who y a rest = simp append_assoc

pub texted_read : (n : ℕ) → Expressions n → (word : Fixed) (m : Making) (makes : Bytes → Expression → Statement) (ps : List Part) (is : List Item) (d : ℕ) (ts : List Lexeme) (s : Statements) → ((text : Bytes) (a : Expression) → spell_statement (makes text a) ≡ (fixed word ∷ t.Text text ∷ fixed x.On ∷ spell_expression a) ++ fixed x.Semicolon ∷ []) → ((text : Bytes) (a : Expression) → statement_fits d (makes text a) ≡ (is_literal text && fits d a)) → ((text : Bytes) (a : Expression) → make m (ATree a ∷ AText text ∷ is) ≡ AStatement (makes text a) ∷ is) → length ts ≤ n → d ≤ 64 → list_all is_proper ts ≡ true → verdict (Text ∷ One x.On ∷ Level 8 ∷ Make m ∷ One x.Semicolon ∷ ps) is d ts ≡ Fine s → ReadStatement ps is d (fixed word ∷ ts) s
texted_read n reads word m makes ps is d ts s spells fitting made le deep g h =
    let last = Level 8 ∷ Make m ∷ One x.Semicolon ∷ ps in
    let a = text_read (One x.On ∷ last) is d ts s g h in
    let b = one_read x.On last (AText a.text ∷ is) d a.rest s a.good a.goes in
    let e = last_read n reads m ps (AText a.text ∷ is) d b.rest s (omega (arith, le, ap length a.spelled, ap length b.spelled)) deep b.good b.goes in
    record {
      statement = makes a.text e.tree;
      rest = e.rest;
      spelled = behind (fixed word) (a.spelled ∙ behind (t.Text a.text) (b.spelled ∙ behind (fixed x.On) e.spelled)) ∙ ap (λ l. l ++ e.rest) (sym (spells a.text e.tree));
      fine = fitting a.text e.tree ∙ and_join (is_literal a.text) (fits d e.tree) a.fine e.fine;
      shorter = omega (arith, ap length a.spelled, ap length b.spelled, e.shorter);
      good = e.good;
      goes = ap (λ l. verdict ps l d e.rest) (sym (made a.text e.tree)) ∙ e.goes;
    }

pub of_name_read : (n : ℕ) → Expressions n → (word : Fixed) (m : Making) (makes : Bytes → Expression → Statement) (ps : List Part) (is : List Item) (d : ℕ) (ts : List Lexeme) (s : Statements) → ((name : Bytes) (a : Expression) → spell_statement (makes name a) ≡ (fixed word ∷ t.Name name ∷ spell_expression a) ++ fixed x.Semicolon ∷ []) → ((name : Bytes) (a : Expression) → statement_fits d (makes name a) ≡ (is_identifier name && fits d a)) → ((name : Bytes) (a : Expression) → make m (ATree a ∷ AName name ∷ is) ≡ AStatement (makes name a) ∷ is) → length ts ≤ n → d ≤ 64 → list_all is_proper ts ≡ true → verdict (Name ∷ Level 8 ∷ Make m ∷ One x.Semicolon ∷ ps) is d ts ≡ Fine s → ReadStatement ps is d (fixed word ∷ ts) s
of_name_read n reads word m makes ps is d ts s spells fitting made le deep g h =
    let a = name_read (Level 8 ∷ Make m ∷ One x.Semicolon ∷ ps) is d ts s g h in
    let e = last_read n reads m ps (AName a.name ∷ is) d a.rest s (omega (arith, le, ap length a.spelled)) deep a.good a.goes in
    record {
      statement = makes a.name e.tree;
      rest = e.rest;
      spelled = behind (fixed word) (a.spelled ∙ behind (t.Name a.name) e.spelled) ∙ ap (λ l. l ++ e.rest) (sym (spells a.name e.tree));
      fine = fitting a.name e.tree ∙ and_join (is_identifier a.name) (fits d e.tree) a.fine e.fine;
      shorter = omega (arith, ap length a.spelled, e.shorter);
      good = e.good;
      goes = ap (λ l. verdict ps l d e.rest) (sym (made a.name e.tree)) ∙ e.goes;
    }

pub verb_read : (n : ℕ) → Expressions n → (verb : _) (ps : List Part) (is : List Item) (d : ℕ) (ts : List Lexeme) (s : Statements) → length ts ≤ n → d ≤ 64 → list_all is_proper ts ≡ true → verdict (Level 8 ∷ Make (Doing verb) ∷ One x.Semicolon ∷ ps) is d ts ≡ Fine s → ReadStatement ps is d (t.Symbol (symbols.Verb verb) ∷ ts) s
verb_read n reads verb ps is d ts s le deep g h =
    let e = last_read n reads (Doing verb) ps is d ts s le deep g h in
    record { statement = tree.Do verb e.tree; rest = e.rest; spelled = behind (t.Symbol (symbols.Verb verb)) e.spelled; fine = e.fine; shorter = omega (arith, e.shorter); good = e.good; goes = e.goes }

pub bind_read : (n : ℕ) → Expressions n → (ps : List Part) (is : List Item) (d : ℕ) (ts : List Lexeme) (s : Statements) → length ts ≤ n → d ≤ 64 → list_all is_proper ts ≡ true → verdict (Level 8 ∷ One x.To ∷ Level 8 ∷ Make Binding ∷ One x.Semicolon ∷ ps) is d ts ≡ Fine s → ReadStatement ps is d (fixed x.Bind ∷ ts) s
bind_read n reads ps is d ts s le deep g h =
    let a = before_read n reads x.To refl (Level 8 ∷ Make Binding ∷ One x.Semicolon ∷ ps) is d ts s le deep g h in
    let b = last_read n reads Binding ps (ATree a.tree ∷ is) d a.rest s (omega (arith, le, a.shorter)) deep a.good a.goes in
    record {
      statement = tree.Activity (tree.Bind a.tree b.tree);
      rest = b.rest;
      spelled = behind (fixed x.Bind) (a.spelled ∙ ap (λ l. spell_expression a.tree ++ fixed x.To ∷ l) b.spelled ∙ bind_spelled (spell_expression a.tree) (spell_expression b.tree) b.rest);
      fine = and_join (fits d a.tree) (fits d b.tree) a.fine b.fine;
      shorter = omega (arith, a.shorter, b.shorter);
      good = b.good;
      goes = b.goes;
    }
  where
    bind_spelled : (a b rest : List Lexeme) → a ++ fixed x.To ∷ ((b ++ fixed x.Semicolon ∷ []) ++ rest) ≡ ((a ++ fixed x.To ∷ b) ++ fixed x.Semicolon ∷ []) ++ rest
    bind_spelled a b rest = simp append_assoc

-- ---- statements of words and names alone

pub remove_read : (ps : List Part) (is : List Item) (d : ℕ) (ts : List Lexeme) (s : Statements) → list_all is_proper ts ≡ true → verdict (Name ∷ Make Removing ∷ One x.Semicolon ∷ ps) is d ts ≡ Fine s → ReadStatement ps is d (fixed x.Remove ∷ ts) s
remove_read ps is d ts s g h =
    let a = name_read (Make Removing ∷ One x.Semicolon ∷ ps) is d ts s g h in
    let b = one_read x.Semicolon ps (AStatement (tree.Entity (tree.Remove a.name)) ∷ is) d a.rest s a.good (unmade Removing (One x.Semicolon ∷ ps) (AName a.name ∷ is) d a.rest s a.goes) in
    record {
      statement = tree.Entity (tree.Remove a.name);
      rest = b.rest;
      spelled = behind (fixed x.Remove) (a.spelled ∙ behind (t.Name a.name) b.spelled);
      fine = a.fine;
      shorter = omega (arith, ap length a.spelled, ap length b.spelled);
      good = b.good;
      goes = b.goes;
    }

pub null_read : (ps : List Part) (is : List Item) (d : ℕ) (ts : List Lexeme) (s : Statements) → list_all is_proper ts ≡ true → verdict (One x.As ∷ Name ∷ Make MakingNull ∷ One x.Semicolon ∷ ps) is d ts ≡ Fine s → ReadStatement ps is d (fixed x.Null ∷ ts) s
null_read ps is d ts s g h =
    let word = one_read x.As (Name ∷ Make MakingNull ∷ One x.Semicolon ∷ ps) is d ts s g h in
    let a = name_read (Make MakingNull ∷ One x.Semicolon ∷ ps) is d word.rest s word.good word.goes in
    let b = one_read x.Semicolon ps (AStatement (tree.Activity (tree.Null a.name)) ∷ is) d a.rest s a.good (unmade MakingNull (One x.Semicolon ∷ ps) (AName a.name ∷ is) d a.rest s a.goes) in
    record {
      statement = tree.Activity (tree.Null a.name);
      rest = b.rest;
      spelled = behind (fixed x.Null) (word.spelled ∙ behind (fixed x.As) (a.spelled ∙ behind (t.Name a.name) b.spelled));
      fine = a.fine;
      shorter = omega (arith, ap length word.spelled, ap length a.spelled, ap length b.spelled);
      good = b.good;
      goes = b.goes;
    }

pub rollback_read : (ps : List Part) (is : List Item) (d : ℕ) (ts : List Lexeme) (s : Statements) → list_all is_proper ts ≡ true → verdict (Make RollingBack ∷ One x.Semicolon ∷ ps) is d ts ≡ Fine s → ReadStatement ps is d (fixed x.Rollback ∷ ts) s
rollback_read ps is d ts s g h =
    let b = one_read x.Semicolon ps (AStatement tree.Rollback ∷ is) d ts s g (unmade RollingBack (One x.Semicolon ∷ ps) is d ts s h) in
    record { statement = tree.Rollback; rest = b.rest; spelled = behind (fixed x.Rollback) b.spelled; fine = refl; shorter = omega (arith, ap length b.spelled); good = b.good; goes = b.goes }
