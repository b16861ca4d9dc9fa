-- Expressions that the grammar's table reads are spelled as their trees.
use Rattle.std.proofs.Common.{◌≡◌, ◌≤◌, ◌<◌, ◌+◌, ℕ, List, [], ◌∷◌, ◌++◌, length, Bool, true, ◌&&◌, refl, sym, ap, ◌∙◌, arith, append_assoc}
use Rattle.std.specs.Prelude.{nat_le}
use Rattle.std.specs.List.{list_all}
use Rattle.script_tree.specs.declared.symbol.Fixed.{Fixed}
use Rattle.script_tree.specs.declared.symbol.Fixed.TheVariants as x
use Rattle.script_tree.specs.declared.symbol.Symbol.TheVariants as symbols
use Rattle.script_tree.specs.declared.lexeme.Lexeme.{Lexeme}
use Rattle.script_tree.specs.declared.lexeme.Lexeme.TheVariants as t
use Rattle.script_tree.specs.declared.tree.Leaf.TheVariants as l
use Rattle.script_tree.specs.declared.tree.Query.TheVariants as q
use Rattle.script_tree.specs.Words.{is_identifier, is_literal, is_number}
use Rattle.script_tree.specs.Tree.{Bytes, Expression, Leaf, Ask, Group, Statements}
use Rattle.script_tree.specs.Spelling.{fixed, spell_expression, level, fits}
use Rattle.script_tree.specs.Grammar.{Part, Item, AName, AText, ATree, One, Name, Text, Level, Make, Asking, AskingMasked, AskingAttribute, AskingProfile, AskingHasProfile, Grouping, FieldOf, EventFieldOf, TableOf, CountOf, PriorityOf, Fine, make, verdict}
use Rattle.script_print.proofs.Expressions.{and_parts}
use Rattle.script_print.specs.Proper.{is_proper}
use Rattle.script_print.proofs.Steps.{never, chosen, and_join, behind, unmade, one_read, opening_room, le_true, back, name_read, text_read}

abbrev pub fits_in : ℕ → ℕ → Expression → Bool
fits_in n d a = nat_le (level a) n && fits d a

-- an expression of a level was read
pub record ReadTree (n : ℕ) (ps : List Part) (is : List Item) (d : ℕ) (ts : List Lexeme) (s : Statements) : Type 0 where
  pub tree : Expression
  pub rest : List Lexeme
  pub spelled : ts ≡ spell_expression tree ++ rest
  pub fine : fits_in n d tree ≡ true
  pub shorter : length rest < length ts
  pub good : list_all is_proper rest ≡ true
  pub goes : verdict ps (ATree tree ∷ is) d rest ≡ Fine s

-- operators of a level were read behind an expression
pub record ReadMore (n : ℕ) (a : Expression) (ps : List Part) (is : List Item) (d : ℕ) (ts : List Lexeme) (s : Statements) : Type 0 where
  pub tree : Expression
  pub rest : List Lexeme
  pub spelled : spell_expression a ++ ts ≡ spell_expression tree ++ rest
  pub fine : fits_in n d tree ≡ true
  pub shorter : length rest ≤ length ts
  pub good : list_all is_proper rest ≡ true
  pub goes : verdict ps (ATree tree ∷ is) d rest ≡ Fine s

-- so is every expression in so many tokens
abbrev pub Expressions : ℕ → Type 0
Expressions n = (m : ℕ) (ps : List Part) (is : List Item) (d : ℕ) (ts : List Lexeme) (s : Statements) → length ts ≤ n → d ≤ 64 → list_all is_proper ts ≡ true → verdict (Level m ∷ ps) is d ts ≡ Fine s → ReadTree m ps is d ts s

-- ---- expressions without operators

abbrev spelled_in : Fixed → Bytes → List Lexeme → List Lexeme
spelled_in y n rest = fixed y ∷ fixed x.OpenRound ∷ t.Name n ∷ fixed x.CloseRound ∷ rest

-- a name in brackets was read
record ReadNamed (made : Bytes → Item) (ps : List Part) (is : List Item) (d : ℕ) (ts : List Lexeme) (s : Statements) : Type 0 where
  name : Bytes
  rest : List Lexeme
  spelled : ts ≡ fixed x.OpenRound ∷ t.Name name ∷ fixed x.CloseRound ∷ rest
  fine : (is_identifier name && nat_le (d + 1) 64) ≡ true
  shorter : length rest < length ts
  good : list_all is_proper rest ≡ true
  goes : verdict ps (made name ∷ is) d rest ≡ Fine s

named_read : (m : _) (makes : Bytes → Item) (ps : List Part) (is : List Item) (d : ℕ) (ts : List Lexeme) (s : Statements) → list_all is_proper ts ≡ true → ((n : Bytes) → make m (AName n ∷ is) ≡ makes n ∷ is) → verdict (One x.OpenRound ∷ Name ∷ Make m ∷ One x.CloseRound ∷ ps) is d ts ≡ Fine s → ReadNamed makes ps is d ts s
named_read m makes ps is d ts s g same h =
    let a = one_read x.OpenRound (Name ∷ Make m ∷ One x.CloseRound ∷ ps) is d ts s g h in
    let b = name_read (Make m ∷ One x.CloseRound ∷ ps) is (d + 1) a.rest s a.good a.goes in
    let made = unmade m (One x.CloseRound ∷ ps) (AName b.name ∷ is) (d + 1) b.rest s b.goes in
    let c = one_read x.CloseRound ps (makes b.name ∷ is) (d + 1) b.rest s b.good (ap (λ l. verdict (One x.CloseRound ∷ ps) l (d + 1) b.rest) (sym (same b.name)) ∙ made) in
    record {
      name = b.name;
      rest = c.rest;
      spelled = a.spelled ∙ behind (fixed x.OpenRound) (b.spelled ∙ behind (t.Name b.name) c.spelled);
      fine = and_join (is_identifier b.name) (nat_le (d + 1) 64) b.fine (le_true (d + 1) 64 (opening_room d a.room));
      shorter = omega (arith, ap length a.spelled, ap length b.spelled, ap length c.spelled);
      good = c.good;
      goes = back ps (makes b.name ∷ is) d c.rest s c.goes;
    }

-- a field of the block or the event was read
record ReadDotted (made : Bytes → Item) (ps : List Part) (is : List Item) (d : ℕ) (ts : List Lexeme) (s : Statements) : Type 0 where
  name : Bytes
  rest : List Lexeme
  spelled : ts ≡ fixed x.Dot ∷ t.Name name ∷ rest
  fine : is_identifier name ≡ true
  shorter : length rest < length ts
  good : list_all is_proper rest ≡ true
  goes : verdict ps (made name ∷ is) d rest ≡ Fine s

dotted_read : (m : _) (makes : Bytes → Item) (ps : List Part) (is : List Item) (d : ℕ) (ts : List Lexeme) (s : Statements) → list_all is_proper ts ≡ true → ((n : Bytes) → make m (AName n ∷ is) ≡ makes n ∷ is) → verdict (One x.Dot ∷ Name ∷ Make m ∷ ps) is d ts ≡ Fine s → ReadDotted makes ps is d ts s
dotted_read m makes ps is d ts s g same h =
    let a = one_read x.Dot (Name ∷ Make m ∷ ps) is d ts s g h in
    let b = name_read (Make m ∷ ps) is d a.rest s a.good a.goes in
    let made = unmade m ps (AName b.name ∷ is) d b.rest s b.goes in
    record {
      name = b.name;
      rest = b.rest;
      spelled = a.spelled ∙ behind (fixed x.Dot) b.spelled;
      fine = b.fine;
      shorter = omega (arith, ap length a.spelled, ap length b.spelled);
      good = b.good;
      goes = ap (λ l. verdict ps l d b.rest) (sym (same b.name)) ∙ made;
    }

-- an expression and the bracket behind it were read
pub record ReadClosed (ps : List Part) (is : List Item) (m : _) (d : ℕ) (ts : List Lexeme) (s : Statements) : Type 0 where
  pub tree : Expression
  pub rest : List Lexeme
  pub spelled : ts ≡ spell_expression tree ++ fixed x.CloseRound ∷ rest
  pub fine : fits (d + 1) tree ≡ true
  pub shorter : length rest < length ts
  pub good : list_all is_proper rest ≡ true
  pub goes : verdict ps (make m (ATree tree ∷ is)) d rest ≡ Fine s

pub closed_read : (n : ℕ) → Expressions n → (m : _) (ps : List Part) (is : List Item) (d : ℕ) (ts : List Lexeme) (s : Statements) → length ts ≤ n → d + 1 ≤ 64 → list_all is_proper ts ≡ true → verdict (Level 8 ∷ Make m ∷ One x.CloseRound ∷ ps) is (d + 1) ts ≡ Fine s → ReadClosed ps is m d ts s
closed_read n reads m ps is d ts s le room g h =
    let a = reads 8 (Make m ∷ One x.CloseRound ∷ ps) is (d + 1) ts s le room g h in
    let made = unmade m (One x.CloseRound ∷ ps) (ATree a.tree ∷ is) (d + 1) a.rest s a.goes in
    let c = one_read x.CloseRound ps (make m (ATree a.tree ∷ is)) (d + 1) a.rest s a.good made in
    record {
      tree = a.tree;
      rest = c.rest;
      spelled = a.spelled ∙ ap (λ l. spell_expression a.tree ++ l) c.spelled;
      fine = (and_parts (nat_le (level a.tree) 8) (fits (d + 1) a.tree) a.fine).1;
      shorter = omega (arith, a.shorter, ap length c.spelled);
      good = c.good;
      goes = back ps (make m (ATree a.tree ∷ is)) d c.rest s c.goes;
    }

-- a comma, a name and a closing bracket were read
record ReadTail (m : _) (ps : List Part) (is : List Item) (d : ℕ) (ts : List Lexeme) (s : Statements) : Type 0 where
  name : Bytes
  rest : List Lexeme
  spelled : ts ≡ fixed x.Comma ∷ t.Name name ∷ fixed x.CloseRound ∷ rest
  fine : is_identifier name ≡ true
  shorter : length rest < length ts
  good : list_all is_proper rest ≡ true
  goes : verdict ps (make m (AName name ∷ is)) d rest ≡ Fine s

tail_read : (m : _) (ps : List Part) (is : List Item) (d : ℕ) (ts : List Lexeme) (s : Statements) → list_all is_proper ts ≡ true → verdict (One x.Comma ∷ Name ∷ Make m ∷ One x.CloseRound ∷ ps) is (d + 1) ts ≡ Fine s → ReadTail m ps is d ts s
tail_read m ps is d ts s g h =
    let a = one_read x.Comma (Name ∷ Make m ∷ One x.CloseRound ∷ ps) is (d + 1) ts s g h in
    let b = name_read (Make m ∷ One x.CloseRound ∷ ps) is (d + 1) a.rest s a.good a.goes in
    let made = unmade m (One x.CloseRound ∷ ps) (AName b.name ∷ is) (d + 1) b.rest s b.goes in
    let c = one_read x.CloseRound ps (make m (AName b.name ∷ is)) (d + 1) b.rest s b.good made in
    record {
      name = b.name;
      rest = c.rest;
      spelled = a.spelled ∙ behind (fixed x.Comma) (b.spelled ∙ behind (t.Name b.name) c.spelled);
      fine = b.fine;
      shorter = omega (arith, ap length a.spelled, ap length b.spelled, ap length c.spelled);
      good = c.good;
      goes = back ps (make m (AName b.name ∷ is)) d c.rest s c.goes;
    }

leaf_named : (y : Fixed) (makes : Bytes → Expression) (ps : List Part) (is : List Item) (d : ℕ) (ts : List Lexeme) (s : Statements) → ((n : Bytes) → spell_expression (makes n) ≡ fixed y ∷ fixed x.OpenRound ∷ t.Name n ∷ fixed x.CloseRound ∷ []) → ((n : Bytes) → fits_in 0 d (makes n) ≡ (is_identifier n && nat_le (d + 1) 64)) → ReadNamed (λ n. ATree (makes n)) ps is d ts s → ReadTree 0 ps is d (fixed y ∷ ts) s
leaf_named y makes ps is d ts s spells fitting a = record {
  tree = makes a.name;
  rest = a.rest;
  spelled = behind (fixed y) a.spelled ∙ ap (λ l. l ++ a.rest) (sym (spells a.name));
  fine = fitting a.name ∙ a.fine;
  shorter = omega (arith, a.shorter);
  good = a.good;
  goes = a.goes;
}

query_function : (n : ℕ) → Expressions n → (f : _) (ps : List Part) (is : List Item) (d : ℕ) (ts : List Lexeme) (s : Statements) → length ts ≤ n → list_all is_proper ts ≡ true → verdict (One x.OpenRound ∷ Level 8 ∷ Make (Asking f) ∷ One x.CloseRound ∷ ps) is d ts ≡ Fine s → ReadTree 0 ps is d (t.Symbol (symbols.Function f) ∷ ts) s
query_function n reads f ps is d ts s le g h =
    let a = one_read x.OpenRound (Level 8 ∷ Make (Asking f) ∷ One x.CloseRound ∷ ps) is d ts s g h in
    let e = closed_read n reads (Asking f) ps is d a.rest s (omega (arith, le, ap length a.spelled)) (opening_room d a.room) a.good a.goes in
    record {
      tree = Ask (q.Plain f) e.tree;
      rest = e.rest;
      spelled = behind (t.Symbol (symbols.Function f)) (a.spelled ∙ behind (fixed x.OpenRound) (e.spelled ∙ sym (append_assoc (spell_expression e.tree) (fixed x.CloseRound ∷ []) e.rest)));
      fine = e.fine;
      shorter = omega (arith, e.shorter, ap length a.spelled);
      good = e.good;
      goes = e.goes;
    }

query_masked : (n : ℕ) → Expressions n → (ps : List Part) (is : List Item) (d : ℕ) (ts : List Lexeme) (s : Statements) → length ts ≤ n → list_all is_proper ts ≡ true → verdict (One x.OpenRound ∷ Text ∷ One x.Comma ∷ Level 8 ∷ Make AskingMasked ∷ One x.CloseRound ∷ ps) is d ts ≡ Fine s → ReadTree 0 ps is d (fixed x.Masked ∷ ts) s
query_masked n reads ps is d ts s le g h =
    let parts = Level 8 ∷ Make AskingMasked ∷ One x.CloseRound ∷ ps in
    let a = one_read x.OpenRound (Text ∷ One x.Comma ∷ parts) is d ts s g h in
    let b = text_read (One x.Comma ∷ parts) is (d + 1) a.rest s a.good a.goes in
    let c = one_read x.Comma parts (AText b.text ∷ is) (d + 1) b.rest s b.good b.goes in
    let e = closed_read n reads AskingMasked ps (AText b.text ∷ is) d c.rest s (omega (arith, le, ap length a.spelled, ap length b.spelled, ap length c.spelled)) (opening_room d a.room) c.good c.goes in
    record {
      tree = Ask (q.Masked b.text) e.tree;
      rest = e.rest;
      spelled = behind (fixed x.Masked) (a.spelled ∙ behind (fixed x.OpenRound) (b.spelled ∙ behind (t.Text b.text) (c.spelled ∙ behind (fixed x.Comma) (e.spelled ∙ sym (append_assoc (spell_expression e.tree) (fixed x.CloseRound ∷ []) e.rest)))));
      fine = and_join (is_literal b.text) (fits (d + 1) e.tree) b.fine e.fine;
      shorter = omega (arith, e.shorter, ap length a.spelled, ap length b.spelled, ap length c.spelled);
      good = e.good;
      goes = e.goes;
    }

query_has_profile : (n : ℕ) → Expressions n → (ps : List Part) (is : List Item) (d : ℕ) (ts : List Lexeme) (s : Statements) → length ts ≤ n → list_all is_proper ts ≡ true → verdict (One x.OpenRound ∷ Name ∷ One x.Comma ∷ Level 8 ∷ Make AskingHasProfile ∷ One x.CloseRound ∷ ps) is d ts ≡ Fine s → ReadTree 0 ps is d (fixed x.HasProfile ∷ ts) s
query_has_profile n reads ps is d ts s le g h =
    let parts = Level 8 ∷ Make AskingHasProfile ∷ One x.CloseRound ∷ ps in
    let a = one_read x.OpenRound (Name ∷ One x.Comma ∷ parts) is d ts s g h in
    let b = name_read (One x.Comma ∷ parts) is (d + 1) a.rest s a.good a.goes in
    let c = one_read x.Comma parts (AName b.name ∷ is) (d + 1) b.rest s b.good b.goes in
    let e = closed_read n reads AskingHasProfile ps (AName b.name ∷ is) d c.rest s (omega (arith, le, ap length a.spelled, ap length b.spelled, ap length c.spelled)) (opening_room d a.room) c.good c.goes in
    record {
      tree = Ask (q.HasProfile b.name) e.tree;
      rest = e.rest;
      spelled = behind (fixed x.HasProfile) (a.spelled ∙ behind (fixed x.OpenRound) (b.spelled ∙ behind (t.Name b.name) (c.spelled ∙ behind (fixed x.Comma) (e.spelled ∙ sym (append_assoc (spell_expression e.tree) (fixed x.CloseRound ∷ []) e.rest)))));
      fine = and_join (is_identifier b.name) (fits (d + 1) e.tree) b.fine e.fine;
      shorter = omega (arith, e.shorter, ap length a.spelled, ap length b.spelled, ap length c.spelled);
      good = e.good;
      goes = e.goes;
    }

query_attribute : (n : ℕ) → Expressions n → (ps : List Part) (is : List Item) (d : ℕ) (ts : List Lexeme) (s : Statements) → length ts ≤ n → list_all is_proper ts ≡ true → verdict (One x.OpenRound ∷ Level 8 ∷ One x.Comma ∷ Name ∷ Make AskingAttribute ∷ One x.CloseRound ∷ ps) is d ts ≡ Fine s → ReadTree 0 ps is d (fixed x.Attr ∷ ts) s
query_attribute n reads ps is d ts s le g h =
    let parts = One x.Comma ∷ Name ∷ Make AskingAttribute ∷ One x.CloseRound ∷ ps in
    let a = one_read x.OpenRound (Level 8 ∷ parts) is d ts s g h in
    let b = reads 8 parts is (d + 1) a.rest s (omega (arith, le, ap length a.spelled)) (opening_room d a.room) a.good a.goes in
    let c = tail_read AskingAttribute ps (ATree b.tree ∷ is) d b.rest s b.good b.goes in
    record {
      tree = Ask (q.Attribute c.name) b.tree;
      rest = c.rest;
      spelled = behind (fixed x.Attr) (a.spelled ∙ behind (fixed x.OpenRound) (b.spelled ∙ ap (λ l. spell_expression b.tree ++ l) c.spelled ∙ sym (append_assoc (spell_expression b.tree) (fixed x.Comma ∷ t.Name c.name ∷ fixed x.CloseRound ∷ []) c.rest)));
      fine = and_join (is_identifier c.name) (fits (d + 1) b.tree) c.fine (and_parts (nat_le (level b.tree) 8) (fits (d + 1) b.tree) b.fine).1;
      shorter = omega (arith, c.shorter, b.shorter, ap length a.spelled);
      good = c.good;
      goes = c.goes;
    }

query_profile : (n : ℕ) → Expressions n → (ps : List Part) (is : List Item) (d : ℕ) (ts : List Lexeme) (s : Statements) → length ts ≤ n → list_all is_proper ts ≡ true → verdict (One x.OpenRound ∷ Name ∷ One x.Comma ∷ Level 8 ∷ One x.Comma ∷ Name ∷ Make AskingProfile ∷ One x.CloseRound ∷ ps) is d ts ≡ Fine s → ReadTree 0 ps is d (fixed x.Profile ∷ ts) s
query_profile n reads ps is d ts s le g h =
    let parts = One x.Comma ∷ Name ∷ Make AskingProfile ∷ One x.CloseRound ∷ ps in
    let a = one_read x.OpenRound (Name ∷ One x.Comma ∷ Level 8 ∷ parts) is d ts s g h in
    let b = name_read (One x.Comma ∷ Level 8 ∷ parts) is (d + 1) a.rest s a.good a.goes in
    let c = one_read x.Comma (Level 8 ∷ parts) (AName b.name ∷ is) (d + 1) b.rest s b.good b.goes in
    let e = reads 8 parts (AName b.name ∷ is) (d + 1) c.rest s (omega (arith, le, ap length a.spelled, ap length b.spelled, ap length c.spelled)) (opening_room d a.room) c.good c.goes in
    let f = tail_read AskingProfile ps (ATree e.tree ∷ AName b.name ∷ is) d e.rest s e.good e.goes in
    record {
      tree = Ask (q.Profile b.name f.name) e.tree;
      rest = f.rest;
      spelled = behind (fixed x.Profile) (a.spelled ∙ behind (fixed x.OpenRound) (b.spelled ∙ behind (t.Name b.name) (c.spelled ∙ behind (fixed x.Comma) (e.spelled ∙ ap (λ l. spell_expression e.tree ++ l) f.spelled ∙ sym (append_assoc (spell_expression e.tree) (fixed x.Comma ∷ t.Name f.name ∷ fixed x.CloseRound ∷ []) f.rest)))));
      fine = and_join (is_identifier b.name && is_identifier f.name) (fits (d + 1) e.tree) (and_join (is_identifier b.name) (is_identifier f.name) b.fine f.fine) (and_parts (nat_le (level e.tree) 8) (fits (d + 1) e.tree) e.fine).1;
      shorter = omega (arith, f.shorter, e.shorter, ap length a.spelled, ap length b.spelled, ap length c.spelled);
      good = f.good;
      goes = f.goes;
    }

-- an expression that begins with a word or bracket
worded_read : (n : ℕ) → Expressions n → (y : Fixed) (ps : List Part) (is : List Item) (d : ℕ) (ts : List Lexeme) (s : Statements) → length ts ≤ n → d ≤ 64 → list_all is_proper ts ≡ true → verdict (Level 0 ∷ ps) is d (fixed y ∷ ts) ≡ Fine s → ReadTree 0 ps is d (fixed y ∷ ts) s
unfolding verdict
worded_read n reads x.OpenRound ps is d ts s le deep g h =
    let p = chosen (nat_le 64 d) _ (verdict (Level 8 ∷ Make Grouping ∷ One x.CloseRound ∷ ps) is (d + 1) ts) s h in
    let a = closed_read n reads Grouping ps is d ts s le (opening_room d p.0) g p.1 in
    record {
      tree = Group a.tree;
      rest = a.rest;
      spelled = behind (fixed x.OpenRound) (a.spelled ∙ sym (append_assoc (spell_expression a.tree) (fixed x.CloseRound ∷ []) a.rest));
      fine = a.fine;
      shorter = omega (arith, a.shorter);
      good = a.good;
      goes = a.goes;
    }
worded_read n reads x.Own ps is d ts s le deep g h =
    let a = dotted_read FieldOf (λ n. ATree (Leaf (l.Field n))) ps is d ts s g (λ n. refl) h in
    record { tree = Leaf (l.Field a.name); rest = a.rest; spelled = behind (fixed x.Own) a.spelled; fine = and_join (is_identifier a.name) (nat_le d 64) a.fine (le_true d 64 deep); shorter = omega (arith, a.shorter); good = a.good; goes = a.goes }
worded_read n reads x.Event ps is d ts s le deep g h =
    let a = dotted_read EventFieldOf (λ n. ATree (Leaf (l.EventField n))) ps is d ts s g (λ n. refl) h in
    record { tree = Leaf (l.EventField a.name); rest = a.rest; spelled = behind (fixed x.Event) a.spelled; fine = and_join (is_identifier a.name) (nat_le d 64) a.fine (le_true d 64 deep); shorter = omega (arith, a.shorter); good = a.good; goes = a.goes }
worded_read n reads x.Table ps is d ts s le deep g h = leaf_named x.Table (λ n. Leaf (l.Table n)) ps is d ts s (λ n. refl) (λ n. refl) (named_read TableOf (λ n. ATree (Leaf (l.Table n))) ps is d ts s g (λ n. refl) h)
worded_read n reads x.Count ps is d ts s le deep g h = leaf_named x.Count (λ n. Leaf (l.Count n)) ps is d ts s (λ n. refl) (λ n. refl) (named_read CountOf (λ n. ATree (Leaf (l.Count n))) ps is d ts s g (λ n. refl) h)
worded_read n reads x.Priority ps is d ts s le deep g h = leaf_named x.Priority (λ n. Leaf (l.Priority n)) ps is d ts s (λ n. refl) (λ n. refl) (named_read PriorityOf (λ n. ATree (Leaf (l.Priority n))) ps is d ts s g (λ n. refl) h)
worded_read n reads x.Masked ps is d ts s le deep g h = query_masked n reads ps is d ts s le g h
worded_read n reads x.Attr ps is d ts s le deep g h = query_attribute n reads ps is d ts s le g h
worded_read n reads x.Profile ps is d ts s le deep g h = query_profile n reads ps is d ts s le g h
worded_read n reads x.HasProfile ps is d ts s le deep g h = query_has_profile n reads ps is d ts s le g h
worded_read n reads _ ps is d ts s le deep g h = never _ s h

pub prim_read : (n : ℕ) → Expressions n → (ps : List Part) (is : List Item) (d : ℕ) (token : Lexeme) (ts : List Lexeme) (s : Statements) → length ts ≤ n → d ≤ 64 → list_all is_proper (token ∷ ts) ≡ true → verdict (Level 0 ∷ ps) is d (token ∷ ts) ≡ Fine s → ReadTree 0 ps is d (token ∷ ts) s
unfolding verdict
prim_read n reads ps is d (t.Int i) ts s le deep g h =
    let p = and_parts (is_number i) (list_all is_proper ts) g in
    record { tree = Leaf (l.Int i); rest = ts; spelled = refl; fine = and_join (is_number i) (nat_le d 64) p.0 (le_true d 64 deep); shorter = omega arith; good = p.1; goes = h }
prim_read n reads ps is d (t.Text i) ts s le deep g h =
    let p = and_parts (is_literal i) (list_all is_proper ts) g in
    record { tree = Leaf (l.Text i); rest = ts; spelled = refl; fine = and_join (is_literal i) (nat_le d 64) p.0 (le_true d 64 deep); shorter = omega arith; good = p.1; goes = h }
prim_read n reads ps is d (t.Name i) ts s le deep g h =
    let p = and_parts (is_identifier i) (list_all is_proper ts) g in
    record { tree = Leaf (l.Variable i); rest = ts; spelled = refl; fine = and_join (is_identifier i) (nat_le d 64) p.0 (le_true d 64 deep); shorter = omega arith; good = p.1; goes = h }
prim_read n reads ps is d (t.Symbol (symbols.Constant y)) ts s le deep g h = record { tree = Leaf (l.Constant y); rest = ts; spelled = refl; fine = le_true d 64 deep; shorter = omega arith; good = g; goes = h }
prim_read n reads ps is d (t.Symbol (symbols.Function f)) ts s le deep g h = query_function n reads f ps is d ts s le g h
prim_read n reads ps is d (t.Symbol (symbols.Fixed y)) ts s le deep g h = worded_read n reads y ps is d ts s le deep g h
prim_read n reads ps is d (t.Symbol (symbols.Operator y)) ts s le deep g h = never _ s h
prim_read n reads ps is d (t.Symbol (symbols.Verb y)) ts s le deep g h = never _ s h
prim_read n reads ps is d t.Bad ts s le deep g h = never _ s h
