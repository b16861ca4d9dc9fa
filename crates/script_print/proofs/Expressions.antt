-- An expression as it is spelled is read as that expression.
use Rattle.std.proofs.Common.{◌≡◌, ◌≤◌, ◌+◌, ◌-◌, ℕ, List, [], ◌∷◌, ◌++◌, Bool, true, false, ◌&&◌, refl, ap, ◌∙◌, arith, append_assoc}
use Rattle.std.specs.Prelude.{nat_le}
use Rattle.std.proofs.lemmas.Bool.Decides.{nat_tests}
use Rattle.script_tree.specs.declared.symbol.Operator.{Operator}
use Rattle.script_tree.specs.declared.symbol.Operator.TheVariants as o
use Rattle.script_tree.specs.declared.symbol.Fixed.TheVariants as x
use Rattle.script_tree.specs.declared.symbol.Symbol.TheVariants as s
use Rattle.script_tree.specs.declared.lexeme.Lexeme.{Lexeme}
use Rattle.script_tree.specs.declared.lexeme.Lexeme.TheVariants as t
use Rattle.script_tree.specs.declared.tree.Leaf.{Leaf as ALeaf}
use Rattle.script_tree.specs.declared.tree.Leaf.TheVariants as l
use Rattle.script_tree.specs.declared.tree.Prefix.{Prefix}
use Rattle.script_tree.specs.declared.tree.Prefix.TheVariants as prefixes
use Rattle.script_tree.specs.declared.tree.Query.{Query}
use Rattle.script_tree.specs.declared.tree.Query.TheVariants as q
use Rattle.script_tree.specs.Words.{is_identifier, is_literal, is_number}
use Rattle.script_tree.specs.Tree.{Expression, Leaf, Unary, Binary, Ask, Group}
use Rattle.script_tree.specs.Spelling.{fixed, level, prefix_level, chain_level, left_level, spell_leaf, before_asked, behind_asked, spell_expression, leaf_fits, query_fits, fits}
use Rattle.script_tree.specs.Grammar.{Part, Item, AName, AText, ATree, Make, Asking, AskingMasked, AskingAttribute, AskingProfile, AskingHasProfile, TableOf, CountOf, PriorityOf, Name, Text, Level, One, verdict, level_of}
use Rattle.script_print.proofs.Levels.{runs, lasts, lasts_less, made, skip_runs, opens, prefixed, ends_at, operated, opened, closed, grouped}

pub and_parts : (a b : Bool) → (a && b) ≡ true → (a ≡ true) × (b ≡ true)
and_parts true b h = (refl, h)
and_parts false b h = absurd cc

-- ---- bounds

pub le_is : (d n : ℕ) → nat_le d n ≡ true → d ≤ n
le_is d n h = grind (arith, nat_tests)

leaf_depth : (d : ℕ) (y : ALeaf) → leaf_fits d y ≡ true → d ≤ 64
leaf_depth d (l.Int n) h = le_is d 64 (and_parts (is_number n) (nat_le d 64) h).1
leaf_depth d (l.Text n) h = le_is d 64 (and_parts (is_literal n) (nat_le d 64) h).1
leaf_depth d (l.Constant y) h = le_is d 64 h
leaf_depth d (l.Variable n) h = le_is d 64 (and_parts (is_identifier n) (nat_le d 64) h).1
leaf_depth d (l.Field n) h = le_is d 64 (and_parts (is_identifier n) (nat_le d 64) h).1
leaf_depth d (l.EventField n) h = le_is d 64 (and_parts (is_identifier n) (nat_le d 64) h).1
leaf_depth d (l.Table n) h = let e = le_is (d + 1) 64 (and_parts (is_identifier n) (nat_le (d + 1) 64) h).1 in omega arith
leaf_depth d (l.Count n) h = let e = le_is (d + 1) 64 (and_parts (is_identifier n) (nat_le (d + 1) 64) h).1 in omega arith
leaf_depth d (l.Priority n) h = let e = le_is (d + 1) 64 (and_parts (is_identifier n) (nat_le (d + 1) 64) h).1 in omega arith

pub depth_fits : (a : Expression) (d : ℕ) → fits d a ≡ true → d ≤ 64
depth_fits (Leaf y) d h = leaf_depth d y h
depth_fits (Unary op a) d h = depth_fits a d (and_parts (nat_le (level a) (prefix_level op - 1)) (fits d a) h).1
depth_fits (Binary op a b) d h =
    let p = and_parts (nat_le (level a) (left_level op) && fits d a) (nat_le (level b) (level_of op - 1) && fits d b) h in
    depth_fits a d (and_parts (nat_le (level a) (left_level op)) (fits d a) p.0).1
depth_fits (Ask query a) d h =
    let e = depth_fits a (d + 1) (and_parts (query_fits query) (fits (d + 1) a) h).1 in
    omega arith
depth_fits (Group a) d h =
    let e = depth_fits a (d + 1) h in
    omega arith

operator_bound : (op : Operator) → level_of op ≤ 8
operator_bound o.Or = omega arith
operator_bound o.And = omega arith
operator_bound o.Join = omega arith
operator_bound o.Plus = omega arith
operator_bound o.Minus = omega arith
operator_bound o.Times = omega arith
operator_bound o.Divide = omega arith
operator_bound o.Remainder = omega arith
operator_bound _ = omega arith

prefix_bound : (op : Prefix) → prefix_level op ≤ 8
prefix_bound prefixes.Negative = omega arith
prefix_bound prefixes.Not = omega arith

pub level_bound : (a : Expression) → level a ≤ 8
level_bound (Leaf y) = omega arith
level_bound (Unary op a) = prefix_bound op
level_bound (Binary op a b) = operator_bound op
level_bound (Ask query a) = omega arith
level_bound (Group a) = omega arith

-- ---- what is to be shown of an expression

abbrev pub Again : Expression → Type 0
Again a = (n : ℕ) (ps : List Part) (is : List Item) (d : ℕ) (rest : List Lexeme) → level a ≤ n → fits d a ≡ true → lasts (ends_at (level a)) rest ≡ true → verdict (Level n ∷ ps) is d (spell_expression a ++ rest) ≡ verdict (runs n ps) (ATree a ∷ is) d rest

ends_bound : (n : ℕ) → n ≤ 8 → ends_at n ≤ 9
ends_bound n h = grind (arith, nat_tests)

-- a whole expression, with no operator behind it
pub whole : (a : Expression) → Again a → (ps : List Part) (is : List Item) (d : ℕ) (rest : List Lexeme) → fits d a ≡ true → lasts 9 rest ≡ true → verdict (Level 8 ∷ ps) is d (spell_expression a ++ rest) ≡ verdict ps (ATree a ∷ is) d rest
whole a again ps is d rest f h =
    again 8 ps is d rest (level_bound a) f (lasts_less (ends_at (level a)) 9 rest (ends_bound (level a) (level_bound a)) h) ∙ skip_runs 8 9 ps (ATree a ∷ is) d rest (omega arith) h

-- an operand of a level that may stand there
operand : (m n d : ℕ) (a : Expression) (rest : List Lexeme) (ps : List Part) (is : List Item) → m ≤ n → Again a → (nat_le (level a) m && fits d a) ≡ true → (level a ≤ m → lasts (ends_at (level a)) rest ≡ true) → verdict (Level n ∷ ps) is d (spell_expression a ++ rest) ≡ verdict (runs n ps) (ATree a ∷ is) d rest
operand m n d a rest ps is le again f h =
    let p = and_parts (nat_le (level a) m) (fits d a) f in
    let small = le_is (level a) m p.0 in
    again n ps is d rest (omega (arith, small, le)) p.1 (h small)

-- ---- expressions without operators

leaf_again : (y : ALeaf) (ps : List Part) (is : List Item) (d : ℕ) (rest : List Lexeme) → leaf_fits d y ≡ true → verdict (Level 0 ∷ ps) is d (spell_leaf y ++ rest) ≡ verdict ps (ATree (Leaf y) ∷ is) d rest
unfolding verdict
leaf_again (l.Int n) ps is d rest h = refl
leaf_again (l.Text n) ps is d rest h = refl
leaf_again (l.Constant y) ps is d rest h = refl
leaf_again (l.Variable n) ps is d rest h = refl
leaf_again (l.Field n) ps is d rest h = made _ ps (AName n ∷ is) d rest
leaf_again (l.EventField n) ps is d rest h = made _ ps (AName n ∷ is) d rest
leaf_again (l.Table n) ps is d rest h =
    opened (Name ∷ Make TableOf ∷ One x.CloseRound ∷ ps) is d (t.Name n ∷ fixed x.CloseRound ∷ rest) (le_is (d + 1) 64 (and_parts (is_identifier n) (nat_le (d + 1) 64) h).1)
    ∙ closed ps (ATree (Leaf (l.Table n)) ∷ is) d rest
leaf_again (l.Count n) ps is d rest h =
    opened (Name ∷ Make CountOf ∷ One x.CloseRound ∷ ps) is d (t.Name n ∷ fixed x.CloseRound ∷ rest) (le_is (d + 1) 64 (and_parts (is_identifier n) (nat_le (d + 1) 64) h).1)
    ∙ closed ps (ATree (Leaf (l.Count n)) ∷ is) d rest
leaf_again (l.Priority n) ps is d rest h =
    opened (Name ∷ Make PriorityOf ∷ One x.CloseRound ∷ ps) is d (t.Name n ∷ fixed x.CloseRound ∷ rest) (le_is (d + 1) 64 (and_parts (is_identifier n) (nat_le (d + 1) 64) h).1)
    ∙ closed ps (ATree (Leaf (l.Priority n)) ∷ is) d rest

leaf_opens : (y : ALeaf) (n : ℕ) (ps : List Part) (is : List Item) (d : ℕ) (rest : List Lexeme) → verdict (Level n ∷ ps) is d (spell_leaf y ++ rest) ≡ verdict (Level 0 ∷ runs n ps) is d (spell_leaf y ++ rest)
leaf_opens (l.Int i) n ps is d rest = opens n ps is d (t.Int i) rest (λ n other. refl)
leaf_opens (l.Text i) n ps is d rest = opens n ps is d (t.Text i) rest (λ n other. refl)
leaf_opens (l.Constant y) n ps is d rest = opens n ps is d (t.Symbol (s.Constant y)) rest (λ n other. refl)
leaf_opens (l.Variable i) n ps is d rest = opens n ps is d (t.Name i) rest (λ n other. refl)
leaf_opens (l.Field i) n ps is d rest = opens n ps is d (fixed x.Own) (fixed x.Dot ∷ t.Name i ∷ rest) (λ n other. refl)
leaf_opens (l.EventField i) n ps is d rest = opens n ps is d (fixed x.Event) (fixed x.Dot ∷ t.Name i ∷ rest) (λ n other. refl)
leaf_opens (l.Table i) n ps is d rest = opens n ps is d (fixed x.Table) (fixed x.OpenRound ∷ t.Name i ∷ fixed x.CloseRound ∷ rest) (λ n other. refl)
leaf_opens (l.Count i) n ps is d rest = opens n ps is d (fixed x.Count) (fixed x.OpenRound ∷ t.Name i ∷ fixed x.CloseRound ∷ rest) (λ n other. refl)
leaf_opens (l.Priority i) n ps is d rest = opens n ps is d (fixed x.Priority) (fixed x.OpenRound ∷ t.Name i ∷ fixed x.CloseRound ∷ rest) (λ n other. refl)

-- ---- functions

asked : (query : Query) (a : Expression) (ps : List Part) (is : List Item) (d : ℕ) (rest : List Lexeme) → d + 1 ≤ 64 → ((ps : List Part) (is : List Item) (rest : List Lexeme) → lasts 9 rest ≡ true → verdict (Level 8 ∷ ps) is (d + 1) (spell_expression a ++ rest) ≡ verdict ps (ATree a ∷ is) (d + 1) rest) → verdict (Level 0 ∷ ps) is d (before_asked query ++ (spell_expression a ++ (behind_asked query ++ rest))) ≡ verdict ps (ATree (Ask query a) ∷ is) d rest
unfolding verdict
asked (q.Plain f) a ps is d rest le reads =
    opened (Level 8 ∷ Make (Asking f) ∷ One x.CloseRound ∷ ps) is d (spell_expression a ++ fixed x.CloseRound ∷ rest) le
    ∙ reads (Make (Asking f) ∷ One x.CloseRound ∷ ps) is (fixed x.CloseRound ∷ rest) refl
    ∙ closed ps (ATree (Ask (q.Plain f) a) ∷ is) d rest
asked (q.Masked event) a ps is d rest le reads =
    opened (Text ∷ One x.Comma ∷ Level 8 ∷ Make AskingMasked ∷ One x.CloseRound ∷ ps) is d (t.Text event ∷ fixed x.Comma ∷ (spell_expression a ++ fixed x.CloseRound ∷ rest)) le
    ∙ reads (Make AskingMasked ∷ One x.CloseRound ∷ ps) (AText event ∷ is) (fixed x.CloseRound ∷ rest) refl
    ∙ closed ps (ATree (Ask (q.Masked event) a) ∷ is) d rest
asked (q.Attribute name) a ps is d rest le reads =
    opened (Level 8 ∷ One x.Comma ∷ Name ∷ Make AskingAttribute ∷ One x.CloseRound ∷ ps) is d (spell_expression a ++ fixed x.Comma ∷ t.Name name ∷ fixed x.CloseRound ∷ rest) le
    ∙ reads (One x.Comma ∷ Name ∷ Make AskingAttribute ∷ One x.CloseRound ∷ ps) is (fixed x.Comma ∷ t.Name name ∷ fixed x.CloseRound ∷ rest) refl
    ∙ closed ps (ATree (Ask (q.Attribute name) a) ∷ is) d rest
asked (q.Profile table name) a ps is d rest le reads =
    opened (Name ∷ One x.Comma ∷ Level 8 ∷ One x.Comma ∷ Name ∷ Make AskingProfile ∷ One x.CloseRound ∷ ps) is d (t.Name table ∷ fixed x.Comma ∷ (spell_expression a ++ fixed x.Comma ∷ t.Name name ∷ fixed x.CloseRound ∷ rest)) le
    ∙ reads (One x.Comma ∷ Name ∷ Make AskingProfile ∷ One x.CloseRound ∷ ps) (AName table ∷ is) (fixed x.Comma ∷ t.Name name ∷ fixed x.CloseRound ∷ rest) refl
    ∙ closed ps (ATree (Ask (q.Profile table name) a) ∷ is) d rest
asked (q.HasProfile table) a ps is d rest le reads =
    opened (Name ∷ One x.Comma ∷ Level 8 ∷ Make AskingHasProfile ∷ One x.CloseRound ∷ ps) is d (t.Name table ∷ fixed x.Comma ∷ (spell_expression a ++ fixed x.CloseRound ∷ rest)) le
    ∙ reads (Make AskingHasProfile ∷ One x.CloseRound ∷ ps) (AName table ∷ is) (fixed x.CloseRound ∷ rest) refl
    ∙ closed ps (ATree (Ask (q.HasProfile table) a) ∷ is) d rest

asked_opens : (query : Query) (n : ℕ) (ps : List Part) (is : List Item) (d : ℕ) (ts : List Lexeme) → verdict (Level n ∷ ps) is d (before_asked query ++ ts) ≡ verdict (Level 0 ∷ runs n ps) is d (before_asked query ++ ts)
asked_opens (q.Plain f) n ps is d ts = opens n ps is d (t.Symbol (s.Function f)) (fixed x.OpenRound ∷ ts) (λ n other. refl)
asked_opens (q.Masked event) n ps is d ts = opens n ps is d (fixed x.Masked) (fixed x.OpenRound ∷ t.Text event ∷ fixed x.Comma ∷ ts) (λ n other. refl)
asked_opens (q.Attribute name) n ps is d ts = opens n ps is d (fixed x.Attr) (fixed x.OpenRound ∷ ts) (λ n other. refl)
asked_opens (q.Profile table name) n ps is d ts = opens n ps is d (fixed x.Profile) (fixed x.OpenRound ∷ t.Name table ∷ fixed x.Comma ∷ ts) (λ n other. refl)
asked_opens (q.HasProfile table) n ps is d ts = opens n ps is d (fixed x.HasProfile) (fixed x.OpenRound ∷ t.Name table ∷ fixed x.Comma ∷ ts) (λ n other. refl)

-- ---- all expressions

ends_self : (n : ℕ) → n ≤ ends_at n
ends_self n = grind (arith, nat_tests)

ends_below : (m k : ℕ) → m ≤ k - 1 → ends_at m ≤ k
ends_below m k h = grind (arith, nat_tests)

ends_left : (m k : ℕ) → m ≤ chain_level k → ends_at m ≤ k
ends_left m k h = grind (arith, nat_tests)

chain_below : (m : ℕ) → chain_level m ≤ m
chain_below m = grind (arith, nat_tests)

is_le : (m n : ℕ) → m ≤ n → nat_le m n ≡ true
is_le m n h = grind (arith, nat_tests)

pub expression : (a : Expression) → Again a
expression (Leaf y) = λ n ps is d rest le f h. leaf_opens y n ps is d rest ∙ leaf_again y (runs n ps) is d rest f
expression (Unary op a) = λ n ps is d rest le f h.
    let k = prefix_level op in
    let ends = lasts_less k (ends_at k) rest (ends_self k) h in
    prefixed n op a ps is d (spell_expression a ++ rest) rest le ends
    (λ ps is. operand (k - 1) (k - 1) d a rest ps is (omega arith) (expression a) f (λ small. lasts_less (ends_at (level a)) k rest (ends_below (level a) k small) ends))
expression (Binary op a b) = λ n ps is d rest le f h.
    let k = level_of op in
    let left = spell_expression a in
    let right = spell_expression b in
    let p = and_parts (nat_le (level a) (left_level op) && fits d a) (nat_le (level b) (k - 1) && fits d b) f in
    let chain = chain_below k in
    ap (verdict (Level n ∷ ps) is d) (append_assoc left (t.Symbol (s.Operator op) ∷ right) rest)
    ∙ operand (left_level op) n d a (t.Symbol (s.Operator op) ∷ (right ++ rest)) ps is (omega (arith, chain, le)) (expression a) p.0 (λ small. is_le (ends_at (level a)) k (ends_left (level a) k small))
    ∙ operated n op a b ps is d (right ++ rest) rest le h
    (λ ps is. operand (k - 1) (k - 1) d b rest ps is (omega arith) (expression b) p.1 (λ small. lasts_less (ends_at (level b)) (ends_at k) rest (omega (arith, ends_below (level b) k small, ends_self k)) h))
expression (Ask query a) = λ n ps is d rest le f h.
    let p = and_parts (query_fits query) (fits (d + 1) a) f in
    ap (verdict (Level n ∷ ps) is d) (append_assoc (before_asked query) (spell_expression a ++ behind_asked query) rest ∙ ap (λ ts. before_asked query ++ ts) (append_assoc (spell_expression a) (behind_asked query) rest))
    ∙ asked_opens query n ps is d (spell_expression a ++ (behind_asked query ++ rest))
    ∙ asked query a (runs n ps) is d rest (depth_fits a (d + 1) p.1) (λ ps is rest h. whole a (expression a) ps is (d + 1) rest p.1 h)
expression (Group a) = λ n ps is d rest le f h.
    ap (λ ts. verdict (Level n ∷ ps) is d (fixed x.OpenRound ∷ ts)) (append_assoc (spell_expression a) (fixed x.CloseRound ∷ []) rest)
    ∙ grouped n a ps is d (spell_expression a) rest (depth_fits a (d + 1) f) (λ ps is. expression a 8 ps is (d + 1) (fixed x.CloseRound ∷ rest) (level_bound a) f (lasts_less (ends_at (level a)) 9 (fixed x.CloseRound ∷ rest) (ends_bound (level a) (level_bound a)) refl))

-- an expression with something behind it that is no operator
pub again : (a : Expression) (ps : List Part) (is : List Item) (d : ℕ) (rest : List Lexeme) → fits d a ≡ true → lasts 9 rest ≡ true → verdict (Level 8 ∷ ps) is d (spell_expression a ++ rest) ≡ verdict ps (ATree a ∷ is) d rest
again a ps is d rest f h = whole a (expression a) ps is d rest f h
