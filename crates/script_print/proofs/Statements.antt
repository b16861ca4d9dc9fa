-- A statement without blocks, as it is spelled, is read as that statement.
use Rattle.std.proofs.Common.{◌≡◌, ◌+◌, ◌-◌, ℕ, List, [], ◌∷◌, ◌++◌, Option, Some, None, Bool, true, false, ◌&&◌, refl, sym, ap, ◌∙◌, append_assoc}
use Rattle.std.specs.Prelude.{nat_le}
use Rattle.std.specs.List.{list_all}
use Rattle.std.proofs.lemmas.List.{append-nil}
use Rattle.script_tree.specs.declared.symbol.Fixed.TheVariants as x
use Rattle.script_tree.specs.declared.symbol.Symbol.TheVariants as s
use Rattle.script_tree.specs.declared.lexeme.Lexeme.{Lexeme}
use Rattle.script_tree.specs.declared.lexeme.Lexeme.TheVariants as t
use Rattle.script_tree.specs.declared.tree.Leaf.{Leaf as ALeaf}
use Rattle.script_tree.specs.declared.tree.Leaf.TheVariants as l
use Rattle.script_tree.specs.declared.tree.Prefix.{Prefix}
use Rattle.script_tree.specs.declared.tree.Prefix.TheVariants as prefixes
use Rattle.script_tree.specs.declared.tree.Query.{Query}
use Rattle.script_tree.specs.declared.tree.Query.TheVariants as q
use Rattle.script_tree.specs.Words.{is_identifier}
use Rattle.script_tree.specs.Tree as tree
use Rattle.script_tree.specs.Tree.{Bytes, Expression, Leaf, Unary, Binary, Ask, Group, Assigning, OnEntities, OnActivities, SettingTimer, Statement, Statements, add}
use Rattle.script_tree.specs.Spelling.{fixed, before_asked, behind_asked, prefix_token, spell_leaf, spell_expression, spell_assigning, spell_more, spell_arguments, spell_result, spell_on_entities, ended, fits, option_fits, assigning_fits, on_entities_fits}
use Rattle.script_tree.specs.Grammar.{Part, Item, AName, ATree, AStatement, ABlock, Next, Stops, Goes, Make, Adding, Letting, SettingVariable, SettingField, SettingAttribute, Calling, WithArgument, WithPriority, SettingPriority, Name, Level, One, Stmts, NextArgument, Arguments, MoreResult, verdict, verdict_at, goes_on, then_parts, eat, level_after}
use Rattle.script_print.proofs.Levels.{lasts, made, opened, closed}
use Rattle.script_print.proofs.Expressions.{and_parts, le_is, depth_fits, again}

-- ---- lists

pub three : (xs ys es rest : List Lexeme) → ((xs ++ ys) ++ es) ++ rest ≡ xs ++ ((ys ++ es) ++ rest)
three xs ys es rest = ap (λ z. z ++ rest) (append_assoc xs ys es) ∙ append_assoc xs (ys ++ es) rest

pub four : (xs ys zs es rest : List Lexeme) → (((xs ++ ys) ++ zs) ++ es) ++ rest ≡ xs ++ (((ys ++ zs) ++ es) ++ rest)
four xs ys zs es rest = ap (λ z. (z ++ es) ++ rest) (append_assoc xs ys zs) ∙ three xs (ys ++ zs) es rest

abbrev pub semicolon : List Lexeme
semicolon = fixed x.Semicolon ∷ []

-- the last expression of a statement
pub last : (a : Expression) (ps : List Part) (is : List Item) (d : ℕ) (rest : List Lexeme) → fits d a ≡ true → verdict (Level 8 ∷ ps) is d ((spell_expression a ++ semicolon) ++ rest) ≡ verdict ps (ATree a ∷ is) d (fixed x.Semicolon ∷ rest)
last a ps is d rest f = ap (verdict (Level 8 ∷ ps) is d) (append_assoc (spell_expression a) semicolon rest) ∙ again a ps is d (fixed x.Semicolon ∷ rest) f refl

-- an expression with more behind it
pub inner : (a : Expression) (ts : List Lexeme) (ps : List Part) (is : List Item) (d : ℕ) (rest : List Lexeme) → fits d a ≡ true → lasts 9 ((ts ++ semicolon) ++ rest) ≡ true → verdict (Level 8 ∷ ps) is d (((spell_expression a ++ ts) ++ semicolon) ++ rest) ≡ verdict ps (ATree a ∷ is) d ((ts ++ semicolon) ++ rest)
inner a ts ps is d rest f h = ap (verdict (Level 8 ∷ ps) is d) (three (spell_expression a) ts semicolon rest) ∙ again a ps is d ((ts ++ semicolon) ++ rest) f h

-- ---- what is to be shown of a statement

abbrev pub more : List Part → List Part
more ps = Make Adding ∷ Stmts ∷ ps

pub added : (y : Statement) (b : Statements) (ps : List Part) (is : List Item) (d : ℕ) (rest : List Lexeme) → verdict (more ps) (AStatement y ∷ ABlock b ∷ is) d rest ≡ verdict (Stmts ∷ ps) (ABlock (add b y) ∷ is) d rest
added y b ps is d rest = made Adding (Stmts ∷ ps) (AStatement y ∷ ABlock b ∷ is) d rest

abbrev pub Reads : Statement → List Lexeme → ℕ → Type 0
Reads y tokens d = (b : Statements) (ps : List Part) (is : List Item) (rest : List Lexeme) → verdict (Stmts ∷ ps) (ABlock b ∷ is) d (ended tokens ++ rest) ≡ verdict (Stmts ∷ ps) (ABlock (add b y) ∷ is) d rest

pub assigning : (y : Assigning) (d : ℕ) → assigning_fits d y ≡ true → Reads (tree.Assign y) (spell_assigning y) d
unfolding verdict
assigning (tree.New name a) d h = λ b ps is rest.
    let p = and_parts (is_identifier name) (fits d a) h in
    last a (Make Letting ∷ One x.Semicolon ∷ more ps) (AName name ∷ ABlock b ∷ is) d rest p.1 ∙ added (tree.Assign (tree.New name a)) b ps is d rest
assigning (tree.Variable name a) d h = λ b ps is rest.
    let p = and_parts (is_identifier name) (fits d a) h in
    last a (Make SettingVariable ∷ One x.Semicolon ∷ more ps) (AName name ∷ ABlock b ∷ is) d rest p.1 ∙ added (tree.Assign (tree.Variable name a)) b ps is d rest
assigning (tree.Field name a) d h = λ b ps is rest.
    let p = and_parts (is_identifier name) (fits d a) h in
    last a (Make SettingField ∷ One x.Semicolon ∷ more ps) (AName name ∷ ABlock b ∷ is) d rest p.1 ∙ added (tree.Assign (tree.Field name a)) b ps is d rest
assigning (tree.Attribute a name e) d h = λ b ps is rest.
    let p = and_parts (fits (d + 1) a) (is_identifier name && fits d e) h in
    let r = and_parts (is_identifier name) (fits d e) p.1 in
    let behind = fixed x.Comma ∷ t.Name name ∷ fixed x.CloseRound ∷ fixed x.Assign ∷ spell_expression e in
    let parts = One x.Assign ∷ Level 8 ∷ Make SettingAttribute ∷ One x.Semicolon ∷ more ps in
    opened (Level 8 ∷ One x.Comma ∷ Name ∷ One x.CloseRound ∷ parts) (ABlock b ∷ is) d (((spell_expression a ++ behind) ++ semicolon) ++ rest) (depth_fits a (d + 1) p.0)
    ∙ inner a behind (One x.Comma ∷ Name ∷ One x.CloseRound ∷ parts) (ABlock b ∷ is) (d + 1) rest p.0 refl
    ∙ closed parts (AName name ∷ ATree a ∷ ABlock b ∷ is) d (fixed x.Assign ∷ ((spell_expression e ++ semicolon) ++ rest))
    ∙ last e (Make SettingAttribute ∷ One x.Semicolon ∷ more ps) (AName name ∷ ATree a ∷ ABlock b ∷ is) d rest r.1
    ∙ added (tree.Assign (tree.Attribute a name e)) b ps is d rest

-- ---- arguments

abbrev begins : Next → Bool
begins Stops = false
begins (Goes ps is) = true

abbrev starts : List Lexeme → Bool
starts [] = false
starts (y ∷ ys) = begins (level_after 8 y)

starts_more : (xs ys : List Lexeme) → starts xs ≡ true → starts (xs ++ ys) ≡ true
starts_more [] ys h = absurd cc
starts_more (y ∷ xs) ys h = h

starts_leaf : (y : ALeaf) → starts (spell_leaf y) ≡ true
starts_leaf (l.Int n) = refl
starts_leaf (l.Text n) = refl
starts_leaf (l.Constant n) = refl
starts_leaf (l.Variable n) = refl
starts_leaf (l.Field n) = refl
starts_leaf (l.EventField n) = refl
starts_leaf (l.Table n) = refl
starts_leaf (l.Count n) = refl
starts_leaf (l.Priority n) = refl

starts_prefix : (op : Prefix) (ts : List Lexeme) → starts (prefix_token op ∷ ts) ≡ true
starts_prefix prefixes.Negative ts = refl
starts_prefix prefixes.Not ts = refl

starts_asked : (query : Query) → starts (before_asked query) ≡ true
starts_asked (q.Plain f) = refl
starts_asked (q.Masked event) = refl
starts_asked (q.Attribute name) = refl
starts_asked (q.Profile table name) = refl
starts_asked (q.HasProfile table) = refl

starts_expression : (a : Expression) → starts (spell_expression a) ≡ true
starts_expression (Leaf y) = starts_leaf y
starts_expression (Unary op a) = starts_prefix op (spell_expression a)
starts_expression (Binary op a b) = starts_more (spell_expression a) (t.Symbol (s.Operator op) ∷ spell_expression b) (starts_expression a)
starts_expression (Group a) = refl
starts_expression (Ask query a) = starts_more (before_asked query) (spell_expression a ++ behind_asked query) (starts_asked query)

first_argument : (next : Next) (ps : List Part) (is : List Item) (other : Next) → begins next ≡ true → goes_on (then_parts next (Make WithArgument ∷ NextArgument ∷ [])) ps is other ≡ goes_on next (Make WithArgument ∷ NextArgument ∷ ps) is Stops
first_argument Stops ps is other h = absurd cc
first_argument (Goes qs js) ps is other h = ap (λ z. Goes z (js ++ is)) (append_assoc qs (Make WithArgument ∷ NextArgument ∷ []) ps)

arguments_open : (ps : List Part) (is : List Item) (d : ℕ) (ts : List Lexeme) → starts ts ≡ true → verdict (Arguments ∷ ps) is d ts ≡ verdict (Level 8 ∷ Make WithArgument ∷ NextArgument ∷ ps) is d ts
unfolding verdict
arguments_open ps is d [] h = absurd cc
arguments_open ps is d (y ∷ ys) h = ap (λ next. verdict_at next d y ys (λ ps is d. verdict ps is d ys)) (first_argument (level_after 8 y) ps is (eat ps is y) h)

abbrev call : Bytes → Bytes → List Expression → Item
call child method arguments = AStatement (tree.Entity (tree.Call child method arguments None))

more_last : (list : List Expression) (ts : List Lexeme) → lasts 9 (spell_more list ++ fixed x.CloseRound ∷ ts) ≡ true
more_last [] ts = refl
more_last (a ∷ list) ts = refl

next_arguments : (list : List Expression) (child method : Bytes) (read : List Expression) (ps : List Part) (is : List Item) (d : ℕ) (ts : List Lexeme) → list_all (fits d) list ≡ true → verdict (NextArgument ∷ One x.CloseRound ∷ ps) (call child method read ∷ is) d (spell_more list ++ fixed x.CloseRound ∷ ts) ≡ verdict (One x.CloseRound ∷ ps) (call child method (read ++ list) ∷ is) d (fixed x.CloseRound ∷ ts)
unfolding verdict
next_arguments [] child method read ps is d ts h = ap (λ z. verdict (One x.CloseRound ∷ ps) (call child method z ∷ is) d (fixed x.CloseRound ∷ ts)) (sym (append-nil read))
next_arguments (a ∷ list) child method read ps is d ts h =
    let p = and_parts (fits d a) (list_all (fits d) list) h in
    let parts = NextArgument ∷ One x.CloseRound ∷ ps in
    ap (verdict (Level 8 ∷ Make WithArgument ∷ parts) (call child method read ∷ is) d) (append_assoc (spell_expression a) (spell_more list) (fixed x.CloseRound ∷ ts))
    ∙ again a (Make WithArgument ∷ parts) (call child method read ∷ is) d (spell_more list ++ fixed x.CloseRound ∷ ts) p.0 (more_last list ts)
    ∙ made WithArgument parts (ATree a ∷ call child method read ∷ is) d (spell_more list ++ fixed x.CloseRound ∷ ts)
    ∙ next_arguments list child method (read ++ a ∷ []) ps is d ts p.1
    ∙ ap (λ z. verdict (One x.CloseRound ∷ ps) (call child method z ∷ is) d (fixed x.CloseRound ∷ ts)) (append_assoc read (a ∷ []) list)

arguments_again : (list : List Expression) (child method : Bytes) (ps : List Part) (is : List Item) (d : ℕ) (ts : List Lexeme) → list_all (fits d) list ≡ true → verdict (Arguments ∷ One x.CloseRound ∷ ps) (call child method [] ∷ is) d (spell_arguments list ++ fixed x.CloseRound ∷ ts) ≡ verdict (One x.CloseRound ∷ ps) (call child method list ∷ is) d (fixed x.CloseRound ∷ ts)
unfolding verdict
arguments_again [] child method ps is d ts h = refl
arguments_again (a ∷ list) child method ps is d ts h =
    let p = and_parts (fits d a) (list_all (fits d) list) h in
    let parts = NextArgument ∷ One x.CloseRound ∷ ps in
    let behind = spell_more list ++ fixed x.CloseRound ∷ ts in
    ap (verdict (Arguments ∷ One x.CloseRound ∷ ps) (call child method [] ∷ is) d) (append_assoc (spell_expression a) (spell_more list) (fixed x.CloseRound ∷ ts))
    ∙ arguments_open (One x.CloseRound ∷ ps) (call child method [] ∷ is) d (spell_expression a ++ behind) (starts_more (spell_expression a) behind (starts_expression a))
    ∙ again a (Make WithArgument ∷ parts) (call child method [] ∷ is) d behind p.0 (more_last list ts)
    ∙ made WithArgument parts (ATree a ∷ call child method [] ∷ is) d behind
    ∙ next_arguments list child method (a ∷ []) ps is d ts p.1

result_again : (y : Option Bytes) (child method : Bytes) (list : List Expression) (ps : List Part) (is : List Item) (d : ℕ) (rest : List Lexeme) → verdict (MoreResult ∷ One x.Semicolon ∷ ps) (call child method list ∷ is) d ((spell_result y ++ semicolon) ++ rest) ≡ verdict ps (AStatement (tree.Entity (tree.Call child method list y)) ∷ is) d rest
unfolding verdict
result_again None child method list ps is d rest = refl
result_again (Some name) child method list ps is d rest = refl

-- ---- statements on child entities

pub on_entities : (y : OnEntities) (d : ℕ) → on_entities_fits d y ≡ true → Reads (tree.Entity y) (spell_on_entities y) d
unfolding verdict
on_entities (tree.Create relation child None) d h = λ b ps is rest. added (tree.Entity (tree.Create relation child None)) b ps is d rest
on_entities (tree.Create relation child (Some a)) d h = λ b ps is rest.
    let p = and_parts (is_identifier relation) (is_identifier child && fits d a) h in
    let r = and_parts (is_identifier child) (fits d a) p.1 in
    last a (Make WithPriority ∷ One x.Semicolon ∷ more ps) (AStatement (tree.Entity (tree.Create relation child None)) ∷ ABlock b ∷ is) d rest r.1
    ∙ added (tree.Entity (tree.Create relation child (Some a))) b ps is d rest
on_entities (tree.Remove child) d h = λ b ps is rest. added (tree.Entity (tree.Remove child)) b ps is d rest
on_entities (tree.Priority child a) d h = λ b ps is rest.
    let p = and_parts (is_identifier child) (fits d a) h in
    last a (Make SettingPriority ∷ One x.Semicolon ∷ more ps) (AName child ∷ ABlock b ∷ is) d rest p.1 ∙ added (tree.Entity (tree.Priority child a)) b ps is d rest
on_entities (tree.Call child method arguments result) d h = λ b ps is rest.
    let p = and_parts (is_identifier child) (is_identifier method && (nat_le (d + 1) 64 && (list_all (fits (d + 1)) arguments && option_fits is_identifier result))) h in
    let r = and_parts (is_identifier method) (nat_le (d + 1) 64 && (list_all (fits (d + 1)) arguments && option_fits is_identifier result)) p.1 in
    let u = and_parts (nat_le (d + 1) 64) (list_all (fits (d + 1)) arguments && option_fits is_identifier result) r.1 in
    let z = and_parts (list_all (fits (d + 1)) arguments) (option_fits is_identifier result) u.1 in
    let behind = (spell_result result ++ semicolon) ++ rest in
    let parts = MoreResult ∷ One x.Semicolon ∷ more ps in
    opened (Make Calling ∷ Arguments ∷ One x.CloseRound ∷ parts) (AName method ∷ AName child ∷ ABlock b ∷ is) d (((spell_arguments arguments ++ fixed x.CloseRound ∷ spell_result result) ++ semicolon) ++ rest) (le_is (d + 1) 64 u.0)
    ∙ made Calling (Arguments ∷ One x.CloseRound ∷ parts) (AName method ∷ AName child ∷ ABlock b ∷ is) (d + 1) (((spell_arguments arguments ++ fixed x.CloseRound ∷ spell_result result) ++ semicolon) ++ rest)
    ∙ ap (verdict (Arguments ∷ One x.CloseRound ∷ parts) (call child method [] ∷ ABlock b ∷ is) (d + 1)) (three (spell_arguments arguments) (fixed x.CloseRound ∷ spell_result result) semicolon rest)
    ∙ arguments_again arguments child method parts (ABlock b ∷ is) (d + 1) behind z.0
    ∙ closed parts (call child method arguments ∷ ABlock b ∷ is) d behind
    ∙ result_again result child method arguments (more ps) (ABlock b ∷ is) d rest
    ∙ added (tree.Entity (tree.Call child method arguments result)) b ps is d rest
