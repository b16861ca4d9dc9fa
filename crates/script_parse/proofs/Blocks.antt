-- Statements in a block, and what a statement with a block is as a value.
use Rattle.std.proofs.Common.{Some, None, ◌≡◌, ◌<◌, ◌+◌, ℕ, List, [], ◌∷◌, ◌++◌, length, Vec, Global, true, false, refl, sym, ap, ◌∙◌, arith, append_assoc, append-nil}
use Rattle.script_tree.specs.declared.symbol.Fixed.TheVariants as x
use Rattle.script_tree.specs.declared.symbol.Symbol.TheVariants as s
use Rattle.script_tree.specs.declared.lexeme.Lexeme.{Lexeme}
use Rattle.script_tree.specs.declared.lexeme.Lexeme.TheVariants as t
use Rattle.script_parse_terms.specs.declared.refusal.ReadError.TheVariants as errors
use Rattle.script_tree.specs.declared.tree.Over.{Over}
use Rattle.script_tree.specs.declared.tree.Expr.{Expr}
use Rattle.script_tree.specs.declared.tree.Stmt.{Stmt, If, IfElse, While, For}
use Rattle.script_tree.specs.Tree as tree
use Rattle.script_tree.specs.Tree.{Bytes, Statement, Statements, Nothing, Then, add, tree_of, statement_of, statements_of, row_of}
use Rattle.script_tree.specs.Spelling.{fixed, braced, spell_expression, spell_statement, spell_statements, fits, statement_fits, statements_fit, over_fits}
use Rattle.script_tree.specs.Words.{is_identifier}
use Rattle.std.proofs.lemmas.Bool.Decides.{nat_tests}
use Rattle.script_tree.specs.declared.fault.SyntaxBad.TheVariants as bad
use Rattle.script_tree.specs.Grammar.{Part, Item, ATree, AStatement, ABlock, AnOver, AName, Adding, Branching, Otherwise, Looping, Walking, Stmt as AStmt, Stmts, Block, MoreIf, Name, Over as AnOverPart, One, Level, Make, verdict, make}
use Rattle.script_parse_terms.specs.Takes.{kind_at, Begun, Took, Turned, starts}
use Rattle.script_parse.specs.declared.statement.BlockWord.{BlockWord}
use Rattle.script_parse.specs.declared.statement.BlockWord.TheVariants as words
use Rattle.script_parse.specs.Bodies.{TookStmts, TookBlock, FailsBlock, starts_stmt, block_word_at, block_word_in, fixed_of}
use Rattle.script_parse.specs.Simple.{starts_block, opens_block}
use Rattle.script_tree.proofs.Rows.{while_tree, if_tree, for_tree, if_else_tree}
use Rattle.script_parse_terms.proofs.Machine.{made, stmt_begun}
use Rattle.script_parse.proofs.Steps.{skip_else, more_else, more_stmts, skip_stmts, block_opens, block_deep, block_refused}
use Rattle.script_parse_terms.proofs.Operators.{and_split, and_join}

-- one statement more
pub statements_more : (xs : List Stmt) (y : Stmt) → statements_of (xs ++ y ∷ []) ≡ add (statements_of xs) (statement_of y)
statements_more [] y = refl
statements_more (z ∷ xs) y = ap (Then (statement_of z)) (statements_more xs y)

spelled_more : (xs : Statements) (y : Statement) → spell_statements (add xs y) ≡ spell_statements xs ++ spell_statement y
spelled_more Nothing y = append-nil (spell_statement y)
spelled_more (Then z xs) y = ap (λ l. spell_statement z ++ l) (spelled_more xs y) ∙ sym (append_assoc (spell_statement z) (spell_statements xs) (spell_statement y))

pub fits_more : (d : ℕ) (xs : Statements) (y : Statement) → statements_fit d xs ≡ true → statement_fits d y ≡ true → statements_fit d (add xs y) ≡ true
fits_more d Nothing y h k = and_join _ _ k refl
fits_more d (Then z xs) y h k = let p = and_split _ _ h in and_join _ _ p.0 (fits_more d xs y p.1 k)

pub while_took : (d : ℕ) (ts behind mid rest : List Lexeme) (e : Expr) (v : Vec Stmt Global) → Begun AStmt (fixed x.While) d ts behind → Took (Level 8) [] d behind (ATree (tree_of e) ∷ []) (fits d (tree_of e)) mid → TookBlock d mid (statements_of v.items) (statements_fit (d + 1) (statements_of v.items)) rest → Took AStmt [] d ts (AStatement (statement_of (While e v)) ∷ []) (statement_fits d (statement_of (While e v))) rest
while_took d ts behind mid rest e v begun took block = record {
  shorter = omega (arith, begun.shorter, took.shorter, block.shorter);
  spelled =
      let plain : ts ≡ spell_statement (tree.While (tree_of e) (statements_of v.items)) ++ rest = rw (begun.spelled, took.spelled, block.spelled) (simp append_assoc) in
      plain ∙ ap (λ y. spell_statement y ++ rest) (sym (while_tree e v));
  good_one = ap (statement_fits d) (while_tree e v) ∙ and_join _ _ took.good_one (and_join _ _ block.room block.good_one);
  goes_on = λ ps i. begun.goes_on ps i ∙ took.goes_on (Block Looping ∷ ps) i ∙ block.goes_on Looping ps (ATree (tree_of e) ∷ i) ∙ ap (λ y. verdict ps (AStatement y ∷ i) d rest) (sym (while_tree e v));
}

pub for_took : (d : ℕ) (ts behind r1 r2 r3 rest : List Lexeme) (name : Bytes) (over : Over) (v : Vec Stmt Global) → Begun AStmt (fixed x.For) d ts behind → Took Name [] d behind (AName name ∷ []) (is_identifier name) r1 → Turned x.In d d r1 r2 → Took AnOverPart [] d r2 (AnOver over ∷ []) (over_fits over) r3 → TookBlock d r3 (statements_of v.items) (statements_fit (d + 1) (statements_of v.items)) rest → Took AStmt [] d ts (AStatement (statement_of (For name over v)) ∷ []) (statement_fits d (statement_of (For name over v))) rest
for_took d ts behind r1 r2 r3 rest name over v begun named turned overed block = record {
  shorter = omega (arith, begun.shorter, named.shorter, turned.shorter, overed.shorter, block.shorter);
  spelled =
      let plain : ts ≡ spell_statement (tree.For name over (statements_of v.items)) ++ rest = rw (begun.spelled, named.spelled, turned.spelled, overed.spelled, block.spelled) (simp append_assoc) in
      plain ∙ ap (λ y. spell_statement y ++ rest) (sym (for_tree name over v));
  good_one = ap (statement_fits d) (for_tree name over v) ∙ and_join _ _ named.good_one (and_join _ _ overed.good_one (and_join _ _ block.room block.good_one));
  goes_on = λ ps i. begun.goes_on ps i ∙ named.goes_on (One x.In ∷ AnOverPart ∷ Block Walking ∷ ps) i ∙ turned.goes_on (AnOverPart ∷ Block Walking ∷ ps) (AName name ∷ i) ∙ overed.goes_on (Block Walking ∷ ps) (AName name ∷ i)
      ∙ block.goes_on Walking ps (AnOver over ∷ AName name ∷ i) ∙ ap (λ y. verdict ps (AStatement y ∷ i) d rest) (sym (for_tree name over v));
}

pub if_took : (d : ℕ) (ts behind mid rest : List Lexeme) (e : Expr) (v : Vec Stmt Global) → Begun AStmt (fixed x.If) d ts behind → Took (Level 8) [] d behind (ATree (tree_of e) ∷ []) (fits d (tree_of e)) mid → TookBlock d mid (statements_of v.items) (statements_fit (d + 1) (statements_of v.items)) rest → starts x.Else rest ≡ false → Took AStmt [] d ts (AStatement (statement_of (If e v)) ∷ []) (statement_fits d (statement_of (If e v))) rest
if_took d ts behind mid rest e v begun took block ends = record {
  shorter = omega (arith, begun.shorter, took.shorter, block.shorter);
  spelled =
      let plain : ts ≡ spell_statement (tree.If (tree_of e) (statements_of v.items)) ++ rest = rw (begun.spelled, took.spelled, block.spelled) (simp append_assoc) in
      plain ∙ ap (λ y. spell_statement y ++ rest) (sym (if_tree e v));
  good_one = ap (statement_fits d) (if_tree e v) ∙ and_join _ _ took.good_one (and_join _ _ block.room block.good_one);
  goes_on = λ ps i. begun.goes_on ps i ∙ took.goes_on (Block Branching ∷ MoreIf ∷ ps) i ∙ block.goes_on Branching (MoreIf ∷ ps) (ATree (tree_of e) ∷ i)
      ∙ skip_else ps (AStatement (tree.If (tree_of e) (statements_of v.items)) ∷ i) d rest ends ∙ ap (λ y. verdict ps (AStatement y ∷ i) d rest) (sym (if_tree e v));
}

-- up to the block behind `else`
pub to_other : (d : ℕ) (ts behind mid r1 r2 : List Lexeme) (e : Expr) (v : Vec Stmt Global) → Begun AStmt (fixed x.If) d ts behind → Took (Level 8) [] d behind (ATree (tree_of e) ∷ []) (fits d (tree_of e)) mid → TookBlock d mid (statements_of v.items) (statements_fit (d + 1) (statements_of v.items)) r1 → r1 ≡ t.Symbol (s.Fixed x.Else) ∷ r2 → (ps : List Part) (is : List Item) → verdict (AStmt ∷ ps) is d ts ≡ verdict (Block Otherwise ∷ ps) (AStatement (tree.If (tree_of e) (statements_of v.items)) ∷ is) d r2
to_other d ts behind mid r1 r2 e v begun took block is = λ ps i. begun.goes_on ps i ∙ took.goes_on (Block Branching ∷ MoreIf ∷ ps) i ∙ block.goes_on Branching (MoreIf ∷ ps) (ATree (tree_of e) ∷ i)
    ∙ ap (verdict (MoreIf ∷ ps) (AStatement (tree.If (tree_of e) (statements_of v.items)) ∷ i) d) is ∙ more_else ps (AStatement (tree.If (tree_of e) (statements_of v.items)) ∷ i) d r2

pub if_else_took : (d : ℕ) (ts behind mid r1 r2 rest : List Lexeme) (e : Expr) (v w : Vec Stmt Global) → Begun AStmt (fixed x.If) d ts behind → Took (Level 8) [] d behind (ATree (tree_of e) ∷ []) (fits d (tree_of e)) mid → TookBlock d mid (statements_of v.items) (statements_fit (d + 1) (statements_of v.items)) r1 → r1 ≡ t.Symbol (s.Fixed x.Else) ∷ r2 → TookBlock d r2 (statements_of w.items) (statements_fit (d + 1) (statements_of w.items)) rest → Took AStmt [] d ts (AStatement (statement_of (IfElse e v w)) ∷ []) (statement_fits d (statement_of (IfElse e v w))) rest
if_else_took d ts behind mid r1 r2 rest e v w begun took block is other = record {
  shorter = omega (arith, begun.shorter, took.shorter, block.shorter, ap length is, other.shorter);
  spelled =
      let plain : ts ≡ spell_statement (tree.IfElse (tree_of e) (statements_of v.items) (statements_of w.items)) ++ rest =
      let test = spell_expression (tree_of e) in
      let first = braced (spell_statements (statements_of v.items)) in
      let second = braced (spell_statements (statements_of w.items)) in
      begun.spelled
      ∙ ap (λ l. fixed x.If ∷ l) (took.spelled ∙ ap (λ l. test ++ l) (block.spelled ∙ ap (λ l. first ++ l) (is ∙ ap (λ l. fixed x.Else ∷ l) other.spelled) ∙ sym (append_assoc first (fixed x.Else ∷ second) rest)) ∙ sym (append_assoc test (first ++ fixed x.Else ∷ second) rest)) in
      plain ∙ ap (λ y. spell_statement y ++ rest) (sym (if_else_tree e v w));
  good_one = ap (statement_fits d) (if_else_tree e v w) ∙ and_join _ _ took.good_one (and_join _ _ block.room (and_join _ _ block.good_one other.good_one));
  goes_on = λ ps i. to_other d ts behind mid r1 r2 e v begun took block is ps i ∙ other.goes_on Otherwise ps (AStatement (tree.If (tree_of e) (statements_of v.items)) ∷ i) ∙ ap (λ y. verdict ps (AStatement y ∷ i) d rest) (sym (if_else_tree e v w));
}

-- a list of statements, with one more
pub stmts_more : (d : ℕ) (ts mid rest : List Lexeme) (xs ys : List Stmt) (y : Stmt) → TookStmts (Stmts ∷ []) d ts (statements_of xs) (statements_fit d (statements_of xs)) mid → starts_stmt mid ≡ true → Took AStmt [] d mid (AStatement (statement_of y) ∷ []) (statement_fits d (statement_of y)) rest → ys ≡ xs ++ y ∷ [] → TookStmts (Stmts ∷ []) d ts (statements_of ys) (statements_fit d (statements_of ys)) rest
stmts_more d ts mid rest xs ys y some begins took is =
    let e : statements_of ys ≡ add (statements_of xs) (statement_of y) = ap statements_of is ∙ statements_more xs y in
    record {
      shorter = omega (arith, some.shorter, took.shorter);
      spelled = some.spelled ∙ ap (λ l. spell_statements (statements_of xs) ++ l) took.spelled ∙ sym (append_assoc (spell_statements (statements_of xs)) (spell_statement (statement_of y)) rest)
          ∙ ap (λ l. l ++ rest) (sym (spelled_more (statements_of xs) (statement_of y))) ∙ ap (λ l. spell_statements l ++ rest) (sym e);
      good_one = ap (statements_fit d) e ∙ fits_more d (statements_of xs) (statement_of y) some.good_one took.good_one;
      goes_on = λ ps i. some.goes_on ps i ∙ more_stmts ps (ABlock (statements_of xs) ∷ i) d mid begins ∙ took.goes_on (Make Adding ∷ Stmts ∷ ps) (ABlock (statements_of xs) ∷ i)
          ∙ made Adding (Stmts ∷ ps) (AStatement (statement_of y) ∷ ABlock (statements_of xs) ∷ i) d rest ∙ ap (λ l. verdict (Stmts ∷ ps) (ABlock l ∷ i) d rest) (sym e);
    }

pub stmts_end : (d : ℕ) (ts rest : List Lexeme) (xs : List Stmt) → TookStmts (Stmts ∷ []) d ts (statements_of xs) (statements_fit d (statements_of xs)) rest → starts_stmt rest ≡ false → TookStmts [] d ts (statements_of xs) (statements_fit d (statements_of xs)) rest
stmts_end d ts rest xs some ends = record {
  shorter = some.shorter;
  spelled = some.spelled;
  good_one = some.good_one;
  goes_on = λ ps i. some.goes_on ps i ∙ skip_stmts ps (ABlock (statements_of xs) ∷ i) d rest ends;
}

pub stmts_none : (d : ℕ) (ts : List Lexeme) (xs : List Stmt) → xs ≡ [] → TookStmts (Stmts ∷ []) d ts (statements_of xs) (statements_fit d (statements_of xs)) ts
stmts_none d ts xs e = record { shorter = omega arith; spelled = ap (λ l. spell_statements (statements_of l) ++ ts) (sym e); good_one = ap (λ l. statements_fit d (statements_of l)) e; goes_on = λ ps i. ap (λ l. verdict (Stmts ∷ ps) (ABlock (statements_of l) ∷ i) d ts) (sym e) }

-- a block
pub block_took : (d : ℕ) (ts inner mid rest : List Lexeme) (xs : List Stmt) → ts ≡ t.Symbol (s.Fixed x.OpenCurly) ∷ inner → d < 64 → TookStmts [] (d + 1) inner (statements_of xs) (statements_fit (d + 1) (statements_of xs)) mid → Turned x.CloseCurly (d + 1) d mid rest → TookBlock d ts (statements_of xs) (statements_fit (d + 1) (statements_of xs)) rest
block_took d ts inner mid rest xs is lt some turned = record {
  shorter = omega (arith, ap length is, some.shorter, turned.shorter);
  spelled = rw (is, some.spelled, turned.spelled) (simp append_assoc);
  good_one = some.good_one;
  room = grind (arith, nat_tests);
  goes_on = λ m ps i. ap (verdict (Block m ∷ ps) i d) is ∙ block_opens m ps i d inner lt ∙ some.goes_on (Make m ∷ One x.CloseCurly ∷ ps) i ∙ made m (One x.CloseCurly ∷ ps) (ABlock (statements_of xs) ∷ i) (d + 1) mid ∙ turned.goes_on ps (make m (ABlock (statements_of xs) ∷ i));
}

pub block_too_deep : (d : ℕ) (ts inner : List Lexeme) → ts ≡ t.Symbol (s.Fixed x.OpenCurly) ∷ inner → d ≡ 64 → FailsBlock d ts (errors.Misfit (record { left = length ts; kind = bad.Deep }))
block_too_deep d ts inner is at = λ m ps i. block_deep m ps i d ts inner is at

pub no_block : (d : ℕ) (ts : List Lexeme) → starts x.OpenCurly ts ≡ false → FailsBlock d ts (errors.Misfit (record { left = length ts; kind = kind_at ts }))
no_block d ts h = λ m ps i. block_refused m ps i d ts h

-- which statement begins here
word_of : (token : Lexeme) (w : BlockWord) → block_word_at token ≡ Some w → token ≡ t.Symbol (s.Fixed (fixed_of w))
word_of (t.Symbol (s.Fixed x.If)) w h = let e : words.If ≡ w = cc in ap (λ y. t.Symbol (s.Fixed (fixed_of y))) e
word_of (t.Symbol (s.Fixed x.While)) w h = let e : words.While ≡ w = cc in ap (λ y. t.Symbol (s.Fixed (fixed_of y))) e
word_of (t.Symbol (s.Fixed x.For)) w h = let e : words.For ≡ w = cc in ap (λ y. t.Symbol (s.Fixed (fixed_of y))) e
word_of (t.Symbol (s.Fixed _)) w h = cc
word_of (t.Symbol (s.Operator y)) w h = cc
word_of (t.Symbol (s.Constant y)) w h = cc
word_of (t.Symbol (s.Function y)) w h = cc
word_of (t.Symbol (s.Verb y)) w h = cc
word_of (t.Int y) w h = cc
word_of (t.Name y) w h = cc
word_of (t.Text y) w h = cc
word_of t.Bad w h = cc

not_word : (token : Lexeme) → block_word_at token ≡ None → opens_block token ≡ false
not_word (t.Symbol (s.Fixed x.If)) h = cc
not_word (t.Symbol (s.Fixed x.While)) h = cc
not_word (t.Symbol (s.Fixed x.For)) h = cc
not_word (t.Symbol (s.Fixed _)) h = refl
not_word (t.Symbol (s.Operator y)) h = refl
not_word (t.Symbol (s.Constant y)) h = refl
not_word (t.Symbol (s.Function y)) h = refl
not_word (t.Symbol (s.Verb y)) h = refl
not_word (t.Int y) h = refl
not_word (t.Name y) h = refl
not_word (t.Text y) h = refl
not_word t.Bad h = refl

pub no_block_word : (ts : List Lexeme) → block_word_in ts ≡ None → starts_block ts ≡ false
no_block_word [] h = refl
no_block_word (token ∷ ts) h = not_word token h

pub word_begun : (w : BlockWord) (d : ℕ) (ts behind : List Lexeme) (first : Lexeme) → block_word_in ts ≡ Some w → ts ≡ first ∷ behind → Begun AStmt (fixed (fixed_of w)) d ts behind
word_begun words.If d ts behind first h is = stmt_begun (t.Symbol (s.Fixed x.If)) d ts behind (is ∙ ap (λ y. y ∷ behind) (word_of first words.If (ap block_word_in (sym is) ∙ h))) refl refl
word_begun words.While d ts behind first h is = stmt_begun (t.Symbol (s.Fixed x.While)) d ts behind (is ∙ ap (λ y. y ∷ behind) (word_of first words.While (ap block_word_in (sym is) ∙ h))) refl refl
word_begun words.For d ts behind first h is = stmt_begun (t.Symbol (s.Fixed x.For)) d ts behind (is ∙ ap (λ y. y ∷ behind) (word_of first words.For (ap block_word_in (sym is) ∙ h))) refl refl
