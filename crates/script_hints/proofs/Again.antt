-- Statements, as they are spelled, are read whatever comes behind them, unless it is `else`.
use Rattle.std.proofs.Common.{◌≡◌, ◌≤◌, ◌+◌, ◌-◌, ℕ, List, [], ◌∷◌, ◌++◌, Bool, true, false, ◌&&◌, refl, ap, ◌∙◌, arith, append_assoc}
use Rattle.std.specs.Prelude.{nat_le, not}
use Rattle.std.proofs.lemmas.Bool.Decides.{nat_tests}
use Rattle.script_tree.specs.declared.symbol.Fixed.TheVariants as x
use Rattle.script_tree.specs.declared.lexeme.Lexeme.{Lexeme}
use Rattle.script_tree.specs.declared.tree.Over.{Over}
use Rattle.script_tree.specs.declared.tree.Over.TheVariants as v
use Rattle.script_tree.specs.Words.{is_identifier}
use Rattle.script_tree.specs.Grammar.{is_fixed}
use Rattle.script_tree.specs.Tree as tree
use Rattle.script_tree.specs.Tree.{Bytes, Expression, Statement, Statements, add}
use Rattle.script_tree.specs.Spelling.{fixed, spell_expression, braced, spell_statement, spell_statements, fits, over_fits, statement_fits, statements_fit}
use Rattle.script_tree.specs.Grammar.{Part, Item, AName, AnOver, ATree, AStatement, ABlock, Make, Making, Branching, Otherwise, Looping, Walking, Level, One, Stmts, Block, MoreIf, make, verdict}
use Rattle.script_print.proofs.Expressions.{and_parts, le_is, again}
use Rattle.script_print.proofs.Statements.{more, added, assigning, on_entities}
use Rattle.script_print.proofs.Activities.{on_activities, timer_again, doing, usage, rollback}
use Rattle.script_print.proofs.Scripts.{joined, joined_all}

-- ---- no statement begins with `else`

abbrev pub no_else : List Lexeme → Bool
no_else [] = true
no_else (y ∷ ys) = not (is_fixed x.Else y)

no_else_first : (y : Statement) (rest : List Lexeme) → no_else (spell_statement y ++ rest) ≡ true
no_else_first (tree.Assign (tree.New name a)) rest = refl
no_else_first (tree.Assign (tree.Variable name a)) rest = refl
no_else_first (tree.Assign (tree.Field name a)) rest = refl
no_else_first (tree.Assign (tree.Attribute a name e)) rest = refl
no_else_first (tree.Entity (tree.Create relation child priority)) rest = refl
no_else_first (tree.Entity (tree.Remove child)) rest = refl
no_else_first (tree.Entity (tree.Priority child a)) rest = refl
no_else_first (tree.Entity (tree.Call child method arguments result)) rest = refl
no_else_first (tree.Activity (tree.Attach who a)) rest = refl
no_else_first (tree.Activity (tree.Detach who a)) rest = refl
no_else_first (tree.Activity (tree.Mask event a)) rest = refl
no_else_first (tree.Activity (tree.Unmask event a)) rest = refl
no_else_first (tree.Activity (tree.Fire event a service fields)) rest = refl
no_else_first (tree.Activity (tree.Null name)) rest = refl
no_else_first (tree.Activity (tree.Bind a e)) rest = refl
no_else_first (tree.Timer y) rest = refl
no_else_first (tree.Do verb a) rest = refl
no_else_first (tree.Usage name a) rest = refl
no_else_first tree.Rollback rest = refl
no_else_first (tree.If a body) rest = refl
no_else_first (tree.IfElse a body other) rest = refl
no_else_first (tree.While a body) rest = refl
no_else_first (tree.For name over body) rest = refl

no_else_all : (ys : Statements) (rest : List Lexeme) → no_else rest ≡ true → no_else (spell_statements ys ++ rest) ≡ true
no_else_all tree.Nothing rest h = h
no_else_all (tree.Then y ys) rest h = ap no_else (append_assoc (spell_statement y) (spell_statements ys) rest) ∙ no_else_first y (spell_statements ys ++ rest)

is_not : (a : Bool) → not a ≡ true → a ≡ false
is_not true h = absurd cc
is_not false h = refl

skip_else : (ps : List Part) (is : List Item) (d : ℕ) (rest : List Lexeme) → no_else rest ≡ true → verdict (MoreIf ∷ ps) is d rest ≡ verdict ps is d rest
unfolding verdict
skip_else ps is d [] h = refl
skip_else ps is d (y ∷ ys) h = rw (is_not (is_fixed x.Else y) h) refl

-- ---- blocks

abbrev AllReads : Statements → ℕ → Type 0
AllReads ys d = (b : Statements) (ps : List Part) (is : List Item) (rest : List Lexeme) → no_else rest ≡ true → verdict (Stmts ∷ ps) (ABlock b ∷ is) d (spell_statements ys ++ rest) ≡ verdict (Stmts ∷ ps) (ABlock (joined b ys) ∷ is) d rest

block_opens : (m : Making) (ps : List Part) (is : List Item) (d : ℕ) (ts : List Lexeme) → d + 1 ≤ 64 → verdict (Block m ∷ ps) is d (fixed x.OpenCurly ∷ ts) ≡ verdict (Stmts ∷ Make m ∷ One x.CloseCurly ∷ ps) (ABlock tree.Nothing ∷ is) (d + 1) ts
unfolding verdict
block_opens m ps is d ts le = let e : nat_le 64 d ≡ false = grind (arith, nat_tests) in rw e refl

block_closes : (m : Making) (ps : List Part) (is : List Item) (d : ℕ) (ts : List Lexeme) → verdict (Stmts ∷ Make m ∷ One x.CloseCurly ∷ ps) is (d + 1) (fixed x.CloseCurly ∷ ts) ≡ verdict ps (make m is) d ts
unfolding verdict
block_closes m ps is d ts = let e : d + 1 - 1 ≡ d = omega arith in ap (λ n. verdict ps (make m is) n ts) e

block : (m : Making) (ys : Statements) (ps : List Part) (is : List Item) (d : ℕ) (rest : List Lexeme) → d + 1 ≤ 64 → AllReads ys (d + 1) → verdict (Block m ∷ ps) is d (braced (spell_statements ys) ++ rest) ≡ verdict ps (make m (ABlock ys ∷ is)) d rest
block m ys ps is d rest le reads =
    let parts = Make m ∷ One x.CloseCurly ∷ ps in
    block_opens m ps is d ((spell_statements ys ++ fixed x.CloseCurly ∷ []) ++ rest) le
    ∙ ap (verdict (Stmts ∷ parts) (ABlock tree.Nothing ∷ is) (d + 1)) (append_assoc (spell_statements ys) (fixed x.CloseCurly ∷ []) rest)
    ∙ reads tree.Nothing parts is (fixed x.CloseCurly ∷ rest) refl
    ∙ block_closes m ps (ABlock (joined tree.Nothing ys) ∷ is) d rest
    ∙ ap (λ z. verdict ps (make m (ABlock z ∷ is)) d rest) (joined_all ys)

-- ---- statements with blocks

abbrev BlockReads : Statement → ℕ → Type 0
BlockReads y d = (b : Statements) (ps : List Part) (is : List Item) (rest : List Lexeme) → no_else rest ≡ true → verdict (Stmts ∷ ps) (ABlock b ∷ is) d (spell_statement y ++ rest) ≡ verdict (Stmts ∷ ps) (ABlock (add b y) ∷ is) d rest

if_reads : (a : Expression) (body : Statements) (d : ℕ) → fits d a ≡ true → d + 1 ≤ 64 → AllReads body (d + 1) → BlockReads (tree.If a body) d
unfolding verdict
if_reads a body d f le reads = λ b ps is rest h.
    ap (verdict (Level 8 ∷ Block Branching ∷ MoreIf ∷ more ps) (ABlock b ∷ is) d) (append_assoc (spell_expression a) (braced (spell_statements body)) rest)
    ∙ again a (Block Branching ∷ MoreIf ∷ more ps) (ABlock b ∷ is) d (braced (spell_statements body) ++ rest) f refl
    ∙ block Branching body (MoreIf ∷ more ps) (ATree a ∷ ABlock b ∷ is) d rest le reads
    ∙ skip_else (more ps) (AStatement (tree.If a body) ∷ ABlock b ∷ is) d rest h
    ∙ added (tree.If a body) b ps is d rest

if_else_reads : (a : Expression) (body other : Statements) (d : ℕ) → fits d a ≡ true → d + 1 ≤ 64 → AllReads body (d + 1) → AllReads other (d + 1) → BlockReads (tree.IfElse a body other) d
unfolding verdict
if_else_reads a body other d f le reads others = λ b ps is rest h.
    let first = braced (spell_statements body) in
    let second = braced (spell_statements other) in
    ap (verdict (Level 8 ∷ Block Branching ∷ MoreIf ∷ more ps) (ABlock b ∷ is) d) (append_assoc (spell_expression a) (first ++ fixed x.Else ∷ second) rest)
    ∙ again a (Block Branching ∷ MoreIf ∷ more ps) (ABlock b ∷ is) d ((first ++ fixed x.Else ∷ second) ++ rest) f refl
    ∙ ap (verdict (Block Branching ∷ MoreIf ∷ more ps) (ATree a ∷ ABlock b ∷ is) d) (append_assoc first (fixed x.Else ∷ second) rest)
    ∙ block Branching body (MoreIf ∷ more ps) (ATree a ∷ ABlock b ∷ is) d (fixed x.Else ∷ (second ++ rest)) le reads
    ∙ block Otherwise other (more ps) (AStatement (tree.If a body) ∷ ABlock b ∷ is) d rest le others
    ∙ added (tree.IfElse a body other) b ps is d rest

while_reads : (a : Expression) (body : Statements) (d : ℕ) → fits d a ≡ true → d + 1 ≤ 64 → AllReads body (d + 1) → BlockReads (tree.While a body) d
unfolding verdict
while_reads a body d f le reads = λ b ps is rest h.
    ap (verdict (Level 8 ∷ Block Looping ∷ more ps) (ABlock b ∷ is) d) (append_assoc (spell_expression a) (braced (spell_statements body)) rest)
    ∙ again a (Block Looping ∷ more ps) (ABlock b ∷ is) d (braced (spell_statements body) ++ rest) f refl
    ∙ block Looping body (more ps) (ATree a ∷ ABlock b ∷ is) d rest le reads
    ∙ added (tree.While a body) b ps is d rest

for_reads : (name : Bytes) (over : Over) (body : Statements) (d : ℕ) → d + 1 ≤ 64 → AllReads body (d + 1) → BlockReads (tree.For name over body) d
unfolding verdict
for_reads name v.Activities body d le reads = λ b ps is rest h. block Walking body (more ps) (AnOver v.Activities ∷ AName name ∷ ABlock b ∷ is) d rest le reads ∙ added (tree.For name v.Activities body) b ps is d rest
for_reads name (v.Children relation) body d le reads = λ b ps is rest h.
    block Walking body (more ps) (AnOver (v.Children relation) ∷ AName name ∷ ABlock b ∷ is) d rest le reads ∙ added (tree.For name (v.Children relation) body) b ps is d rest

-- ---- all statements

mutual
  statement : (y : Statement) (d : ℕ) → statement_fits d y ≡ true → BlockReads y d
  statement (tree.Assign y) d f = λ b ps is rest h. assigning y d f b ps is rest
  statement (tree.Entity y) d f = λ b ps is rest h. on_entities y d f b ps is rest
  statement (tree.Activity y) d f = λ b ps is rest h. on_activities y d f b ps is rest
  statement (tree.Timer y) d f = λ b ps is rest h. timer_again y d f b ps is rest
  statement (tree.Do verb a) d f = λ b ps is rest h. doing verb a d f b ps is rest
  statement (tree.Usage name a) d f = λ b ps is rest h. usage name a d (and_parts (is_identifier name) (fits d a) f).1 b ps is rest
  statement tree.Rollback d f = λ b ps is rest h. rollback d b ps is rest
  statement (tree.If a body) d f =
      let p = and_parts (fits d a) (nat_le (d + 1) 64 && statements_fit (d + 1) body) f in
      let r = and_parts (nat_le (d + 1) 64) (statements_fit (d + 1) body) p.1 in
      if_reads a body d p.0 (le_is (d + 1) 64 r.0) (statements body (d + 1) r.1)
  statement (tree.IfElse a body other) d f =
      let p = and_parts (fits d a) (nat_le (d + 1) 64 && (statements_fit (d + 1) body && statements_fit (d + 1) other)) f in
      let r = and_parts (nat_le (d + 1) 64) (statements_fit (d + 1) body && statements_fit (d + 1) other) p.1 in
      let u = and_parts (statements_fit (d + 1) body) (statements_fit (d + 1) other) r.1 in
      if_else_reads a body other d p.0 (le_is (d + 1) 64 r.0) (statements body (d + 1) u.0) (statements other (d + 1) u.1)
  statement (tree.While a body) d f =
      let p = and_parts (fits d a) (nat_le (d + 1) 64 && statements_fit (d + 1) body) f in
      let r = and_parts (nat_le (d + 1) 64) (statements_fit (d + 1) body) p.1 in
      while_reads a body d p.0 (le_is (d + 1) 64 r.0) (statements body (d + 1) r.1)
  statement (tree.For name over body) d f =
      let p = and_parts (is_identifier name) (over_fits over && (nat_le (d + 1) 64 && statements_fit (d + 1) body)) f in
      let r = and_parts (over_fits over) (nat_le (d + 1) 64 && statements_fit (d + 1) body) p.1 in
      let u = and_parts (nat_le (d + 1) 64) (statements_fit (d + 1) body) r.1 in
      for_reads name over body d (le_is (d + 1) 64 u.0) (statements body (d + 1) u.1)

  pub statements : (ys : Statements) (d : ℕ) → statements_fit d ys ≡ true → AllReads ys d
  statements tree.Nothing d f = λ b ps is rest h. refl
  statements (tree.Then y ys) d f = λ b ps is rest h.
      let p = and_parts (statement_fits d y) (statements_fit d ys) f in
      ap (verdict (Stmts ∷ ps) (ABlock b ∷ is) d) (append_assoc (spell_statement y) (spell_statements ys) rest)
      ∙ statement y d p.0 b ps is (spell_statements ys ++ rest) (no_else_all ys rest h)
      ∙ statements ys d p.1 (add b y) ps is rest h
