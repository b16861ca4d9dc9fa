-- Scripts that the grammar's table reads are spelled as their trees.
use Rattle.std.proofs.Common.{◌≡◌, ◌≤◌, ◌<◌, ◌+◌, ℕ, zero, suc, List, [], ◌∷◌, ◌++◌, length, true, false, cond, ◌&&◌, ◌⊎◌, inl, inr, refl, sym, ap, subst, ◌∙◌, arith, append_assoc, append-nil}
use Rattle.std.specs.Prelude.{nat_le}
use Rattle.std.specs.List.{list_all}
use Rattle.script_tree.specs.declared.symbol.Fixed.{Fixed}
use Rattle.script_tree.specs.declared.symbol.Fixed.TheVariants as x
use Rattle.script_tree.specs.declared.symbol.Symbol.TheVariants as symbols
use Rattle.script_tree.specs.declared.lexeme.Lexeme.{Lexeme}
use Rattle.script_tree.specs.declared.lexeme.Lexeme.TheVariants as t
use Rattle.script_tree.specs.declared.fault.SyntaxBad.TheVariants as bad
use Rattle.script_tree.specs.declared.tree.Over.{Over as AnOverTree}
use Rattle.script_tree.specs.declared.tree.Over.TheVariants as v
use Rattle.script_tree.specs.Words.{is_identifier}
use Rattle.script_tree.specs.Tree as tree
use Rattle.script_tree.specs.Tree.{Expression, Statement, Statements, add}
use Rattle.script_tree.specs.Spelling.{fixed, spell_expression, spell_over, spell_statement, spell_statements, braced, level, fits, over_fits, statement_fits, statements_fit, is_script}
use Rattle.script_tree.specs.Grammar.{Part, Item, AName, AnOver, ATree, AStatement, ABlock, Next, Stops, Goes, One, Name, Over, Level, Stmt, Stmts, Block, MoreIf, Make, Making, Branching, Otherwise, Looping, Walking, Adding, Attaching, Detaching, Masking, Unmasking, SettingPriority, CountingUsage, Fine, Faulty, make, stmt_after, is_fixed, kind_of, verdict, verdict_at, script_of}
use Rattle.script_print.proofs.Levels.{by_test}
use Rattle.script_print.proofs.Expressions.{and_parts}
use Rattle.script_print.proofs.Scripts.{joined, joined_all}
use Rattle.script_print.specs.Proper.{is_proper}
use Rattle.script_print.proofs.Steps.{never, chosen, and_join, behind, unmade, one_read, same_fixed, opening_room, le_true, back, over_read}
use Rattle.script_print.proofs.Operands.{Expressions}
use Rattle.script_print.proofs.Climbs.{expressions}
use Rattle.script_print.proofs.Optional.{Came, Begins, maybe_read}
use Rattle.script_print.proofs.Sentences.{ReadStatement, name_before, new_read, variable_read, field_read, attribute_read, whose_read, texted_read, of_name_read, verb_read, bind_read, remove_read, null_read, rollback_read}
use Rattle.script_print.proofs.Clauses.{create_read, call_read, fire_read, timer_read}

-- statements were read behind others
record ReadStatements (before : Statements) (ps : List Part) (is : List Item) (d : ℕ) (ts : List Lexeme) (s : Statements) : Type 0 where
  statements : Statements
  rest : List Lexeme
  spelled : ts ≡ spell_statements statements ++ rest
  fine : statements_fit d statements ≡ true
  shorter : length rest ≤ length ts
  good : list_all is_proper rest ≡ true
  goes : verdict ps (ABlock (joined before statements) ∷ is) d rest ≡ Fine s

-- so are all statements in so many tokens
abbrev Bodies : ℕ → Type 0
Bodies n = (before : Statements) (ps : List Part) (is : List Item) (d : ℕ) (ts : List Lexeme) (s : Statements) → length ts ≤ n → d ≤ 64 → list_all is_proper ts ≡ true → verdict (Stmts ∷ ps) (ABlock before ∷ is) d ts ≡ Fine s → ReadStatements before ps is d ts s

-- ---- blocks

record ReadBlock (m : Making) (ps : List Part) (is : List Item) (d : ℕ) (ts : List Lexeme) (s : Statements) : Type 0 where
  body : Statements
  rest : List Lexeme
  spelled : ts ≡ braced (spell_statements body) ++ rest
  room : nat_le (d + 1) 64 ≡ true
  fine : statements_fit (d + 1) body ≡ true
  shorter : length rest < length ts
  good : list_all is_proper rest ≡ true
  goes : verdict ps (make m (ABlock body ∷ is)) d rest ≡ Fine s

block_on : (m : Making) (ps : List Part) (is : List Item) (d : ℕ) (ts : List Lexeme) → verdict (Block m ∷ ps) is d (fixed x.OpenCurly ∷ ts) ≡ cond (nat_le 64 d) (Faulty (record { left = length ts + 1; kind = bad.Deep })) (verdict (Stmts ∷ Make m ∷ One x.CloseCurly ∷ ps) (ABlock tree.Nothing ∷ is) (d + 1) ts)
unfolding verdict
block_on m ps is d ts = refl

block_off : (m : Making) (ps : List Part) (is : List Item) (d : ℕ) (token : Lexeme) (ts : List Lexeme) → is_fixed x.OpenCurly token ≡ false → verdict (Block m ∷ ps) is d (token ∷ ts) ≡ Faulty (record { left = length ts + 1; kind = kind_of token })
unfolding verdict
block_off m ps is d token ts e = rw e refl

some_block : (n : ℕ) → Bodies n → (m : Making) (ps : List Part) (is : List Item) (d : ℕ) (ts : List Lexeme) (s : Statements) → length ts ≤ n → list_all is_proper ts ≡ true → verdict (Block m ∷ ps) is d (fixed x.OpenCurly ∷ ts) ≡ Fine s → ReadBlock m ps is d (fixed x.OpenCurly ∷ ts) s
some_block n bodies m ps is d ts s le g h =
    let p = chosen (nat_le 64 d) _ (verdict (Stmts ∷ Make m ∷ One x.CloseCurly ∷ ps) (ABlock tree.Nothing ∷ is) (d + 1) ts) s (sym (block_on m ps is d ts) ∙ h) in
    let room = opening_room d p.0 in
    let all = bodies tree.Nothing (Make m ∷ One x.CloseCurly ∷ ps) is (d + 1) ts s le room g p.1 in
    let goes = ap (λ b. verdict (Make m ∷ One x.CloseCurly ∷ ps) (ABlock b ∷ is) (d + 1) all.rest) (sym (joined_all all.statements)) ∙ all.goes in
    let close = one_read x.CloseCurly ps (make m (ABlock all.statements ∷ is)) (d + 1) all.rest s all.good (unmade m (One x.CloseCurly ∷ ps) (ABlock all.statements ∷ is) (d + 1) all.rest s goes) in
    record {
      body = all.statements;
      rest = close.rest;
      spelled = behind (fixed x.OpenCurly) (all.spelled ∙ ap (λ l. spell_statements all.statements ++ l) close.spelled ∙ sym (append_assoc (spell_statements all.statements) (fixed x.CloseCurly ∷ []) close.rest));
      room = le_true (d + 1) 64 room;
      fine = all.fine;
      shorter = omega (arith, all.shorter, ap length close.spelled);
      good = close.good;
      goes = back ps (make m (ABlock all.statements ∷ is)) d close.rest s close.goes;
    }

block_read : (n : ℕ) → Bodies n → (m : Making) (ps : List Part) (is : List Item) (d : ℕ) (ts : List Lexeme) (s : Statements) → length ts ≤ n → list_all is_proper ts ≡ true → verdict (Block m ∷ ps) is d ts ≡ Fine s → ReadBlock m ps is d ts s
unfolding verdict
block_read n bodies m ps is d [] s le g h = never _ s h
block_read n bodies m ps is d (token ∷ ts) s le g h =
    by_test (is_fixed x.OpenCurly token)
    (λ e. let same = same_fixed x.OpenCurly token e in
    subst (λ l. ReadBlock m ps is d (l ∷ ts) s) (sym same)
    (some_block n bodies m ps is d ts s (omega (arith, le)) (and_parts (is_proper token) (list_all is_proper ts) g).1 (ap (λ l. verdict (Block m ∷ ps) is d (l ∷ ts)) (sym same) ∙ h)))
    (λ e. never _ s (sym (block_off m ps is d token ts e) ∙ h))

-- ---- statements with blocks

begins_else : Begins MoreIf x.Else (Block Otherwise ∷ [])
begins_else = record { first = λ token. refl; may_miss = refl; changes_nothing = λ is. refl; no_bracket = refl }

if_else_read : (n : ℕ) → Bodies n → (a : Expression) (body : Statements) (ps : List Part) (is : List Item) (d : ℕ) (ts mid : List Lexeme) (s : Statements) → length mid ≤ n → length mid ≤ length ts → ts ≡ spell_expression a ++ (braced (spell_statements body) ++ mid) → fits d a ≡ true → nat_le (d + 1) 64 ≡ true → statements_fit (d + 1) body ≡ true → Came x.Else (Block Otherwise ∷ ps) (AStatement (tree.If a body) ∷ is) d mid s → ReadStatement ps is d (fixed x.If ∷ ts) s
if_else_read n bodies a body ps is d ts mid s le less spelled fine_tree room fine_body came =
    let other = block_read n bodies Otherwise ps (AStatement (tree.If a body) ∷ is) d came.rest s (omega (arith, le, ap length came.spelled)) came.good came.goes in
    record {
      statement = tree.IfElse a body other.body;
      rest = other.rest;
      spelled = behind (fixed x.If) (spelled ∙ ap (λ l. spell_expression a ++ (braced (spell_statements body) ++ l)) (came.spelled ∙ behind (fixed x.Else) other.spelled) ∙ if_else_spelled (spell_expression a) (braced (spell_statements body)) (braced (spell_statements other.body)) other.rest);
      fine = and_join (fits d a) (nat_le (d + 1) 64 && (statements_fit (d + 1) body && statements_fit (d + 1) other.body)) fine_tree
          (and_join (nat_le (d + 1) 64) (statements_fit (d + 1) body && statements_fit (d + 1) other.body) room
          (and_join (statements_fit (d + 1) body) (statements_fit (d + 1) other.body) fine_body other.fine));
      shorter = omega (arith, less, ap length came.spelled, other.shorter);
      good = other.good;
      goes = other.goes;
    }
  where
    if_else_spelled : (a b c rest : List Lexeme) → a ++ (b ++ fixed x.Else ∷ (c ++ rest)) ≡ (a ++ (b ++ fixed x.Else ∷ c)) ++ rest
    if_else_spelled a b c rest = simp append_assoc

if_read : (n : ℕ) → Expressions n → Bodies n → (ps : List Part) (is : List Item) (d : ℕ) (ts : List Lexeme) (s : Statements) → length ts ≤ n → d ≤ 64 → list_all is_proper ts ≡ true → verdict (Level 8 ∷ Block Branching ∷ MoreIf ∷ ps) is d ts ≡ Fine s → ReadStatement ps is d (fixed x.If ∷ ts) s
if_read n reads bodies ps is d ts s le deep g h =
    let a = reads 8 (Block Branching ∷ MoreIf ∷ ps) is d ts s le deep g h in
    let body = block_read n bodies Branching (MoreIf ∷ ps) (ATree a.tree ∷ is) d a.rest s (omega (arith, le, a.shorter)) a.good a.goes in
    let fine_tree = (and_parts (nat_le (level a.tree) 8) (fits d a.tree) a.fine).1 in
    let spelled = a.spelled ∙ ap (λ l. spell_expression a.tree ++ l) body.spelled in
    elim (maybe_read MoreIf x.Else (Block Otherwise ∷ []) begins_else ps (AStatement (tree.If a.tree body.body) ∷ is) d body.rest s body.good body.goes) [
      | inl e ↦ record {
        statement = tree.If a.tree body.body;
        rest = body.rest;
        spelled = behind (fixed x.If) (spelled ∙ sym (append_assoc (spell_expression a.tree) (braced (spell_statements body.body)) body.rest));
        fine = and_join (fits d a.tree) (nat_le (d + 1) 64 && statements_fit (d + 1) body.body) fine_tree (and_join (nat_le (d + 1) 64) (statements_fit (d + 1) body.body) body.room body.fine);
        shorter = omega (arith, a.shorter, body.shorter);
        good = body.good;
        goes = e;
      }
      | inr came ↦ if_else_read n bodies a.tree body.body ps is d ts body.rest s (omega (arith, le, a.shorter, body.shorter)) (omega (arith, a.shorter, body.shorter)) spelled fine_tree body.room body.fine came
    ]

while_read : (n : ℕ) → Expressions n → Bodies n → (ps : List Part) (is : List Item) (d : ℕ) (ts : List Lexeme) (s : Statements) → length ts ≤ n → d ≤ 64 → list_all is_proper ts ≡ true → verdict (Level 8 ∷ Block Looping ∷ ps) is d ts ≡ Fine s → ReadStatement ps is d (fixed x.While ∷ ts) s
while_read n reads bodies ps is d ts s le deep g h =
    let a = reads 8 (Block Looping ∷ ps) is d ts s le deep g h in
    let body = block_read n bodies Looping ps (ATree a.tree ∷ is) d a.rest s (omega (arith, le, a.shorter)) a.good a.goes in
    let fine_tree = (and_parts (nat_le (level a.tree) 8) (fits d a.tree) a.fine).1 in
    record {
      statement = tree.While a.tree body.body;
      rest = body.rest;
      spelled = behind (fixed x.While) (a.spelled ∙ ap (λ l. spell_expression a.tree ++ l) body.spelled ∙ sym (append_assoc (spell_expression a.tree) (braced (spell_statements body.body)) body.rest));
      fine = and_join (fits d a.tree) (nat_le (d + 1) 64 && statements_fit (d + 1) body.body) fine_tree (and_join (nat_le (d + 1) 64) (statements_fit (d + 1) body.body) body.room body.fine);
      shorter = omega (arith, a.shorter, body.shorter);
      good = body.good;
      goes = body.goes;
    }

over_longer : (over : AnOverTree) (rest : List Lexeme) → length rest < length (spell_over over ++ rest)
over_longer v.Activities rest = omega arith
over_longer (v.Children n) rest = omega arith

for_read : (n : ℕ) → Bodies n → (ps : List Part) (is : List Item) (d : ℕ) (ts : List Lexeme) (s : Statements) → length ts ≤ n → list_all is_proper ts ≡ true → verdict (Name ∷ One x.In ∷ Over ∷ Block Walking ∷ ps) is d ts ≡ Fine s → ReadStatement ps is d (fixed x.For ∷ ts) s
for_read n bodies ps is d ts s le g h =
    let name = name_before x.In refl (Over ∷ Block Walking ∷ ps) is d ts s g h in
    let over = over_read (Block Walking ∷ ps) (AName name.name ∷ is) d name.rest s name.good name.goes in
    let longer = over_longer over.over over.rest in
    let body = block_read n bodies Walking ps (AnOver over.over ∷ AName name.name ∷ is) d over.rest s (omega (arith, le, name.shorter, ap length over.spelled, longer)) over.good over.goes in
    record {
      statement = tree.For name.name over.over body.body;
      rest = body.rest;
      spelled = behind (fixed x.For) (name.spelled ∙ behind (t.Name name.name) (behind (fixed x.In) (over.spelled ∙ ap (λ l. spell_over over.over ++ l) body.spelled ∙ sym (append_assoc (spell_over over.over) (braced (spell_statements body.body)) body.rest))));
      fine = and_join (is_identifier name.name) (over_fits over.over && (nat_le (d + 1) 64 && statements_fit (d + 1) body.body)) name.fine
          (and_join (over_fits over.over) (nat_le (d + 1) 64 && statements_fit (d + 1) body.body) over.fine
          (and_join (nat_le (d + 1) 64) (statements_fit (d + 1) body.body) body.room body.fine));
      shorter = omega (arith, name.shorter, ap length over.spelled, longer, body.shorter);
      good = body.good;
      goes = body.goes;
    }

-- ---- every statement

worded_read : (n : ℕ) → Expressions n → Bodies n → (y : Fixed) (ps : List Part) (is : List Item) (d : ℕ) (ts : List Lexeme) (s : Statements) → length ts ≤ n → d ≤ 64 → list_all is_proper ts ≡ true → verdict (Stmt ∷ ps) is d (fixed y ∷ ts) ≡ Fine s → ReadStatement ps is d (fixed y ∷ ts) s
unfolding verdict
worded_read n reads bodies x.Let ps is d ts s le deep g h = new_read n reads ps is d ts s le deep g h
worded_read n reads bodies x.Own ps is d ts s le deep g h = field_read n reads ps is d ts s le deep g h
worded_read n reads bodies x.Attr ps is d ts s le deep g h = attribute_read n reads ps is d ts s le deep g h
worded_read n reads bodies x.If ps is d ts s le deep g h = if_read n reads bodies ps is d ts s le deep g h
worded_read n reads bodies x.While ps is d ts s le deep g h = while_read n reads bodies ps is d ts s le deep g h
worded_read n reads bodies x.For ps is d ts s le deep g h = for_read n bodies ps is d ts s le g h
worded_read n reads bodies x.Create ps is d ts s le deep g h = create_read n reads ps is d ts s le deep g h
worded_read n reads bodies x.Remove ps is d ts s le deep g h = remove_read ps is d ts s g h
worded_read n reads bodies x.Priority ps is d ts s le deep g h = of_name_read n reads x.Priority SettingPriority (λ name a. tree.Entity (tree.Priority name a)) ps is d ts s (λ name a. refl) (λ name a. refl) (λ name a. refl) le deep g h
worded_read n reads bodies x.Call ps is d ts s le deep g h = call_read n reads ps is d ts s le deep g h
worded_read n reads bodies x.Attach ps is d ts s le deep g h = whose_read n reads x.Attach x.To refl Attaching (λ who a. tree.Activity (tree.Attach who a)) ps is d ts s (λ who a. refl) (λ who a. refl) (λ who a. refl) le deep g h
worded_read n reads bodies x.Detach ps is d ts s le deep g h = whose_read n reads x.Detach x.From refl Detaching (λ who a. tree.Activity (tree.Detach who a)) ps is d ts s (λ who a. refl) (λ who a. refl) (λ who a. refl) le deep g h
worded_read n reads bodies x.Mask ps is d ts s le deep g h = texted_read n reads x.Mask Masking (λ event a. tree.Activity (tree.Mask event a)) ps is d ts s (λ event a. refl) (λ event a. refl) (λ event a. refl) le deep g h
worded_read n reads bodies x.Unmask ps is d ts s le deep g h = texted_read n reads x.Unmask Unmasking (λ event a. tree.Activity (tree.Unmask event a)) ps is d ts s (λ event a. refl) (λ event a. refl) (λ event a. refl) le deep g h
worded_read n reads bodies x.Fire ps is d ts s le deep g h = fire_read n reads ps is d ts s le deep g h
worded_read n reads bodies x.Null ps is d ts s le deep g h = null_read ps is d ts s g h
worded_read n reads bodies x.Timer ps is d ts s le deep g h = timer_read n reads ps is d ts s le deep g h
worded_read n reads bodies x.Bind ps is d ts s le deep g h = bind_read n reads ps is d ts s le deep g h
worded_read n reads bodies x.Usage ps is d ts s le deep g h = of_name_read n reads x.Usage CountingUsage (λ name a. tree.Usage name a) ps is d ts s (λ name a. refl) (λ name a. refl) (λ name a. refl) le deep g h
worded_read n reads bodies x.Rollback ps is d ts s le deep g h = rollback_read ps is d ts s g h
worded_read n reads bodies _ ps is d ts s le deep g h = never _ s h

statement_read : (n : ℕ) → Expressions n → Bodies n → (ps : List Part) (is : List Item) (d : ℕ) (token : Lexeme) (ts : List Lexeme) (s : Statements) → length ts ≤ n → d ≤ 64 → list_all is_proper (token ∷ ts) ≡ true → verdict (Stmt ∷ ps) is d (token ∷ ts) ≡ Fine s → ReadStatement ps is d (token ∷ ts) s
unfolding verdict
statement_read n reads bodies ps is d (t.Name name) ts s le deep g h = let p = and_parts (is_identifier name) (list_all is_proper ts) g in variable_read n reads name ps is d ts s le deep p.0 p.1 h
statement_read n reads bodies ps is d (t.Symbol (symbols.Verb verb)) ts s le deep g h = verb_read n reads verb ps is d ts s le deep g h
statement_read n reads bodies ps is d (t.Symbol (symbols.Fixed y)) ts s le deep g h = worded_read n reads bodies y ps is d ts s le deep g h
statement_read n reads bodies ps is d (t.Symbol (symbols.Operator y)) ts s le deep g h = never _ s h
statement_read n reads bodies ps is d (t.Symbol (symbols.Constant y)) ts s le deep g h = never _ s h
statement_read n reads bodies ps is d (t.Symbol (symbols.Function y)) ts s le deep g h = never _ s h
statement_read n reads bodies ps is d (t.Int y) ts s le deep g h = never _ s h
statement_read n reads bodies ps is d (t.Text y) ts s le deep g h = never _ s h
statement_read n reads bodies ps is d t.Bad ts s le deep g h = never _ s h

-- ---- statements one behind another

stops_or_goes : (next : Next) → (next ≡ Stops) ⊎ ((qs : List Part) × (js : List Item) × (next ≡ Goes qs js))
stops_or_goes Stops = inl refl
stops_or_goes (Goes qs js) = inr (qs, js, refl)

stmts_off : (ps : List Part) (is : List Item) (d : ℕ) (token : Lexeme) (ts : List Lexeme) → stmt_after token ≡ Stops → verdict (Stmts ∷ ps) is d (token ∷ ts) ≡ verdict ps is d (token ∷ ts)
unfolding verdict
stmts_off ps is d token ts e = rw e refl

stmts_on : (ps : List Part) (is : List Item) (d : ℕ) (token : Lexeme) (ts : List Lexeme) (qs : List Part) (js : List Item) → stmt_after token ≡ Goes qs js → verdict (Stmts ∷ ps) is d (token ∷ ts) ≡ verdict (Stmt ∷ Make Adding ∷ Stmts ∷ ps) is d (token ∷ ts)
unfolding verdict
stmts_on ps is d token ts qs js e = rw e (ap (λ l. verdict_at (Goes l (js ++ is)) d token ts (λ ps is d. verdict ps is d ts)) (append_assoc qs (Make Adding ∷ Stmts ∷ []) ps))

no_statements : (before : Statements) (ps : List Part) (is : List Item) (d : ℕ) (ts : List Lexeme) (s : Statements) → list_all is_proper ts ≡ true → verdict ps (ABlock before ∷ is) d ts ≡ Fine s → ReadStatements before ps is d ts s
no_statements before ps is d ts s g h = record { statements = tree.Nothing; rest = ts; spelled = refl; fine = refl; shorter = omega arith; good = g; goes = h }

statement_more : (n : ℕ) → Bodies n → (before : Statements) (ps : List Part) (is : List Item) (d : ℕ) (ts : List Lexeme) (s : Statements) → length ts ≤ suc n → d ≤ 64 → ReadStatement (Make Adding ∷ Stmts ∷ ps) (ABlock before ∷ is) d ts s → ReadStatements before ps is d ts s
statement_more n bodies before ps is d ts s le deep y =
    let made = unmade Adding (Stmts ∷ ps) (AStatement y.statement ∷ ABlock before ∷ is) d y.rest s y.goes in
    let others = bodies (add before y.statement) ps is d y.rest s (omega (arith, le, y.shorter)) deep y.good made in
    record {
      statements = tree.Then y.statement others.statements;
      rest = others.rest;
      spelled = y.spelled ∙ ap (λ l. spell_statement y.statement ++ l) others.spelled ∙ sym (append_assoc (spell_statement y.statement) (spell_statements others.statements) others.rest);
      fine = and_join (statement_fits d y.statement) (statements_fit d others.statements) y.fine others.fine;
      shorter = omega (arith, y.shorter, others.shorter);
      good = others.good;
      goes = others.goes;
    }

nothing_read : Bodies 0
unfolding verdict
nothing_read before ps is d [] s le deep g h = no_statements before ps is d [] s g h
nothing_read before ps is d (token ∷ ts) s le deep g h = absurd (omega (arith, le))

some_read : (n : ℕ) → Bodies n → Bodies (suc n)
unfolding verdict
some_read n bodies before ps is d [] s le deep g h = no_statements before ps is d [] s g h
some_read n bodies before ps is d (token ∷ ts) s le deep g h =
    elim (stops_or_goes (stmt_after token)) [
      | inl e ↦ no_statements before ps is d (token ∷ ts) s g (sym (stmts_off ps (ABlock before ∷ is) d token ts e) ∙ h)
      | inr found ↦ statement_more n bodies before ps is d (token ∷ ts) s le deep (statement_read n (expressions n) bodies (Make Adding ∷ Stmts ∷ ps) (ABlock before ∷ is) d token ts s (omega (arith, le)) deep g (sym (stmts_on ps (ABlock before ∷ is) d token ts found.0 found.1 found.2) ∙ h))
    ]

bodies : (n : ℕ) → Bodies n
bodies zero = nothing_read
bodies (suc n) = some_read n (bodies n)

-- ---- a whole script

record Spelled (ts : List Lexeme) (s : Statements) : Type 0 where
  spelled : ts ≡ spell_statements s
  fine : is_script s ≡ true

whole : (read s : Statements) (ts rest : List Lexeme) → ts ≡ spell_statements read ++ rest → statements_fit 0 read ≡ true → verdict [] (ABlock (joined tree.Nothing read) ∷ []) 0 rest ≡ Fine s → Spelled ts s
unfolding verdict
whole read s ts [] spelled fine h =
    let both : Fine read ≡ Fine s = ap Fine (sym (joined_all read)) ∙ h in
    let same : read ≡ s = cc in
    record { spelled = spelled ∙ append-nil (spell_statements read) ∙ ap spell_statements same; fine = ap (statements_fit 0) (sym same) ∙ fine }
whole read s ts (token ∷ rest) spelled fine h = never _ s h

-- what the table reads as a script is that script's spelling
pub script_spelled : (ts : List Lexeme) (s : Statements) → list_all is_proper ts ≡ true → script_of ts ≡ Fine s → (ts ≡ spell_statements s) × (is_script s ≡ true)
script_spelled ts s g h =
    let all = bodies (length ts) tree.Nothing [] [] 0 ts s (omega arith) (omega arith) g h in
    let found = whole all.statements s ts all.rest all.spelled all.fine all.goes in
    (found.spelled, found.fine)
