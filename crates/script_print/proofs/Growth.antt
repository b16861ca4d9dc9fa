-- What a token leaves of parts can be completed where they could.
use Rattle.std.proofs.Common.{◌≡◌, ◌-◌, ℕ, zero, suc, List, [], ◌∷◌, ◌++◌, Bool, true, false, cond, ◌&&◌, Option, Some, None, refl, ap, ◌∙◌, append_assoc}
use Rattle.std.specs.Prelude.{not, ◌==◌}
use Rattle.script_tree.specs.declared.symbol.Fixed.{Fixed}
use Rattle.script_tree.specs.declared.symbol.Fixed.TheVariants as x
use Rattle.script_tree.specs.declared.symbol.Constant.{Constant}
use Rattle.script_tree.specs.declared.symbol.Constant.TheVariants as c
use Rattle.script_tree.specs.declared.symbol.Operator.{Operator}
use Rattle.script_tree.specs.declared.symbol.Symbol.TheVariants as symbols
use Rattle.script_tree.specs.declared.lexeme.Lexeme.{Lexeme}
use Rattle.script_tree.specs.declared.lexeme.Lexeme.TheVariants as t
use Rattle.script_tree.specs.declared.tree.Prefix.{Prefix}
use Rattle.script_tree.specs.Spelling.{fixed}
use Rattle.script_tree.specs.Grammar.{Part, Item, Next, Stops, Goes, One, Name, Text, Who, Over, KeepWord, Level, More, Stmt, Stmts, Block, MoreIf, MorePriority, MoreService, MoreFields, NextField, WithField, MoreRepeat, MoreKeep, Arguments, NextArgument, WithArgument, MoreResult, WithPriority, Repeating, Make, Adding, Operating, Prefixing, Turn, Opens, Closes, Stays, after, optional, passed, eat, goes_on, then_parts, again, level_after, prim_after, prim_fixed, prefix_after, prefix_parts, prefix_of, more_after, level_of, who_fixed, over_fixed, keep_fixed, keep_constant, stmt_after, stmt_fixed, turn_of, is_fixed}
use Rattle.script_print.proofs.Expressions.{and_parts}
use Rattle.script_print.proofs.Steps.{and_join}
use Rattle.script_print.proofs.Ends.{Ahead, Ends, Sign, Other, ahead, stands_before, stands, low, low_turn, takes, same, begins, not_true, or_right}

-- parts that can be completed
pub record Ready (ps : List Part) : Type 0 where
  pub stand : stands ps ≡ true
  pub lie : low false ps ≡ true

-- what a token leaves can be completed
abbrev pub Grows : Next → List Part → Type 0
Grows Stops ps = Unit {0}
Grows (Goes qs js) ps = Ready (qs ++ ps)

grows_if : (b : Bool) (qs : List Part) (js : List Item) (ps : List Part) → Ready (qs ++ ps) → Grows (cond b (Goes qs js) Stops) ps
grows_if true qs js ps r = r
grows_if false qs js ps r = tt

grows_then : (next : Next) (qs ps : List Part) → Grows next (qs ++ ps) → Grows (then_parts next qs) ps
grows_then Stops qs ps g = tt
grows_then (Goes rs js) qs ps g = record { stand = ap stands (append_assoc rs qs ps) ∙ g.stand; lie = ap (low false) (append_assoc rs qs ps) ∙ g.lie }

-- where one bracket to come was open, it is now
low_weaker : (ps : List Part) → low true ps ≡ true → low false ps ≡ true
low_weaker [] h = refl
low_weaker (One y ∷ ps) h = turned (turn_of y) (low_weaker ps) h
  where
    turned : (turn : Turn) → (low true ps ≡ true → low false ps ≡ true) → low_turn true turn (λ i. low i ps) ≡ true → low_turn false turn (λ i. low i ps) ≡ true
    turned Opens weaker h = absurd cc
    turned Closes weaker h = h
    turned Stays weaker h = weaker h
low_weaker (Block m ∷ ps) h = absurd cc
low_weaker (Name ∷ ps) h = low_weaker ps h
low_weaker (Text ∷ ps) h = low_weaker ps h
low_weaker (Who ∷ ps) h = low_weaker ps h
low_weaker (Over ∷ ps) h = low_weaker ps h
low_weaker (KeepWord ∷ ps) h = low_weaker ps h
low_weaker (Level n ∷ ps) h = low_weaker ps h
low_weaker (More n ∷ ps) h = low_weaker ps h
low_weaker (Stmt ∷ ps) h = low_weaker ps h
low_weaker (Stmts ∷ ps) h = low_weaker ps h
low_weaker (MoreIf ∷ ps) h = low_weaker ps h
low_weaker (MorePriority ∷ ps) h = low_weaker ps h
low_weaker (MoreService ∷ ps) h = low_weaker ps h
low_weaker (MoreFields ∷ ps) h = low_weaker ps h
low_weaker (NextField ∷ ps) h = low_weaker ps h
low_weaker (MoreRepeat ∷ ps) h = low_weaker ps h
low_weaker (MoreKeep ∷ ps) h = low_weaker ps h
low_weaker (Arguments ∷ ps) h = low_weaker ps h
low_weaker (NextArgument ∷ ps) h = low_weaker ps h
low_weaker (MoreResult ∷ ps) h = low_weaker ps h
low_weaker (Make m ∷ ps) h = low_weaker ps h

one_left : (turn : Turn) (ps : List Part) → low_turn false turn (λ i. low i ps) ≡ true → low false ps ≡ true
one_left Opens ps h = low_weaker ps h
one_left Closes ps h = h
one_left Stays ps h = h

-- ---- operators and operands

-- what stands before something there stands before it as an expression
level_before : (p : Part) (n : ℕ) (a : Ahead) → stands_before p a ≡ true → stands_before (Level n) a ≡ true
level_before p n Ends h = refl
level_before p n (Sign y) h = refl
level_before p n Other h = absurd cc

more_before : (p : Part) (n : ℕ) (a : Ahead) → stands_before p a ≡ true → stands_before (More n) a ≡ true
more_before p n Ends h = refl
more_before p n (Sign y) h = refl
more_before p n Other h = absurd cc

-- parts before which an expression may stand
pub record Closed (ps : List Part) : Type 0 where
  pub before : stands_before (Level 0) (ahead ps) ≡ true
  pub ready : Ready ps

more_closed : (n : ℕ) (ps : List Part) → Closed ps → Closed (More n ∷ ps)
more_closed n ps k = record { before = k.before; ready = record { stand = and_join (stands_before (More n) (ahead ps)) (stands ps) (more_before (Level 0) n (ahead ps) k.before) k.ready.stand; lie = k.ready.lie } }

level_ready : (n : ℕ) (ps : List Part) → Closed ps → Ready (Level n ∷ ps)
level_ready n ps k = record { stand = and_join (stands_before (Level n) (ahead ps)) (stands ps) (level_before (Level 0) n (ahead ps) k.before) k.ready.stand; lie = k.ready.lie }

make_closed : (m : _) (ps : List Part) → Closed ps → Closed (Make m ∷ ps)
make_closed m ps k = record { before = k.before; ready = record { stand = k.ready.stand; lie = k.ready.lie } }

same_ready : (qs ps : List Part) → stands qs ≡ stands ps → low false qs ≡ low false ps → Ready ps → Ready qs
same_ready qs ps e f r = record { stand = e ∙ r.stand; lie = f ∙ r.lie }

prim_fixed_grows : (y : Fixed) (ps : List Part) → Ready ps → Grows (prim_fixed y) ps
prim_fixed_grows x.OpenRound ps r = same_ready _ ps refl refl r
prim_fixed_grows x.Own ps r = same_ready _ ps refl refl r
prim_fixed_grows x.Event ps r = same_ready _ ps refl refl r
prim_fixed_grows x.Masked ps r = same_ready _ ps refl refl r
prim_fixed_grows x.Attr ps r = same_ready _ ps refl refl r
prim_fixed_grows x.Table ps r = same_ready _ ps refl refl r
prim_fixed_grows x.Profile ps r = same_ready _ ps refl refl r
prim_fixed_grows x.HasProfile ps r = same_ready _ ps refl refl r
prim_fixed_grows x.Count ps r = same_ready _ ps refl refl r
prim_fixed_grows x.Priority ps r = same_ready _ ps refl refl r
prim_fixed_grows _ ps r = tt

prim_grows : (token : Lexeme) (ps : List Part) → Ready ps → Grows (prim_after token) ps
prim_grows (t.Int n) ps r = r
prim_grows (t.Text n) ps r = r
prim_grows (t.Name n) ps r = r
prim_grows (t.Symbol (symbols.Constant y)) ps r = r
prim_grows (t.Symbol (symbols.Function f)) ps r = same_ready _ ps refl refl r
prim_grows (t.Symbol (symbols.Fixed y)) ps r = prim_fixed_grows y ps r
prim_grows (t.Symbol (symbols.Operator y)) ps r = tt
prim_grows (t.Symbol (symbols.Verb y)) ps r = tt
prim_grows t.Bad ps r = tt

prefix_grows : (found : Option Prefix) (n : ℕ) (other : Next) (ps : List Part) → Closed ps → Grows other ps → Grows (prefix_parts found n other) ps
prefix_grows None n other ps k g = g
prefix_grows (Some op) n other ps k g = level_ready n (Make (Prefixing op) ∷ ps) (make_closed (Prefixing op) ps k)

prefixed_grows : (n : ℕ) (token : Lexeme) (other : Next) (ps : List Part) → Closed ps → Grows other ps → Grows (prefix_after n token other) ps
prefixed_grows n (t.Symbol y) other ps k g = prefix_grows (prefix_of n y) (n - 1) other ps k g
prefixed_grows n (t.Int y) other ps k g = g
prefixed_grows n (t.Name y) other ps k g = g
prefixed_grows n (t.Text y) other ps k g = g
prefixed_grows n t.Bad other ps k g = g

pub level_grows : (n : ℕ) (token : Lexeme) (ps : List Part) → Closed ps → Grows (level_after n token) ps
level_grows zero token ps k = prim_grows token ps k.ready
level_grows (suc n) token ps k =
    let further = more_closed (suc n) ps k in
    grows_then (prefix_after (suc n) token (level_after n token)) (More (suc n) ∷ []) ps (prefixed_grows (suc n) token (level_after n token) (More (suc n) ∷ ps) further (level_grows n token (More (suc n) ∷ ps) further))

again_closed : (n : ℕ) (ps : List Part) → Closed ps → Closed (again n ++ ps)
again_closed n ps k = by_bool (n == 5)
  where
    by_bool : (b : Bool) → Closed (cond b [] (More n ∷ []) ++ ps)
    by_bool true = k
    by_bool false = more_closed n ps k

operator_grows : (b : Bool) (n : ℕ) (op : Operator) (ps : List Part) → Closed ps → Grows (cond b (Goes (Level (n - 1) ∷ Make (Operating op) ∷ again n) []) Stops) ps
operator_grows true n op ps k = level_ready (n - 1) (Make (Operating op) ∷ (again n ++ ps)) (make_closed (Operating op) (again n ++ ps) (again_closed n ps k))
operator_grows false n op ps k = tt

more_grows : (n : ℕ) (token : Lexeme) (ps : List Part) → Closed ps → Grows (more_after n token) ps
more_grows n (t.Symbol (symbols.Operator op)) ps k = operator_grows (level_of op == n) n op ps k
more_grows n (t.Symbol (symbols.Constant y)) ps k = tt
more_grows n (t.Symbol (symbols.Function y)) ps k = tt
more_grows n (t.Symbol (symbols.Verb y)) ps k = tt
more_grows n (t.Symbol (symbols.Fixed y)) ps k = tt
more_grows n (t.Int y) ps k = tt
more_grows n (t.Name y) ps k = tt
more_grows n (t.Text y) ps k = tt
more_grows n t.Bad ps k = tt

-- ---- single tokens

name_grows : (token : Lexeme) (ps : List Part) → Ready ps → Grows (after Name token) ps
name_grows (t.Name n) ps r = r
name_grows (t.Int n) ps r = tt
name_grows (t.Text n) ps r = tt
name_grows (t.Symbol y) ps r = tt
name_grows t.Bad ps r = tt

text_grows : (token : Lexeme) (ps : List Part) → Ready ps → Grows (after Text token) ps
text_grows (t.Text n) ps r = r
text_grows (t.Int n) ps r = tt
text_grows (t.Name n) ps r = tt
text_grows (t.Symbol y) ps r = tt
text_grows t.Bad ps r = tt

who_fixed_grows : (y : Fixed) (ps : List Part) → Ready ps → Grows (who_fixed y) ps
who_fixed_grows x.Own ps r = r
who_fixed_grows _ ps r = tt

who_grows : (token : Lexeme) (ps : List Part) → Ready ps → Grows (after Who token) ps
who_grows (t.Name n) ps r = r
who_grows (t.Symbol (symbols.Fixed y)) ps r = who_fixed_grows y ps r
who_grows (t.Symbol (symbols.Operator y)) ps r = tt
who_grows (t.Symbol (symbols.Constant y)) ps r = tt
who_grows (t.Symbol (symbols.Function y)) ps r = tt
who_grows (t.Symbol (symbols.Verb y)) ps r = tt
who_grows (t.Int n) ps r = tt
who_grows (t.Text n) ps r = tt
who_grows t.Bad ps r = tt

over_fixed_grows : (y : Fixed) (ps : List Part) → Ready ps → Grows (over_fixed y) ps
over_fixed_grows x.Activities ps r = r
over_fixed_grows _ ps r = tt

over_grows : (token : Lexeme) (ps : List Part) → Ready ps → Grows (after Over token) ps
over_grows (t.Name n) ps r = r
over_grows (t.Symbol (symbols.Fixed y)) ps r = over_fixed_grows y ps r
over_grows (t.Symbol (symbols.Operator y)) ps r = tt
over_grows (t.Symbol (symbols.Constant y)) ps r = tt
over_grows (t.Symbol (symbols.Function y)) ps r = tt
over_grows (t.Symbol (symbols.Verb y)) ps r = tt
over_grows (t.Int n) ps r = tt
over_grows (t.Text n) ps r = tt
over_grows t.Bad ps r = tt

keep_fixed_grows : (y : Fixed) (ps : List Part) → Ready ps → Grows (keep_fixed y) ps
keep_fixed_grows x.All ps r = same_ready _ ps refl refl r
keep_fixed_grows x.Last ps r = same_ready _ ps refl refl r
keep_fixed_grows _ ps r = tt

keep_constant_grows : (y : Constant) (ps : List Part) → Ready ps → Grows (keep_constant y) ps
keep_constant_grows c.Nothing ps r = same_ready _ ps refl refl r
keep_constant_grows _ ps r = tt

keep_grows : (token : Lexeme) (ps : List Part) → Ready ps → Grows (after KeepWord token) ps
keep_grows (t.Symbol (symbols.Fixed y)) ps r = keep_fixed_grows y ps r
keep_grows (t.Symbol (symbols.Constant y)) ps r = keep_constant_grows y ps r
keep_grows (t.Symbol (symbols.Operator y)) ps r = tt
keep_grows (t.Symbol (symbols.Function y)) ps r = tt
keep_grows (t.Symbol (symbols.Verb y)) ps r = tt
keep_grows (t.Int n) ps r = tt
keep_grows (t.Name n) ps r = tt
keep_grows (t.Text n) ps r = tt
keep_grows t.Bad ps r = tt

-- ---- statements

else_before : (a : Ahead) → stands_before Stmts a ≡ true → stands_before MoreIf a ≡ true
else_before Ends h = refl
else_before (Sign y) h = ap not (or_right (begins (stmt_fixed y)) (same y x.Else) (not_true (takes Stmts y) h))
else_before Other h = absurd cc

abbrev behind : List Part → List Part
behind ps = Make Adding ∷ Stmts ∷ ps

stmt_fixed_grows : (y : Fixed) (ps : List Part) → stands_before Stmts (ahead ps) ≡ true → Ready (behind ps) → Grows (stmt_fixed y) (behind ps)
stmt_fixed_grows x.Let ps h r = same_ready _ (behind ps) refl refl r
stmt_fixed_grows x.Own ps h r = same_ready _ (behind ps) refl refl r
stmt_fixed_grows x.Attr ps h r = same_ready _ (behind ps) refl refl r
stmt_fixed_grows x.If ps h r = record { stand = and_join (stands_before MoreIf (ahead ps)) (stands (behind ps)) (else_before (ahead ps) h) r.stand; lie = r.lie }
stmt_fixed_grows x.While ps h r = same_ready _ (behind ps) refl refl r
stmt_fixed_grows x.For ps h r = same_ready _ (behind ps) refl refl r
stmt_fixed_grows x.Create ps h r = same_ready _ (behind ps) refl refl r
stmt_fixed_grows x.Remove ps h r = same_ready _ (behind ps) refl refl r
stmt_fixed_grows x.Priority ps h r = same_ready _ (behind ps) refl refl r
stmt_fixed_grows x.Attach ps h r = same_ready _ (behind ps) refl refl r
stmt_fixed_grows x.Detach ps h r = same_ready _ (behind ps) refl refl r
stmt_fixed_grows x.Mask ps h r = same_ready _ (behind ps) refl refl r
stmt_fixed_grows x.Unmask ps h r = same_ready _ (behind ps) refl refl r
stmt_fixed_grows x.Fire ps h r = same_ready _ (behind ps) refl refl r
stmt_fixed_grows x.Null ps h r = same_ready _ (behind ps) refl refl r
stmt_fixed_grows x.Timer ps h r = same_ready _ (behind ps) refl refl r
stmt_fixed_grows x.Bind ps h r = same_ready _ (behind ps) refl refl r
stmt_fixed_grows x.Usage ps h r = same_ready _ (behind ps) refl refl r
stmt_fixed_grows x.Call ps h r = same_ready _ (behind ps) refl refl r
stmt_fixed_grows x.Rollback ps h r = same_ready _ (behind ps) refl refl r
stmt_fixed_grows _ ps h r = tt

stmt_grows : (token : Lexeme) (ps : List Part) → stands_before Stmts (ahead ps) ≡ true → Ready (behind ps) → Grows (stmt_after token) (behind ps)
stmt_grows (t.Name n) ps h r = same_ready _ (behind ps) refl refl r
stmt_grows (t.Symbol (symbols.Verb verb)) ps h r = same_ready _ (behind ps) refl refl r
stmt_grows (t.Symbol (symbols.Fixed y)) ps h r = stmt_fixed_grows y ps h r
stmt_grows (t.Symbol (symbols.Operator y)) ps h r = tt
stmt_grows (t.Symbol (symbols.Constant y)) ps h r = tt
stmt_grows (t.Symbol (symbols.Function y)) ps h r = tt
stmt_grows (t.Int n) ps h r = tt
stmt_grows (t.Text n) ps h r = tt
stmt_grows t.Bad ps h r = tt

-- ---- every part

split : (p : Part) (ps : List Part) → (stands_before p (ahead ps) && stands ps) ≡ true → (stands_before p (ahead ps) ≡ true) × (stands ps ≡ true)
split p ps h = and_parts (stands_before p (ahead ps)) (stands ps) h

closed_by : (p : Part) (ps : List Part) → stands_before p (ahead ps) ≡ true → stands ps ≡ true → low false ps ≡ true → Closed ps
closed_by p ps h st lo = record { before = level_before p 0 (ahead ps) h; ready = record { stand = st; lie = lo } }

comma_before : (a : Ahead) → stands_before Arguments a ≡ true → stands_before NextArgument a ≡ true
comma_before Ends h = refl
comma_before (Sign y) h = ap not (or_right (begins (level_after 8 (fixed y))) (same y x.Comma) (not_true (takes Arguments y) h))
comma_before Other h = absurd cc

next_argument : (ps : List Part) → stands_before NextArgument (ahead ps) ≡ true → stands ps ≡ true → low false ps ≡ true → Closed (Make WithArgument ∷ NextArgument ∷ ps)
next_argument ps h st lo = record { before = level_before NextArgument 0 (ahead ps) h; ready = record { stand = and_join (stands_before NextArgument (ahead ps)) (stands ps) h st; lie = lo } }

next_field : (ps : List Part) → stands_before NextField (ahead ps) ≡ true → stands ps ≡ true → low false ps ≡ true → Ready (Name ∷ One x.Colon ∷ Level 8 ∷ Make WithField ∷ NextField ∷ ps)
next_field ps h st lo =
    let further : Closed (Make WithField ∷ NextField ∷ ps) = record { before = level_before NextField 0 (ahead ps) h; ready = record { stand = and_join (stands_before NextField (ahead ps)) (stands ps) h st; lie = lo } } in
    let r = level_ready 8 (Make WithField ∷ NextField ∷ ps) further in
    record { stand = r.stand; lie = r.lie }

grows : (p : Part) (token : Lexeme) (ps : List Part) → Ready (p ∷ ps) → Grows (after p token) ps
grows (One y) token ps r = grows_if (is_fixed y token) [] [] ps (record { stand = r.stand; lie = one_left (turn_of y) ps r.lie })
grows Name token ps r = name_grows token ps (record { stand = r.stand; lie = r.lie })
grows Text token ps r = text_grows token ps (record { stand = r.stand; lie = r.lie })
grows Who token ps r = who_grows token ps (record { stand = r.stand; lie = r.lie })
grows Over token ps r = over_grows token ps (record { stand = r.stand; lie = r.lie })
grows KeepWord token ps r = keep_grows token ps (record { stand = r.stand; lie = r.lie })
grows (Level n) token ps r = let h = split (Level n) ps r.stand in level_grows n token ps (closed_by (Level n) ps h.0 h.1 r.lie)
grows (More n) token ps r = let h = split (More n) ps r.stand in more_grows n token ps (closed_by (More n) ps h.0 h.1 r.lie)
grows Stmt token ps r = let h : false ≡ true = r.stand in absurd cc
grows Stmts token ps r = let h = split Stmts ps r.stand in grows_then (stmt_after token) (Make Adding ∷ Stmts ∷ []) ps (stmt_grows token ps h.0 (record { stand = r.stand; lie = r.lie }))
grows (Block m) token ps r = grows_if (is_fixed x.OpenCurly token) (Stmts ∷ Make m ∷ One x.CloseCurly ∷ []) _ ps (record { stand = r.stand; lie = r.lie })
grows MoreIf token ps r = let h = split MoreIf ps r.stand in grows_if (is_fixed x.Else token) _ [] ps (record { stand = h.1; lie = r.lie })
grows MorePriority token ps r =
    let h = split MorePriority ps r.stand in
    let k = closed_by MorePriority ps h.0 h.1 r.lie in
    let level = level_ready 8 (Make WithPriority ∷ ps) (make_closed WithPriority ps k) in
    grows_if (is_fixed x.Priority token) _ [] ps level
grows MoreService token ps r = let h = split MoreService ps r.stand in grows_if (is_fixed x.For token) _ [] ps (record { stand = h.1; lie = r.lie })
grows MoreFields token ps r = let h = split MoreFields ps r.stand in grows_if (is_fixed x.OpenCurly token) _ [] ps (record { stand = h.1; lie = r.lie })
grows NextField token ps r = let h = split NextField ps r.stand in grows_if (is_fixed x.Comma token) _ [] ps (next_field ps h.0 h.1 r.lie)
grows MoreRepeat token ps r =
    let h = split MoreRepeat ps r.stand in
    let k = closed_by MoreRepeat ps h.0 h.1 r.lie in
    let level = level_ready 8 (Make Repeating ∷ ps) (make_closed Repeating ps k) in
    grows_if (is_fixed x.Every token) _ [] ps (record { stand = level.stand; lie = level.lie })
grows MoreKeep token ps r = let h = split MoreKeep ps r.stand in grows_if (is_fixed x.Keep token) _ [] ps (record { stand = h.1; lie = r.lie })
grows Arguments token ps r =
    let h = split Arguments ps r.stand in
    grows_then (level_after 8 token) (Make WithArgument ∷ NextArgument ∷ []) ps (level_grows 8 token (Make WithArgument ∷ NextArgument ∷ ps) (next_argument ps (comma_before (ahead ps) h.0) h.1 r.lie))
grows NextArgument token ps r =
    let h = split NextArgument ps r.stand in
    grows_if (is_fixed x.Comma token) _ [] ps (level_ready 8 (Make WithArgument ∷ NextArgument ∷ ps) (next_argument ps h.0 h.1 r.lie))
grows MoreResult token ps r = let h = split MoreResult ps r.stand in grows_if (is_fixed x.As token) _ [] ps (record { stand = h.1; lie = r.lie })
grows (Make m) token ps r = tt

-- what an optional part leaves where it is passed over
ready_behind : (p : Part) (ps : List Part) → optional p ≡ true → Ready (p ∷ ps) → Ready ps
ready_behind (More n) ps opt r = record { stand = (split (More n) ps r.stand).1; lie = r.lie }
ready_behind Stmts ps opt r = record { stand = (split Stmts ps r.stand).1; lie = r.lie }
ready_behind MoreIf ps opt r = record { stand = (split MoreIf ps r.stand).1; lie = r.lie }
ready_behind MorePriority ps opt r = record { stand = (split MorePriority ps r.stand).1; lie = r.lie }
ready_behind MoreService ps opt r = record { stand = (split MoreService ps r.stand).1; lie = r.lie }
ready_behind MoreFields ps opt r = record { stand = (split MoreFields ps r.stand).1; lie = r.lie }
ready_behind NextField ps opt r = record { stand = (split NextField ps r.stand).1; lie = r.lie }
ready_behind MoreRepeat ps opt r = record { stand = (split MoreRepeat ps r.stand).1; lie = r.lie }
ready_behind MoreKeep ps opt r = record { stand = (split MoreKeep ps r.stand).1; lie = r.lie }
ready_behind Arguments ps opt r = record { stand = (split Arguments ps r.stand).1; lie = r.lie }
ready_behind NextArgument ps opt r = record { stand = (split NextArgument ps r.stand).1; lie = r.lie }
ready_behind MoreResult ps opt r = record { stand = (split MoreResult ps r.stand).1; lie = r.lie }
ready_behind (Make m) ps opt r = record { stand = r.stand; lie = r.lie }
ready_behind (One y) ps opt r = absurd cc
ready_behind Name ps opt r = absurd cc
ready_behind Text ps opt r = absurd cc
ready_behind Who ps opt r = absurd cc
ready_behind Over ps opt r = absurd cc
ready_behind KeepWord ps opt r = absurd cc
ready_behind (Level n) ps opt r = absurd cc
ready_behind Stmt ps opt r = absurd cc
ready_behind (Block m) ps opt r = absurd cc

-- the parts that a token leaves
abbrev pub Leaves : Next → Type 0
Leaves Stops = Unit {0}
Leaves (Goes ps is) = Ready ps

went_on : (next : Next) (ps : List Part) (is : List Item) (other : Next) → Grows next ps → Leaves other → Leaves (goes_on next ps is other)
went_on Stops ps is other g k = k
went_on (Goes qs js) ps is other g k = g

maybe : (b : Bool) (next : Next) → (b ≡ true → Leaves next) → Leaves (cond b next Stops)
maybe true next f = f refl
maybe false next f = tt

pub eats : (ps : List Part) (is : List Item) (token : Lexeme) → Ready ps → Leaves (eat ps is token)
eats [] is token r = tt
eats (p ∷ ps) is token r = went_on (after p token) ps is (cond (optional p) (eat ps (passed p is) token) Stops) (grows p token ps r) (maybe (optional p) (eat ps (passed p is) token) (λ opt. eats ps (passed p is) token (ready_behind p ps opt r)))
