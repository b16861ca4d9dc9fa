-- How the grammar's table goes through the levels of operators, on what is spelled.
use Rattle.std.proofs.Common.{◌≡◌, ◌≤◌, ◌<◌, ◌+◌, ◌-◌, ℕ, zero, suc, List, [], ◌∷◌, ◌++◌, Bool, true, false, cond, refl, sym, ap, ◌∙◌, arith, append_assoc}
use Rattle.std.specs.Prelude.{nat_le, ◌==◌}
use Rattle.std.proofs.lemmas.Bool.Decides.{nat_tests}
use Rattle.script_tree.specs.declared.symbol.Operator.{Operator}
use Rattle.script_tree.specs.declared.symbol.Operator.TheVariants as o
use Rattle.script_tree.specs.declared.symbol.Fixed.TheVariants as x
use Rattle.script_tree.specs.declared.symbol.Symbol.TheVariants as s
use Rattle.script_tree.specs.declared.lexeme.Lexeme.{Lexeme}
use Rattle.script_tree.specs.declared.lexeme.Lexeme.TheVariants as t
use Rattle.script_tree.specs.declared.tree.Prefix.{Prefix}
use Rattle.script_tree.specs.declared.tree.Prefix.TheVariants as prefixes
use Rattle.script_tree.specs.Tree.{Expression, Unary, Binary, Group}
use Rattle.script_tree.specs.Spelling.{fixed, prefix_level, prefix_token}
use Rattle.script_tree.specs.Grammar.{Part, Item, ATree, Next, Stops, Goes, Make, Grouping, Prefixing, Operating, Level, More, One, verdict, verdict_at, make, goes_on, then_parts, prefix_after, level_after, more_after, more_symbol, again, level_of, turn, Stays}

-- the operators of the levels up to this one
abbrev pub runs : ℕ → List Part → List Part
runs zero ps = ps
runs (suc n) ps = runs n (More (suc n) ∷ ps)

-- no operator of a level below this one comes
abbrev pub lasts : ℕ → List Lexeme → Bool
lasts e [] = true
lasts e (t.Symbol (s.Operator op) ∷ ts) = nat_le e (level_of op)
lasts e (_ ∷ ts) = true

pub lasts_less : (e f : ℕ) (ts : List Lexeme) → e ≤ f → lasts f ts ≡ true → lasts e ts ≡ true
lasts_less e f [] le h = refl
lasts_less e f (t.Symbol (s.Operator op) ∷ ts) le h = grind (arith, nat_tests)
lasts_less e f (t.Symbol (s.Constant y) ∷ ts) le h = refl
lasts_less e f (t.Symbol (s.Function y) ∷ ts) le h = refl
lasts_less e f (t.Symbol (s.Verb y) ∷ ts) le h = refl
lasts_less e f (t.Symbol (s.Fixed y) ∷ ts) le h = refl
lasts_less e f (t.Int y ∷ ts) le h = refl
lasts_less e f (t.Name y ∷ ts) le h = refl
lasts_less e f (t.Text y ∷ ts) le h = refl
lasts_less e f (t.Bad ∷ ts) le h = refl

-- what has been read is made up
pub made : (m : _) (ps : List Part) (is : List Item) (d : ℕ) (ts : List Lexeme) → verdict (Make m ∷ ps) is d ts ≡ verdict ps (make m is) d ts
unfolding verdict
made m ps is d [] = refl
made m ps is d (token ∷ ts) = refl

-- ---- operators that don't come

other_level : (n e : ℕ) (op : Operator) → n < e → nat_le e (level_of op) ≡ true → more_symbol n (s.Operator op) ≡ Stops
other_level n e op lt h = let f : (level_of op == n) ≡ false = grind (arith, nat_tests) in rw f refl

none_comes : (n e : ℕ) (token : Lexeme) (ts : List Lexeme) → n < e → lasts e (token ∷ ts) ≡ true → more_after n token ≡ Stops
none_comes n e (t.Symbol (s.Operator op)) ts lt h = other_level n e op lt h
none_comes n e (t.Symbol (s.Constant y)) ts lt h = refl
none_comes n e (t.Symbol (s.Function y)) ts lt h = refl
none_comes n e (t.Symbol (s.Verb y)) ts lt h = refl
none_comes n e (t.Symbol (s.Fixed y)) ts lt h = refl
none_comes n e (t.Int y) ts lt h = refl
none_comes n e (t.Name y) ts lt h = refl
none_comes n e (t.Text y) ts lt h = refl
none_comes n e t.Bad ts lt h = refl

pub skip_more : (n e : ℕ) (ps : List Part) (is : List Item) (d : ℕ) (ts : List Lexeme) → n < e → lasts e ts ≡ true → verdict (More n ∷ ps) is d ts ≡ verdict ps is d ts
unfolding verdict
skip_more n e ps is d [] lt h = refl
skip_more n e ps is d (token ∷ ts) lt h = rw (none_comes n e token ts lt h) refl

pub skip_runs : (n e : ℕ) (ps : List Part) (is : List Item) (d : ℕ) (ts : List Lexeme) → n < e → lasts e ts ≡ true → verdict (runs n ps) is d ts ≡ verdict ps is d ts
skip_runs zero e ps is d ts lt h = refl
skip_runs (suc n) e ps is d ts lt h = skip_runs n e (More (suc n) ∷ ps) is d ts (omega arith) h ∙ skip_more (suc n) e ps is d ts lt h

-- ---- the first token of a level

joined : (next : Next) (q : Part) (ps : List Part) (is : List Item) → goes_on (then_parts next (q ∷ [])) ps is Stops ≡ goes_on next (q ∷ ps) is Stops
joined Stops q ps is = refl
joined (Goes qs js) q ps is = ap (λ l. Goes l (js ++ is)) (append_assoc qs (q ∷ []) ps)

pub opens_by : (m : ℕ) (ps : List Part) (is : List Item) (d : ℕ) (token : Lexeme) (ts : List Lexeme) → ((other : Next) → prefix_after (suc m) token other ≡ other) → verdict (Level (suc m) ∷ ps) is d (token ∷ ts) ≡ verdict (Level m ∷ More (suc m) ∷ ps) is d (token ∷ ts)
unfolding verdict
opens_by m ps is d token ts h =
    rw (h (level_after m token))
    (ap (λ next. verdict_at next d token ts (λ ps is d. verdict ps is d ts)) (joined (level_after m token) (More (suc m)) ps is))

-- a level without a prefix begins with the lowest
pub opens : (n : ℕ) (ps : List Part) (is : List Item) (d : ℕ) (token : Lexeme) (ts : List Lexeme) → ((n : ℕ) (other : Next) → prefix_after n token other ≡ other) → verdict (Level n ∷ ps) is d (token ∷ ts) ≡ verdict (Level 0 ∷ runs n ps) is d (token ∷ ts)
opens zero ps is d token ts h = refl
opens (suc n) ps is d token ts h = opens_by n ps is d token ts (h (suc n)) ∙ opens n (More (suc n) ∷ ps) is d token ts h

-- ---- prefixes

same_prefix : (n : ℕ) (op : Prefix) (other : Next) → n ≡ prefix_level op → prefix_after n (prefix_token op) other ≡ Goes (Level (n - 1) ∷ Make (Prefixing op) ∷ []) []
same_prefix n prefixes.Negative other h = rw h refl
same_prefix n prefixes.Not other h = rw h refl

other_prefix : (n : ℕ) (op : Prefix) (other : Next) → (n == prefix_level op) ≡ false → prefix_after n (prefix_token op) other ≡ other
other_prefix n prefixes.Negative other h = rw h refl
other_prefix n prefixes.Not other h = rw h refl

prefix_stays : (op : Prefix) → turn (prefix_token op) ≡ Stays
prefix_stays prefixes.Negative = refl
prefix_stays prefixes.Not = refl

pub prefixed_by : (m : ℕ) (ps : List Part) (is : List Item) (d : ℕ) (op : Prefix) (ts : List Lexeme) → suc m ≡ prefix_level op → verdict (Level (suc m) ∷ ps) is d (prefix_token op ∷ ts) ≡ verdict (Level (suc m - 1) ∷ Make (Prefixing op) ∷ More (suc m) ∷ ps) is d ts
unfolding verdict
prefixed_by m ps is d op ts h = rw (same_prefix (suc m) op (level_after m (prefix_token op)) h, prefix_stays op) refl

same : (n m : ℕ) → (n == m) ≡ true → n ≡ m
same n m e = grind (arith, nat_tests)

lower : (n m : ℕ) → m ≤ suc n → (suc n == m) ≡ false → m ≤ n
lower n m le e = grind (arith, nat_tests)

abbrev pub Operand : ℕ → Expression → ℕ → List Lexeme → List Lexeme → Type 0
Operand m a d ts rest = (ps : List Part) (is : List Item) → verdict (Level m ∷ ps) is d ts ≡ verdict (runs m ps) (ATree a ∷ is) d rest

prefixed_here : (n : ℕ) (op : Prefix) (a : Expression) (ps : List Part) (is : List Item) (d : ℕ) (ts rest : List Lexeme) → suc n ≡ prefix_level op → lasts (prefix_level op) rest ≡ true → Operand (prefix_level op - 1) a d ts rest → verdict (Level (suc n) ∷ ps) is d (prefix_token op ∷ ts) ≡ verdict (runs (suc n) ps) (ATree (Unary op a) ∷ is) d rest
prefixed_here n op a ps is d ts rest e h reads =
    let below : suc n - 1 ≡ n = omega arith in
    let at : prefix_level op - 1 ≡ n = omega (arith, e) in
    let lt : n < prefix_level op = omega (arith, e) in
    prefixed_by n ps is d op ts e
    ∙ ap (λ m. verdict (Level m ∷ Make (Prefixing op) ∷ More (suc n) ∷ ps) is d ts) (below ∙ sym at)
    ∙ reads (Make (Prefixing op) ∷ More (suc n) ∷ ps) is
    ∙ ap (λ m. verdict (runs m (Make (Prefixing op) ∷ More (suc n) ∷ ps)) (ATree a ∷ is) d rest) at
    ∙ skip_runs n (prefix_level op) (Make (Prefixing op) ∷ More (suc n) ∷ ps) (ATree a ∷ is) d rest lt h
    ∙ made (Prefixing op) (More (suc n) ∷ ps) (ATree a ∷ is) d rest
    ∙ sym (skip_runs n (prefix_level op) (More (suc n) ∷ ps) (ATree (Unary op a) ∷ is) d rest lt h)

pub by_test : {A : Type 0} (b : Bool) → (b ≡ true → A) → (b ≡ false → A) → A
by_test true f g = f refl
by_test false f g = g refl

some_level : (op : Prefix) → prefix_level op ≤ 0 → ⊥
some_level prefixes.Negative le = omega arith
some_level prefixes.Not le = omega arith

-- a prefix and its operand are read
pub prefixed : (n : ℕ) (op : Prefix) (a : Expression) (ps : List Part) (is : List Item) (d : ℕ) (ts rest : List Lexeme) → prefix_level op ≤ n → lasts (prefix_level op) rest ≡ true → Operand (prefix_level op - 1) a d ts rest → verdict (Level n ∷ ps) is d (prefix_token op ∷ ts) ≡ verdict (runs n ps) (ATree (Unary op a) ∷ is) d rest
prefixed zero op a ps is d ts rest le h reads = absurd (some_level op le)
prefixed (suc n) op a ps is d ts rest le h reads =
    by_test (suc n == prefix_level op) (λ e. prefixed_here n op a ps is d ts rest (same (suc n) (prefix_level op) e) h reads)
    (λ e. opens_by n ps is d (prefix_token op) ts (λ other. other_prefix (suc n) op other e) ∙ prefixed n op a (More (suc n) ∷ ps) is d ts rest (lower n (prefix_level op) le e) h reads)

-- ---- operators

pub operates : (n : ℕ) (ps : List Part) (is : List Item) (d : ℕ) (op : Operator) (ts : List Lexeme) → level_of op ≡ n → verdict (More n ∷ ps) is d (t.Symbol (s.Operator op) ∷ ts) ≡ verdict (Level (n - 1) ∷ Make (Operating op) ∷ (again n ++ ps)) is d ts
unfolding verdict
operates n ps is d op ts h =
    let e : (level_of op == n) ≡ true = grind (arith, nat_tests, h) in
    rw e refl

-- the level below which no operator may come behind an expression of this level: comparisons make no chains
abbrev pub ends_at : ℕ → ℕ
ends_at n = cond (n == 5) 6 n

go_on : (n : ℕ) (ps : List Part) (is : List Item) (d : ℕ) (ts : List Lexeme) → lasts (ends_at n) ts ≡ true → verdict (again n ++ ps) is d ts ≡ verdict (More n ∷ ps) is d ts
go_on n ps is d ts h =
    by_test (n == 5) (λ e. ap (λ b. verdict (cond b [] (More n ∷ []) ++ ps) is d ts) e ∙ sym (skip_more n 6 ps is d ts (five n e) (ap (λ b. lasts (cond b 6 n) ts) (sym e) ∙ h)))
    (λ e. ap (λ b. verdict (cond b [] (More n ∷ []) ++ ps) is d ts) e)
  where
    five : (n : ℕ) → (n == 5) ≡ true → n < 6
    five n e = grind (arith, nat_tests)

operated_here : (n : ℕ) (op : Operator) (a b : Expression) (ps : List Part) (is : List Item) (d : ℕ) (ts rest : List Lexeme) → suc n ≡ level_of op → lasts (ends_at (level_of op)) rest ≡ true → Operand (level_of op - 1) b d ts rest → verdict (runs (suc n) ps) (ATree a ∷ is) d (t.Symbol (s.Operator op) ∷ ts) ≡ verdict (runs (suc n) ps) (ATree (Binary op a b) ∷ is) d rest
operated_here n op a b ps is d ts rest e h reads =
    let below : suc n - 1 ≡ n = omega arith in
    let at : level_of op - 1 ≡ n = omega (arith, e) in
    let lt : n < level_of op = omega (arith, e) in
    let here : nat_le (level_of op) (level_of op) ≡ true = le_self (level_of op) in
    let ends : lasts (ends_at (suc n)) rest ≡ true = ap (λ m. lasts (ends_at m) rest) e ∙ h in
    let over : n < ends_at (level_of op) = less_ends n (level_of op) lt in
    skip_runs n (level_of op) (More (suc n) ∷ ps) (ATree a ∷ is) d (t.Symbol (s.Operator op) ∷ ts) lt here
    ∙ operates (suc n) ps (ATree a ∷ is) d op ts (sym e)
    ∙ ap (λ m. verdict (Level m ∷ Make (Operating op) ∷ (again (suc n) ++ ps)) (ATree a ∷ is) d ts) (below ∙ sym at)
    ∙ reads (Make (Operating op) ∷ (again (suc n) ++ ps)) (ATree a ∷ is)
    ∙ ap (λ m. verdict (runs m (Make (Operating op) ∷ (again (suc n) ++ ps))) (ATree b ∷ ATree a ∷ is) d rest) at
    ∙ skip_runs n (ends_at (level_of op)) (Make (Operating op) ∷ (again (suc n) ++ ps)) (ATree b ∷ ATree a ∷ is) d rest over h
    ∙ made (Operating op) (again (suc n) ++ ps) (ATree b ∷ ATree a ∷ is) d rest
    ∙ go_on (suc n) ps (ATree (Binary op a b) ∷ is) d rest ends
    ∙ sym (skip_runs n (ends_at (level_of op)) (More (suc n) ∷ ps) (ATree (Binary op a b) ∷ is) d rest over h)
  where
    le_self : (m : ℕ) → nat_le m m ≡ true
    le_self m = grind (arith, nat_tests)

    less_ends : (n m : ℕ) → n < m → n < ends_at m
    less_ends n m lt = grind (arith, nat_tests)

some_operator : (op : Operator) → level_of op ≤ 0 → ⊥
some_operator o.Or le = omega arith
some_operator o.And le = omega arith
some_operator o.Join le = omega arith
some_operator o.Plus le = omega arith
some_operator o.Minus le = omega arith
some_operator o.Times le = omega arith
some_operator o.Divide le = omega arith
some_operator o.Remainder le = omega arith
some_operator _ le = omega arith

-- an operator and its right operand are read
pub operated : (n : ℕ) (op : Operator) (a b : Expression) (ps : List Part) (is : List Item) (d : ℕ) (ts rest : List Lexeme) → level_of op ≤ n → lasts (ends_at (level_of op)) rest ≡ true → Operand (level_of op - 1) b d ts rest → verdict (runs n ps) (ATree a ∷ is) d (t.Symbol (s.Operator op) ∷ ts) ≡ verdict (runs n ps) (ATree (Binary op a b) ∷ is) d rest
operated zero op a b ps is d ts rest le h reads = absurd (some_operator op le)
operated (suc n) op a b ps is d ts rest le h reads =
    by_test (suc n == level_of op) (λ e. operated_here n op a b ps is d ts rest (same (suc n) (level_of op) e) h reads) (λ e. operated n op a b (More (suc n) ∷ ps) is d ts rest (lower n (level_of op) le e) h reads)

-- ---- brackets

pub opened : (ps : List Part) (is : List Item) (d : ℕ) (ts : List Lexeme) → d + 1 ≤ 64 → verdict (One x.OpenRound ∷ ps) is d (fixed x.OpenRound ∷ ts) ≡ verdict ps is (d + 1) ts
unfolding verdict
opened ps is d ts le = let e : nat_le 64 d ≡ false = grind (arith, nat_tests) in rw e refl

pub closed : (ps : List Part) (is : List Item) (d : ℕ) (ts : List Lexeme) → verdict (One x.CloseRound ∷ ps) is (d + 1) (fixed x.CloseRound ∷ ts) ≡ verdict ps is d ts
unfolding verdict
closed ps is d ts = let e : d + 1 - 1 ≡ d = omega arith in ap (λ n. verdict ps is n ts) e

group_opens : (ps : List Part) (is : List Item) (d : ℕ) (ts : List Lexeme) → d + 1 ≤ 64 → verdict (Level 0 ∷ ps) is d (fixed x.OpenRound ∷ ts) ≡ verdict (Level 8 ∷ Make Grouping ∷ One x.CloseRound ∷ ps) is (d + 1) ts
unfolding verdict
group_opens ps is d ts le = let e : nat_le 64 d ≡ false = grind (arith, nat_tests) in rw e refl

-- an expression in brackets
pub grouped : (n : ℕ) (a : Expression) (ps : List Part) (is : List Item) (d : ℕ) (ts rest : List Lexeme) → d + 1 ≤ 64 → Operand 8 a (d + 1) (ts ++ fixed x.CloseRound ∷ rest) (fixed x.CloseRound ∷ rest) → verdict (Level n ∷ ps) is d (fixed x.OpenRound ∷ (ts ++ fixed x.CloseRound ∷ rest)) ≡ verdict (runs n ps) (ATree (Group a) ∷ is) d rest
grouped n a ps is d ts rest le reads =
    opens n ps is d (fixed x.OpenRound) (ts ++ fixed x.CloseRound ∷ rest) (λ n other. refl)
    ∙ group_opens (runs n ps) is d (ts ++ fixed x.CloseRound ∷ rest) le
    ∙ reads (Make Grouping ∷ One x.CloseRound ∷ runs n ps) is
    ∙ skip_runs 8 9 (Make Grouping ∷ One x.CloseRound ∷ runs n ps) (ATree a ∷ is) (d + 1) (fixed x.CloseRound ∷ rest) (omega arith) refl
    ∙ made Grouping (One x.CloseRound ∷ runs n ps) (ATree a ∷ is) (d + 1) (fixed x.CloseRound ∷ rest)
    ∙ closed (runs n ps) (ATree (Group a) ∷ is) d rest
