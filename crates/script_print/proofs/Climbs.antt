-- Expressions of every level, with the operators between them, that the grammar's table reads are spelled as their trees.
use Rattle.std.proofs.Common.{◌≡◌, ◌≤◌, ◌-◌, ℕ, zero, suc, List, [], ◌∷◌, ◌++◌, length, true, cond, ◌&&◌, ◌⊎◌, inl, inr, refl, sym, ap, subst, ◌∙◌, arith, append_assoc}
use Rattle.std.specs.Prelude.{nat_le, ◌==◌}
use Rattle.std.specs.List.{list_all}
use Rattle.std.proofs.lemmas.Bool.Decides.{nat_tests}
use Rattle.script_tree.specs.declared.symbol.Operator.{Operator}
use Rattle.script_tree.specs.declared.symbol.Operator.TheVariants as o
use Rattle.script_tree.specs.declared.symbol.Fixed.TheVariants as x
use Rattle.script_tree.specs.declared.symbol.Symbol.TheVariants as symbols
use Rattle.script_tree.specs.declared.lexeme.Lexeme.{Lexeme}
use Rattle.script_tree.specs.declared.lexeme.Lexeme.TheVariants as t
use Rattle.script_tree.specs.declared.tree.Prefix.{Prefix}
use Rattle.script_tree.specs.declared.tree.Prefix.TheVariants as prefixes
use Rattle.script_tree.specs.Tree.{Expression, Unary, Binary, Statements}
use Rattle.script_tree.specs.Spelling.{spell_expression, prefix_level, prefix_token, level, chain_level, left_level, fits}
use Rattle.script_tree.specs.Grammar.{Part, Item, ATree, Next, Stops, Level, More, Make, Operating, Prefixing, Fine, again, level_of, more_after, prefix_after, verdict}
use Rattle.script_print.proofs.Levels.{opens_by, prefixed_by, operates, by_test}
use Rattle.script_print.proofs.Expressions.{and_parts, le_is}
use Rattle.script_print.specs.Proper.{is_proper}
use Rattle.script_print.proofs.Steps.{never, and_join, behind, unmade, le_true}
use Rattle.script_print.proofs.Operands.{ReadTree, ReadMore, Expressions, fits_in, prim_read}

-- ---- levels that an expression fits

-- what fits a level fits a higher one
fits_higher : (m n d : ℕ) (a : Expression) → m ≤ n → fits_in m d a ≡ true → fits_in n d a ≡ true
fits_higher m n d a le h =
    let p = and_parts (nat_le (level a) m) (fits d a) h in
    let small = le_is (level a) m p.0 in
    and_join (nat_le (level a) n) (fits d a) (le_true (level a) n (omega (arith, small, le))) p.1

chain_above : (m : ℕ) → m ≤ chain_level (suc m)
chain_above m = grind (arith, nat_tests)

chain_most : (n : ℕ) → chain_level n ≤ n
chain_most n = grind (arith, nat_tests)

unary_fits : (n d : ℕ) (op : Prefix) (a : Expression) → n ≡ prefix_level op → fits_in (n - 1) d a ≡ true → fits_in n d (Unary op a) ≡ true
unary_fits n d op a e h =
    let le : prefix_level op ≤ n = omega (arith, e) in
    and_join (nat_le (prefix_level op) n) (fits d (Unary op a)) (le_true (prefix_level op) n le) (ap (λ k. nat_le (level a) (k - 1) && fits d a) (sym e) ∙ h)

prefix_chain : (op : Prefix) → chain_level (prefix_level op) ≡ prefix_level op
prefix_chain prefixes.Negative = refl
prefix_chain prefixes.Not = refl

prefix_above : (m : ℕ) (op : Prefix) → suc m ≡ prefix_level op → suc m ≤ chain_level (suc m)
prefix_above m op e = let same : chain_level (suc m) ≡ suc m = ap chain_level e ∙ prefix_chain op ∙ sym e in omega (arith, same)

binary_fits : (n d : ℕ) (op : Operator) (a b : Expression) → level_of op ≡ n → fits_in (chain_level n) d a ≡ true → fits_in (n - 1) d b ≡ true → fits_in n d (Binary op a b) ≡ true
binary_fits n d op a b e h k =
    let left : fits_in (left_level op) d a ≡ true = ap (λ m. fits_in (chain_level m) d a) e ∙ h in
    let right : fits_in (level_of op - 1) d b ≡ true = ap (λ m. fits_in (m - 1) d b) e ∙ k in
    let le : level_of op ≤ n = omega (arith, e) in
    and_join (nat_le (level_of op) n) (fits d (Binary op a b)) (le_true (level_of op) n le) (and_join (fits_in (left_level op) d a) (fits_in (level_of op - 1) d b) left right)

-- ---- operators

-- a token joins operands of a level, or leaves its operators out
operator_or_not : (n : ℕ) (token : Lexeme) → (more_after n token ≡ Stops) ⊎ ((op : Operator) × (token ≡ t.Symbol (symbols.Operator op)) × (level_of op ≡ n))
operator_or_not n (t.Symbol (symbols.Operator op)) = by_test (level_of op == n) (λ e. inr (op, refl, is_level op n e)) (λ e. inl (rw e refl))
  where
    is_level : (op : Operator) (n : ℕ) → (level_of op == n) ≡ true → level_of op ≡ n
    is_level op n e = grind (arith, nat_tests)
operator_or_not n (t.Symbol (symbols.Constant y)) = inl refl
operator_or_not n (t.Symbol (symbols.Function y)) = inl refl
operator_or_not n (t.Symbol (symbols.Verb y)) = inl refl
operator_or_not n (t.Symbol (symbols.Fixed y)) = inl refl
operator_or_not n (t.Int y) = inl refl
operator_or_not n (t.Name y) = inl refl
operator_or_not n (t.Text y) = inl refl
operator_or_not n t.Bad = inl refl

passes : (n : ℕ) (ps : List Part) (is : List Item) (d : ℕ) (token : Lexeme) (ts : List Lexeme) → more_after n token ≡ Stops → verdict (More n ∷ ps) is d (token ∷ ts) ≡ verdict ps is d (token ∷ ts)
unfolding verdict
passes n ps is d token ts e = rw e refl

abbrev MoreReads : ℕ → ℕ → Type 0
MoreReads n k = (m : ℕ) (a : Expression) (ps : List Part) (is : List Item) (d : ℕ) (ts : List Lexeme) (s : Statements) → length ts ≤ k → d ≤ 64 → list_all is_proper ts ≡ true → fits_in (chain_level m) d a ≡ true → verdict (More m ∷ ps) (ATree a ∷ is) d ts ≡ Fine s → ReadMore m a ps is d ts s

no_more : (m : ℕ) (a : Expression) (ps : List Part) (is : List Item) (d : ℕ) (ts : List Lexeme) (s : Statements) → list_all is_proper ts ≡ true → fits_in (chain_level m) d a ≡ true → verdict ps (ATree a ∷ is) d ts ≡ Fine s → ReadMore m a ps is d ts s
no_more m a ps is d ts s g f h = record { tree = a; rest = ts; spelled = refl; fine = fits_higher (chain_level m) m d a (chain_most m) f; shorter = omega arith; good = g; goes = h }

-- behind an operator and its right operand further ones of the level may come, but for comparisons
go_on : (n k : ℕ) → MoreReads n k → (m : ℕ) (a : Expression) (ps : List Part) (is : List Item) (d : ℕ) (ts : List Lexeme) (s : Statements) → length ts ≤ k → d ≤ 64 → list_all is_proper ts ≡ true → fits_in m d a ≡ true → verdict (again m ++ ps) (ATree a ∷ is) d ts ≡ Fine s → ReadMore m a ps is d ts s
go_on n k further m a ps is d ts s le deep g f h =
    by_test (m == 5)
    (λ e. let ended : verdict ps (ATree a ∷ is) d ts ≡ Fine s = ap (λ b. verdict (cond b [] (More m ∷ []) ++ ps) (ATree a ∷ is) d ts) (sym e) ∙ h in record { tree = a; rest = ts; spelled = refl; fine = f; shorter = omega arith; good = g; goes = ended })
    (λ e. further m a ps is d ts s le deep g (ap (λ b. fits_in (cond b 4 m) d a) e ∙ f) (ap (λ b. verdict (cond b [] (More m ∷ []) ++ ps) (ATree a ∷ is) d ts) (sym e) ∙ h))

operator_read : (n k : ℕ) → Expressions n → k ≤ n → MoreReads n k → (m : ℕ) (op : Operator) (a : Expression) (ps : List Part) (is : List Item) (d : ℕ) (ts : List Lexeme) (s : Statements) → length ts ≤ k → d ≤ 64 → list_all is_proper ts ≡ true → fits_in (chain_level m) d a ≡ true → level_of op ≡ m → verdict (More m ∷ ps) (ATree a ∷ is) d (t.Symbol (symbols.Operator op) ∷ ts) ≡ Fine s → ReadMore m a ps is d (t.Symbol (symbols.Operator op) ∷ ts) s
operator_read n k reads small further m op a ps is d ts s le deep g f e h =
    let sign = t.Symbol (symbols.Operator op) in
    let opened = sym (operates m ps (ATree a ∷ is) d op ts e) ∙ h in
    let b = reads (m - 1) (Make (Operating op) ∷ (again m ++ ps)) (ATree a ∷ is) d ts s (omega (arith, le, small)) deep g opened in
    let made = unmade (Operating op) (again m ++ ps) (ATree b.tree ∷ ATree a ∷ is) d b.rest s b.goes in
    let c = go_on n k further m (Binary op a b.tree) ps is d b.rest s (omega (arith, le, b.shorter)) deep b.good (binary_fits m d op a b.tree e f b.fine) made in
    record {
      tree = c.tree;
      rest = c.rest;
      spelled = ap (λ l. spell_expression a ++ sign ∷ l) b.spelled ∙ sym (append_assoc (spell_expression a) (sign ∷ spell_expression b.tree) b.rest) ∙ c.spelled;
      fine = c.fine;
      shorter = omega (arith, c.shorter, b.shorter);
      good = c.good;
      goes = c.goes;
    }

more_read : (n k : ℕ) → Expressions n → k ≤ n → MoreReads n k
unfolding verdict
more_read n k reads small m a ps is d [] s le deep g f h = no_more m a ps is d [] s g f h
more_read n zero reads small m a ps is d (token ∷ ts) s le deep g f h = absurd (omega (arith, le))
more_read n (suc k) reads small m a ps is d (token ∷ ts) s le deep g f h =
    elim (operator_or_not m token) [
      | inl e ↦ no_more m a ps is d (token ∷ ts) s g f (sym (passes m ps (ATree a ∷ is) d token ts e) ∙ h)
      | inr found ↦ subst (λ l. ReadMore m a ps is d (l ∷ ts) s) (sym found.1)
          (operator_read n k reads (omega (arith, small)) (more_read n k reads (omega (arith, small))) m found.0 a ps is d ts s (omega (arith, le)) deep (and_parts (is_proper token) (list_all is_proper ts) g).1 f found.2
          (ap (λ l. verdict (More m ∷ ps) (ATree a ∷ is) d (l ∷ ts)) (sym found.1) ∙ h))
    ]

-- ---- levels

-- a token stands before an operand of this level, or doesn't
prefix_or_not : (n : ℕ) (token : Lexeme) → ((other : Next) → prefix_after n token other ≡ other) ⊎ ((op : Prefix) × (token ≡ prefix_token op) × (n ≡ prefix_level op))
prefix_or_not n (t.Symbol (symbols.Operator o.Minus)) = by_test (n == 1) (λ e. inr (prefixes.Negative, refl, one n e)) (λ e. inl (λ other. rw e refl))
  where
    one : (n : ℕ) → (n == 1) ≡ true → n ≡ 1
    one n e = grind (arith, nat_tests)
prefix_or_not n (t.Symbol (symbols.Fixed x.Not)) = by_test (n == 6) (λ e. inr (prefixes.Not, refl, six n e)) (λ e. inl (λ other. rw e refl))
  where
    six : (n : ℕ) → (n == 6) ≡ true → n ≡ 6
    six n e = grind (arith, nat_tests)
prefix_or_not n (t.Symbol (symbols.Operator _)) = inl (λ other. refl)
prefix_or_not n (t.Symbol (symbols.Fixed _)) = inl (λ other. refl)
prefix_or_not n (t.Symbol (symbols.Constant y)) = inl (λ other. refl)
prefix_or_not n (t.Symbol (symbols.Function y)) = inl (λ other. refl)
prefix_or_not n (t.Symbol (symbols.Verb y)) = inl (λ other. refl)
prefix_or_not n (t.Int y) = inl (λ other. refl)
prefix_or_not n (t.Name y) = inl (λ other. refl)
prefix_or_not n (t.Text y) = inl (λ other. refl)
prefix_or_not n t.Bad = inl (λ other. refl)

-- an operand with the operators of its level behind it
climbed : (n : ℕ) → Expressions n → (m k : ℕ) (ps : List Part) (is : List Item) (d : ℕ) (ts : List Lexeme) (s : Statements) → length ts ≤ suc n → d ≤ 64 → m ≤ chain_level k → (a : ReadTree m (More k ∷ ps) is d ts s) → ReadTree k ps is d ts s
climbed n reads m k ps is d ts s le deep small a =
    let b = more_read n n reads (omega arith) k a.tree ps is d a.rest s (omega (arith, le, a.shorter)) deep a.good (fits_higher m (chain_level k) d a.tree small a.fine) a.goes in
    record { tree = b.tree; rest = b.rest; spelled = a.spelled ∙ b.spelled; fine = b.fine; shorter = omega (arith, a.shorter, b.shorter); good = b.good; goes = b.goes }

-- `-` or `not` before an operand
prefixed_first : (n : ℕ) → Expressions n → (m : ℕ) (op : Prefix) (ps : List Part) (is : List Item) (d : ℕ) (ts : List Lexeme) (s : Statements) → length ts ≤ n → d ≤ 64 → list_all is_proper ts ≡ true → suc m ≡ prefix_level op → verdict (Level (suc m) ∷ ps) is d (prefix_token op ∷ ts) ≡ Fine s → ReadTree (suc m) (More (suc m) ∷ ps) is d (prefix_token op ∷ ts) s
prefixed_first n reads m op ps is d ts s le deep g e h =
    let opened = sym (prefixed_by m ps is d op ts e) ∙ h in
    let a = reads (suc m - 1) (Make (Prefixing op) ∷ More (suc m) ∷ ps) is d ts s le deep g opened in
    record {
      tree = Unary op a.tree;
      rest = a.rest;
      spelled = behind (prefix_token op) a.spelled;
      fine = unary_fits (suc m) d op a.tree e a.fine;
      shorter = omega (arith, a.shorter);
      good = a.good;
      goes = unmade (Prefixing op) (More (suc m) ∷ ps) (ATree a.tree ∷ is) d a.rest s a.goes;
    }

level_read : (n : ℕ) → Expressions n → (m : ℕ) (ps : List Part) (is : List Item) (d : ℕ) (token : Lexeme) (ts : List Lexeme) (s : Statements) → length ts ≤ n → d ≤ 64 → list_all is_proper (token ∷ ts) ≡ true → verdict (Level m ∷ ps) is d (token ∷ ts) ≡ Fine s → ReadTree m ps is d (token ∷ ts) s
level_read n reads zero ps is d token ts s le deep g h = prim_read n reads ps is d token ts s le deep g h
level_read n reads (suc m) ps is d token ts s le deep g h =
    elim (prefix_or_not (suc m) token) [
      | inl e ↦ climbed n reads m (suc m) ps is d (token ∷ ts) s (omega (arith, le)) deep (chain_above m) (level_read n reads m (More (suc m) ∷ ps) is d token ts s le deep g (sym (opens_by m ps is d token ts e) ∙ h))
      | inr found ↦ subst (λ l. ReadTree (suc m) ps is d (l ∷ ts) s) (sym found.1)
          (let at = ap (λ l. verdict (Level (suc m) ∷ ps) is d (l ∷ ts)) (sym found.1) ∙ h in
          let rest_good = (and_parts (is_proper token) (list_all is_proper ts) g).1 in
          climbed n reads (suc m) (suc m) ps is d (prefix_token found.0 ∷ ts) s (omega (arith, le)) deep (prefix_above m found.0 found.2) (prefixed_first n reads m found.0 ps is d ts s le deep rest_good found.2 at))
    ]

-- every expression that is read is spelled as its tree
tokens_read : (n : ℕ) → Expressions n → (m : ℕ) (ps : List Part) (is : List Item) (d : ℕ) (ts : List Lexeme) (s : Statements) → length ts ≤ suc n → d ≤ 64 → list_all is_proper ts ≡ true → verdict (Level m ∷ ps) is d ts ≡ Fine s → ReadTree m ps is d ts s
unfolding verdict
tokens_read n reads m ps is d [] s le deep g h = never _ s h
tokens_read n reads m ps is d (token ∷ ts) s le deep g h = level_read n reads m ps is d token ts s (omega (arith, le)) deep g h

no_tokens : Expressions 0
unfolding verdict
no_tokens m ps is d [] s le deep g h = never _ s h
no_tokens m ps is d (token ∷ ts) s le deep g h = absurd (omega (arith, le))

pub expressions : (n : ℕ) → Expressions n
expressions zero = no_tokens
expressions (suc n) = λ m ps is d ts s le deep g h. tokens_read n (expressions n) m ps is d ts s le deep g h
