-- Levels of operators: how the table goes through them, and in how many brackets their operands are.
use Rattle.std.proofs.Common.{◌≡◌, ◌≤◌, ◌<◌, ◌+◌, ◌-◌, ℕ, zero, suc, List, [], ◌∷◌, ◌++◌, length, Some, None, Bool, true, false, ◌&&◌, refl, sym, ap, ◌∙◌, arith, append_assoc, add-one}
use Rattle.std.specs.Prelude.{nat_le, ◌==◌, if◌then◌else◌}
use Rattle.std.proofs.lemmas.Bool.Decides.{nat_tests}
use Rattle.script_tree.specs.declared.symbol.Operator.{Operator}
use Rattle.script_tree.specs.declared.symbol.Operator.TheVariants as o
use Rattle.script_tree.specs.declared.symbol.Fixed.{Fixed}
use Rattle.script_tree.specs.declared.symbol.Fixed.TheVariants as x
use Rattle.script_tree.specs.declared.symbol.Symbol.TheVariants as s
use Rattle.script_tree.specs.declared.lexeme.Lexeme.{Lexeme}
use Rattle.script_tree.specs.declared.lexeme.Lexeme.TheVariants as t
use Rattle.script_tree.specs.declared.fault.SyntaxBad.TheVariants as bad
use Rattle.script_tree.specs.declared.tree.Prefix.{Prefix}
use Rattle.script_tree.specs.declared.tree.Prefix.TheVariants as prefixes
use Rattle.script_parse_terms.specs.declared.refusal.ReadError.TheVariants as errors
use Rattle.script_tree.specs.Tree.{Expression, Unary, Group}
use Rattle.script_tree.specs.Spelling.{level, fits, prefix_level, chain_level, prefix_token, spell_expression}
use Rattle.script_tree.specs.Grammar.{Part, Item, Next, Stops, Goes, Make, Grouping, Prefixing, Operating, Level, More, ATree, One, prim_fixed, verdict, verdict_at, goes_on, then_parts, prefix_after, level_after, more_after, again, level_of, turn, Stays}
use Rattle.script_parse_terms.specs.Takes.{fits_at, prefix_at, prefix_in, operator_at, operator_in, Took, Turned, Fails, kind_at}
use Rattle.script_parse_terms.proofs.Machine.{made, refuse}

joined : (next : Next) (q : Part) (ps : List Part) (is : List Item) → goes_on (then_parts next (q ∷ [])) ps is Stops ≡ goes_on next (q ∷ ps) is Stops
joined Stops q ps is = refl
joined (Goes qs js) q ps is = ap (λ l. Goes l (js ++ is)) (append_assoc qs (q ∷ []) ps)

no_prefix : (n : ℕ) (token : Lexeme) (other : Next) → prefix_at n token ≡ None → prefix_after n token other ≡ other
no_prefix n (t.Symbol y) other h = rw h refl
no_prefix n (t.Int y) other h = refl
no_prefix n (t.Name y) other h = refl
no_prefix n (t.Text y) other h = refl
no_prefix n t.Bad other h = refl

opens_by : (m : ℕ) (ps : List Part) (is : List Item) (d : ℕ) (ts : List Lexeme) → prefix_in (suc m) ts ≡ None → verdict (Level (suc m) ∷ ps) is d ts ≡ verdict (Level m ∷ More (suc m) ∷ ps) is d ts
unfolding verdict
opens_by m ps is d [] h = refl
opens_by m ps is d (token ∷ ts) h =
    rw (no_prefix (suc m) token (level_after m token) h)
    (ap (λ next. verdict_at next d token ts (λ ps is d. verdict ps is d ts)) (joined (level_after m token) (More (suc m)) ps is))

-- a level without a prefix begins with the level below
pub opens : (n m : ℕ) (ps : List Part) (is : List Item) (d : ℕ) (ts : List Lexeme) → n ≡ m + 1 → prefix_in n ts ≡ None → verdict (Level n ∷ ps) is d ts ≡ verdict (Level m ∷ More n ∷ ps) is d ts
opens n m ps is d ts e h = rw (e, add-one) (opens_by m ps is d ts (rw (e, add-one) at h))

prefix_stays : (n : ℕ) (token : Lexeme) (op : Prefix) → prefix_at n token ≡ Some op → turn token ≡ Stays
prefix_stays n (t.Symbol (s.Fixed x.Not)) op h = refl
prefix_stays n (t.Symbol (s.Fixed _)) op h = cc
prefix_stays n (t.Symbol (s.Operator y)) op h = refl
prefix_stays n (t.Symbol (s.Constant y)) op h = refl
prefix_stays n (t.Symbol (s.Function y)) op h = refl
prefix_stays n (t.Symbol (s.Verb y)) op h = refl
prefix_stays n (t.Int y) op h = refl
prefix_stays n (t.Name y) op h = refl
prefix_stays n (t.Text y) op h = refl
prefix_stays n t.Bad op h = refl

some_prefix : (n : ℕ) (token : Lexeme) (other : Next) (op : Prefix) → prefix_at n token ≡ Some op → prefix_after n token other ≡ Goes (Level (n - 1) ∷ Make (Prefixing op) ∷ []) []
some_prefix n (t.Symbol y) other op h = rw h refl
some_prefix n (t.Int y) other op h = cc
some_prefix n (t.Name y) other op h = cc
some_prefix n (t.Text y) other op h = cc
some_prefix n t.Bad other op h = cc

prefixed_by : (m : ℕ) (ps : List Part) (is : List Item) (d : ℕ) (token : Lexeme) (ts : List Lexeme) (op : Prefix) → prefix_at (suc m) token ≡ Some op → verdict (Level (suc m) ∷ ps) is d (token ∷ ts) ≡ verdict (Level (suc m - 1) ∷ Make (Prefixing op) ∷ More (suc m) ∷ ps) is d ts
unfolding verdict
prefixed_by m ps is d token ts op h = rw (some_prefix (suc m) token (level_after m token) op h, prefix_stays (suc m) token op h) refl

-- a level with a prefix goes on with the level below
pub prefixed : (n : ℕ) (ps : List Part) (is : List Item) (d : ℕ) (token : Lexeme) (ts : List Lexeme) (op : Prefix) → 0 < n → prefix_at n token ≡ Some op → verdict (Level n ∷ ps) is d (token ∷ ts) ≡ verdict (Level (n - 1) ∷ Make (Prefixing op) ∷ More n ∷ ps) is d ts
prefixed zero ps is d token ts op h e = absurd (omega (arith, h))
prefixed (suc m) ps is d token ts op h e = prefixed_by m ps is d token ts op e

no_operator : (n : ℕ) (token : Lexeme) → operator_at n token ≡ None → more_after n token ≡ Stops
no_operator n (t.Symbol (s.Operator op)) h = no_operator_by (level_of op == n) op n h
  where
    no_operator_by : (b : Bool) (op : Operator) (n : ℕ) → (if b then Some op else None) ≡ None → (if b then Goes (Level (n - 1) ∷ Make (Operating op) ∷ again n) [] else Stops) ≡ Stops
    no_operator_by true op n h = cc
    no_operator_by false op n h = refl
no_operator n (t.Symbol (s.Fixed y)) h = refl
no_operator n (t.Symbol (s.Constant y)) h = refl
no_operator n (t.Symbol (s.Function y)) h = refl
no_operator n (t.Symbol (s.Verb y)) h = refl
no_operator n (t.Int y) h = refl
no_operator n (t.Name y) h = refl
no_operator n (t.Text y) h = refl
no_operator n t.Bad h = refl

-- no operator of the level comes
pub skip_more : (n : ℕ) (ps : List Part) (is : List Item) (d : ℕ) (ts : List Lexeme) → operator_in n ts ≡ None → verdict (More n ∷ ps) is d ts ≡ verdict ps is d ts
unfolding verdict
skip_more n ps is d [] h = refl
skip_more n ps is d (token ∷ ts) h = rw (no_operator n token h) refl

-- an operator of the level comes
pub operates : (n : ℕ) (ps : List Part) (is : List Item) (d : ℕ) (op : Operator) (ts : List Lexeme) → level_of op ≡ n → verdict (More n ∷ ps) is d (t.Symbol (s.Operator op) ∷ ts) ≡ verdict (Level (n - 1) ∷ Make (Operating op) ∷ (again n ++ ps)) is d ts
unfolding verdict
operates n ps is d op ts h =
    let e : (level_of op == n) ≡ true = grind (arith, nat_tests, h) in
    rw e refl

pub and_split : (a b : Bool) → (a && b) ≡ true → (a ≡ true) × (b ≡ true)
and_split true b h = (refl, h)
and_split false b h = cc

pub and_join : (a b : Bool) → a ≡ true → b ≡ true → (a && b) ≡ true
and_join a b h k = rw (h, k) refl

-- where a level may stand, a lower one may
pub fits_weaker : (n m d : ℕ) (a : Expression) → n ≤ m → fits_at n d a ≡ true → fits_at m d a ≡ true
fits_weaker n m d a h e =
    let p = and_split (nat_le (level a) n) (fits d a) e in
    let le : nat_le (level a) m ≡ true = grind (arith, nat_tests, h, p.0) in
    and_join (nat_le (level a) m) (fits d a) le p.1

pub fits_unchained : (n d : ℕ) (a : Expression) → fits_at (chain_level n) d a ≡ true → fits_at n d a ≡ true
fits_unchained n d a e = fits_weaker (chain_level n) n d a (grind (arith, nat_tests)) e

prefix_level_by : (b : Bool) (p op : Prefix) → (if b then Some p else None) ≡ Some op → (b ≡ true) × (p ≡ op)
prefix_level_by true p op h = (refl, cc)
prefix_level_by false p op h = cc

-- a prefix is one of its level alone
pub level_of_prefix : (n : ℕ) (token : Lexeme) (op : Prefix) → prefix_at n token ≡ Some op → (prefix_level op ≡ n) × (chain_level n ≡ n)
level_of_prefix n (t.Symbol (s.Fixed x.Not)) op h =
    let p = prefix_level_by (n == 6) prefixes.Not op h in
    let e : n ≡ 6 = grind (arith, nat_tests, p.0) in
    (ap prefix_level (sym p.1) ∙ sym e, rw e refl)
level_of_prefix n (t.Symbol (s.Fixed _)) op h = cc
level_of_prefix n (t.Symbol (s.Operator o.Minus)) op h =
    let p = prefix_level_by (n == 1) prefixes.Negative op h in
    let e : n ≡ 1 = grind (arith, nat_tests, p.0) in
    (ap prefix_level (sym p.1) ∙ sym e, rw e refl)
level_of_prefix n (t.Symbol (s.Operator _)) op h = cc
level_of_prefix n (t.Symbol (s.Constant y)) op h = cc
level_of_prefix n (t.Symbol (s.Function y)) op h = cc
level_of_prefix n (t.Symbol (s.Verb y)) op h = cc
level_of_prefix n (t.Int y) op h = cc
level_of_prefix n (t.Name y) op h = cc
level_of_prefix n (t.Text y) op h = cc
level_of_prefix n t.Bad op h = cc

-- and it is that token
pub prefix_is : (n : ℕ) (token : Lexeme) (op : Prefix) → prefix_at n token ≡ Some op → token ≡ prefix_token op
prefix_is n (t.Symbol (s.Fixed x.Not)) op h = ap prefix_token (prefix_level_by (n == 6) prefixes.Not op h).1
prefix_is n (t.Symbol (s.Fixed _)) op h = cc
prefix_is n (t.Symbol (s.Operator o.Minus)) op h = ap prefix_token (prefix_level_by (n == 1) prefixes.Negative op h).1
prefix_is n (t.Symbol (s.Operator _)) op h = cc
prefix_is n (t.Symbol (s.Constant y)) op h = cc
prefix_is n (t.Symbol (s.Function y)) op h = cc
prefix_is n (t.Symbol (s.Verb y)) op h = cc
prefix_is n (t.Int y) op h = cc
prefix_is n (t.Name y) op h = cc
prefix_is n (t.Text y) op h = cc
prefix_is n t.Bad op h = cc

pub le_self : (n : ℕ) → nat_le n n ≡ true
le_self n = grind (arith, nat_tests)

-- an operand behind its prefix
pub unary_took : (n d : ℕ) (ts behind rest : List Lexeme) (op : Prefix) (first : Lexeme) (a b : Expression) → 0 < n → prefix_in n ts ≡ Some op → ts ≡ first ∷ behind → Took (Level (n - 1)) [] d behind (ATree a ∷ []) (fits_at (n - 1) d a) rest → b ≡ a → Took (Level n) (More n ∷ []) d ts (ATree (Unary op b) ∷ []) (fits_at (chain_level n) d (Unary op b)) rest
unary_took n d ts behind rest op first a b h e is took same =
    let at : prefix_at n first ≡ Some op = ap (prefix_in n) (sym is) ∙ e in
    let p = level_of_prefix n first op at in
    let le : nat_le (prefix_level op) (chain_level n) ≡ true = ap (λ m. nat_le m (chain_level n)) p.0 ∙ ap (nat_le n) p.1 ∙ le_self n in
    let fine : fits_at (prefix_level op - 1) d b ≡ true = ap (λ m. fits_at (m - 1) d b) p.0 ∙ ap (fits_at (n - 1) d) same ∙ took.good_one in
    record {
      shorter = omega (arith, ap length is, took.shorter);
      spelled = is ∙ ap (λ y. y ∷ behind) (prefix_is n first op at) ∙ ap (λ l. prefix_token op ∷ l) (took.spelled ∙ ap (λ c. spell_expression c ++ rest) (sym same));
      good_one = rw le fine;
      goes_on = λ ps i. ap (verdict (Level n ∷ ps) i d) is ∙ prefixed n ps i d first behind op h at ∙ took.goes_on (Make (Prefixing op) ∷ More n ∷ ps) i
          ∙ made (Prefixing op) (More n ∷ ps) (ATree a ∷ i) d rest ∙ ap (λ c. verdict (More n ∷ ps) (ATree (Unary op c) ∷ i) d rest) (sym same);
    }

-- words with which no prim begins
pub no_prim : (y : Fixed) → (y ≡ x.OpenRound → ⊥) → (y ≡ x.Own → ⊥) → (y ≡ x.Event → ⊥) → (y ≡ x.Masked → ⊥) → (y ≡ x.Attr → ⊥) → (y ≡ x.Table → ⊥) → (y ≡ x.Profile → ⊥) → (y ≡ x.HasProfile → ⊥) → (y ≡ x.Count → ⊥) → (y ≡ x.Priority → ⊥) → prim_fixed y ≡ Stops
no_prim x.OpenRound a b c d e f g h i j = absurd (a refl)
no_prim x.Own a b c d e f g h i j = absurd (b refl)
no_prim x.Event a b c d e f g h i j = absurd (c refl)
no_prim x.Masked a b c d e f g h i j = absurd (d refl)
no_prim x.Attr a b c d e f g h i j = absurd (e refl)
no_prim x.Table a b c d e f g h i j = absurd (f refl)
no_prim x.Profile a b c d e f g h i j = absurd (g refl)
no_prim x.HasProfile a b c d e f g h i j = absurd (h refl)
no_prim x.Count a b c d e f g h i j = absurd (i refl)
no_prim x.Priority a b c d e f g h i j = absurd (j refl)
no_prim _ a b c d e f g h i j = refl

pub refuse_prim : (d : ℕ) (y : Fixed) (ts behind : List Lexeme) → ts ≡ t.Symbol (s.Fixed y) ∷ behind → prim_fixed y ≡ Stops → Fails (Level 0) d ts (errors.Misfit (record { left = length ts; kind = kind_at ts }))
refuse_prim d y ts behind e h = refuse (Level 0) d ts refl (λ token rest is. let same : token ≡ t.Symbol (s.Fixed y) = cc in rw same h)

pub not_five : (n : ℕ) → (n ≡ 5 → ⊥) → (chain_level n ≡ n) × (More n ∷ [] ≡ again n)
not_five n h = let e : (n == 5) ≡ false = grind (arith, nat_tests) in (rw e refl, rw e refl)

-- an expression in brackets
pub group_opens : (ps : List Part) (is : List Item) (d : ℕ) (behind : List Lexeme) → d < 64 → verdict (Level 0 ∷ ps) is d (t.Symbol (s.Fixed x.OpenRound) ∷ behind) ≡ verdict (Level 8 ∷ Make Grouping ∷ One x.CloseRound ∷ ps) is (d + 1) behind
unfolding verdict
group_opens ps is d behind lt =
    let e : nat_le 64 d ≡ false = grind (arith, nat_tests) in
    rw e refl

pub group_deep : (d : ℕ) (ts behind : List Lexeme) → ts ≡ t.Symbol (s.Fixed x.OpenRound) ∷ behind → d ≡ 64 → Fails (Level 0) d ts (errors.Misfit (record { left = length ts; kind = bad.Deep }))
unfolding verdict
group_deep d ts behind is at = λ ps i. rw (is, at, add-one) refl

pub group_took : (d : ℕ) (ts behind mid rest : List Lexeme) (a b : Expression) → ts ≡ t.Symbol (s.Fixed x.OpenRound) ∷ behind → d < 64 → Took (Level 8) [] (d + 1) behind (ATree a ∷ []) (fits (d + 1) a) mid → Turned x.CloseRound (d + 1) d mid rest → b ≡ a → Took (Level 0) [] d ts (ATree (Group b) ∷ []) (fits_at 0 d (Group b)) rest
group_took d ts behind mid rest a b is lt took turned same =
    let close = t.Symbol (s.Fixed x.CloseRound) in
    record {
      shorter = omega (arith, ap length is, took.shorter, turned.shorter);
      spelled = is
          ∙ ap (λ l. t.Symbol (s.Fixed x.OpenRound) ∷ l) (took.spelled ∙ ap (λ l. spell_expression a ++ l) turned.spelled ∙ ap (λ c. spell_expression c ++ close ∷ rest) (sym same) ∙ sym (append_assoc (spell_expression b) (close ∷ []) rest));
      good_one = ap (fits (d + 1)) same ∙ took.good_one;
      goes_on = λ ps i. ap (verdict (Level 0 ∷ ps) i d) is ∙ group_opens ps i d behind lt ∙ took.goes_on (Make Grouping ∷ One x.CloseRound ∷ ps) i ∙ made Grouping (One x.CloseRound ∷ ps) (ATree a ∷ i) (d + 1) mid
          ∙ turned.goes_on ps (ATree (Group a) ∷ i) ∙ ap (λ c. verdict ps (ATree (Group c) ∷ i) d rest) (sym same);
    }
