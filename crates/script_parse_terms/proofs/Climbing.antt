-- An expression is read from its first operand on, and then level by level: the table goes the same way.
use Rattle.std.proofs.Common.{◌≡◌, ◌≤◌, ◌<◌, ◌+◌, ◌-◌, ℕ, zero, suc, List, [], ◌∷◌, ◌++◌, length, Option, Some, None, Bool, true, false, ◌&&◌, refl, sym, ap, ◌∙◌, arith, append_assoc}
use Rattle.std.specs.Prelude.{nat_le, nat_lt, ◌==◌, if◌then◌else◌}
use Rattle.std.proofs.lemmas.Bool.Decides.{nat_tests}
use Rattle.script_tree.specs.declared.symbol.Operator.{Operator}
use Rattle.script_tree.specs.declared.symbol.Operator.TheVariants as o
use Rattle.script_tree.specs.declared.symbol.Fixed.TheVariants as x
use Rattle.script_tree.specs.declared.symbol.Symbol.TheVariants as s
use Rattle.script_tree.specs.declared.lexeme.Lexeme.{Lexeme}
use Rattle.script_tree.specs.declared.lexeme.Lexeme.TheVariants as t
use Rattle.script_tree.specs.declared.tree.Prefix.{Prefix}
use Rattle.script_tree.specs.declared.tree.Prefix.TheVariants as prefixes
use Rattle.script_tree.specs.Tree.{Expression, Unary, Binary}
use Rattle.script_tree.specs.Spelling.{prefix_level, chain_level, left_level, spell_expression}
use Rattle.script_tree.specs.Grammar.{Part, Item, Make, Prefixing, Operating, Level, More, ATree, Verdict, verdict, again, level_of}
use Rattle.script_parse_terms.specs.Takes.{fits_at, prefix_at, prefix_in, operator_at, operator_in, Took}
use Rattle.script_parse_terms.specs.Levels.{mores, joining_at, joining, next_level, prefix_up_to, prefix_next, TookOperand, TookChain}
use Rattle.script_parse_terms.proofs.Machine.{made}
use Rattle.script_parse_terms.proofs.Operators.{opens, skip_more, operates, prefixed, unary_took, fits_weaker, fits_unchained, and_join, and_split, le_self}

-- ---- which operators come next

none_at : (i : ℕ) (token : Lexeme) → (joining_at token ≡ i → ⊥) → operator_at i token ≡ None
none_at i (t.Symbol (s.Operator op)) h = let e : (level_of op == i) ≡ false = grind (arith, nat_tests) in rw e refl
none_at i (t.Symbol (s.Fixed y)) h = refl
none_at i (t.Symbol (s.Constant y)) h = refl
none_at i (t.Symbol (s.Function y)) h = refl
none_at i (t.Symbol (s.Verb y)) h = refl
none_at i (t.Int y) h = refl
none_at i (t.Name y) h = refl
none_at i (t.Text y) h = refl
none_at i t.Bad h = refl

-- no operator of a level comes where one of another level does
none_in : (i : ℕ) (ts : List Lexeme) → (joining ts ≡ i → ⊥) → operator_in i ts ≡ None
none_in i [] h = refl
none_in i (token ∷ ts) h = none_at i token h

next_by : (b : Bool) (k j : ℕ) → (if b then Some k else None) ≡ Some j → (b ≡ true) × (k ≡ j)
next_by true k j h = (refl, cc)
next_by false k j h = absurd cc

next_some : (m n k : ℕ) (ts : List Lexeme) → next_level m n ts ≡ Some k → (m < k) × ((k ≤ n) × (joining ts ≡ k))
next_some m n k ts h =
    let p = next_by (nat_lt m (joining ts) && nat_le (joining ts) n) (joining ts) k h in
    let q = and_split (nat_lt m (joining ts)) (nat_le (joining ts) n) p.0 in
    let lt : m < joining ts = grind (arith, nat_tests, q.0) in
    let le : joining ts ≤ n = grind (arith, nat_tests, q.1) in
    let e : joining ts ≡ k = p.1 in
    let above : m < k = omega (arith, lt, e) in
    let within : k ≤ n = omega (arith, le, e) in
    (above, (within, e))

past_by : (b : Bool) (k : ℕ) → (if b then Some k else None) ≡ None → b ≡ false
past_by true k h = absurd cc
past_by false k h = refl

next_none : (m n : ℕ) (ts : List Lexeme) → next_level m n ts ≡ None → (i : ℕ) → m < i → i ≤ n → operator_in i ts ≡ None
next_none m n ts h i lt le = none_in i ts (λ e. both (past_by (nat_lt m (joining ts) && nat_le (joining ts) n) (joining ts) h) e)
  where
    both : (nat_lt m (joining ts) && nat_le (joining ts) n) ≡ false → joining ts ≡ i → ⊥
    both f e =
        let a : nat_lt m (joining ts) ≡ true = grind (arith, nat_tests) in
        let b : nat_le (joining ts) n ≡ true = grind (arith, nat_tests) in
        let c : (nat_lt m (joining ts) && nat_le (joining ts) n) ≡ true = and_join _ _ a b in
        absurd cc

-- ---- the parts for operators of the levels above one

-- none of them comes
past : (j m : ℕ) (ps : List Part) (is : List Item) (d : ℕ) (ts : List Lexeme) → ((i : ℕ) → m < i → i ≤ m + j → operator_in i ts ≡ None) → verdict (mores j m ++ ps) is d ts ≡ verdict ps is d ts
past zero m ps is d ts h = refl
past (suc j) m ps is d ts h =
    skip_more (m + 1) (mores j (m + 1) ++ ps) is d ts (h (m + 1) (omega arith) (omega arith))
    ∙ past j (m + 1) ps is d ts (λ i lt le. h i (omega (arith, lt)) (omega (arith, le)))

-- one of level k comes
reaches : (j m k : ℕ) (ps : List Part) (is : List Item) (d : ℕ) (ts : List Lexeme) → joining ts ≡ k → m < k → k ≤ m + j → verdict (mores j m ++ ps) is d ts ≡ verdict (More k ∷ (mores (m + j - k) k ++ ps)) is d ts
reaches zero m k ps is d ts e lt le = absurd (omega (arith, lt, le))
reaches (suc j) m k ps is d ts e lt le = by_level (k == m + 1) refl (λ above. reaches j (m + 1) k ps is d ts e above (omega (arith, le)))
  where
    by_level : (b : Bool) → (k == m + 1) ≡ b → (m + 1 < k → verdict (mores j (m + 1) ++ ps) is d ts ≡ verdict (More k ∷ (mores (m + 1 + j - k) k ++ ps)) is d ts) → verdict (More (m + 1) ∷ (mores j (m + 1) ++ ps)) is d ts ≡ verdict (More k ∷ (mores (m + suc j - k) k ++ ps)) is d ts
    by_level true f more =
        let same : m + 1 ≡ k = grind (arith, nat_tests) in
        let left : j ≡ m + suc j - k = omega (arith, same) in
        ap (λ i. verdict (More i ∷ (mores j i ++ ps)) is d ts) same ∙ ap (λ i. verdict (More k ∷ (mores i k ++ ps)) is d ts) left
    by_level false f more =
        let other : k ≡ m + 1 → ⊥ = λ g. absurd (grind (arith, nat_tests)) in
        let above : m + 1 < k = omega (arith, lt, other) in
        let left : m + 1 + j - k ≡ m + suc j - k = omega arith in
        skip_more (m + 1) (mores j (m + 1) ++ ps) is d ts (none_in (m + 1) ts (λ g. other (sym e ∙ g)))
        ∙ more above
        ∙ ap (λ i. verdict (More k ∷ (mores i k ++ ps)) is d ts) left

-- a level without a prefix up to it begins with a level below
down : (j n m : ℕ) (ps : List Part) (is : List Item) (d : ℕ) (ts : List Lexeme) → n ≡ m + j → ((i : ℕ) → m < i → i ≤ n → prefix_in i ts ≡ None) → verdict (Level n ∷ ps) is d ts ≡ verdict (Level m ∷ (mores j m ++ ps)) is d ts
down zero n m ps is d ts e h = let same : n ≡ m = omega (arith, e) in ap (λ i. verdict (Level i ∷ ps) is d ts) same
down (suc j) n m ps is d ts e h =
    down j n (m + 1) ps is d ts (omega (arith, e)) (λ i lt le. h i (omega (arith, lt)) le)
    ∙ opens (m + 1) m (mores j (m + 1) ++ ps) is d ts refl (h (m + 1) (omega arith) (omega (arith, e)))

-- ---- prefixes

prefix_by : (b : Bool) (p op : Prefix) → (if b then Some p else None) ≡ Some op → (b ≡ true) × (p ≡ op)
prefix_by true p op h = (refl, cc)
prefix_by false p op h = absurd cc

-- a prefix up to a level is the one of its own level
own_prefix : (n : ℕ) (token : Lexeme) (op : Prefix) → prefix_up_to n token ≡ Some op → (prefix_level op ≤ n) × (prefix_at (prefix_level op) token ≡ Some op)
own_prefix n (t.Symbol (s.Operator o.Minus)) op h =
    let p = prefix_by (nat_le 1 n) prefixes.Negative op h in
    let le : 1 ≤ n = grind (arith, nat_tests, p.0) in
    rw (sym p.1) (le, refl)
own_prefix n (t.Symbol (s.Fixed x.Not)) op h =
    let p = prefix_by (nat_le 6 n) prefixes.Not op h in
    let le : 6 ≤ n = grind (arith, nat_tests, p.0) in
    rw (sym p.1) (le, refl)
own_prefix n (t.Symbol (s.Operator _)) op h = absurd cc
own_prefix n (t.Symbol (s.Fixed _)) op h = absurd cc
own_prefix n (t.Symbol (s.Constant y)) op h = absurd cc
own_prefix n (t.Symbol (s.Function y)) op h = absurd cc
own_prefix n (t.Symbol (s.Verb y)) op h = absurd cc
own_prefix n (t.Int y) op h = absurd cc
own_prefix n (t.Name y) op h = absurd cc
own_prefix n (t.Text y) op h = absurd cc
own_prefix n t.Bad op h = absurd cc

none_by : (a b : Bool) (p : Prefix) → (if a then Some p else None) ≡ None → (b ≡ true → a ≡ true) → (if b then Some p else None) ≡ None
none_by true b p h k = absurd cc
none_by false true p h k = absurd (let e : false ≡ true = k refl in cc)
none_by false false p h k = refl

-- no prefix up to a level is one of no level below
no_prefix_at : (n i : ℕ) (token : Lexeme) → prefix_up_to n token ≡ None → i ≤ n → prefix_at i token ≡ None
no_prefix_at n i (t.Symbol (s.Operator o.Minus)) h le = none_by (nat_le 1 n) (i == 1) prefixes.Negative h (λ e. grind (arith, nat_tests))
no_prefix_at n i (t.Symbol (s.Fixed x.Not)) h le = none_by (nat_le 6 n) (i == 6) prefixes.Not h (λ e. grind (arith, nat_tests))
no_prefix_at n i (t.Symbol (s.Operator _)) h le = refl
no_prefix_at n i (t.Symbol (s.Fixed _)) h le = refl
no_prefix_at n i (t.Symbol (s.Constant y)) h le = refl
no_prefix_at n i (t.Symbol (s.Function y)) h le = refl
no_prefix_at n i (t.Symbol (s.Verb y)) h le = refl
no_prefix_at n i (t.Int y) h le = refl
no_prefix_at n i (t.Name y) h le = refl
no_prefix_at n i (t.Text y) h le = refl
no_prefix_at n i t.Bad h le = refl

no_prefix_in : (n i : ℕ) (ts : List Lexeme) → prefix_next n ts ≡ None → i ≤ n → prefix_in i ts ≡ None
no_prefix_in n i [] h le = refl
no_prefix_in n i (token ∷ ts) h le = no_prefix_at n i token h le

not_equal : (i k : ℕ) → (i ≡ k → ⊥) → (i == k) ≡ false
not_equal i k h = grind (arith, nat_tests)

-- a prefix is none of another level
other_prefix : (i : ℕ) (token : Lexeme) (op : Prefix) → prefix_at (prefix_level op) token ≡ Some op → (i ≡ prefix_level op → ⊥) → prefix_at i token ≡ None
other_prefix i (t.Symbol (s.Operator o.Minus)) prefixes.Negative h k = rw (not_equal i 1 k) refl
other_prefix i (t.Symbol (s.Operator o.Minus)) prefixes.Not h k = absurd cc
other_prefix i (t.Symbol (s.Fixed x.Not)) prefixes.Not h k = rw (not_equal i 6 k) refl
other_prefix i (t.Symbol (s.Fixed x.Not)) prefixes.Negative h k = absurd cc
other_prefix i (t.Symbol (s.Operator _)) op h k = refl
other_prefix i (t.Symbol (s.Fixed _)) op h k = refl
other_prefix i (t.Symbol (s.Constant y)) op h k = refl
other_prefix i (t.Symbol (s.Function y)) op h k = refl
other_prefix i (t.Symbol (s.Verb y)) op h k = refl
other_prefix i (t.Int y) op h k = refl
other_prefix i (t.Name y) op h k = refl
other_prefix i (t.Text y) op h k = refl
other_prefix i t.Bad op h k = refl

-- no operator has the level of a prefix
no_such_operator : (op : Prefix) (y : Operator) → level_of y ≡ prefix_level op → ⊥
no_such_operator prefixes.Negative o.Or h = absurd cc
no_such_operator prefixes.Negative o.And h = absurd cc
no_such_operator prefixes.Negative o.Join h = absurd cc
no_such_operator prefixes.Negative o.Plus h = absurd cc
no_such_operator prefixes.Negative o.Minus h = absurd cc
no_such_operator prefixes.Negative o.Times h = absurd cc
no_such_operator prefixes.Negative o.Divide h = absurd cc
no_such_operator prefixes.Negative o.Remainder h = absurd cc
no_such_operator prefixes.Negative _ h = absurd cc
no_such_operator prefixes.Not o.Or h = absurd cc
no_such_operator prefixes.Not o.And h = absurd cc
no_such_operator prefixes.Not o.Join h = absurd cc
no_such_operator prefixes.Not o.Plus h = absurd cc
no_such_operator prefixes.Not o.Minus h = absurd cc
no_such_operator prefixes.Not o.Times h = absurd cc
no_such_operator prefixes.Not o.Divide h = absurd cc
no_such_operator prefixes.Not o.Remainder h = absurd cc
no_such_operator prefixes.Not _ h = absurd cc

no_joining_prefix : (op : Prefix) (token : Lexeme) → joining_at token ≡ prefix_level op → ⊥
no_joining_prefix op (t.Symbol (s.Operator y)) h = no_such_operator op y h
no_joining_prefix prefixes.Negative _ h = absurd cc
no_joining_prefix prefixes.Not _ h = absurd cc

none_of_prefix : (op : Prefix) (ts : List Lexeme) → operator_in (prefix_level op) ts ≡ None
none_of_prefix op [] = refl
none_of_prefix op (token ∷ ts) = none_at (prefix_level op) token (no_joining_prefix op token)

-- ---- what the readers take

-- the parts where no prefix comes
to_plain : (n : ℕ) (ps : List Part) (is : List Item) (d : ℕ) (ts : List Lexeme) → prefix_next n ts ≡ None → verdict (Level n ∷ ps) is d ts ≡ verdict (Level 0 ∷ (mores (n - 0) 0 ++ ps)) is d ts
to_plain n ps is d ts h = down (n - 0) n 0 ps is d ts (omega arith) (λ k lt le. no_prefix_in n k ts h le)

-- an operand without a prefix
pub plain_operand : (n d : ℕ) (ts rest : List Lexeme) (a : Expression) → prefix_next n ts ≡ None → Took (Level 0) [] d ts (ATree a ∷ []) (fits_at 0 d a) rest → TookOperand n 0 d ts a rest
plain_operand n d ts rest a h took = record {
  order = omega arith;
  took = record {
    shorter = took.shorter;
    spelled = took.spelled;
    good_one = took.good_one;
    goes_on = λ ps i. to_plain n ps i d ts h ∙ took.goes_on (mores (n - 0) 0 ++ ps) i;
  };
}

some_level : (op : Prefix) → 0 < prefix_level op
some_level prefixes.Negative = omega arith
some_level prefixes.Not = omega arith

-- the parts before a prefix, and behind it
to_prefix : (n : ℕ) (ps : List Part) (is : List Item) (d : ℕ) (first : Lexeme) (behind : List Lexeme) (op : Prefix) → prefix_next n (first ∷ behind) ≡ Some op → verdict (Level n ∷ ps) is d (first ∷ behind) ≡ verdict (Level (prefix_level op) ∷ (mores (n - prefix_level op) (prefix_level op) ++ ps)) is d (first ∷ behind)
to_prefix n ps is d first behind op h =
    let own = own_prefix n first op h in
    down (n - prefix_level op) n (prefix_level op) ps is d (first ∷ behind) (omega (arith, own.0)) (λ k lt le. other_prefix k first op own.1 (λ g. absurd (omega (arith, lt, g))))

to_prefixed : (n : ℕ) (ps : List Part) (is : List Item) (d : ℕ) (first : Lexeme) (behind : List Lexeme) (op : Prefix) → prefix_next n (first ∷ behind) ≡ Some op → verdict (Level n ∷ ps) is d (first ∷ behind) ≡ verdict (Level (prefix_level op - 1) ∷ Make (Prefixing op) ∷ More (prefix_level op) ∷ (mores (n - prefix_level op) (prefix_level op) ++ ps)) is d behind
to_prefixed n ps is d first behind op h =
    let p = prefix_level op in
    to_prefix n ps is d first behind op h ∙ prefixed p (mores (n - p) p ++ ps) is d first behind op (some_level op) (own_prefix n first op h).1

-- how an operand goes on, by the prefix that comes
abbrev pub operand_at : ℕ → Option Prefix → List Part → List Item → ℕ → List Lexeme → Verdict
operand_at n None ps is d ts = verdict (Level 0 ∷ (mores (n - 0) 0 ++ ps)) is d ts
operand_at n (Some op) ps is d [] = verdict (Level n ∷ ps) is d []
operand_at n (Some op) ps is d (first ∷ behind) = verdict (Level (prefix_level op - 1) ∷ Make (Prefixing op) ∷ More (prefix_level op) ∷ (mores (n - prefix_level op) (prefix_level op) ++ ps)) is d behind

pub operand_begins : (n : ℕ) (ps : List Part) (is : List Item) (d : ℕ) (ts : List Lexeme) → verdict (Level n ∷ ps) is d ts ≡ operand_at n (prefix_next n ts) ps is d ts
operand_begins n ps is d [] = to_plain n ps is d [] refl
operand_begins n ps is d (first ∷ behind) = by_prefix (prefix_next n (first ∷ behind)) refl
  where
    by_prefix : (p : Option Prefix) → prefix_next n (first ∷ behind) ≡ p → verdict (Level n ∷ ps) is d (first ∷ behind) ≡ operand_at n p ps is d (first ∷ behind)
    by_prefix None h = to_plain n ps is d (first ∷ behind) h
    by_prefix (Some op) h = to_prefixed n ps is d first behind op h

-- an operand behind its prefix
pub prefixed_operand : (n d : ℕ) (ts behind rest : List Lexeme) (op : Prefix) (first : Lexeme) (a b : Expression) → prefix_next n ts ≡ Some op → ts ≡ first ∷ behind → Took (Level (prefix_level op - 1)) [] d behind (ATree a ∷ []) (fits_at (prefix_level op - 1) d a) rest → b ≡ a → TookOperand n (prefix_level op) d ts (Unary op b) rest
prefixed_operand n d ts behind rest op first a b h e took same =
    let p = prefix_level op in
    let own = own_prefix n first op (ap (prefix_next n) (sym e) ∙ h) in
    let at : prefix_in p ts ≡ Some op = ap (prefix_in p) e ∙ own.1 in
    let one = unary_took p d ts behind rest op first a b (some_level op) at e took same in
    record {
      order = own.0;
      took = record {
        shorter = one.shorter;
        spelled = one.spelled;
        good_one = fits_unchained p d (Unary op b) one.good_one;
        goes_on = λ ps i. ap (verdict (Level n ∷ ps) i d) e ∙ to_prefix n ps i d first behind op (ap (prefix_next n) (sym e) ∙ h) ∙ ap (verdict (Level p ∷ (mores (n - p) p ++ ps)) i d) (sym e) ∙ one.goes_on (mores (n - p) p ++ ps) i ∙ skip_more p (mores (n - p) p ++ ps) (ATree (Unary op b) ∷ i) d rest (none_of_prefix op rest);
      };
    }

-- nothing was taken yet
pub no_chain : (n d : ℕ) (ts : List Lexeme) (a : Expression) → TookChain (More n ∷ []) n (chain_level n) d ts a a ts
no_chain n d ts a = record { shorter = omega arith; spelled = refl; good_one = λ h. h; goes_on = λ ps i. refl }

-- one operator more, with its right operand
pub chain_more : (n m d : ℕ) (more : List Part) (ts mid behind rest : List Lexeme) (op : Operator) (a b c : Expression) → TookChain (More n ∷ []) n (chain_level n) d ts a b mid → mid ≡ t.Symbol (s.Operator op) ∷ behind → level_of op ≡ n → Took (Level (n - 1)) [] d behind (ATree c ∷ []) (fits_at (n - 1) d c) rest → m ≡ n → more ≡ again n → TookChain more n m d ts a (Binary op b c) rest
chain_more n m d more ts mid behind rest op a b c left is on right at many =
    let le : nat_le (level_of op) m ≡ true = ap (λ i. nat_le i m) on ∙ ap (nat_le n) at ∙ le_self n in
    let fine_c : fits_at (level_of op - 1) d c ≡ true = ap (λ i. fits_at (i - 1) d c) on ∙ right.good_one in
    record {
      shorter = omega (arith, ap length is, left.shorter, right.shorter);
      spelled = left.spelled ∙ ap (λ l. spell_expression b ++ l) (is ∙ ap (λ l. t.Symbol (s.Operator op) ∷ l) right.spelled) ∙ sym (append_assoc (spell_expression b) (t.Symbol (s.Operator op) ∷ spell_expression c) rest);
      good_one = λ h.
          let fine_b : fits_at (left_level op) d b ≡ true = ap (λ i. fits_at (chain_level i) d b) on ∙ left.good_one h in
          rw le (and_join _ _ fine_b fine_c);
      goes_on = λ ps i. left.goes_on ps i ∙ ap (verdict (More n ∷ ps) (ATree b ∷ i) d) is ∙ operates n ps (ATree b ∷ i) d op behind on
          ∙ right.goes_on (Make (Operating op) ∷ (again n ++ ps)) (ATree b ∷ i) ∙ made (Operating op) (again n ++ ps) (ATree c ∷ ATree b ∷ i) d rest
          ∙ ap (λ l. verdict (l ++ ps) (ATree (Binary op b c) ∷ i) d rest) (sym many);
    }

-- no further operator comes
pub chain_ends : (n d : ℕ) (ts rest : List Lexeme) (a b : Expression) → TookChain (More n ∷ []) n (chain_level n) d ts a b rest → operator_in n rest ≡ None → TookChain [] n n d ts a b rest
chain_ends n d ts rest a b took none = record {
  shorter = took.shorter;
  spelled = took.spelled;
  good_one = λ h. fits_unchained n d b (took.good_one h);
  goes_on = λ ps i. took.goes_on ps i ∙ skip_more n ps (ATree b ∷ i) d rest none;
}

-- of the operators that may come those of the next level do
to_next : (n m k : ℕ) (ps : List Part) (is : List Item) (d : ℕ) (ts : List Lexeme) → m ≤ n → next_level m n ts ≡ Some k → verdict (mores (n - m) m ++ ps) is d ts ≡ verdict (More k ∷ (mores (n - k) k ++ ps)) is d ts
to_next n m k ps is d ts order next =
    let p = next_some m n k ts next in
    let whole : m + (n - m) - k ≡ n - k = omega (arith, order) in
    reaches (n - m) m k ps is d ts p.1.1 p.0 (omega (arith, order, p.1.0)) ∙ ap (λ i. verdict (More k ∷ (mores i k ++ ps)) is d ts) whole

-- which operators are still to come, by the level that comes next
abbrev pub mores_from : ℕ → Option ℕ → List Part → List Part
mores_from n None ps = ps
mores_from n (Some k) ps = More k ∷ (mores (n - k) k ++ ps)

pub next_begins : (n m : ℕ) (ps : List Part) (is : List Item) (d : ℕ) (ts : List Lexeme) → m ≤ n → verdict (mores (n - m) m ++ ps) is d ts ≡ verdict (mores_from n (next_level m n ts) ps) is d ts
next_begins n m ps is d ts order = by_level (next_level m n ts) refl
  where
    by_level : (next : Option ℕ) → next_level m n ts ≡ next → verdict (mores (n - m) m ++ ps) is d ts ≡ verdict (mores_from n next ps) is d ts
    by_level None h = past (n - m) m ps is d ts (λ k lt le. next_none m n ts h k lt (omega (arith, le, order)))
    by_level (Some k) h = to_next n m k ps is d ts order h

pub climbed : (n m k d : ℕ) (ts mid rest : List Lexeme) (a b : Expression) → TookOperand n m d ts a mid → next_level m n mid ≡ Some k → TookChain [] k k d mid a b rest → TookOperand n k d ts b rest
climbed n m k d ts mid rest a b left next right =
    let p = next_some m n k mid next in
    let below : m ≤ chain_level k = grind (arith, nat_tests, p.0) in
    record {
      order = p.1.0;
      took = record {
        shorter = omega (arith, left.took.shorter, right.shorter);
        spelled = left.took.spelled ∙ right.spelled;
        good_one = right.good_one (fits_weaker m (chain_level k) d a below left.took.good_one);
        goes_on = λ ps i. left.took.goes_on ps i ∙ to_next n m k ps (ATree a ∷ i) d mid left.order next ∙ right.goes_on (mores (n - k) k ++ ps) i;
      };
    }

-- no operator of the levels comes
pub climb_ends : (n m d : ℕ) (ts rest : List Lexeme) (a : Expression) → TookOperand n m d ts a rest → next_level m n rest ≡ None → Took (Level n) [] d ts (ATree a ∷ []) (fits_at n d a) rest
climb_ends n m d ts rest a took none = record {
  shorter = took.took.shorter;
  spelled = took.took.spelled;
  good_one = fits_weaker m n d a took.order took.took.good_one;
  goes_on = λ ps i. took.took.goes_on ps i ∙ past (n - m) m ps (ATree a ∷ i) d rest (λ k lt le. next_none m n rest none k lt (omega (arith, le, took.order)));
}
