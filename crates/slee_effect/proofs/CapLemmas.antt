-- Texts byte by byte, by the greatest bytes that can stand next; and texts that come after another.
use Rattle.std.proofs.Common.{◌≡◌, ℕ, zero, suc, ◌-◌, ◌<◌, ◌≤◌, Bool, true, false, cond, ltb, eqb, List, [], ◌∷◌, ◌++◌, length, take, drop, replicate, refl, sym, ap, subst, ◌∙◌, arith, inl, inr, ◌⊎◌, IsUtf8}
use Rattle.std.proofs.lemmas.Bool.{cases_lt, lt-ltb, le-ltb, ltb-true, ltb-false, ne_eqb, eqb-true}
use Rattle.std.proofs.lemmas.List.{length-append, length-replicate, take_at, drop_at}
use Rattle.std.proofs.lemmas.Str.{IsUtf8-nil, IsUtf8-append, IsUtf8-drop, IsCharBoundary-from_take}
use Rattle.slee_value.specs.Order.{is_below}
use Rattle.slee_value.proofs.Utf8Lemmas.{Second, IsTwo, IsThree, IsFour, one_is_text, two_is_text, three_is_text, four_is_text, Head, one_byte, two_bytes, three_bytes, four_bytes, head_of}
use Rattle.slee_effect.specs.Rising.{greatest_behind, greatest_first, greatest_next, behind_next, further, reach_in}
use Rattle.slee_effect.proofs.BelowLemmas.{below_less, below_same}

-- the least byte that can stand behind this one
abbrev pub low_behind : ℕ → ℕ
low_behind b = cond (eqb b 224) 160 (cond (eqb b 240) 144 128)

abbrev pub IsFirst : ℕ → Type 0
IsFirst b = (b < 128) ⊎ ((194 ≤ b) × (b < 245))

-- Behind a begun character that ends at most with these bytes, the next of them being at least low, stand
-- these bytes, and with them all characters are whole.
abbrev pub Goes : ℕ → List ℕ → List ℕ → Type 0
Goes low [] [] = Unit {0}
Goes low (c ∷ cs) [] = ⊥
Goes low [] (b ∷ text) = IsFirst b × Goes (low_behind b) (greatest_behind b) text
Goes low (c ∷ cs) (b ∷ text) = (low ≤ b) × ((b ≤ c) × Goes 128 cs text)

-- ---- the bytes behind the first of a character

caps_one : (a : ℕ) → a < 128 → greatest_behind a ≡ []
caps_one a h = rw (lt-ltb a 128 h) refl

caps_two : (a : ℕ) → 128 ≤ a → a < 224 → greatest_behind a ≡ 191 ∷ []
caps_two a l h = rw (le-ltb a 128 l, lt-ltb a 224 h) refl

caps_three : (a : ℕ) → 224 ≤ a → a < 240 → ¬ (a ≡ 237) → greatest_behind a ≡ 191 ∷ 191 ∷ []
caps_three a l h n = rw (le-ltb a 128 (omega arith), le-ltb a 224 l, ne_eqb a 237 n, lt-ltb a 240 h) refl

caps_four : (a : ℕ) → 240 ≤ a → ¬ (a ≡ 244) → greatest_behind a ≡ 191 ∷ 191 ∷ 191 ∷ []
caps_four a l n = rw (le-ltb a 128 (omega arith), le-ltb a 224 (omega arith), ne_eqb a 237 (λ e. omega arith), le-ltb a 240 l, ne_eqb a 244 n) refl

low_least : (b : ℕ) → 128 ≤ low_behind b
low_least b = by (eqb b 224) (eqb b 240)
  where
    by : (s t : Bool) → 128 ≤ cond s 160 (cond t 144 128)
    by true t = omega arith
    by false true = omega arith
    by false false = omega arith

low_most : (b x : ℕ) → 128 ≤ x → (b ≡ 224 → 160 ≤ x) → (b ≡ 240 → 144 ≤ x) → low_behind b ≤ x
low_most b x l h k = by (eqb b 224) refl (eqb b 240) refl
  where
    by : (s : Bool) → eqb b 224 ≡ s → (t : Bool) → eqb b 240 ≡ t → cond s 160 (cond t 144 128) ≤ x
    by true p t q = h (eqb-true _ _ p)
    by false p true q = k (eqb-true _ _ q)
    by false p false q = l

-- ---- texts go so

behind : (front rest text : List ℕ) → IsUtf8 front → IsUtf8 text → text ≡ front ++ rest → IsUtf8 rest
behind front rest text f u e =
    let le : length front ≤ length text = omega (arith, ap length e, length-append front rest) in
    let cut : take (length front) text ≡ front = ap (take (length front)) e ∙ take_at front rest (length front) refl in
    let left : drop (length front) text ≡ rest = ap (drop (length front)) e ∙ drop_at front rest (length front) refl in
    subst IsUtf8 left (IsUtf8-drop text (length front) u (IsCharBoundary-from_take text (length front) u le (subst IsUtf8 (sym cut) f)))

-- a byte that follows is no greater than the greatest
data Three (a b : ℕ) : Type 0 where
  most_three : (c : ℕ) → greatest_behind a ≡ c ∷ 191 ∷ [] → b ≤ c → Three a b

three_caps : (a b d : ℕ) → IsThree a b d → Three a b
three_caps a b d h = elim (cases_lt a 237) [
  | inl k ↦ most_three 191 (caps_three a h.low h.high (λ e. omega arith)) (omega (arith, h.second.follows))
  | inr k ↦ (elim (cases_lt 237 a) [
    | inl m ↦ most_three 191 (caps_three a h.low h.high (λ e. omega arith)) (omega (arith, h.second.follows))
    | inr m ↦ (let e : a ≡ 237 = omega arith in most_three 159 (ap greatest_behind e) (omega (arith, h.second.after_237 e)))
  ])
]

data Four (a b : ℕ) : Type 0 where
  most_four : (c : ℕ) → greatest_behind a ≡ c ∷ 191 ∷ 191 ∷ [] → b ≤ c → Four a b

four_caps : (a b d e : ℕ) → IsFour a b d e → Four a b
four_caps a b d e h = elim (cases_lt a 244) [
  | inl k ↦ most_four 191 (caps_four a h.low (λ q. omega arith)) (omega (arith, h.second.follows))
  | inr k ↦ (let q : a ≡ 244 = omega (arith, h.high) in most_four 143 (ap greatest_behind q) (omega (arith, h.second.after_244 q)))
]

low_of : (a b : ℕ) → Second a b → low_behind a ≤ b
low_of a b s = low_most a b (omega (arith, s.follows)) s.after_224 s.after_240

module _ (n : ℕ) (next : (low : ℕ) (text : List ℕ) → length text ≤ n → IsUtf8 text → Goes low [] text) where
  goes_one : (low a : ℕ) (rest : List ℕ) → length rest ≤ n → IsUtf8 (a ∷ rest) → a < 128 → Goes low [] (a ∷ rest)
  goes_one low a rest le u h =
      (inl h, subst (λ (cs : List ℕ). Goes (low_behind a) cs rest) (sym (caps_one a h)) (next (low_behind a) rest le (behind (a ∷ []) rest (a ∷ rest) (one_is_text a h) u refl)))

  goes_two : (low a b : ℕ) (rest : List ℕ) → length rest ≤ n → IsUtf8 (a ∷ b ∷ rest) → IsTwo a b → Goes low [] (a ∷ b ∷ rest)
  goes_two low a b rest le u h =
      let go : Goes (low_behind a) (191 ∷ []) (b ∷ rest) = (low_most a b (omega (arith, h.second)) (λ e. absurd (omega (arith, h.high))) (λ e. absurd (omega (arith, h.high))), (omega (arith, h.second), next 128 rest le (behind (a ∷ b ∷ []) rest (a ∷ b ∷ rest) (two_is_text a b h) u refl))) in
      (inr (h.low, omega (arith, h.high)), subst (λ (cs : List ℕ). Goes (low_behind a) cs (b ∷ rest)) (sym (caps_two a (omega (arith, h.low)) h.high)) go)

  goes_three : (low a b d : ℕ) (rest : List ℕ) → length rest ≤ n → IsUtf8 (a ∷ b ∷ d ∷ rest) → IsThree a b d → Goes low [] (a ∷ b ∷ d ∷ rest)
  goes_three low a b d rest le u h = by (three_caps a b d h)
    where
      by : Three a b → Goes low [] (a ∷ b ∷ d ∷ rest)
      by (most_three c e k) =
          let go : Goes (low_behind a) (c ∷ 191 ∷ []) (b ∷ d ∷ rest) = (low_of a b h.second, (k, (omega (arith, h.third), (omega (arith, h.third), next 128 rest le (behind (a ∷ b ∷ d ∷ []) rest (a ∷ b ∷ d ∷ rest) (three_is_text a b d h) u refl))))) in
          (inr (omega (arith, h.low), omega (arith, h.high)), subst (λ (cs : List ℕ). Goes (low_behind a) cs (b ∷ d ∷ rest)) (sym e) go)

  goes_four : (low a b d e : ℕ) (rest : List ℕ) → length rest ≤ n → IsUtf8 (a ∷ b ∷ d ∷ e ∷ rest) → IsFour a b d e → Goes low [] (a ∷ b ∷ d ∷ e ∷ rest)
  goes_four low a b d e rest le u h = by (four_caps a b d e h)
    where
      by : Four a b → Goes low [] (a ∷ b ∷ d ∷ e ∷ rest)
      by (most_four c q k) =
          let go : Goes (low_behind a) (c ∷ 191 ∷ 191 ∷ []) (b ∷ d ∷ e ∷ rest) = (low_of a b h.second, (k, (omega (arith, h.third), (omega (arith, h.third), (omega (arith, h.fourth), (omega (arith, h.fourth), next 128 rest le (behind (a ∷ b ∷ d ∷ e ∷ []) rest (a ∷ b ∷ d ∷ e ∷ rest) (four_is_text a b d e h) u refl))))))) in
          (inr (omega (arith, h.low), omega (arith, h.high)), subst (λ (cs : List ℕ). Goes (low_behind a) cs (b ∷ d ∷ e ∷ rest)) (sym q) go)

  goes_head : (low : ℕ) (text : List ℕ) → length text ≤ suc n → IsUtf8 text → Head text → Goes low [] text
  goes_head low text le u (one_byte a rest h e) = subst (Goes low []) (sym e) (goes_one low a rest (omega (arith, ap length e)) (subst IsUtf8 e u) h)
  goes_head low text le u (two_bytes a b rest h e) = subst (Goes low []) (sym e) (goes_two low a b rest (omega (arith, ap length e)) (subst IsUtf8 e u) h)
  goes_head low text le u (three_bytes a b d rest h e) = subst (Goes low []) (sym e) (goes_three low a b d rest (omega (arith, ap length e)) (subst IsUtf8 e u) h)
  goes_head low text le u (four_bytes a b d c rest h e) = subst (Goes low []) (sym e) (goes_four low a b d c rest (omega (arith, ap length e)) (subst IsUtf8 e u) h)

goes_up_to : (n low : ℕ) (text : List ℕ) → length text ≤ n → IsUtf8 text → Goes low [] text
goes_up_to n low [] le u = tt
goes_up_to zero low (b ∷ text) le u = absurd (omega arith)
goes_up_to (suc n) low (b ∷ text) le u = goes_head n (λ l t. goes_up_to n l t) low (b ∷ text) le u (head_of (b ∷ text) u (omega arith))

pub goes_of : (low : ℕ) (text : List ℕ) → IsUtf8 text → Goes low [] text
goes_of low text u = goes_up_to (length text) low text (omega arith) u

-- ---- what goes so is a text

text_ended : (a : ℕ) (cs : List ℕ) (c low : ℕ) → Goes low (c ∷ cs) [] → IsUtf8 (a ∷ [])
text_ended a cs c low g = absurd g

module _ (n : ℕ) (next : (low : ℕ) (text : List ℕ) → length text ≤ n → Goes low [] text → IsUtf8 text) where
  text_two : (a : ℕ) (text : List ℕ) → length text ≤ n → 194 ≤ a → a < 224 → Goes (low_behind a) (191 ∷ []) text → IsUtf8 (a ∷ text)
  text_two a [] le l h g = absurd g
  text_two a (b ∷ rest) le l h g =
      IsUtf8-append (a ∷ b ∷ []) rest (two_is_text a b (record { low = l; high = h; second = (omega (arith, g.0, low_least a), omega (arith, g.1.0)) })) (next 128 rest (omega arith) g.1.1)

  text_three : (a c : ℕ) (text : List ℕ) → length text ≤ n → 224 ≤ a → a < 240 → c ≤ 191 → (a ≡ 237 → c < 160) → Goes (low_behind a) (c ∷ 191 ∷ []) text → IsUtf8 (a ∷ text)
  text_three a c [] le l h m k g = absurd g
  text_three a c (b ∷ []) le l h m k g = absurd g.1.1
  text_three a c (b ∷ d ∷ rest) le l h m k g =
      let second : Second a b = record {
        follows = (omega (arith, g.0, low_least a), omega (arith, g.1.0));
        after_224 = λ e. subst (λ (x : ℕ). low_behind x ≤ b) e g.0;
        after_237 = λ e. omega (arith, g.1.0, k e);
        after_240 = λ e. absurd (omega arith);
        after_244 = λ e. absurd (omega arith);
      } in
      IsUtf8-append (a ∷ b ∷ d ∷ []) rest (three_is_text a b d (record { low = l; high = h; second = second; third = (g.1.1.0, omega (arith, g.1.1.1.0)) })) (next 128 rest (omega arith) g.1.1.1.1)

  text_four : (a c : ℕ) (text : List ℕ) → length text ≤ n → 240 ≤ a → a < 245 → c ≤ 191 → (a ≡ 244 → c < 144) → Goes (low_behind a) (c ∷ 191 ∷ 191 ∷ []) text → IsUtf8 (a ∷ text)
  text_four a c [] le l h m k g = absurd g
  text_four a c (b ∷ []) le l h m k g = absurd g.1.1
  text_four a c (b ∷ d ∷ []) le l h m k g = absurd g.1.1.1.1
  text_four a c (b ∷ d ∷ e ∷ rest) le l h m k g =
      let second : Second a b = record {
        follows = (omega (arith, g.0, low_least a), omega (arith, g.1.0));
        after_224 = λ q. absurd (omega arith);
        after_237 = λ q. absurd (omega arith);
        after_240 = λ q. subst (λ (x : ℕ). low_behind x ≤ b) q g.0;
        after_244 = λ q. omega (arith, g.1.0, k q);
      } in
      IsUtf8-append (a ∷ b ∷ d ∷ e ∷ []) rest (four_is_text a b d e (record { low = l; high = h; second = second; third = (g.1.1.0, omega (arith, g.1.1.1.0)); fourth = (g.1.1.1.1.0, omega (arith, g.1.1.1.1.1.0)) })) (next 128 rest (omega arith) g.1.1.1.1.1.1)

  text_cons : (a : ℕ) (text : List ℕ) → length text ≤ n → IsFirst a → Goes (low_behind a) (greatest_behind a) text → IsUtf8 (a ∷ text)
  text_cons a text le (inl h) g = IsUtf8-append (a ∷ []) text (one_is_text a h) (next (low_behind a) text le (subst (λ (cs : List ℕ). Goes (low_behind a) cs text) (caps_one a h) g))
  text_cons a text le (inr h) g = by (cases_lt a 224) (cases_lt a 240) (cases_lt a 237) (cases_lt 237 a) (cases_lt a 244)
    where
      so : (cs : List ℕ) → greatest_behind a ≡ cs → Goes (low_behind a) cs text
      so cs e = subst (λ (c : List ℕ). Goes (low_behind a) c text) e g

      plain_three : 224 ≤ a → a < 240 → ¬ (a ≡ 237) → IsUtf8 (a ∷ text)
      plain_three l k ne = text_three a 191 text le l k (omega arith) (λ e. absurd (ne e)) (so (191 ∷ 191 ∷ []) (caps_three a l k ne))

      by : (a < 224) ⊎ (224 ≤ a) → (a < 240) ⊎ (240 ≤ a) → (a < 237) ⊎ (237 ≤ a) → (237 < a) ⊎ (a ≤ 237) → (a < 244) ⊎ (244 ≤ a) → IsUtf8 (a ∷ text)
      by (inl k) _ _ _ _ = text_two a text le h.0 k (so (191 ∷ []) (caps_two a (omega (arith, h.0)) k))
      by (inr l) (inl k) (inl m) _ _ = plain_three l k (λ e. omega arith)
      by (inr l) (inl k) (inr m) (inl o) _ = plain_three l k (λ e. omega arith)
      by (inr l) (inl k) (inr m) (inr o) _ = (let e : a ≡ 237 = omega arith in text_three a 159 text le l k (omega arith) (λ q. omega arith) (so (159 ∷ 191 ∷ []) (ap greatest_behind e)))
      by (inr l) (inr k) _ _ (inl m) = text_four a 191 text le k h.1 (omega arith) (λ e. absurd (omega arith)) (so (191 ∷ 191 ∷ 191 ∷ []) (caps_four a k (λ e. omega arith)))
      by (inr l) (inr k) _ _ (inr m) = (let e : a ≡ 244 = omega (arith, h.1) in text_four a 143 text le k h.1 (omega arith) (λ q. omega arith) (so (143 ∷ 191 ∷ 191 ∷ []) (ap greatest_behind e)))

text_up_to : (n low : ℕ) (text : List ℕ) → length text ≤ n → Goes low [] text → IsUtf8 text
text_up_to n low [] le g = IsUtf8-nil
text_up_to zero low (b ∷ text) le g = absurd (omega arith)
text_up_to (suc n) low (b ∷ text) le g = text_cons n (λ l t. text_up_to n l t) b text (omega arith) g.0 g.1

pub text_of : (low : ℕ) (text : List ℕ) → Goes low [] text → IsUtf8 text
text_of low text g = text_up_to (length text) low text (omega arith) g

-- ---- texts are made

pub letters_go : (low n : ℕ) → Goes low [] (replicate n 97)
letters_go low zero = tt
letters_go low (suc n) = (inl (omega arith), letters_go 128 n)

-- a begun character ended, and letters behind it
filled_goes : (low : ℕ) (caps text : List ℕ) (n : ℕ) → Goes low caps text → Goes low caps (caps ++ replicate n 97)
filled_goes low [] text n g = letters_go low n
filled_goes low (c ∷ cs) [] n g = absurd g
filled_goes low (c ∷ cs) (b ∷ text) n g = (omega (arith, g.0, g.1.0), (omega arith, filled_goes 128 cs text n g.1.1))

-- the least byte that can stand behind one byte more
abbrev low_next : List ℕ → ℕ → ℕ
low_next [] b = low_behind b
low_next (c ∷ cs) b = 128

goes_tail : (low : ℕ) (caps : List ℕ) (b : ℕ) (text : List ℕ) → Goes low caps (b ∷ text) → Goes (low_next caps b) (behind_next caps b) text
goes_tail low [] b text g = g.1
goes_tail low (c ∷ cs) b text g = g.1.1

goes_cons : (low : ℕ) (caps : List ℕ) (b : ℕ) (text other : List ℕ) → Goes low caps (b ∷ text) → Goes (low_next caps b) (behind_next caps b) other → Goes low caps (b ∷ other)
goes_cons low [] b text other g h = (g.0, h)
goes_cons low (c ∷ cs) b text other g h = (g.0, (g.1.0, h))

-- a text of this length that comes after the one before, and has k bytes in common with it
pub record Above (low : ℕ) (caps before : List ℕ) (n k : ℕ) : Type 0 where
  pub text : List ℕ
  pub goes : Goes low caps text
  pub len : length text ≡ n
  pub above : is_below before text ≡ true
  pub same : take k text ≡ take k before

above_cons : (low : ℕ) (caps : List ℕ) (b : ℕ) (bs : List ℕ) (n k : ℕ) → Goes low caps (b ∷ bs) → Above (low_next caps b) (behind_next caps b) bs n k → Above low caps (b ∷ bs) (suc n) (suc k)
above_cons low caps b bs n k g a = record {
  text = b ∷ a.text;
  goes = goes_cons low caps b bs a.text g a.goes;
  len = ap suc a.len;
  above = below_same b b bs a.text (omega arith) (omega arith) ∙ a.above;
  same = ap (λ (t : List ℕ). b ∷ t) a.same;
}

first_four : (n : ℕ) → greatest_first (suc (suc (suc (suc n)))) ≡ 244
first_four n = rw (ne_eqb (suc (suc (suc (suc n)))) 1 (λ e. omega arith), ne_eqb (suc (suc (suc (suc n)))) 2 (λ e. omega arith), ne_eqb (suc (suc (suc (suc n)))) 3 (λ e. omega arith)) refl

above_first : (low b : ℕ) (bs : List ℕ) (n : ℕ) → b < greatest_first (suc n) → Above low [] (b ∷ bs) (suc n) 0
above_first low b bs zero h = record { text = 127 ∷ []; goes = (inl (omega arith), tt); len = refl; above = below_less b 127 bs [] h; same = refl }
above_first low b bs (suc zero) h = record { text = 223 ∷ 191 ∷ []; goes = (inr (omega arith, omega arith), (omega arith, (omega arith, tt))); len = refl; above = below_less b 223 bs (191 ∷ []) h; same = refl }
above_first low b bs (suc (suc zero)) h = record { text = 239 ∷ 191 ∷ 191 ∷ []; goes = (inr (omega arith, omega arith), (omega arith, (omega arith, (omega arith, (omega arith, tt))))); len = refl; above = below_less b 239 bs (191 ∷ 191 ∷ []) h; same = refl }
above_first low b bs (suc (suc (suc n))) h = record {
  text = 244 ∷ 143 ∷ 191 ∷ 191 ∷ replicate n 97;
  goes = (inr (omega arith, omega arith), (omega arith, (omega arith, (omega arith, (omega arith, (omega arith, (omega arith, letters_go 128 n)))))));
  len = ap (λ (m : ℕ). suc (suc (suc (suc m)))) (length-replicate {A = ℕ} n 97);
  above = below_less b 244 bs (143 ∷ 191 ∷ 191 ∷ replicate n 97) (omega (arith, h, first_four n));
  same = refl;
}

above_begun : (low c : ℕ) (cs : List ℕ) (b : ℕ) (bs : List ℕ) (n : ℕ) → Goes low (c ∷ cs) (b ∷ bs) → b < greatest_next (c ∷ cs) (suc n) → Above low (c ∷ cs) (b ∷ bs) (suc n) 0
above_begun low c cs b bs n g h = by (ltb (suc n) (suc (length cs))) refl h
  where
    by : (t : Bool) → ltb (suc n) (suc (length cs)) ≡ t → b < cond t 0 c → Above low (c ∷ cs) (b ∷ bs) (suc n) 0
    by true e k = absurd (omega arith)
    by false e k =
        let room : suc (length cs) ≤ suc n = ltb-false _ _ e in
        let more : List ℕ = replicate (n - length cs) 97 in
        record {
          text = c ∷ (cs ++ more);
          goes = (omega (arith, g.0), (omega arith, filled_goes 128 cs bs (n - length cs) g.1.1));
          len = omega (arith, length-append cs more, length-replicate {A = ℕ} (n - length cs) 97);
          above = below_less b c bs (cs ++ more) k;
          same = refl;
        }

above_next : (low : ℕ) (caps : List ℕ) (b : ℕ) (bs : List ℕ) (n : ℕ) → Goes low caps (b ∷ bs) → b < greatest_next caps (suc n) → Above low caps (b ∷ bs) (suc n) 0
above_next low [] b bs n g h = above_first low b bs n h
above_next low (c ∷ cs) b bs n g h = above_begun low c cs b bs n g h

pub reach_above : (before : List ℕ) (n k low : ℕ) (caps : List ℕ) → Goes low caps before → reach_in caps before n ≡ suc k → Above low caps before n k
reach_above before zero k low caps g e = absurd (omega (arith, e))
reach_above [] (suc n) k low caps g e = absurd (omega (arith, e))
reach_above (b ∷ bs) (suc n) k low caps g e =
    by (λ j q. reach_above bs n j (low_next caps b) (behind_next caps b) (goes_tail low caps b bs g) q) (reach_in (behind_next caps b) bs n) refl (ltb b (greatest_next caps (suc n))) refl e
  where
    by : ((j : ℕ) → reach_in (behind_next caps b) bs n ≡ suc j → Above (low_next caps b) (behind_next caps b) bs n j) → (r : ℕ) → reach_in (behind_next caps b) bs n ≡ r → (t : Bool) → ltb b (greatest_next caps (suc n)) ≡ t → further r t ≡ suc k → Above low caps (b ∷ bs) (suc n) k
    by next (suc r) q t s h = subst (Above low caps (b ∷ bs) (suc n)) (let i : suc r ≡ k = omega (arith, h) in i) (above_cons low caps b bs n r g (next r q))
    by next zero q true s h = subst (Above low caps (b ∷ bs) (suc n)) (let i : 0 ≡ k = omega (arith, h) in i) (above_next low caps b bs n g (ltb-true _ _ s))
    by next zero q false s h = absurd (omega (arith, h))

-- ---- a text that comes after another parts from it within reach

caps_fit : (low : ℕ) (caps text : List ℕ) → Goes low caps text → length caps ≤ length text
caps_fit low [] text g = omega arith
caps_fit low (c ∷ cs) [] g = absurd g
caps_fit low (c ∷ cs) (b ∷ text) g = omega (arith, caps_fit 128 cs text g.1.1)

caps_len : (a : ℕ) → 128 ≤ a → 1 ≤ length (greatest_behind a)
caps_len a l = rw (le-ltb a 128 l) (by (ltb a 224) (eqb a 237) (ltb a 240) (eqb a 244))
  where
    by : (p q r s : Bool) → 1 ≤ length {A = ℕ} (cond p (191 ∷ []) (cond q (159 ∷ 191 ∷ []) (cond r (191 ∷ 191 ∷ []) (cond s (143 ∷ 191 ∷ 191 ∷ []) (191 ∷ 191 ∷ 191 ∷ [])))))
    by true q r s = omega arith
    by false true r s = omega arith
    by false false true s = omega arith
    by false false false true = omega arith
    by false false false false = omega arith

caps_len_three : (a : ℕ) → 224 ≤ a → 2 ≤ length (greatest_behind a)
caps_len_three a l = rw (le-ltb a 128 (omega arith), le-ltb a 224 l) (by (eqb a 237) (ltb a 240) (eqb a 244))
  where
    by : (q r s : Bool) → 2 ≤ length {A = ℕ} (cond q (159 ∷ 191 ∷ []) (cond r (191 ∷ 191 ∷ []) (cond s (143 ∷ 191 ∷ 191 ∷ []) (191 ∷ 191 ∷ 191 ∷ []))))
    by true r s = omega arith
    by false true s = omega arith
    by false false true = omega arith
    by false false false = omega arith

caps_len_four : (a : ℕ) → 240 ≤ a → 3 ≤ length (greatest_behind a)
caps_len_four a l = rw (le-ltb a 128 (omega arith), le-ltb a 224 (omega arith), ne_eqb a 237 (λ e. omega arith), le-ltb a 240 l) (by (eqb a 244))
  where
    by : (s : Bool) → 3 ≤ length {A = ℕ} (cond s (143 ∷ 191 ∷ 191 ∷ []) (191 ∷ 191 ∷ 191 ∷ []))
    by true = omega arith
    by false = omega arith

first_most : (a n : ℕ) → IsFirst a → length (greatest_behind a) ≤ n → a ≤ greatest_first (suc n)
first_most a zero (inl h) le = omega arith
first_most a zero (inr h) le = absurd (omega (arith, caps_len a (omega (arith, h.0))))
first_most a (suc zero) (inl h) le = omega arith
first_most a (suc zero) (inr h) le = elim (cases_lt a 224) [
  | inl k ↦ omega arith
  | inr k ↦ absurd (omega (arith, caps_len_three a k))
]
first_most a (suc (suc zero)) (inl h) le = omega arith
first_most a (suc (suc zero)) (inr h) le = elim (cases_lt a 240) [
  | inl k ↦ omega arith
  | inr k ↦ absurd (omega (arith, caps_len_four a k))
]
first_most a (suc (suc (suc n))) (inl h) le = omega (arith, first_four n)
first_most a (suc (suc (suc n))) (inr h) le = omega (arith, h.1, first_four n)

-- no text has a greater byte next
pub next_most : (low : ℕ) (caps : List ℕ) (b : ℕ) (text : List ℕ) → Goes low caps (b ∷ text) → b ≤ greatest_next caps (suc (length text))
next_most low [] b text g = first_most b (length text) g.0 (caps_fit (low_behind b) (greatest_behind b) text g.1)
next_most low (c ∷ cs) b text g = rw (le-ltb (suc (length text)) (suc (length cs)) (omega (arith, caps_fit 128 cs text g.1.1))) g.1.0

-- the text behind its next byte
pub goes_on : (low : ℕ) (caps : List ℕ) (b : ℕ) (text : List ℕ) → Goes low caps (b ∷ text) → (more : ℕ) × Goes more (behind_next caps b) text
goes_on low caps b text g = (low_next caps b, goes_tail low caps b text g)
