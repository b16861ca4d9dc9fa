-- Of the digits that are noted, these are the first three.
use Rattle.std.proofs.Common.{◌≡◌, ◌∙◌, ◌+◌, ◌&&◌, ℕ, zero, suc, Bool, true, false, List, [], ◌∷◌, ◌++◌, cond, filter, take, length, nat_lt, refl, ap, sym, arith}
use Rattle.std.specs.Prelude.{if◌then◌else◌}
use Rattle.std.specs.List.{fold}
use Rattle.std.proofs.lemmas.List.{length-append}
use Rattle.std.proofs.lemmas.Bool.Decides.{nat_tests}
use Rattle.slee_value.specs.Name.{is_digit}
use Rattle.initial_select.specs.Digits.{noted}

-- three are enough
full : (ys xs : List ℕ) → length ys ≡ 3 → fold noted ys xs ≡ ys
full ys [] three = refl
full ys (x ∷ xs) three = ap (λ (zs : List ℕ). fold noted zs xs) (ap (λ (n : ℕ). if nat_lt n 3 && is_digit x then ys ++ x ∷ [] else ys) three) ∙ full ys xs three

nothing : (n : ℕ) (ys : List ℕ) → ys ++ take n [] ≡ ys
nothing zero [] = refl
nothing (suc n) [] = refl
nothing n (y ∷ ys) = ap (λ (zs : List ℕ). y ∷ zs) (nothing n ys)

behind : (ys zs : List ℕ) (x : ℕ) → (ys ++ x ∷ []) ++ zs ≡ ys ++ x ∷ zs
behind [] zs x = refl
behind (y ∷ ys) zs x = ap (λ (ws : List ℕ). y ∷ ws) (behind ys zs x)

one_more : (ys : List ℕ) (x n : ℕ) → length ys + suc n ≡ 3 → length (ys ++ x ∷ []) + n ≡ 3
one_more ys x n h = omega (arith, h, length-append ys (x ∷ []))

below : (ys : List ℕ) (n : ℕ) → length ys + suc n ≡ 3 → nat_lt (length ys) 3 ≡ true
below ys n h = grind (arith, nat_tests)

at_byte : (n : ℕ) (ys : List ℕ) (x : ℕ) (xs : List ℕ) (digit : Bool) → is_digit x ≡ digit → length ys + suc n ≡ 3 → ((m : ℕ) (zs : List ℕ) → length zs + m ≡ 3 → fold noted zs xs ≡ zs ++ take m (filter is_digit xs)) → fold noted (noted ys x) xs ≡ ys ++ take (suc n) (filter is_digit (x ∷ xs))
at_byte n ys x xs true is h others =
    ap (λ (zs : List ℕ). fold noted zs xs) (ap (λ (b : Bool). if b && is_digit x then ys ++ x ∷ [] else ys) (below ys n h) ∙ ap (λ (b : Bool). if b then ys ++ x ∷ [] else ys) is)
    ∙ others n (ys ++ x ∷ []) (one_more ys x n h)
    ∙ behind ys (take n (filter is_digit xs)) x
    ∙ ap (λ (b : Bool). ys ++ take (suc n) (cond b (x ∷ filter is_digit xs) (filter is_digit xs))) (sym is)
at_byte n ys x xs false is h others =
    ap (λ (zs : List ℕ). fold noted zs xs) (ap (λ (b : Bool). if b && is_digit x then ys ++ x ∷ [] else ys) (below ys n h) ∙ ap (λ (b : Bool). if b then ys ++ x ∷ [] else ys) is)
    ∙ others (suc n) ys h
    ∙ ap (λ (b : Bool). ys ++ take (suc n) (cond b (x ∷ filter is_digit xs) (filter is_digit xs))) (sym is)

noted_on : (n : ℕ) (ys xs : List ℕ) → length ys + n ≡ 3 → fold noted ys xs ≡ ys ++ take n (filter is_digit xs)
noted_on n ys [] h = sym (nothing n ys)
noted_on zero ys (x ∷ xs) h = full ys (x ∷ xs) (omega (arith, h)) ∙ sym (nothing zero ys)
noted_on (suc n) ys (x ∷ xs) h = at_byte n ys x xs (is_digit x) refl h (λ m zs e. noted_on m zs xs e)

pub three_noted : (xs : List ℕ) → fold noted [] xs ≡ take 3 (filter is_digit xs)
three_noted xs = noted_on 3 [] xs refl
