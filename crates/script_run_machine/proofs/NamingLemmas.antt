-- Names are told apart by their numbers.
use Rattle.std.proofs.Common.{◌≡◌, ℕ, ◌==◌, List, [], Bool, true, false, Some, None, refl, sym, ap, ◌∙◌, arith}
use Rattle.std.specs.Str.{bytes_eq}
use Rattle.std.proofs.lemmas.List.Quantifiers.{position-Some}
use Rattle.std.proofs.lemmas.Slice.Eq.{bytes_eq-Decides}
use Rattle.script_types.specs.Codes.{number_in}
use Rattle.script_run_machine.proofs.KeyLemmas.{names_turned}

some_same : {m n : ℕ} → Some m ≡ Some n → m ≡ n
some_same h = cc

-- the same name has one number
one_number : (names : List (List ℕ)) (x y : List ℕ) → bytes_eq x y ≡ true → number_in names x ≡ number_in names y
one_number names x y same = ap (λ z. number_in names z) ((bytes_eq-Decides x y).0 same)

-- and the name of a number is that which stands there
by_number : (names : List (List ℕ)) (x y : List ℕ) (n : ℕ) → number_in names x ≡ Some n → number_in names y ≡ Some n → x ≡ y
by_number names x y n here there =
    let one = position-Some (λ z. bytes_eq z x) names n [] here in
    let other = position-Some (λ z. bytes_eq z y) names n [] there in
    sym ((bytes_eq-Decides _ x).0 one.1) ∙ (bytes_eq-Decides _ y).0 other.1

same_at : (names : List (List ℕ)) (x y : List ℕ) (m n : ℕ) (a b : Bool) → number_in names x ≡ Some m → number_in names y ≡ Some n → (m == n) ≡ a → bytes_eq x y ≡ b → a ≡ b
same_at names x y m n true true here there e f = refl
same_at names x y m n false false here there e f = refl
same_at names x y m n true false here there e f =
    let same : m ≡ n = grind arith in
    sym ((bytes_eq-Decides x y).1 (by_number names x y n (here ∙ ap Some same) there)) ∙ f
same_at names x y m n false true here there e f =
    let same : m ≡ n = some_same (sym here ∙ one_number names x y f ∙ there) in
    grind arith

pub same_by_numbers : (names : List (List ℕ)) (x y : List ℕ) (m n : ℕ) → Some m ≡ number_in names x → Some n ≡ number_in names y → (m == n) ≡ bytes_eq x y
same_by_numbers names x y m n here there = same_at names x y m n _ _ (sym here) (sym there) refl refl

differ_at : (names : List (List ℕ)) (x y : List ℕ) (m : ℕ) (b : Bool) → number_in names x ≡ Some m → number_in names y ≡ None → bytes_eq x y ≡ b → b ≡ false
differ_at names x y m false here there f = refl
differ_at names x y m true here there f =
    let both : Some m ≡ None = sym here ∙ one_number names x y f ∙ there in
    absurd cc

-- one of these names is none of the others
pub known_is_other : (names : List (List ℕ)) (x y : List ℕ) (m : ℕ) → Some m ≡ number_in names x → None ≡ number_in names y → false ≡ bytes_eq x y
known_is_other names x y m here there = sym (differ_at names x y m _ (sym here) (sym there) refl)

pub other_is_known : (names : List (List ℕ)) (x y : List ℕ) (n : ℕ) → None ≡ number_in names x → Some n ≡ number_in names y → false ≡ bytes_eq x y
other_is_known names x y n here there = sym (names_turned x y ∙ differ_at names y x n _ (sym there) (sym here) refl)
