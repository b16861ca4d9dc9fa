-- Keys, names and numbers compared from either side.
use Rattle.std.proofs.Common.{◌≡◌, ℕ, zero, suc, ◌==◌, List, [], ◌∷◌, Bool, true, false, ◌||◌, Some, refl, sym, ap, ◌∙◌, arith, ◌<◌, length, map, get_or}
use Rattle.std.specs.Prelude.{slice_get}
use Rattle.std.specs.List.{list_any}
use Rattle.script_meaning.specs.declared.key.Key.{Key}
use Rattle.script_meaning.specs.Seeing.{same_key}
use Rattle.std.specs.Str.{bytes_eq}
use Rattle.std.proofs.lemmas.Slice.Eq.{bytes_eq-Decides}
use Rattle.std.proofs.lemmas.List.{get_or-map}

or_true : (b : Bool) → (b || true) ≡ true
or_true true = refl
or_true false = refl

some_same : {x y : Key} → Some x ≡ Some y → x ≡ y
some_same h = cc

names_at : (x y : List ℕ) (a b : Bool) → bytes_eq x y ≡ a → bytes_eq y x ≡ b → a ≡ b
names_at x y true true e f = refl
names_at x y false false e f = refl
names_at x y true false e f = sym ((bytes_eq-Decides y x).1 (sym ((bytes_eq-Decides x y).0 e))) ∙ f
names_at x y false true e f = sym e ∙ (bytes_eq-Decides x y).1 (sym ((bytes_eq-Decides y x).0 f))

pub names_turned : (x y : List ℕ) → bytes_eq x y ≡ bytes_eq y x
names_turned x y = names_at x y _ _ refl refl

pub numbers_turned : (m n : ℕ) → (m == n) ≡ (n == m)
numbers_turned m n = grind arith

-- one of them is the one that stands there
pub any_there : (k : Key) (xs : List Key) (i : ℕ) (x : Key) → slice_get xs i ≡ Some x → same_key k x ≡ true → list_any (same_key k) xs ≡ true
any_there k [] zero x there same = absurd cc
any_there k [] (suc i) x there same = absurd cc
any_there k (y ∷ ys) zero x there same = ap (λ (z : Key). same_key k z || list_any (same_key k) ys) (some_same there) ∙ ap (λ (b : Bool). b || list_any (same_key k) ys) same
any_there k (y ∷ ys) (suc i) x there same = ap (λ (b : Bool). same_key k y || b) (any_there k ys i x there same) ∙ or_true (same_key k y)

pub either_turned : (a b : Bool) → (a || b) ≡ (b || a)
either_turned true true = refl
either_turned true false = refl
either_turned false true = refl
either_turned false false = refl

-- the number of what stands in a place stands in that place among the numbers
pub number_there : {A B : Type 0} → (f : A → B) (xs : List A) (ns : List B) (i : ℕ) (x : A) (n : B) → ns ≡ map f xs → i < length xs → x ≡ get_or xs i x → n ≡ get_or ns i n → n ≡ f x
number_there f xs ns i x n same within there number = number ∙ ap (λ zs. get_or zs i n) same ∙ get_or-map f xs i x n within ∙ ap f (sym there)

-- what is the same of all of them is the same of the one in a place
pub same_there : {A B : Type 0} → (f g : A → B) (xs : List A) (i : ℕ) (x : A) → map f xs ≡ map g xs → i < length xs → x ≡ get_or xs i x → f x ≡ g x
same_there f g xs i x same within there = number_there g xs (map f xs) i x (f x) same within there (ap f there ∙ sym (get_or-map f xs i x (f x) within))
