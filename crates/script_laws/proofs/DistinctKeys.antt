-- Keys that are apart, and how many of them there are among others.
use Rattle.std.proofs.Common.{◌≡◌, ◌+◌, ◌≤◌, true, false, Bool, ℕ, suc, List, [], ◌∷◌, ◌++◌, length, Option, Some, None, refl, sym, ap, ◌∙◌, subst}
use Rattle.std.specs.Prelude.{◌||◌, ◌&&◌, ◌==◌, cond, bytes_eq}
use Rattle.std.specs.List.{list_any, AllByRecursion}
use native.Mathlib.Omega.{arith}
use Rattle.std.proofs.lemmas.Bool.Decides.{nat_tests}
use Rattle.std.proofs.lemmas.Slice.Eq.{bytes_eq-Decides}
use Rattle.script_meaning.specs.declared.key.Key.{Key}
use Rattle.script_meaning.specs.declared.key.Key.TheVariants as keys
use Rattle.script_meaning.specs.Seeing.{same_key}
use Rattle.script_laws.proofs.Likeness.{key_is_itself}

number_is : (m n : ℕ) → (m == n) ≡ true → m ≡ n
number_is m n h = grind (arith, nat_tests)

text_is : (x y : List ℕ) → bytes_eq x y ≡ true → x ≡ y
text_is x y h = (bytes_eq-Decides x y).0 h

left_of : (a b : Bool) → (a && b) ≡ true → a ≡ true
left_of true b h = refl
left_of false b h = cc

right_of : (a b : Bool) → (a && b) ≡ true → b ≡ true
right_of true b h = h
right_of false b h = cc

-- keys that are told to be the same are one
pub key_is : (x y : Key) → same_key x y ≡ true → x ≡ y
key_is (keys.Next a) (keys.Next b) h = ap (λ n. keys.Next (record { 0 = n })) (number_is a.0 b.0 h)
key_is (keys.Field e x) (keys.Field f y) h = ap (λ n. keys.Field (record { 0 = n }) x) (number_is e.0 f.0 (left_of (e.0 == f.0) (bytes_eq x y) h)) ∙ ap (λ n. keys.Field f n) (text_is x y (right_of (e.0 == f.0) (bytes_eq x y) h))
key_is (keys.Children e x) (keys.Children f y) h = ap (λ n. keys.Children (record { 0 = n }) x) (number_is e.0 f.0 (left_of (e.0 == f.0) (bytes_eq x y) h)) ∙ ap (λ n. keys.Children f n) (text_is x y (right_of (e.0 == f.0) (bytes_eq x y) h))
key_is (keys.Priority e) (keys.Priority f) h = ap (λ n. keys.Priority (record { 0 = n })) (number_is e.0 f.0 h)
key_is (keys.AcState a) (keys.AcState b) h = ap (λ n. keys.AcState (record { 0 = n })) (number_is a.0 b.0 h)
key_is (keys.Attr a x) (keys.Attr b y) h = ap (λ n. keys.Attr (record { 0 = n }) x) (number_is a.0 b.0 (left_of (a.0 == b.0) (bytes_eq x y) h)) ∙ ap (λ n. keys.Attr b n) (text_is x y (right_of (a.0 == b.0) (bytes_eq x y) h))
key_is (keys.Attached e a) (keys.Attached f b) h = ap (λ n. keys.Attached (record { 0 = n }) a) (number_is e.0 f.0 (left_of (e.0 == f.0) (a.0 == b.0) h)) ∙ ap (λ n. keys.Attached f (record { 0 = n })) (number_is a.0 b.0 (right_of (e.0 == f.0) (a.0 == b.0) h))
key_is (keys.Mask e a) (keys.Mask f b) h = ap (λ n. keys.Mask (record { 0 = n }) a) (number_is e.0 f.0 (left_of (e.0 == f.0) (a.0 == b.0) h)) ∙ ap (λ n. keys.Mask f (record { 0 = n })) (number_is a.0 b.0 (right_of (e.0 == f.0) (a.0 == b.0) h))
key_is (keys.Named x) (keys.Named y) h = ap keys.Named (text_is x y h)
key_is (keys.Timer t) (keys.Timer u) h = ap (λ n. keys.Timer (record { 0 = n })) (number_is t.0 u.0 h)
key_is (keys.Profile t x) (keys.Profile u y) h = ap (λ n. keys.Profile n x) (text_is t u (left_of (bytes_eq t u) (bytes_eq x y) h)) ∙ ap (λ n. keys.Profile u n) (text_is x y (right_of (bytes_eq t u) (bytes_eq x y) h))
key_is keys.Now keys.Now h = refl
key_is (keys.Activities e) (keys.Activities f) h = ap (λ n. keys.Activities (record { 0 = n })) (number_is e.0 f.0 h)
key_is x y h = cc

-- no two of these keys are the same
abbrev pub AreApart : List Key → Type 0
AreApart [] = Unit {0}
AreApart (key ∷ keys) = (list_any (same_key key) keys ≡ false) × AreApart keys

-- each of these keys is among the others
abbrev pub AreAmong : List Key → List Key → Type 0
AreAmong keys all = AllByRecursion (λ key. list_any (same_key key) all ≡ true) keys

-- all but the first that is this one
abbrev without : Key → List Key → List Key
without key [] = []
without key (x ∷ xs) = cond (same_key key x) xs (x ∷ without key xs)

one_less : (key x : Key) (xs rest : List Key) (b : Bool) → same_key key x ≡ b → (b || list_any (same_key key) xs) ≡ true → (list_any (same_key key) xs ≡ true → length rest + 1 ≡ length xs) → length (cond b xs (x ∷ rest)) + 1 ≡ length (x ∷ xs)
one_less key x xs rest true same h go = omega arith
one_less key x xs rest false same h go = omega (arith, go h)

without_less : (key : Key) (all : List Key) → list_any (same_key key) all ≡ true → length (without key all) + 1 ≡ length all
without_less key [] h = cc
without_less key (x ∷ xs) h = one_less key x xs (without key xs) (same_key key x) refl h (λ there. without_less key xs there)

false_true : false ≡ true → ⊥
false_true h = cc

first_apart : (a b : Bool) → (a ≡ true → ⊥) → (a || b) ≡ true → b ≡ true
first_apart true b never h = absurd (never refl)
first_apart false b never h = h

or_kept : (a b c : Bool) → (a || b) ≡ true → (b ≡ true → c ≡ true) → (a || c) ≡ true
or_kept true b c h go = refl
or_kept false b c h go = go h

still_in : (key other x : Key) (xs rest : List Key) (b : Bool) → same_key key other ≡ false → same_key key x ≡ b → (same_key other x || list_any (same_key other) xs) ≡ true → (list_any (same_key other) xs ≡ true → list_any (same_key other) rest ≡ true) → list_any (same_key other) (cond b xs (x ∷ rest)) ≡ true
still_in key other x xs rest true apart same h go = first_apart (same_key other x) (list_any (same_key other) xs) (λ is. let one : key ≡ x = key_is key x same in let two : other ≡ x = key_is other x is in false_true (sym apart ∙ ap (same_key key) (two ∙ sym one) ∙ key_is_itself key)) h
still_in key other x xs rest false apart same h go = or_kept (same_key other x) (list_any (same_key other) xs) (list_any (same_key other) rest) h go

without_other : (key other : Key) (all : List Key) → same_key key other ≡ false → list_any (same_key other) all ≡ true → list_any (same_key other) (without key all) ≡ true
without_other key other [] apart h = cc
without_other key other (x ∷ xs) apart h = still_in key other x xs (without key xs) (same_key key x) apart refl h (λ there. without_other key other xs apart there)

none_of : (a b : Bool) → (a || b) ≡ false → (a ≡ false) × (b ≡ false)
none_of true b h = cc
none_of false b h = (refl, h)

among_without : (key : Key) (keys all : List Key) → list_any (same_key key) keys ≡ false → AreAmong keys all → AreAmong keys (without key all)
among_without key [] all apart h = tt
among_without key (x ∷ xs) all apart h =
    let both = none_of (same_key key x) (list_any (same_key key) xs) apart in
    (without_other key x all both.0 h.0, among_without key xs all both.1 h.1)

-- keys that are apart are no more than those among which they are
pub apart_among : (keys all : List Key) → AreApart keys → AreAmong keys all → length keys ≤ length all
apart_among [] all apart h = omega arith
apart_among (key ∷ keys) all apart h =
    let less = without_less key all h.0 in
    let rest = apart_among keys (without key all) apart.1 (among_without key keys all apart.0 h.1) in
    omega (arith, less, rest)
