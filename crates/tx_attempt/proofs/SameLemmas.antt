-- Answers that are told to be the same are one.
use Rattle.std.proofs.Common.{◌≡◌, ℕ, Bool, true, false, List, [], ◌∷◌, Option, Some, None, refl, sym, ap, ◌∙◌, subst}
use Rattle.std.specs.Prelude.{ℤ, pos, negsuc, nat_lt, int_lt, ◌==◌, ◌&&◌, not, bytes_eq, IsTrue, ◌↔◌}
use Rattle.std.specs.List.{AllByRecursion}
use native.Mathlib.Omega.{arith}
use Rattle.std.proofs.lemmas.Bool.Decides.{nat_tests}
use Rattle.std.proofs.lemmas.Slice.Eq.{bytes_eq-Decides}
use Rattle.slee_value.specs.declared.ids.ActivityId.{ActivityId}
use Rattle.slee_value.specs.declared.ids.EntityId.{EntityId}
use Rattle.slee_value.specs.declared.ids.EventId.{EventId}
use Rattle.slee_value.specs.declared.value.Value.{Value}
use Rattle.slee_value.specs.declared.value.Value.TheVariants as v
use Rattle.script_meaning.specs.Same.{same_int, same_bool, same_option, same_list, same_value, same_field}
use Rattle.script_meaning.specs.Seeing.{same_delivery, same_activity, same_seen}
use Rattle.script_meaning.specs.declared.key.Key.{Key}
use Rattle.script_meaning.specs.declared.seen.AcSeen.{AcSeen}
use Rattle.script_meaning.specs.declared.seen.Seen.{Seen}
use Rattle.script_meaning.specs.declared.seen.Seen.TheVariants as s
use Rattle.handler_run.specs.Views.{Holds, conflict, holds_at}

number_is : (m n : ℕ) → (m == n) ≡ true → m ≡ n
number_is m n h = grind (arith, nat_tests)

number_itself : (n : ℕ) → (n == n) ≡ true
number_itself n = grind (arith, nat_tests)

text_is : (x y : List ℕ) → bytes_eq x y ≡ true → x ≡ y
text_is x y h = (bytes_eq-Decides x y).0 h

text_itself : (x : List ℕ) → bytes_eq x x ≡ true
text_itself x = (bytes_eq-Decides x x).1 refl

neither_below : (a b : ℕ) → (not (nat_lt a b) && not (nat_lt b a)) ≡ true → a ≡ b
neither_below a b h = grind (arith, nat_tests)

not_below_itself : (a : ℕ) → (not (nat_lt a a) && not (nat_lt a a)) ≡ true
not_below_itself a = grind (arith, nat_tests)

int_is : (n m : ℤ) → same_int n m ≡ true → n ≡ m
int_is (pos a) (pos b) h = ap pos (neither_below a b h)
int_is (pos a) (negsuc b) h = cc
int_is (negsuc a) (pos b) h = cc
int_is (negsuc a) (negsuc b) h = ap negsuc (sym (neither_below b a h))

int_itself : (n : ℤ) → same_int n n ≡ true
int_itself (pos a) = not_below_itself a
int_itself (negsuc a) = not_below_itself a

bool_is : (x y : Bool) → same_bool x y ≡ true → x ≡ y
bool_is true true h = refl
bool_is false false h = refl
bool_is x y h = cc

bool_itself : (x : Bool) → same_bool x x ≡ true
bool_itself true = refl
bool_itself false = refl

left_of : (a b : Bool) → (a && b) ≡ true → a ≡ true
left_of true b h = refl
left_of false b h = cc

right_of : (a b : Bool) → (a && b) ≡ true → b ≡ true
right_of true b h = h
right_of false b h = cc

option_is : {A : Type 0} (same : A → A → Bool) → ((x y : A) → same x y ≡ true → x ≡ y) → (o p : Option A) → same_option same o p ≡ true → o ≡ p
option_is same is None None h = refl
option_is same is (Some x) (Some y) h = ap Some (is x y h)
option_is same is None (Some y) h = cc
option_is same is (Some x) None h = cc

list_is : {A : Type 0} (same : A → A → Bool) → ((x y : A) → same x y ≡ true → x ≡ y) → (xs ys : List A) → same_list same xs ys ≡ true → xs ≡ ys
list_is same is [] [] h = refl
list_is same is (x ∷ xs) (y ∷ ys) h = ap (λ z. z ∷ xs) (is x y (left_of (same x y) (same_list same xs ys) h)) ∙ ap (λ zs. y ∷ zs) (list_is same is xs ys (right_of (same x y) (same_list same xs ys) h))
list_is same is [] (y ∷ ys) h = cc
list_is same is (x ∷ xs) [] h = cc

value_is : (x y : Value) → same_value x y ≡ true → x ≡ y
value_is (v.Int n) (v.Int m) h = ap v.Int (int_is n m h)
value_is (v.Text x) (v.Text y) h = ap v.Text (text_is x y h)
value_is (v.Bool x) (v.Bool y) h = ap v.Bool (bool_is x y h)
value_is (v.Activity x) (v.Activity y) h = ap (λ n. v.Activity (record { 0 = n })) (number_is x.0 y.0 h)
value_is (v.Timer x) (v.Timer y) h = ap (λ n. v.Timer (record { 0 = n })) (number_is x.0 y.0 h)
value_is x y h = cc

value_itself : (x : Value) → same_value x x ≡ true
value_itself (v.Int n) = int_itself n
value_itself (v.Text x) = text_itself x
value_itself (v.Bool x) = bool_itself x
value_itself (v.Activity x) = number_itself x.0
value_itself (v.Timer x) = number_itself x.0

told_by : (b c : Bool) → (b ≡ true → c ≡ true) → (c ≡ true → b ≡ true) → b ≡ c
told_by true c g h = sym (g refl)
told_by false true g h = h refl
told_by false false g h = refl

-- what tells two values apart tells what the definition does
pub value_by : (b : Bool) (x y : Value) → (IsTrue b ↔ (x ≡ y)) → b ≡ same_value x y
value_by b x y h = told_by b (same_value x y) (λ t. subst (λ z. same_value x z ≡ true) (h.0 t) (value_itself x)) (λ t. h.1 (value_is x y t))

pair_is : {A B : Type 0} (x y : A × B) → x.0 ≡ y.0 → x.1 ≡ y.1 → x ≡ y
pair_is x y g h = ap (λ z. (z, x.1)) g ∙ ap (λ z. (y.0, z)) h

field_is : (x y : List ℕ × Value) → same_field x y ≡ true → x ≡ y
field_is x y h = pair_is x y (text_is x.0 y.0 (left_of (bytes_eq x.0 y.0) (same_value x.1 y.1) h)) (value_is x.1 y.1 (right_of (bytes_eq x.0 y.0) (same_value x.1 y.1) h))

delivery_is : (x y : EventId × EntityId) → same_delivery x y ≡ true → x ≡ y
delivery_is x y h =
    pair_is x y (ap (λ n. record { 0 = n }) (number_is x.0.0 y.0.0 (left_of (x.0.0 == y.0.0) (x.1.0 == y.1.0) h))) (ap (λ n. record { 0 = n }) (number_is x.1.0 y.1.0 (right_of (x.0.0 == y.0.0) (x.1.0 == y.1.0) h)))

activity_is : (x y : AcSeen) → same_activity x y ≡ true → x ≡ y
activity_is x y h =
    ap (λ b. record { null = b; ending = x.ending }) (bool_is x.null y.null (left_of (same_bool x.null y.null) (same_bool x.ending y.ending) h))
    ∙ ap (λ b. record { null = y.null; ending = b }) (bool_is x.ending y.ending (right_of (same_bool x.null y.null) (same_bool x.ending y.ending) h))

reference_is : (x y : ActivityId) → (x.0 == y.0) ≡ true → x ≡ y
reference_is x y h = ap (λ n. record { 0 = n }) (number_is x.0 y.0 h)

pub seen_is : (x y : Seen) → same_seen x y ≡ true → x ≡ y
seen_is (s.Next x) (s.Next y) h = ap s.Next (option_is same_delivery delivery_is x y h)
seen_is (s.Held x) (s.Held y) h = ap s.Held (option_is same_value value_is x y h)
seen_is (s.Ids x) (s.Ids y) h = ap s.Ids (list_is (λ n m. n == m) number_is x y h)
seen_is (s.Number x) (s.Number y) h = ap s.Number (int_is x y h)
seen_is (s.Ac x) (s.Ac y) h = ap s.Ac (option_is same_activity activity_is x y h)
seen_is (s.Flag x) (s.Flag y) h = ap s.Flag (bool_is x y h)
seen_is (s.Masks x) (s.Masks y) h = ap s.Masks (option_is (same_list bytes_eq) (list_is bytes_eq text_is) x y h)
seen_is (s.Refers x) (s.Refers y) h = ap s.Refers (option_is (λ a b. a.0 == b.0) reference_is x y h)
seen_is (s.Row x) (s.Row y) h = ap s.Row (option_is (same_list same_field) (list_is same_field field_is) x y h)
seen_is x y h = cc

both_of : (a b : Bool) → a ≡ true → b ≡ true → (a && b) ≡ true
both_of true b g h = h
both_of false b g h = g

option_itself : {A : Type 0} (same : A → A → Bool) → ((x : A) → same x x ≡ true) → (o : Option A) → same_option same o o ≡ true
option_itself same itself None = refl
option_itself same itself (Some x) = itself x

list_itself : {A : Type 0} (same : A → A → Bool) → ((x : A) → same x x ≡ true) → (xs : List A) → same_list same xs xs ≡ true
list_itself same itself [] = refl
list_itself same itself (x ∷ xs) = both_of (same x x) (same_list same xs xs) (itself x) (list_itself same itself xs)

field_itself : (x : List ℕ × Value) → same_field x x ≡ true
field_itself x = both_of (bytes_eq x.0 x.0) (same_value x.1 x.1) (text_itself x.0) (value_itself x.1)

delivery_itself : (x : EventId × EntityId) → same_delivery x x ≡ true
delivery_itself x = both_of (x.0.0 == x.0.0) (x.1.0 == x.1.0) (number_itself x.0.0) (number_itself x.1.0)

activity_itself : (x : AcSeen) → same_activity x x ≡ true
activity_itself x = both_of (same_bool x.null x.null) (same_bool x.ending x.ending) (bool_itself x.null) (bool_itself x.ending)

pub seen_itself : (x : Seen) → same_seen x x ≡ true
seen_itself (s.Next x) = option_itself same_delivery delivery_itself x
seen_itself (s.Held x) = option_itself same_value value_itself x
seen_itself (s.Ids x) = list_itself (λ n m. n == m) number_itself x
seen_itself (s.Number x) = int_itself x
seen_itself (s.Ac x) = option_itself same_activity activity_itself x
seen_itself (s.Flag x) = bool_itself x
seen_itself (s.Masks x) = option_itself (same_list bytes_eq) (list_itself bytes_eq text_itself) x
seen_itself (s.Refers x) = option_itself (λ a b. a.0 == b.0) (λ a. number_itself a.0) x
seen_itself (s.Row x) = option_itself (same_list same_field) (list_itself same_field field_itself) x
