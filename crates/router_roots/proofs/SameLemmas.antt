-- Two convergence names are the same where each variable is.
use Rattle.std.proofs.Common.{◌≡◌, ℕ, ◌==◌, Bool, true, false, List, Option, Some, None, refl, sym, ◌∙◌, ap, subst, arith, IsTrue, ◌↔◌, bytes_eq}
use Rattle.std.proofs.lemmas.Bool.{and_parts}
use Rattle.std.proofs.lemmas.Bool.Decides.{nat_tests}
use Rattle.std.proofs.lemmas.Slice.Eq.{bytes_eq-Decides}
use Rattle.slee_value.specs.declared.convergence.ConvName.{ConvName}
use Rattle.slee_value.specs.declared.ids.ActivityId.{ActivityId}
use Rattle.slee_value.specs.declared.ids.EventId.{EventId}
use Rattle.script_meaning.specs.Same.{same_name, same_option}

same_bytes : (x y : List ℕ) → bytes_eq x y ≡ true → x ≡ y
same_bytes x y is = grind (arith, bytes_eq-Decides x y, is)

own_bytes : (x : List ℕ) → bytes_eq x x ≡ true
own_bytes x = grind (arith, bytes_eq-Decides x x)

same_number : (m n : ℕ) → (m == n) ≡ true → m ≡ n
same_number m n is = grind (arith, nat_tests)

own_number : (n : ℕ) → (n == n) ≡ true
own_number n = grind (arith, nat_tests)

option_same : {A : Type 0} (t : A → A → Bool) → ((x y : A) → t x y ≡ true → x ≡ y) → (o r : Option A) → same_option t o r ≡ true → o ≡ r
option_same t each None None is = refl
option_same t each None (Some y) is = absurd cc
option_same t each (Some x) None is = absurd cc
option_same t each (Some x) (Some y) is = ap (λ z. Some z) (each x y is)

option_own : {A : Type 0} (t : A → A → Bool) → ((x : A) → t x x ≡ true) → (o : Option A) → same_option t o o ≡ true
option_own t each None = refl
option_own t each (Some x) = each x

made : (x y : ConvName) → x.activity ≡ y.activity → x.address ≡ y.address → x.event_type ≡ y.event_type → x.event ≡ y.event → x.custom ≡ y.custom → x ≡ y
made x y a b c d e =
    ap (λ (z : Option ActivityId). record x { activity = z }) a
    ∙ ap (λ (z : Option (List ℕ)). record x { activity = y.activity; address = z }) b
    ∙ ap (λ (z : Option (List ℕ)). record x { activity = y.activity; address = y.address; event_type = z }) c
    ∙ ap (λ (z : Option EventId). record x { activity = y.activity; address = y.address; event_type = y.event_type; event = z }) d
    ∙ ap (λ (z : Option (List ℕ)). record { activity = y.activity; address = y.address; event_type = y.event_type; event = y.event; custom = z }) e

pub name_same : (x y : ConvName) → same_name x y ≡ true → x ≡ y
name_same x y is =
    let one = and_parts (same_option (λ a b. a.0 == b.0) x.activity y.activity) _ is in
    let two = and_parts (same_option bytes_eq x.address y.address) _ one.1 in
    let three = and_parts (same_option bytes_eq x.event_type y.event_type) _ two.1 in
    let four = and_parts (same_option (λ a b. a.0 == b.0) x.event y.event) (same_option bytes_eq x.custom y.custom) three.1 in
    made x y
    (option_same (λ (a b : ActivityId). a.0 == b.0) (λ a b t. ap (λ (n : ℕ). record { 0 = n }) (same_number a.0 b.0 t)) x.activity y.activity one.0)
    (option_same bytes_eq same_bytes x.address y.address two.0)
    (option_same bytes_eq same_bytes x.event_type y.event_type three.0)
    (option_same (λ (a b : EventId). a.0 == b.0) (λ a b t. ap (λ (n : ℕ). record { 0 = n }) (same_number a.0 b.0 t)) x.event y.event four.0)
    (option_same bytes_eq same_bytes x.custom y.custom four.1)

name_own : (x : ConvName) → same_name x x ≡ true
name_own x =
    let one = option_own (λ (a b : ActivityId). a.0 == b.0) (λ a. own_number a.0) x.activity in
    let two = option_own bytes_eq own_bytes x.address in
    let three = option_own bytes_eq own_bytes x.event_type in
    let four = option_own (λ (a b : EventId). a.0 == b.0) (λ a. own_number a.0) x.event in
    let five = option_own bytes_eq own_bytes x.custom in
    rw (one, two, three, four) five

alike : (a b : Bool) → (a ≡ true → b ≡ true) → (b ≡ true → a ≡ true) → a ≡ b
alike true b one two = sym (one refl)
alike false true one two = two refl
alike false false one two = refl

pub same_so : (x y : ConvName) (b : Bool) → (IsTrue b ↔ (x ≡ y)) → b ≡ same_name x y
same_so x y b tells = alike b (same_name x y) (λ is. subst (λ (z : ConvName). same_name x z ≡ true) (tells.0 is) (name_own x)) (λ is. tells.1 (name_same x y is))
