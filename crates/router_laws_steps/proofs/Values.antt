-- The values that words give are of the declared kinds, and fit.
use Rattle.router_laws_sound.proofs.SoundBase.{found_passes}
use Rattle.router_laws_steps.specs.Reads.{are_texts}
use Rattle.router_state.specs.Fits.{are_declared, is_i64, is_of_kind, is_text, is_value}
use Rattle.router_state.specs.declared.rows.Activity.{Activity}
use Rattle.router_state.specs.declared.rows.Timer.{Timer}
use Rattle.router_steps.specs.Values.{bool_in, fields_given, text_given, value_given, value_in, values_given}
use Rattle.script_types.specs.declared.codes.FieldCode.{FieldCode}
use Rattle.slee_value.specs.declared.kind.Kind.{Kind}
use Rattle.slee_value.specs.declared.value.Value.{Value}
use Rattle.std.proofs.Common.{Bool, List, None, Option, Some, [], arith, false, inl, inr, length, refl, subst, suc, sym, true, ℕ, ◌==◌, ◌^◌, ◌∷◌, ◌≡◌}
use Rattle.std.proofs.lemmas.Bool.{and_from, and_parts, cases_Bool}
use Rattle.std.proofs.lemmas.Bool.Decides.{nat_tests}
use Rattle.std.proofs.lemmas.Slice.Eq.{bytes_eq-Decides}
use Rattle.std.specs.List.{list_all}
use Rattle.std.specs.Prelude.{bytes_eq, find, if◌then◌else◌, int_lt, nat_le, nat_lt, negsuc, option_and_then, option_map, pos, unsigned_abs, ℤ, ◌&&◌, ◌-◌}
use Rattle.trace_history.specs.Decimals.{decimal_value, int_in, is_decimal, negative, not_negative}
use Rattle.slee_value.specs.declared.kind.Kind.TheVariants as kinds
use Rattle.slee_value.specs.declared.value.Value.TheVariants as values

some_same : {X : Type 0} {x y : X} → Some x ≡ Some y → x ≡ y
some_same same = cc

-- numbers

below_fits : (n : ℕ) → nat_lt n (2 ^ 63) ≡ true → is_i64 (pos n) ≡ true
below_fits n less = second (int_lt (pos n) (pos 0)) (nat_le (unsigned_abs (pos n)) (2 ^ 63)) (nat_lt (unsigned_abs (pos n)) (2 ^ 63)) (least n) less
  where
    least : (n : ℕ) → nat_lt n 0 ≡ false
    least n = grind (arith, nat_tests)

    second : (b p q : Bool) → b ≡ false → q ≡ true → (if b then p else q) ≡ true
    second b p q isnt is = rw isnt is

negative_fits : (n : ℕ) → nat_le 1 n ≡ true → nat_le n (2 ^ 63) ≡ true → is_i64 (negsuc (n - 1)) ≡ true
negative_fits n one most = least (n - 1) n (2 ^ 63) (back n one) most
  where
    back : (n : ℕ) → nat_le 1 n ≡ true → suc (n - 1) ≡ n
    back n one = grind (arith, nat_tests)

    least : (k n m : ℕ) → suc k ≡ n → nat_le n m ≡ true → nat_le (suc k) m ≡ true
    least k n m is le = subst (λ i. nat_le i m ≡ true) (sym is) le

int_fits : (word : List ℕ) (z : ℤ) → int_in word ≡ Some z → is_i64 z ≡ true
int_fits [] z is = absurd (cc)
int_fits (b ∷ bs) z is = elim (cases_Bool (b == 45)) [
  | inl sign ↦ below_zero (is_decimal bs && (nat_le 1 (decimal_value bs) && nat_le (decimal_value bs) (2 ^ 63))) refl (rw sign at is)
  | inr digits ↦ above_zero (is_decimal (b ∷ bs) && nat_lt (decimal_value (b ∷ bs)) (2 ^ 63)) refl (rw digits at is)
]
  where
    below_zero : (test : Bool) → (is_decimal bs && (nat_le 1 (decimal_value bs) && nat_le (decimal_value bs) (2 ^ 63))) ≡ test → negative bs ≡ Some z → is_i64 z ≡ true
    below_zero true passes is =
        let one = and_parts (is_decimal bs) _ passes in
        let two = and_parts (nat_le 1 (decimal_value bs)) _ one.1 in
        let same : Some (negsuc (decimal_value bs - 1)) ≡ Some z = rw passes at is in
        subst (λ y. is_i64 y ≡ true) (some_same same) (negative_fits (decimal_value bs) two.0 two.1)
    below_zero false fails is = (let none : None ≡ Some z = rw fails at is in absurd (cc))

    above_zero : (test : Bool) → (is_decimal (b ∷ bs) && nat_lt (decimal_value (b ∷ bs)) (2 ^ 63)) ≡ test → not_negative (b ∷ bs) ≡ Some z → is_i64 z ≡ true
    above_zero true passes is =
        let one = and_parts (is_decimal (b ∷ bs)) _ passes in
        let same : Some (pos (decimal_value (b ∷ bs))) ≡ Some z = rw passes at is in
        subst (λ y. is_i64 y ≡ true) (some_same same) (below_fits (decimal_value (b ∷ bs)) one.1)
    above_zero false fails is = (let none : None ≡ Some z = rw fails at is in absurd (cc))

-- a value of a kind

mapped : {X Y : Type 0} (P : Y → Type 0) (f : X → Y) (o : Option X) (y : Y) → option_map f o ≡ Some y → ((x : X) → o ≡ Some x → P (f x)) → P y
mapped P f None y is each = absurd (cc)
mapped P f (Some x) y is each = subst P (some_same is) (each x refl)

value_fits : (n m : ℕ) (kind : Kind) (text : List ℕ) (v : Value) → value_in kind text ≡ Some v → is_text text ≡ true → (is_of_kind kind v ≡ true) × (is_value n m v ≡ true)
value_fits n m kinds.Int text v is fits = mapped (λ v. (is_of_kind kinds.Int v ≡ true) × (is_value n m v ≡ true)) values.Int (int_in text) v is (λ z found. (refl, int_fits text z found))
value_fits n m kinds.Text text v is fits = subst (λ v. (is_of_kind kinds.Text v ≡ true) × (is_value n m v ≡ true)) (some_same is) (refl, fits)
value_fits n m kinds.Bool text v is fits = mapped (λ v. (is_of_kind kinds.Bool v ≡ true) × (is_value n m v ≡ true)) values.Bool (bool_in text) v is (λ b found. (refl, refl))
value_fits n m kinds.Activity text v is fits = absurd (cc)
value_fits n m kinds.Timer text v is fits = absurd (cc)

text_fits : (name : List ℕ) (words : List (List ℕ × List ℕ)) (text : List ℕ) → text_given name words ≡ Some text → are_texts words ≡ true → is_text text ≡ true
text_fits name words text is all =
    mapped (λ t. is_text t ≡ true) (λ (word : List ℕ × List ℕ). word.1) (find (λ (word : List ℕ × List ℕ). bytes_eq word.0 name) words) text is
    (λ word found. (found_passes (λ (w : List ℕ × List ℕ). is_text w.1) (λ (w : List ℕ × List ℕ). bytes_eq w.0 name) words word found all).0)

given_fits : (n m : ℕ) (field : FieldCode) (words : List (List ℕ × List ℕ)) (v : Value) → value_given field words ≡ Some v → are_texts words ≡ true → (is_of_kind field.kind v ≡ true) × (is_value n m v ≡ true)
given_fits n m field words v is all = by (text_given field.name words) refl is
  where
    by : (o : Option (List ℕ)) → text_given field.name words ≡ o → option_and_then (value_in field.kind) o ≡ Some v → (is_of_kind field.kind v ≡ true) × (is_value n m v ≡ true)
    by None found is = absurd (cc)
    by (Some text) found is = value_fits n m field.kind text v is (text_fits field.name words text found all)

-- the values that words give to declared fields
abbrev pub Fit : ℕ → ℕ → List FieldCode → List (List ℕ × Value) → Type 0
Fit n m fields vs = (are_declared fields vs ≡ true) × (list_all (λ (field : List ℕ × Value). is_value n m field.1) vs ≡ true)

given_all : (n m : ℕ) (fields : List FieldCode) (words : List (List ℕ × List ℕ)) (vs : List (List ℕ × Value)) → values_given fields words ≡ Some vs → are_texts words ≡ true → Fit n m fields vs
given_all n m [] words vs is all = subst (Fit n m []) (some_same is) (refl, refl)
given_all n m (f ∷ fields) words vs is all = by (value_given f words) refl is (λ more found. given_all n m fields words more found all)
  where
    by : (o : Option Value) → value_given f words ≡ o → option_and_then (λ value. option_map (λ more. (f.name, value) ∷ more) (values_given fields words)) o ≡ Some vs
        → ((more : List (List ℕ × Value)) → values_given fields words ≡ Some more → Fit n m fields more) → Fit n m (f ∷ fields) vs
    by None found is rest = absurd (cc)
    by (Some v) found is rest =
        let fits = given_fits n m f words v found all in
        mapped (Fit n m (f ∷ fields)) (λ more. (f.name, v) ∷ more) (values_given fields words) vs is
        (λ more given. let others = rest more given in
        (and_from (bytes_eq f.name f.name) _ ((bytes_eq-Decides f.name f.name).1 refl) (and_from (is_of_kind f.kind v) _ fits.0 others.0), and_from (is_value n m v) _ fits.1 others.1))

pub fields_fit : (n m : ℕ) (fields : List FieldCode) (words : List (List ℕ × List ℕ)) (vs : List (List ℕ × Value)) → fields_given fields words ≡ Some vs → are_texts words ≡ true → Fit n m fields vs
fields_fit n m fields words vs is all = elim (cases_Bool (length words == length fields)) [
  | inl same ↦ given_all n m fields words vs (rw same at is) all
  | inr other ↦ (let none : None ≡ Some vs = rw other at is in absurd (cc))
]
