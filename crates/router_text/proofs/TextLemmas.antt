-- Lines are UTF-8.
use Rattle.std.proofs.Common.{◌≡◌, ℕ, suc, ◌<◌, ◌≤◌, ◌/◌, ◌%◌, Bool, true, false, nat_le, List, [], ◌∷◌, ◌++◌, length, get_or, codes, refl, sym, ◌∙◌, ap, subst, arith, append_assoc, append-nil, inl, inr}
use Rattle.std.proofs.lemmas.Bool.{cases_Bool, cases_lt, and_parts}
use Rattle.std.proofs.lemmas.Bool.Decides.{nat_tests}
use Rattle.std.proofs.lemmas.Str.{IsUtf8-append, IsUtf8-nil, IsUtf8-encode, encode_ascii, inside_one, IsUtf8-from_is_utf8}
use lib.Utf8.{scalar, scalars, encode, encodes, low_scalar}
use Rattle.std.specs.Str.{IsUtf8, is_utf8}
use Rattle.slee_value.specs.Escape.{is_escaped, hex_digit_of, spelled_byte, escaped}
use Rattle.signal_script.specs.declared.signal.Signal.{Signal}
use Rattle.signal_script.specs.Signals.{spelled, is_signal, is_of_form}
use Rattle.signal_script.specs.Lines.{is_line}

ascii_then : (x : ℕ) (bs : List ℕ) → x < 128 → IsUtf8 bs → IsUtf8 (x ∷ bs)
ascii_then x bs small is = IsUtf8-append (x ∷ []) bs (subst IsUtf8 (encode_ascii x small) (IsUtf8-encode x (low_scalar x (omega arith)))) is

hex_small : (n : ℕ) → n < 16 → hex_digit_of n < 128
hex_small n small = grind (arith, nat_tests)

escaped_small : (word : Bool) (b : ℕ) → is_escaped word b ≡ true → b < 128
escaped_small word b is = elim (cases_lt b 128) [
  | inl low ↦ low
  | inr high ↦ let none : is_escaped word b ≡ false = grind (arith, nat_tests, high) in cc
]

-- bytes from 128 on stand as they are
high_stay : (word : Bool) (bs : List ℕ) → ((k : ℕ) → k < length bs → 128 ≤ get_or bs k 0) → escaped word bs ≡ bs
high_stay word [] high = refl
high_stay word (b ∷ bs) high =
    let here : is_escaped word b ≡ false = elim (cases_Bool (is_escaped word b)) [
      | inl is ↦ absurd (omega (arith, high 0 (omega arith), escaped_small word b is))
      | inr other ↦ other
    ] in
    rw here (ap (λ more. b ∷ more) (high_stay word bs (λ k below. high (suc k) (omega arith))))

one_escaped : (word : Bool) (c : ℕ) → scalar c ≡ true → IsUtf8 (escaped word (encode c))
one_escaped word c valid = elim (cases_lt c 128) [
  | inl low ↦ subst (λ (bs : List ℕ). IsUtf8 (escaped word bs)) (sym (encode_ascii c low)) (elim (cases_Bool (is_escaped word c)) [
    | inl is ↦ rw is (ascii_then 37 _ (omega arith) (ascii_then (hex_digit_of (c / 16)) _ (hex_small (c / 16) (omega arith)) (ascii_then (hex_digit_of (c % 16)) [] (hex_small (c % 16) (omega arith)) IsUtf8-nil)))
    | inr other ↦ rw other (ascii_then c [] low IsUtf8-nil)
  ])
  | inr high ↦
      let bytes_high : (k : ℕ) → k < length (encode c) → 128 ≤ get_or (encode c) k 0 = λ k below. elim (cases_lt (get_or (encode c) k 0) 128) [
        | inl low ↦ absurd (omega (arith, high, inside_one c [] (encode c) k (sym (append-nil _)) below low))
        | inr at ↦ at
      ] in
      subst IsUtf8 (sym (high_stay word (encode c) bytes_high)) (IsUtf8-encode c valid)
]

escaped_append : (word : Bool) (xs ys : List ℕ) → escaped word (xs ++ ys) ≡ escaped word xs ++ escaped word ys
escaped_append word [] ys = refl
escaped_append word (x ∷ xs) ys = ap (λ more. spelled_byte word x ++ more) (escaped_append word xs ys) ∙ sym (append_assoc (spelled_byte word x) (escaped word xs) (escaped word ys))

chars_escaped : (word : Bool) (cs : List ℕ) → scalars cs ≡ true → IsUtf8 (escaped word (encodes cs))
chars_escaped word [] valid = IsUtf8-nil
chars_escaped word (c ∷ cs) valid =
    let parts = and_parts (scalar c) (scalars cs) valid in
    subst IsUtf8 (sym (escaped_append word (encode c) (encodes cs)))
    (IsUtf8-append (escaped word (encode c)) (escaped word (encodes cs)) (one_escaped word c parts.0) (chars_escaped word cs parts.1))

pub escaped_utf8 : (word : Bool) (text : List ℕ) → IsUtf8 text → IsUtf8 (escaped word text)
escaped_utf8 word text is = subst (λ (bs : List ℕ). IsUtf8 (escaped word bs)) is.1.1 (chars_escaped word is.0 is.1.0)

-- as the code has it
pub escaped_is_utf8 : (text bytes : List ℕ) → bytes ≡ escaped false text → IsUtf8 text → IsUtf8 bytes
escaped_is_utf8 text bytes is utf8 = subst IsUtf8 (sym is) (escaped_utf8 false text utf8)

pub heading_is_utf8 : (signal : Signal) (bytes : List ℕ) → bytes ≡ codes "input " ++ spelled signal → is_signal signal ≡ true → IsUtf8 bytes
heading_is_utf8 signal bytes is valid =
    let line = (and_parts (is_of_form signal) (is_line (spelled signal)) valid).1 in
    let more = (and_parts (nat_le (length (spelled signal)) 4096) _ line).1 in
    let utf8 : IsUtf8 (spelled signal) = IsUtf8-from_is_utf8 (spelled signal) (and_parts _ (is_utf8 (spelled signal)) more).1 in
    subst IsUtf8 (sym is) (ascii_then 105 _ (omega arith) (ascii_then 110 _ (omega arith) (ascii_then 112 _ (omega arith) (ascii_then 117 _ (omega arith) (ascii_then 116 _ (omega arith) (ascii_then 32 _ (omega arith) utf8))))))
