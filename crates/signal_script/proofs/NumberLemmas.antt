-- Numbers and their words.
use Rattle.std.proofs.Common.{◌≡◌, ℕ, ◌<◌, ◌^◌, Bool, true, false, ◌&&◌, nat_le, if◌then◌else◌, List, Ok, Err, refl, sym, ◌∙◌, ap, arith, decimal}
use Rattle.std.specs.declared.result.Result.{Result}
use Rattle.std.specs.Str.{bytes_eq}
use Rattle.std.specs.Str.Parse.{ParsesUnsigned, digits_value}
use Rattle.std.proofs.lemmas.Fmt.{parse-decimal, decimal_is_IsNumeral}
use Rattle.std.proofs.lemmas.Bool.{and_parts, false_from_ne_true}
use Rattle.std.proofs.lemmas.Bool.Decides.{nat_tests}
use Rattle.std.proofs.lemmas.Slice.Eq.{bytes_eq-Decides}
use Rattle.signal_script.specs.Signals.{is_moment, moment_of, clock_limit}
use Rattle.signal_script.specs.declared.fault.SignalBad.TheVariants as bads

pub value_of_decimal : (n : ℕ) → n < 2 ^ 64 → digits_value 10 (decimal n) ≡ n
value_of_decimal n small = (decimal_is_IsNumeral n small).1

-- a number that was read, and isn't spelled so, is no number's spelling
pub number_other : {E : Type 0} (word : List ℕ) (count : ℕ) (r : Result ℕ E) → ParsesUnsigned 64 10 word r → r ≡ Ok count
    → (word ≡ decimal count → ⊥) → (n : ℕ) → n < 2 ^ 64 → word ≡ decimal n → ⊥
number_other word count r parses is differs n small spelled =
    let same : r ≡ Ok n = parse-decimal 64 n word r small small spelled parses in
    let equal : count ≡ n = cc in
    differs (spelled ∙ sym (ap decimal equal))

-- what is spelled as a number is a moment, if it isn't too late
pub moment_spelled : (word : List ℕ) (n : ℕ) → n < 2 ^ 64 → word ≡ decimal n → moment_of word ≡ (if nat_le n clock_limit then Ok n else Err bads.Number)
moment_spelled word n small is =
    rw (is, value_of_decimal n small, (bytes_eq-Decides (decimal n) (decimal n)).1 refl) (by (nat_le n clock_limit))
  where
    by : (test : Bool) → (if test && true then Ok n else Err bads.Number) ≡ (if test then Ok n else Err bads.Number)
    by true = refl
    by false = refl

-- and what is no number's spelling isn't
pub moment_none : (word : List ℕ) → ((n : ℕ) → n < 2 ^ 64 → word ≡ decimal n → ⊥) → moment_of word ≡ Err bads.Number
moment_none word none = rw (false_from_ne_true (is_moment word) spelled) refl
  where
    number : ℕ
    number = digits_value 10 word

    spelled : is_moment word ≡ true → ⊥
    spelled all =
        let parts = and_parts (nat_le number clock_limit) (bytes_eq word (decimal number)) all in
        let below = parts.0 in
        let fits : number < 2 ^ 64 = grind (arith, nat_tests) in
        none number fits ((bytes_eq-Decides word (decimal number)).0 parts.1)
