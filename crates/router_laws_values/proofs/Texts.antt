-- Texts of known words.
use Rattle.std.proofs.Common.{◌≡◌, ◌<◌, ℕ, zero, suc, true, List, [], ◌∷◌, length, refl}
use Rattle.std.specs.Prelude.{codes, nat_lt}
use Rattle.std.specs.List.{AllByRecursion, list_all}
use Rattle.std.specs.Str.{IsAscii, IsUtf8, is_utf8}
use Rattle.std.proofs.lemmas.Bool.{and_from, and_parts, ltb-true}
use Rattle.std.proofs.lemmas.Str.{IsUtf8-from_ascii, IsUtf8-nil, is_utf8-from_IsUtf8}
use Rattle.std.proofs.lemmas.Str.Ascii.{IsAscii-nil}
use Rattle.script_meaning.specs.Running.{word_of}
use Rattle.script_meaning.specs.declared.outcome.FailKind.{FailKind}
use Rattle.script_meaning.specs.declared.outcome.FailKind.TheVariants as f
use Rattle.router_state.specs.Fits.{is_text, is_u32}

pub utf8_text : (text : List ℕ) → IsUtf8 text → is_u32 (length text) ≡ true → is_text text ≡ true
utf8_text text utf8 short = and_from (is_utf8 text) _ (is_utf8-from_IsUtf8 text utf8) short

ascii_cons : (b : ℕ) (bs : List ℕ) → b < 128 → IsAscii bs → IsAscii (b ∷ bs)
ascii_cons b bs less all zero = less
ascii_cons b bs less all (suc i) = all i

tested_ascii : (bs : List ℕ) → list_all (λ b. nat_lt b 128) bs ≡ true → IsAscii bs
tested_ascii [] is = IsAscii-nil
tested_ascii (b ∷ bs) is = let parts = and_parts (nat_lt b 128) (list_all (λ b. nat_lt b 128) bs) is in ascii_cons b bs (ltb-true b 128 parts.0) (tested_ascii bs parts.1)

-- a short word of ASCII is a text
pub word_text : (word : List ℕ) → list_all (λ b. nat_lt b 128) word ≡ true → is_u32 (length word) ≡ true → is_text word ≡ true
word_text word ascii short = utf8_text word (IsUtf8-from_ascii word (tested_ascii word ascii)) short

pub empty_text : is_text [] ≡ true
empty_text = utf8_text [] IsUtf8-nil refl

-- so is the word of each kind of failure
pub failure_text : (kind : FailKind) → is_text (word_of kind) ≡ true
failure_text f.Thrown = word_text (codes "thrown") refl refl
failure_text f.Overflow = word_text (codes "overflow") refl refl
failure_text f.ZeroDivisor = word_text (codes "zero-divisor") refl refl
failure_text f.Budget = word_text (codes "budget") refl refl
failure_text f.Gone = word_text (codes "gone") refl refl
failure_text f.Ending = word_text (codes "ending") refl refl
failure_text f.NotNull = word_text (codes "not-null") refl refl
failure_text f.Bound = word_text (codes "bound") refl refl
failure_text f.Unbound = word_text (codes "unbound") refl refl
failure_text f.Detached = word_text (codes "detached") refl refl
failure_text f.NoRow = word_text (codes "no-row") refl refl
failure_text f.Depth = word_text (codes "depth") refl refl
failure_text f.Observed = word_text (codes "observed") refl refl
failure_text f.Range = word_text (codes "range") refl refl
failure_text f.TooLong = word_text (codes "too-long") refl refl
failure_text f.TooMuch = word_text (codes "too-much") refl refl
