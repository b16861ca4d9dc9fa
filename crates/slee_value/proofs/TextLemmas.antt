-- The text at the front of some bytes, and what is wrong with it.
use Rattle.std.proofs.Common.{◌≡◌, ℕ, ◌<◌, ◌≤◌, Bool, true, false, List, length, take, Option, Some, None, Result, Ok, Err, refl, sym, ap, subst, ◌∙◌, IsUtf8, arith}
use Rattle.std.proofs.lemmas.Str.{is_utf8-from_IsUtf8, IsUtf8-from_is_utf8}
use Rattle.std.proofs.lemmas.Bool.{ltb-false, le-ltb, lt-ltb}
use Rattle.std.specs.Str.{is_utf8}
use Rattle.slee_value.specs.declared.fault.PartFault.{PartFault}
use Rattle.slee_value.specs.declared.fault.ValueBad.TheVariants as bad
use Rattle.slee_value.specs.Reading.{Fault, Fails, text_fault, fault_behind, unless_fault, good_len}

not_true : (b : Bool) → ¬ (b ≡ true) → b ≡ false
not_true true h = absurd (h refl)
not_true false h = refl

is_utf8_false : (bytes : List ℕ) → ¬ IsUtf8 bytes → is_utf8 bytes ≡ false
is_utf8_false bytes h = not_true (is_utf8 bytes) (λ e. h (IsUtf8-from_is_utf8 bytes e))

-- the fault of a text that isn't UTF-8
pub text_bad : (e : PartFault) (len good : ℕ) (front bytes : List ℕ) → front ≡ take len bytes → ¬ IsUtf8 front → good ≡ good_len len front → Fails {Y = List ℕ} e (Err (fault_behind good (length bytes))) → Fails e (unless_fault (text_fault len bytes) (take len bytes))
text_bad e len good front bytes h n g f =
    let u : is_utf8 (take len bytes) ≡ false = is_utf8_false (take len bytes) (subst (λ x. ¬ IsUtf8 x) h n) in
    let k : good ≡ good_len len (take len bytes) = g ∙ ap (good_len len) h in
    rw u (rw (← k) f)

-- the fault of a text that ends too early
pub text_short : (len : ℕ) (front bytes : List ℕ) → front ≡ take len bytes → IsUtf8 front → length bytes < len → text_fault len bytes ≡ Some (record { left = 0; kind = bad.Short })
text_short len front bytes h u lt =
    let v : is_utf8 (take len bytes) ≡ true = is_utf8-from_IsUtf8 (take len bytes) (subst IsUtf8 h u) in
    rw (v, lt-ltb _ _ lt) refl

-- a text that is there
pub text_whole : (len : ℕ) (front bytes : List ℕ) → front ≡ take len bytes → IsUtf8 front → len ≤ length bytes → text_fault len bytes ≡ None
text_whole len front bytes h u le =
    let v : is_utf8 (take len bytes) ≡ true = is_utf8-from_IsUtf8 (take len bytes) (subst IsUtf8 h u) in
    rw (v, le-ltb _ _ le) refl
