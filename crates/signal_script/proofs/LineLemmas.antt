-- The first line of a text, the words of a line, and signals so far.
use Rattle.std.proofs.Common.{◌≡◌, ℕ, ◌+◌, ◌-◌, ◌<◌, zero, suc, List, [], ◌∷◌, ◌++◌, length, get_or, take, drop, drop-cons, drop_of_length-le, refl, Bool, ◌||◌, ap, arith, eq-eqb, ne_eqb, add-one, Ok, Err}
use Rattle.std.proofs.Common.{true, false}
use Rattle.std.proofs.lemmas.List.{take_rest}
use Rattle.std.proofs.lemmas.Bool.{false_from_ne_true, eqb-true}
use Rattle.std.proofs.lemmas.Str.{IsUtf8-from_is_utf8, is_utf8-from_IsUtf8}
use Rattle.std.specs.List.{onto_first, list_any}
use Rattle.std.specs.Str.{IsUtf8, is_utf8}
use Rattle.memchr.specs.Find.{NoneBefore, Nowhere, Passes, is_byte}
use Rattle.signal_script.specs.Lines.{lines_of, is_control}
use Rattle.signal_script.specs.Signals.{signal_of, signals_behind}
use Rattle.signal_script.specs.declared.signal.Signal.{Signal}
use Rattle.signal_script.specs.declared.fault.SignalBad.{SignalBad}
use Rattle.signal_script.specs.declared.fault.SignalFault.TheVariants as faults

-- the first line ends at the first newline
pub first_line_at : (bs : List ℕ) (i : ℕ) → i < length bs → ((k : ℕ) → k < i → get_or bs k 0 ≡ 10 → ⊥) → get_or bs i 0 ≡ 10
    → lines_of bs ≡ take i bs ∷ lines_of (drop (suc i) bs)
first_line_at [] i within before here = absurd (omega arith)
first_line_at (b ∷ bs) zero within before here = rw (eq-eqb b 10 here)
first_line_at (b ∷ bs) (suc i) within before here =
    rw (ne_eqb b 10 (before 0 (omega arith)))
    (ap (onto_first b) (first_line_at bs i (omega arith) (λ k lt. before (suc k) (omega arith)) here))

-- the same, as the code cuts it
pub first_line_cut : (bs : List ℕ) (i : ℕ) → i < length bs → ((k : ℕ) → k < i → get_or bs k 0 ≡ 10 → ⊥) → get_or bs i 0 ≡ 10
    → lines_of bs ≡ take i bs ∷ lines_of (take (length bs - (i + 1)) (drop (i + 1) bs))
first_line_cut bs i within before here = rw (take_rest bs (i + 1), add-one) (first_line_at bs i within before here)

-- where there is no newline, the bytes are one line
pub only_line : (b : ℕ) (bs : List ℕ) → ((k : ℕ) → k < length (b ∷ bs) → get_or (b ∷ bs) k 0 ≡ 10 → ⊥) → lines_of (b ∷ bs) ≡ (b ∷ bs) ∷ []
only_line b [] before = rw (ne_eqb b 10 (before 0 (omega arith)))
only_line b (c ∷ bs) before =
    rw (ne_eqb b 10 (before 0 (omega arith)))
    (ap (onto_first b) (only_line c bs (λ k lt. before (suc k) (omega arith))))

pub only_line_of : (bs : List ℕ) → 0 < length bs → ((k : ℕ) → k < length bs → get_or bs k 0 ≡ 10 → ⊥) → lines_of bs ≡ bs ∷ []
only_line_of [] some before = absurd (omega arith)
only_line_of (b ∷ bs) some before = only_line b bs before

-- the same, as a search finds it
pub newline_found : (bs : List ℕ) (i : ℕ) → NoneBefore (Passes (is_byte 10) bs) 0 (length bs) i × Passes (is_byte 10) bs i
    → lines_of bs ≡ take i bs ∷ lines_of (take (length bs - (i + 1)) (drop (i + 1) bs))
newline_found bs i is = first_line_cut bs i is.0.high (λ k lt at. is.0.before k (omega arith) lt (eq-eqb _ 10 at)) (eqb-true _ 10 is.1)

nothing_left : (bs : List ℕ) → drop (length bs) bs ≡ []
nothing_left bs = drop_of_length-le bs (omega arith)

pub newline_missing : (bs : List ℕ) → 0 < length bs → Nowhere (Passes (is_byte 10) bs) 0 (length bs)
    → lines_of bs ≡ bs ∷ lines_of (take (length bs - length bs) (drop (length bs) bs))
newline_missing bs some is = rw (take_rest bs (length bs), nothing_left bs) (only_line_of bs some (λ k lt at. is k (omega arith) lt (eq-eqb _ 10 at)))

-- one byte more was looked at
pub one_byte_looked_at : (line : List ℕ) (i b : ℕ) (found : Bool) → i < length line → b ≡ get_or line i b
    → (list_any is_control (drop (i + 1) line) || (is_control b || found)) ≡ (list_any is_control (drop i line) || found)
one_byte_looked_at line i b found lt is = rw (drop-cons line i b lt, ← is, add-one) (or_turned (is_control b) (list_any is_control (drop (suc i) line)) found)
  where
    or_turned : (x y z : Bool) → (y || (x || z)) ≡ ((x || y) || z)
    or_turned true true z = refl
    or_turned true false z = refl
    or_turned false y z = refl

pub utf8_test : (bs : List ℕ) → IsUtf8 bs → is_utf8 bs ≡ true
utf8_test bs is = is_utf8-from_IsUtf8 bs is

pub utf8_refused : (bs : List ℕ) → (IsUtf8 bs → ⊥) → is_utf8 bs ≡ false
utf8_refused bs is_not = false_from_ne_true (is_utf8 bs) (λ test. is_not (IsUtf8-from_is_utf8 bs test))

-- a line more
pub line_more : (before : List Signal) (line : List ℕ) (bytes : List ℕ) (lines : List (List ℕ)) (signal : Signal) → lines_of bytes ≡ line ∷ lines → signal_of line ≡ Ok signal
    → signals_behind before (lines_of bytes) ≡ signals_behind (before ++ signal ∷ []) lines
line_more before line bytes lines signal is read = rw (is, read)

-- a line that is bad
pub line_fault : (before : List Signal) (line : List ℕ) (bytes : List ℕ) (lines : List (List ℕ)) (kind : SignalBad) → lines_of bytes ≡ line ∷ lines → signal_of line ≡ Err kind
    → signals_behind before (lines_of bytes) ≡ Err (faults.At (length before + 1) kind)
line_fault before line bytes lines kind is bad = rw (is, bad)
