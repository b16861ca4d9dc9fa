-- A signal that a line gives has texts: the line is UTF-8 and short, and so is what each of its words stands for.
use Rattle.std.proofs.Common.{◌≡◌, ◌≤◌, ◌<◌, ◌^◌, ◌+◌, ℕ, suc, true, List, [], ◌∷◌, ◌++◌, map, length, get_or, refl, sym, subst, arith}
use Rattle.std.proofs.Math.Seq.{drop-append-add, get_or-append_seam, take-append_seam}
use Rattle.std.proofs.lemmas.Bool.{and_from, and_parts, cond_both, leb-true, lt-ltb}
use Rattle.std.proofs.lemmas.List.{length-append}
use Rattle.std.proofs.lemmas.Str.{IsCharBoundary-after_ascii, IsCharBoundary-before_ascii, IsUtf8-drop, IsUtf8-from_is_utf8, IsUtf8-take, is_utf8-from_IsUtf8}
use Rattle.std.specs.List.{AllByRecursion, join_with_byte, list_any}
use Rattle.std.specs.Prelude.{IsTrue, nat_le, not}
use Rattle.std.specs.Str.{IsUtf8, is_utf8}
use Rattle.signal_script.proofs.WordTextLemmas.{unescaped_back, unescaped_utf8}
use Rattle.signal_script.specs.Lines.{is_control, is_line, is_plain, line_limit}
use Rattle.signal_script.specs.Signals.{is_of_form, is_signal, spelled, spelled_field, spelled_words}
use Rattle.signal_script.specs.declared.signal.Signal.{Signal}
use Rattle.signal_script.specs.declared.signal.Signal.TheVariants as signals
use Rattle.slee_value.specs.Escape.{escape_of, escaped, is_escaped, spelled_byte}
use Rattle.router_state.specs.Fits.{is_text}
use Rattle.router_steps.specs.Histories.{is_choice}
use Rattle.router_laws_steps.specs.Reads.{IsRead, IsReadChoice, are_texts, has_texts}
use Rattle.trace_history.specs.declared.choice.Choice.{Choice}
use Rattle.trace_history.specs.declared.choice.Choice.TheVariants as choices

-- UTF-8 of so many bytes at most
abbrev IsPart : ℕ → List ℕ → Type 0
IsPart n text = IsUtf8 text × (length text ≤ n)

-- what stands before and behind a byte of ASCII
parts_at : (xs : List ℕ) (b : ℕ) (ys : List ℕ) → b < 128 → IsUtf8 (xs ++ b ∷ ys) → IsUtf8 xs × IsUtf8 ys
parts_at xs b ys small is =
    let whole : List ℕ = xs ++ b ∷ ys in
    let low : get_or whole (length xs) 0 < 128 = subst (λ k. k < 128) (sym (get_or-append_seam xs b ys 0)) small in
    let within : length xs < length whole = shorter (length xs) (length ys) (length whole) (length-append xs (b ∷ ys)) in (
      subst IsUtf8 (take-append_seam xs (b ∷ ys)) (IsUtf8-take whole (length xs) is (IsCharBoundary-before_ascii whole (length xs) within low)),
      subst IsUtf8 (drop-append-add xs (b ∷ ys) 1) (IsUtf8-drop whole (length xs + 1) is (IsCharBoundary-after_ascii whole (length xs) is within low)),
    )
  where
    shorter : (n m k : ℕ) → k ≡ n + suc m → n < k
    shorter n m k is = omega (arith, is)

joined_parts : (n : ℕ) (words : List (List ℕ)) → IsPart n (join_with_byte 32 words) → AllByRecursion (IsPart n) words
joined_parts n [] is = tt
joined_parts n (x ∷ []) is = (is, tt)
joined_parts n (x ∷ y ∷ words) is =
    let rest : List ℕ = join_with_byte 32 (y ∷ words) in
    let cut = parts_at x 32 rest (omega arith) is.0 in
    let both = shorter n (length x) (length rest) (length (x ++ 32 ∷ rest)) (length-append x (32 ∷ rest)) is.1 in
    ((cut.0, both.0), joined_parts n (y ∷ words) (cut.1, both.1))
  where
    shorter : (n i j k : ℕ) → k ≡ i + suc j → k ≤ n → (i ≤ n) × (j ≤ n)
    shorter n i j k is le = (omega (arith, is, le), omega (arith, is, le))

-- what is escaped isn't shorter
escaped_longer : (text : List ℕ) → length text ≤ length (escaped true text)
escaped_longer [] = omega arith
escaped_longer (b ∷ text) =
    more (length text) (length (escaped true text)) (length (spelled_byte true b)) (length (spelled_byte true b ++ escaped true text)) (escaped_longer text) (some b) (length-append (spelled_byte true b) (escaped true text))
  where
    some : (b : ℕ) → 1 ≤ length (spelled_byte true b)
    some b = cond_both (is_escaped true b) (escape_of b) (b ∷ []) (λ bs. 1 ≤ length bs) (λ _. omega arith) (λ _. omega arith)

    more : (n m i k : ℕ) → n ≤ m → 1 ≤ i → k ≡ i + m → suc n ≤ k
    more n m i k le one is = omega (arith, le, one, is)

-- what an escaped word of a line stands for is a text
word_text : (text : List ℕ) → IsPart 4096 (escaped true text) → is_text text ≡ true
word_text text is =
    and_from (is_utf8 text) _ (is_utf8-from_IsUtf8 text (unescaped_utf8 true (escaped true text) text (unescaped_back true text) is.0)) (lt-ltb (length text) (2 ^ 32) (short (length text) (length (escaped true text)) (escaped_longer text) is.1))
  where
    short : (n m : ℕ) → n ≤ m → m ≤ 4096 → n < 2 ^ 32
    short n m le few = omega (arith, le, few)

fields_texts : (fields : List (List ℕ × List ℕ)) → AllByRecursion (IsPart 4096) (map spelled_field fields) → are_texts fields ≡ true
fields_texts [] all = refl
fields_texts (f ∷ fields) all =
    let value : List ℕ = escaped true f.1 in
    let cut = parts_at f.0 61 value (omega arith) all.0.0 in
    and_from (is_text f.1) _ (word_text f.1 (cut.1, shorter (length f.0) (length value) (length (f.0 ++ 61 ∷ value)) (length-append f.0 (61 ∷ value)) all.0.1)) (fields_texts fields all.1)
  where
    shorter : (i j k : ℕ) → k ≡ i + suc j → k ≤ 4096 → j ≤ 4096
    shorter i j k is le = omega (arith, is, le)

words_texts : (signal : Signal) → AllByRecursion (IsPart 4096) (spelled_words signal) → has_texts signal ≡ true
words_texts (signals.Start name) all = refl
words_texts (signals.End name) all = refl
words_texts (signals.Fire name event service fields) all = fields_texts fields all.1.1.1
words_texts (signals.Clock to) all = refl
words_texts (signals.Activate service) all = refl
words_texts (signals.Deactivate service) all = refl
words_texts (signals.ProfileAdd table row fields) all = and_from (is_text row) _ (word_text row all.1.1.0) (fields_texts fields all.1.1.1)
words_texts (signals.ProfileUpdate table row fields) all = and_from (is_text row) _ (word_text row all.1.1.0) (fields_texts fields all.1.1.1)
words_texts (signals.ProfileRemove table row) all = word_text row all.1.1.0

-- a signal that a line gives was read from that line
pub signal_read : (signal : Signal) → is_signal signal ≡ true → IsRead signal
signal_read signal is =
    let line = (and_parts (is_of_form signal) (is_line (spelled signal)) is).1 in
    let parts = and_parts (nat_le (length (spelled signal)) line_limit) (is_plain (spelled signal)) line in
    let utf8 = (and_parts (not (list_any is_control (spelled signal))) (is_utf8 (spelled signal)) parts.1).1 in
    (is, words_texts signal (joined_parts 4096 (spelled_words signal) (IsUtf8-from_is_utf8 (spelled signal) utf8, leb-true (length (spelled signal)) line_limit parts.0)))

pub choice_read : (c : Choice) → IsTrue (is_choice c) → IsReadChoice c
choice_read (choices.Input signal) is = signal_read signal is
choice_read (choices.Initial a) is = tt
choice_read (choices.Deliver a) is = tt
choice_read (choices.Finish a) is = tt
