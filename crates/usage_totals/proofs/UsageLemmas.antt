-- The words of a usage line, one after another.
use Rattle.std.proofs.Common.{◌≡◌, ℕ, ◌+◌, Bool, true, false, List, [], ◌∷◌, length, refl, sym, ap, ◌∙◌, ◌==◌, arith, Some, None}
use Rattle.std.specs.Prelude.{if◌then◌else◌, option_and_then, codes}
use Rattle.std.specs.Str.{bytes_eq}
use Rattle.std.proofs.lemmas.List.Splits.{length-slice_split}
use Rattle.signal_script.specs.Lines.{words_of}
use Rattle.usage_totals.specs.Usage.{amount_in, behind, usage_in}

-- what follows a word and a space is one word or more
behind_more : (first word : List ℕ) (words : List (List ℕ)) (k : ℕ) → length words ≡ k + 1
    → (if bytes_eq first word then Some words else None) ≡ behind word (first ∷ words)
behind_more first word [] k is = absurd (omega (arith, is))
behind_more first word (second ∷ words) k is = refl

pub behind_first : (first word rest line : List ℕ) → words_of line ≡ first ∷ words_of rest → (if bytes_eq first word then Some (words_of rest) else None) ≡ behind word (words_of line)
behind_first first word rest line is =
    behind_more first word (words_of rest) _ (length-slice_split (λ b. b == 32) rest) ∙ ap (behind word) (sym is)

pub behind_same : (first word rest line : List ℕ) → words_of line ≡ first ∷ words_of rest → bytes_eq first word ≡ true → Some (words_of rest) ≡ behind word (words_of line)
behind_same first word rest line is same = by (bytes_eq first word) same ∙ behind_first first word rest line is
  where
    by : (b : Bool) → b ≡ true → Some (words_of rest) ≡ (if b then Some (words_of rest) else None)
    by true here = refl
    by false here = cc

amount_more : (entity name amount : List ℕ) (words : List (List ℕ)) (k : ℕ) → length words ≡ k + 1 → None ≡ amount_in (entity ∷ name ∷ amount ∷ words)
amount_more entity name amount [] k is = absurd (omega (arith, is))
amount_more entity name amount (word ∷ words) k is = refl

-- a fourth word is one too many
pub too_many : (entity name amount rest line second third : List ℕ) → words_of line ≡ entity ∷ words_of second → words_of second ≡ name ∷ words_of third → words_of third ≡ amount ∷ words_of rest
    → None ≡ amount_in (words_of line)
too_many entity name amount rest line second third one two three =
    amount_more entity name amount (words_of rest) _ (length-slice_split (λ b. b == 32) rest)
    ∙ ap (λ words. amount_in (entity ∷ name ∷ words)) (sym three) ∙ ap (λ words. amount_in (entity ∷ words)) (sym two) ∙ ap amount_in (sym one)

-- where one of the first words isn't there, it is no usage line
pub no_usage : (words : List (List ℕ)) → option_and_then (behind (codes "usage")) (option_and_then (behind []) (behind [] words)) ≡ None → None ≡ usage_in words
no_usage words is = sym (ap (option_and_then amount_in) is)

pub usage_behind : (words one two three : List (List ℕ)) → Some one ≡ behind [] words → Some two ≡ behind [] one → Some three ≡ behind (codes "usage") two → amount_in three ≡ usage_in words
usage_behind words one two three first second third =
    ap (option_and_then amount_in) third ∙ ap (λ o. option_and_then amount_in (option_and_then (behind (codes "usage")) o)) second
    ∙ ap (λ o. option_and_then amount_in (option_and_then (behind (codes "usage")) (option_and_then (behind []) o))) first
