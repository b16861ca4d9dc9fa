-- The line of words, as it is printed.
use Rattle.std.proofs.Common.{◌≡◌, ℕ, List, [], ◌∷◌, ◌++◌, map, sym, ◌∙◌, ap, append_assoc, append-nil}
use Rattle.std.specs.List.{join_with_byte}
use Rattle.signal_script.specs.Signals.{spelled_field, field_words}

-- field words behind a word
pub words_behind_word : (word : List ℕ) (fields : List (List ℕ × List ℕ)) → join_with_byte 32 (word ∷ map spelled_field fields) ≡ word ++ field_words fields
words_behind_word word [] = sym (append-nil word)
words_behind_word word (field ∷ fields) =
    ap (λ (more : List ℕ). word ++ 32 ∷ more) (words_behind_word (spelled_field field) fields)

-- three words and field words, as they stand behind a line
pub words_in_front : (line verb first second : List ℕ) (fields : List (List ℕ × List ℕ))
    → line ++ join_with_byte 32 (verb ∷ first ∷ second ∷ map spelled_field fields) ≡ (line ++ (verb ++ 32 ∷ (first ++ 32 ∷ second))) ++ field_words fields
words_in_front line verb first second fields =
    ap (λ (more : List ℕ). line ++ (verb ++ 32 ∷ (first ++ 32 ∷ more))) (words_behind_word second fields)
    ∙ sym (append_assoc line (verb ++ 32 ∷ (first ++ 32 ∷ second)) (field_words fields)
    ∙ ap (λ (more : List ℕ). line ++ more) (append_assoc verb (32 ∷ (first ++ 32 ∷ second)) (field_words fields))
    ∙ ap (λ (more : List ℕ). line ++ (verb ++ 32 ∷ more)) (append_assoc first (32 ∷ second) (field_words fields)))

-- the same, as they are written one after another
pub three_in_front : (line verb first second : List ℕ) (fields : List (List ℕ × List ℕ))
    → line ++ join_with_byte 32 (verb ∷ first ∷ second ∷ map spelled_field fields) ≡ ((line ++ (verb ++ 32 ∷ first)) ++ 32 ∷ second) ++ field_words fields
three_in_front line verb first second fields =
    words_in_front line verb first second fields
    ∙ ap (λ (front : List ℕ). front ++ field_words fields)
    (ap (λ (words : List ℕ). line ++ words) (sym (append_assoc verb (32 ∷ first) (32 ∷ second))) ∙ sym (append_assoc line (verb ++ 32 ∷ first) (32 ∷ second)))
