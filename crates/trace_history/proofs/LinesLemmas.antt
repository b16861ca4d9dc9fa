-- The text of one line more.
use Rattle.std.proofs.Common.{◌≡◌, ℕ, List, ◌∷◌, [], ◌++◌, ◌∙◌, ap, sym, map, append-nil}
use Rattle.std.proofs.lemmas.Grind.{flat_map-append}
use Rattle.std.proofs.lemmas.List.{map-append}
use Rattle.trace_history.specs.Lines.{line_text, line_texts}

pub line_more : (lines : List (List ℕ)) (line text : List ℕ) → text ≡ line_texts lines → text ++ line_text line ≡ line_texts (lines ++ line ∷ [])
line_more lines line text is =
    ap (λ front. front ++ line_text line) is ∙ sym (flat_map-append line_text lines (line ∷ []) ∙ ap (λ rest. line_texts lines ++ rest) (append-nil (line_text line)))

-- one item more, as contracts see it
pub one_more : {A B : Type 0} (f : A → B) (xs : List A) (x : A) (y : B) → f x ≡ y → map f (xs ++ x ∷ []) ≡ map f xs ++ y ∷ []
one_more f xs x y is = map-append f xs (x ∷ []) ∙ ap (λ z. map f xs ++ z ∷ []) is
