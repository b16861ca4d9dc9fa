-- The text of signal lines, a line more.
use Rattle.std.proofs.Common.{◌≡◌, ℕ, ◌+◌, ◌<◌, ◌≤◌, List, [], ◌∷◌, ◌++◌, length, get_or, take, sym, ◌∙◌, ap, append_assoc, append-nil, map}
use Rattle.std.proofs.lemmas.Grind.{flat_map-append}
use Rattle.std.proofs.lemmas.List.{map-append, take_all, take_more}
use Rattle.signal_script.specs.Signals.{spelled}
use Rattle.signal_script.specs.declared.signal.Signal.{Signal}
use Rattle.trace_history.specs.Lines.{line_text, line_texts}
use Rattle.slee_run.specs.Text.{lines_text}

text_more : (lines : List Signal) (line : Signal) → lines_text (lines ++ line ∷ []) ≡ lines_text lines ++ line_text (spelled line)
text_more lines line =
    ap line_texts (map-append spelled lines (line ∷ []))
    ∙ flat_map-append line_text (map spelled lines) (spelled line ∷ [])
    ∙ ap (λ (rest : List ℕ). lines_text lines ++ rest) (append-nil (line_text (spelled line)))

pub line_added : (lines : List Signal) (i : ℕ) (line : Signal) (old text printed pushed : List ℕ) → i < length lines → line ≡ get_or lines i line
    → text ≡ old ++ lines_text (take i lines) → printed ≡ text ++ spelled line → pushed ≡ printed ++ 10 ∷ [] → pushed ≡ old ++ lines_text (take (i + 1) lines)
line_added lines i line old text printed pushed lt is so_far prints pushes =
    pushes
    ∙ ap (λ (t : List ℕ). t ++ 10 ∷ []) (prints ∙ ap (λ (t : List ℕ). t ++ spelled line) so_far)
    ∙ append_assoc (old ++ lines_text (take i lines)) (spelled line) (10 ∷ [])
    ∙ append_assoc old (lines_text (take i lines)) (line_text (spelled line))
    ∙ ap (λ (t : List ℕ). old ++ t) (sym (ap lines_text grown ∙ text_more (take i lines) line))
  where
    grown : take (i + 1) lines ≡ take i lines ++ line ∷ []
    grown = take_more lines i line lt ∙ ap (λ (x : Signal). take i lines ++ x ∷ []) (sym is)

pub all_added : (lines : List Signal) (i : ℕ) (old text : List ℕ) → length lines ≤ i → text ≡ old ++ lines_text (take i lines) → text ≡ old ++ lines_text lines
all_added lines i old text all is = is ∙ ap (λ (l : List Signal). old ++ lines_text l) (take_all i lines all)
