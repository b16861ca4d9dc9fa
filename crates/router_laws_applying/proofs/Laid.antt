-- Effects laid over an answer: what the last of them does.
use Rattle.std.proofs.Common.{◌≡◌, ℕ, ◌+◌, List, [], ◌∷◌, ◌++◌, ◌∙◌, ap, arith}
use Rattle.slee_effect.specs.declared.effect.Effect.{Effect}
use Rattle.script_meaning.specs.Overlay.{count_of, overlay_from, overlay}

laid_last : {A : Type 0} (makes : Effect → ℕ) (does : ℕ → Effect → A → A) (n : ℕ) (es : List Effect) (x : Effect) (y : A) → overlay_from makes does n (es ++ x ∷ []) y ≡ does (n + count_of makes es) x (overlay_from makes does n es y)
laid_last makes does n [] x y = ap (λ k. does k x y) (omega arith)
laid_last makes does n (e ∷ es) x y =
    laid_last makes does (n + makes e) es x (does n e y) ∙ ap (λ k. does k x (overlay_from makes does (n + makes e) es (does n e y))) (omega arith)

-- behind effects with one more, that one is done last
pub laid : {A : Type 0} (makes : Effect → ℕ) (does : ℕ → Effect → A → A) (es : List Effect) (x : Effect) (y : A) → overlay makes does (es ++ x ∷ []) y ≡ does (count_of makes es) x (overlay makes does es y)
laid makes does es x y = laid_last makes does 0 es x y ∙ ap (λ k. does k x (overlay makes does es y)) (omega arith)

-- and what it makes is counted last
pub count_last : (makes : Effect → ℕ) (es : List Effect) (x : Effect) → count_of makes (es ++ x ∷ []) ≡ count_of makes es + makes x
count_last makes [] x = omega arith
count_last makes (e ∷ es) x = let more = count_last makes es x in omega (arith, more)
