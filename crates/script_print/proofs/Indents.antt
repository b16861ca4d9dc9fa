-- Two blanks more for a brace.
use Rattle.std.proofs.Common.{◌≡◌, ◌<◌, ◌+◌, ◌-◌, ℕ, suc, List, [], ◌∷◌, ◌++◌, sym, ap, ◌∙◌, arith, append_assoc}
use Rattle.script_tree.specs.Tree.{Bytes}
use Rattle.script_print.specs.Layout.{indent}

pub indented_more : (text new whole : Bytes) (d i : ℕ) → i < d → new ≡ text ++ 32 ∷ 32 ∷ [] → text ++ indent (d - i) ≡ whole → new ++ indent (d - (i + 1)) ≡ whole
indented_more text new whole d i lt is h =
    let step : d - i ≡ suc (d - (i + 1)) = omega (arith, lt) in
    ap (λ l. l ++ indent (d - (i + 1))) is ∙ append_assoc text (32 ∷ 32 ∷ []) (indent (d - (i + 1))) ∙ ap (λ n. text ++ indent n) (sym step) ∙ h
