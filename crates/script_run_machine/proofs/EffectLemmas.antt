-- The bytes of effects, one behind others.
use Rattle.std.proofs.Common.{◌≡◌, ℕ, ◌+◌, List, [], ◌∷◌, ◌++◌, length, ◌∙◌, arith, length-append}
use Rattle.std.specs.List.{flat_map}
use Rattle.slee_effect.specs.declared.effect.Effect.{Effect}
use Rattle.slee_effect.specs.Bytes.{spelled_effect}
use Rattle.script_meaning.specs.Running.{bytes_of}

pub bytes_behind : (es : List Effect) (e : Effect) → bytes_of (es ++ e ∷ []) ≡ bytes_of es + length (spelled_effect e)
bytes_behind [] e = let h : length (spelled_effect e ++ []) ≡ length (spelled_effect e) + 0 = length-append (spelled_effect e) [] in omega (arith, h)
bytes_behind (x ∷ es) e =
    let one : bytes_of (x ∷ (es ++ e ∷ [])) ≡ length (spelled_effect x) + bytes_of (es ++ e ∷ []) = length-append (spelled_effect x) (flat_map spelled_effect (es ++ e ∷ [])) in
    let two : bytes_of (x ∷ es) ≡ length (spelled_effect x) + bytes_of es = length-append (spelled_effect x) (flat_map spelled_effect es) in
    let both : length (spelled_effect x) + bytes_of (es ++ e ∷ []) ≡ bytes_of (x ∷ es) + length (spelled_effect e) = omega (arith, two, bytes_behind es e) in
    one ∙ both

pub length_both : (x y : List ℕ) → length (x ++ y) ≡ length x + length y
length_both x y = length-append x y
